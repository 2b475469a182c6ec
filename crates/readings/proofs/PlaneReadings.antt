-- What numbers come to as a reading of the plane.
use Rattle.std.proofs.Common.{◌≡◌, ◌⊎◌, [], ◌∷◌, ℤ, pos, Ok, Err, sym, refl, subst, inl, inr, arith}
use Rattle.std.proofs.lemmas.Int.{ints}
use Rattle.domain.specs.Refusals.{code}
use Rattle.domain.specs.declared.refusal.Refusal.{Refusal}
use Rattle.leaves.specs.Cones.{InRange, IsOpen, ConeMade}
use Rattle.leaves.specs.Rings.{IsBeacon, AreRadii, RingMade}
use Rattle.leaves.specs.declared.cone.Cone.{Cone}
use Rattle.leaves.specs.declared.plane_reading.PlaneReading.{PlaneReading}
use Rattle.leaves.specs.declared.plane_reading.PlaneReading.TheVariants.{Ring as OfRing, Cone as OfCone}
use Rattle.leaves.specs.declared.ring.Ring.{Ring}
use Rattle.readings.specs.Sorts.{cone_numbers, IsRing, IsCone, RingValue, ConeValue, Beacon, Directed}

-- a ring's numbers are in their ranges
ring_beacon : (r : Ring) (bx by : ℤ) → bx ≡ r.beacon.x → by ≡ r.beacon.y → IsBeacon bx by
ring_beacon r bx by e f = subst (λ (x : ℤ). IsBeacon x by) (sym e) (subst (λ (y : ℤ). IsBeacon r.beacon.x y) (sym f) (r.beacon.x_least, r.beacon.x_most, r.beacon.y_least, r.beacon.y_most))

ring_radii : (r : Ring) (a b : ℤ) → a ≡ pos r.inner → b ≡ pos r.outer → AreRadii a b
ring_radii r a b e f =
    subst (λ (x : ℤ). AreRadii x b) (sym e)
    (subst (λ (y : ℤ). AreRadii (pos r.inner) y) (sym f) (omega (arith, ints), omega (arith, ints, r.ordered), omega (arith, ints, r.most)))

module _ (bx by a b : ℤ) where
  no_beacon : (IsBeacon bx by → ⊥) → Beacon (bx ∷ by ∷ a ∷ b ∷ []) → ⊥
  no_beacon n h =
      let e : bx ≡ h.0 = let q = h.3 in cc in
      let f : by ≡ h.1 = let q = h.3 in cc in
      n (subst (λ (x : ℤ). IsBeacon x by) (sym e) (subst (λ (y : ℤ). IsBeacon h.0 y) (sym f) h.4))

  pub ring_ok : (r : Ring) → RingMade bx by a b (Ok r) → RingValue (bx ∷ by ∷ a ∷ b ∷ []) (Ok (OfRing r))
  ring_ok r h = inl (OfRing r, (let p = h.2.0 in let q = h.2.1 in let s = h.2.2 in let t = h.2.3 in cc), refl)

  pub ring_err : (e : Refusal) → RingMade bx by a b (Err e) → RingValue (bx ∷ by ∷ a ∷ b ∷ []) (Err (code e))
  ring_err e h = inr (none h, (code e, told h, refl))
    where
      none : RingMade bx by a b (Err e) → (p : PlaneReading) → IsRing (bx ∷ by ∷ a ∷ b ∷ []) p → ⊥
      none (inl k) (OfRing r) q = let u : bx ≡ r.beacon.x = cc in let v : by ≡ r.beacon.y = cc in k.0 (ring_beacon r bx by u v)
      none (inr k) (OfRing r) q = let u : a ≡ pos r.inner = cc in let v : b ≡ pos r.outer = cc in k.1 (ring_radii r a b u v)
      none (inl k) (OfCone c) q = q
      none (inr k) (OfCone c) q = q

      told : RingMade bx by a b (Err e) → ((Beacon (bx ∷ by ∷ a ∷ b ∷ []) → ⊥) × (code e ≡ 3)) ⊎ (Beacon (bx ∷ by ∷ a ∷ b ∷ []) × (code e ≡ 4))
      told (inl k) = inl (no_beacon k.0, k.1)
      told (inr k) = inr ((bx, by, a ∷ b ∷ [], refl, k.0), k.2)

-- a cone's numbers are in their ranges, and open
cone_range : (c : Cone) (bx by ux uy vx vy : ℤ) → bx ∷ by ∷ ux ∷ uy ∷ vx ∷ vy ∷ [] ≡ cone_numbers c → InRange bx by ux uy vx vy × IsOpen ux uy vx vy
cone_range c bx by ux uy vx vy e =
    let p : bx ≡ c.beacon.x = cc in
    let q : by ≡ c.beacon.y = cc in
    let s : ux ≡ c.u.x = cc in
    let t : uy ≡ c.u.y = cc in
    let u : vx ≡ c.v.x = cc in
    let v : vy ≡ c.v.y = cc in
    rw (p, q, s, t, u, v) (
      record {
        beacon = (c.beacon.x_least, c.beacon.x_most, c.beacon.y_least, c.beacon.y_most);
        directions = ((c.u.x_least, c.u.x_most, c.u.y_least, c.u.y_most), (c.v.x_least, c.v.x_most, c.v.y_least, c.v.y_most));
      },
      c.opens,
    )

module _ (bx by ux uy vx vy : ℤ) where
  no_directed : (InRange bx by ux uy vx vy → ⊥) → Directed (bx ∷ by ∷ ux ∷ uy ∷ vx ∷ vy ∷ []) → ⊥
  no_directed n h =
      let w = h.6 in
      let p : bx ≡ h.0 = cc in
      let q : by ≡ h.1 = cc in
      let s : ux ≡ h.2 = cc in
      let t : uy ≡ h.3 = cc in
      let u : vx ≡ h.4 = cc in
      let v : vy ≡ h.5 = cc in
      n (rw (p, q, s, t, u, v) h.7)

  pub cone_ok : (c : Cone) → ConeMade bx by ux uy vx vy (Ok c) → ConeValue (bx ∷ by ∷ ux ∷ uy ∷ vx ∷ vy ∷ []) (Ok (OfCone c))
  cone_ok c h = let k = h.2 in inl (OfCone c, (let e : bx ∷ by ∷ ux ∷ uy ∷ vx ∷ vy ∷ [] ≡ cone_numbers c = cc in e), refl)

  pub cone_err : (e : Refusal) → ConeMade bx by ux uy vx vy (Err e) → ConeValue (bx ∷ by ∷ ux ∷ uy ∷ vx ∷ vy ∷ []) (Err (code e))
  cone_err e h = inr (none h, (code e, told h, refl))
    where
      none : ConeMade bx by ux uy vx vy (Err e) → (p : PlaneReading) → IsCone (bx ∷ by ∷ ux ∷ uy ∷ vx ∷ vy ∷ []) p → ⊥
      none (inl k) (OfCone c) q = k.0 (cone_range c bx by ux uy vx vy q).0
      none (inr k) (OfCone c) q = k.1 (cone_range c bx by ux uy vx vy q).1
      none (inl k) (OfRing r) q = q
      none (inr k) (OfRing r) q = q

      told : ConeMade bx by ux uy vx vy (Err e) → ((Directed (bx ∷ by ∷ ux ∷ uy ∷ vx ∷ vy ∷ []) → ⊥) × (code e ≡ 3)) ⊎ (Directed (bx ∷ by ∷ ux ∷ uy ∷ vx ∷ vy ∷ []) × (code e ≡ 5))
      told (inl k) = inl (no_directed k.0, k.1)
      told (inr k) = inr ((bx, by, ux, uy, vx, vy, refl, k.0), k.2)
