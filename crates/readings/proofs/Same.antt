-- Grains, rings and cones with the same numbers are the same.
use Rattle.std.proofs.Common.{◌≡◌, ℕ, ◌≤◌, ℤ, pos, negsuc, ◌-ℤ◌, ◌*ℤ◌, ◌≤ℤ◌, ◌<ℤ◌, subst}
use native.Mathlib.Bridge.{le_prop}
use lib.Dec.{T_prop}
use lib.Signed.{le_z, lt_z}
use Rattle.leaves.specs.declared.cone.Cone.{Cone}
use Rattle.leaves.specs.Rings.{AreWithin}
use Rattle.leaves.specs.declared.ring.Ring.{Ring}
use Rattle.leaves.specs.declared.vector.Vector.{Vector}
use Rattle.sheet.specs.declared.grain.Grain.{Grain}
use Rattle.readings.specs.Sorts.{ring_numbers, cone_numbers}

-- an order of signed numbers holds in one way
le_one : (a b : ℤ) (x y : a ≤ℤ b) → x ≡ y
le_one a b x y = λ i. record { le = T_prop (le_z a b) x.le y.le i }

lt_one : (a b : ℤ) (x y : a <ℤ b) → x ≡ y
lt_one a b x y = λ i. record { lt = T_prop (lt_z a b) x.lt y.lt i }

abbrev grain_with : (n : ℕ) → (1 ≤ n) × (n ≤ 64) → Grain
grain_with n v = record { size = n; some = v.0; most = v.1 }

pub same_grain : (a b : Grain) → a.size ≡ b.size → a ≡ b
same_grain a b e =
    subst (λ (n : ℕ). (v : (1 ≤ n) × (n ≤ 64)) → a ≡ grain_with n v) e
    (λ v i. grain_with a.size (le_prop a.some v.0 i, le_prop a.most v.1 i)) (b.some, b.most)

abbrev vector_with : (m : ℕ) (n : ℤ × ℤ) → AreWithin m n.0 n.1 → Vector m
vector_with m n v = record { x = n.0; y = n.1; x_least = v.0; x_most = v.1; y_least = v.2; y_most = v.3 }

same_vector : (m : ℕ) (a b : Vector m) → a.x ≡ b.x → a.y ≡ b.y → a ≡ b
same_vector m a b p q =
    subst (λ (n : ℤ × ℤ). (v : AreWithin m n.0 n.1) → a ≡ vector_with m n v) (λ i. (p i, q i))
    (λ v i. vector_with m (a.x, a.y) (
      le_one (negsuc m) a.x a.x_least v.0 i,
      le_one a.x (pos m) a.x_most v.1 i,
      le_one (negsuc m) a.y a.y_least v.2 i,
      le_one a.y (pos m) a.y_most v.3 i,
    ))
    (b.x_least, b.x_most, b.y_least, b.y_most)

abbrev Ringed : Type 0
Ringed = Vector 16383 × ℕ × ℕ

abbrev ring_with : (n : Ringed) → (n.1 ≤ n.2) × (n.2 ≤ 32767) → Ring
ring_with n v = record { beacon = n.0; inner = n.1; outer = n.2; ordered = v.0; most = v.1 }

pub same_ring : (a b : Ring) → ring_numbers a ≡ ring_numbers b → a ≡ b
same_ring a b e =
    let p : a.beacon ≡ b.beacon = same_vector 16383 a.beacon b.beacon (let z : a.beacon.x ≡ b.beacon.x = cc in z) (let z : a.beacon.y ≡ b.beacon.y = cc in z) in
    let s : a.inner ≡ b.inner = cc in
    let t : a.outer ≡ b.outer = cc in
    subst (λ (n : Ringed). (v : (n.1 ≤ n.2) × (n.2 ≤ 32767)) → a ≡ ring_with n v) (λ i. (p i, s i, t i))
    (λ v i. ring_with (a.beacon, a.inner, a.outer) (le_prop a.ordered v.0 i, le_prop a.most v.1 i))
    (b.ordered, b.most)

abbrev Coned : Type 0
Coned = Vector 16383 × Vector 2047 × Vector 2047

abbrev cone_with : (n : Coned) → pos 0 <ℤ (n.1.x *ℤ n.2.y -ℤ n.1.y *ℤ n.2.x) → Cone
cone_with n v = record { beacon = n.0; u = n.1; v = n.2; opens = v }

pub same_cone : (a b : Cone) → cone_numbers a ≡ cone_numbers b → a ≡ b
same_cone a b e =
    let p : a.beacon ≡ b.beacon = same_vector 16383 a.beacon b.beacon (let z : a.beacon.x ≡ b.beacon.x = cc in z) (let z : a.beacon.y ≡ b.beacon.y = cc in z) in
    let s : a.u ≡ b.u = same_vector 2047 a.u b.u (let z : a.u.x ≡ b.u.x = cc in z) (let z : a.u.y ≡ b.u.y = cc in z) in
    let t : a.v ≡ b.v = same_vector 2047 a.v b.v (let z : a.v.x ≡ b.v.x = cc in z) (let z : a.v.y ≡ b.v.y = cc in z) in
    subst (λ (n : Coned). (v : pos 0 <ℤ (n.1.x *ℤ n.2.y -ℤ n.1.y *ℤ n.2.x)) → a ≡ cone_with n v) (λ i. (p i, s i, t i))
    (λ v i. cone_with (a.beacon, a.u, a.v) (lt_one (pos 0) (a.u.x *ℤ a.v.y -ℤ a.u.y *ℤ a.v.x) a.opens v i))
    b.opens
