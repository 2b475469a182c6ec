-- The plane keeps the laws of a domain.
use Rattle.std.specs.Prelude.{◌≡◌, ℕ, suc, ◌+◌, ◌-◌, ◌*◌, ◌/◌, ◌%◌, ◌^◌, ◌<◌, ◌≤◌, min, max, Bool, true, false, ◌&&◌, Some, MatchOption, ◌≢◌, refl}
use Rattle.std.proofs.Common.{suc-mul, mul-suc, arith, inl, inr, sym, ap₂, subst, ◌∙◌}
use Rattle.std.proofs.lemmas.Nat.{mul-le}
use Rattle.std.proofs.lemmas.Bool.{cases_lt}
use Rattle.std.proofs.lemmas.Bool.Decides.{nat_tests}
use Rattle.scan.specs.Count.{bit, count_below}
use Rattle.scan.specs.Depth.{covers}
use Rattle.scan.specs.Powers.{log_up}
use Rattle.scan.specs.declared.stretch.Stretch.{Stretch}
use Rattle.scan.proofs.Counting.{from_to, count_from_to, sum_ext, count_grid}
use Rattle.scan.proofs.Logs.{log_up_least, log_up_mono}
use Rattle.domain.specs.Laws.{Laws}
use Rattle.domain.specs.Maps.{points}
use Rattle.plane.specs.declared.plane_box.PlaneBox.{PlaneBox}
use Rattle.plane.specs.Boxes.{HasNumbers, columns, rows, wide, tall, holds, within, number, box_numbered, hull, plane}
use Rattle.plane.specs.Gathers.{gather_within, gather_holds, gather_few, gather_order}
use Rattle.plane.specs.Halves.{halved, halves_within, height_halves}
use Rattle.plane.specs.Strips.{stripped, strips_within, strips_few}
use Rattle.plane.specs.Within.{within_is, within_from, covers_is, covers_from, holds_is, holds_from}
use Rattle.plane.specs.Made.{box_some, box_is, box_by, same_box}

-- the indices that a stretch holds
pub count_covers : (s : Stretch) (n : ℕ) → s.high < n → count_below (covers s) n ≡ suc s.high - s.low
count_covers s n h =
    sum_ext (λ i. bit (covers s i)) (λ i. bit (from_to s.low (suc s.high) i)) n (λ i _. same i)
    ∙ count_from_to s.low (suc s.high) n
    ∙ omega arith
  where
    same : (i : ℕ) → bit (covers s i) ≡ bit (from_to s.low (suc s.high) i)
    same i = grind (arith, nat_tests)

pub in_row : (b : PlaneBox) (y x : ℕ) → x < 4096 → holds b (y * 4096 + x) ≡ (covers (rows b) y && covers (columns b) x)
in_row b y x h =
    let e : (y * 4096 + x) % 4096 ≡ x = omega arith in
    let f : (y * 4096 + x) / 4096 ≡ y = omega arith in
    ap₂ (λ (i j : ℕ). covers (columns b) i && covers (rows b) j) e f ∙ swap (covers (columns b) x) (covers (rows b) y)
  where
    swap : (s t : Bool) → (s && t) ≡ (t && s)
    swap true true = refl
    swap true false = refl
    swap false true = refl
    swap false false = refl

pub counted : (b : PlaneBox) → wide b * tall b ≡ count_below (holds b) points
counted b =
    sym (count_grid (holds b) (covers (rows b)) (covers (columns b)) 4096 (in_row b) (2 ^ 20)
    ∙ ap₂ (λ (h w : ℕ). h * w) (count_covers (rows b) (2 ^ 20) (omega (arith, b.rows.most))) (count_covers (columns b) 4096 (omega (arith, b.columns.most))) ∙ omega arith)

some : (b : PlaneBox) → 0 < wide b * tall b
some b = omega (arith, mul-le 1 1 (wide b) (tall b) (omega (arith, b.columns.ordered)) (omega (arith, b.rows.ordered)))

reflexive : (b : PlaneBox) → within b b ≡ true
reflexive b = within_from b b (omega arith, omega arith, omega arith, omega arith)

transitive : (p q r : PlaneBox) → within p q ≡ true → within q r ≡ true → within p r ≡ true
transitive p q r v w =
    let a = within_is p q v in
    let b = within_is q r w in
    within_from p r (omega arith, omega arith, omega arith, omega arith)

held : (q p : PlaneBox) → within q p ≡ true → (n : ℕ) → holds q n ≡ true → holds p n ≡ true
held q p w n h =
    let a = within_is q p w in
    let b = holds_is q n h in
    let c = covers_is (columns q) (n % 4096) b.0 in
    let d = covers_is (rows q) (n / 4096) b.1 in
    holds_from p n (covers_from (columns p) (n % 4096) (omega (arith, c)) (omega (arith, c))) (covers_from (rows p) (n / 4096) (omega (arith, d)) (omega (arith, d)))

-- two sides no longer than two others, with the same product, are as long
same_sides : (a b c d : ℕ) → 0 < a → 0 < b → a ≤ c → b ≤ d → a * b ≡ c * d → (a ≡ c) × (b ≡ d)
same_sides a b c d p q h k e = (
  elim (cases_lt a c) [ inl l ↦ absurd (omega (arith, e, mul-le (suc a) b c d l k, suc-mul a b)) | inr l ↦ omega arith ],
  elim (cases_lt b d) [ inl l ↦ absurd (omega (arith, e, mul-le a (suc b) c d h l, mul-suc a b)) | inr l ↦ omega arith ],
)

whole : (q p : PlaneBox) → within q p ≡ true → wide q * tall q ≡ wide p * tall p → q ≡ p
whole q p w e =
    let a = within_is q p w in
    let s = same_sides (wide q) (tall q) (wide p) (tall p) (omega (arith, q.columns.ordered)) (omega (arith, q.rows.ordered)) (omega (arith, a)) (omega (arith, a)) e in
    same_box q p (omega (arith, a, s, q.columns.ordered, p.columns.ordered), omega (arith, a, s, q.rows.ordered, p.rows.ordered), omega (arith, a, s, q.columns.ordered, p.columns.ordered), omega (arith, a, s, q.rows.ordered, p.rows.ordered))

numbered : (b : PlaneBox) → box_numbered (number b) ≡ Some b
numbered b = box_by b (number b / 2 ^ 36) (number b / 2 ^ 24 % 2 ^ 12) (number b / 2 ^ 12 % 2 ^ 12) (number b % 2 ^ 12) (sym fields.0, sym fields.1, sym fields.2, sym fields.3)
  where
    fields : (number b / 2 ^ 36 ≡ b.columns.low) × (number b / 2 ^ 24 % 2 ^ 12 ≡ b.rows.low) × (number b / 2 ^ 12 % 2 ^ 12 ≡ b.columns.high) × (number b % 2 ^ 12 ≡ b.rows.high)
    fields =
        let x = b.columns.ordered in
        let y = b.rows.ordered in
        let r = b.columns.most in
        let t = b.rows.most in
        let y0 : number b / 2 ^ 24 ≡ b.columns.low * 2 ^ 12 + b.rows.low = omega arith in
        let x1 : number b / 2 ^ 12 ≡ b.columns.low * 2 ^ 24 + b.rows.low * 2 ^ 12 + b.columns.high = omega arith in
        (omega arith, omega arith, omega arith, omega arith)

named : (n : ℕ) (b : PlaneBox) → box_numbered n ≡ Some b → number b ≡ n
named n b e =
    let h = box_is (n / 2 ^ 36) (n / 2 ^ 24 % 2 ^ 12) (n / 2 ^ 12 % 2 ^ 12) (n % 2 ^ 12) b e in
    let high : n / 2 ^ 36 * 2 ^ 12 + n / 2 ^ 24 % 2 ^ 12 ≡ n / 2 ^ 24 = omega arith in
    let middle : n / 2 ^ 24 * 2 ^ 12 + n / 2 ^ 12 % 2 ^ 12 ≡ n / 2 ^ 12 = omega arith in
    let low : n / 2 ^ 12 * 2 ^ 12 + n % 2 ^ 12 ≡ n = omega arith in
    omega (arith, h, high, middle, low)

single : (b : PlaneBox) → wide b * tall b ≡ 1 → max (wide b) (tall b) ≡ 1
single b e =
    let x = b.columns.ordered in
    let y = b.rows.ordered in
    let s = same_sides 1 1 (wide b) (tall b) (omega arith) (omega arith) (omega arith) (omega arith) (sym e) in
    omega (arith, s)

larger : (b : PlaneBox) → 1 < wide b * tall b → 1 < max (wide b) (tall b)
larger b h =
    elim (cases_lt 1 (max (wide b) (tall b))) [
      | inl l ↦ l
      | inr l ↦ absurd (omega (arith, mul-le (wide b) (tall b) 1 1 (omega arith) (omega arith)))
    ]

-- more than one point, told by the size
pub several : (b : PlaneBox) → (max (wide b) (tall b) ≢ 1) → 1 < wide b * tall b
several b n =
    elim (cases_lt 1 (wide b * tall b)) [ inl h ↦ h | inr h ↦ absurd (n (single b (omega (arith, some b)))) ]

-- the hull is a box in x, holds both, and lies in every box that does
pub hull_made : (p q : PlaneBox) → (b : PlaneBox) × (hull p q ≡ Some b) × HasNumbers (min p.columns.low q.columns.low) (min p.rows.low q.rows.low) (max p.columns.high q.columns.high) (max p.rows.high q.rows.high) b
hull_made p q =
    let a = p.columns.ordered in
    let b = p.rows.ordered in
    let c = p.columns.most in
    let d = p.rows.most in
    let e = q.columns.most in
    let f = q.rows.most in
    box_some (min p.columns.low q.columns.low) (min p.rows.low q.rows.low) (max p.columns.high q.columns.high) (max p.rows.high q.rows.high) (omega arith, omega arith, omega arith, omega arith)

span_within : (x p q : PlaneBox) → within p x ≡ true → within q x ≡ true → MatchOption (hull p q) ⊥ (λ s. (within s x ≡ true) × (within p s ≡ true) × (within q s ≡ true))
span_within x p q v w =
    let a = within_is p x v in
    let b = within_is q x w in
    let m = hull_made p q in
    let h = m.2 in
    subst (λ o. MatchOption o ⊥ (λ s. (within s x ≡ true) × (within p s ≡ true) × (within q s ≡ true))) (sym m.1) (
      within_from m.0 x (omega (arith, h, a, b), omega (arith, h, a, b), omega (arith, h, a, b), omega (arith, h, a, b)),
      within_from p m.0 (omega (arith, h), omega (arith, h), omega (arith, h), omega (arith, h)),
      within_from q m.0 (omega (arith, h), omega (arith, h), omega (arith, h), omega (arith, h)),
    )

pub height_most : (b : PlaneBox) → log_up (wide b) + log_up (tall b) ≤ 24
height_most b =
    let r = b.columns.most in
    let t = b.rows.most in
    omega (arith, log_up_least (wide b) 12 (omega arith) (omega arith), log_up_least (tall b) 12 (omega arith) (omega arith))

height_within : (q p : PlaneBox) → within q p ≡ true → log_up (wide q) + log_up (tall q) ≤ log_up (wide p) + log_up (tall p)
height_within q p w =
    let a = within_is q p w in
    let r = p.columns.most in
    let t = p.rows.most in
    omega (arith, log_up_mono (wide q) (wide p) (omega arith) (omega arith), log_up_mono (tall q) (tall p) (omega arith) (omega arith))

pub lawful : Laws plane
lawful = record {
  counted = counted;
  some = some;
  reflexive = reflexive;
  transitive = transitive;
  held = held;
  whole = whole;
  numbered = numbered;
  named = named;
  single = single;
  larger = larger;
  halved = λ p h. halved p (larger p h);
  halves_within = λ p h. halves_within p (larger p h);
  stripped = λ p q w. stripped p q (within_is q p w);
  strips_within = λ p q w. strips_within p q (within_is q p w);
  strips_few = λ p q w. strips_few p q (within_is q p w);
  span_within = span_within;
  span_left = λ _ _ _. refl;
  span_right = λ _ _ _. refl;
  span_none = λ _. refl;
  gather_within = λ x ps k _ _. gather_within x ps k;
  gather_holds = gather_holds held;
  gather_few = λ x ps k _ h. gather_few x ps k h;
  gather_order = λ x ps qs k _ _ s. gather_order x ps qs k s;
  height_most = height_most;
  height_within = height_within;
  height_halves = λ p h. height_halves p (larger p h);
}
