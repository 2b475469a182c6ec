-- Numbers between commas.
use Rattle.std.proofs.Common.{◌≡◌, ℕ, zero, suc, ◌+◌, ◌-◌, ◌^◌, ◌<◌, List, [], ◌∷◌, ◌++◌, length, take, set, length-set, append_assoc, ℤ, pos, negsuc, decimal, sym, refl, ap, ◌∙◌, subst, arith, w32, SFits}
use Rattle.std.specs.Fmt.{signed_decimal}
use Rattle.std.proofs.lemmas.Fmt.{signed_decimal_injective}
use Rattle.std.proofs.lemmas.List.{take_all, take_more_set}
use Rattle.std.proofs.lemmas.List.Elements.{All-from_get_or, All-nil, All-cons, All-head, All-tail}
use Rattle.numerals.specs.Lists.{Without, Cut, listed, Lists}
use Rattle.numerals.proofs.Cuts.{one_cut}
use Rattle.numerals.proofs.Digits.{digit_in}
use Rattle.numerals.proofs.Signs.{small_mag}

decimal_without : (n b : ℕ) → n < 10 ^ 10 → b < 48 → Without b (decimal n)
decimal_without n b h l = All-from_get_or (λ x. x ≡ b → ⊥) (decimal n) 0 (λ i g e. omega (arith, digit_in n i (omega arith) g, e))

-- a number has no byte below its minus, and none between that and its digits
pub signed_without : (z : ℤ) (b : ℕ) → SFits w32 z → b < 45 → Without b (signed_decimal z)
signed_without (pos n) b f l = decimal_without n b (omega (arith, f.sfits)) (omega arith)
signed_without (negsuc n) b f l = All-cons (λ x. x ≡ b → ⊥) 45 (decimal (suc n)) (λ e. omega arith) (decimal_without (suc n) b (omega (arith, f.sfits)) (omega arith))

-- the first of some numbers, and the rest of the text
pub first_of : (z : ℤ) (front back rest text : List ℕ) → SFits w32 z → Cut 44 text front back → text ≡ signed_decimal z ++ 44 ∷ rest → (front ≡ signed_decimal z) × (back ≡ rest)
first_of z front back rest text f c e = one_cut 44 front back (signed_decimal z) rest c.first (signed_without z 44 f (omega arith)) (sym c.parts ∙ e)

pub same_number : (y z : ℤ) → SFits w32 y → SFits w32 z → signed_decimal y ≡ signed_decimal z → y ≡ z
same_number y z f g e = signed_decimal_injective y z (small_mag y f) (small_mag z g) e

-- some number and a comma in front of what follows
abbrev pub Headed : List ℕ → ℤ → List ℕ → Type 0
Headed text z rest = text ≡ signed_decimal z ++ 44 ∷ rest

pub headed : (z : ℤ) (text front back : List ℕ) → Cut 44 text front back → front ≡ signed_decimal z → Headed text z back
headed z text front back c e = c.parts ∙ ap (λ fs. fs ++ 44 ∷ back) e

-- a list of two numbers and more is the first of them, and a list of the others
pub lists_more : (n : ℕ) (text rest : List ℕ) (z : ℤ) (zs : List ℤ) → SFits w32 z → Headed text z rest → Lists (suc n) rest zs → Lists (suc (suc n)) text (z ∷ zs)
lists_more n text rest z [] f h l = absurd (omega (arith, l.count))
lists_more n text rest z (y ∷ ys) f h l = record { count = ap suc l.count; fit = All-cons (SFits w32) z (y ∷ ys) f l.fit; written = h ∙ ap (λ ts. signed_decimal z ++ 44 ∷ ts) l.written }

pub lists_one : (text : List ℕ) (z : ℤ) → SFits w32 z → text ≡ signed_decimal z → Lists 1 text (z ∷ [])
lists_one text z f e = record { count = refl; fit = All-cons (SFits w32) z [] f (All-nil (SFits w32)); written = e }

-- what is left of a list of numbers after the first, whichever that is
pub record Parted (n : ℕ) (text : List ℕ) (zs : List ℤ) : Type 0 where
  pub first : ℤ
  pub others : List ℤ
  pub rest : List ℕ
  pub fits : SFits w32 first
  pub headed : Headed text first rest
  pub lists : Lists n rest others
  pub all : zs ≡ first ∷ others

pub parted : (n : ℕ) (text : List ℕ) (zs : List ℤ) → Lists (suc (suc n)) text zs → Parted (suc n) text zs
parted n text [] l = absurd (omega (arith, l.count))
parted n text (z ∷ []) l = absurd (omega (arith, l.count))
parted n text (z ∷ y ∷ ys) l =
    record {
      first = z;
      others = y ∷ ys;
      rest = listed (y ∷ ys);
      fits = All-head (SFits w32) z (y ∷ ys) l.fit;
      headed = l.written;
      lists = record { count = omega (arith, l.count); fit = All-tail (SFits w32) z (y ∷ ys) l.fit; written = refl };
      all = refl;
    }

-- the number of a list of one
pub alone : (text : List ℕ) (zs : List ℤ) → Lists 1 text zs → (z : ℤ) × SFits w32 z × (text ≡ signed_decimal z) × (zs ≡ z ∷ [])
alone text [] l = absurd (omega (arith, l.count))
alone text (z ∷ []) l = (z, All-head (SFits w32) z [] l.fit, l.written, refl)
alone text (z ∷ y ∷ ys) l = absurd (omega (arith, l.count))

-- two ways to head a text are the same
pub one_head : (text : List ℕ) (y z : ℤ) (rest other : List ℕ) → SFits w32 y → SFits w32 z → Headed text y rest → Headed text z other → (y ≡ z) × (rest ≡ other)
one_head text y z rest other f g h k =
    let r = one_cut 44 (signed_decimal y) rest (signed_decimal z) other (signed_without y 44 f (omega arith)) (signed_without z 44 g (omega arith)) (sym h ∙ k) in
    (same_number y z f g r.0, r.1)

-- a text lists one list of numbers
pub one_list : (n : ℕ) (text : List ℕ) (ys zs : List ℤ) → Lists (suc n) text ys → Lists (suc n) text zs → ys ≡ zs
one_list zero text ys zs l m =
    let a = alone text ys l in
    let b = alone text zs m in
    a.3 ∙ ap (λ z. z ∷ []) (same_number a.0 b.0 a.1 b.1 (sym a.2 ∙ b.2)) ∙ sym b.3
one_list (suc n) text ys zs l m =
    let a = parted n text ys l in
    let b = parted n text zs m in
    let h = one_head text a.first b.first a.rest b.rest a.fits b.fits a.headed b.headed in
    let o = one_list n b.rest a.others b.others (subst (λ ts. Lists (suc n) ts a.others) h.1 a.lists) b.lists in
    a.all ∙ ap (λ z. z ∷ a.others) h.0 ∙ ap (λ rs. b.first ∷ rs) o ∙ sym b.all

-- no list where there is no first number
pub no_head : (n : ℕ) (text : List ℕ) → ((z : ℤ) (rest : List ℕ) → SFits w32 z → Headed text z rest → ⊥) → (zs : List ℤ) → Lists (suc (suc n)) text zs → ⊥
no_head n text none zs l = let a = parted n text zs l in none a.first a.rest a.fits a.headed

-- n numbers are to be read, the first i of them are, and these stand before the rest of the text
pub record Midway (n i : ℕ) (text : List ℕ) (numbers : List ℤ) (rest : List ℕ) : Type 0 where
  pub places : length numbers ≡ n
  -- numbers that the rest lists are the further ones of the text, and what the text lists goes on in the rest
  pub goes : (zs : List ℤ) → Lists (n - i) rest zs → Lists n text (take i numbers ++ zs)
  pub back : (zs : List ℤ) → Lists n text zs → (ys : List ℤ) × Lists (n - i) rest ys

module _ (n i : ℕ) (text : List ℕ) (numbers : List ℤ) (rest : List ℕ) (m : Midway n i text numbers rest) where
  -- one number more, that is not the last
  pub midway_more : (z : ℤ) (after : List ℕ) → i + 1 < n → SFits w32 z → Headed rest z after → Midway n (i + 1) text (set numbers i z) after
  midway_more z after h f e =
      let k : n - i ≡ suc (suc (n - (i + 2))) = omega arith in
      let j : n - (i + 1) ≡ suc (n - (i + 2)) = omega arith in
      record {
        places = simp length-set m.places;
        goes = λ zs l.
            let r = lists_more (n - (i + 2)) rest after z zs f e (subst (λ (c : ℕ). Lists c after zs) j l) in
            subst (Lists n text) (sym (ap (λ xs. xs ++ zs) (take_more_set numbers i z (omega (arith, m.places))) ∙ append_assoc (take i numbers) (z ∷ []) zs))
            (m.goes (z ∷ zs) (subst (λ (c : ℕ). Lists c rest (z ∷ zs)) (sym k) r));
        back = λ zs l.
            let b = m.back zs l in
            let p = parted (n - (i + 2)) rest b.0 (subst (λ (c : ℕ). Lists c rest b.0) k b.1) in
            let s = one_head rest z p.first after p.rest f p.fits e p.headed in
            (p.others, subst (λ (c : ℕ). Lists c after p.others) (sym j) (subst (λ ts. Lists (suc (n - (i + 2))) ts p.others) (sym s.1) p.lists));
      }

  pub midway_none : i + 1 < n → ((z : ℤ) (after : List ℕ) → SFits w32 z → Headed rest z after → ⊥) → (zs : List ℤ) → Lists n text zs → ⊥
  midway_none h none zs l =
      let b = m.back zs l in
      let k : n - i ≡ suc (suc (n - (i + 2))) = omega arith in
      no_head (n - (i + 2)) rest none b.0 (subst (λ (c : ℕ). Lists c rest b.0) k b.1)

  -- the last number
  pub midway_last : (z : ℤ) → i + 1 ≡ n → SFits w32 z → rest ≡ signed_decimal z → Lists n text (set numbers (n - 1) z)
  midway_last z h f e =
      let j : i ≡ n - 1 = omega arith in
      let k : n - i ≡ 1 = omega arith in
      let t = take_all (i + 1) (set numbers i z) (simp length-set (omega (arith, m.places))) in
      subst (Lists n text) (sym (take_more_set numbers i z (omega (arith, m.places))) ∙ t ∙ ap (λ (k : ℕ). set numbers k z) j)
      (m.goes (z ∷ []) (subst (λ (c : ℕ). Lists c rest (z ∷ [])) (sym k) (lists_one rest z f e)))

  pub midway_ill : i + 1 ≡ n → ((z : ℤ) → SFits w32 z → rest ≡ signed_decimal z → ⊥) → (zs : List ℤ) → Lists n text zs → ⊥
  midway_ill h none zs l =
      let b = m.back zs l in
      let k : n - i ≡ 1 = omega arith in
      let a = alone rest b.0 (subst (λ (c : ℕ). Lists c rest b.0) k b.1) in
      none a.0 a.1 a.2

pub midway_begun : (n : ℕ) (text : List ℕ) (numbers : List ℤ) → length numbers ≡ n → Midway n 0 text numbers text
midway_begun n text numbers e =
    let k : n - 0 ≡ n = omega arith in
    record {
      places = e;
      goes = λ zs l. subst (λ (c : ℕ). Lists c text zs) k l;
      back = λ zs l. (zs, subst (λ (c : ℕ). Lists c text zs) (sym k) l);
    }
