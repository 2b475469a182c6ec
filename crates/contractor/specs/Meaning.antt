-- What a contractor means: a set of points, and two maps from a piece to a sub-piece or nothing.
use Rattle.std.specs.Prelude.{◌≡◌, ℕ, Bool, true, false, None, Option}
use Rattle.domain.specs.Maps.{Maps, Fits, Holds}

pub record Meaning (P : Type 0) : Type 0 where
  -- whether the point of a number is of the set
  pub set : ℕ → Bool
  -- what is left of a piece once points that are not of the set are given up
  pub keep : P → Option P
  -- what is left of a piece once points of the set are given up
  pub shed : P → Option P

-- the three together
abbrev pub meaning : {P : Type 0} → (ℕ → Bool) → (P → Option P) → (P → Option P) → Meaning P
meaning s k d = record { set = s; keep = k; shed = d }

-- What every contractor must show of its set and its maps.
pub record Sound {P : Type 0} (d : Maps P) (m : Meaning P) : Type 0 where
  -- both maps give nothing or a sub-piece
  pub keep_fits : (x : P) → Fits d x (m.keep x)
  pub shed_fits : (x : P) → Fits d x (m.shed x)
  -- no point of the set is lost by the one, and no other point by the other
  pub keeps : (x : P) (n : ℕ) → d.holds x n ≡ true → m.set n ≡ true → Holds d (m.keep x) n
  pub sheds : (x : P) (n : ℕ) → d.holds x n ≡ true → m.set n ≡ false → Holds d (m.shed x) n
  -- one point is judged outright
  pub keep_one : (x : P) (n : ℕ) → d.count x ≡ 1 → d.holds x n ≡ true → m.set n ≡ false → m.keep x ≡ None
  pub shed_one : (x : P) (n : ℕ) → d.count x ≡ 1 → d.holds x n ≡ true → m.set n ≡ true → m.shed x ≡ None
