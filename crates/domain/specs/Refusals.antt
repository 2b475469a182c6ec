-- The number of each refusal, and what it is for a call to give a value or to refuse.
use Rattle.std.specs.Prelude.{◌≡◌, ℕ, Result, MatchResult}
use Rattle.domain.specs.declared.refusal.Refusal.{Refusal}
use Rattle.domain.specs.declared.refusal.Refusal.TheVariants.{NotAPiece, BadGrain, OutOfRange, BadRadii, BadCone, DraftFull, MemoryFull, TooManyLiars, NoSuchMember, PanelTooLarge, NothingWaiting, RollFull, RollEmpty, NotAPoint, KeyNotDue, Malformed, CountDiffers, FileTooLarge}

abbrev pub code : Refusal → ℕ
code NotAPiece = 1
code BadGrain = 2
code OutOfRange = 3
code BadRadii = 4
code BadCone = 5
code DraftFull = 6
code MemoryFull = 7
code TooManyLiars = 8
code NoSuchMember = 9
code PanelTooLarge = 10
code NothingWaiting = 11
code RollFull = 12
code RollEmpty = 13
code NotAPoint = 14
code KeyNotDue = 15
code Malformed = 16
code CountDiffers = 17
code FileTooLarge = 18

-- a value where P holds, one of which V says what it is; refused by the number n where P does not hold
abbrev pub Given : {X : Type 0} → Result X Refusal → ℕ → Type 0 → (X → Type 0) → Type 0
Given r n P V = MatchResult r (λ x. P × V x) (λ e. (P → ⊥) × (code e ≡ n))
