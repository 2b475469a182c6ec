-- Lines of a file, and what a line of some sort comes to: what it means, or the number that it is refused with.
use Rattle.std.specs.Prelude.{◌≡◌, ℕ, Bool, true, false, ◌⊎◌, List, [], ◌∷◌, ◌++◌, ℤ, Ok, Err, Result, ◌≢◌}
use Rattle.domain.specs.Refusals.{code}
use Rattle.domain.specs.declared.refusal.Refusal.{Refusal}
use Rattle.numerals.specs.Lists.{Without, Lists}

-- an answer whose refusal is told by its number
abbrev pub numbered : {X : Type 0} → Result X Refusal → Result X ℕ
numbered (Ok x) = Ok x
numbered (Err e) = Err (code e)

-- what is left of a file: its first line, whether a byte 10 ends that, and what comes after
abbrev pub Joined : List ℕ → List ℕ → Bool → List ℕ → Type 0
Joined rest text true after = rest ≡ text ++ 10 ∷ after
Joined rest text false after = (rest ≡ text) × (after ≡ [])

pub record Begins (rest text : List ℕ) (ended : Bool) (after : List ℕ) : Type 0 where
  pub line : Without 10 text
  pub joined : Joined rest text ended after

-- r is the one x of which W holds; where there is none, a refusal of which E holds
abbrev pub The : {X : Type 0} → (X → Type 0) → (ℕ → Type 0) → Result X ℕ → Type 0
The {X} W E r = ((x : X) × W x × (r ≡ Ok x)) ⊎ (((x : X) → W x → ⊥) × ((e : ℕ) × E e × (r ≡ Err e)))

-- a value of so many numbers, and what these come to; any other value is malformed
abbrev pub Numbers : {X : Type 0} → ℕ → (List ℤ → Result X ℕ → Type 0) → List ℕ → Result X ℕ → Type 0
Numbers n V value r = ((zs : List ℤ) × Lists n value zs × V zs r) ⊎ (((zs : List ℤ) → Lists n value zs → ⊥) × (r ≡ Err 16))

-- the value of a line that is ended; a line that is not may have been cut short
abbrev pub Whole : {X : Type 0} → (List ℕ → Result X ℕ → Type 0) → List ℕ → Bool → Result X ℕ → Type 0
Whole V value true r = V value r
Whole V value false r = r ≡ Err 16

-- a line that begins with this key, and what its value comes to; any other line has not the key that is due
abbrev pub Keyed : {X : Type 0} → List ℕ → (List ℕ → Result X ℕ → Type 0) → List ℕ → Bool → Result X ℕ → Type 0
Keyed key V text ended r =
    (((value : List ℕ) → text ≢ key ++ value) × (r ≡ Err 15))
    ⊎ ((value : List ℕ) × (text ≡ key ++ value) × Whole V value ended r)

-- a line of the first sort, or, if its key is not that, of the second
abbrev pub Else : {X : Type 0} → (List ℕ → Bool → Result X ℕ → Type 0) → (List ℕ → Bool → Result X ℕ → Type 0) → List ℕ → Bool → Result X ℕ → Type 0
Else J K text ended r = (J text ended r × (r ≢ Err 15)) ⊎ (J text ended (Err 15) × K text ended r)

-- The first line is of this sort, and then K says what the rest of the file comes to. A line that is refused is a
-- fault with its number, on line k.
pub record Then {X Y : Type 0} (J : List ℕ → Bool → Result X ℕ → Type 0) (k : ℕ) (K : X → List ℕ → Result Y (ℕ × ℕ) → Type 0) (rest : List ℕ) (r : Result Y (ℕ × ℕ)) : Type 0 where
  pub text : List ℕ
  pub ended : Bool
  pub after : List ℕ
  pub begins : Begins rest text ended after
  pub comes : ((e : ℕ) × J text ended (Err e) × (r ≡ Err (e, k))) ⊎ ((x : X) × J text ended (Ok x) × K x after r)
