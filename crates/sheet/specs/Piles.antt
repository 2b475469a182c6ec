-- The pieces on a pile.
use Rattle.std.specs.Prelude.{◌≡◌, List, [], ◌∷◌, ◌++◌, reverse, take, Option, MatchOption}
use Rattle.sheet.specs.declared.pile.Pile.{Pile}

-- the next one first
unfoldable pub waiting : {P : Type 0} → Pile P → List P
waiting p = reverse (take p.len p.items)

-- the next of some pieces, if there are any
abbrev pub Top : {P : Type 0} → List P → Option P → Type 0
Top {P} ps o = MatchOption o (ps ≡ []) (λ x. (xs : List P) × (ps ≡ x ∷ xs))

-- the second are the first without the next one
abbrev pub Popped : {P : Type 0} → List P → List P → Type 0
Popped {P} ps qs = (x : P) × (ps ≡ x ∷ qs)

-- the first without the next one, and these in front
abbrev pub Exchanged : {P : Type 0} → List P → List P → List P → Type 0
Exchanged {P} ps back qs = (x : P) × (rest : List P) × (ps ≡ x ∷ rest) × (qs ≡ back ++ rest)
