-- A call that does to the store what a turn does to the state.
use Rattle.std.proofs.Common.{◌≡◌, ℕ, ◌<◌, Bool, [], ◌∷◌, ◌++◌, sym, refl, subst}
use Rattle.std.proofs.Math.Logic.{∥∥₁_map, ∥∥₁_elim}
use Rattle.std.specs.Coded.{le_prop}
use Rattle.domain.specs.Laws.{Laws}
use Rattle.domain.specs.declared.domain.Domain
use Rattle.contractor.specs.declared.contractor.Contractor
use Rattle.contractor.specs.Means.{means}
use Rattle.contractor.specs.Meaning.{Sound}
use Rattle.paving.specs.Sheet.{Task, State, opening}
use Rattle.paving.specs.Turns.{turn, after_turns}
use Rattle.paving.specs.declared.answers.Answer.{Answer}
use Rattle.paving.specs.declared.turns.Turn.{Turn}
use Rattle.paving.proofs.Keeping.{Kept, kept_after}
use Rattle.paving.proofs.Playing.{left_by_push}
use Rattle.paving.proofs.SheetLaws.{sheet_laws}
use Rattle.sheet.specs.Shown.{Shows, Made}
use Rattle.sheet.specs.Standing.{task_of, Turned}
use Rattle.sheet.specs.declared.sheet.Sheet.{Sheet}
use Rattle.sheet.specs.declared.store.Store.{Store}

-- Whatever state the first store shows: the turn is so answered, and the second store shows the state that it leaves.
abbrev pub Does : {P : Type 0} → Task P → (ℕ → Bool) → Turn → Store P → Answer P → Store P → Type 0
Does {P} t set u s a v = (x : State P) → Kept t set x → Shows t s x → (a ≡ (turn t u x).value) × Shows t v (turn t u x).after

module _ {C P : Type 0} {g : Contractor.Ghosts C P} {e : Domain.Ghosts P} (l : Laws e.maps) (sound : (c : C) → Sound e.maps (means g c)) (s : Sheet C P g e) where
  abbrev t : Task P
  t = task_of e.maps (means g) s

  -- a bound that holds of every state that keeps what a sheet keeps
  pub made_below : (n m : ℕ) → ((x : State P) → Kept t (g.set s.contractor) x → Shows t s.store x → n < m) → n < m
  made_below n m f = ∥∥₁_elim s.made le_prop (λ y. f (after_turns t y.0) (kept_after t l (g.set s.contractor) (sound s.contractor) y.0) y.1)

  module _ (u : Turn) (a : Answer P) (v : Store P) (f : Does t (g.set s.contractor) u s.store a v) where
    pub made_on : ∥ Made t v ∥₁
    made_on =
        ∥∥₁_map s.made
        (λ y. (y.0 ++ u ∷ [], subst (Shows t v) (sym (left_by_push t y.0 u (opening t))) (f (after_turns t y.0) (kept_after t l (g.set s.contractor) (sound s.contractor) y.0) y.1).1))

    -- the sheet with the other store
    pub turned : (made : ∥ Made t v ∥₁) → Turned e.maps (means g) u s a (record { contractor = s.contractor; start = s.start; grain = s.grain; store = v; made = made })
    turned made =
        record {
          same = record { contractor = refl; start = refl; grain = refl };
          played = λ us st.
              let r = f (after_turns t us) (kept_after t l (g.set s.contractor) (sound s.contractor) us) st in
              record {
                value = r.0;
                stands = subst (λ y. Shows t v y) (sym (left_by_push t us u (opening t))) r.1;
                laws = sheet_laws e.maps l (means g s.contractor) (sound s.contractor) s.start s.grain.size (us ++ u ∷ []);
              };
        }
