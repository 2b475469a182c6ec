-- All laws of a sheet, after every list of turns; and the order law.
use Rattle.std.proofs.Common.{◌≡◌, ℕ, List, Option, ap₂}
use mathlib.Core.Path.{fun_ext}
use Rattle.domain.specs.Laws.{Laws}
use Rattle.domain.specs.Maps.{Maps}
use Rattle.contractor.specs.Meaning.{Meaning, meaning, Sound}
use Rattle.contractor.specs.Rearranged.{Alike}
use Rattle.contractor.proofs.Rearranging.{rearranged_alike}
use Rattle.paving.specs.Laws.{SheetLaws, Order, PavingLaws}
use Rattle.paving.specs.Sheet.{task}
use Rattle.paving.specs.Turns.{answers, after_turns}
use Rattle.paving.specs.declared.turns.Turn.{Turn}
use Rattle.paving.proofs.Causing.{causes_law}
use Rattle.paving.proofs.Histories.{history_law}
use Rattle.paving.proofs.Keeping.{kept_after}
use Rattle.paving.proofs.Telling.{sum_law}
use Rattle.paving.proofs.Truths.{truth_law, limits_law}

module _ {P : Type 0} (d : Maps P) (l : Laws d) (m : Meaning P) (sound : Sound d m) (start : P) (grain : ℕ) where
  pub sheet_laws : (us : List Turn) → SheetLaws (task d m start grain) m.set us
  sheet_laws us =
      let t = task d m start grain in
      let k = kept_after t l m.set sound us in
      record {
        sum = sum_law t l m.set (after_turns t us) k;
        truth = truth_law t l m.set sound (after_turns t us) k;
        limits = limits_law t l m.set sound (after_turns t us) k;
        causes = causes_law t (after_turns t us);
        history = history_law t l m.set sound us;
      }

-- a sheet sees of its contractor only the two maps
pub alike_answers : {P : Type 0} (d : Maps P) (a b : Meaning P) → Alike a b → (start : P) (grain : ℕ) (us : List Turn) → answers (task d a start grain) us ≡ answers (task d b start grain) us
alike_answers {P} d a b e start grain us =
    ap₂ (λ (k h : P → Option P). answers (task d (meaning a.set k h) start grain) us) (fun_ext e.keep) (fun_ext e.shed)

pub order_law : {P : Type 0} (d : Maps P) (l : Laws d) (m : Meaning P) (start : P) (grain : ℕ) → Order d m start grain
order_law d l m start grain b r us = alike_answers d m b (rearranged_alike d l r) start grain us

pub paving_laws : {P : Type 0} (d : Maps P) (l : Laws d) (m : Meaning P) → Sound d m → (start : P) → PavingLaws d m start
paving_laws d l m sound start = record { stands = sheet_laws d l m sound start; order = order_law d l m start }
