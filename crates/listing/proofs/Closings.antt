-- A listing's end: nothing waits, all records are written, and a tally gives the sums.
use Rattle.std.proofs.Common.{◌≡◌, ℕ, List, [], ◌++◌, Option, sym, ap, ◌∙◌, subst}
use Rattle.domain.specs.declared.domain.Domain
use Rattle.contractor.specs.declared.contractor.Contractor
use Rattle.std.proofs.lemmas.List.{append-nil, take-append-drop}
use Rattle.domain.specs.Laws.{Laws}
use Rattle.domain.specs.Maps.{Maps}
use Rattle.contractor.specs.Meaning.{Meaning, Sound}
use Rattle.paving.specs.Sheet.{task, State, roll, gone}
use Rattle.paving.specs.Turns.{points_of, tally, after_turns}
use Rattle.paving.specs.declared.answers.Answer.TheVariants.{Tallied}
use Rattle.paving.specs.declared.tallies.Tally.{Tally}
use Rattle.paving.specs.declared.turns.Turn.TheVariants.{Tally as TallyTurn}
use Rattle.sheet.specs.Standing.{task_of, Turned}
use Rattle.sheet.specs.declared.grain.Grain.{Grain}
use Rattle.sheet.specs.declared.sheet.Sheet.{Sheet}
use Rattle.sheet.proofs.Striding.{same_task}
use Rattle.listing.specs.Lines.{Shown, records_text, sum_line}
use Rattle.listing.specs.Listings.{Listing}
use Rattle.listing.specs.Progress.{Paved, Finished}
use Rattle.listing.proofs.Grounds.{listing}

-- with an empty roll, all records were taken
all_gone : {P : Type 0} (x : State P) → roll x ≡ [] → gone x ≡ x.made
all_gone x e = sym (append-nil (gone x)) ∙ ap (λ rs. gone x ++ rs) (sym e) ∙ take-append-drop x.taken x.made

module _ {C P : Type 0} {g : Contractor.Ghosts C P} {e : Domain.Ghosts P} (d : Maps P) (m : C → Meaning P) (display : P → Option (List ℕ)) (s v : Sheet C P g e) (text : List ℕ) (w : Paved d m display s v text) (c : C) (start : P) (grain : Grain) (o : task_of d m s ≡ task d (m c) start grain.size) where
  same : task_of d m v ≡ task d (m c) start grain.size
  same = same_task d m s v w.same ∙ o

  none_waiting : (after_turns (task d (m c) start grain.size) w.clear.begun.turns).waiting ≡ []
  none_waiting = subst (λ q. (after_turns q w.clear.begun.turns).waiting ≡ []) same (sym w.clear.begun.stands.pile ∙ w.done)

  none_rolled : roll (after_turns (task d (m c) start grain.size) w.clear.begun.turns) ≡ []
  none_rolled = subst (λ q. roll (after_turns q w.clear.begun.turns) ≡ []) same (sym w.clear.begun.stands.roll ∙ w.clear.roll)

  pub finished : Finished d m c start grain v
  finished =
      record {
        turns = w.clear.begun.turns;
        sheet = record { made = same; stands = w.clear.begun.stands };
        done = none_waiting;
        all_taken = none_rolled;
      }

  -- the sum line ends the text
  pub listed : (l : Laws d) (sound : Sound d (m c)) (y : Tally) → Turned d m TallyTurn v (Tallied y) v → (shown : P → List ℕ) → Shown display shown → (whole : List ℕ) → whole ≡ text ++ sum_line y.taken y.steps → Listing (task d (m c) start grain.size) (m c).set shown whole
  listed l sound y b shown h whole e =
      let t = task d (m c) start grain.size in
      let us = w.clear.begun.turns in
      let x = after_turns t us in
      let told = (b.played us w.clear.begun.stands).value in
      let sums : y ≡ tally (task_of d m v) (after_turns (task_of d m v) us) = cc in
      let told_here : y ≡ tally t x = sums ∙ ap (λ q. tally q (after_turns q us)) same in
      let lines = w.clear.begun.lines shown h ∙ ap (λ q. records_text shown (gone (after_turns q us))) same in
      listing t l (m c).set sound us none_waiting shown whole
      (e ∙ ap (λ bs. bs ++ sum_line y.taken y.steps) lines ∙ ap (λ z. records_text shown (gone x) ++ sum_line z.taken z.steps) told_here ∙ ap (λ rs. records_text shown rs ++ sum_line (points_of t rs) x.steps) (all_gone x none_rolled))
