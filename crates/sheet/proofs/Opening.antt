-- The task of an opened sheet.
use Rattle.std.proofs.Common.{◌≡◌, ap, ◌∙◌}
use Rattle.domain.specs.Maps.{Maps}
use Rattle.domain.specs.declared.domain.Domain
use Rattle.contractor.specs.declared.contractor.Contractor
use Rattle.contractor.specs.Meaning.{Meaning}
use Rattle.paving.specs.Sheet.{task}
use Rattle.sheet.specs.Standing.{task_of}
use Rattle.sheet.specs.declared.grain.Grain.{Grain}
use Rattle.sheet.specs.declared.sheet.Sheet.{Sheet}

pub opened_task : {C P : Type 0} {g : Contractor.Ghosts C P} {e : Domain.Ghosts P} (d : Maps P) (m : C → Meaning P) (c : C) (start : P) (grain : Grain) (s : Sheet C P g e) → (s.contractor ≡ c) × ((s.start ≡ start) × (s.grain ≡ grain)) → task_of d m s ≡ task d (m c) start grain.size
opened_task d m c start grain s e =
    ap (λ q. task d (m q) s.start s.grain.size) e.0 ∙ ap (λ q. task d (m c) q s.grain.size) e.1.0
    ∙ ap (λ q. task d (m c) start q.size) e.1.1
