-- The same readings in another order: what is written of them, and that the text is the same.
use Rattle.std.proofs.Common.{◌≡◌, ℕ, List, ◌++◌, map, length, codes, decimal, sym, ap, ◌∙◌, ap₂, arith}
use Rattle.std.specs.List.{flat_map}
use Rattle.std.specs.List.Sorted.{IsPermutation}
use Rattle.std.proofs.lemmas.List.{append_assoc, length-map}
use Rattle.std.proofs.lemmas.List.Sorted.{length_permutation}
use Rattle.domain.specs.Laws.{Laws}
use Rattle.domain.specs.Maps.{Maps}
use Rattle.contractor.specs.Meaning.{Meaning, Sound}
use Rattle.contractor.specs.Rearranged.{Alike}
use Rattle.contractor.specs.Rearranged.Rearranged.{relaxed_of, fixed_of}
use Rattle.contractor.proofs.Rearranging.{rearranged_alike}
use Rattle.contractor.proofs.Reordering.{shuffled_paired}
use Rattle.panels.specs.Readings.{all_readings}
use Rattle.readings.specs.Files.{Meant, Sensible, line, lines}
use Rattle.readings.specs.Sorts.{name}
use Rattle.readings.specs.declared.kind.Kind.{Kind}
use Rattle.listing.proofs.Grounds.{alike_listing}
use Rattle.survey.specs.Orders.{head}
use Rattle.survey.specs.Texts.{Paving, layered}
use Rattle.survey.proofs.Moving.{joined_map}

-- the same with other readings
abbrev pub with_readings : {P R : Type 0} → Meant P R → List R → Meant P R
with_readings m rs = record { liars = m.liars; grain = m.grain; start = m.start; readings = rs }

module _ {P R : Type 0} (m : Meant P R) (rs : List R) (h : IsPermutation m.readings rs) where
  same_count : length rs ≡ length m.readings
  same_count = length_permutation m.readings rs h

  pub still_sensible : Sensible m → Sensible (with_readings m rs)
  still_sensible s = (omega (arith, s.0, same_count), omega (arith, s.1, same_count))

  -- how the lines are written in the other order
  pub still_written : (k : Kind) (start : P → List ℕ) (reading : R → List ℕ) (ls : List (List ℕ)) → ls ≡ map reading rs → head k start m ++ (flat_map (λ l. l) ls ++ line (codes "end=") (decimal (length m.readings))) ≡ lines k start reading (with_readings m rs)
  still_written k start reading ls e =
      let a = line (codes "sheet=") (name k) in
      let b = line (codes "liars=") (decimal m.liars) in
      let c = line (codes "grain=") (decimal m.grain.size) in
      let f = line (codes "start=") (start m.start) in
      let t = flat_map (λ l. l) ls ++ line (codes "end=") (decimal (length m.readings)) in
      append_assoc a (b ++ (c ++ f)) t
      ∙ ap (λ x. a ++ x) (append_assoc b (c ++ f) t ∙ ap (λ x. b ++ x) (append_assoc c f t))
      ∙ ap₂ (λ x n. a ++ (b ++ (c ++ (f ++ (x ++ line (codes "end=") (decimal n)))))) (ap (flat_map (λ l. l)) e ∙ joined_map reading rs) (sym same_count)

  module _ (d : Maps P) (l : Laws d) (each : R → Meaning P) (sound : (r : R) → Sound d (each r)) (sensible : Sensible m) where
    -- the same maps
    alike : Alike (layered d each m) (layered d each (with_readings m rs))
    alike =
        rearranged_alike d l
        (fixed_of (relaxed_of (omega (arith, sensible.0, length-map m.readings each)) (all_readings (Sound d) each sound m.readings) (all_readings (Sound d) each sound rs)
        (shuffled_paired d each m.readings rs h)))

    -- and so the same text
    pub same_text : (shown : P → List ℕ) (text other : List ℕ) → Paving d each shown m text → Paving d each shown (with_readings m rs) other → other ≡ text
    same_text shown text other p q =
        sym (alike_listing d (layered d each m) (layered d each (with_readings m rs)) alike m.start m.grain.size p q)
