-- A list of turns, one after another.
use Rattle.std.proofs.Common.{◌≡◌, ℕ, ◌+◌, ◌<◌, ◌≤◌, Bool, false, List, [], ◌∷◌, ◌++◌, map, length, get_or, take, set, Some, Ok, Err, Decides, Option, sym, ap, ◌∙◌, subst, ap₂, arith}
use Rattle.domain.specs.declared.domain.Domain
use Rattle.contractor.specs.declared.contractor.Contractor
use Rattle.std.proofs.lemmas.List.{take_more, take_more_set, take_all, map_push, same_from_push}
use Rattle.std.proofs.lemmas.Bool.{false≢true}
use Rattle.domain.specs.Laws.{Laws}
use Rattle.domain.specs.Maps.{Maps}
use Rattle.contractor.specs.Meaning.{Meaning, Sound}
use Rattle.paving.specs.Sheet.{Task, task, opening}
use Rattle.paving.specs.Turns.{turn, after_turns, answers}
use Rattle.paving.specs.declared.answers.Answer.{Answer}
use Rattle.paving.specs.declared.turns.Turn.{Turn}
use Rattle.paving.proofs.Playing.{answers_push}
use Rattle.paving.proofs.SheetLaws.{sheet_laws, order_law}
use Rattle.sheet.specs.Standing.{Shows, task_of, StandsAfter, Turned, SheetOf}
use Rattle.sheet.specs.declared.grain.Grain.{Grain}
use Rattle.sheet.specs.declared.sheet.Sheet.{Sheet}
use Rattle.sheet.proofs.Striding.{same_task}
use Rattle.plays.specs.Plays.{PlayedAll, PlayedBoth}
use Rattle.plays.proofs.Numbering.{numbers_decided}

module _ {C P : Type 0} {g : Contractor.Ghosts C P} {e : Domain.Ghosts P} (d : Maps P) (m : C → Meaning P) (t : Task P) where
  -- the first i turns are played on the sheet
  pub record Halfway (us : List Turn) (i : ℕ) (s : Sheet C P g e) : Type 0 where
    pub same : task_of d m s ≡ t
    pub stands : Shows t s.store (after_turns t (take i us))

  pub halfway_more : (us : List Turn) (i : ℕ) (s v : Sheet C P g e) (u : Turn) (a : Answer P) → i < length us → get_or us i u ≡ u → Halfway us i s → Turned d m u s a v → Halfway us (i + 1) v × (answers t (take (i + 1) us) ≡ answers t (take i us) ++ a ∷ [])
  halfway_more us i s v u a h g w b =
      let p = b.played (take i us) (subst (λ q. Shows q s.store (after_turns q (take i us))) (sym w.same) w.stands) in
      let e = same_task d m s v b.same ∙ w.same in
      let f : take (i + 1) us ≡ take i us ++ u ∷ [] = take_more us i u h ∙ ap (λ z. take i us ++ z ∷ []) g in
      let x : a ≡ (turn t u (after_turns t (take i us))).value = p.value ∙ ap (λ q. (turn q u (after_turns q (take i us))).value) w.same in (
        record {
          same = e;
          stands = subst (λ vs. Shows t v.store (after_turns t vs)) (sym f) (subst (λ q. Shows q v.store (after_turns q (take i us ++ u ∷ []))) e p.stands);
        },
        ap (answers t) f ∙ answers_push t (take i us) u (opening t) ∙ ap (λ z. answers t (take i us) ++ z ∷ []) (sym x),
      )

  -- the same, and the answers are given
  pub record Midway (us : List Turn) (i : ℕ) (s : Sheet C P g e) (as' : List (Option (Answer P))) : Type 0 where
    pub half : Halfway us i s
    pub given : take i as' ≡ map Some (answers t (take i us))

  pub midway_more : (us : List Turn) (i : ℕ) (s v : Sheet C P g e) (as' : List (Option (Answer P))) (u : Turn) (a : Answer P) → i < length us → i < length as' → get_or us i u ≡ u → Midway us i s as' → Turned d m u s a v → Midway us (i + 1) v (set as' i (Some a))
  midway_more us i s v as' u a h k g w b =
      let x = halfway_more us i s v u a h g w.half b in
      record {
        half = x.0;
        given =
            take_more_set as' i (Some a) k ∙ ap (λ bs. bs ++ Some a ∷ []) w.given
            ∙ sym (map_push Some (answers t (take i us)) a) ∙ ap (map Some) (sym x.1);
      }

module _ {C P : Type 0} {g : Contractor.Ghosts C P} {e : Domain.Ghosts P} (d : Maps P) (m : C → Meaning P) (c : C) (start : P) (grain : Grain) (us : List Turn) where
  pub sheet_of : (i : ℕ) (s v : Sheet C P g e) → task_of d m s ≡ task d (m c) start grain.size → length us ≤ i → Halfway d m (task_of d m s) us i v → SheetOf d m c start grain us v
  sheet_of i s v e h w =
      record {
        made = w.same ∙ e;
        stands = subst (λ q. Shows q v.store (after_turns q us)) (sym w.same) (subst (λ vs. Shows (task_of d m s) v.store (after_turns (task_of d m s) vs)) (take_all i us h) w.stands);
      }

  module _ (l : Laws d) (sound : (c : C) → Sound d (m c)) (before after : List (Option (Answer P))) where
    pub unplayed : (s : Sheet C P g e) → task_of d m s ≡ task d (m c) start grain.size → (length us ≡ length before → ⊥) → after ≡ before → StandsAfter d m [] s → PlayedAll d m c start grain us before after s (Err record {})
    unplayed s e n same st =
        record {
          made = e;
          value = (n, same, st);
          laws = sheet_laws d l (m c) (sound c) start grain.size us;
          order = λ b r. order_law d l (m c) start grain.size b r us;
        }

    pub played_all : (s v : Sheet C P g e) (i : ℕ) → task_of d m s ≡ task d (m c) start grain.size → length us ≡ length before → length after ≡ length before → length us ≤ i → Midway d m (task_of d m s) us i v after → PlayedAll d m c start grain us before after v (Ok tt)
    played_all s v i e n k h w =
        let sheet = sheet_of i s v e h w.half in
        record {
          made = sheet.made;
          value = (
            n,
            sym (take_all i after (omega arith)) ∙ w.given ∙ ap (λ vs. map Some (answers (task_of d m s) vs)) (take_all i us h) ∙ ap (λ q. map Some (answers q us)) e,
            sheet.stands,
          );
          laws = sheet_laws d l (m c) (sound c) start grain.size us;
          order = λ b r. order_law d l (m c) start grain.size b r us;
        }

module _ {P : Type 0} (t q : Task P) (us : List Turn) where
  -- whether the first i turns were answered alike
  abbrev pub Alike : ℕ → Bool → Type 0
  Alike i r = Decides r (answers t (take i us) ≡ answers q (take i us))

  module _ (i : ℕ) (r : Bool) (a b : Answer P) (e : answers t (take (i + 1) us) ≡ answers t (take i us) ++ a ∷ []) (f : answers q (take (i + 1) us) ≡ answers q (take i us) ++ b ∷ []) where
    pub alike_more : a ≡ b → Alike i r → Alike (i + 1) r
    alike_more n h = (
      λ z. e ∙ ap₂ (λ xs x. xs ++ x ∷ []) (h.0 z) n ∙ sym f,
      λ z. h.1 (same_from_push _ _ _ _ (sym e ∙ z ∙ f)).0,
    )

    pub unlike_more : (a ≡ b → ⊥) → Alike (i + 1) false
    unlike_more n = (
      λ z. absurd (false≢true z),
      λ z. absurd (n (same_from_push _ _ _ _ (sym e ∙ z ∙ f)).1),
    )

pub played_both : {P : Type 0} (d : Maps P) (l : Laws d) (a b : Meaning P) (start : P) (grain : ℕ) (us : List Turn) (i : ℕ) (t q : Task P) (r : Bool) → t ≡ task d a start grain → q ≡ task d b start grain → length us ≤ i → Alike t q us i r → PlayedBoth d a b start grain us r
played_both d l a b start grain us i t q r e f h w =
    let v : Decides r (answers (task d a start grain) us ≡ answers (task d b start grain) us) = subst (λ x. Decides r (answers (task d a start grain) us ≡ answers x us)) f (subst (λ x. Decides r (answers x us ≡ answers q us)) e (subst (λ vs. Decides r (answers t vs ≡ answers q vs)) (take_all i us h) w)) in
    record {
      value = v;
      numbered = numbers_decided d l r _ _ v;
      order = λ s. v.1 (order_law d l a start grain b s us);
    }
