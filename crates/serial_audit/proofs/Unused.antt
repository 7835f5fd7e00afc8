-- The first note of a record on an area that its replay has not used.
use Rattle.std.specs.Prelude.{◌≡◌, refl, ℕ, zero, suc, Bool, true, IsTrue, List, [], ◌∷◌, drop, length, slice_get, Option, Some, None}
use Rattle.std.specs.List.{list_all}
use Rattle.std.proofs.Common.{sym, ap, ◌∙◌}
use Rattle.kd_base.specs.ToolsLaws.{both_true, some_is}
use Rattle.kdcs_types.specs.declared.call.Code.{Code}
use Rattle.kdcs_types.specs.declared.key.Area.{Area}
use Rattle.kdcs_types.specs.declared.service.Note.{Note}
use Rattle.kdcs_types.specs.declared.service.Note.TheVariants.{Released, Refused}
use Rattle.kdcs_types.specs.KeyLaws.{area_eq_same}
use Rattle.kdcs_types.specs.Keys.{area_eq}
use Rattle.kdcs_types.specs.Tables.{TableRows, content_of}
use Rattle.abstract_monitor.specs.Bytes.{Bytes}
use Rattle.abstract_monitor.specs.State.{OpenTransaction}
use Rattle.abstract_monitor.specs.Statements.{Kept}
use Rattle.laws_of_states.specs.Replay.{content_by_note, first_unused, noted_area, notes_on, replay_told}
use Rattle.laws_of_states.specs.Transactions.{fits_if_there}
use Rattle.laws_of_states.specs.ListsLaws.{all_filter, filter_passes}
use Rattle.laws_of_states.specs.OpenLaws.{ToldFits}
use Rattle.kdcs_calls.specs.Stating.{ContentsFit}
use Rattle.serial_audit.specs.Audit.{note_fits}

module _ {A : Type 0} (q : A → Bool) where
  -- what is left of a list passes what all pass
  left_passes : (l : List A) (k : ℕ) (n : A) → IsTrue (list_all q l) → slice_get (drop k l) 0 ≡ Some n → q n ≡ true
  left_passes [] zero n all e = absurd cc
  left_passes [] (suc k) n all e = absurd cc
  left_passes (x ∷ l) zero n all e = ap q (sym (some_is x n e)) ∙ (both_true (q x) (list_all q l) all).0
  left_passes (x ∷ l) (suc k) n all e = left_passes l k n (both_true (q x) (list_all q l) all).1 e

module _ (r : Kept) (x : OpenTransaction) (area : Area) (n : Note) (first : first_unused r x area ≡ Some n) where
  -- it passes what all notes pass
  pub unused_passes : (q : Note → Bool) → IsTrue (list_all q r.notes) → q n ≡ true
  unused_passes q all = left_passes q (notes_on area r.notes) (length (notes_on area x.notes)) n (all_filter q (λ (k : Note). area_eq area (noted_area k)) r.notes all) first

  -- and is on the area
  pub unused_on : noted_area n ≡ area
  unused_on =
      sym (area_eq_same area (noted_area n)
      (left_passes (λ (k : Note). area_eq area (noted_area k)) (notes_on area r.notes) (length (notes_on area x.notes)) n (filter_passes (λ (k : Note). area_eq area (noted_area k)) r.notes) first))

-- so it can be written with that area
pub refused_first : (r : Kept) (x : OpenTransaction) (area a : Area) (code : Code) → first_unused r x area ≡ Some (Refused a code) → first_unused r x area ≡ Some (Refused area code)
refused_first r x area a code first = first ∙ ap (λ (k : Area). Some (Refused k code)) (unused_on r x area (Refused a code) first)

pub released_first : (r : Kept) (x : OpenTransaction) (area a : Area) (content : Option Bytes) → first_unused r x area ≡ Some (Released a content) → first_unused r x area ≡ Some (Released area content)
released_first r x area a content first = first ∙ ap (λ (k : Area). Some (Released k content)) (unused_on r x area (Released a content) first)

-- what a replay is told is short
module _ (t : TableRows) (r : Kept) (x : OpenTransaction) (fits : ContentsFit t) (short : IsTrue (list_all note_fits r.notes)) where
  pub told_short : (of : Option Area) → ToldFits (replay_told t r x of)
  unfolding replay_told
  told_short None = refl
  told_short (Some area) = by (first_unused r x area) refl
    where
      by : (o : Option Note) → first_unused r x area ≡ o → IsTrue (fits_if_there (content_by_note o (content_of t area)))
      by None e = fits area
      by (Some (Released a content)) e = unused_passes r x area (Released a content) e note_fits short
      by (Some (Refused a code)) e = fits area
