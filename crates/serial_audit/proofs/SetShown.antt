-- The message that an LTERM shows is set, unless it shows it already.
use Rattle.std.specs.Prelude.{◌≡◌, Bool, true, false, not, ◌++◌, List, [], ◌∷◌, Some}
use Rattle.std.proofs.Common.{sym, ap, ◌∙◌}
use Rattle.std.proofs.lemmas.List.{append-nil}
use Rattle.std.specs.Option.{option_eq}
use Rattle.kdcs_types.specs.declared.act.Change.{Change}
use Rattle.kdcs_types.specs.declared.act.Change.TheVariants.{Set}
use Rattle.kdcs_types.specs.declared.act.Row.TheVariants.{Shown as ShownRow}
use Rattle.kdcs_types.specs.declared.service.JobValue.{JobValue}
use Rattle.kdcs_types.specs.Same.{job_value_eq}
use Rattle.kdcs_types.specs.Tables.{TableRows, shown_of}
use Rattle.abstract_monitor.specs.Bytes.{Bytes}
use Rattle.laws_of_states.specs.CommitLaws.{shown_set}
use Rattle.sync_points.specs.PointChanges.{is_real}
use Rattle.sync_points.specs.RowsLaws.{same_shown}

module _ (t : TableRows) (lterm : Bytes) (value : JobValue) where
  -- the LTERM shows the message
  abbrev shows_it : Bool
  shows_it = option_eq job_value_eq (Some value) (shown_of t lterm)

  is_shown : (b : Bool) → is_real t (Set (ShownRow lterm value)) ≡ b → shows_it ≡ not b
  is_shown b e = by shows_it (sym (ap not (same_shown t lterm value)) ∙ e)
    where
      by : (same : Bool) → not same ≡ b → same ≡ not b
      by true h = ap not h
      by false h = ap not h

  pub set_none : (items : List Change) → is_real t (Set (ShownRow lterm value)) ≡ false → items ≡ items ++ shown_set shows_it lterm value
  set_none items e = sym (ap (λ b. items ++ shown_set b lterm value) (is_shown false e) ∙ append-nil items)

  pub set_one : (items : List Change) → is_real t (Set (ShownRow lterm value)) ≡ true → items ++ Set (ShownRow lterm value) ∷ [] ≡ items ++ shown_set shows_it lterm value
  set_one items e = sym (ap (λ b. items ++ shown_set b lterm value) (is_shown true e))
