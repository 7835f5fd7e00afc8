-- Rows read one after another.
use Rattle.std.specs.Prelude.{◌≡◌, ℕ, ◌+◌, ◌<◌, List, [], ◌∷◌, ◌++◌, length, drop, get_or, Option, Some, option_and_then}
use Rattle.std.proofs.Common.{sym, ap, ◌∙◌}
use Rattle.std.proofs.lemmas.List.{drop_more}
use Rattle.std.specs.Option.{option_map}
use Rattle.kd_base.specs.Tools.{onto}
use Rattle.kd_base.specs.ToolsLaws.{onto_then}
use Rattle.kd_records.specs.Contents.{Record}
use Rattle.kdcs_types.specs.declared.act.Row.{Row}
use Rattle.kdcs_types.specs.declared.act.Change.{Change}
use Rattle.kdcs_types.specs.declared.act.Change.TheVariants.{Set}
use Rattle.record_codec.specs.RowReadings.{row_read}
use Rattle.record_codec.specs.TableReadings.{sets_read}

abbrev pub sets_onto : List Change → Option (List Change) → Option (List Change)
sets_onto done found = onto done found

-- with this row in front
abbrev behind_row : List Record → Row → Option (List Change)
behind_row xs r = option_map (λ cs. Set r ∷ cs) (sets_read xs)

pub one_more : (xs : List Record) (i : ℕ) (done : List Change) (whole : Option (List Change)) (x : Record) (r : Row) → i < length xs → x ≡ get_or xs i x → sets_onto done (sets_read (drop i xs)) ≡ whole → row_read x ≡ Some r → sets_onto (done ++ Set r ∷ []) (sets_read (drop (i + 1) xs)) ≡ whole
one_more xs i done whole x r h is e found =
    onto_then done (Set r ∷ []) (sets_read (drop (i + 1) xs))
    ∙ sym (ap (λ (l : List Record). sets_onto done (sets_read l)) (drop_more xs i x h ∙ ap (λ (y : Record). y ∷ drop (i + 1) xs) (sym is))
    ∙ ap (λ o. sets_onto done (option_and_then (behind_row (drop (i + 1) xs)) o)) found)
    ∙ e
