-- The changes of the durable tables make the new tables of the old ones, where all other rows stay.
use Rattle.std.specs.Prelude.{◌≡◌, refl, Bool, true, false, cond, Option, Some, None}
use Rattle.std.proofs.Common.{sym, ap, ◌∙◌}
use Rattle.std.specs.Option.{option_map}
use Rattle.kdcs_types.specs.declared.act.Change.TheVariants.{Set, Remove}
use Rattle.kdcs_types.specs.declared.act.Changes.{Changes}
use Rattle.kdcs_types.specs.declared.act.Row.TheVariants as row
use Rattle.kdcs_types.specs.declared.key.Key.{Key}
use Rattle.kdcs_types.specs.declared.key.Key.TheVariants as key
use Rattle.kdcs_types.specs.declared.key.ServiceId.{ServiceId}
use Rattle.kdcs_types.specs.declared.service.Service.{Service}
use Rattle.kdcs_types.specs.DifferenceLaws.{difference_exact, difference_changes, difference_makes_new}
use Rattle.kdcs_types.specs.Keys.{key_eq}
use Rattle.kdcs_types.specs.KeyLaws.{key_eq_same}
use Rattle.kdcs_types.specs.RowLaws.{changed_sorted, numbers_changed, own_id, row_at_with_change, rows_changed, same_tables, sorted_with_change}
use Rattle.kdcs_types.specs.TableLaws.{row_after}
use Rattle.kdcs_types.specs.Tables.{TableRows, AreChanges, IsSortedTables, change_at, changed, row_at, service_of, service_row}
use Rattle.application_types.specs.Generation.{Generated}
use Rattle.abstract_monitor.specs.Endings.{durable, is_durable, with_service}
use Rattle.laws_of_states.specs.DurableLaws.{durable_sorted, row_at_durable}
use Rattle.laws_of_states.specs.DurableKeys.{key_is_durable}
use Rattle.laws_of_states.specs.OwnRowLaws.{row_there_fits}
use Rattle.laws_of_states.specs.CommitLaws.{durable_difference, KeepsVolatile, KeepsOtherVolatile, DifferencesAreChanges, DifferencesMakeTables, DifferencesAndRowMake, RowsAreOneChange}

pub are_changes : DifferencesAreChanges
are_changes g old new h = difference_changes (durable g old) (durable g new) (durable_sorted g new h)

pub one_row : RowsAreOneChange
one_row t id None = refl
one_row t id (Some r) = refl

module _ (g : Generated) (old new : TableRows) (before : IsSortedTables old) (after : IsSortedTables new) where
  abbrev changes : Changes
  changes = durable_difference g old new

  abbrev made : TableRows
  made = changed old changes

  are : AreChanges changes.items
  are = are_changes g old new after

  made_sorted : IsSortedTables made
  made_sorted = changed_sorted old changes before are

  numbers : (made.clock ≡ new.clock) × (made.next_job ≡ new.next_job)
  unfolding durable
  numbers = numbers_changed old changes

  -- a row that outlives a stop is that of the new tables, any other stays
  row_made : (k : Key) (b : Bool) → key_is_durable g k ≡ b → row_at made k ≡ cond b (row_at new k) (row_at old k)
  row_made k true d =
      rows_changed old changes are k
      ∙ ap (row_after (change_at k changes.items)) (sym (row_at_durable g old k ∙ ap (λ b. cond b (row_at old k) None) d))
      ∙ sym (rows_changed (durable g old) changes are k)
      ∙ ap (λ t. row_at t k) (difference_makes_new (durable g old) (durable g new) (durable_sorted g old before) (durable_sorted g new after))
      ∙ row_at_durable g new k
      ∙ ap (λ b. cond b (row_at new k) None) d
  row_made k false d =
      let none_old : row_at (durable g old) k ≡ None = row_at_durable g old k ∙ ap (λ b. cond b (row_at old k) None) d in
      let none_new : row_at (durable g new) k ≡ None = row_at_durable g new k ∙ ap (λ b. cond b (row_at new k) None) d in
      rows_changed old changes are k ∙ ap (λ c. row_after c (row_at old k)) ((difference_exact (durable g old) (durable g new) k).0 (none_old ∙ sym none_new))

  -- so all rows but those of some services are those of the new tables
  rows_made : (q : Key) → ((id : ServiceId) → q ≡ key.Service id → is_durable g id ≡ false → service_of new id ≡ service_of old id) → row_at made q ≡ row_at new q
  rows_made (key.Gssb name) keeps = row_made (key.Gssb name) true refl
  rows_made (key.Tls block lterm) keeps = row_made (key.Tls block lterm) true refl
  rows_made (key.Uls block user) keeps = row_made (key.Uls block user) true refl
  rows_made (key.Service id) keeps = by (is_durable g id) refl
    where
      by : (b : Bool) → is_durable g id ≡ b → row_at made (key.Service id) ≡ row_at new (key.Service id)
      by true d = row_made (key.Service id) true d
      by false d = row_made (key.Service id) false d ∙ sym (ap (option_map service_row) (keeps id refl d))
  rows_made (key.Job number) keeps = row_made (key.Job number) true refl
  rows_made (key.Shown lterm) keeps = row_made (key.Shown lterm) true refl

  same_made : KeepsVolatile g old new → made ≡ new
  same_made keeps = same_tables made new made_sorted after numbers.0 numbers.1 (λ q. rows_made q (λ id same d. keeps id d))

  -- ---- with the row of a service

  module _ (id : ServiceId) (keeps : KeepsOtherVolatile g id old new) where
    row_set : (o : Option Service) → service_of new id ≡ o → (q : Key) → row_at (with_service made id o) q ≡ cond (key_eq q (key.Service id)) (option_map service_row o) (row_at made q)
    row_set None e q = row_at_with_change made (Remove (key.Service id)) q refl
    row_set (Some r) e q =
        row_at_with_change made (Set (row.Service id r)) q (row_there_fits new id (Some r) after e)
        ∙ ap (λ (i : ServiceId). cond (key_eq q (key.Service id)) (Some (row.Service i r)) (row_at made q)) (sym (own_id new id r e))

    set_sorted : (o : Option Service) → service_of new id ≡ o → IsSortedTables (with_service made id o)
    set_sorted None e = sorted_with_change made (Remove (key.Service id)) made_sorted refl
    set_sorted (Some r) e = sorted_with_change made (Set (row.Service id r)) made_sorted (row_there_fits new id (Some r) after e)

    set_numbers : (o : Option Service) → ((with_service made id o).clock ≡ new.clock) × ((with_service made id o).next_job ≡ new.next_job)
    set_numbers None = numbers
    set_numbers (Some r) = numbers

    rows_set : (q : Key) → row_at (with_service made id (service_of new id)) q ≡ row_at new q
    rows_set q = row_set (service_of new id) refl q ∙ by (key_eq q (key.Service id)) refl
      where
        by : (b : Bool) → key_eq q (key.Service id) ≡ b → cond b (row_at new (key.Service id)) (row_at made q) ≡ row_at new q
        by true same = ap (row_at new) (sym (key_eq_same q (key.Service id) same))
        by false apart = rows_made q (λ other is d. keeps other d (ap (λ k. key_eq k (key.Service id)) (sym is) ∙ apart))

    same_set : with_service made id (service_of new id) ≡ new
    same_set =
        let now = set_numbers (service_of new id) in
        same_tables (with_service made id (service_of new id)) new (set_sorted (service_of new id) refl) after now.0 now.1 rows_set

pub makes : DifferencesMakeTables
makes g old new before after keeps = same_made g old new before after keeps

pub makes_with_row : DifferencesAndRowMake
makes_with_row g old new id before after keeps = same_set g old new before after id keeps
