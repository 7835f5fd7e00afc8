-- The rows that a difference sets are those of the new tables, and so as short.
use Rattle.std.specs.Prelude.{◌≡◌, refl, ◌^◌, Bool, true, false, ◌&&◌, IsTrue, List, [], ◌∷◌, length, nat_lt, Option, Some, None, All}
use Rattle.std.proofs.Common.{subst}
use Rattle.std.proofs.lemmas.Bool.{lt-ltb, ltb-true}
use Rattle.std.proofs.lemmas.List.Elements.{All-from_recursion, All-weaker}
use Rattle.std.proofs.lemmas.List.Sums.{AllPass-from_list_all, list_all-from_AllPass}
use Rattle.std.specs.List.{list_all, AllByRecursion as Each}
use Rattle.std.specs.Option.{option_map}
use Rattle.kd_base.specs.ToolsLaws.{both_true, map_some, true_both}
use Rattle.kdcs_types.specs.declared.act.Change.{Change}
use Rattle.kdcs_types.specs.declared.act.Change.TheVariants.{Set, Remove}
use Rattle.kdcs_types.specs.declared.act.Row.{Row}
use Rattle.kdcs_types.specs.declared.key.Key.{Key}
use Rattle.kdcs_types.specs.declared.key.Key.TheVariants as key
use Rattle.kdcs_types.specs.Difference.{change_to, difference, differing, noted_unless}
use Rattle.kdcs_types.specs.Keyed.{item_at}
use Rattle.kdcs_types.specs.KeyedLaws.{all_with, found_passes}
use Rattle.kdcs_types.specs.Same.{row_same}
use Rattle.kdcs_types.specs.Tables.{TableRows, change_key, gssb_key, gssb_row, job_key, job_row, row_at, service_key, service_row, shown_key, shown_row, tls_key, tls_row, uls_key, uls_row}
use Rattle.record_codec.specs.PatchesLaws.{EachRow, each_row}
use Rattle.record_codec.specs.Records.{HasShortValues, rows_of}
use Rattle.record_codec.specs.Values.{HasShortChange, HasShortValue, due_in, value_bytes}

-- ---- what passes a test

module _ (test : Row → Bool) where
  abbrev Passes : Row → Type 0
  Passes r = IsTrue (test r)

  -- a row that is found passes what all of its list pass
  found_there : {E : Type 0} (key_of : E → Key) (row_of : E → Row) (q : Key) (es : List E) → Each (λ e. Passes (row_of e)) es → (r : Row) → option_map row_of (item_at key_of q es) ≡ Some r → Passes r
  found_there {E} key_of row_of q es all r e =
      let found = map_some row_of (item_at key_of q es) r e in
      subst Passes found.2
      (found_passes key_of (λ (x : E). test (row_of x)) q es found.0 (list_all-from_AllPass (λ (x : E). test (row_of x)) es (All-from_recursion (λ (x : E). Passes (row_of x)) es all)) found.1)

  row_there : (t : TableRows) → EachRow Passes t → (k : Key) (r : Row) → row_at t k ≡ Some r → Passes r
  row_there t all (key.Gssb name) r e = found_there gssb_key gssb_row (key.Gssb name) t.gssbs all.gssbs r e
  row_there t all (key.Tls block lterm) r e = found_there tls_key tls_row (key.Tls block lterm) t.tlss all.tlss r e
  row_there t all (key.Uls block user) r e = found_there uls_key uls_row (key.Uls block user) t.ulss all.ulss r e
  row_there t all (key.Service id) r e = found_there service_key service_row (key.Service id) t.services all.services r e
  row_there t all (key.Job number) r e = found_there job_key job_row (key.Job number) t.jobs all.jobs r e
  row_there t all (key.Shown lterm) r e = found_there shown_key shown_row (key.Shown lterm) t.shown all.shown r e

  -- the row that a change sets passes
  abbrev leaves : Change → Bool
  leaves (Set r) = test r
  leaves (Remove k) = true

  to_row : (t : TableRows) → EachRow Passes t → (k : Key) (o : Option Row) → row_at t k ≡ o → IsTrue (leaves (change_to k o))
  to_row t all k None e = refl
  to_row t all k (Some r) e = row_there t all k r e

  differing_leaves : (old new : TableRows) → EachRow Passes new → (ks : List Key) → IsTrue (list_all leaves (differing old new ks))
  unfolding differing
  differing_leaves old new all [] = refl
  differing_leaves old new all (k ∷ ks) =
      elim (row_same (row_at old k) (row_at new k)) as (λ b. IsTrue (list_all leaves (noted_unless b (change_to k (row_at new k)) (differing old new ks)))) [
        | true ↦ differing_leaves old new all ks
        | false ↦ all_with change_key leaves (change_to k (row_at new k)) (differing old new ks) (to_row new all k (row_at new k) refl) (differing_leaves old new all ks)
      ]

  pub difference_leaves : (old new : TableRows) → EachRow Passes new → All (λ (c : Change). IsTrue (leaves c)) (difference old new).items
  difference_leaves old new all = AllPass-from_list_all leaves (difference old new).items (differing_leaves old new all _)

-- ---- short values

abbrev has_short_value : Row → Bool
has_short_value r = nat_lt (length (value_bytes r)) (2 ^ 32) && nat_lt (due_in r) (2 ^ 56)

value_passes : (r : Row) → HasShortValue r → IsTrue (has_short_value r)
value_passes r h = true_both _ _ (lt-ltb (length (value_bytes r)) (2 ^ 32) h.short) (lt-ltb (due_in r) (2 ^ 56) h.due)

short_left : (c : Change) → IsTrue (leaves has_short_value c) → HasShortChange c
short_left (Set r) h =
    let parts = both_true (nat_lt (length (value_bytes r)) (2 ^ 32)) (nat_lt (due_in r) (2 ^ 56)) h in
    record { short = ltb-true (length (value_bytes r)) (2 ^ 32) parts.0; due = ltb-true (due_in r) (2 ^ 56) parts.1 }
short_left (Remove k) h = tt

pub difference_short : (old new : TableRows) → HasShortValues new → All HasShortChange (difference old new).items
difference_short old new short =
    All-weaker (λ (c : Change). IsTrue (leaves has_short_value c)) HasShortChange short_left (difference old new).items
    (difference_leaves has_short_value old new (each_row (λ (r : Row). IsTrue (has_short_value r)) new (All-weaker HasShortValue (λ (r : Row). IsTrue (has_short_value r)) value_passes (rows_of new) short)))
