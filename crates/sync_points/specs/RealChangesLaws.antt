-- The difference of tables and the same with changes is those of the changes that are real.
use Rattle.std.specs.Prelude.{◌≡◌, ◌≢◌, refl, Bool, true, false, cond, not, IsTrue, List, [], ◌∷◌, filter, Option, Some, None}
use Rattle.std.proofs.Common.{sym, ap, subst, ◌∙◌, true≢false}
use Rattle.std.specs.List.{list_all}
use Rattle.std.specs.FinMap.Entries.{below_all}
use Rattle.kd_base.specs.ToolsLaws.{both_true, some_is}
use Rattle.kdcs_types.specs.declared.act.Change.{Change}
use Rattle.kdcs_types.specs.declared.act.Change.TheVariants.{Set, Remove}
use Rattle.kdcs_types.specs.declared.act.Changes.{Changes}
use Rattle.kdcs_types.specs.declared.act.Row.{Row}
use Rattle.kdcs_types.specs.declared.key.Key.{Key}
use Rattle.kdcs_types.specs.Difference.{difference}
use Rattle.kdcs_types.specs.DifferenceLaws.{difference_is_changes}
use Rattle.kdcs_types.specs.Keyed.{ascends, item_at, keyed}
use Rattle.kdcs_types.specs.KeyedLaws.{found_key, not_above}
use Rattle.kdcs_types.specs.KeyLaws.{key_eq_same}
use Rattle.kdcs_types.specs.Keys.{key_cmp, key_eq}
use Rattle.kdcs_types.specs.RowLaws.{changed_sorted, numbers_changed, rows_changed, same_tables}
use Rattle.kdcs_types.specs.Same.{row_same}
use Rattle.kdcs_types.specs.SameLaws.{row_same_itself, row_same_only}
use Rattle.kdcs_types.specs.TableLaws.{row_after}
use Rattle.kdcs_types.specs.Tables.{AreChanges, IsSortedTables, TableRows, change_at, change_fits, change_key, changed, row_at}
use Rattle.application_types.specs.Generation.{Generated}
use Rattle.abstract_monitor.specs.Endings.{durable}
use Rattle.laws_of_states.specs.DurableKeys.{key_is_durable}
use Rattle.laws_of_states.specs.DurableLaws.{row_at_durable}
use Rattle.laws_of_states.specs.ItemsLaws.{ascends_filter}
use Rattle.laws_of_states.specs.ListsLaws.{all_filter}
use Rattle.table_fit.specs.Weights.{row_left}
use Rattle.sync_points.specs.PointChanges.{is_real}
use Rattle.std.proofs.lemmas.Bool.{not-true, not-false}

-- the item that was found, where it passes
abbrev kept : {E : Type 0} → (E → Bool) → Option E → Option E
kept q None = None
kept q (Some e) = cond (q e) (Some e) None

module _ {E : Type 0} (key_of : E → Key) (q : E → Bool) (k : Key) where
  -- among those that pass, the item of a key is found where it passes
  found_kept : (es : List E) → IsTrue (ascends key_of es) → item_at key_of k (filter q es) ≡ kept q (item_at key_of k es)
  found_kept [] up = refl
  found_kept (e ∷ es) up =
      let parts = both_true (below_all key_cmp (key_of e) (keyed key_of es)) (ascends key_of es) up in
      by (key_eq k (key_of e)) refl (q e) refl parts.0 (found_kept es parts.1)
    where
      by : (a : Bool) → key_eq k (key_of e) ≡ a → (b : Bool) → q e ≡ b → IsTrue (below_all key_cmp (key_of e) (keyed key_of es)) → item_at key_of k (filter q es) ≡ kept q (item_at key_of k es)
          → item_at key_of k (cond b (e ∷ filter q es) (filter q es)) ≡ kept q (cond a (Some e) (item_at key_of k es))
      by true is true p above rest = ap (λ c. cond c (Some e) (item_at key_of k (filter q es))) is ∙ sym (ap (λ c. cond c (Some e) None) p)
      by true is false p above rest =
          rest
          ∙ ap (kept q) (subst (λ j. item_at key_of j es ≡ None) (sym (key_eq_same k (key_of e) is)) (not_above key_of (key_of e) (keyed key_of es) above))
          ∙ sym (ap (λ c. cond c (Some e) None) p)
      by false is true p above rest = ap (λ c. cond c (Some e) (item_at key_of k (filter q es))) is ∙ rest
      by false is false p above rest = rest

left_after : (c : Change) (before : Option Row) → row_after (Some c) before ≡ row_left c
left_after (Set r) before = refl
left_after (Remove k) before = refl

module _ (t : TableRows) (c : Changes) (sorted : IsSortedTables t) (are : AreChanges c.items) where
  abbrev real : Changes
  real = record c { items = filter (is_real t) c.items }

  at_real : (k : Key) → change_at k real.items ≡ kept (is_real t) (change_at k c.items)
  at_real k = found_kept change_key (is_real t) k c.items are.ascending

  real_changes : AreChanges real.items
  real_changes = record { ascending = ascends_filter change_key (is_real t) c.items are.ascending; fit = all_filter change_fits (is_real t) c.items are.fit }

  -- what is not real leaves the row that was there
  same_after : (k : Key) (o : Option Change) → change_at k c.items ≡ o → row_after (kept (is_real t) o) (row_at t k) ≡ row_after o (row_at t k)
  same_after k None e = refl
  same_after k (Some ch) e = by (is_real t ch) refl
    where
      by : (b : Bool) → is_real t ch ≡ b → row_after (cond b (Some ch) None) (row_at t k) ≡ row_after (Some ch) (row_at t k)
      by true r = refl
      by false r =
          sym (ap (row_at t) (found_key change_key k c.items ch e)) ∙ sym (row_same_only (row_left ch) (row_at t (change_key ch)) (not-false _ r)) ∙ sym (left_after ch (row_at t k))

  same_rows : (k : Key) → row_at (changed t real) k ≡ row_at (changed t c) k
  same_rows k =
      rows_changed t real real_changes k
      ∙ ap (λ o. row_after o (row_at t k)) (at_real k)
      ∙ same_after k (change_at k c.items) refl
      ∙ sym (rows_changed t c are k)

  same_changed : changed t real ≡ changed t c
  same_changed =
      let a = numbers_changed t real in
      let b = numbers_changed t c in
      same_tables (changed t real) (changed t c) (changed_sorted t real sorted real_changes) (changed_sorted t c sorted are) (a.0 ∙ sym b.0) (a.1 ∙ sym b.1) same_rows

  all_real : (k : Key) (ch : Change) → change_at k real.items ≡ Some ch → row_after (Some ch) (row_at t k) ≢ row_at t k
  all_real k ch e same = by (change_at k c.items) refl
    where
      ended : is_real t ch ≡ true → change_key ch ≡ k → ⊥
      ended r key =
          true≢false (
          sym (row_same_itself (row_at t k))
          ∙ ap (λ o. row_same o (row_at t k)) (sym same ∙ left_after ch (row_at t k))
          ∙ ap (λ j. row_same (row_left ch) (row_at t j)) (sym key)
          ∙ not-true _ r
          )

      by : (o : Option Change) → change_at k c.items ≡ o → ⊥
      by None f = absurd (none (sym (ap (kept (is_real t)) f) ∙ sym (at_real k) ∙ e))
        where
          none : None ≡ Some ch → ⊥
          none h = cc
      by (Some other) f = pick (is_real t other) refl (sym (ap (kept (is_real t)) f) ∙ sym (at_real k) ∙ e)
        where
          pick : (b : Bool) → is_real t other ≡ b → cond b (Some other) None ≡ Some ch → ⊥
          pick true r is =
              let same_one = some_is other ch is in
              ended (subst (λ x. is_real t x ≡ true) same_one r) (subst (λ x. change_key x ≡ k) same_one (found_key change_key k c.items other f))
          pick false r is = none is
            where
              none : None ≡ Some ch → ⊥
              none h = cc

  pub difference_is_real : difference t (changed t c) ≡ real
  difference_is_real =
      ap (difference t) (sym same_changed) ∙ difference_is_changes t real sorted (record { changes = real_changes; real = all_real })

-- a change of a row that outlives a stop is as real in the durable part
pub real_in_durable : (g : Generated) (t : TableRows) (cs : List Change) → IsTrue (list_all (λ c. key_is_durable g (change_key c)) cs) → filter (is_real (durable g t)) cs ≡ filter (is_real t) cs
real_in_durable g t [] h = refl
real_in_durable g t (c ∷ cs) h =
    let parts = both_true (key_is_durable g (change_key c)) (list_all (λ c. key_is_durable g (change_key c)) cs) h in
    let same : is_real (durable g t) c ≡ is_real t c = ap (λ o. not (row_same (row_left c) o)) (row_at_durable g t (change_key c) ∙ ap (λ b. cond b (row_at t (change_key c)) None) parts.0) in
    (λ i. cond (same i) (c ∷ real_in_durable g t cs parts.1 i) (real_in_durable g t cs parts.1 i))
