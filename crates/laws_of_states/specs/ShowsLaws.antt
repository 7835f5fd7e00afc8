-- KDCOUT, PRINT and TICK: what the changes of their commits are, and what they make.
use Rattle.std.specs.Prelude.{◌≡◌, ◌≢◌, refl, ℕ, Bool, true, false, cond, IsTrue, IsSome, List, [], ◌∷◌, ◌++◌, Option, Some, None}
use Rattle.std.proofs.Common.{inl, inr, sym, ap, subst, ◌∙◌, true≢false}
use Rattle.std.specs.FinMap.Entries.{below_all}
use Rattle.std.specs.Option.{option_eq, option_map}
use Rattle.kd_base.specs.ToolsLaws.{both_true, some_is}
use Rattle.kdcs_types.specs.declared.act.Change.{Change}
use Rattle.kdcs_types.specs.declared.act.Change.TheVariants.{Set, Remove}
use Rattle.kdcs_types.specs.declared.act.Changes.{Changes}
use Rattle.kdcs_types.specs.declared.act.Row.{Row}
use Rattle.kdcs_types.specs.declared.act.Row.TheVariants as row
use Rattle.kdcs_types.specs.declared.key.Key.{Key}
use Rattle.kdcs_types.specs.declared.key.Key.TheVariants as key
use Rattle.kdcs_types.specs.declared.service.Job.{Job}
use Rattle.kdcs_types.specs.declared.service.JobValue.{JobValue}
use Rattle.kdcs_types.specs.Difference.{change_to, difference, differing, keys_of, noted_unless}
use Rattle.kdcs_types.specs.DifferenceLaws.{difference_is_changes}
use Rattle.kdcs_types.specs.Keyed.{ascends, item_at, keyed, with_item}
use Rattle.kdcs_types.specs.KeyedLaws.{ascends_with, found_key, item_at_with, not_above, same_items}
use Rattle.kdcs_types.specs.KeyLaws.{key_eq_itself, key_eq_same}
use Rattle.kdcs_types.specs.Keys.{key_cmp, key_eq}
use Rattle.kdcs_types.specs.RowLaws.{changed_sorted}
use Rattle.kdcs_types.specs.Same.{job_value_eq, row_same}
use Rattle.kdcs_types.specs.SameLaws.{row_same_itself, row_same_only}
use Rattle.kdcs_types.specs.TableLaws.{row_after}
use Rattle.kdcs_types.specs.Tables.{TableRows, AreChanges, IsSortedTables, change_at, change_key, changed, job_key, job_of, job_row, row_at, shown_key, shown_of, shown_row}
use Rattle.application_types.specs.Generation.{Generated}
use Rattle.abstract_monitor.specs.Bytes.{Bytes}
use Rattle.abstract_monitor.specs.Commands.{shown_tables}
use Rattle.abstract_monitor.specs.Endings.{durable}
use Rattle.laws_of_states.specs.DurableLaws.{durable_sorted}
use Rattle.laws_of_states.specs.EndsLaws.{due_job_found}
use Rattle.laws_of_states.specs.ItemsLaws.{IsIn}
use Rattle.laws_of_states.specs.CommitLaws.{durable_difference, shown_set, shown_changes, tick_changes, ShowsMakeTables, DueJobsStand, TicksMakeTables}

-- ---- shown messages

-- the same message
value_only : (v w : JobValue) → job_value_eq v w ≡ true → v ≡ w
value_only v w e = ap (in_row w) (row_same_only (Some (row.Shown [] v)) (Some (row.Shown [] w)) e)
  where
    in_row : JobValue → Option Row → JobValue
    in_row other (Some (row.Shown lterm value)) = value
    in_row other _ = other

value_itself : (v : JobValue) → job_value_eq v v ≡ true
value_itself v = row_same_itself (Some (row.Shown [] v))

shows_only : (v : JobValue) (o : Option JobValue) → option_eq job_value_eq (Some v) o ≡ true → o ≡ Some v
shows_only v None e = absurd (true≢false (sym e))
shows_only v (Some w) e = ap Some (sym (value_only v w e))

-- an item that is there is put in without a change
module _ {E : Type 0} (key_of : E → Key) (e : E) (es : List E) (up : IsTrue (ascends key_of es)) where
  set_again : item_at key_of (key_of e) es ≡ Some e → with_item key_of e es ≡ es
  set_again there = same_items key_of (with_item key_of e es) es (ascends_with key_of e es up) up (λ q. item_at_with key_of q e es ∙ by q (key_eq q (key_of e)) refl)
    where
      by : (q : Key) (b : Bool) → key_eq q (key_of e) ≡ b → cond b (Some e) (item_at key_of q es) ≡ item_at key_of q es
      by q true same = sym (ap (λ k. item_at key_of k es) (key_eq_same q (key_of e) same) ∙ there)
      by q false apart = refl

module _ (t : TableRows) (lterm : Bytes) (job : Job) (order : IsSortedTables t) where
  -- the item of the LTERM
  abbrev there : Option (Bytes × JobValue)
  there = item_at shown_key (key.Shown lterm) t.shown

  shown_item : (o : Option (Bytes × JobValue)) → there ≡ o → option_map (λ (r : Bytes × JobValue). r.1) o ≡ Some job.value → there ≡ Some (lterm, job.value)
  shown_item None e is = absurd cc
  shown_item (Some r) e is = e ∙ both (under (found_key shown_key (key.Shown lterm) t.shown r e)) (some_is r.1 job.value is)
    where
      under : shown_key r ≡ key.Shown lterm → r.0 ≡ lterm
      under same = cc

      both : r.0 ≡ lterm → r.1 ≡ job.value → Some r ≡ Some (lterm, job.value)
      both a b i = Some (a i, b i)

  abbrev changes_by : Bool → Changes
  changes_by b = record { clock = t.clock; next_job = t.next_job; items = Remove (key.Job job.number) ∷ shown_set b lterm job.value }

  abbrev shows_it : Bool
  shows_it = option_eq job_value_eq (Some job.value) (shown_of t lterm)

  are_by : (b : Bool) → AreChanges (changes_by b).items
  are_by true = record { ascending = refl; fit = refl }
  are_by false = record { ascending = refl; fit = refl }

  made_by : (b : Bool) → shows_it ≡ b → changed t (changes_by b) ≡ shown_tables t lterm job
  made_by true e =
      let set = set_again shown_key (lterm, job.value) t.shown order.shown (shown_item there refl (shows_only job.value (shown_of t lterm) e)) in
      ap (λ (l : List (Bytes × JobValue)). record (changed t (changes_by true)) { shown = l }) (sym set)
  made_by false e = refl

  shown_sorted : IsSortedTables (shown_tables t lterm job)
  shown_sorted = subst (λ u. IsSortedTables u) (made_by shows_it refl) (changed_sorted t (changes_by shows_it) order (are_by shows_it))

  module _ (stands : IsSome (job_of t job.number)) where
    -- the job stood in the tables
    job_goes : row_after (Some (Remove (key.Job job.number))) (row_at t (key.Job job.number)) ≢ row_at t (key.Job job.number)
    job_goes same = by (item_at job_key (key.Job job.number) t.jobs) stands same
      where
        by : (o : Option Job) → IsSome (option_map (λ (j : Job). j.value) o) → None ≡ option_map job_row o → ⊥
        by None is e = true≢false (sym is)
        by (Some j) is e = cc

    -- another message was shown, or none
    message_comes : shows_it ≡ false → row_after (Some (Set (row.Shown lterm job.value))) (row_at t (key.Shown lterm)) ≢ row_at t (key.Shown lterm)
    message_comes other same = by there refl same
      where
        value_of : Option Row → Option JobValue
        value_of (Some (row.Shown l value)) = Some value
        value_of _ = None

        by : (o : Option (Bytes × JobValue)) → there ≡ o → Some (row.Shown lterm job.value) ≡ option_map shown_row o → ⊥
        by None e is = cc
        by (Some r) e is =
            let value : Some job.value ≡ Some r.1 = ap value_of is in
            true≢false (sym (value_itself job.value) ∙ ap (option_eq job_value_eq (Some job.value)) (value ∙ sym (ap (option_map (λ (p : Bytes × JobValue). p.1)) e)) ∙ other)

    real_by : (b : Bool) → shows_it ≡ b → (k : Key) (ch : Change) → change_at k (changes_by b).items ≡ Some ch → row_after (Some ch) (row_at t k) ≢ row_at t k
    real_by b e k ch is same = first (key_eq k (key.Job job.number)) refl is
      where
        -- what is found is real where it is at its key
        real : (c : Change) → key_eq k (change_key c) ≡ true → (row_after (Some c) (row_at t (change_key c)) ≢ row_at t (change_key c)) → Some c ≡ Some ch → ⊥
        real c at differs found =
            differs (subst (λ q. row_after (Some c) (row_at t q) ≡ row_at t q) (key_eq_same k (change_key c) at) (ap (λ d. row_after (Some d) (row_at t k)) (some_is c ch found) ∙ same))

        second : (a d : Bool) → shows_it ≡ d → key_eq k (key.Shown lterm) ≡ a → change_at k (shown_set d lterm job.value) ≡ Some ch → ⊥
        second a true shown at found = cc
        second true false shown at found = real (Set (row.Shown lterm job.value)) at (message_comes shown) (sym (ap (λ c. cond c (Some (Set (row.Shown lterm job.value))) None) at) ∙ found)
        second false false shown at found = none (sym (ap (λ c. cond c (Some (Set (row.Shown lterm job.value))) None) at) ∙ found)
          where
            none : None ≡ Some ch → ⊥
            none h = cc

        first : (a : Bool) → key_eq k (key.Job job.number) ≡ a → cond a (Some (Remove (key.Job job.number))) (change_at k (shown_set b lterm job.value)) ≡ Some ch → ⊥
        first true at found = real (Remove (key.Job job.number)) at job_goes found
        first false at found = second (key_eq k (key.Shown lterm)) b e refl found

    difference_is : difference t (shown_tables t lterm job) ≡ shown_changes t lterm job
    difference_is =
        ap (difference t) (sym (made_by shows_it refl))
        ∙ difference_is_changes t (changes_by shows_it) order (record { changes = are_by shows_it; real = real_by shows_it refl })

shown_difference : (g : Generated) (t : TableRows) (lterm : Bytes) (job : Job) → IsSortedTables t → IsSome (job_of t job.number) → durable_difference g t (shown_tables t lterm job) ≡ shown_changes t lterm job
unfolding durable
shown_difference g t lterm job order stands = difference_is (durable g t) lterm job (durable_sorted g t order) stands

pub shown_made : ShowsMakeTables
shown_made g t lterm job order stands = record {
  exact = shown_difference g t lterm job order stands;
  changes = are_by t lterm job order (shows_it t lterm job order);
  order = shown_sorted t lterm job order;
  tables = made_by t lterm job order (shows_it t lterm job order) refl;
}

-- ---- the due job

-- what is in a list in order is found there
in_found : {E : Type 0} (key_of : E → Key) (e : E) (es : List E) → IsTrue (ascends key_of es) → IsIn e es → item_at key_of (key_of e) es ≡ Some e
in_found key_of e [] up is = absurd is
in_found {E} key_of e (x ∷ xs) up (inl same) =
    subst (λ (y : E). item_at key_of (key_of e) (y ∷ xs) ≡ Some e) (sym same) (ap (λ b. cond b (Some e) (item_at key_of (key_of e) xs)) (key_eq_itself (key_of e)))
in_found {E} key_of e (x ∷ xs) up (inr later) =
    let parts = both_true (below_all key_cmp (key_of x) (keyed key_of xs)) (ascends key_of xs) up in
    by (key_eq (key_of e) (key_of x)) refl parts.0 (in_found key_of e xs parts.1 later)
  where
    by : (b : Bool) → key_eq (key_of e) (key_of x) ≡ b → IsTrue (below_all key_cmp (key_of x) (keyed key_of xs)) → item_at key_of (key_of e) xs ≡ Some e → cond b (Some x) (item_at key_of (key_of e) xs) ≡ Some e
    by true same above found =
        absurd (none (sym (ap (λ k. item_at key_of k xs) (key_eq_same (key_of e) (key_of x) same) ∙ not_above key_of (key_of x) (keyed key_of xs) above) ∙ found))
      where
        none : None ≡ Some e → ⊥
        none h = cc
    by false apart above found = found

pub due_stands : DueJobsStand
due_stands s lterm job order e =
    ap (option_map (λ (j : Job). j.value)) (in_found job_key job s.tables.jobs order.jobs (due_job_found s lterm job e).there)

-- ---- ticks

-- where all rows are the same, there is no change
no_change : (old new : TableRows) → ((k : Key) → row_at old k ≡ row_at new k) → (ks : List Key) → differing old new ks ≡ []
unfolding differing
no_change old new same [] = refl
no_change old new same (k ∷ ks) =
    ap (λ b. noted_unless b (change_to k (row_at new k)) (differing old new ks)) (ap (λ o. row_same o (row_at new k)) (same k) ∙ row_same_itself (row_at new k)) ∙ no_change old new same ks

same_rows : (g : Generated) (t : TableRows) (clock : ℕ) (k : Key) → row_at (durable g t) k ≡ row_at (durable g (record t { clock = clock })) k
unfolding durable
same_rows g t clock (key.Gssb name) = refl
same_rows g t clock _ = refl

tick_difference : (g : Generated) (t : TableRows) (clock : ℕ) → durable_difference g t (record t { clock = clock }) ≡ tick_changes t clock
unfolding durable
tick_difference g t clock =
    let new = record t { clock = clock } in
    let items = no_change (durable g t) (durable g new) (same_rows g t clock) (keys_of (durable g t) ++ keys_of (durable g new)) in
    λ i. record { clock = clock; next_job = t.next_job; items = items i }

pub tick_made : TicksMakeTables
tick_made g t clock = record { exact = tick_difference g t clock; changes = record { ascending = refl; fit = refl }; tables = refl }
