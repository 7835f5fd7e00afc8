-- Laws: a number that each row adds to the whole: what changes make of the whole is told by the changes alone.
use Rattle.std.specs.Prelude.{◌≡◌, refl, ℕ, ◌+◌, Bool, true, false, cond, not, IsTrue, List, [], ◌∷◌, sum_by, Option, Some, None}
use Rattle.std.proofs.Common.{sym, ap, subst, ◌∙◌, arith, true≢false}
use Rattle.std.proofs.lemmas.List.Sums.{sum_by-cons}
use Rattle.std.specs.Cmp.{tied_itself}
use Rattle.std.specs.List.{list_all}
use Rattle.std.specs.Option.{option_map}
use Rattle.std.specs.Ordering.{is_lt}
use Rattle.std.specs.FinMap.Entries.{below_all}
use Rattle.kd_base.specs.ToolsLaws.{both_true}
use Rattle.kdcs_types.specs.declared.act.Change.{Change}
use Rattle.kdcs_types.specs.declared.act.Change.TheVariants.{Set, Remove}
use Rattle.kdcs_types.specs.declared.act.Changes.{Changes}
use Rattle.kdcs_types.specs.declared.act.Row.{Row}
use Rattle.kdcs_types.specs.declared.act.Row.TheVariants.{Gssb as GssbRow, Tls as TlsRow, Uls as UlsRow, Service as ServiceRow, Job as JobRow, Shown as ShownRow}
use Rattle.kdcs_types.specs.declared.key.Key.{Key}
use Rattle.kdcs_types.specs.declared.key.Key.TheVariants.{Gssb as GssbKey, Tls as TlsKey, Uls as UlsKey, Service as ServiceKey, Job as JobKey, Shown as ShownKey}
use Rattle.kdcs_types.specs.declared.key.ServiceId.{ServiceId}
use Rattle.kdcs_types.specs.Keyed.{ascends, item_at, keyed, with_item, without_item}
use Rattle.kdcs_types.specs.KeyedLaws.{ascends_with, ascends_without, item_at_with, item_at_without, not_above, same_items}
use Rattle.kdcs_types.specs.Keys.{id_eq, key_cmp, key_eq}
use Rattle.kdcs_types.specs.KeyLaws.{id_eq_same, key_eq_itself, key_eq_same, key_total}
use Rattle.kdcs_types.specs.RowLaws.{numbers_apart, row_at_with_change, sorted_with_change}
use Rattle.kdcs_types.specs.TableLaws.{row_after}
use Rattle.kdcs_types.specs.Tables.{AreChanges, IsSortedTables, TableRows, change_fits, change_key, changed, gssb_key, gssb_row, job_key, job_row, row_at, service_fits, service_key, service_row}
use Rattle.kdcs_types.specs.Tables.{shown_key, shown_row, tls_key, tls_row, uls_key, uls_row, with_change, with_changes}
use Rattle.table_fit.specs.Weights.{made_weight, replaced_weight, row_left, row_weight, weight}

-- ---- one list

module _ {E : Type 0} (key_of : E → Key) (f : E → ℕ) where
  abbrev weighed : Option E → ℕ
  weighed None = 0
  weighed (Some e) = f e

  sum_without : (k : Key) (es : List E) → IsTrue (ascends key_of es) → sum_by f (without_item key_of k es) + weighed (item_at key_of k es) ≡ sum_by f es
  sum_without k [] up = refl
  sum_without k (e ∷ es) up =
      let parts = both_true (below_all key_cmp (key_of e) (keyed key_of es)) (ascends key_of es) up in
      by (key_eq k (key_of e)) refl parts.0 (sum_without k es parts.1)
    where
      by : (b : Bool) → key_eq k (key_of e) ≡ b → IsTrue (below_all key_cmp (key_of e) (keyed key_of es)) → sum_by f (without_item key_of k es) + weighed (item_at key_of k es) ≡ sum_by f es
          → sum_by f (cond (not b) (e ∷ without_item key_of k es) (without_item key_of k es)) + weighed (cond b (Some e) (item_at key_of k es)) ≡ sum_by f (e ∷ es)
      by true is above rest =
          let none : item_at key_of k es ≡ None = subst (λ j. item_at key_of j es ≡ None) (sym (key_eq_same k (key_of e) is)) (not_above key_of (key_of e) (keyed key_of es) above) in
          omega (arith, rest, ap weighed none, sum_by-cons f e es)
      by false is above rest = omega (arith, rest, sum_by-cons f e es, sum_by-cons f e (without_item key_of k es))

  -- without the item of a key it is the same list, whether the item was set before or not
  without_with : (e : E) (es : List E) → IsTrue (ascends key_of es) → without_item key_of (key_of e) (with_item key_of e es) ≡ without_item key_of (key_of e) es
  without_with e es up =
      same_items key_of _ _ (ascends_without key_of (key_of e) _ (ascends_with key_of e es up)) (ascends_without key_of (key_of e) es up)
      (λ q. item_at_without key_of q (key_of e) (with_item key_of e es) ∙ ap (cond (key_eq q (key_of e)) None) (item_at_with key_of q e es) ∙ twice (key_eq q (key_of e)) (item_at key_of q es) ∙ sym (item_at_without key_of q (key_of e) es))
    where
      twice : (b : Bool) (o : Option E) → cond b None (cond b (Some e) o) ≡ cond b None o
      twice true o = refl
      twice false o = refl

  sum_with : (e : E) (es : List E) → IsTrue (ascends key_of es) → sum_by f (with_item key_of e es) + weighed (item_at key_of (key_of e) es) ≡ sum_by f es + f e
  sum_with e es up =
      let found : item_at key_of (key_of e) (with_item key_of e es) ≡ Some e = item_at_with key_of (key_of e) e es ∙ ap (λ b. cond b (Some e) (item_at key_of (key_of e) es)) (key_eq_itself (key_of e)) in
      omega (arith, sum_without (key_of e) (with_item key_of e es) (ascends_with key_of e es up), ap weighed found, ap (sum_by f) (without_with e es up), sum_without (key_of e) es up)

-- ---- the tables

module _ (m : Row → ℕ) where
  mapped : {E : Type 0} (key_of : E → Key) (row_of : E → Row) (o : Option E) → row_weight m (option_map row_of o) ≡ weighed key_of (λ e. m (row_of e)) o
  mapped key_of row_of None = refl
  mapped key_of row_of (Some e) = refl

  set_weight : {E : Type 0} (key_of : E → Key) (row_of : E → Row) (e : E) (es : List E) → IsTrue (ascends key_of es)
      → sum_by (λ e. m (row_of e)) (with_item key_of e es) + row_weight m (option_map row_of (item_at key_of (key_of e) es)) ≡ sum_by (λ e. m (row_of e)) es + m (row_of e)
  set_weight key_of row_of e es up = ap (λ n. sum_by (λ e. m (row_of e)) (with_item key_of e es) + n) (mapped key_of row_of (item_at key_of (key_of e) es)) ∙ sum_with key_of (λ e. m (row_of e)) e es up

  gone_weight : {E : Type 0} (key_of : E → Key) (row_of : E → Row) (k : Key) (es : List E) → IsTrue (ascends key_of es)
      → sum_by (λ e. m (row_of e)) (without_item key_of k es) + row_weight m (option_map row_of (item_at key_of k es)) ≡ sum_by (λ e. m (row_of e)) es
  gone_weight key_of row_of k es up = ap (λ n. sum_by (λ e. m (row_of e)) (without_item key_of k es) + n) (mapped key_of row_of (item_at key_of k es)) ∙ sum_without key_of (λ e. m (row_of e)) k es up

  one_change : (t : TableRows) (c : Change) → IsSortedTables t → IsTrue (change_fits c) → weight m (with_change t c) + row_weight m (row_at t (change_key c)) ≡ weight m t + row_weight m (row_left c)
  one_change t (Set (GssbRow n c)) h f = let e = set_weight gssb_key gssb_row (n, c) t.gssbs h.gssbs in omega (arith, e)
  one_change t (Set (TlsRow b l c)) h f = let e = set_weight tls_key tls_row (b, l, c) t.tlss h.tlss in omega (arith, e)
  one_change t (Set (UlsRow b u c)) h f = let e = set_weight uls_key uls_row (b, u, c) t.ulss h.ulss in omega (arith, e)
  one_change t (Set (ServiceRow i s)) h f =
      subst
      (λ (k : ServiceId). weight m (with_change t (Set (ServiceRow k s))) + row_weight m (row_at t (ServiceKey k)) ≡ weight m t + m (ServiceRow k s))
      (id_eq_same s.id i (both_true (id_eq s.id i) (service_fits s) f).0)
      (let e = set_weight service_key service_row s t.services h.services in omega (arith, e))
  one_change t (Set (JobRow n v)) h f = let e = set_weight job_key job_row (record { number = n; value = v }) t.jobs h.jobs in omega (arith, e)
  one_change t (Set (ShownRow l v)) h f = let e = set_weight shown_key shown_row (l, v) t.shown h.shown in omega (arith, e)
  one_change t (Remove (GssbKey n)) h f = let e = gone_weight gssb_key gssb_row (GssbKey n) t.gssbs h.gssbs in omega (arith, e)
  one_change t (Remove (TlsKey b l)) h f = let e = gone_weight tls_key tls_row (TlsKey b l) t.tlss h.tlss in omega (arith, e)
  one_change t (Remove (UlsKey b u)) h f = let e = gone_weight uls_key uls_row (UlsKey b u) t.ulss h.ulss in omega (arith, e)
  one_change t (Remove (ServiceKey i)) h f = let e = gone_weight service_key service_row (ServiceKey i) t.services h.services in omega (arith, e)
  one_change t (Remove (JobKey n)) h f = let e = gone_weight job_key job_row (JobKey n) t.jobs h.jobs in omega (arith, e)
  one_change t (Remove (ShownKey l)) h f = let e = gone_weight shown_key shown_row (ShownKey l) t.shown h.shown in omega (arith, e)

  apart : (a b : Key) → IsTrue (is_lt (key_cmp a b)) → key_eq b a ≡ false
  apart a b less = by (key_eq b a) refl
    where
      by : (e : Bool) → key_eq b a ≡ e → e ≡ false
      by true is = absurd (true≢false (sym less ∙ ap (λ k. is_lt (key_cmp a k)) (key_eq_same b a is) ∙ ap is_lt (tied_itself key_total a)))
      by false is = refl

  later_rows : (t : TableRows) (c : Change) → IsTrue (change_fits c) → (cs : List Change) → IsTrue (below_all key_cmp (change_key c) (keyed change_key cs)) → replaced_weight m (with_change t c) cs ≡ replaced_weight m t cs
  later_rows t c f [] above = refl
  later_rows t c f (d ∷ ds) above =
      let parts = both_true (is_lt (key_cmp (change_key c) (change_key d))) (below_all key_cmp (change_key c) (keyed change_key ds)) above in
      let row : row_at (with_change t c) (change_key d) ≡ row_at t (change_key d) =
      row_at_with_change t c (change_key d) f ∙ ap (λ b. cond b (row_after (Some c) (row_at t (change_key d))) (row_at t (change_key d))) (apart (change_key c) (change_key d) parts.0) in
      omega (
        arith,
        ap (row_weight m) row,
        later_rows t c f ds parts.1,
        sum_by-cons (λ c. row_weight m (row_at t (change_key c))) d ds,
        sum_by-cons (λ e. row_weight m (row_at (with_change t c) (change_key e))) d ds,
      )

  -- the whole after changes, and what they replace, is the whole before and what they make
  pub changes_weigh : (t : TableRows) (cs : List Change) → IsSortedTables t → IsTrue (ascends change_key cs) → IsTrue (list_all change_fits cs) → weight m (with_changes t cs) + replaced_weight m t cs ≡ weight m t + made_weight m cs
  changes_weigh t [] h up fit = refl
  changes_weigh t (c ∷ cs) h up fit =
      let ups = both_true (below_all key_cmp (change_key c) (keyed change_key cs)) (ascends change_key cs) up in
      let fits = both_true (change_fits c) (list_all change_fits cs) fit in
      omega (
        arith,
        changes_weigh (with_change t c) cs (sorted_with_change t c h fits.0) ups.1 fits.1,
        one_change t c h fits.0,
        later_rows t c fits.0 cs ups.0,
        sum_by-cons (λ d. row_weight m (row_at t (change_key d))) c cs,
        sum_by-cons (λ d. row_weight m (row_left d)) c cs,
      )

  -- ---- with other numbers

  with_numbers : (t : TableRows) (clock next : ℕ) (k : Key) → row_at (record t { clock = clock; next_job = next }) k ≡ row_at t k
  with_numbers t clock next (GssbKey n) = refl
  with_numbers t clock next _ = refl

  same_replaced : (t : TableRows) (clock next : ℕ) (cs : List Change) → replaced_weight m (record t { clock = clock; next_job = next }) cs ≡ replaced_weight m t cs
  same_replaced t clock next [] = refl
  same_replaced t clock next (c ∷ cs) =
      let u = record t { clock = clock; next_job = next } in
      omega (
        arith,
        ap (row_weight m) (with_numbers t clock next (change_key c)),
        same_replaced t clock next cs,
        sum_by-cons (λ (d : Change). row_weight m (row_at u (change_key d))) c cs,
        sum_by-cons (λ (d : Change). row_weight m (row_at t (change_key d))) c cs,
      )

  pub changed_weighs : (t : TableRows) (c : Changes) → IsSortedTables t → AreChanges c.items → weight m (changed t c) + replaced_weight m t c.items ≡ weight m t + made_weight m c.items
  changed_weighs t c h are =
      let e = changes_weigh (record t { clock = c.clock; next_job = c.next_job }) c.items (numbers_apart t c.clock c.next_job h) are.ascending are.fit in
      omega (arith, e, same_replaced t c.clock c.next_job c.items)
