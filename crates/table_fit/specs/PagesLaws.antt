-- Laws: how many pages the durable rows of tables take, and that their values are short where they fit into the pool.
use Rattle.std.specs.Prelude.{◌≡◌, refl, ℕ, ◌+◌, ◌*◌, ◌≤◌, ◌<◌, Bool, true, false, cond, IsTrue, List, [], ◌∷◌, length, filter, sum_by, Option, Some, None}
use Rattle.std.proofs.Common.{ap, subst, ◌∙◌, arith}
use Rattle.std.proofs.Math.Nat.{mul-le-mul_left, mul-le-mul_right}
use Rattle.std.proofs.lemmas.Bool.{lt-ltb}
use Rattle.std.proofs.lemmas.List.Sums.{sum_by-cons}
use Rattle.std.specs.FinMap.Entries.{below_all}
use Rattle.std.specs.List.{list_all}
use Rattle.std.specs.Option.{option_map}
use Rattle.kd_base.specs.ToolsLaws.{both_true, some_is, true_both}
use Rattle.kd_records.specs.Charge.{IsBlockSize}
use Rattle.kd_records.specs.ChargeLaws.{block_from, block_upto, charge_covers}
use Rattle.kdcs_types.specs.declared.act.Change.{Change}
use Rattle.kdcs_types.specs.declared.act.Change.TheVariants.{Set, Remove}
use Rattle.kdcs_types.specs.declared.act.Changes.{Changes}
use Rattle.kdcs_types.specs.declared.act.Row.{Row}
use Rattle.kdcs_types.specs.declared.key.Key.{Key}
use Rattle.kdcs_types.specs.declared.key.Key.TheVariants.{Gssb as GssbKey, Tls as TlsKey, Uls as UlsKey, Service as ServiceKey, Job as JobKey, Shown as ShownKey}
use Rattle.kdcs_types.specs.declared.service.Job.{Job}
use Rattle.kdcs_types.specs.declared.service.JobValue.{JobValue}
use Rattle.kdcs_types.specs.declared.service.Service.{Service}
use Rattle.kdcs_types.specs.Keyed.{ascends, item_at, keyed}
use Rattle.kdcs_types.specs.KeyedLaws.{found_key}
use Rattle.kdcs_types.specs.KeyLaws.{key_eq_itself}
use Rattle.kdcs_types.specs.Keys.{key_cmp, key_eq}
use Rattle.kdcs_types.specs.RowLaws.{row_at_with_changes}
use Rattle.kdcs_types.specs.TableLaws.{row_after}
use Rattle.kdcs_types.specs.Tables.{AreChanges, IsSortedTables, TableRows, change_at, change_fits, change_key, changed, gssb_key, gssb_row, job_key, job_row, row_at, row_key, service_key, service_row}
use Rattle.kdcs_types.specs.Tables.{shown_key, shown_row, tls_key, tls_row, uls_key, uls_row, with_change, with_changes}
use Rattle.application_types.specs.Soundness.{AreLimits}
use Rattle.application_types.specs.Generation.{Generated}
use Rattle.abstract_monitor.specs.Bytes.{Bytes}
use Rattle.abstract_monitor.specs.Charges.{charge_of, job_length, service_length, total_charge}
use Rattle.abstract_monitor.specs.Endings.{durable, is_durable}
use Rattle.laws_of_states.specs.DurableLaws.{row_at_durable}
use Rattle.laws_of_states.specs.DurableKeys.{key_is_durable}
use Rattle.table_fit.specs.Lengths.{value_length}
use Rattle.table_fit.specs.Pages.{FitPool, is_short, leaves_short, longest, row_charge, value_charge}
use Rattle.table_fit.specs.Weights.{made_weight, replaced_weight, row_left, row_weight, weight}
use Rattle.table_fit.specs.WeightsLaws.{changed_weighs}

-- ---- the pages of the durable part

sum_some : {X : Type 0} (f : X → ℕ) (p : X → Bool) (xs : List X) → sum_by f (filter p xs) ≡ sum_by (λ x. cond (p x) (f x) 0) xs
sum_some f p [] = refl
sum_some {X} f p (x ∷ xs) = by (p x) refl (sum_some f p xs)
  where
    by : (b : Bool) → p x ≡ b → sum_by f (filter p xs) ≡ sum_by (λ x. cond (p x) (f x) 0) xs → sum_by f (cond b (x ∷ filter p xs) (filter p xs)) ≡ sum_by (λ x. cond (p x) (f x) 0) (x ∷ xs)
    by true e rest = omega (arith, rest, sum_by-cons f x (filter p xs), sum_by-cons (λ x. cond (p x) (f x) 0) x xs, ap {B = ℕ} (λ b. cond b (f x) 0) e)
    by false e rest = omega (arith, rest, sum_by-cons (λ x. cond (p x) (f x) 0) x xs, ap {B = ℕ} (λ b. cond b (f x) 0) e)

pages_are : (g : Generated) (t : TableRows) → total_charge g.limits.blksize (durable g t) ≡ weight (row_charge g) t
unfolding total_charge durable
pages_are g t =
    let b = g.limits.blksize in
    ap
    (λ (n : ℕ).
    sum_by (λ (r : Bytes × Bytes). charge_of b (length r.1)) t.gssbs
    + sum_by (λ (r : Bytes × Bytes × Bytes). charge_of b (length r.2)) t.tlss
    + sum_by (λ (r : Bytes × Bytes × Bytes). charge_of b (length r.2)) t.ulss
    + n
    + sum_by (λ (j : Job). charge_of b (job_length j.value)) t.jobs
    + sum_by (λ (r : Bytes × JobValue). charge_of b (job_length r.1)) t.shown)
    (sum_some (λ (s : Service). charge_of b (service_length s)) (λ (s : Service). is_durable g s.id) t.services)

-- the pages after changes and those of the rows replaced are the pages before and those of the rows made
pub pages_changed : (g : Generated) (t : TableRows) (c : Changes) → IsSortedTables t → AreChanges c.items
    → total_charge g.limits.blksize (durable g (changed t c)) + replaced_weight (row_charge g) t c.items ≡ total_charge g.limits.blksize (durable g t) + made_weight (row_charge g) c.items
pages_changed g t c h are = omega (arith, changed_weighs (row_charge g) t c h are, pages_are g t, pages_are g (changed t c))

-- ---- the row of a key

module _ (g : Generated) (t : TableRows) where
  module _ {E : Type 0} (key_of : E → Key) (row_of : E → Row) (same : (e : E) → row_key (row_of e) ≡ key_of e) (k : Key) (es : List E) where
    abbrev taken : Option E → ℕ
    taken o = row_weight (value_charge g.limits.blksize) (option_map row_of o)

    charged_at : row_weight (row_charge g) (option_map row_of (item_at key_of k es)) ≡ cond (key_is_durable g k) (taken (item_at key_of k es)) 0
    charged_at = by (item_at key_of k es) refl
      where
        none : (b : Bool) → taken None ≡ cond b (taken None) 0
        none true = refl
        none false = refl

        by : (o : Option E) → item_at key_of k es ≡ o → row_weight (row_charge g) (option_map row_of o) ≡ cond (key_is_durable g k) (taken o) 0
        by None e = none (key_is_durable g k)
        by (Some x) e = ap (λ (q : Key). cond (key_is_durable g q) (taken (Some x)) 0) (same x ∙ found_key key_of k es x e)

  -- the row of a key takes its pages where the key outlives a stop
  pub charge_at : (k : Key) → row_weight (row_charge g) (row_at t k) ≡ cond (key_is_durable g k) (row_weight (value_charge g.limits.blksize) (row_at t k)) 0
  charge_at (GssbKey n) = charged_at gssb_key gssb_row (λ e. refl) (GssbKey n) t.gssbs
  charge_at (TlsKey n l) = charged_at tls_key tls_row (λ e. refl) (TlsKey n l) t.tlss
  charge_at (UlsKey n l) = charged_at uls_key uls_row (λ e. refl) (UlsKey n l) t.ulss
  charge_at (ServiceKey i) = charged_at service_key service_row (λ e. refl) (ServiceKey i) t.services
  charge_at (JobKey n) = charged_at job_key job_row (λ e. refl) (JobKey n) t.jobs
  charge_at (ShownKey l) = charged_at shown_key shown_row (λ e. refl) (ShownKey l) t.shown

-- ---- short values

short_by : (b n c : ℕ) → 29 + n ≤ c * b → c ≤ 30000 → b ≤ 8192 → n < longest
short_by b n c h few upto = omega (arith, mul-le-mul_left c upto, mul-le-mul_right 8192 few)

-- a value of few pages is short
few_pages : (b n : ℕ) → IsBlockSize b → charge_of b n ≤ 30000 → n < longest
few_pages b n block few = short_by b n (charge_of b n) (charge_covers b n (block_from b block)) few (block_upto b block)

module _ {E : Type 0} (key_of : E → Key) (row_of : E → Row) (b : ℕ) (block : IsBlockSize b) (k : Key) where
  found_within : (f : E → ℕ) (es : List E) (e : E) → item_at key_of k es ≡ Some e → f e ≤ sum_by f es
  found_within f [] e h = absurd cc
  found_within f (x ∷ xs) e h = by (key_eq k (key_of x)) h (found_within f xs e)
    where
      by : (same : Bool) → cond same (Some x) (item_at key_of k xs) ≡ Some e → (item_at key_of k xs ≡ Some e → f e ≤ sum_by f xs) → f e ≤ sum_by f (x ∷ xs)
      by true is rest = omega (arith, sum_by-cons f x xs, ap f (some_is x e is))
      by false is rest = omega (arith, sum_by-cons f x xs, rest is)

  found_short : (es : List E) → sum_by (λ (e : E). value_charge b (row_of e)) es ≤ 30000 → (o : Option E) → item_at key_of k es ≡ o → IsTrue (is_short (option_map row_of o))
  found_short es few None e = refl
  found_short es few (Some x) e =
      let one : value_charge b (row_of x) ≤ 30000 = omega (arith, few, found_within (λ (y : E). value_charge b (row_of y)) es x e) in
      lt-ltb (value_length (row_of x)) longest (few_pages b (value_length (row_of x)) block one)

row_short : (b : ℕ) (u : TableRows) → IsBlockSize b → total_charge b u ≤ 30000 → (k : Key) → IsTrue (is_short (row_at u k))
unfolding total_charge
row_short b u block few (GssbKey n) = found_short gssb_key gssb_row b block (GssbKey n) u.gssbs (omega arith) _ refl
row_short b u block few (TlsKey n l) = found_short tls_key tls_row b block (TlsKey n l) u.tlss (omega arith) _ refl
row_short b u block few (UlsKey n l) = found_short uls_key uls_row b block (UlsKey n l) u.ulss (omega arith) _ refl
row_short b u block few (ServiceKey i) = found_short service_key service_row b block (ServiceKey i) u.services (omega arith) _ refl
row_short b u block few (JobKey n) = found_short job_key job_row b block (JobKey n) u.jobs (omega arith) _ refl
row_short b u block few (ShownKey l) = found_short shown_key shown_row b block (ShownKey l) u.shown (omega arith) _ refl

module _ (g : Generated) (limits : AreLimits g.limits) where
  -- the durable rows are
  pub durable_short : (t : TableRows) → FitPool g t → (k : Key) → key_is_durable g k ≡ true → IsTrue (is_short (row_at t k))
  durable_short t fit k kept =
      subst (λ (o : Option Row). IsTrue (is_short o)) (row_at_durable g t k ∙ ap (λ (b : Bool). cond b (row_at t k) None) kept)
      (row_short g.limits.blksize (durable g t) limits.blksize (omega (arith, fit, limits.pgpool)) k)

  -- the row that the first of ascending changes leaves is there after all of them
  left_there : (t : TableRows) (c : Change) (cs : List Change) → IsTrue (ascends change_key (c ∷ cs)) → IsTrue (list_all change_fits (c ∷ cs)) → row_at (with_changes t (c ∷ cs)) (change_key c) ≡ row_left c
  left_there t c cs up fit =
      row_at_with_changes t (c ∷ cs) (change_key c) up fit
      ∙ ap (λ (b : Bool). row_after (cond b (Some c) (change_at (change_key c) cs)) (row_at t (change_key c))) (key_eq_itself (change_key c))
      ∙ after c
    where
      after : (d : Change) → row_after (Some d) (row_at t (change_key c)) ≡ row_left d
      after (Set r) = refl
      after (Remove k) = refl

  short_left : (c : Change) (o : Option Row) → o ≡ row_left c → (key_is_durable g (change_key c) ≡ true → IsTrue (is_short o)) → IsTrue (leaves_short g c)
  short_left c o e short = by (key_is_durable g (change_key c)) refl
    where
      by : (b : Bool) → key_is_durable g (change_key c) ≡ b → IsTrue (cond b (is_short (row_left c)) true)
      by true kept = subst (λ (p : Option Row). IsTrue (is_short p)) e (short kept)
      by false none = refl

  left_short : (t : TableRows) (cs : List Change) → IsTrue (ascends change_key cs) → IsTrue (list_all change_fits cs) → ((k : Key) → key_is_durable g k ≡ true → IsTrue (is_short (row_at (with_changes t cs) k))) → IsTrue (list_all (leaves_short g) cs)
  left_short t [] up fit short = refl
  left_short t (c ∷ cs) up fit short =
      let ups = both_true (below_all key_cmp (change_key c) (keyed change_key cs)) (ascends change_key cs) up in
      let fits = both_true (change_fits c) (list_all change_fits cs) fit in
      true_both (leaves_short g c) (list_all (leaves_short g) cs)
      (short_left c (row_at (with_changes t (c ∷ cs)) (change_key c)) (left_there t c cs up fit) (short (change_key c)))
      (left_short (with_change t c) cs ups.1 fits.1 short)

  -- so are those that changes leave, where the durable rows after them fit into the pool
  pub changes_short : (t : TableRows) (c : Changes) → AreChanges c.items → FitPool g (changed t c) → IsTrue (list_all (leaves_short g) c.items)
  changes_short t c are fit = left_short (record t { clock = c.clock; next_job = c.next_job }) c.items are.ascending are.fit (durable_short (changed t c) fit)
