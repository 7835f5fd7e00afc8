-- Sums over records and over slots, when one changes.
use Rattle.std.proofs.Common.{◌≡◌, ℕ, suc, ◌+◌, ◌<◌, Bool, true, false, cond, not, T, List, [], ◌∷◌, length, Option, Some, None, refl, ap, sym, subst, arith}
use Rattle.std.specs.Prelude.{set, get_or, IsTrue}
use Rattle.std.specs.Ordering.{eq_by_cmp, is_eq}
use Rattle.std.specs.declared.cmp.Ordering.{Ordering}
use Rattle.std.specs.declared.cmp.Ordering.TheVariants.{Less, Equal, Greater}
use Rattle.std.specs.FinMap.{find, put, is_sorted}
use Rattle.std.specs.FinMap.Entries.{by_order, below_all, where_key, length-put, length_without}
use Rattle.std.specs.Option.{is_some}
use Rattle.std.proofs.lemmas.List.Sums.{sum_by-cons, sum_by-set}
use Rattle.kd_base.specs.ToolsLaws.{both_true}
use Rattle.kd_records.specs.declared.key.RecordKey.{RecordKey}
use Rattle.kd_records.specs.Keys.{key_cmp}
use Rattle.kd_records.specs.KeyLaws.{key_total}
use Rattle.kdcfile_layout.specs.declared.chain.Chain.{Chain}
use Rattle.kdcfile_layout.specs.Layout.{if_used, over_slots}
use Rattle.kd_records.specs.Contents.{Record, changed, without}
use Rattle.kd_records.specs.ContentLaws.{patch_keeps_order}
use Rattle.page_drafts.specs.Counts.{if_any, over}

pub length_over : (items : List Record) → over (λ v. 1) items ≡ length items
length_over [] = omega arith
length_over (r ∷ items) = omega (arith, sum_by-cons (λ (q : Record). 1) r items, length_over items)

-- the order of records stays
pub ascending_changed : (items : List Record) (k : RecordKey) (value : Option (List ℕ)) → IsTrue (is_sorted key_cmp items) → IsTrue (is_sorted key_cmp (changed items (k, value)))
ascending_changed items k value sorted = patch_keeps_order (record { clock = 0; next_job = 0; items = items }) (record { clock = 0; next_job = 0; items = (k, value) ∷ [] }) sorted

-- a key before the first is not found
below_first : (k : RecordKey) (r : Record) (items : List Record) → key_cmp k r.0 ≡ Less → IsTrue (is_sorted key_cmp (r ∷ items)) → find key_cmp k items ≡ None
below_first k r items e sorted = by (find key_cmp k items) refl
  where
    long : length (put key_cmp k [] (r ∷ items)) ≡ cond (is_some (find key_cmp k (r ∷ items))) (length (r ∷ items)) (length (r ∷ items) + 1)
    long = length-put key_cmp key_total k [] (r ∷ items) (subst T (sym sorted) tt)

    two : (o : Ordering) (found : Option (List ℕ)) → o ≡ Less → length (by_order o ((k, []) ∷ r ∷ items) ((r.0, []) ∷ items) (r ∷ put key_cmp k [] items)) ≡ cond (is_some (cond (is_eq o) (Some r.1) found)) (length (r ∷ items)) (length (r ∷ items) + 1) → found ≡ None
    two Less None e h = refl
    two Less (Some v) e h = absurd (omega (arith, h))
    two Equal found e h = absurd cc
    two Greater found e h = absurd cc

    by : (found : Option (List ℕ)) → find key_cmp k items ≡ found → find key_cmp k items ≡ None
    by found is = two (key_cmp k r.0) (find key_cmp k items) e long

-- the key of the first is not found after it
pub same_first : {X : Type 0} (k : RecordKey) (r : RecordKey × X) (items : List (RecordKey × X)) → eq_by_cmp key_cmp k r.0 ≡ true → IsTrue (is_sorted key_cmp (r ∷ items)) → find key_cmp k items ≡ None
same_first {X} k r items e sorted = two (eq_by_cmp key_cmp k r.0) (find key_cmp k items) e rest long
  where
    two : (b : Bool) (found : Option X) → b ≡ true → cond (is_some found) 1 0 + length (where_key key_cmp (λ x. not (eq_by_cmp key_cmp k x)) items) ≡ length items
        → cond (is_some (cond b (Some r.1) found)) 1 0 + length (cond (not b) (r ∷ where_key key_cmp (λ x. not (eq_by_cmp key_cmp k x)) items) (where_key key_cmp (λ x. not (eq_by_cmp key_cmp k x)) items)) ≡ suc (length items) → found ≡ None
    two true None e g h = refl
    two true (Some v) e g h = absurd (omega (arith, g, h))
    two false found e g h = absurd cc

    long : cond (is_some (find key_cmp k (r ∷ items))) 1 0 + length (where_key key_cmp (λ x. not (eq_by_cmp key_cmp k x)) (r ∷ items)) ≡ length (r ∷ items)
    long = length_without key_cmp key_total k (r ∷ items) (subst T (sym sorted) tt)

    rest : cond (is_some (find key_cmp k items)) 1 0 + length (where_key key_cmp (λ x. not (eq_by_cmp key_cmp k x)) items) ≡ length items
    rest = length_without key_cmp key_total k items (subst T (sym (both_true (below_all key_cmp r.0 items) (is_sorted key_cmp items) sorted).1) tt)

module _ (f : List ℕ → ℕ) (k : RecordKey) where
  -- what is found in a list that begins with this record, by how the keys compare
  abbrev Put : List ℕ → Record → List Record → Ordering → Type 0
  Put v r items o = over f (by_order o ((k, v) ∷ r ∷ items) ((r.0, v) ∷ items) (r ∷ put key_cmp k v items)) + if_any f (cond (is_eq o) (Some r.1) (find key_cmp k items)) ≡ over f (r ∷ items) + f v

  pub over_put : (v : List ℕ) (items : List Record) → IsTrue (is_sorted key_cmp items) → over f (put key_cmp k v items) + if_any f (find key_cmp k items) ≡ over f items + f v
  over_put v [] sorted = omega (arith, sum_by-cons (λ (r : Record). f r.1) (k, v) [])
  over_put v (r ∷ items) sorted = by (over_put v items (both_true (below_all key_cmp r.0 items) (is_sorted key_cmp items) sorted).1) (key_cmp k r.0) refl
    where
      by : over f (put key_cmp k v items) + if_any f (find key_cmp k items) ≡ over f items + f v → (o : Ordering) → key_cmp k r.0 ≡ o → Put v r items o
      by rest Less e = omega (arith, sum_by-cons (λ (q : Record). f q.1) (k, v) (r ∷ items), ap (λ (o : Option (List ℕ)). if_any f o) (below_first k r items e sorted))
      by rest Equal e = omega (arith, sum_by-cons (λ (q : Record). f q.1) (r.0, v) items, sum_by-cons (λ (q : Record). f q.1) r items)
      by rest Greater e = omega (arith, sum_by-cons (λ (q : Record). f q.1) r (put key_cmp k v items), sum_by-cons (λ (q : Record). f q.1) r items, rest)

  abbrev Without : Record → List Record → Bool → Type 0
  Without r items b = over f (cond (not b) (r ∷ without k items) (without k items)) + if_any f (cond b (Some r.1) (find key_cmp k items)) ≡ over f (r ∷ items)

  pub over_without : (items : List Record) → IsTrue (is_sorted key_cmp items) → over f (without k items) + if_any f (find key_cmp k items) ≡ over f items
  over_without [] sorted = omega arith
  over_without (r ∷ items) sorted = by (over_without items (both_true (below_all key_cmp r.0 items) (is_sorted key_cmp items) sorted).1) (eq_by_cmp key_cmp k r.0) refl
    where
      by : over f (without k items) + if_any f (find key_cmp k items) ≡ over f items → (b : Bool) → eq_by_cmp key_cmp k r.0 ≡ b → Without r items b
      by rest true e = omega (arith, sum_by-cons (λ (q : Record). f q.1) r items, rest, ap (λ (o : Option (List ℕ)). if_any f o) (same_first k r items e sorted))
      by rest false e = omega (arith, sum_by-cons (λ (q : Record). f q.1) r (without k items), sum_by-cons (λ (q : Record). f q.1) r items, rest)

  -- the sum after a change
  pub over_changed : (value : Option (List ℕ)) (items : List Record) → IsTrue (is_sorted key_cmp items) → over f (changed items (k, value)) + if_any f (find key_cmp k items) ≡ over f items + if_any f value
  over_changed None items sorted = omega (arith, over_without items sorted)
  over_changed (Some v) items sorted = over_put v items sorted

-- ---- slots

pub over_slots_set : (g : Chain → ℕ) (slots : List (Option Chain)) (s : ℕ) (o : Option Chain) → s < length slots → over_slots g (set slots s o) + if_used g (get_or slots s None) ≡ over_slots g slots + if_used g o
over_slots_set g slots s o lt = sum_by-set (λ (x : Option Chain). if_used g x) slots s o None lt
