-- Laws: what a patch does to look-ups, and that it makes contents that a file can keep.
use Rattle.std.specs.Prelude.{◌≡◌, ◌≢◌, ◌<◌, ◌≤◌, ◌^◌, ℕ, Bool, true, false, cond, not, ◌&&◌, IsTrue, T, List, [], ◌∷◌, length, Some, None, All}
use Rattle.std.proofs.Common.{refl, sym, ◌∙◌, ap, subst, arith}
use Rattle.std.specs.Option.{unwrap_or}
use Rattle.std.specs.Ordering.{eq_by_cmp, is_eq, is_lt}
use Rattle.std.specs.declared.cmp.Ordering.{Ordering}
use Rattle.std.specs.declared.cmp.Ordering.TheVariants.{Less, Equal, Greater}
use Rattle.std.specs.Cmp.{eq_by_cmp_equiv, Equal-is}
use Rattle.std.specs.FinMap.{find, put, is_sorted}
use Rattle.std.specs.FinMap.Entries.{by_order, below_all, find-put, find-where_key, is_sorted-put, is_sorted-where_key}
use Rattle.std.proofs.lemmas.Cmp.{tied_itself}
use Rattle.std.proofs.lemmas.List.Elements.{All-nil, All-cons, All-head, All-tail, All-filter}
use Rattle.kd_base.specs.ToolsLaws.{both_true, cond_not}
use Rattle.kd_records.specs.declared.key.RecordKey.{RecordKey}
use Rattle.kd_records.specs.Keys.{key_cmp}
use Rattle.kd_records.specs.Contents.{Record, Change, changed, changed_all, patched, IsRecord, IsKey}
use Rattle.kd_records.specs.Charge.{total_charge}
use Rattle.kd_records.specs.KeyLaws.{key_total, same_key}
use Rattle.kd_records.specs.ChargeLaws.{length_within, values_fit}
use Rattle.kd_records.specs.PatchStatements.{ChangeSaysWhatIsFound, PatchSaysWhatIsFound, NoChangesChangeNothing, PatchKeepsOrder, PatchKeepsContent}

-- ---- tests

is_t : (b : Bool) → IsTrue b → T b
is_t b e = subst T (sym e) tt

is_true : (b : Bool) → T b → IsTrue b
is_true true h = refl
is_true false h = absurd h

-- ---- look-ups

pub find_changed : (q : RecordKey) (records : List Record) (c : Change) → find key_cmp q (changed records c) ≡ cond (eq_by_cmp key_cmp q c.0) c.1 (find key_cmp q records)
find_changed q records (k, Some value) = find-put key_cmp key_total q k value records
find_changed q records (k, None) =
    find-where_key key_cmp (λ x. not (eq_by_cmp key_cmp k x)) q (λ x e. ap (λ y. not (eq_by_cmp key_cmp k y)) (sym (same_key q x e))) records
    ∙ cond_not (eq_by_cmp key_cmp k q) (find key_cmp q records) None
    ∙ ap (λ b. cond b None (find key_cmp q records)) ((eq_by_cmp_equiv key_total).symm k q)

differs : (q k : RecordKey) → q ≢ k → eq_by_cmp key_cmp q k ≡ false
differs q k apart = by (eq_by_cmp key_cmp q k) refl
  where
    by : (b : Bool) → eq_by_cmp key_cmp q k ≡ b → eq_by_cmp key_cmp q k ≡ false
    by true e = absurd (apart (same_key q k ((Equal-is (key_cmp q k)).0 e)))
    by false e = e

pub change_says_what_is_found : ChangeSaysWhatIsFound
change_says_what_is_found records k value = (
  find_changed k records (k, value) ∙ ap (λ r. cond (is_eq r) value (find key_cmp k records)) (tied_itself key_total k),
  λ q apart. find_changed q records (k, value) ∙ ap (λ b. cond b value (find key_cmp q records)) (differs q k apart),
)

-- a key that is less than all keys of a list is not found there
module _ {X : Type 0} where
  find_below : (q : RecordKey) (es : List (RecordKey × X)) → T (below_all key_cmp q es) → find key_cmp q es ≡ None
  find_below q [] h = refl
  find_below q (e ∷ es) h = by (find_below q es) (key_cmp q e.0) h
    where
      by : (T (below_all key_cmp q es) → find key_cmp q es ≡ None) → (r : Ordering) → T (is_lt r && below_all key_cmp q es) → cond (is_eq r) (Some e.1) (find key_cmp q es) ≡ None
      by rest Less h = rest h
      by rest Equal h = absurd h
      by rest Greater h = absurd h

pub find_changed_all : (q : RecordKey) (changes : List Change) (records : List Record) → IsTrue (is_sorted key_cmp changes) → find key_cmp q (changed_all records changes) ≡ unwrap_or (find key_cmp q changes) (find key_cmp q records)
find_changed_all q [] records h = refl
find_changed_all q (c ∷ changes) records h = find_changed_all q changes (changed records c) parts.1 ∙ by (eq_by_cmp key_cmp q c.0) refl
  where
    parts : IsTrue (below_all key_cmp c.0 changes) × IsTrue (is_sorted key_cmp changes)
    parts = both_true (below_all key_cmp c.0 changes) (is_sorted key_cmp changes) h

    found : find key_cmp q (changed records c) ≡ cond (eq_by_cmp key_cmp q c.0) c.1 (find key_cmp q records)
    found = find_changed q records c

    by : (b : Bool) → eq_by_cmp key_cmp q c.0 ≡ b
        → unwrap_or (find key_cmp q changes) (find key_cmp q (changed records c)) ≡ unwrap_or (cond b (Some c.1) (find key_cmp q changes)) (find key_cmp q records)
    by true e =
        let here : q ≡ c.0 = same_key q c.0 ((Equal-is (key_cmp q c.0)).0 e) in
        let no_more : find key_cmp q changes ≡ None = ap (λ k. find key_cmp k changes) here ∙ find_below c.0 changes (is_t (below_all key_cmp c.0 changes) parts.0) in
        ap (λ o. unwrap_or o (find key_cmp q (changed records c))) no_more ∙ found ∙ ap (λ b. cond b c.1 (find key_cmp q records)) e
    by false e = ap (λ o. unwrap_or (find key_cmp q changes) o) (found ∙ ap (λ b. cond b c.1 (find key_cmp q records)) e)

pub patch_says_what_is_found : PatchSaysWhatIsFound
patch_says_what_is_found x p is k = find_changed_all k p.items x.items is.ascending

pub no_changes_change_nothing : NoChangesChangeNothing
no_changes_change_nothing x p e = ap (changed_all x.items) e

-- ---- order

sorted_changed : (records : List Record) (c : Change) → T (is_sorted key_cmp records) → T (is_sorted key_cmp (changed records c))
sorted_changed records (k, Some value) h = is_sorted-put key_cmp key_total k value records h
sorted_changed records (k, None) h = is_sorted-where_key key_cmp (λ x. not (eq_by_cmp key_cmp k x)) records h

sorted_changed_all : (changes : List Change) (records : List Record) → T (is_sorted key_cmp records) → T (is_sorted key_cmp (changed_all records changes))
sorted_changed_all [] records h = h
sorted_changed_all (c ∷ changes) records h = sorted_changed_all changes (changed records c) (sorted_changed records c h)

pub patch_keeps_order : PatchKeepsOrder
patch_keeps_order x p h = is_true (is_sorted key_cmp (patched x p).items) (sorted_changed_all p.items x.items (is_t (is_sorted key_cmp x.items) h))

-- ---- keys

abbrev HasKey : Record → Type 0
HasKey r = IsKey r.0

keys_put : (k : RecordKey) (value : List ℕ) (records : List Record) → IsKey k → All HasKey records → All HasKey (put key_cmp k value records)
keys_put k value [] is h = All-cons HasKey (k, value) [] is (All-nil HasKey)
keys_put k value (r ∷ records) is h = by (keys_put k value records is (All-tail HasKey r records h)) (key_cmp k r.0)
  where
    by : All HasKey (put key_cmp k value records) → (o : Ordering) → All HasKey (by_order o ((k, value) ∷ r ∷ records) ((r.0, value) ∷ records) (r ∷ put key_cmp k value records))
    by rest Less = All-cons HasKey (k, value) (r ∷ records) is h
    by rest Equal = All-cons HasKey (r.0, value) records (All-head HasKey r records h) (All-tail HasKey r records h)
    by rest Greater = All-cons HasKey r (put key_cmp k value records) (All-head HasKey r records h) rest

keys_changed : (records : List Record) (c : Change) → IsKey c.0 → All HasKey records → All HasKey (changed records c)
keys_changed records (k, Some value) is h = keys_put k value records is h
keys_changed records (k, None) is h = All-filter (λ r. not (eq_by_cmp key_cmp k r.0)) HasKey records h

keys_changed_all : (changes : List Change) (records : List Record) → All (λ (c : Change). IsKey c.0) changes → All HasKey records → All HasKey (changed_all records changes)
keys_changed_all [] records are h = h
keys_changed_all (c ∷ changes) records are h =
    keys_changed_all changes (changed records c) (All-tail (λ (c : Change). IsKey c.0) c changes are)
    (keys_changed records c (All-head (λ (c : Change). IsKey c.0) c changes are) h)

-- ---- contents

record_key : (r : Record) → IsRecord r → HasKey r
record_key r is = record { kind_from_one = is.kind_from_one; kind_is_byte = is.kind_is_byte; key_length = is.key_length }

few_enough : (n charge pages : ℕ) → n ≤ charge → charge ≤ pages → pages ≤ 30000 → n < 2 ^ 32
few_enough n charge pages a b c = omega arith

pub patch_keeps_content : PatchKeepsContent
patch_keeps_content blksize pages x p is most content patch clock next_job few =
    let items = (patched x p).items in
    let keys : All HasKey items = keys_changed_all p.items x.items patch.keys (λ k d h. record_key _ (content.records k d h)) in
    let values : All (λ (r : Record). length r.1 < 2 ^ 32) items = values_fit blksize pages items is most few in
    record {
      clock = clock;
      next_job = next_job;
      records = λ k d h. record {
        kind_from_one = (keys k d h).kind_from_one;
        kind_is_byte = (keys k d h).kind_is_byte;
        key_length = (keys k d h).key_length;
        value_length = values k d h;
      };
      ascending = patch_keeps_order x p content.ascending;
      few = few_enough (length items) (total_charge blksize items) pages (length_within blksize items) few most;
    }
