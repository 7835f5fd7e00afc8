-- The slots of a directory, with an index of their keys and a list of the free ones.
use Rattle.std.proofs.Common.{◌≡◌, ⊎_elim, inl, inr, ℕ, zero, suc, ◌+◌, ◌-◌, ◌<◌, Bool, true, false, cond, not, List, [], ◌∷◌, ◌++◌, length, take, drop, Option, Some, None, refl, ap, sym, subst, ◌∙◌}
use Rattle.std.proofs.Common.{arith, length-append}
use Rattle.std.specs.Prelude.{set, get_or, replicate, Contains}
use Rattle.std.proofs.lemmas.List.Sums.{sum_by-cons}
use Rattle.std.proofs.lemmas.List.Folds.{sum_by-replicate}
use Rattle.std.specs.Ordering.{eq_by_cmp, is_eq}
use Rattle.std.specs.FinMap.{find, put}
use Rattle.std.proofs.lemmas.List.Elements.{Contains-push, Contains-push_cases, Contains-append_left}
use Rattle.kd_base.specs.PlacesLaws.{left_sorted}
use Rattle.kd_base.specs.OrderLaws.{sorted_put}
use Rattle.std.specs.FinMap.Entries.{find-put, find-where_key}
use Rattle.std.specs.declared.cmp.Ordering.{Ordering}
use Rattle.std.specs.declared.cmp.Ordering.TheVariants.{Less, Equal, Greater}
use Rattle.std.proofs.lemmas.Bool.{cases_eq}
use Rattle.std.proofs.lemmas.Cmp.{tied_itself}
use Rattle.std.proofs.lemmas.Option.{none-some, same_Some, get_or_from_slice_get, slice_get_read}
use Rattle.std.proofs.lemmas.List.{length-set, length-replicate, take_all, take_more, drop_more}
use Rattle.kd_records.specs.declared.key.RecordKey.{RecordKey}
use Rattle.kd_records.specs.Keys.{key_cmp}
use Rattle.kd_records.specs.KeyLaws.{key_total, same_key}
use Rattle.kdcfile_layout.specs.declared.chain.Chain.{Chain}
use Rattle.kdcfile_layout.specs.Places.{At}
use Rattle.kdcfile_layout.specs.Layout.{used, if_used, free_slot}
use Rattle.kdcfile_layout.specs.PlacesLaws.{no_item, at_one, at_set, at_set_other, at_set_same, at_within, at_push, at_front, at_end}
use Rattle.page_drafts.specs.CountsLaws.{over_slots_set}
use Rattle.page_drafts.specs.DraftsLaws.{same_or_not}
use Rattle.page_drafts.specs.Tables.{Index, Parts, HasKey, without, IsIndexed, IsPlaceFor, IsAbsent, IsDescending, HasKeysOnce, IsIndexedTo, IsFreeFrom}

pub tied : (k : RecordKey) → eq_by_cmp key_cmp k k ≡ true
tied k = ap (λ (o : Ordering). is_eq o) (tied_itself key_total k)

pub untied : (q k : RecordKey) → (q ≡ k → ⊥) → eq_by_cmp key_cmp q k ≡ false
untied q k apart = by (key_cmp q k) refl
  where
    by : (o : Ordering) → key_cmp q k ≡ o → is_eq (key_cmp q k) ≡ false
    by Less e = ap (λ (o : Ordering). is_eq o) e
    by Equal e = absurd (apart (same_key q k e))
    by Greater e = ap (λ (o : Ordering). is_eq o) e

pub found_put_same : (k : RecordKey) (s : ℕ) (index : Index) → find key_cmp k (put key_cmp k s index) ≡ Some s
found_put_same k s index = find-put key_cmp key_total k k s index ∙ ap (λ (b : Bool). cond b (Some s) (find key_cmp k index)) (tied k)

found_put_other : (q k : RecordKey) (s : ℕ) (index : Index) → (q ≡ k → ⊥) → find key_cmp q (put key_cmp k s index) ≡ find key_cmp q index
found_put_other q k s index apart = find-put key_cmp key_total q k s index ∙ ap (λ (b : Bool). cond b (Some s) (find key_cmp q index)) (untied q k apart)

gone_out : (k : RecordKey) (index : Index) → find key_cmp k (without k index) ≡ None
gone_out k index =
    find-where_key key_cmp (λ x. not (eq_by_cmp key_cmp k x)) k (λ x e. ap (λ (j : RecordKey). not (eq_by_cmp key_cmp k j)) (sym (same_key k x e))) index
    ∙ ap (λ (b : Bool). cond (not b) (find key_cmp k index) None) (tied k)

left : (q k : RecordKey) (index : Index) → (q ≡ k → ⊥) → find key_cmp q (without k index) ≡ find key_cmp q index
left q k index apart =
    find-where_key key_cmp (λ x. not (eq_by_cmp key_cmp k x)) q (λ x e. ap (λ (j : RecordKey). not (eq_by_cmp key_cmp k j)) (sym (same_key q x e))) index
    ∙ ap (λ (b : Bool). cond (not b) (find key_cmp q index) None) (untied k q (λ e. apart (sym e)))

key_same : (c d : Chain) → Some c ≡ Some d → c.key ≡ d.key
key_same c d e = ap (λ (o : Chain). o.key) (same_Some c d e)

last_split : (xs : List ℕ) (m x : ℕ) → 0 < length xs → m ≡ length xs → x ≡ get_or xs (m - 1) x → xs ≡ take (m - 1) xs ++ x ∷ []
last_split xs m x some long e =
    let whole : m - 1 + 1 ≡ m = omega (arith, some, long) in
    sym (take_all m xs (omega (arith, long)))
    ∙ ap (λ (n : ℕ). take n xs) (sym whole)
    ∙ take_more xs (m - 1) x (omega (arith, some, long))
    ∙ ap (λ (y : ℕ). take (m - 1) xs ++ y ∷ []) (sym e)

not_last : (xs : List ℕ) (n : ℕ) → n < length xs → n ≡ length xs → ⊥
not_last xs n lt e = omega (arith, lt, e)

-- whether a slot that is read has the key
module _ (slots : List (Option Chain)) (s : ℕ) (o : Option Chain) (k : RecordKey) (there : s < length slots) (read : o ≡ get_or slots s o) where
  pub key_read : (c : Chain) × (o ≡ Some c) × (c.key ≡ k) → HasKey slots s k
  key_read c = (c.0, slice_get_read slots (length slots) s o refl there read ∙ ap (λ (x : Option Chain). Some x) c.1, c.2)

  pub no_key_read : ((c : Chain) → o ≡ Some c → c.key ≡ k → ⊥) → HasKey slots s k → ⊥
  no_key_read none c = none c.0 (at_one slots s o (Some c.0) (slice_get_read slots (length slots) s o refl there read) c.1) c.2

module _ (t : Parts) (gone : List RecordKey) (is : IsIndexed t gone) where
  here_is : (s : ℕ) (o : Option Chain) → At t.slots s o → if_used (λ c. 1) (get_or t.slots s None) ≡ if_used (λ c. 1) o
  here_is s o at = ap {B = ℕ} (λ (x : Option Chain). if_used (λ c. 1) x) (get_or_from_slice_get t.slots s o None at)

  -- a slot that has the key is the key's
  pub key_place : (k : RecordKey) (s : ℕ) → HasKey t.slots s k → IsPlaceFor k s t.slots
  key_place k s c = record {
    there = at_within t.slots s (Some c.0) c.1;
    own = λ d at. ap (λ (o : Chain). o.key) (same_Some d c.0 (at_one t.slots s (Some d) (Some c.0) at c.1)) ∙ c.2;
    only = λ r d at e. same_Some r s (sym (is.kept r d at) ∙ ap (λ (q : RecordKey). find key_cmp q t.index) (e ∙ sym c.2) ∙ is.kept s c.0 c.1);
  }

  -- a key that the index does not have, or whose slot there has it not, has no slot
  pub index_absent : (k : RecordKey) → find key_cmp k t.index ≡ None → IsAbsent k t.slots
  index_absent k none r c at e = none-some r (sym none ∙ ap (λ (q : RecordKey). find key_cmp q t.index) (sym e) ∙ is.kept r c at)

  pub slot_absent : (k : RecordKey) (s : ℕ) → find key_cmp k t.index ≡ Some s → (HasKey t.slots s k → ⊥) → IsAbsent k t.slots
  slot_absent k s found not_there r c at e =
      let same : r ≡ s = same_Some r s (sym (is.kept r c at) ∙ ap (λ (q : RecordKey). find key_cmp q t.index) e ∙ found) in
      not_there (c, subst (λ (m : ℕ). At t.slots m (Some c)) same at, e)

  -- ---- a chain in place of another with its key

  pub indexed_replaced : (s : ℕ) (c d : Chain) → At t.slots s (Some c) → c.key ≡ d.key → IsIndexed (record t { slots = set t.slots s (Some d) }) gone
  indexed_replaced s c d here key =
      let slots = t.slots in
      let there : s < length slots = at_within slots s (Some c) here in
      record {
        there = λ k r found. omega (arith, is.there k r found, length-set slots s (Some d));
        found = λ k r found.
            ⊎_elim
            (λ b.
            ⊎_elim
            (λ e.
            inl
            (d, subst (λ (m : ℕ). At (set slots s (Some d)) m (Some d)) e (at_set_same slots s (Some d) there), sym key ∙ key_same c b.0 (at_one slots s (Some c) (Some b.0) here (subst (λ (m : ℕ). At slots m (Some b.0)) (sym e) b.1)) ∙ b.2))
            (λ apart. inl (b.0, at_set_other slots s r (Some d) (Some b.0) apart b.1, b.2))
            (cases_eq s r))
            (λ g. inr g)
            (is.found k r found);
        kept = λ r b at.
            ⊎_elim
            (λ x. ap (λ (k : RecordKey). find key_cmp k t.index) (sym (key_same d b x.1) ∙ sym key) ∙ is.kept s c here ∙ ap (λ (m : ℕ). Some m) x.0)
            (λ y. is.kept r b y.1)
            (at_set slots s r (Some d) (Some b) at);
        unused = λ n r at. at_set_other slots s r (Some d) None (λ e. none-some c (at_one slots s None (Some c) (subst (λ (m : ℕ). At slots m None) (sym e) (is.unused n r at)) here)) (is.unused n r at);
        distinct = is.distinct;
        count = omega (arith, is.count, length-set slots s (Some d), over_slots_set (λ (b : Chain). 1) slots s (Some d) there, here_is s (Some c) here);
        ascending = is.ascending;
      }

  -- ---- a chain with a new key in the last free slot

  pub indexed_added : (less : List ℕ) (s : ℕ) (d : Chain) → t.free ≡ less ++ s ∷ [] → IsAbsent d.key t.slots → IsIndexed (record { slots = set t.slots s (Some d); index = put key_cmp d.key s t.index; free = less }) gone
  indexed_added less s d split absent =
      let slots = t.slots in
      let index = t.index in
      let last : At t.free (length less) s = subst (λ (l : List ℕ). At l (length less) s) (sym split) (at_end less s) in
      let was : At slots s None = is.unused (length less) s last in
      let there : s < length slots = at_within slots s None was in
      let in_free : (n r : ℕ) → At less n r → At t.free n r = λ n r at. subst (λ (l : List ℕ). At l n r) (sym split) (at_front less (s ∷ []) n r at) in
      record {
        there = λ k r found.
            ⊎_elim
            (λ e.
            let same : s ≡ r = same_Some s r (sym (found_put_same d.key s index) ∙ ap (λ (q : RecordKey). find key_cmp q (put key_cmp d.key s index)) (sym e) ∙ found) in
            omega (arith, there, same, length-set slots s (Some d)))
            (λ apart. omega (arith, is.there k r (sym (found_put_other k d.key s index apart) ∙ found), length-set slots s (Some d)))
            (same_or_not k d.key);
        found = λ k r found.
            ⊎_elim
            (λ e.
            let same : s ≡ r = same_Some s r (sym (found_put_same d.key s index) ∙ ap (λ (q : RecordKey). find key_cmp q (put key_cmp d.key s index)) (sym e) ∙ found) in
            inl (d, subst (λ (m : ℕ). At (set slots s (Some d)) m (Some d)) same (at_set_same slots s (Some d) there), sym e))
            (λ apart.
            ⊎_elim
            (λ b. inl (b.0, at_set_other slots s r (Some d) (Some b.0) (λ e. none-some b.0 (at_one slots s None (Some b.0) was (subst (λ (m : ℕ). At slots m (Some b.0)) (sym e) b.1))) b.1, b.2))
            (λ g. inr g)
            (is.found k r (sym (found_put_other k d.key s index apart) ∙ found)))
            (same_or_not k d.key);
        kept = λ r b at.
            ⊎_elim
            (λ x. ap (λ (k : RecordKey). find key_cmp k (put key_cmp d.key s index)) (sym (key_same d b x.1)) ∙ found_put_same d.key s index ∙ ap (λ (m : ℕ). Some m) x.0)
            (λ y. found_put_other b.key d.key s index (λ e. absurd (absent r b y.1 e)) ∙ is.kept r b y.1)
            (at_set slots s r (Some d) (Some b) at);
        unused = λ n r at. at_set_other slots s r (Some d) None (λ e. not_last less n (at_within less n r at) (is.distinct n (length less) s (subst (λ (m : ℕ). At t.free n m) (sym e) (in_free n r at)) last)) (is.unused n r (in_free n r at));
        distinct = λ m n r a b. is.distinct m n r (in_free m r a) (in_free n r b);
        count = omega (arith, is.count, length-set slots s (Some d), ap (λ (l : List ℕ). length l) split, length-append less (s ∷ []), over_slots_set (λ (b : Chain). 1) slots s (Some d) there, here_is s None was);
        ascending = sorted_put key_total d.key s index is.ascending;
      }

  -- ---- a slot that is freed, whose key stays in the index

  pub indexed_removed : (s : ℕ) (c : Chain) → At t.slots s (Some c) → IsIndexed (record t { slots = set t.slots s None; free = t.free ++ s ∷ [] }) (gone ++ c.key ∷ [])
  indexed_removed s c here =
      let slots = t.slots in
      let free = t.free in
      let there : s < length slots = at_within slots s (Some c) here in
      let not_free : (n : ℕ) → At free n s → ⊥ = λ n at. none-some c (at_one slots s None (Some c) (is.unused n s at) here) in
      record {
        there = λ k r found. omega (arith, is.there k r found, length-set slots s None);
        found = λ q r found.
            ⊎_elim
            (λ b.
            ⊎_elim
            (λ e.
            let same : c.key ≡ q = key_same c b.0 (at_one slots s (Some c) (Some b.0) here (subst (λ (m : ℕ). At slots m (Some b.0)) (sym e) b.1)) ∙ b.2 in
            inr (subst (λ (k : RecordKey). Contains (gone ++ c.key ∷ []) k) same (Contains-push gone c.key)))
            (λ apart. inl (b.0, at_set_other slots s r None (Some b.0) apart b.1, b.2))
            (cases_eq s r))
            (λ g. inr (Contains-append_left gone (c.key ∷ []) q g))
            (is.found q r found);
        kept = λ r b at.
            ⊎_elim
            (λ x. absurd (none-some b x.1))
            (λ y. is.kept r b y.1)
            (at_set slots s r None (Some b) at);
        unused = λ n r at.
            ⊎_elim
            (λ x. at_set_other slots s r None None (λ e. not_free n (subst (λ (m : ℕ). At free n m) (sym e) x)) (is.unused n r x))
            (λ y. subst (λ (m : ℕ). At (set slots s None) m None) y.1 (at_set_same slots s None there))
            (at_push free s n r at);
        distinct = λ m n r a b.
            ⊎_elim
            (λ x. ⊎_elim (λ y. is.distinct m n r x y) (λ y. absurd (not_free m (subst (λ (j : ℕ). At free m j) (sym y.1) x))) (at_push free s n r b))
            (λ x. ⊎_elim (λ y. absurd (not_free n (subst (λ (j : ℕ). At free n j) (sym x.1) y))) (λ y. x.0 ∙ sym y.0) (at_push free s n r b))
            (at_push free s m r a);
        count = omega (arith, is.count, length-set slots s None, length-append free (s ∷ []), over_slots_set (λ (b : Chain). 1) slots s None there, here_is s (Some c) here);
        ascending = is.ascending;
      }

  -- the last free slot, where not all are used
  pub last_free : used t.slots < length t.slots → (free : List ℕ) (n m x : ℕ) → free ≡ t.free → n ≡ m → m ≡ length free → x ≡ get_or free (n - 1) x → (t.free ≡ take (m - 1) free ++ x ∷ []) × At t.slots x None
  last_free room free n m x own same long e =
      let some : 0 < length free = omega (arith, is.count, room, ap (λ (l : List ℕ). length l) own) in
      let split = sym own ∙ last_split free m x some long (subst (λ (k : ℕ). x ≡ get_or free (k - 1) x) same e) in
      let last : At t.free (length (take (m - 1) free)) x = subst (λ (l : List ℕ). At l (length (take (m - 1) free)) x) (sym split) (at_end (take (m - 1) free) x) in
      (split, is.unused (length (take (m - 1) free)) x last)

  pub place_from_free : (k : RecordKey) (s : ℕ) → IsAbsent k t.slots → At t.slots s None → IsPlaceFor k s t.slots
  place_from_free k s absent at = record {
    there = at_within t.slots s None at;
    own = λ c here. absurd (none-some c (same_Some None (Some c) (sym at ∙ here)));
    only = λ r c here e. absurd (absent r c here e);
  }

-- ---- a key that is gone is taken out of the index, unless a slot has it again

module _ (t : Parts) (gone : List RecordKey) (k : RecordKey) (is : IsIndexed t (gone ++ k ∷ [])) where
  pub indexed_forgotten : IsAbsent k t.slots → IsIndexed (record t { index = without k t.index }) gone
  indexed_forgotten absent = record {
    there = λ q s found. is.there q s (kept_by q s found);
    found = λ q s found.
        ⊎_elim
        (λ b. inl b)
        (λ g. ⊎_elim (λ x. inr x) (λ e. absurd (other q s found (sym e))) (Contains-push_cases gone k q g))
        (is.found q s (kept_by q s found));
    kept = λ s c at. left c.key k t.index (λ e. absent s c at e) ∙ is.kept s c at;
    unused = is.unused;
    distinct = is.distinct;
    count = is.count;
    ascending = left_sorted key_cmp k t.index is.ascending;
  }
    where
      other : (q : RecordKey) (s : ℕ) → find key_cmp q (without k t.index) ≡ Some s → q ≡ k → ⊥
      other q s found e = none-some s (sym (gone_out k t.index) ∙ ap (λ (j : RecordKey). find key_cmp j (without k t.index)) (sym e) ∙ found)

      kept_by : (q : RecordKey) (s : ℕ) → find key_cmp q (without k t.index) ≡ Some s → find key_cmp q t.index ≡ Some s
      kept_by q s found = sym (left q k t.index (other q s found)) ∙ found

  pub indexed_there : (s : ℕ) → HasKey t.slots s k → IsIndexed t gone
  indexed_there s b = record {
    there = is.there;
    found = λ q r found.
        ⊎_elim
        (λ x. inl x)
        (λ g.
        ⊎_elim
        (λ x. inr x)
        (λ e.
        let same : s ≡ r = same_Some s r (sym (is.kept s b.0 b.1) ∙ ap (λ (j : RecordKey). find key_cmp j t.index) (b.2 ∙ e) ∙ found) in
        inl (b.0, subst (λ (m : ℕ). At t.slots m (Some b.0)) same b.1, b.2 ∙ e))
        (Contains-push_cases gone k q g))
        (is.found q r found);
    kept = is.kept;
    unused = is.unused;
    distinct = is.distinct;
    count = is.count;
    ascending = is.ascending;
  }

pub descending_more : (free : List ℕ) (n count s : ℕ) → n < count → s ≡ count - 1 - n → IsDescending free n count → IsDescending (free ++ s ∷ []) (n + 1) count
descending_more free n count s lt e is = record {
  long = omega (arith, length-append free (s ∷ []), is.long);
  down = λ m r at. ⊎_elim (λ before. is.down m r before) (λ last. omega (arith, last.0, last.1, is.long, e, lt)) (at_push free s m r at);
}

all_free : (n s : ℕ) (o : Option Chain) → At (replicate n free_slot) s o → o ≡ None
all_free zero s o at = absurd (no_item s o at)
all_free (suc n) zero o at = sym (same_Some None o at)
all_free (suc n) (suc s) o at = all_free n s o at

free_there : (n s : ℕ) → s < n → At (replicate n free_slot) s None
free_there zero s lt = absurd (omega (arith, lt))
free_there (suc n) zero lt = refl
free_there (suc n) (suc s) lt = free_there n s (omega (arith, lt))

pub empty_table : (free : List ℕ) (count : ℕ) → IsDescending free count count → IsIndexed (record { slots = replicate count free_slot; index = []; free = free }) []
empty_table free count is = record {
  there = λ k s h. absurd (none-some s h);
  found = λ k s h. absurd (none-some s h);
  kept = λ s c at. absurd (none-some c (sym (all_free count s (Some c) at)));
  unused = λ n s at. free_there count s (omega (arith, is.down n s at));
  distinct = λ a b s h k. same_place s a b count (is.down a s h) (is.down b s k);
  count = omega (arith, is.long, length-replicate count free_slot, sum_by-replicate (λ (o : Option Chain). if_used (λ c. 1) o) count free_slot);
  ascending = refl;
}
  where
    same_place : (s a b count : ℕ) → s + a + 1 ≡ count → s + b + 1 ≡ count → a ≡ b
    same_place s a b count e f = omega (arith, e, f)

-- ---- a table of slots that are there

module _ (slots : List (Option Chain)) (once : HasKeysOnce slots) (index : Index) (n : ℕ) (are : IsIndexedTo slots index n) where
  -- a free slot has no key
  index_past_free : At slots n None → IsIndexedTo slots index (n + 1)
  index_past_free at = record {
    found = λ k s h. let c = are.found k s h in (c.0, omega (arith, c.1));
    kept = λ s c here lt.
        ⊎_elim
        (λ e. absurd (none-some c (at_one slots n None (Some c) at (subst (λ (m : ℕ). At slots m (Some c)) e here))))
        (λ apart. are.kept s c here (omega (arith, lt, apart)))
        (cases_eq s n);
    ascending = are.ascending;
  }

  -- a used one has a key that no slot before it has
  index_with : (d : Chain) → At slots n (Some d) → IsIndexedTo slots (put key_cmp d.key n index) (n + 1)
  index_with d at = record {
    found = λ k s h.
        ⊎_elim
        (λ e.
        let place : n ≡ s = same_Some n s (sym (found_put_same d.key n index) ∙ ap (λ (q : RecordKey). find key_cmp q (put key_cmp d.key n index)) (sym e) ∙ h) in
        ((d, subst (λ (m : ℕ). At slots m (Some d)) place at, sym e), omega (arith, place)))
        (λ apart. let c = are.found k s (sym (found_put_other k d.key n index apart) ∙ h) in (c.0, omega (arith, c.1)))
        (same_or_not k d.key);
    kept = λ s c here lt.
        ⊎_elim
        (λ e.
        let same : d ≡ c = same_Some d c (at_one slots n (Some d) (Some c) at (subst (λ (m : ℕ). At slots m (Some c)) e here)) in
        ap (λ (x : Chain). find key_cmp x.key (put key_cmp d.key n index)) (sym same) ∙ found_put_same d.key n index ∙ ap (λ (m : ℕ). Some m) (sym e))
        (λ apart. found_put_other c.key d.key n index (λ e. apart (once s n c d here at e)) ∙ are.kept s c here (omega (arith, lt, apart)))
        (cases_eq s n);
    ascending = sorted_put key_total d.key n index are.ascending;
  }

  pub index_more : (o : Option Chain) (now : Index) → At slots n o → (o ≡ None → now ≡ index) → ((c : Chain) → o ≡ Some c → now ≡ put key_cmp c.key n index) → IsIndexedTo slots now (n + 1)
  index_more None now at none some = subst (λ (x : Index). IsIndexedTo slots x (n + 1)) (sym (none refl)) (index_past_free at)
  index_more (Some c) now at none some = subst (λ (x : Index). IsIndexedTo slots x (n + 1)) (sym (some c refl)) (index_with c at)

pub index_none : (slots : List (Option Chain)) (index : Index) → index ≡ [] → IsIndexedTo slots index 0
index_none slots index e = rw e record { found = λ k s h. absurd (none-some s h); kept = λ s c at lt. absurd (omega (arith, lt)); ascending = refl }

module _ (slots : List (Option Chain)) (free : List ℕ) (s : ℕ) (lt : s < length slots) (is : IsFreeFrom slots free (s + 1)) where
  rest : (o : Option Chain) → At slots s o → (used (drop s slots) ≡ if_used (λ c. 1) o + used (drop (s + 1) slots)) × (length (drop s slots) ≡ 1 + length (drop (s + 1) slots))
  rest o at =
      let split : drop s slots ≡ o ∷ drop (s + 1) slots = drop_more slots s o lt ∙ ap (λ (x : Option Chain). x ∷ drop (s + 1) slots) (get_or_from_slice_get slots s o o at) in
      (ap (λ (l : List (Option Chain)). used l) split ∙ sum_by-cons (λ (x : Option Chain). if_used (λ c. 1) x) o (drop (s + 1) slots), ap (λ (l : List (Option Chain)). length l) split ∙ omega arith)

  free_with : At slots s None → IsFreeFrom slots (free ++ s ∷ []) s
  free_with at = record {
    unused = λ m r here.
        ⊎_elim
        (λ x. let u = is.unused m r x in (u.0, omega (arith, u.1)))
        (λ y. (subst (λ (j : ℕ). At slots j None) y.1 at, omega (arith, y.1)))
        (at_push free s m r here);
    distinct = λ a b r x y.
        ⊎_elim
        (λ p. ⊎_elim (λ q. is.distinct a b r p q) (λ q. absurd (omega (arith, (is.unused a r p).1, q.1))) (at_push free s b r y))
        (λ p. ⊎_elim (λ q. absurd (omega (arith, (is.unused b r q).1, p.1))) (λ q. p.0 ∙ sym q.0) (at_push free s b r y))
        (at_push free s a r x);
    count = omega (arith, is.count, length-append free (s ∷ []), (rest None at).0, (rest None at).1);
  }

  free_without : (c : Chain) → At slots s (Some c) → IsFreeFrom slots free s
  free_without c at = record {
    unused = λ m r here. let u = is.unused m r here in (u.0, omega (arith, u.1));
    distinct = is.distinct;
    count = omega (arith, is.count, (rest (Some c) at).0, (rest (Some c) at).1);
  }

  pub free_more : (o : Option Chain) (now : List ℕ) → At slots s o → (o ≡ None → now ≡ free ++ s ∷ []) → ((c : Chain) → o ≡ Some c → now ≡ free) → IsFreeFrom slots now s
  free_more None now at none some = subst (λ (l : List ℕ). IsFreeFrom slots l s) (sym (none refl)) (free_with at)
  free_more (Some c) now at none some = subst (λ (l : List ℕ). IsFreeFrom slots l s) (sym (some c refl)) (free_without c at)

-- ---- a table of slots

-- the slots, with an index of them all and a list of all that are free
pub indexed_whole : (slots : List (Option Chain)) (index : Index) (free : List ℕ) → IsIndexedTo slots index (length slots) → IsFreeFrom slots free 0 → IsIndexed (record { slots = slots; index = index; free = free }) []
indexed_whole slots index free are frees = record {
  there = λ k s is. (are.found k s is).1;
  found = λ k s is. inl (are.found k s is).0;
  kept = λ s c at. are.kept s c at (at_within slots s (Some c) at);
  unused = λ n s at. (frees.unused n s at).0;
  distinct = frees.distinct;
  count = frees.count;
  ascending = are.ascending;
}
