-- Records that are put in their places: what is found among them, and the table that they make with their slots.
use Rattle.std.proofs.Common.{◌≡◌, ◌⊎◌, inl, inr, ⊎_elim, ℕ, zero, suc, ◌+◌, Bool, true, false, cond, List, [], ◌∷◌, length, Option, Some, None, refl, ap, sym, subst, ◌∙◌, arith}
use Rattle.std.specs.Prelude.{IsTrue, All, sum_by}
use Rattle.std.specs.Ordering.{eq_by_cmp, is_eq, ordering_reverse}
use Rattle.std.specs.declared.cmp.Ordering.{Ordering}
use Rattle.std.specs.declared.cmp.Ordering.TheVariants.{Less, Equal, Greater}
use Rattle.std.specs.FinMap.{find, put, is_sorted}
use Rattle.std.specs.FinMap.Entries.{find-put}
use Rattle.std.proofs.lemmas.Option.{none-some, same_Some}
use Rattle.std.proofs.lemmas.List.Sums.{sum_by-cons}
use Rattle.std.proofs.lemmas.List.Elements.{All-head, All-tail}
use Rattle.kd_base.specs.OrderLaws.{sorted_put}
use Rattle.kd_records.specs.declared.key.RecordKey.{RecordKey}
use Rattle.kd_records.specs.Contents.{Record, IsRecord}
use Rattle.kd_records.specs.Keys.{key_cmp}
use Rattle.kd_records.specs.KeyLaws.{key_total, same_key}
use Rattle.kd_records.specs.Charge.{charge_of, total_charge}
use Rattle.kdcfile_layout.specs.Places.{At}
use Rattle.kdcfile_layout.specs.PlacesLaws.{no_item, all_at}
use Rattle.kdcfile_layout.specs.declared.chain.Chain.{Chain}
use Rattle.kdcfile_layout.specs.Layout.{used, chain_pages, if_used, IsTable}
use Rattle.kdcfile_load.proofs.PutsLaws.{sum_put, all_put}
use Rattle.kdcfile_load.specs.Gathers.{gathered, AreNew, AreKept}

-- ---- one record is put in its place

-- a key ties with another, and is it, or does not
pub ties : (k j : RecordKey) → ((k ≡ j) × (eq_by_cmp key_cmp k j ≡ true)) ⊎ (eq_by_cmp key_cmp k j ≡ false)
ties k j = by (key_cmp k j) refl
  where
    by : (r : Ordering) → key_cmp k j ≡ r → ((k ≡ j) × (eq_by_cmp key_cmp k j ≡ true)) ⊎ (eq_by_cmp key_cmp k j ≡ false)
    by Less e = inr (ap is_eq e)
    by Equal e = inl (same_key k j e, ap is_eq e)
    by Greater e = inr (ap is_eq e)

-- what was found is found
pub still_found : (items : List Record) (k j : RecordKey) (v w : List ℕ) → find key_cmp j items ≡ None → find key_cmp k items ≡ Some v → find key_cmp k (put key_cmp j w items) ≡ Some v
still_found items k j v w new there =
    find-put key_cmp key_total k j w items
    ∙ ⊎_elim
    (λ s. absurd (none-some v (sym new ∙ ap (λ (x : RecordKey). find key_cmp x items) (sym s.0) ∙ there)))
    (λ e. ap (λ (b : Bool). cond b (Some w) (find key_cmp k items)) e ∙ there)
    (ties k j)

-- so is what was put there
pub put_found : (items : List Record) (k : RecordKey) (w : List ℕ) → find key_cmp k (put key_cmp k w items) ≡ Some w
put_found items k w =
    find-put key_cmp key_total k k w items
    ∙ ⊎_elim
    (λ s. ap (λ (b : Bool). cond b (Some w) (find key_cmp k items)) s.1)
    (λ e. absurd (true_not_false (sym (ap is_eq (itself (key_cmp k k) (key_total.antisymm k k))) ∙ e)))
    (ties k k)
  where
    true_not_false : true ≡ false → ⊥
    true_not_false e = cc

    itself : (r : Ordering) → r ≡ ordering_reverse r → r ≡ Equal
    itself Less e = absurd cc
    itself Equal e = refl
    itself Greater e = absurd cc

-- and nothing else
pub found_put : (items : List Record) (k j : RecordKey) (v w : List ℕ) → find key_cmp k (put key_cmp j w items) ≡ Some v → (find key_cmp k items ≡ Some v) ⊎ (j ≡ k)
found_put items k j v w there =
    ⊎_elim
    (λ s. inr (sym s.0))
    (λ e. inl (sym (ap (λ (b : Bool). cond b (Some w) (find key_cmp k items)) e) ∙ sym (find-put key_cmp key_total k j w items) ∙ there))
    (ties k j)

pub none_put : (items : List Record) (k j : RecordKey) (w : List ℕ) → (j ≡ k → ⊥) → find key_cmp k items ≡ None → find key_cmp k (put key_cmp j w items) ≡ None
none_put items k j w apart none =
    find-put key_cmp key_total k j w items
    ∙ ⊎_elim
    (λ s. absurd (apart (sym s.0)))
    (λ e. ap (λ (b : Bool). cond b (Some w) (find key_cmp k items)) e ∙ none)
    (ties k j)

-- ---- all of them

pub gathered_sorted : (items records : List Record) → IsTrue (is_sorted key_cmp items) → IsTrue (is_sorted key_cmp (gathered items records))
gathered_sorted items [] up = up
gathered_sorted items (r ∷ records) up = gathered_sorted (put key_cmp r.0 r.1 items) records (sorted_put key_total r.0 r.1 items up)

pub gathered_sum : (f : Record → ℕ) (items records : List Record) → AreNew items records → sum_by f (gathered items records) ≡ sum_by f items + sum_by f records
gathered_sum f items [] new = omega arith
gathered_sum f items (r ∷ records) new =
    omega (arith, gathered_sum f (put key_cmp r.0 r.1 items) records new.1, sum_put f r.0 r.1 items new.0, sum_by-cons f r records)

pub gathered_all : (P : Record → Type 0) (items records : List Record) → AreNew items records → All P items → All P records → All P (gathered items records)
gathered_all P items [] new all more = all
gathered_all P items (r ∷ records) new all more = gathered_all P (put key_cmp r.0 r.1 items) records new.1 (all_put P r.0 r.1 items new.0 (All-head P r records more) all) (All-tail P r records more)

pub gathered_keeps : (items records : List Record) (k : RecordKey) (v : List ℕ) → AreNew items records → find key_cmp k items ≡ Some v → find key_cmp k (gathered items records) ≡ Some v
gathered_keeps items [] k v new there = there
gathered_keeps items (r ∷ records) k v new there = gathered_keeps (put key_cmp r.0 r.1 items) records k v new.1 (still_found items k r.0 v r.1 new.0 there)

-- each of them is found
pub gathered_has : (items records : List Record) (n : ℕ) (r : Record) → AreNew items records → At records n r → find key_cmp r.0 (gathered items records) ≡ Some r.1
gathered_has items [] n r new at = absurd (no_item n r at)
gathered_has items (q ∷ records) zero r new at =
    let is : q ≡ r = same_Some q r at in
    subst (λ (x : Record). find key_cmp x.0 (gathered items (q ∷ records)) ≡ Some x.1) is (gathered_keeps (put key_cmp q.0 q.1 items) records q.0 q.1 new.1 (put_found items q.0 q.1))
gathered_has items (q ∷ records) (suc n) r new at = gathered_has (put key_cmp q.0 q.1 items) records n r new.1 at

-- and nothing else
pub gathered_only : (items records : List Record) (k : RecordKey) (v : List ℕ) → find key_cmp k (gathered items records) ≡ Some v → (find key_cmp k items ≡ Some v) ⊎ ((n : ℕ) × (r : Record) × At records n r × (r.0 ≡ k))
gathered_only items [] k v there = inl there
gathered_only items (q ∷ records) k v there =
    ⊎_elim
    (λ here. ⊎_elim (λ before. inl before) (λ e. inr (zero, q, refl, e)) (found_put items k q.0 v q.1 here))
    (λ later. inr (suc later.0, later.1, later.2, later.3))
    (gathered_only (put key_cmp q.0 q.1 items) records k v there)

-- a key that is there is none of theirs
pub new_apart : (items records : List Record) (k : RecordKey) (v : List ℕ) (n : ℕ) (r : Record) → AreNew items records → find key_cmp k items ≡ Some v → At records n r → r.0 ≡ k → ⊥
new_apart items [] k v n r new there at e = no_item n r at
new_apart items (q ∷ records) k v zero r new there at e =
    none-some v (sym new.0 ∙ ap (λ (x : Record). find key_cmp x.0 items) (same_Some q r at) ∙ ap (λ (x : RecordKey). find key_cmp x items) e ∙ there)
new_apart items (q ∷ records) k v (suc n) r new there at e = new_apart (put key_cmp q.0 q.1 items) records k v n r new.1 (still_found items k q.0 v q.1 new.0 there) at e

-- ---- with their slots

-- a slot's record
pub kept_at : (size : ℕ) (slots : List (Option Chain)) (records : List Record) (s : ℕ) (c : Chain) → AreKept size slots records → At slots s (Some c) → (n : ℕ) × (r : Record) × At records n r × (c.key ≡ r.0) × (length c.pages ≡ charge_of size (length r.1))
kept_at size [] records s c kept at = absurd (no_item s (Some c) at)
kept_at size (None ∷ slots) records zero c kept at = absurd (none-some c (same_Some None (Some c) at))
kept_at size (None ∷ slots) records (suc s) c kept at = kept_at size slots records s c kept at
kept_at size (Some d ∷ slots) [] s c kept at = absurd kept
kept_at size (Some d ∷ slots) (r ∷ records) zero c kept at =
    subst (λ (x : Chain). (n : ℕ) × (q : Record) × At (r ∷ records) n q × (x.key ≡ q.0) × (length x.pages ≡ charge_of size (length q.1))) (same_Some d c (same_Some (Some d) (Some c) at)) (zero, r, refl, kept.0, kept.1)
kept_at size (Some d ∷ slots) (r ∷ records) (suc s) c kept at =
    let rest = kept_at size slots records s c kept.2 at in
    (suc rest.0, rest.1, rest.2, rest.3, rest.4)

-- a record's slot
pub slot_at : (size : ℕ) (slots : List (Option Chain)) (records : List Record) (n : ℕ) (r : Record) → AreKept size slots records → At records n r → (s : ℕ) × (c : Chain) × At slots s (Some c) × (c.key ≡ r.0)
slot_at size [] [] n r kept at = absurd (no_item n r at)
slot_at size [] (q ∷ records) n r kept at = absurd kept
slot_at size (None ∷ slots) records n r kept at = let rest = slot_at size slots records n r kept at in (suc rest.0, rest.1, rest.2, rest.3)
slot_at size (Some d ∷ slots) [] n r kept at = absurd kept
slot_at size (Some d ∷ slots) (q ∷ records) zero r kept at = (zero, d, refl, kept.0 ∙ ap (λ (x : Record). x.0) (same_Some q r at))
slot_at size (Some d ∷ slots) (q ∷ records) (suc n) r kept at = let rest = slot_at size slots records n r kept.2 at in (suc rest.0, rest.1, rest.2, rest.3)

-- as many slots are used as there are records
pub kept_number : (size : ℕ) (slots : List (Option Chain)) (records : List Record) → AreKept size slots records → used slots ≡ length records
kept_number size [] [] kept = refl
kept_number size [] (r ∷ records) kept = absurd kept
kept_number size (None ∷ slots) records kept = omega (arith, sum_by-cons (λ (o : Option Chain). if_used (λ c. 1) o) None slots, kept_number size slots records kept)
kept_number size (Some c ∷ slots) [] kept = absurd kept
kept_number size (Some c ∷ slots) (r ∷ records) kept = omega (arith, sum_by-cons (λ (o : Option Chain). if_used (λ c. 1) o) (Some c) slots, kept_number size slots records kept.2)

pub kept_charge : (size : ℕ) (slots : List (Option Chain)) (records : List Record) → AreKept size slots records → chain_pages slots ≡ total_charge size records
kept_charge size [] [] kept = refl
kept_charge size [] (r ∷ records) kept = absurd kept
kept_charge size (None ∷ slots) records kept = omega (arith, sum_by-cons (λ (o : Option Chain). if_used (λ c. length c.pages) o) None slots, kept_charge size slots records kept)
kept_charge size (Some c ∷ slots) [] kept = absurd kept
kept_charge size (Some c ∷ slots) (r ∷ records) kept =
    omega (arith, sum_by-cons (λ (o : Option Chain). if_used (λ c. length c.pages) o) (Some c) slots, sum_by-cons (λ (r : Record). charge_of size (length r.1)) r records, kept.1, kept_charge size slots records kept.2)

-- each key is in one slot
pub one_slot : (size : ℕ) (items : List Record) (slots : List (Option Chain)) (records : List Record) (s t : ℕ) (c d : Chain) → AreKept size slots records → AreNew items records → At slots s (Some c) → At slots t (Some d) → c.key ≡ d.key → s ≡ t
one_slot size items [] records s t c d kept new at_s at_t e = absurd (no_item s (Some c) at_s)
one_slot size items (None ∷ slots) records zero t c d kept new at_s at_t e = absurd (none-some c (same_Some None (Some c) at_s))
one_slot size items (None ∷ slots) records (suc s) zero c d kept new at_s at_t e = absurd (none-some d (same_Some None (Some d) at_t))
one_slot size items (None ∷ slots) records (suc s) (suc t) c d kept new at_s at_t e = ap suc (one_slot size items slots records s t c d kept new at_s at_t e)
one_slot size items (Some x ∷ slots) [] s t c d kept new at_s at_t e = absurd kept
one_slot size items (Some x ∷ slots) (r ∷ records) zero zero c d kept new at_s at_t e = refl
one_slot size items (Some x ∷ slots) (r ∷ records) zero (suc t) c d kept new at_s at_t e =
    let there = kept_at size slots records t d kept.2 at_t in
    let is : x ≡ c = same_Some x c (same_Some (Some x) (Some c) at_s) in
    absurd (new_apart (put key_cmp r.0 r.1 items) records r.0 r.1 there.0 there.1 new.1 (put_found items r.0 r.1) there.2 (sym there.3 ∙ sym e ∙ ap (λ (y : Chain). y.key) (sym is) ∙ kept.0))
one_slot size items (Some x ∷ slots) (r ∷ records) (suc s) zero c d kept new at_s at_t e =
    let there = kept_at size slots records s c kept.2 at_s in
    let is : x ≡ d = same_Some x d (same_Some (Some x) (Some d) at_t) in
    absurd (new_apart (put key_cmp r.0 r.1 items) records r.0 r.1 there.0 there.1 new.1 (put_found items r.0 r.1) there.2 (sym there.3 ∙ e ∙ ap (λ (y : Chain). y.key) (sym is) ∙ kept.0))
one_slot size items (Some x ∷ slots) (r ∷ records) (suc s) (suc t) c d kept new at_s at_t e = ap suc (one_slot size (put key_cmp r.0 r.1 items) slots records s t c d kept.2 new.1 at_s at_t e)

-- and where each key is in one slot, the records are new
pub slots_new : (size : ℕ) (items : List Record) (slots : List (Option Chain)) (records : List Record) → AreKept size slots records
    → ((s t : ℕ) (c d : Chain) → At slots s (Some c) → At slots t (Some d) → c.key ≡ d.key → s ≡ t) → ((s : ℕ) (c : Chain) → At slots s (Some c) → find key_cmp c.key items ≡ None) → AreNew items records
slots_new size items [] [] kept one none = tt
slots_new size items [] (r ∷ records) kept one none = absurd kept
slots_new size items (None ∷ slots) records kept one none =
    slots_new size items slots records kept (λ s t c d at_s at_t e. let same : suc s ≡ suc t = one (suc s) (suc t) c d at_s at_t e in omega (arith, same)) (λ s c at. none (suc s) c at)
slots_new size items (Some x ∷ slots) [] kept one none = absurd kept
slots_new size items (Some x ∷ slots) (r ∷ records) kept one none = (
  ap (λ (k : RecordKey). find key_cmp k items) (sym kept.0) ∙ none zero x refl,
  slots_new size (put key_cmp r.0 r.1 items) slots records kept.2 (λ s t c d at_s at_t e. let same : suc s ≡ suc t = one (suc s) (suc t) c d at_s at_t e in omega (arith, same))
      (λ s c at. none_put items c.key r.0 r.1 (λ e. let same : zero ≡ suc s = one zero (suc s) x c refl at (kept.0 ∙ e) in absurd (omega (arith, same))) (none (suc s) c at)),
)

-- the table of these slots
pub table_of : (size : ℕ) (slots : List (Option Chain)) (records : List Record) → AreKept size slots records → AreNew [] records → All IsRecord records → IsTable size (gathered [] records) slots
table_of size slots records kept new are = record {
  one_slot = λ s t c d at_s at_t e. one_slot size [] slots records s t c d kept new at_s at_t e;
  key_length = λ s c at.
      let there = kept_at size slots records s c kept at in
      ap (λ (k : RecordKey). length k.bytes) there.3 ∙ (all_at IsRecord records there.0 there.1 are there.2).key_length;
  kept = λ s c at.
      let there = kept_at size slots records s c kept at in
      (there.1.1, ap (λ (k : RecordKey). find key_cmp k (gathered [] records)) there.3 ∙ gathered_has [] records there.0 there.1 new there.2, there.4);
  number = kept_number size slots records kept ∙ gathered_number records new;
  placed = λ k value found.
      ⊎_elim
      (λ none. absurd (none-some value none))
      (λ there. let slot = slot_at size slots records there.0 there.1 kept there.2 in (slot.0, slot.1, slot.2, slot.3 ∙ there.3))
      (gathered_only [] records k value found);
}
  where
    ones : (items : List Record) → sum_by (λ (r : Record). 1) items ≡ length items
    ones [] = refl
    ones (r ∷ items) = omega (arith, sum_by-cons (λ (r : Record). 1) r items, ones items)

    gathered_number : (records : List Record) → AreNew [] records → length records ≡ length (gathered [] records)
    gathered_number records new = omega (arith, gathered_sum (λ (r : Record). 1) [] records new, ones records, ones (gathered [] records))
