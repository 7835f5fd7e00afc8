-- A layout that is changed record by record, with the pages that are written for it.
use Rattle.std.specs.FinMap as map
use Rattle.std.proofs.Common.{◌≡◌, ◌⊎◌, inl, inr, ⊎_elim, ℕ, ◌+◌, ◌-◌, ◌*◌, ◌<◌, ◌≤◌, Bool, false, List, length, take, drop, Option, Some, None, refl, ap, sym, subst, ◌∙◌, arith}
use Rattle.std.specs.Prelude.{All, set, get_or}
use Rattle.std.specs.List.{flat_map}
use Rattle.std.proofs.lemmas.Cmp.{tied_itself}
use Rattle.std.proofs.lemmas.List.{length-set, drop-set-lt, take-set-le, drop-take}
use Rattle.std.proofs.lemmas.Option.{none-some, same_Some, slice_get-get_or}
use Rattle.std.specs.declared.cmp.Ordering.{Ordering}
use Rattle.std.specs.declared.cmp.Ordering.TheVariants.{Less, Equal, Greater}
use Rattle.kd_records.specs.declared.key.RecordKey.{RecordKey}
use Rattle.kd_records.specs.Keys.{key_cmp}
use Rattle.kd_records.specs.KeyLaws.{key_total, same_key}
use Rattle.kd_records.specs.Contents.{Record, changed}
use Rattle.kd_records.specs.ContentLaws.{change_says_what_is_found}
use Rattle.kd_records.specs.Charge.{charge_of}
use Rattle.kdcfile_layout.specs.declared.chain.Chain.{Chain}
use Rattle.kdcfile_layout.specs.Places.{At}
use Rattle.kdcfile_layout.specs.Layout.{Layout, Part, Has, Name, InRoot, InChain, Names, IsTable, if_used, over_slots, record_parts, spelled_slot, directory_text, slots_in_page}
use Rattle.kdcfile_layout.specs.PlacesLaws.{at_one, at_set, at_set_other, at_set_same}
use Rattle.page_drafts.specs.Counts.{if_any, over}
use Rattle.page_drafts.specs.CountsLaws.{over_slots_set, over_changed, ascending_changed, length_over}
use Rattle.kdcfile_layout.specs.PagesLaws.{parts_named}
use Rattle.page_drafts.specs.Drafts.{IsPlan, Drafted, IsSlotFor, IsOutside}

-- ---- keys

pub same_or_not : (q k : RecordKey) → (q ≡ k) ⊎ (q ≡ k → ⊥)
same_or_not q k = by (key_cmp q k) refl
  where
    apart : (r : Ordering) → key_cmp q k ≡ r → (r ≡ Equal → ⊥) → q ≡ k → ⊥
    apart r e ne same = ne (sym e ∙ ap (λ (j : RecordKey). key_cmp j k) same ∙ tied_itself key_total k)

    by : (r : Ordering) → key_cmp q k ≡ r → (q ≡ k) ⊎ (q ≡ k → ⊥)
    by Less e = inr (apart Less e (λ x. cc))
    by Equal e = inl (same_key q k e)
    by Greater e = inr (apart Greater e (λ x. cc))

-- ---- texts

-- a directory page has no part in a slot outside it
pub same_text : (size : ℕ) (k s : ℕ) (slots : List (Option Chain)) (o : Option Chain) → IsOutside size s k → directory_text size k (set slots s o) ≡ directory_text size k slots
same_text size k s slots o outside =
    let per = slots_in_page size in
    ap (λ (l : List (Option Chain)). flat_map spelled_slot l)
    (⊎_elim
    (λ lt. ap (λ (l : List (Option Chain)). take per l) (drop-set-lt (k * per) slots s o lt))
    (λ ge. sym (drop-take (k * per) per (set slots s o)) ∙ ap (λ (l : List (Option Chain)). drop (k * per) l) (take-set-le (k * per + per) slots s o ge) ∙ drop-take (k * per) per slots)
    outside)

same_add : (t a b : ℕ) → t + a ≡ t + b → a ≡ b
same_add t a b e = omega (arith, e)

-- ---- one change of a record

module _ (size pool : ℕ) (items : List Record) (l : Layout) (stale : List Bool) (plan : List ℕ) (t next : ℕ) (file : Option (List ℕ)) (d : Drafted size pool items l stale plan t file) (planned : IsPlan size pool plan) (k : RecordKey) (value : Option (List ℕ)) (s : ℕ) (o : Option Chain) (in_table : s < length l.slots)
    (own : (c : Chain) → At l.slots s (Some c) → c.key ≡ k) (only : (r : ℕ) (c : Chain) → At l.slots r (Some c) → c.key ≡ k → r ≡ s) (order : t ≤ next) (suits : IsSlotFor size k value plan t next o) where
  said : (map.find key_cmp k (changed items (k, value)) ≡ value) × ((q : RecordKey) → (q ≡ k → ⊥) → map.find key_cmp q (changed items (k, value)) ≡ map.find key_cmp q items)
  said = change_says_what_is_found items k value

  -- a slot now is the one that was changed, or another with another key
  slot_now : (r : ℕ) (c : Chain) → At (set l.slots s o) r (Some c) → ((s ≡ r) × (o ≡ Some c)) ⊎ (At l.slots r (Some c) × (c.key ≡ k → ⊥))
  slot_now r c at =
      ⊎_elim (λ here. inl here) (λ other. inr (other.1, λ e. other.0 (sym (only r c other.1 e))))
      (at_set l.slots s r o (Some c) at)

  found_new : (c : Chain) (v : List ℕ) → o ≡ Some c → map.find key_cmp c.key (changed items (k, value)) ≡ Some v → value ≡ Some v
  found_new c v is found = sym said.0 ∙ ap (λ (q : RecordKey). map.find key_cmp q (changed items (k, value))) (sym (suits.key c is)) ∙ found

  old_sum : (g : Chain → ℕ) (f : List ℕ → ℕ) → ((c : Chain) (v : List ℕ) → At l.slots s (Some c) → map.find key_cmp k items ≡ Some v → g c ≡ f v) → if_used g (get_or l.slots s None) ≡ if_any f (map.find key_cmp k items)
  old_sum g f agree = by (get_or l.slots s None) (slice_get-get_or l.slots s None in_table) (map.find key_cmp k items) refl
    where
      at_last : (r : ℕ) (c : Chain) → r ≡ s → At l.slots r (Some c) → At l.slots s (Some c)
      at_last r c e at = subst (λ (n : ℕ). At l.slots n (Some c)) e at

      by : (x : Option Chain) → At l.slots s x → (found : Option (List ℕ)) → map.find key_cmp k items ≡ found → if_used g x ≡ if_any f found
      by None at None is = refl
      by None at (Some v) is = let was = d.layout.table.placed k v is in absurd (none-some was.1 (at_one l.slots s None (Some was.1) at (at_last was.0 was.1 (only was.0 was.1 was.2 was.3) was.2)))
      by (Some c) at found is = let v = d.layout.table.kept s c at in let here = sym is ∙ ap (λ (q : RecordKey). map.find key_cmp q items) (sym (own c at)) ∙ v.1 in
          agree c v.0 at (is ∙ here) ∙ ap (λ (y : Option (List ℕ)). if_any f y) (sym here)

  new_sum : (g : Chain → ℕ) (f : List ℕ → ℕ) → ((c : Chain) (v : List ℕ) → o ≡ Some c → value ≡ Some v → g c ≡ f v) → if_used g o ≡ if_any f value
  new_sum g f agree = by o refl value refl
    where
      by : (x : Option Chain) → o ≡ x → (y : Option (List ℕ)) → value ≡ y → if_used g x ≡ if_any f y
      by None e None is = refl
      by None e (Some v) is = let c = suits.there v is in absurd (none-some c.0 (sym e ∙ c.1))
      by (Some c) e None is = let v = suits.valued c e in absurd (none-some v.0 (sym is ∙ v.1))
      by (Some c) e (Some v) is = agree c v e is

  sums : (g : Chain → ℕ) (f : List ℕ → ℕ) → ((c : Chain) (v : List ℕ) → At l.slots s (Some c) → map.find key_cmp k items ≡ Some v → g c ≡ f v) → ((c : Chain) (v : List ℕ) → o ≡ Some c → value ≡ Some v → g c ≡ f v) → over_slots g l.slots ≡ over f items → over_slots g (set l.slots s o) ≡ over f (changed items (k, value))
  sums g f was is same = omega (arith, over_slots_set g l.slots s o in_table, over_changed f k value items d.ascending, old_sum g f was, new_sum g f is, same)

  old_value : (c : Chain) (v : List ℕ) → At l.slots s (Some c) → map.find key_cmp k items ≡ Some v → length c.pages ≡ charge_of size (length v)
  old_value c v at found =
      let w = d.layout.table.kept s c at in
      w.2 ∙ ap (λ (y : List ℕ). charge_of size (length y)) (same_Some w.0 v (sym w.1 ∙ ap (λ (q : RecordKey). map.find key_cmp q items) (own c at) ∙ found))

  new_value : (c : Chain) (v : List ℕ) → o ≡ Some c → value ≡ Some v → length c.pages ≡ charge_of size (length v)
  new_value c v e is = let w = suits.valued c e in w.2 ∙ ap (λ (y : List ℕ). charge_of size (length y)) (same_Some w.0 v (sym w.1 ∙ is))

  table : IsTable size (changed items (k, value)) (set l.slots s o)
  table =
      let old = d.layout.table in
      record {
        one_slot = λ r q b c at_b at_c e.
            ⊎_elim
            (λ x. ⊎_elim
            (λ y. sym x.0 ∙ y.0)
            (λ y. absurd (y.1 (sym e ∙ suits.key b x.1)))
            (slot_now q c at_c))
            (λ x. ⊎_elim
            (λ y. absurd (x.1 (e ∙ suits.key c y.1)))
            (λ y. old.one_slot r q b c x.0 y.0 e)
            (slot_now q c at_c))
            (slot_now r b at_b);
        key_length = λ r c at. ⊎_elim (λ x. suits.key_length c x.1) (λ y. old.key_length r c y.0) (slot_now r c at);
        kept = λ r c at.
            ⊎_elim
            (λ x. let v = suits.valued c x.1 in (v.0, ap (λ (q : RecordKey). map.find key_cmp q (changed items (k, value))) (suits.key c x.1) ∙ said.0 ∙ v.1, v.2))
            (λ y. let v = old.kept r c y.0 in (v.0, said.1 c.key y.1 ∙ v.1, v.2))
            (slot_now r c at);
        number = sums (λ c. 1) (λ v. 1) (λ c v at found. refl) (λ c v e is. refl) (old.number ∙ sym (length_over items)) ∙ length_over (changed items (k, value));
        placed = λ q v found.
            ⊎_elim
            (λ same.
            let c = suits.there v (sym said.0 ∙ ap (λ (j : RecordKey). map.find key_cmp j (changed items (k, value))) (sym same) ∙ found) in
            (s, c.0, at_new c.0 c.1, suits.key c.0 c.1 ∙ sym same))
            (λ apart.
            let was = old.placed q v (sym (said.1 q apart) ∙ found) in
            (was.0, was.1, at_set_other l.slots s was.0 o (Some was.1) (λ e. apart (sym was.3 ∙ own was.1 (moved was.0 was.1 (sym e) was.2))) was.2, was.3))
            (same_or_not q k);
      }
    where
      at_new : (c : Chain) → o ≡ Some c → At (set l.slots s o) s (Some c)
      at_new c is = subst (λ (x : Option Chain). At (set l.slots s o) s x) is (at_set_same l.slots s o in_table)

      moved : (r : ℕ) (c : Chain) → r ≡ s → At l.slots r (Some c) → At l.slots s (Some c)
      moved r c e at = subst (λ (n : ℕ). At l.slots n (Some c)) e at

  -- a name now is one of the plan's next pages in the slot, or was there before
  name_now : (u : Name) (p : ℕ) → Names (record l { slots = set l.slots s o }) u p → ((a : ℕ) × (u ≡ InChain s a) × At plan (t + a) p × (t + a < next)) ⊎ Names l u p
  name_now (InRoot j) p at = inr at
  name_now (InChain r a) p (c, at, page) =
      ⊎_elim
      (λ x. let q = suits.pages c a p x.1 page in inl (a, ap (λ (n : ℕ). InChain n a) (sym x.0), q.0, q.1))
      (λ y. inr (c, y.0, page))
      (slot_now r c at)

  -- what was on pages that were named is there, and the new chain too
  module _ (file' : Option (List ℕ)) (kept : (part : Part) → ((n : ℕ) → t ≤ n → At plan n part.0 → ⊥) → Has size file part → Has size file' part) (new : (c : Chain) (v : List ℕ) → o ≡ Some c → value ≡ Some v → All (Has size file') (record_parts size v c))
      (stale' : List Bool) (fewer : (j : ℕ) → At stale' j false → At stale j false × IsOutside size s j) where
    pub one_change : Drafted size pool (changed items (k, value)) (record l { slots = set l.slots s o }) stale' plan next file'
    one_change = record {
      ascending = ascending_changed items k value d.ascending;
      charged = sums (λ c. length c.pages) (λ v. charge_of size (length v)) old_value new_value d.charged;
      layout = record {
        directory = d.layout.directory;
        slots = length-set l.slots s o ∙ d.layout.slots;
        table = table;
        below = λ u p names. ⊎_elim (λ x. planned.below (t + x.0) p x.2) (λ y. d.layout.below u p y) (name_now u p names);
        once = λ u v p first second.
            ⊎_elim
            (λ x. ⊎_elim
            (λ y. let e : t + x.0 ≡ t + y.0 = planned.distinct (t + x.0) (t + y.0) p x.2 y.2 in x.1 ∙ ap (λ (n : ℕ). InChain s n) (same_add t x.0 y.0 e) ∙ sym y.1)
            (λ y. absurd (d.unplanned v p (t + x.0) y (omega arith) x.2))
            (name_now v p second))
            (λ x. ⊎_elim
            (λ y. absurd (d.unplanned u p (t + y.0) x (omega arith) y.2))
            (λ y. d.layout.once u v p x y)
            (name_now v p second))
            (name_now u p first);
      };
      unplanned = λ u p n names le at.
          ⊎_elim
          (λ x. let e : t + x.0 ≡ n = planned.distinct (t + x.0) n p x.2 at in absurd (omega (arith, e, x.3, le)))
          (λ y. d.unplanned u p n y (omega (arith, le, order)) at)
          (name_now u p names);
      directory = λ j p at clean.
          let f = fewer j clean in
          kept (p, directory_text size j (set l.slots s o)) (λ n le planned_there. d.unplanned (InRoot j) p n at le planned_there)
          (subst (λ (text : List ℕ). Has size file (p, text)) (sym (same_text size j s l.slots o f.1)) (d.directory j p at f.0));
      chains = λ r c v at found.
          ⊎_elim
          (λ x. new c v x.1 (found_new c v x.1 found))
          (λ y.
          let stood = d.chains r c v y.0 (sym (said.1 c.key y.1) ∙ found) in
          let named = parts_named (size - 48) c.key (length v) 0 v c.pages in
          λ n e lt. kept _ (λ m le planned_there. d.unplanned (InChain r (named n e lt).0) _ m (c, y.0, (named n e lt).1) le planned_there) (stood n e lt))
          (slot_now r c at);
    }
