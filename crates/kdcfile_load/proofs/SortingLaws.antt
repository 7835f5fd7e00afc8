-- Records that are sorted by their keys are the ones that are put in their places.
use Rattle.std.proofs.Common.{◌≡◌, ⊎_elim, ℕ, ◌+◌, ◌<◌, ◌≤◌, true, false, List, [], ◌∷◌, length, Option, Some, None, refl, ap, sym, subst, ◌∙◌, arith}
use Rattle.std.specs.Prelude.{IsTrue}
use Rattle.std.specs.Ordering.{is_eq}
use Rattle.std.specs.FinMap.{find, put, is_sorted}
use Rattle.std.specs.FinMap.Entries.{same_entries}
use Rattle.std.specs.List.Sorted.{IsPermutation}
use Rattle.std.proofs.lemmas.Cmp.{tied_itself}
use Rattle.std.proofs.lemmas.Option.{none-some, slice_get_read, get_or_from_slice_get}
use Rattle.kd_base.specs.OrderLaws.{holds}
use Rattle.kd_records.specs.declared.key.RecordKey.{RecordKey}
use Rattle.kd_records.specs.Contents.{Record}
use Rattle.kd_records.specs.Keys.{key_cmp}
use Rattle.kd_records.specs.KeyLaws.{key_total, same_key}
use Rattle.kdcfile_layout.specs.Places.{At}
use Rattle.kdcfile_layout.specs.PlacesLaws.{at_within}
use Rattle.kd_base.specs.Places.{times}
use Rattle.kd_base.specs.TimesLaws.{times_first, once_of, found_pair, pair_found}
use Rattle.kdcfile_load.specs.Gathers.{gathered, AreNew}
use Rattle.kdcfile_load.proofs.GathersLaws.{ties, still_found, put_found, none_put, gathered_sorted, gathered_has, gathered_only}

-- ---- records whose keys are each there once are new

new_from : (items records : List Record) → ((q : RecordKey) → times key_cmp q records ≤ 1) → ((q : RecordKey) → 0 < times key_cmp q records → find key_cmp q items ≡ None) → AreNew items records
new_from items [] once none = tt
new_from items (r ∷ records) once none = (
  none r.0 (omega (arith, here)),
  new_from (put key_cmp r.0 r.1 items) records
      (λ q. ⊎_elim
      (λ s. omega (arith, once q, times_first key_cmp q r records true s.1))
      (λ n. omega (arith, once q, times_first key_cmp q r records false n))
      (ties q r.0))
      (λ q there.
      none_put items q r.0 r.1
      (λ same.
      let two = subst (λ (k : RecordKey). 0 < times key_cmp k records) (sym same) there in
      absurd (omega (arith, once r.0, here, two)))
      (none q (⊎_elim
      (λ s. omega (arith, there, times_first key_cmp q r records true s.1))
      (λ n. omega (arith, there, times_first key_cmp q r records false n))
      (ties q r.0)))),
)
  where
    here : times key_cmp r.0 (r ∷ records) ≡ 1 + times key_cmp r.0 records
    here = times_first key_cmp r.0 r records true (ap is_eq (tied_itself key_total r.0))

-- ---- the key of a new record is there once

not_there : (items records : List Record) (q : RecordKey) (v : List ℕ) → AreNew items records → find key_cmp q items ≡ Some v → times key_cmp q records ≡ 0
not_there items [] q v new found = refl
not_there items (r ∷ records) q v new found =
    ⊎_elim
    (λ s. absurd (none-some v (sym new.0 ∙ ap (λ (k : RecordKey). find key_cmp k items) (sym s.0) ∙ found)))
    (λ n. omega (arith, times_first key_cmp q r records false n, not_there (put key_cmp r.0 r.1 items) records q v new.1 (still_found items q r.0 v r.1 new.0 found)))
    (ties q r.0)

new_once : (items records : List Record) (q : RecordKey) → AreNew items records → times key_cmp q records ≤ 1
new_once items [] q new = omega arith
new_once items (r ∷ records) q new =
    ⊎_elim
    (λ s.
    let found = ap (λ (k : RecordKey). find key_cmp k (put key_cmp r.0 r.1 items)) s.0 ∙ put_found items r.0 r.1 in
    omega (arith, times_first key_cmp q r records true s.1, not_there (put key_cmp r.0 r.1 items) records q r.1 new.1 found))
    (λ n. omega (arith, times_first key_cmp q r records false n, new_once (put key_cmp r.0 r.1 items) records q new.1))
    (ties q r.0)

pub twice_not_new : (records : List Record) → (q : RecordKey) × (1 < times key_cmp q records) → AreNew [] records → ⊥
twice_not_new records two new = absurd (omega (arith, two.1, new_once [] records two.0 new))

-- ---- sorted records

module _ (records items : List Record) (p : IsPermutation records items) (up : IsTrue (is_sorted key_cmp items)) where
  pub sorted_new : AreNew [] records
  sorted_new = new_from [] records (once_of key_cmp key_total records items p up) (λ q there. refl)

  pub sorted_gathered : items ≡ gathered [] records
  sorted_gathered =
      same_entries key_cmp key_total same_key items (gathered [] records) (holds _ up) (holds _ (gathered_sorted [] records refl))
      (λ q. by q (find key_cmp q items) (find key_cmp q (gathered [] records)) refl refl)
    where
      same_of_some : (q : RecordKey) (v : List ℕ) → find key_cmp q items ≡ Some v → find key_cmp q (gathered [] records) ≡ Some v
      same_of_some q v found =
          let c = pair_found key_cmp key_total records items p up q v found in
          let at : At records c.2.0 (c.0, v) = slice_get_read records (length records) c.2.0 (c.0, v) refl c.2.1 (sym c.2.2) in
          ap (λ (k : RecordKey). find key_cmp k (gathered [] records)) (same_key q c.0 c.1) ∙ gathered_has [] records c.2.0 (c.0, v) sorted_new at

      found_too : (q : RecordKey) (w : List ℕ) → find key_cmp q (gathered [] records) ≡ Some w → (v : List ℕ) × (find key_cmp q items ≡ Some v)
      found_too q w found =
          ⊎_elim
          (λ before. absurd (none-some w before))
          (λ c.
          (c.1.1, ap (λ (k : RecordKey). find key_cmp k items) (sym c.3) ∙ found_pair key_cmp key_total records items p up c.1.0 c.1.1 (c.0, at_within records c.0 c.1 c.2, get_or_from_slice_get records c.0 c.1 c.1 c.2)))
          (gathered_only [] records q w found)

      by : (q : RecordKey) (o g : Option (List ℕ)) → find key_cmp q items ≡ o → find key_cmp q (gathered [] records) ≡ g → find key_cmp q items ≡ find key_cmp q (gathered [] records)
      by q (Some v) g e h = e ∙ sym (same_of_some q v e)
      by q None None e h = e ∙ sym h
      by q None (Some w) e h = let c = found_too q w h in absurd (none-some c.0 (sym e ∙ c.1))
