-- What is kept while a commit is prepared.
use Rattle.std.specs.FinMap as map
use Rattle.std.proofs.Common.{◌≡◌, inl, inr, ℕ, ◌+◌, ◌-◌, ◌*◌, ◌/◌, ◌<◌, ◌≤◌, Bool, true, false, cond, List, [], ◌∷◌, ◌++◌, length, drop, Option, Some, None, refl, ap, sym, subst, ◌∙◌, arith, length-append}
use Rattle.std.specs.Prelude.{All, set, get_or}
use Rattle.std.specs.List.{count_by}
use Rattle.std.proofs.lemmas.Nat.{div_below}
use Rattle.std.proofs.lemmas.Option.{get_or_from_slice_get}
use Rattle.std.proofs.lemmas.List.{length-set, length-take, length-drop, length-map}
use Rattle.std.proofs.lemmas.List.Sums.{sum_by-set}
use Rattle.std.proofs.lemmas.List.Elements.{All-nil, All-cons, All-append, All-map}
use Rattle.kd_records.specs.declared.key.RecordKey.{RecordKey}
use Rattle.kd_records.specs.Keys.{key_cmp}
use Rattle.kd_records.specs.Contents.{Record, changed}
use Rattle.kd_records.specs.Charge.{IsBlockSize, charge_of}
use Rattle.kd_records.specs.ChargeLaws.{block_from}
use Rattle.kdcfile_layout.specs.declared.page.PageWrite.{PageWrite}
use Rattle.kdcfile_layout.specs.Places.{At}
use Rattle.kdcfile_layout.specs.Layout.{Layout, Part, slots_in_page, record_parts, directory_text}
use Rattle.kdcfile_layout.specs.Pages.{Fits, page_write, part_write, part_writes}
use Rattle.kdcfile_layout.specs.CrashLaws.{some_slots}
use Rattle.kdcfile_layout.specs.WritesLaws.{written_joined, longer}
use Rattle.kdcfile_layout.specs.PagesLaws.{length_padded, length_part, parts_named, pages_of_chain, chain_fits}
use Rattle.page_drafts.specs.Drafts.{IsPlan, Drafted}
use Rattle.page_drafts.specs.DraftSteps.{after, next_pages, HasLength}
use Rattle.page_drafts.specs.DraftStepsLaws.{next_there, record_put, record_removed, nothing_removed, directory_written, fewer_clean, clean_page}
use Rattle.page_drafts.specs.Drafting.{Drafting, new_chain, put_in, IsRemoved, IsPageWritten, IsOnPlan, IsSized, IsDraft, stale_pages}
use Rattle.page_drafts.specs.Tables.{IsPlaceFor, IsAbsent}

-- a slot is of one of the directory's pages
pub page_of_slot : (size : ℕ) (d : Drafting) → IsBlockSize size → IsSized size d → (s : ℕ) → s < length d.layout.slots → s / slots_in_page size < length d.stale
page_of_slot size d block is s lt =
    let below : s < length d.layout.directory * slots_in_page size = omega (arith, lt, is.slots) in
    omega (arith, div_below s (slots_in_page size) (length d.layout.directory) (some_slots size block) below, is.stale)

after_joined : (file : Option (List ℕ)) (xs ys : List PageWrite) → after file (xs ++ ys) ≡ after (after file xs) ys
after_joined None xs ys = refl
after_joined (Some h) xs ys = some_file _ _ (written_joined h xs ys)
  where
    some_file : (a b : List ℕ) → a ≡ b → Some a ≡ Some b
    some_file a b e = cc

-- writes cut nothing off
after_long : (long : ℕ) (file : Option (List ℕ)) (ws : List PageWrite) → HasLength long file → HasLength long (after file ws)
after_long long None ws le = tt
after_long long (Some h) ws le = omega (arith, le, longer ws h)

count_set : (stale : List Bool) (j : ℕ) (b : Bool) → j < length stale → count_by (λ c. c) (set stale j b) + cond (get_or stale j false) 1 0 ≡ count_by (λ c. c) stale + cond b 1 0
count_set stale j b lt = sum_by-set (λ (c : Bool). cond c 1 0) stale j b false lt

touched_most : (stale : List Bool) (j : ℕ) → j < length stale → count_by (λ c. c) (set stale j true) ≤ count_by (λ c. c) stale + 1
touched_most stale j lt = omega (arith, count_set stale j true lt)

-- the k-th page, which was stale, is not
pub one_less : (stale : List Bool) (j : ℕ) → At stale j true → j < length stale → count_by (λ c. c) (set stale j false) + 1 ≡ count_by (λ c. c) stale
one_less stale j at lt = omega (arith, count_set stale j false lt, ap {B = ℕ} (λ (b : Bool). cond b 1 0) (get_or_from_slice_get stale j true false at))

module _ (size pool : ℕ) (plan : List ℕ) (planned : IsPlan size pool plan) (block : IsBlockSize size) (items : List Record) (file : Option (List ℕ)) (d : Drafting) (is : IsDraft size pool items plan file d) where
  module _ (k : RecordKey) (wide : length k.bytes ≡ 24) (v : List ℕ) (s : ℕ) (place : IsPlaceFor k s d.layout.slots) (enough : d.taken + charge_of size (length v) ≤ length plan) where
    wide_enough : 48 ≤ size
    wide_enough = omega (arith, block_from size block)

    fit : All (Fits size) (record_parts size v (new_chain size plan k v d.taken))
    fit = chain_fits size (size - 48) k (length v) 0 v (next_pages plan d.taken (charge_of size (length v))) wide (omega (arith, wide_enough))

    writes_on_plan : All (IsOnPlan size plan) (part_writes size d.long (record_parts size v (new_chain size plan k v d.taken)))
    writes_on_plan =
        let c = new_chain size plan k v d.taken in
        let named = parts_named (size - 48) k (length v) 0 v c.pages in
        All-map (IsOnPlan size plan) (λ (p : Part). part_write size d.long p) (record_parts size v (new_chain size plan k v d.taken))
        (λ n e lt. let a = named n e lt in (d.taken + a.0, (get_or (record_parts size v (new_chain size plan k v d.taken)) n e).0, (next_there plan d.taken (charge_of size (length v)) a.0 _ a.1).0, refl, length_part size _ (fit n e lt) d.long))

    length_parts : length (record_parts size v (new_chain size plan k v d.taken)) ≡ charge_of size (length v)
    length_parts =
        let c = new_chain size plan k v d.taken in
        omega (arith, length-map (record_parts size v c) (λ (p : Part). p.0), ap (λ (l : List ℕ). length l) (pages_of_chain (size - 48) k (length v) 0 v c.pages), length-take (charge_of size (length v)) (drop d.taken plan), length-drop d.taken plan, enough)

    pub put_kept : IsDraft size pool (changed items (k, Some v)) plan file (put_in size plan k v s d)
    put_kept =
        let c = new_chain size plan k v d.taken in
        record {
          drafted =
              subst (λ (f : Option (List ℕ)). Drafted size pool (changed items (k, Some v)) (put_in size plan k v s d).layout (put_in size plan k v s d).stale plan (put_in size plan k v s d).taken f) (sym (after_joined file d.writes (part_writes size d.long (record_parts size v c))))
              (record_put size pool items d.layout d.stale plan d.taken (charge_of size (length v)) (after file d.writes) is.drafted planned k s place.there place.own place.only
              (set d.stale (s / slots_in_page size) true) (fewer_clean size s d.stale (some_slots size block)) d.long (after_long d.long file d.writes is.long) v wide wide_enough enough refl);
          on_plan = All-append (IsOnPlan size plan) d.writes (part_writes size d.long (record_parts size v c)) is.on_plan writes_on_plan;
          count = omega (arith, length-append d.writes (part_writes size d.long (record_parts size v c)), is.count, length-map (record_parts size v c) (λ (p : Part). part_write size d.long p), length_parts);
          long = is.long;
        }

  pub no_record : (k : RecordKey) → IsAbsent k d.layout.slots → map.find key_cmp k items ≡ None
  no_record k absent = by (map.find key_cmp k items) refl
    where
      by : (o : Option (List ℕ)) → map.find key_cmp k items ≡ o → map.find key_cmp k items ≡ None
      by None e = e
      by (Some v) e = let was = is.drafted.layout.table.placed k v e in absurd (absent was.0 was.1 was.2 was.3)

  pub removed_kept : (k : RecordKey) (e : Drafting) → IsRemoved size k d e → IsDraft size pool (changed items (k, None)) plan file e
  removed_kept k e (inl (absent, same)) =
      subst (λ (x : Drafting). IsDraft size pool (changed items (k, None)) plan file x) (sym same)
      (record { drafted = nothing_removed size pool items d.layout d.stale plan d.taken (after file d.writes) is.drafted k (no_record k absent); on_plan = is.on_plan; count = is.count; long = is.long })
  removed_kept k e (inr (s, place, same)) =
      subst (λ (x : Drafting). IsDraft size pool (changed items (k, None)) plan file x) (sym same)
      (record {
        drafted = record_removed size pool items d.layout d.stale plan d.taken 0 (after file d.writes) is.drafted planned k s place.there place.own place.only (set d.stale (s / slots_in_page size) true) (fewer_clean size s d.stale (some_slots size block));
        on_plan = is.on_plan;
        count = is.count;
        long = is.long;
      })

  pub page_kept : (k : ℕ) (e : Drafting) → k < length d.layout.directory → IsPageWritten size plan k d e → IsDraft size pool items plan file e
  page_kept k e there w =
      let q = w.page.0 in
      let text = directory_text size k d.layout.slots in
      let layout : e.layout ≡ record d.layout { directory = set d.layout.directory k q } = λ z. record { directory = w.page.2 z; slots = w.slots z } in
      let now : after file e.writes ≡ after (after file d.writes) (page_write size (q, text) ∷ []) = ap (λ (ws : List PageWrite). after file ws) w.page.3 ∙ after_joined file d.writes (page_write size (q, text) ∷ []) in
      record {
        drafted =
            subst (λ (m : Layout). Drafted size pool items m e.stale plan e.taken (after file e.writes)) (sym layout)
            (subst (λ (t : List Bool). Drafted size pool items (record d.layout { directory = set d.layout.directory k q }) t plan e.taken (after file e.writes)) (sym w.stale)
            (subst (λ (n : ℕ). Drafted size pool items (record d.layout { directory = set d.layout.directory k q }) (set d.stale k false) plan n (after file e.writes)) (sym w.taken)
            (subst (λ (f : Option (List ℕ)). Drafted size pool items (record d.layout { directory = set d.layout.directory k q }) (set d.stale k false) plan (d.taken + 1) f) (sym now)
            (directory_written size pool items d.layout d.stale plan d.taken (after file d.writes) is.drafted planned k q there w.page.1 w.fits (set d.stale k false) (λ j at apart. clean_page d.stale k j at apart)))));
        on_plan =
            subst (λ (ws : List PageWrite). All (IsOnPlan size plan) ws) (sym w.page.3)
            (All-append (IsOnPlan size plan) d.writes (page_write size (q, text) ∷ []) is.on_plan
            (All-cons (IsOnPlan size plan) (page_write size (q, text)) [] (d.taken, q, w.page.1, refl, omega (arith, length_padded size text w.fits)) (All-nil (IsOnPlan size plan))));
        count = omega (arith, ap (λ (ws : List PageWrite). length ws) w.page.3, length-append d.writes (page_write size (q, text) ∷ []), is.count, w.taken);
        long = subst (λ (n : ℕ). HasLength n file) (sym w.long) is.long;
      }

-- ---- sizes, and how many pages are stale

pub put_sized : (size : ℕ) (plan : List ℕ) (k : RecordKey) (v : List ℕ) (s : ℕ) (d : Drafting) → IsSized size d → IsSized size (put_in size plan k v s d)
put_sized size plan k v s d is = record {
  stale = length-set d.stale (s / slots_in_page size) true ∙ is.stale;
  slots = length-set d.layout.slots s (Some (new_chain size plan k v d.taken)) ∙ is.slots;
}

pub removed_sized : (size : ℕ) (k : RecordKey) (d e : Drafting) → IsRemoved size k d e → IsSized size d → IsSized size e
removed_sized size k d e (inl (absent, same)) is = subst (λ (x : Drafting). IsSized size x) (sym same) is
removed_sized size k d e (inr (s, place, same)) is =
    subst (λ (x : Drafting). IsSized size x) (sym same)
    (record { stale = length-set d.stale (s / slots_in_page size) true ∙ is.stale; slots = length-set d.layout.slots s None ∙ is.slots })

pub put_stale : (size : ℕ) (plan : List ℕ) (k : RecordKey) (v : List ℕ) (s : ℕ) (d : Drafting) → IsBlockSize size → IsSized size d → s < length d.layout.slots → stale_pages (put_in size plan k v s d) ≤ stale_pages d + 1
put_stale size plan k v s d block is lt = touched_most d.stale (s / slots_in_page size) (page_of_slot size d block is s lt)

pub removed_stale : (size : ℕ) (k : RecordKey) (d e : Drafting) → IsBlockSize size → IsSized size d → IsRemoved size k d e → stale_pages e ≤ stale_pages d + 1
removed_stale size k d e block is (inl (absent, same)) = omega (arith, ap (λ (x : Drafting). stale_pages x) same)
removed_stale size k d e block is (inr (s, place, same)) = omega (arith, ap (λ (x : Drafting). stale_pages x) same, touched_most d.stale (s / slots_in_page size) (page_of_slot size d block is s place.there))
