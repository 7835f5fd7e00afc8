-- What is in a file is read, and what is read is there.
use Rattle.std.specs.FinMap.{find}
use Rattle.std.proofs.Common.{◌≡◌, ⊎_elim, ℕ, zero, suc, ◌+◌, ◌*◌, ◌<◌, ◌≤◌, ◌^◌, Bool, true, false, List, [], ◌∷◌, ◌++◌, length, take, drop, get_or, Option, Some, None, refl, sym, ap, subst, ◌∙◌}
use Rattle.std.proofs.Common.{arith, length-append}
use Rattle.std.specs.Prelude.{All, map}
use Rattle.std.specs.List.{slice_get, flat_map}
use Rattle.std.specs.Ordering.{eq_by_cmp}
use Rattle.std.specs.Cmp.{Equal-is}
use Rattle.std.proofs.Math.Nat.{mul-le-mul_right}
use Rattle.std.proofs.lemmas.Option.{none-some, same_Some, slice_get-get_or}
use Rattle.std.proofs.lemmas.List.{append-nil, drop_at, drop-drop, drop-take, length-take, length-take-le, length-drop}
use Rattle.std.proofs.lemmas.List.Elements.{All-head, All-tail, All-take, All-drop}
use Rattle.kd_base.specs.ToolsLaws.{chosen}
use Rattle.kd_records.specs.declared.key.RecordKey.{RecordKey}
use Rattle.kd_records.specs.declared.content.Content.{Content}
use Rattle.kd_records.specs.Keys.{key_cmp}
use Rattle.kd_records.specs.KeyLaws.{same_key}
use Rattle.kd_records.specs.Contents.{Record, IsRecord}
use Rattle.kd_records.specs.Charge.{IsBlockSize, charge_of}
use Rattle.kd_records.specs.Identity.{Identity}
use Rattle.kdcfile_layout.specs.Places.{At}
use Rattle.kdcfile_layout.specs.PlacesLaws.{at_within}
use Rattle.kdcfile_layout.specs.declared.chain.Chain.{Chain}
use Rattle.kdcfile_layout.specs.Layout.{Layout, Stands, StandsAt, InRoot, InChain, root_place, page_place, slots_in_page, directory_pages, page_count, spelled_slot, first_of_pages}
use Rattle.kdcfile_layout.specs.PagesLaws.{front_stands}
use Rattle.kdcfile_layout.specs.CrashLaws.{length_page_numbers}
use Rattle.kdcfile_layout.specs.Chains.{page_at}
use Rattle.kdcfile_layout.specs.Slots.{first_in, slots_of}
use Rattle.kdcfile_layout.specs.ReadChainsLaws.{chains_are_read, whole_written}
use Rattle.kdcfile_layout.specs.ReadSlots.{IsSlot}
use Rattle.kdcfile_layout.specs.ReadSlotsLaws.{slots_are_read, length_slots}
use Rattle.kdcfile_layout.specs.ReadHeadsLaws.{head_written}
use Rattle.kdcfile_layout.specs.ReadRootsLaws.{front_of_root, length_front_of_root, root_written, spelled_numbers, numbers_written}
use Rattle.kdcfile_layout.specs.Reading.{root_of, numbers_of}
use Rattle.kdcfile_layout.specs.Reads.{root_in, numbers_in, page_slots, ReadsChain, ReadsAs, FilesAreRead}
use Rattle.kdcfile_layout.specs.SizesLaws.{slots_fill, few_directory_pages, few_pages, charge_holds}

-- ---- two parts, one after the other

rest_stands : (at : ℕ) (front rest h : List ℕ) → StandsAt at (front ++ rest) h → StandsAt (at + length front) rest h
rest_stands at front rest h stands =
    ap (λ (l : List ℕ). take (length rest) l) (sym (drop-drop (length front) at h))
    ∙ sym (drop-take (length front) (length rest) (drop at h))
    ∙ ap (λ (n : ℕ). drop (length front) (take n (drop at h))) (sym (length-append front rest))
    ∙ ap (λ (l : List ℕ). drop (length front) l) stands
    ∙ drop_at front rest (length front) refl

-- ---- items at places

pub all_from_at : {X : Type 0} (P : X → Type 0) (xs : List X) → ((n : ℕ) (x : X) → At xs n x → P x) → All P xs
all_from_at P xs each n d lt = each n (get_or xs n d) (slice_get-get_or xs n d lt)

pub get_taken : {X : Type 0} (xs : List X) (n j : ℕ) → j < n → slice_get (take n xs) j ≡ slice_get xs j
get_taken [] zero j lt = refl
get_taken [] (suc n) j lt = refl
get_taken (x ∷ xs) zero j lt = absurd (omega (arith, lt))
get_taken (x ∷ xs) (suc n) zero lt = refl
get_taken (x ∷ xs) (suc n) (suc j) lt = get_taken xs n j (omega (arith, lt))

pub get_dropped : {X : Type 0} (xs : List X) (n j : ℕ) → slice_get (drop n xs) j ≡ slice_get xs (n + j)
get_dropped xs zero j = ap (λ (m : ℕ). slice_get xs m) (omega arith)
get_dropped [] (suc n) j = refl
get_dropped (x ∷ xs) (suc n) j = get_dropped xs n j ∙ ap (λ (m : ℕ). slice_get (x ∷ xs) m) (one n j)
  where
    one : (n j : ℕ) → suc (n + j) ≡ suc n + j
    one n j = omega arith

-- the slots of a page are so many, and those of the directory
module _ (size : ℕ) (slots : List (Option Chain)) (n k : ℕ) (long : length slots ≡ n * slots_in_page size) (lt : k < n) where
  within : k * slots_in_page size + slots_in_page size ≤ n * slots_in_page size
  within = let le : suc k ≤ n = omega (arith, lt) in omega (arith, mul-le-mul_right (slots_in_page size) le)

  pub length_page_slots : length (page_slots size k slots) ≡ slots_in_page size
  length_page_slots = length-take-le (slots_in_page size) (drop (k * slots_in_page size) slots) (omega (arith, length-drop (k * slots_in_page size) slots, long, within))

pub page_slot : (size : ℕ) (slots : List (Option Chain)) (k j : ℕ) → j < slots_in_page size → slice_get (page_slots size k slots) j ≡ slice_get slots (k * slots_in_page size + j)
page_slot size slots k j lt = get_taken (drop (k * slots_in_page size) slots) (slots_in_page size) j lt ∙ get_dropped slots (k * slots_in_page size) j

-- ---- records

same_pair : (a b : RecordKey) (v w : List ℕ) → a ≡ b → v ≡ w → ◌≡◌ {A = Record} (a, v) (b, w)
same_pair a b v w e f = λ z. (e z, f z)

-- a record that is found can be kept
pub found_record : (k : RecordKey) (v : List ℕ) (items : List Record) → All IsRecord items → find key_cmp k items ≡ Some v → IsRecord (k, v)
found_record k v [] all e = absurd (none-some v e)
found_record k v (r ∷ items) all e =
    ⊎_elim
    (λ here. subst IsRecord (sym (same_pair k r.0 v r.1 (same_key k r.0 ((Equal-is (key_cmp k r.0)).0 here.0)) (sym (same_Some r.1 v here.1)))) (All-head IsRecord r items all))
    (λ there. found_record k v items (All-tail IsRecord r items all) there.1)
    (chosen (eq_by_cmp key_cmp k r.0) (Some r.1) (find key_cmp k items) (Some v) e)

-- ---- what stands is read

module _ (i : Identity) (second : Bool) (x : Content) (l : Layout) (h : List ℕ) (stands : Stands i second x l h) where
  block : IsBlockSize i.blksize
  block = stands.image.identity.blksize

  pages_are : length l.directory ≡ directory_pages i.blksize i.pages
  pages_are = stands.image.layout.directory

  few : directory_pages i.blksize i.pages < 2 ^ 32
  few = omega (arith, few_directory_pages i.blksize i.pages block stands.image.identity.most)

  root_is : StandsAt (root_place second) (front_of_root i x (directory_pages i.blksize i.pages) ++ spelled_numbers l.directory) h
  root_is = subst (λ (n : ℕ). StandsAt (root_place second) (front_of_root i x n ++ spelled_numbers l.directory) h) pages_are stands.image.root

  front_long : length (front_of_root i x (directory_pages i.blksize i.pages)) ≡ 64
  front_long = length_front_of_root i x (directory_pages i.blksize i.pages) stands.image.identity stands.image.content few

  first_is : root_in second h ≡ front_of_root i x (directory_pages i.blksize i.pages)
  first_is =
      ap (λ (n : ℕ). take n (drop (root_place second) h)) (sym front_long)
      ∙ front_stands (root_place second) (front_of_root i x (directory_pages i.blksize i.pages)) (spelled_numbers l.directory) h root_is

  numbers_are : numbers_in (directory_pages i.blksize i.pages) second h ≡ spelled_numbers l.directory
  numbers_are =
      ap (λ (n : ℕ). take n (drop (root_place second + 64) h)) (ap (λ (n : ℕ). 4 * n) (sym pages_are) ∙ sym (length_page_numbers l.directory))
      ∙ ap (λ (n : ℕ). take (length (spelled_numbers l.directory)) (drop (root_place second + n) h)) (sym front_long)
      ∙ rest_stands (root_place second) (front_of_root i x (directory_pages i.blksize i.pages)) (spelled_numbers l.directory) h root_is

  past_front : (b : Bool) → 8192 ≤ root_place b
  past_front true = omega arith
  past_front false = omega arith

  long : 4097 ≤ length h
  long = omega (arith, past_front second, length-take 64 (drop (root_place second) h), length-drop (root_place second) h, ap (λ (m : List ℕ). length m) first_is, front_long)

  numbers_small : All (λ (p : ℕ). p < 2 ^ 32) l.directory
  numbers_small = all_from_at (λ (p : ℕ). p < 2 ^ 32) l.directory (λ n p at. omega (arith, stands.image.layout.below (InRoot n) p at, few_pages i.blksize i.pages block stands.image.identity.most))

  record_of : (s : ℕ) (c : Chain) (v : List ℕ) → At l.slots s (Some c) → find key_cmp c.key x.items ≡ Some v → IsRecord (c.key, v)
  record_of s c v at found = found_record c.key v x.items stands.image.content.records found

  slot_is : (s : ℕ) (o : Option Chain) → At l.slots s o → IsSlot o
  slot_is s None at = tt
  slot_is s (Some c) at =
      let kept = stands.image.layout.table.kept s c at in
      let is = record_of s c kept.0 at kept.1 in
      (is.kind_from_one, is.key_length, small_first c.pages (λ p here. stands.image.layout.below (InChain s 0) p (c, at, here)))
    where
      small_first : (pages : List ℕ) → ((p : ℕ) → At pages 0 p → p < page_count i.blksize i.pages) → first_of_pages pages < 2 ^ 32
      small_first [] below = omega arith
      small_first (p ∷ pages) below = omega (arith, below p refl, few_pages i.blksize i.pages block stands.image.identity.most)

  slots_are : All IsSlot l.slots
  slots_are = all_from_at IsSlot l.slots slot_is

  read_slots : (k p : ℕ) → At l.directory k p → slots_of (slots_in_page i.blksize) (page_at i.blksize h p) ≡ Some (map first_in (page_slots i.blksize k l.slots))
  read_slots k p at =
      let own = page_slots i.blksize k l.slots in
      let here = stands.image.directory k p at in
      let are = All-take IsSlot (slots_in_page i.blksize) (drop (k * slots_in_page i.blksize) l.slots) (All-drop IsSlot (k * slots_in_page i.blksize) l.slots slots_are) in
      let lt : k < directory_pages i.blksize i.pages = omega (arith, at_within l.directory k p at, pages_are) in
      let count : length own ≡ slots_in_page i.blksize = length_page_slots i.blksize l.slots (directory_pages i.blksize i.pages) k stands.image.layout.slots lt in
      let text = flat_map spelled_slot own in
      let wide : length (flat_map spelled_slot own) ≡ i.blksize = length_slots own are ∙ ap (λ (n : ℕ). n * 32) count ∙ slots_fill i.blksize block in
      let page_is : page_at i.blksize h p ≡ flat_map spelled_slot own = ap (λ (n : ℕ). take n (drop (page_place i.blksize p) h)) (sym wide) ∙ here.stands in
      ap (λ (m : List ℕ). slots_of (slots_in_page i.blksize) m) (page_is ∙ sym (append-nil text))
      ∙ ap (λ (n : ℕ). slots_of n (text ++ [])) (sym count)
      ∙ slots_are_read own [] are

  read_chain : (s : ℕ) (c : Chain) (v : List ℕ) → At l.slots s (Some c) → find key_cmp c.key x.items ≡ Some v → ReadsChain i.blksize (page_count i.blksize i.pages) h c v
  read_chain s c v at found =
      let is = record_of s c v at found in
      let kept = stands.image.layout.table.kept s c at in
      let v_is : kept.0 ≡ v = same_Some kept.0 v (sym kept.1 ∙ found) in
      let count : length c.pages ≡ charge_of i.blksize (length v) = kept.2 ∙ ap (λ (w : List ℕ). charge_of i.blksize (length w)) v_is in
      let parts = stands.image.chains s c v at found in
      let holds = charge_holds i.blksize (length v) block in
      record {
        whole = whole_written i.blksize h c.key (length v) v c.pages is.key_length holds.block is.value_length (omega (arith, count, holds.some)) parts;
        chain =
            chains_are_read i.blksize (page_count i.blksize i.pages) h c.key (length v) 0 (charge_of i.blksize (length v)) (length v) v c.pages is.key_length (few_pages i.blksize i.pages block stands.image.identity.most) holds count refl
            (record { below = all_from_at (λ (p : ℕ). p < page_count i.blksize i.pages) c.pages (λ n p here. stands.image.layout.below (InChain s n) p (c, at, here)); parts = parts });
      }

  pub reads : ReadsAs i second x l h
  reads = record {
    head = head_written i second h block long stands.image.headed stands.selected;
    root = ap (λ (m : List ℕ). root_of i.blksize m) first_is ∙ root_written i x stands.image.identity stands.image.content few;
    numbers =
        ap (λ (m : List ℕ). numbers_of (directory_pages i.blksize i.pages) m) (numbers_are ∙ sym (append-nil (spelled_numbers l.directory)))
        ∙ ap (λ (n : ℕ). numbers_of n (spelled_numbers l.directory ++ [])) (sym pages_are)
        ∙ numbers_written l.directory [] numbers_small;
    slots = read_slots;
    chains = read_chain;
  }

pub files_are_read : FilesAreRead
files_are_read i second x l h stands = reads i second x l h stands
