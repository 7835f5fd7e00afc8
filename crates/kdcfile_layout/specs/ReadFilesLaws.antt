-- What is read of a file stands there, and so given bytes stand for one content at most.
use Rattle.std.specs.FinMap.{find, is_sorted}
use Rattle.std.specs.FinMap.Entries.{same_entries}
use Rattle.std.proofs.Common.{◌≡◌, ⊎_elim, ℕ, ◌+◌, ◌*◌, ◌<◌, ◌≤◌, ◌^◌, Bool, List, ◌++◌, length, take, drop, get_or, Option, Some, refl, sym, ap, subst, ◌∙◌, arith, length-append}
use Rattle.std.specs.Prelude.{map, ◌/◌, ◌%◌}
use Rattle.std.specs.List.{slice_get, flat_map}
use Rattle.std.specs.Option.{option_map}
use Rattle.std.proofs.Math.Nat.{mul-le-mul_right}
use Rattle.std.proofs.lemmas.Bool.{cases_lt}
use Rattle.std.proofs.lemmas.Nat.{div-add-mod', mod_below}
use Rattle.std.proofs.lemmas.Option.{none-some, same_Some, slice_get-get_or, slice_get-map}
use Rattle.std.proofs.lemmas.List.{take-take, take_at, length-take, length-drop}
use Rattle.kd_base.specs.OrderLaws.{holds}
use Rattle.kd_base.specs.ToolsLaws.{cases_option, map_some}
use Rattle.kd_records.specs.declared.key.RecordKey.{RecordKey}
use Rattle.kd_records.specs.declared.content.Content.{Content}
use Rattle.kd_records.specs.Keys.{key_cmp}
use Rattle.kd_records.specs.KeyLaws.{key_total, same_key}
use Rattle.kd_records.specs.Contents.{IsContent}
use Rattle.kd_records.specs.Charge.{charge_of}
use Rattle.kd_records.specs.ChargeLaws.{block_from}
use Rattle.kd_records.specs.Identity.{Identity, IsIdentity}
use Rattle.kdcfile_layout.specs.Places.{At}
use Rattle.kdcfile_layout.specs.PlacesLaws.{at_within}
use Rattle.kdcfile_layout.specs.WrittenLaws.{joined_stand}
use Rattle.kdcfile_layout.specs.declared.chain.Chain.{Chain}
use Rattle.kdcfile_layout.specs.Layout.{Layout, IsLayout, Stands, StandsAt, PartStands, OneMeaning, root, root_place, page_place, slots_in_page, directory_pages, page_count, directory_text}
use Rattle.kdcfile_layout.specs.Layout.{spelled_slot, first_of_pages}
use Rattle.kdcfile_layout.specs.CrashLaws.{length_page_numbers, some_slots}
use Rattle.kdcfile_layout.specs.declared.kdcfile_read.head.Head.{Head}
use Rattle.kdcfile_layout.specs.declared.kdcfile_read.root.RootFields.{RootFields}
use Rattle.kdcfile_layout.specs.declared.kdcfile_read.slot.First.{First}
use Rattle.kdcfile_layout.specs.Chains.{page_at, Chained, chain_of}
use Rattle.kdcfile_layout.specs.Slots.{first_in}
use Rattle.kdcfile_layout.specs.Reading.{root_of, whole_of}
use Rattle.kdcfile_layout.specs.Reads.{root_in, numbers_in, page_slots, fields_in, ReadsAs, AreBytesRead, ReadFilesStand}
use Rattle.kdcfile_layout.specs.ReadChainsLaws.{read_chains_stand}
use Rattle.kdcfile_layout.specs.ReadSlotsLaws.{read_slots_stand, long_slots}
use Rattle.kdcfile_layout.specs.ReadHeadsLaws.{head_read}
use Rattle.kdcfile_layout.specs.ReadRootsLaws.{front_of_root, length_front_of_root, root_read, spelled_numbers, numbers_read}
use Rattle.kdcfile_layout.specs.ReadsLaws.{page_slot, files_are_read}
use Rattle.kdcfile_layout.specs.SizesLaws.{slots_fill, few_directory_pages, charge_holds}

-- ---- what is read stands

module _ (i : Identity) (second : Bool) (x : Content) (l : Layout) (h : List ℕ) (is : IsIdentity i) (content : IsContent x) (layout : IsLayout i.blksize i.pages x.items l) (bytes : AreBytesRead i.blksize (directory_pages i.blksize i.pages) second l.directory h) (reads : ReadsAs i second x l h) where
  few : directory_pages i.blksize i.pages < 2 ^ 32
  few = omega (arith, few_directory_pages i.blksize i.pages is.blksize is.most)

  root_stands : StandsAt (root_place second) (root i x l.directory) h
  root_stands =
      let n = directory_pages i.blksize i.pages in
      let front = front_of_root i x n in
      let numbers = spelled_numbers l.directory in
      let front_long : length (front_of_root i x n) ≡ 64 = length_front_of_root i x n is content few in
      let front_is : root_in second h ≡ front_of_root i x n = root_read i x (root_in second h) bytes.root (omega (arith, length-take 64 (drop (root_place second) h))) reads.root in
      let first : StandsAt (root_place second) (front_of_root i x n) h = ap (λ (k : ℕ). take k (drop (root_place second) h)) front_long ∙ front_is in
      let found = numbers_read n (numbers_in n second h) l.directory bytes.numbers reads.numbers in
      let rest : StandsAt (root_place second + 64) (spelled_numbers l.directory) h =
      sym (take-take (length numbers) (4 * n) (drop (root_place second + 64) h) (omega (arith, length_page_numbers l.directory, found.0)))
      ∙ ap (λ (k : List ℕ). take (length numbers) k) found.1.1
      ∙ take_at numbers found.1.0 (length numbers) refl in
      let both = joined_stand (root_place second) front numbers h first (subst (λ (k : ℕ). StandsAt (root_place second + k) (spelled_numbers l.directory) h) (sym front_long) rest) in
      subst (λ (k : ℕ). StandsAt (root_place second) (front_of_root i x k ++ spelled_numbers l.directory) h) (sym layout.directory) both

  page_stands : (k p : ℕ) → At l.directory k p → PartStands i.blksize h (p, directory_text i.blksize k l.slots)
  page_stands k p at =
      let own = page_slots i.blksize k l.slots in
      let page = page_at i.blksize h p in
      let text = flat_map spelled_slot own in
      let found = read_slots_stand own (slots_in_page i.blksize) page (bytes.pages k p at) (reads.slots k p at) in
      let short : length page ≤ i.blksize = omega (arith, length-take i.blksize (drop (page_place i.blksize p) h)) in
      let fits : length text ≤ i.blksize = omega (arith, ap (λ (m : List ℕ). length m) found.1.1, length-append text found.1.0, short) in
      let there = long_slots (slots_in_page i.blksize) page (map first_in own) (reads.slots k p at) in
      record {
        stands = sym (take-take (length text) i.blksize (drop (page_place i.blksize p) h) fits) ∙ ap (λ (m : List ℕ). take (length text) m) found.1.1 ∙ take_at text found.1.0 (length text) refl;
        fits = fits;
        inside = omega (arith, there, slots_fill i.blksize is.blksize, length-take i.blksize (drop (page_place i.blksize p) h), length-drop (page_place i.blksize p) h, block_from i.blksize is.blksize);
      }

  pub stands : Stands i second x l h
  stands =
      let first = head_read i second h bytes.front reads.head in
      record {
        selected = first.1;
        image = record {
          identity = is;
          content = content;
          layout = layout;
          headed = first.0;
          root = root_stands;
          directory = page_stands;
          chains = λ s c value at found.
              (read_chains_stand i.blksize (page_count i.blksize i.pages) h c.key (length value) 0 (charge_of i.blksize (length value)) (length value) (first_of_pages c.pages) value c.pages (layout.table.key_length s c at) (charge_holds i.blksize (length value) is.blksize)
              (reads.chains s c value at found).chain).3.parts;
        };
      }

pub read_files_stand : ReadFilesStand
read_files_stand i second x l h is content layout bytes reads = stands i second x l h is content layout bytes reads

-- ---- one meaning

below_page : (q per n : ℕ) → 0 < per → q < n * per → q / per < n
below_page q per n some lt =
    ⊎_elim
    (λ below. below)
    (λ past. absurd (omega (arith, mul-le-mul_right per past, div-add-mod' q per, lt)))
    (cases_lt (q / per) n)

-- chains that begin alike are alike
same_chain : (size count : ℕ) (h : List ℕ) (j k : RecordKey) (m n p q : ℕ) → j ≡ k → m ≡ n → p ≡ q → chain_of size count h j m 0 (charge_of size m) m p ≡ chain_of size count h k n 0 (charge_of size n) n q
same_chain size count h j k m n p q e f g = λ z. chain_of size count h (e z) (f z) 0 (charge_of size (f z)) (f z) (g z)

-- what one content has, another one in the same bytes has
module _ (i : Identity) (second : Bool) (x y : Content) (l m : Layout) (h : List ℕ) (a : Stands i second x l h) (b : Stands i second y m h) where
  one_directory : l.directory ≡ m.directory
  one_directory = same_Some l.directory m.directory (sym (files_are_read i second x l h a).numbers ∙ (files_are_read i second y m h b).numbers)

  -- a used slot of one is a used slot of the other
  other_slot : (s : ℕ) (c : Chain) → At l.slots s (Some c) → (d : Chain) × At m.slots s (Some d) × (◌≡◌ {A = First} (record { key = d.key; page = first_of_pages d.pages }) (record { key = c.key; page = first_of_pages c.pages }))
  other_slot s c at =
      let per = slots_in_page i.blksize in
      let some : 0 < per = some_slots i.blksize a.image.identity.blksize in
      let k = s / per in
      let j = s % per in
      let lt : k < directory_pages i.blksize i.pages = below_page s per (directory_pages i.blksize i.pages) some (omega (arith, at_within l.slots s (Some c) at, a.image.layout.slots)) in
      let p = get_or l.directory k 0 in
      let here : At l.directory k p = slice_get-get_or l.directory k 0 (omega (arith, lt, a.image.layout.directory)) in
      let there : At m.directory k p = subst (λ (d : List ℕ). At d k p) one_directory here in
      let alike : map first_in (page_slots i.blksize k l.slots) ≡ map first_in (page_slots i.blksize k m.slots) =
      same_Some (map first_in (page_slots i.blksize k l.slots)) (map first_in (page_slots i.blksize k m.slots)) (sym ((files_are_read i second x l h a).slots k p here) ∙ (files_are_read i second y m h b).slots k p there) in
      let inside : j < per = mod_below s per some in
      let place : k * per + j ≡ s = div-add-mod' s per in
      let own : slice_get (page_slots i.blksize k l.slots) j ≡ Some (Some c) = page_slot i.blksize l.slots k j inside ∙ ap (λ (n : ℕ). slice_get l.slots n) place ∙ at in
      let other : option_map first_in (slice_get (page_slots i.blksize k m.slots) j) ≡ Some (first_in (Some c)) =
      sym (slice_get-map first_in (page_slots i.blksize k m.slots) j)
      ∙ ap (λ (os : List (Option First)). slice_get os j) (sym alike)
      ∙ slice_get-map first_in (page_slots i.blksize k l.slots) j
      ∙ ap (λ (o : Option (Option Chain)). option_map first_in o) own in
      let slot = map_some first_in (slice_get (page_slots i.blksize k m.slots) j) (first_in (Some c)) other in
      let used = map_some first_of slot.0 (record { key = c.key; page = first_of_pages c.pages }) slot.2 in
      (used.0, ap (λ (n : ℕ). slice_get m.slots n) (sym place) ∙ sym (page_slot i.blksize m.slots k j inside) ∙ slot.1 ∙ ap (λ (o : Option Chain). Some o) used.1, used.2)
    where
      first_of : Chain → First
      first_of c = record { key = c.key; page = first_of_pages c.pages }

  found_there : (k : RecordKey) (v : List ℕ) → find key_cmp k x.items ≡ Some v → find key_cmp k y.items ≡ Some v
  found_there k v found =
      let placed = a.image.layout.table.placed k v found in
      let s = placed.0 in
      let c = placed.1 in
      let key : c.key ≡ k = placed.3 in
      let other = other_slot s c placed.2 in
      let d = other.0 in
      let same_first : first_of_pages d.pages ≡ first_of_pages c.pages = ap (λ (f : First). f.page) other.2 in
      let kept = b.image.layout.table.kept s d other.1 in
      let w = kept.0 in
      let own = (files_are_read i second x l h a).chains s c v placed.2 (ap (λ (q : RecordKey). find key_cmp q x.items) key ∙ found) in
      let others = (files_are_read i second y m h b).chains s d w other.1 kept.1 in
      let lengths : length w ≡ length v =
      same_Some (length w) (length v) (sym others.whole ∙ ap (λ (p : ℕ). whole_of (page_at i.blksize h p)) same_first ∙ own.whole) in
      let chains : ◌≡◌ {A = Chained} (d.pages, w) (c.pages, v) =
      same_Some (d.pages, w) (c.pages, v)
      (sym others.chain ∙ same_chain i.blksize (page_count i.blksize i.pages) h d.key c.key (length w) (length v) (first_of_pages d.pages) (first_of_pages c.pages) (ap (λ (f : First). f.key) other.2) lengths same_first ∙ own.chain) in
      ap (λ (q : RecordKey). find key_cmp q y.items) (sym key ∙ sym (ap (λ (f : First). f.key) other.2)) ∙ kept.1 ∙ ap (λ (r : Chained). Some r.1) chains

one_content : (i : Identity) (second : Bool) (x y : Content) (l m : Layout) (h : List ℕ) → Stands i second x l h → Stands i second y m h → x ≡ y
one_content i second x y l m h a b =
    let fields : fields_in i x ≡ fields_in i y = same_Some (fields_in i x) (fields_in i y) (sym (files_are_read i second x l h a).root ∙ (files_are_read i second y m h b).root) in
    let clock : x.clock ≡ y.clock = ap (λ (r : RootFields). r.clock) fields in
    let next_job : x.next_job ≡ y.next_job = ap (λ (r : RootFields). r.next_job) fields in
    let items : x.items ≡ y.items = same_entries key_cmp key_total same_key x.items y.items (holds (is_sorted key_cmp x.items) a.image.content.ascending) (holds (is_sorted key_cmp y.items) b.image.content.ascending) found in
    λ z. record { clock = clock z; next_job = next_job z; items = items z }
  where
    found : (k : RecordKey) → find key_cmp k x.items ≡ find key_cmp k y.items
    found k =
        ⊎_elim
        (λ none.
        ⊎_elim
        (λ no. none ∙ sym no)
        (λ w. absurd (none-some w.0 (sym none ∙ found_there i second y x m l h b a k w.0 w.1)))
        (cases_option (find key_cmp k y.items)))
        (λ v. v.1 ∙ sym (found_there i second x y l m h a b k v.0 v.1))
        (cases_option (find key_cmp k x.items))

pub one_meaning : OneMeaning
one_meaning i j x y h (s, l, a) (t, m, b) =
    let ra = files_are_read i s x l h a in
    let rb = files_are_read j t y m h b in
    let heads : ◌≡◌ {A = Head} (record { blksize = i.blksize; second = s }) (record { blksize = j.blksize; second = t }) = same_Some (record { blksize = i.blksize; second = s }) (record { blksize = j.blksize; second = t }) (sym ra.head ∙ rb.head) in
    let fields : fields_in i x ≡ fields_in j y = same_Some (fields_in i x) (fields_in j y) (sym ra.root ∙ ap (λ (q : Head). root_of q.blksize (root_in q.second h)) heads ∙ rb.root) in
    let identity : i ≡ j = one_identity heads fields in
    let selected : s ≡ t = ap (λ (q : Head). q.second) heads in
    (identity, one_content i s x y l m h a (subst (λ (q : Bool). Stands i q y m h) (sym selected) (subst (λ (q : Identity). Stands q t y m h) (sym identity) b)))
  where
    one_identity : ◌≡◌ {A = Head} (record { blksize = i.blksize; second = s }) (record { blksize = j.blksize; second = t }) → fields_in i x ≡ fields_in j y → i ≡ j
    one_identity heads fields =
        let blksize : i.blksize ≡ j.blksize = ap (λ (q : Head). q.blksize) heads in
        let pages : i.pages ≡ j.pages = ap (λ (r : RootFields). r.pgpool) fields in
        let fingerprint : i.fingerprint ≡ j.fingerprint = ap (λ (r : RootFields). r.fingerprint) fields in
        λ z. record { blksize = blksize z; pages = pages z; fingerprint = fingerprint z }
