-- The image that was read is the one that stands, and one that stands is read.
use Rattle.std.proofs.Common.{◌≡◌, ℕ, ◌+◌, ◌*◌, ◌<◌, ◌≤◌, ◌^◌, Bool, true, false, List, [], ◌∷◌, ◌++◌, length, take, drop, Option, Some, None, refl, ap, sym, subst, ◌∙◌, arith, length-append}
use Rattle.std.specs.Prelude.{map}
use Rattle.std.specs.FinMap.{find}
use Rattle.std.proofs.lemmas.Option.{none-some, same_Some}
use Rattle.std.proofs.lemmas.List.{length-map, length-replicate}
use Rattle.std.proofs.lemmas.List.Elements.{All-nil}
use Rattle.kd_records.specs.declared.content.Content.{Content}
use Rattle.kd_records.specs.declared.key.RecordKey.{RecordKey}
use Rattle.kd_records.specs.Contents.{Record, IsRecord}
use Rattle.kd_records.specs.Keys.{key_cmp}
use Rattle.kd_records.specs.Charge.{charge_of, total_charge}
use Rattle.kd_records.specs.ChargeLaws.{charge_from_one}
use Rattle.kd_records.specs.Identity.{Identity}
use Rattle.kdcfile_layout.specs.Places.{At}
use Rattle.kdcfile_layout.specs.Pools.{flagged}
use Rattle.kdcfile_layout.specs.PoolsLaws.{length_flagged}
use Rattle.kdcfile_layout.specs.declared.chain.Chain.{Chain}
use Rattle.kdcfile_layout.specs.Layout.{Layout, Stands, IsNoImage, InRoot, InChain, slots_in_page, directory_pages, page_count, first_of_pages, chain_pages}
use Rattle.kdcfile_layout.specs.Stored.{IsStored}
use Rattle.kdcfile_layout.specs.Opened.{identity_of}
use Rattle.kdcfile_layout.specs.declared.kdcfile_read.head.Head.{Head}
use Rattle.kdcfile_layout.specs.declared.kdcfile_read.root.RootFields.{RootFields}
use Rattle.kdcfile_layout.specs.declared.kdcfile_read.slot.First.{First}
use Rattle.kdcfile_layout.specs.Slots.{first_in, slots_of}
use Rattle.kdcfile_layout.specs.Chains.{page_at}
use Rattle.kdcfile_layout.specs.Reads.{fields_in, page_slots, ReadsChain, ReadsAs, AreBytesRead}
use Rattle.kdcfile_layout.specs.ReadsLaws.{files_are_read}
use Rattle.kdcfile_layout.specs.ReadFilesLaws.{read_files_stand}
use Rattle.kdcfile_load.specs.Gathers.{gathered, AreKept}
use Rattle.kdcfile_load.specs.Marks.{pages_in, named_pages, AreClear, all_free}
use Rattle.kdcfile_load.specs.Openings.{directory_length, pages_of_file, IsOpening, Opens}
use Rattle.kdcfile_load.specs.Reads.{directory_from, records_from, none_yet, IsGathering}
use Rattle.kdcfile_load.specs.Slots.{ReadsSlots}
use Rattle.kdcfile_load.specs.Loads.{IsSound, image_with, content_with}
use Rattle.kdcfile_load.specs.declared.opening.Opening.{Opening}
use Rattle.kdcfile_load.specs.declared.records.Gathering.{Gathering}
use Rattle.kdcfile_load.proofs.DirectoryLaws.{directory_read, read_directory_is, page_firsts}
use Rattle.kdcfile_load.proofs.GathersLaws.{gathered_sorted, gathered_sum, gathered_all, gathered_has, kept_number, kept_charge, slots_new, table_of}
use Rattle.kdcfile_load.proofs.MarksLaws.{clear_distinct, clear_once, clear_below, layout_clear, free_left, all_free_count, length_pages, marked_used, named_there, place_of}
use Rattle.kdcfile_load.proofs.OpeningsLaws.{IsOneOf, opened}
use Rattle.kdcfile_load.proofs.StoredLaws.{AreStored, stored_at, IsRead, records_read, records_stand}

-- ---- an image that stands is read

module _ (i : Identity) (second : Bool) (x : Content) (l : Layout) (h : List ℕ) (stands : Stands i second x l h) where
  abbrev count : ℕ
  count = page_count i.blksize i.pages

  stood_clear : AreClear (all_free count) (named_pages l)
  stood_clear = layout_clear l count stands.image.layout.below stands.image.layout.once

  few_pages : chain_pages l.slots ≤ count
  few_pages = omega (arith, free_left (named_pages l) (all_free count) stood_clear, all_free_count count, length-append l.directory (pages_in l.slots), length_pages l.slots)

  some_first : (pages : List ℕ) → 1 ≤ length pages → At pages 0 (first_of_pages pages)
  some_first [] some = absurd (omega (arith, some))
  some_first (p ∷ pages) some = refl

  slot_read : (s : ℕ) (c : Chain) → At l.slots s (Some c) → IsRead i.blksize count h c
  slot_read s c at =
      let kept = stands.image.layout.table.kept s c at in
      record {
        value = kept.0;
        charged = kept.2;
        below = stands.image.layout.below (InChain s 0) (first_of_pages c.pages) (c, at, some_first c.pages (omega (arith, kept.2, charge_from_one i.blksize (length kept.0))));
        reads = (files_are_read i second x l h stands).chains s c kept.0 at kept.1;
      }

  directory_there : directory_from i.blksize count h [] l.directory ≡ Some (map first_in l.slots)
  directory_there =
      let fs = map first_in l.slots in
      let zero_is : 0 * slots_in_page i.blksize ≡ 0 = omega arith in
      let none : take (0 * slots_in_page i.blksize) (map first_in l.slots) ≡ [] = ap (λ (n : ℕ). take n (map first_in l.slots)) zero_is in
      let pages_are : directory_pages i.blksize i.pages ≡ 0 + length l.directory = omega (arith, stands.image.layout.directory) in
      ap (λ (s : List (Option First)). directory_from i.blksize count h s l.directory) (sym none)
      ∙ directory_read i.blksize count h (map first_in l.slots) l.directory 0
      (length-map l.slots first_in ∙ stands.image.layout.slots ∙ ap (λ (n : ℕ). n * slots_in_page i.blksize) pages_are)
      (λ k p at. (
        stands.image.layout.below (InRoot k) p at,
        (files_are_read i second x l h stands).slots k p at ∙ ap (λ (s : List (Option First)). Some s) (page_firsts i.blksize k l.slots) ∙ ap (λ (m : ℕ). Some (take (slots_in_page i.blksize) (drop (m * slots_in_page i.blksize) (map first_in l.slots)))) (from_zero k),
      ))
    where
      from_zero : (k : ℕ) → k ≡ 0 + k
      from_zero k = omega arith

  records_there : (g : Gathering) × (records_from i.blksize count h (none_yet count) (map first_in l.slots) ≡ Some g) × (g.slots ≡ l.slots)
  records_there = records_read i.blksize count h stands.image.identity.blksize l.slots (none_yet count) slot_read few_pages

  module _ (p : Opening) (opens : Opens h p) where
    one : IsOneOf i second x l p
    one = opened i second x l h p (files_are_read i second x l h stands) opens

    at_opening : {X : Type 0} (F : ℕ → ℕ → List ℕ → X) → F i.blksize count l.directory ≡ F p.head.blksize (pages_of_file p) p.directory
    at_opening F =
        ap (λ (a : Head). F a.blksize (page_count a.blksize i.pages) l.directory) one.head
        ∙ ap (λ (r : RootFields). F p.head.blksize (page_count p.head.blksize r.pgpool) l.directory) one.root
        ∙ ap (λ (d : List ℕ). F p.head.blksize (pages_of_file p) d) one.directory

    directory_now : directory_from p.head.blksize (pages_of_file p) h [] p.directory ≡ Some (map first_in l.slots)
    directory_now = sym (at_opening (λ size n d. directory_from size n h [] d)) ∙ directory_there

    records_now : (slots : List (Option First)) → directory_from p.head.blksize (pages_of_file p) h [] p.directory ≡ Some slots → records_from p.head.blksize (pages_of_file p) h (none_yet (pages_of_file p)) slots ≡ Some records_there.0
    records_now slots e =
        let same : map first_in l.slots ≡ slots = same_Some (map first_in l.slots) slots (sym directory_now ∙ e) in
        ap (λ (s : List (Option First)). records_from p.head.blksize (pages_of_file p) h (none_yet (pages_of_file p)) s) (sym same)
        ∙ sym (at_opening (λ size n d. records_from size n h (none_yet n) (map first_in l.slots)))
        ∙ records_there.1

    -- what was read of an image that stands passes the tests
    sound : (g : Gathering) (n : ℕ) → IsGathering p.head.blksize n g → ReadsSlots h p g → IsSound p g
    sound g n is read =
        let same : records_there.0 ≡ g = same_Some records_there.0 g (sym (records_now read.slots read.directory) ∙ read.records) in
        let slots_are : g.slots ≡ l.slots = ap (λ (x : Gathering). x.slots) (sym same) ∙ records_there.2 in
        let kept : AreKept p.head.blksize l.slots g.records = subst (λ (s : List (Option Chain)). AreKept p.head.blksize s g.records) slots_are is.kept in
        record {
          number = sym (kept_number p.head.blksize l.slots g.records kept) ∙ stands.image.layout.table.number ∙ ap (λ (r : RootFields). r.records) one.root;
          new = slots_new p.head.blksize [] l.slots g.records kept stands.image.layout.table.one_slot (λ s c at. refl);
          clear =
              subst (λ (s : List (Option Chain)). AreClear (all_free (pages_of_file p)) (p.directory ++ pages_in s)) (sym slots_are)
              (as_clear (all_free count) (all_free (pages_of_file p)) l.directory p.directory (at_opening (λ size n d. all_free n)) one.directory stood_clear);
        }
      where
        as_clear : (a b : List Bool) (d e : List ℕ) → a ≡ b → d ≡ e → AreClear a (d ++ pages_in l.slots) → AreClear b (e ++ pages_in l.slots)
        as_clear a b d e f k clear = subst (λ (u : List Bool). AreClear u (e ++ pages_in l.slots)) f (subst (λ (x : List ℕ). AreClear a (x ++ pages_in l.slots)) k clear)

module _ (h : List ℕ) (p : Opening) (opens : Opens h p) where
  pub no_directory : directory_from p.head.blksize (pages_of_file p) h [] p.directory ≡ None → IsNoImage h
  no_directory e i x s = none-some (map first_in s.1.slots) (sym e ∙ directory_now i s.0 x s.1 h s.2 p opens)

  pub no_records : (slots : List (Option First)) → directory_from p.head.blksize (pages_of_file p) h [] p.directory ≡ Some slots → records_from p.head.blksize (pages_of_file p) h (none_yet (pages_of_file p)) slots ≡ None → IsNoImage h
  no_records slots read e i x s = none-some (records_there i s.0 x s.1 h s.2).0 (sym e ∙ records_now i s.0 x s.1 h s.2 p opens slots read)

  pub not_sound : (g : Gathering) (n : ℕ) → IsGathering p.head.blksize n g → ReadsSlots h p g → (IsSound p g → ⊥) → IsNoImage h
  not_sound g n is read refused i x s = refused (sound i s.0 x s.1 h s.2 p opens g n is read)

-- ---- what was read makes an image

module _ (p : Opening) (g : Gathering) (opening : IsOpening p) (is : IsGathering p.head.blksize (directory_length p * slots_in_page p.head.blksize) g) (sound : IsSound p g) where
  abbrev layout : Layout
  layout = record { directory = p.directory; slots = g.slots }

  few_records : length (gathered [] g.records) < 2 ^ 32
  few_records = omega (arith, opening.root.records, sound.number, (table_of p.head.blksize g.slots g.records is.kept sound.new is.records).number, kept_number p.head.blksize g.slots g.records is.kept)

  charge_is : chain_pages g.slots ≡ total_charge p.head.blksize (gathered [] g.records)
  charge_is =
      kept_charge p.head.blksize g.slots g.records is.kept
      ∙ sym (gathered_sum (λ (r : Record). charge_of p.head.blksize (length r.1)) [] g.records sound.new ∙ omega arith)

  pub stored : IsStored (identity_of (image_with p)) (content_with p g) layout (flagged true (all_free (pages_of_file p)) (p.directory ++ pages_in g.slots))
  stored = record {
    identity = record { blksize = opening.block; least = opening.root.least; most = opening.root.most; fingerprint = opening.root.fingerprint };
    content = record {
      clock = opening.root.clock;
      next_job = opening.root.next_job;
      records = gathered_all IsRecord [] g.records sound.new (All-nil IsRecord) is.records;
      ascending = gathered_sorted [] g.records refl;
      few = few_records;
    };
    layout = record {
      directory = opening.directory;
      slots = is.number;
      table = table_of p.head.blksize g.slots g.records is.kept sound.new is.records;
      below = clear_below layout (pages_of_file p) sound.clear;
      once = clear_once layout (clear_distinct (all_free (pages_of_file p)) (p.directory ++ pages_in g.slots) sound.clear);
    };
    charged = charge_is;
    pages = length_flagged true (p.directory ++ pages_in g.slots) (all_free (pages_of_file p)) ∙ length-replicate (pages_of_file p) false;
    named = λ u q names. marked_used (p.directory ++ pages_in g.slots) (all_free (pages_of_file p)) (place_of layout u) q sound.clear (named_there layout u q names);
    free = omega (arith, free_left (p.directory ++ pages_in g.slots) (all_free (pages_of_file p)) sound.clear, all_free_count (pages_of_file p), length-append p.directory (pages_in g.slots), length_pages g.slots, charge_is, opening.directory);
  }

  module _ (h : List ℕ) (opens : Opens h p) (read : ReadsSlots h p g) where
    -- and it stands
    pub stands : Stands (identity_of (image_with p)) p.head.second (content_with p g) layout h
    stands = read_files_stand (identity_of (image_with p)) p.head.second (content_with p g) layout h stored.identity stored.content stored.layout bytes_read reads_as
      where
        made : (slots : List (Option Chain)) × (records : List Record) × (g.slots ≡ slots) × (g.records ≡ records) × (map first_in slots ≡ read.slots) × AreStored p.head.blksize (pages_of_file p) h slots records
        made = records_stand p.head.blksize (pages_of_file p) h opening.block read.slots (none_yet (pages_of_file p)) g read.are.keys read.records

        slots_are : read.slots ≡ map first_in g.slots
        slots_are = sym made.4 ∙ ap (λ (s : List (Option Chain)). map first_in s) (sym made.2)

        chains_are : AreStored p.head.blksize (pages_of_file p) h g.slots g.records
        chains_are =
            subst (λ (s : List (Option Chain)). AreStored p.head.blksize (pages_of_file p) h s g.records) (sym made.2)
            (subst (λ (r : List Record). AreStored p.head.blksize (pages_of_file p) h made.0 r) (sym made.3) made.5)

        bytes_read : AreBytesRead p.head.blksize (directory_length p) p.head.second p.directory h
        bytes_read = record { front = opens.head_bytes; root = opens.root_bytes; numbers = opens.number_bytes; pages = read.bytes }

        number_is : p.root.records ≡ length (gathered [] g.records)
        number_is = sym sound.number ∙ sym (kept_number p.head.blksize g.slots g.records is.kept) ∙ (table_of p.head.blksize g.slots g.records is.kept sound.new is.records).number

        root_is : p.root ≡ fields_in (identity_of (image_with p)) (content_with p g)
        root_is = λ z. record p.root { records = number_is z }

        page_read : (k q : ℕ) → At p.directory k q → slots_of (slots_in_page p.head.blksize) (page_at p.head.blksize h q) ≡ Some (map first_in (page_slots p.head.blksize k g.slots))
        page_read k q at =
            (read_directory_is p.head.blksize (pages_of_file p) h p.directory [] read.slots read.bytes read.directory).2 k q at
            ∙ ap (λ (m : ℕ). Some (take (slots_in_page p.head.blksize) (drop m read.slots))) (from_none (k * slots_in_page p.head.blksize))
            ∙ ap (λ (s : List (Option First)). Some (take (slots_in_page p.head.blksize) (drop (k * slots_in_page p.head.blksize) s))) slots_are
            ∙ ap (λ (s : List (Option First)). Some s) (sym (page_firsts p.head.blksize k g.slots))
          where
            from_none : (m : ℕ) → 0 + m ≡ m
            from_none m = omega arith

        chain_read : (s : ℕ) (c : Chain) (value : List ℕ) → At g.slots s (Some c) → find key_cmp c.key (gathered [] g.records) ≡ Some value → ReadsChain p.head.blksize (pages_of_file p) h c value
        chain_read s c value at found =
            let there = stored_at p.head.blksize (pages_of_file p) h g.slots g.records s c chains_are at in
            let same : there.1.1 ≡ value = same_Some there.1.1 value (sym (gathered_has [] g.records there.0 there.1 sound.new there.2) ∙ ap (λ (k : RecordKey). find key_cmp k (gathered [] g.records)) (sym there.3) ∙ found) in
            subst (λ (v : List ℕ). ReadsChain p.head.blksize (pages_of_file p) h c v) same there.4

        reads_as : ReadsAs (identity_of (image_with p)) p.head.second (content_with p g) layout h
        reads_as = record {
          head = opens.head;
          root = opens.root ∙ ap (λ (r : RootFields). Some r) root_is;
          numbers = opens.numbers;
          slots = page_read;
          chains = chain_read;
        }
