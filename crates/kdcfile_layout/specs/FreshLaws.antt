-- A fresh file stands for the content with no records, and a shut file for none.
use Rattle.std.proofs.Common.{◌≡◌, inl, inr, ⊎_elim, ℕ, zero, suc, ◌+◌, ◌-◌, ◌*◌, ◌/◌, ◌%◌, ◌<◌, ◌≤◌, Bool, true, false, not, cond, List, [], ◌∷◌, ◌++◌, length, take, drop, get_or, replicate, Option}
use Rattle.std.proofs.Common.{Some, None, refl, ap, sym, ◌∙◌, arith, length-append, append_assoc}
use Rattle.std.specs.List.{flat_map}
use Rattle.std.proofs.Math.Nat.{mul-le-mul_left}
use Rattle.std.proofs.Math.Seq.{drop-append-add}
use Rattle.std.proofs.lemmas.List.{take_all, take_at, drop_at, get_or-take, get_or-append_right, get_or_append_left, get_or-replicate, length-replicate, replicate-append-replicate, take-replicate}
use Rattle.std.proofs.lemmas.List.{drop-replicate, length-take}
use Rattle.std.proofs.lemmas.List.Folds.{sum_by-replicate}
use Rattle.std.proofs.lemmas.Option.{none-some, slice_get_within, slice_get_read, get_or_from_slice_get}
use Rattle.kd_records.specs.declared.content.Content.{Content}
use Rattle.kd_records.specs.Charge.{IsBlockSize}
use Rattle.kd_records.specs.Contents.{IsContent}
use Rattle.kd_records.specs.Identity.{Identity, IsIdentity}
use Rattle.kdcfile_layout.specs.Places.{At, IsDistinct}
use Rattle.kdcfile_layout.specs.PlacesLaws.{at_within, at_push, no_item}
use Rattle.kdcfile_layout.specs.Pools.{flagged}
use Rattle.kdcfile_layout.specs.PoolsLaws.{length_flagged, flag_set, count_used}
use Rattle.kdcfile_layout.specs.declared.chain.Chain.{Chain}
use Rattle.kdcfile_layout.specs.Layout.{StandsAt, Layout, Name, InRoot, InChain, Names, IsLayout, PartStands, Stands, IsNoImage, if_used, head, root, directory_pages, page_count, slots_in_page}
use Rattle.kdcfile_layout.specs.Layout.{directory_text, free_slot, spelled_slot, zeros, fresh}
use Rattle.kdcfile_layout.specs.CrashLaws.{length_root, per_root}
use Rattle.kdcfile_layout.specs.PagesLaws.{length_zeros, length_padded}
use Rattle.kdcfile_layout.specs.Stored.{IsStored}
use Rattle.kdcfile_layout.specs.Gates.{IsShut}
use Rattle.kdcfile_layout.specs.Fresh.{numbers, free_layout, fresh_layout, fresh_file, fresh_length, in_part}

-- ---- a shut file

first_byte : (i : Identity) (x : Content) (second : Bool) (l : Layout) (c : List ℕ) → Stands i second x l c → get_or c 0 0 ≡ 75
first_byte i x second l c stands = sym (get_or-take 13 c 0 0 (omega arith)) ∙ ap (λ (t : List ℕ). get_or t 0 0) stands.image.headed

pub shut_no_image : (c : List ℕ) → IsShut c → IsNoImage c
shut_no_image c (inl short) i x stands = absurd (omega (arith, ap (λ (t : List ℕ). length t) stands.2.image.headed, length-take 13 c))
shut_no_image c (inr shut) i x stands = shut (first_byte i x stands.0 stands.1 c stands.2)

-- ---- the layout of no records

pub length_numbers : (n : ℕ) → length (numbers n) ≡ n
unfolding numbers
length_numbers zero = refl
length_numbers (suc n) = omega (arith, length-append (numbers n) (n ∷ []), length_numbers n)

-- each place has its own number
own_number : (n k p : ℕ) → At (numbers n) k p → k ≡ p
unfolding numbers
own_number zero k p at = absurd (no_item k p at)
own_number (suc n) k p at = ⊎_elim (λ a. own_number n k p a) (λ b. b.0 ∙ length_numbers n ∙ b.1) (at_push (numbers n) n k p at)

number_below : (n k p : ℕ) → At (numbers n) k p → p < n
number_below n k p at = omega (arith, own_number n k p at, at_within (numbers n) k p at, length_numbers n)

no_chain : (n s : ℕ) (c : Chain) → At (replicate n free_slot) s (Some c) → ⊥
no_chain n s c at = let lt = slice_get_within (replicate n free_slot) s (Some c) at in
    none-some c (sym (get_or-replicate n s free_slot None (omega (arith, lt, length-replicate n free_slot))) ∙ get_or_from_slice_get (replicate n free_slot) s (Some c) None at)

module _ (size pool : ℕ) (directory : List ℕ) (count : length directory ≡ directory_pages size pool) (apart : IsDistinct directory) (there : (k p : ℕ) → At directory k p → p < page_count size pool) where
  below_all : (u : Name) (p : ℕ) → Names (free_layout size pool directory) u p → p < page_count size pool
  below_all (InRoot k) p at = there k p at
  below_all (InChain s part) p at = absurd (no_chain (directory_pages size pool * slots_in_page size) s at.0 at.1)

  once_all : (u v : Name) (p : ℕ) → Names (free_layout size pool directory) u p → Names (free_layout size pool directory) v p → u ≡ v
  once_all (InRoot k) (InRoot m) p at other = ap (λ (j : ℕ). InRoot j) (apart k m p at other)
  once_all (InRoot k) (InChain s part) p at other = absurd (no_chain (directory_pages size pool * slots_in_page size) s other.0 other.1)
  once_all (InChain s part) v p at other = absurd (no_chain (directory_pages size pool * slots_in_page size) s at.0 at.1)

  pub free_is_layout : IsLayout size pool [] (free_layout size pool directory)
  free_is_layout =
      let n = directory_pages size pool * slots_in_page size in
      record {
        directory = count;
        slots = length-replicate n free_slot;
        table = record {
          one_slot = λ s t c e at other same. absurd (no_chain n s c at);
          key_length = λ s c at. absurd (no_chain n s c at);
          kept = λ s c at. absurd (no_chain n s c at);
          number = omega (arith, sum_by-replicate (λ (o : Option Chain). if_used (λ (c : Chain). 1) o) n free_slot);
          placed = λ k value found. absurd (none-some value found);
        };
        below = below_all;
        once = once_all;
      }

fresh_is_layout : (i : Identity) → IsLayout i.blksize i.pages [] (fresh_layout i)
fresh_is_layout i =
    let d = directory_pages i.blksize i.pages in
    free_is_layout i.blksize i.pages (numbers d) (length_numbers d) (λ a b p h k. own_number d a p h ∙ sym (own_number d b p k)) (λ k p at. omega (arith, number_below d k p at))

pub fresh_content : IsContent fresh
fresh_content = record { clock = omega arith; next_job = omega arith; records = λ k d lt. absurd (omega (arith, lt)); ascending = refl; few = omega arith }

-- ---- its bytes

pub zeros_at : (n i : ℕ) → i < n → get_or (zeros n) i 0 ≡ 0
unfolding zeros
zeros_at n i lt = get_or-replicate n i 0 0 lt

-- a list that was filled up
pub filled : (old : List ℕ) (n size len : ℕ) → size ≡ length old → len ≡ size → take (len + n) old ++ replicate (len + n - size) 0 ≡ old ++ zeros n
unfolding zeros
filled old n size len is same =
    ap (λ (l : List ℕ). l ++ replicate (len + n - size) 0) (take_all (len + n) old (omega arith))
    ∙ ap (λ (k : ℕ). old ++ replicate k 0) (omega arith)

zeros_in : (n m at : ℕ) → at + m ≤ n → take m (drop at (zeros n)) ≡ zeros m
unfolding zeros
zeros_in n m at le = ap (λ (t : List ℕ). take m t) (drop-replicate at n 0) ∙ take-replicate m (n - at) 0 (omega (arith, le))

-- free slots as bytes
no_slots : (n : ℕ) → flat_map spelled_slot (replicate n free_slot) ≡ zeros (32 * n)
unfolding zeros spelled_slot
no_slots zero = refl
no_slots (suc n) = ap (λ (t : List ℕ). replicate 32 0 ++ t) (no_slots n) ∙ replicate-append-replicate 32 (32 * n) 0 ∙ ap (λ (m : ℕ). replicate m 0) (omega arith)

whole_slots : (size : ℕ) → IsBlockSize size → 32 * (size / 32) ≡ size
whole_slots size is = elim is [ inl e ↦ rw e (omega arith) | inr h ↦ elim h [ inl e ↦ rw e (omega arith) | inr e ↦ rw e (omega arith) ] ]

no_text : (size d k : ℕ) → IsBlockSize size → k < d → directory_text size k (replicate (d * slots_in_page size) free_slot) ≡ zeros size
no_text size d k is lt =
    let per = slots_in_page size in
    let less : suc k ≤ d = lt in
    ap (λ (t : List (Option Chain)). flat_map spelled_slot (take per t)) (drop-replicate (k * per) (d * per) free_slot)
    ∙ ap (λ (t : List (Option Chain)). flat_map spelled_slot t) (take-replicate per (d * per - k * per) free_slot (omega (arith, mul-le-mul_left per less)))
    ∙ no_slots per
    ∙ ap (λ (m : ℕ). zeros m) (whole_slots size is)

-- four lists, grouped another way
four : (a b c d : List ℕ) → ((a ++ b) ++ c) ++ d ≡ a ++ ((b ++ c) ++ d)
four a b c d = ap (λ (l : List ℕ). l ++ d) (append_assoc a b c) ∙ append_assoc a (b ++ c) d

-- where a part is that is after so many bytes
placed : (before part rest h : List ℕ) (at : ℕ) → h ≡ before ++ (part ++ rest) → length before ≡ at → StandsAt at part h
placed before part rest h at is len = ap (λ (l : List ℕ). take (length part) l) (ap (λ (l : List ℕ). drop at l) is ∙ drop_at before (part ++ rest) at len) ∙ take_at part rest (length part) refl

-- a head, two roots and pages of zero bytes
module _ (first text : List ℕ) (head_fits : length first ≤ 8192) (root_fits : length text ≤ 8192) (size d : ℕ) where
  abbrev file : List ℕ
  file = in_part first ++ in_part text ++ in_part text ++ zeros (d * size)

  head_first : file ≡ first ++ (((zeros (8192 - length first) ++ in_part text) ++ in_part text) ++ zeros (d * size))
  head_first = ap (λ (l : List ℕ). l ++ zeros (d * size)) (four first (zeros (8192 - length first)) (in_part text) (in_part text)) ∙ append_assoc first ((zeros (8192 - length first) ++ in_part text) ++ in_part text) (zeros (d * size))

  before_pages : length (in_part first ++ in_part text ++ in_part text) ≡ 24576
  before_pages =
      omega (arith, length-append (in_part first ++ in_part text) (in_part text), length-append (in_part first) (in_part text), length_padded 8192 first head_fits, length_padded 8192 text root_fits)

  file_length : length file ≡ 24576 + d * size
  file_length = omega (arith, length-append (in_part first ++ in_part text ++ in_part text) (zeros (d * size)), before_pages, length_zeros (d * size))

  head_stands : StandsAt 0 first file
  head_stands = placed [] first (((zeros (8192 - length first) ++ in_part text) ++ in_part text) ++ zeros (d * size)) file 0 head_first refl

  root_stands : StandsAt 8192 text file
  root_stands =
      placed (in_part first) text ((zeros (8192 - length text) ++ in_part text) ++ zeros (d * size)) file 8192
      (four (in_part first) (in_part text) (in_part text) (zeros (d * size)) ∙ ap (λ (l : List ℕ). in_part first ++ l) (four text (zeros (8192 - length text)) (in_part text) (zeros (d * size))))
      (length_padded 8192 first head_fits)

  no_selector : length first ≤ 4096 → get_or file 4096 0 ≡ 0
  no_selector le =
      let gap = 8192 - length first in
      ap (λ (l : List ℕ). get_or l 4096 0) (head_first ∙ ap (λ (l : List ℕ). first ++ l) (four (zeros gap) (in_part text) (in_part text) (zeros (d * size))))
      ∙ get_or-append_right first (zeros gap ++ ((in_part text ++ in_part text) ++ zeros (d * size))) (length first) 4096 0 refl (omega (arith, le))
      ∙ get_or_append_left (zeros gap) ((in_part text ++ in_part text) ++ zeros (d * size)) 0 (4096 - length first) (omega (arith, length_zeros gap))
      ∙ zeros_at gap (4096 - length first) (omega arith)

  page_stands : (k : ℕ) → k < d → take size (drop (24576 + k * size) file) ≡ zeros size
  page_stands k lt =
      let less : suc k ≤ d = lt in
      ap (λ (n : ℕ). take size (drop (n + k * size) file)) (sym before_pages)
      ∙ ap (λ (l : List ℕ). take size l) (drop-append-add (in_part first ++ in_part text ++ in_part text) (zeros (d * size)) (k * size))
      ∙ zeros_in (d * size) size (k * size) (omega (arith, mul-le-mul_left size less))

-- ---- a fresh file

module _ (i : Identity) (is : IsIdentity i) where
  abbrev d : ℕ
  d = directory_pages i.blksize i.pages

  abbrev text : List ℕ
  text = root i fresh (numbers d)

  text_fits : length text ≤ 8192
  text_fits = omega (arith, length_root i fresh (numbers d) is.fingerprint, length_numbers d, per_root i.blksize i.pages is.blksize is.most)

  pub length_fresh : length (fresh_file i) ≡ fresh_length i
  length_fresh = file_length (head i) text (omega arith) text_fits i.blksize d

  fresh_page : (k p : ℕ) → At (numbers d) k p → PartStands i.blksize (fresh_file i) (p, directory_text i.blksize k (fresh_layout i).slots)
  fresh_page k p at =
      let own : k ≡ p = own_number d k p at in
      let lt : k < d = omega (arith, own, number_below d k p at) in
      let less : suc k ≤ d = lt in
      let none = no_text i.blksize d k is.blksize lt in
      let long : length (directory_text i.blksize k (fresh_layout i).slots) ≡ i.blksize = ap (λ (l : List ℕ). length l) none ∙ length_zeros i.blksize in
      record {
        stands =
            ap (λ (n : ℕ). take n (drop (24576 + p * i.blksize) (fresh_file i))) long
            ∙ ap (λ (n : ℕ). take i.blksize (drop (24576 + n * i.blksize) (fresh_file i))) (sym own)
            ∙ page_stands (head i) text (omega arith) text_fits i.blksize d k lt
            ∙ sym none;
        fits = omega (arith, long);
        inside = omega (arith, length_fresh, ap (λ (n : ℕ). n * i.blksize) own, mul-le-mul_left i.blksize less);
      }

  pub fresh_stands : Stands i false fresh (fresh_layout i) (fresh_file i)
  fresh_stands = record {
    selected = ap (λ (n : ℕ). n % 2) (no_selector (head i) text (omega arith) text_fits i.blksize d (omega arith));
    image = record {
      identity = is;
      content = fresh_content;
      layout = fresh_is_layout i;
      headed = head_stands (head i) text (omega arith) text_fits i.blksize d;
      root = root_stands (head i) text (omega arith) text_fits i.blksize d;
      directory = λ k p at. fresh_page k p at;
      chains = λ s c value at found. absurd (no_chain (d * slots_in_page i.blksize) s c at);
    };
  }

  abbrev c : ℕ
  c = page_count i.blksize i.pages

  used_named : (u : Name) (p : ℕ) → Names (fresh_layout i) u p → At (flagged true (replicate c false) (numbers d)) p true
  used_named (InRoot k) p at = flag_set (numbers d) (replicate c false) k p at (omega (arith, number_below d k p at, length-replicate c false))
  used_named (InChain s part) p at = absurd (no_chain (d * slots_in_page i.blksize) s at.0 at.1)

  none_used : (k p : ℕ) → At (numbers d) k p → At (replicate c false) p false
  none_used k p at =
      let lt : p < c = omega (arith, number_below d k p at) in
      slice_get_read (replicate c false) c p false (sym (length-replicate c false)) lt (sym (get_or-replicate c p false false lt))

  -- the pages of the directory are used
  pub fresh_is_stored : IsStored i fresh (fresh_layout i) (flagged true (replicate (page_count i.blksize i.pages) false) (numbers (directory_pages i.blksize i.pages)))
  fresh_is_stored = record {
    identity = is;
    content = fresh_content;
    layout = fresh_is_layout i;
    charged = omega (arith, sum_by-replicate (λ (o : Option Chain). if_used (λ (c : Chain). length c.pages) o) (d * slots_in_page i.blksize) free_slot);
    pages = length_flagged true (numbers d) (replicate c false) ∙ length-replicate c false;
    named = λ u p named. used_named u p named;
    free =
        omega (
          arith,
          count_used (numbers d) (replicate c false) (λ a b p h k. own_number d a p h ∙ sym (own_number d b p k)) (λ k p at. none_used k p at),
          length_numbers d,
          sum_by-replicate (λ (u : Bool). cond (not u) 1 0) c false,
        );
  }
