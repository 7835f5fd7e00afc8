-- What the first bytes say, and what is written there.
use Rattle.std.proofs.Common.{◌≡◌, inl, inr, ⊎_elim, ℕ, ◌%◌, ◌<◌, ◌≤◌, ◌^◌, Bool, true, false, eqb, ltb, List, ◌++◌, length, take, drop, get_or, Some, refl, sym, ap, subst, ◌∙◌, arith}
use Rattle.std.specs.Str.{bytes_eq}
use Rattle.std.specs.Int.{w32, to_be_bytes}
use Rattle.std.proofs.lemmas.Bool.{ltb-false, le-ltb, leb-true, le-leb, eqb-true, eq-eqb, and_parts, and_from, or_cases, or_left, or_right, cond-true, cond-false}
use Rattle.std.proofs.lemmas.Slice.Eq.{bytes_eq-Decides}
use Rattle.std.proofs.lemmas.Option.{same_Some}
use Rattle.std.proofs.lemmas.List.{take-take, take_at, drop_at, take-append-drop, get_or-take, length-take, length-drop}
use Rattle.kd_records.specs.declared.content.Content.{Content}
use Rattle.kd_records.specs.Identity.{Identity, IsIdentity}
use Rattle.kdcfile_layout.specs.ReadHeadsLaws.{selected_so, so_selected}
use Rattle.device_tests.specs.declared.whole_store.head.Head.{Head}
use Rattle.device_tests.specs.File.{Stands, head, place, spelled}
use Rattle.kdcfile_layout.specs.Layout.{selector}
use Rattle.kdcfile_layout.specs.Fields.{AreBytes, number}
use Rattle.device_tests.specs.Reading.{HasSizes, has_sizes, sized, head_of, gate}
use Rattle.kdcfile_layout.specs.FieldsLaws.{after, parted, read_4, written_4}
use Rattle.kdcfile_layout.specs.TestsLaws.{unless, when}

sizes_pass : (blksize pages : ℕ) → HasSizes blksize pages → has_sizes blksize pages ≡ true
sizes_pass blksize pages h =
    and_from _ _ (and_from _ _ (⊎_elim (λ e. or_left _ _ (or_left _ _ (eq-eqb blksize 2048 e))) (λ o. ⊎_elim (λ e. or_left _ _ (or_right _ _ (eq-eqb blksize 4096 e))) (λ e. or_right _ _ (eq-eqb blksize 8192 e)) o) h.size) (le-leb 16 pages h.least)) (le-leb pages 30000 h.most)

pub sizes_hold : (blksize pages : ℕ) → has_sizes blksize pages ≡ true → HasSizes blksize pages
sizes_hold blksize pages e =
    let outer = and_parts _ _ e in
    let inner = and_parts _ _ outer.0 in
    record {
      size = ⊎_elim (λ two. ⊎_elim (λ a. inl (eqb-true blksize 2048 a)) (λ b. inr (inl (eqb-true blksize 4096 b))) (or_cases _ _ two)) (λ c. inr (inr (eqb-true blksize 8192 c))) (or_cases _ _ inner.0);
      least = leb-true 16 pages inner.1;
      most = leb-true pages 30000 outer.1;
    }

pub sizes_of : (i : Identity) → IsIdentity i → HasSizes i.blksize i.pages
sizes_of i h = record { size = h.blksize; least = h.least; most = h.most }

head_so : (front : List ℕ) (blksize pages : ℕ) (second : Bool) → 4097 ≤ length front → take 9 front ≡ gate → number w32 9 front ≡ blksize → number w32 13 front ≡ pages → eqb (get_or front 4096 0 % 2) 1 ≡ second → HasSizes blksize pages
    → head_of front ≡ Some (record { blksize = blksize; pages = pages; second = second })
head_so front blksize pages second long mark block_is pages_is selected sizes =
    cond-false (ltb (length front) 4097) _ _ (le-ltb (length front) 4097 long)
    ∙ cond-true (bytes_eq (take 9 front) gate) _ _ ((bytes_eq-Decides (take 9 front) gate).1 mark)
    ∙ ap (λ (b : ℕ). sized b (number w32 13 front) (eqb (get_or front 4096 0 % 2) 1)) block_is
    ∙ ap (λ (p : ℕ). sized blksize p (eqb (get_or front 4096 0 % 2) 1)) pages_is
    ∙ ap (λ (s : Bool). sized blksize pages s) selected
    ∙ cond-true (has_sizes blksize pages) _ _ (sizes_pass blksize pages sizes)

first_fields : (i : Identity) (front tail : List ℕ) → front ≡ gate ++ (to_be_bytes w32 i.blksize ++ (to_be_bytes w32 i.pages ++ tail)) → i.blksize < 2 ^ 32 → i.pages < 2 ^ 32
    → (take 9 front ≡ gate) × (number w32 9 front ≡ i.blksize) × (number w32 13 front ≡ i.pages)
first_fields i front tail is block_fits pages_fits =
    let behind : drop 9 front ≡ to_be_bytes w32 i.blksize ++ (to_be_bytes w32 i.pages ++ tail) = ap (λ (l : List ℕ). drop 9 l) is ∙ drop_at gate (to_be_bytes w32 i.blksize ++ (to_be_bytes w32 i.pages ++ tail)) 9 refl in
    let last : drop 13 front ≡ to_be_bytes w32 i.pages ++ tail = after front (to_be_bytes w32 i.blksize) (to_be_bytes w32 i.pages ++ tail) 9 4 behind refl in (
      ap (λ (l : List ℕ). take 9 l) is ∙ take_at gate (to_be_bytes w32 i.blksize ++ (to_be_bytes w32 i.pages ++ tail)) 9 refl,
      written_4 front (to_be_bytes w32 i.pages ++ tail) 9 i.blksize behind block_fits,
      written_4 front tail 13 i.pages last pages_fits,
    )

pub block_small : (blksize pages : ℕ) → HasSizes blksize pages → blksize ≤ 8192
block_small blksize pages h = ⊎_elim (λ e. omega arith) (λ o. ⊎_elim (λ e. omega arith) (λ e. omega arith) o) h.size

pub place_past : (i : Identity) (second : Bool) → 8192 ≤ place i second
place_past i true = omega arith
place_past i false = omega arith

-- where the file has a head, this is what it says
pub head_written : (i : Identity) (x : Content) (second : Bool) (bytes : List ℕ) → 0 < length (spelled i x) → Stands i second x bytes → head_of (take 4097 bytes) ≡ Some (record { blksize = i.blksize; pages = i.pages; second = second })
head_written i x second bytes some stands =
    let front : List ℕ = take 4097 bytes in
    let long : 4097 ≤ length bytes = omega (arith, place_past i second, length-take (length (spelled i x)) (drop (place i second) bytes), length-drop (place i second) bytes, ap (λ (l : List ℕ). length l) stands.image) in
    let begins : take 17 (take 4097 bytes) ≡ head i = take-take 17 4097 bytes (omega arith) ∙ stands.headed in
    let is : take 4097 bytes ≡ gate ++ (to_be_bytes w32 i.blksize ++ (to_be_bytes w32 i.pages ++ drop 17 (take 4097 bytes))) = sym (take-append-drop 17 (take 4097 bytes)) ∙ ap (λ (l : List ℕ). l ++ drop 17 (take 4097 bytes)) begins in
    let sizes = sizes_of i stands.identity in
    let fields = first_fields i (take 4097 bytes) (drop 17 (take 4097 bytes)) is (omega (arith, block_small i.blksize i.pages sizes)) (omega (arith, sizes.most)) in
    head_so (take 4097 bytes) i.blksize i.pages second (omega (arith, length-take 4097 bytes)) fields.0 fields.1 fields.2
    (ap (λ (n : ℕ). eqb (n % 2) 1) (get_or-take 4097 bytes 4096 0 (omega arith)) ∙ selected_so (get_or bytes 4096 0) second stands.selected) sizes

-- a head that was read, with the bytes that it stands on
pub record Headed (h : Head) (front : List ℕ) : Type 0 where
  pub long : 4097 ≤ length front
  pub first : take 17 front ≡ gate ++ (to_be_bytes w32 h.blksize ++ to_be_bytes w32 h.pages)
  pub selected : get_or front 4096 0 % 2 ≡ selector h.second
  pub sizes : HasSizes h.blksize h.pages

pub head_read : (front : List ℕ) (h : Head) → AreBytes front → head_of front ≡ Some h → Headed h front
head_read front h bytes e =
    let long = unless (ltb (length front) 4097) _ h e in
    let marked = when (bytes_eq (take 9 front) gate) _ h long.1 in
    let right = when (has_sizes (number w32 9 front) (number w32 13 front)) _ h marked.1 in
    let P : Head → Type 0 = λ g. Headed g front in
    subst P (same_Some _ h right.1) (made (ltb-false (length front) 4097 long.0) ((bytes_eq-Decides (take 9 front) gate).0 marked.0) right.0)
  where
    made : 4097 ≤ length front → take 9 front ≡ gate → has_sizes (number w32 9 front) (number w32 13 front) ≡ true
        → Headed (record { blksize = number w32 9 front; pages = number w32 13 front; second = eqb (get_or front 4096 0 % 2) 1 }) front
    made long mark sizes = record {
      long = long;
      first =
          ap (λ (l : List ℕ). take 17 l)
          (sym (take-append-drop 9 front)
          ∙ ap (λ (l : List ℕ). l ++ drop 9 front) mark
          ∙ ap (λ (l : List ℕ). gate ++ l) (parted 9 4 front ∙ ap (λ (l : List ℕ). l ++ drop 13 front) (sym (read_4 9 front bytes (omega arith)))
          ∙ ap (λ (l : List ℕ). to_be_bytes w32 (number w32 9 front) ++ l) (parted 13 4 front ∙ ap (λ (l : List ℕ). l ++ drop 17 front) (sym (read_4 13 front bytes (omega arith))))))
          ∙ take_at (gate ++ (to_be_bytes w32 (number w32 9 front) ++ to_be_bytes w32 (number w32 13 front))) (drop 17 front) 17 refl;
      selected = so_selected (get_or front 4096 0) (eqb (get_or front 4096 0 % 2) 1) refl;
      sizes = sizes_hold (number w32 9 front) (number w32 13 front) sizes;
    }
