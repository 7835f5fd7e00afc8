-- Slots that are written, and slots that are read.
use Rattle.std.proofs.Common.{◌≡◌, ◌⊎◌, inl, inr, ℕ, zero, suc, ◌*◌, ◌<◌, ◌≤◌, ◌^◌, true, false, cond, eqb, ltb, List, [], ◌∷◌, ◌++◌, length, take, drop, get_or, Option, Some, None, refl, sym, ap}
use Rattle.std.proofs.Common.{◌∙◌, arith, append_assoc, length-append, length-drop}
use Rattle.std.specs.Option.{option_map, option_and_then}
use Rattle.std.specs.List.{flat_map}
use Rattle.std.specs.Int.{w32, to_be_bytes}
use Rattle.std.specs.Str.{bytes_eq}
use Rattle.std.proofs.lemmas.Bool.{cond-true, cond-false, ne_eqb, le-ltb, ltb-false}
use Rattle.std.specs.Prelude.{All, map}
use Rattle.std.proofs.lemmas.Slice.Eq.{bytes_eq-Decides}
use Rattle.std.proofs.lemmas.List.{take_at, drop_at, drop_more, take-append-drop}
use Rattle.std.proofs.lemmas.Option.{none-some, same_Some}
use Rattle.kd_base.specs.ToolsLaws.{chosen, and_some, map_some}
use Rattle.std.proofs.lemmas.List.Elements.{All-head, All-tail}
use Rattle.kd_records.specs.declared.key.RecordKey.{RecordKey}
use Rattle.kdcfile_layout.specs.Fields.{AreBytes, number, key_at}
use Rattle.kdcfile_layout.specs.FieldsLaws.{after, field, parted, read_4, written_4, AreBytes_drop}
use Rattle.kdcfile_layout.specs.PagesLaws.{length_zeros}
use Rattle.kdcfile_layout.specs.TestsLaws.{unless, when}
use Rattle.kdcfile_layout.specs.declared.chain.Chain.{Chain}
use Rattle.kdcfile_layout.specs.Layout.{zeros, spelled_slot, first_of_pages}
use Rattle.kdcfile_layout.specs.declared.kdcfile_read.slot.First.{First}
use Rattle.kdcfile_layout.specs.Slots.{first_in, free_slot_of, used_slot_of, slot_of, slots_of}
use Rattle.kdcfile_layout.specs.ReadSlots.{IsSlot, SlotsAreRead, ReadSlotsStand}

-- what is read of a slot that is long enough
long_enough : (bytes : List ℕ) → 32 ≤ length bytes → slot_of bytes ≡ cond (eqb (get_or bytes 0 0) 0) (free_slot_of bytes) (used_slot_of bytes)
unfolding slot_of
long_enough bytes long = cond-false (ltb (length bytes) 32) None (cond (eqb (get_or bytes 0 0) 0) (free_slot_of bytes) (used_slot_of bytes)) (le-ltb (length bytes) 32 long)

first_zero : (tail : List ℕ) → eqb (get_or (zeros 32 ++ tail) 0 0) 0 ≡ true
unfolding zeros
first_zero tail = refl

free_read : (tail : List ℕ) → slot_of (zeros 32 ++ tail) ≡ Some None
free_read tail =
    long_enough (zeros 32 ++ tail) (omega (arith, length-append (zeros 32) tail, length_zeros 32))
    ∙ cond-true (eqb (get_or (zeros 32 ++ tail) 0 0) 0) (free_slot_of (zeros 32 ++ tail)) (used_slot_of (zeros 32 ++ tail)) (first_zero tail)
    ∙ cond-true (bytes_eq (take 32 (zeros 32 ++ tail)) (zeros 32)) (Some None) None ((bytes_eq-Decides (take 32 (zeros 32 ++ tail)) (zeros 32)).1 (take_at (zeros 32) tail 32 (length_zeros 32)))

some_first : (k : RecordKey) (b : List ℕ) (m n : ℕ) → b ≡ k.bytes → m ≡ n
    → ◌≡◌ {A = Option (Option First)} (Some (Some (record { key = record { kind = k.kind; bytes = b }; page = m }))) (Some (Some (record { key = k; page = n })))
some_first k b m n e f = λ z. Some (Some (record { key = record { kind = k.kind; bytes = e z }; page = f z }))

used_read : (k : RecordKey) (p : ℕ) (tail : List ℕ) → 0 < k.kind → length k.bytes ≡ 24 → p < 2 ^ 32 → slot_of (k.kind ∷ (k.bytes ++ (to_be_bytes w32 p ++ (zeros 3 ++ tail)))) ≡ Some (Some (record { key = k; page = p }))
used_read k p tail some wide small =
    let whole = k.kind ∷ (k.bytes ++ (to_be_bytes w32 p ++ (zeros 3 ++ tail))) in
    let at_25 : drop 25 whole ≡ to_be_bytes w32 p ++ (zeros 3 ++ tail) = drop_at k.bytes (to_be_bytes w32 p ++ (zeros 3 ++ tail)) 24 wide in
    let at_29 : drop 29 whole ≡ zeros 3 ++ tail = after whole (to_be_bytes w32 p) (zeros 3 ++ tail) 25 4 at_25 refl in
    let long : 32 ≤ length whole = omega (arith, length-drop 29 whole, ap (λ (l : List ℕ). length l) at_29, length-append (zeros 3) tail, length_zeros 3) in
    long_enough whole long
    ∙ cond-false (eqb k.kind 0) (free_slot_of whole) (used_slot_of whole) (ne_eqb k.kind 0 (λ e. omega (arith, e, some)))
    ∙ cond-true (bytes_eq (take 3 (drop 29 whole)) (zeros 3)) _ _ ((bytes_eq-Decides (take 3 (drop 29 whole)) (zeros 3)).1 (field whole (zeros 3) tail 29 3 at_29 (length_zeros 3)))
    ∙ some_first k (take 24 (drop 1 whole)) (number w32 25 whole) p (take_at k.bytes (to_be_bytes w32 p ++ (zeros 3 ++ tail)) 24 wide) (written_4 whole (zeros 3 ++ tail) 25 p at_25 small)

regroup : (a : ℕ) (b c d e : List ℕ) → (a ∷ (b ++ c ++ d)) ++ e ≡ a ∷ (b ++ (c ++ (d ++ e)))
regroup a b c d e = simp append_assoc

one_read : (o : Option Chain) (tail : List ℕ) → IsSlot o → (slot_of (spelled_slot o ++ tail) ≡ Some (first_in o)) × (drop 32 (spelled_slot o ++ tail) ≡ tail)
unfolding spelled_slot
one_read None tail is = (free_read tail, drop_at (zeros 32) tail 32 (length_zeros 32))
one_read (Some c) tail is =
    let k = c.key in
    let p = first_of_pages c.pages in
    let front = k.kind ∷ (k.bytes ++ to_be_bytes w32 p ++ zeros 3) in
    let grouped : front ++ tail ≡ k.kind ∷ (k.bytes ++ (to_be_bytes w32 p ++ (zeros 3 ++ tail))) = regroup k.kind k.bytes (to_be_bytes w32 p) (zeros 3) tail in (
      ap (λ (l : List ℕ). slot_of l) grouped ∙ used_read k p tail is.0 is.1 is.2,
      drop_at front tail 32 (omega (arith, length-append (k.bytes ++ to_be_bytes w32 p) (zeros 3), length-append k.bytes (to_be_bytes w32 p), length_zeros 3, is.1)),
    )

pub slots_are_read : SlotsAreRead
unfolding slots_of
slots_are_read [] tail are = refl
slots_are_read (o ∷ slots) tail are =
    let rest = flat_map spelled_slot slots ++ tail in
    let one = one_read o (flat_map spelled_slot slots ++ tail) (All-head IsSlot o slots are) in
    ap (λ (l : List ℕ). slots_of (suc (length slots)) l) (append_assoc (spelled_slot o) (flat_map spelled_slot slots) tail)
    ∙ ap (λ (x : Option (Option First)). option_and_then (λ (q : Option First). option_map (λ (os : List (Option First)). q ∷ os) (slots_of (length slots) (drop 32 (spelled_slot o ++ (flat_map spelled_slot slots ++ tail))))) x) one.0
    ∙ ap (λ (l : List ℕ). option_map (λ (os : List (Option First)). first_in o ∷ os) (slots_of (length slots) l)) one.1
    ∙ ap (λ (x : Option (List (Option First))). option_map (λ (os : List (Option First)). first_in o ∷ os) x) (slots_are_read slots tail (All-tail IsSlot o slots are))

length_slot : (o : Option Chain) → IsSlot o → length (spelled_slot o) ≡ 32
unfolding spelled_slot
length_slot None is = length_zeros 32
length_slot (Some c) is = omega (arith, length-append (c.key.bytes ++ to_be_bytes w32 (first_of_pages c.pages)) (zeros 3), length-append c.key.bytes (to_be_bytes w32 (first_of_pages c.pages)), length_zeros 3, is.1)

pub length_slots : (slots : List (Option Chain)) → All IsSlot slots → length (flat_map spelled_slot slots) ≡ length slots * 32
length_slots [] are = refl
length_slots (o ∷ slots) are = omega (arith, length-append (spelled_slot o) (flat_map spelled_slot slots), length_slot o (All-head IsSlot o slots are), length_slots slots (All-tail IsSlot o slots are))

-- ---- the other way round

nil-cons : {A : Type 0} (x : A) (xs : List A) → [] ≡ x ∷ xs → ⊥
nil-cons x xs e = absurd cc

no_first : (f : First) → ◌≡◌ {A = Option (Option First)} (Some None) (Some (Some f)) → ⊥
no_first f e = none-some f (same_Some None (Some f) e)

no_free : (f : First) → ◌≡◌ {A = Option (Option First)} (Some (Some f)) (Some None) → ⊥
no_free f e = none-some f (sym (same_Some (Some f) None e))

spelled_free : (bytes : List ℕ) → take 32 bytes ≡ zeros 32 → bytes ≡ spelled_slot None ++ drop 32 bytes
unfolding spelled_slot
spelled_free bytes e = sym (take-append-drop 32 bytes) ∙ ap (λ (l : List ℕ). l ++ drop 32 bytes) e

spelled_used : (bytes : List ℕ) (c : Chain) → AreBytes bytes → 32 ≤ length bytes → take 3 (drop 29 bytes) ≡ zeros 3 → ◌≡◌ {A = First} (record { key = key_at bytes; page = number w32 25 bytes }) (record { key = c.key; page = first_of_pages c.pages }) → bytes ≡ spelled_slot (Some c) ++ drop 32 bytes
unfolding spelled_slot
spelled_used bytes c are long last is =
    let kind : get_or bytes 0 0 ≡ c.key.kind = ap (λ (f : First). f.key.kind) is in
    let key : take 24 (drop 1 bytes) ≡ c.key.bytes = ap (λ (f : First). f.key.bytes) is in
    let page : number w32 25 bytes ≡ first_of_pages c.pages = ap (λ (f : First). f.page) is in
    drop_more bytes 0 0 (omega (arith, long))
    ∙ ap (λ (l : List ℕ). get_or bytes 0 0 ∷ l)
    (parted 1 24 bytes
    ∙ ap (λ (l : List ℕ). l ++ drop 25 bytes) key
    ∙ ap (λ (l : List ℕ). c.key.bytes ++ l)
    (parted 25 4 bytes
    ∙ ap (λ (l : List ℕ). l ++ drop 29 bytes) (sym (read_4 25 bytes are (omega (arith, long))) ∙ ap (λ (n : ℕ). to_be_bytes w32 n) page)
    ∙ ap (λ (l : List ℕ). to_be_bytes w32 (first_of_pages c.pages) ++ l) (parted 29 3 bytes ∙ ap (λ (l : List ℕ). l ++ drop 32 bytes) last)))
    ∙ ap (λ (n : ℕ). n ∷ (c.key.bytes ++ (to_be_bytes w32 (first_of_pages c.pages) ++ (zeros 3 ++ drop 32 bytes)))) kind
    ∙ sym (regroup c.key.kind c.key.bytes (to_be_bytes w32 (first_of_pages c.pages)) (zeros 3) (drop 32 bytes))

-- a slot that is read is written so
one_spelled : (bytes : List ℕ) (o : Option Chain) → AreBytes bytes → slot_of bytes ≡ Some (first_in o) → bytes ≡ spelled_slot o ++ drop 32 bytes
unfolding slot_of
one_spelled bytes o are e =
    let long = unless (ltb (length bytes) 32) (cond (eqb (get_or bytes 0 0) 0) (free_slot_of bytes) (used_slot_of bytes)) (first_in o) e in
    by_kind o (ltb-false (length bytes) 32 long.0) (chosen (eqb (get_or bytes 0 0) 0) (free_slot_of bytes) (used_slot_of bytes) (Some (first_in o)) long.1)
  where
    by_kind : (o : Option Chain) → 32 ≤ length bytes → ((eqb (get_or bytes 0 0) 0 ≡ true) × (free_slot_of bytes ≡ Some (first_in o))) ⊎ ((eqb (get_or bytes 0 0) 0 ≡ false) × (used_slot_of bytes ≡ Some (first_in o))) → bytes ≡ spelled_slot o ++ drop 32 bytes
    by_kind None long (inl free) =
        spelled_free bytes ((bytes_eq-Decides (take 32 bytes) (zeros 32)).0 (when (bytes_eq (take 32 bytes) (zeros 32)) (Some None) None free.1).0)
    by_kind (Some c) long (inl free) =
        absurd (no_first (record { key = c.key; page = first_of_pages c.pages }) (when (bytes_eq (take 32 bytes) (zeros 32)) (Some None) (first_in (Some c)) free.1).1)
    by_kind None long (inr taken) =
        absurd (no_free (record { key = key_at bytes; page = number w32 25 bytes }) (when (bytes_eq (take 3 (drop 29 bytes)) (zeros 3)) (Some (Some (record { key = key_at bytes; page = number w32 25 bytes }))) None taken.1).1)
    by_kind (Some c) long (inr taken) =
        let passed = when (bytes_eq (take 3 (drop 29 bytes)) (zeros 3)) (Some (Some (record { key = key_at bytes; page = number w32 25 bytes }))) (first_in (Some c)) taken.1 in
        spelled_used bytes c are long ((bytes_eq-Decides (take 3 (drop 29 bytes)) (zeros 3)).0 passed.0)
        (same_Some (record { key = key_at bytes; page = number w32 25 bytes }) (record { key = c.key; page = first_of_pages c.pages }) (same_Some (Some (record { key = key_at bytes; page = number w32 25 bytes })) (first_in (Some c)) passed.1))

abbrev onto_slots : Option First → List (Option First) → List (Option First)
onto_slots o os = o ∷ os

long_slot : (bytes : List ℕ) (o : Option First) → slot_of bytes ≡ Some o → 32 ≤ length bytes
unfolding slot_of
long_slot bytes o e = ltb-false (length bytes) 32 (unless (ltb (length bytes) 32) (cond (eqb (get_or bytes 0 0) 0) (free_slot_of bytes) (used_slot_of bytes)) o e).0

-- slots that are read are there
pub long_slots : (n : ℕ) (page : List ℕ) (os : List (Option First)) → slots_of n page ≡ Some os → n * 32 ≤ length page
unfolding slots_of
long_slots zero page os e = omega arith
long_slots (suc n) page os e =
    let first = and_some (λ (q : Option First). option_map (onto_slots q) (slots_of n (drop 32 page))) (slot_of page) os e in
    let rest = map_some (onto_slots first.0) (slots_of n (drop 32 page)) os first.2 in
    omega (arith, long_slot page first.0 first.1, long_slots n (drop 32 page) rest.0 rest.1, length-drop 32 page)

pub read_slots_stand : ReadSlotsStand
unfolding slots_of
read_slots_stand [] zero page are e = (refl, (page, refl))
read_slots_stand (o ∷ slots) zero page are e = absurd (nil-cons (first_in o) (map first_in slots) (same_Some [] (map first_in (o ∷ slots)) e))
read_slots_stand [] (suc n) page are e =
    let first = and_some (λ (q : Option First). option_map (onto_slots q) (slots_of n (drop 32 page))) (slot_of page) [] e in
    let rest = map_some (onto_slots first.0) (slots_of n (drop 32 page)) [] first.2 in
    absurd (nil-cons first.0 rest.0 (sym rest.2))
read_slots_stand (o ∷ slots) (suc n) page are e =
    let first = and_some (λ (q : Option First). option_map (onto_slots q) (slots_of n (drop 32 page))) (slot_of page) (map first_in (o ∷ slots)) e in
    let rest = map_some (onto_slots first.0) (slots_of n (drop 32 page)) (map first_in (o ∷ slots)) first.2 in
    let head_is : first.0 ≡ first_in o = ap (λ (l : List (Option First)). get_or l 0 first.0) rest.2 in
    let tail_is : rest.0 ≡ map first_in slots = ap (λ (l : List (Option First)). drop 1 l) rest.2 in
    let one = one_spelled page o are (first.1 ∙ ap (λ (q : Option First). Some q) head_is) in
    let others = read_slots_stand slots n (drop 32 page) (AreBytes_drop 32 page are) (rest.1 ∙ ap (λ (os : List (Option First)). Some os) tail_is) in (
      ap suc others.0,
      (others.1.0, one ∙ ap (λ (l : List ℕ). spelled_slot o ++ l) others.1.1 ∙ sym (append_assoc (spelled_slot o) (flat_map spelled_slot slots) others.1.0)),
    )
