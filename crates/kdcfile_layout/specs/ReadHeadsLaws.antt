-- What the first bytes say, and what is written there.
use Rattle.std.proofs.Common.{◌≡◌, ◌⊎◌, inl, inr, ⊎_elim, ℕ, ◌%◌, ◌<◌, ◌≤◌, Bool, true, false, eqb, ltb, List, ◌++◌, length, take, drop, get_or, Some, refl, sym, ap, subst, ◌∙◌, arith}
use Rattle.std.specs.Str.{bytes_eq}
use Rattle.std.specs.Int.{w32, to_be_bytes}
use Rattle.std.proofs.lemmas.Bool.{ltb-false, le-ltb, eqb-true, eq-eqb, cond-true, cond-false, cases_lt}
use Rattle.std.proofs.lemmas.Slice.Eq.{bytes_eq-Decides}
use Rattle.std.proofs.lemmas.Option.{same_Some}
use Rattle.std.proofs.lemmas.List.{take-take, take_at, drop_at, take-append-drop, get_or-take, length-take}
use Rattle.kd_records.specs.Charge.{IsBlockSize}
use Rattle.kd_records.specs.ChargeLaws.{block_upto}
use Rattle.kd_records.specs.Identity.{Identity}
use Rattle.kdcfile_layout.specs.Fields.{AreBytes, number}
use Rattle.kdcfile_layout.specs.FieldsLaws.{parted, read_4, written_4}
use Rattle.kdcfile_layout.specs.TestsLaws.{unless, when}
use Rattle.kdcfile_layout.specs.Layout.{StandsAt, head, selector}
use Rattle.kdcfile_layout.specs.declared.kdcfile_read.head.Head.{Head}
use Rattle.kdcfile_layout.specs.Reading.{gate, is_block_size, sized, head_of}
use Rattle.kdcfile_layout.specs.Reads.{front_in}
use Rattle.kdcfile_layout.specs.SizesLaws.{block_passes}

pub selected_so : (n : ℕ) (second : Bool) → n % 2 ≡ selector second → eqb (n % 2) 1 ≡ second
selected_so n true e = eq-eqb (n % 2) 1 e
selected_so n false e = ap (λ (m : ℕ). eqb m 1) e

pub so_selected : (n : ℕ) (second : Bool) → eqb (n % 2) 1 ≡ second → n % 2 ≡ selector second
so_selected n true e = eqb-true (n % 2) 1 e
so_selected n false e = ⊎_elim (λ z. z) (λ one. absurd (omega (arith, ap bit (sym e ∙ eq-eqb (n % 2) 1 one)))) (parity (n % 2) (omega arith))
  where
    bit : Bool → ℕ
    bit true = 1
    bit false = 0

    parity : (m : ℕ) → m < 2 → (m ≡ 0) ⊎ (m ≡ 1)
    parity m lt = ⊎_elim (λ z. inl (omega arith)) (λ o. inr (omega arith)) (cases_lt m 1)

-- what first bytes have to be
head_so : (front : List ℕ) (blksize : ℕ) (second : Bool) → 4097 ≤ length front → take 9 front ≡ gate → number w32 9 front ≡ blksize → eqb (get_or front 4096 0 % 2) 1 ≡ second → IsBlockSize blksize
    → head_of front ≡ Some (record { blksize = blksize; second = second })
head_so front blksize second long mark block_is selected block =
    cond-false (ltb (length front) 4097) _ _ (le-ltb (length front) 4097 long)
    ∙ cond-true (bytes_eq (take 9 front) gate) _ _ ((bytes_eq-Decides (take 9 front) gate).1 mark)
    ∙ ap (λ (b : ℕ). sized b (eqb (get_or front 4096 0 % 2) 1)) block_is
    ∙ ap (λ (s : Bool). sized blksize s) selected
    ∙ cond-true (is_block_size blksize) _ _ (block_passes blksize block)

-- where the file is long enough, its head says what it was made with
pub head_written : (i : Identity) (second : Bool) (h : List ℕ) → IsBlockSize i.blksize → 4097 ≤ length h → StandsAt 0 (head i) h → get_or h 4096 0 % 2 ≡ selector second
    → head_of (front_in h) ≡ Some (record { blksize = i.blksize; second = second })
head_written i second h block long stands selected =
    let front : List ℕ = take 4097 h in
    let begins : take 13 (take 4097 h) ≡ head i = take-take 13 4097 h (omega arith) ∙ stands in
    let is : take 4097 h ≡ gate ++ (to_be_bytes w32 i.blksize ++ drop 13 (take 4097 h)) = sym (take-append-drop 13 (take 4097 h)) ∙ ap (λ (l : List ℕ). l ++ drop 13 (take 4097 h)) begins in
    let rest = to_be_bytes w32 i.blksize ++ drop 13 (take 4097 h) in
    head_so (take 4097 h) i.blksize second (omega (arith, length-take 4097 h))
    (ap (λ (l : List ℕ). take 9 l) is ∙ take_at gate rest 9 refl)
    (written_4 (take 4097 h) (drop 13 (take 4097 h)) 9 i.blksize (ap (λ (l : List ℕ). drop 9 l) is ∙ drop_at gate rest 9 refl) (omega (arith, block_upto i.blksize block)))
    (ap (λ (n : ℕ). eqb (n % 2) 1) (get_or-take 4097 h 4096 0 (omega arith)) ∙ selected_so (get_or h 4096 0) second selected) block

-- a head that was read, with the bytes that it stands on
pub record Headed (h : Head) (front : List ℕ) : Type 0 where
  pub long : 4097 ≤ length front
  pub first : take 13 front ≡ gate ++ to_be_bytes w32 h.blksize
  pub selected : get_or front 4096 0 % 2 ≡ selector h.second

headed : (front : List ℕ) (h : Head) → AreBytes front → head_of front ≡ Some h → Headed h front
headed front h bytes e =
    let long = unless (ltb (length front) 4097) _ h e in
    let marked = when (bytes_eq (take 9 front) gate) _ h long.1 in
    let right = when (is_block_size (number w32 9 front)) _ h marked.1 in
    let P : Head → Type 0 = λ g. Headed g front in
    subst P (same_Some _ h right.1) (made (ltb-false (length front) 4097 long.0) ((bytes_eq-Decides (take 9 front) gate).0 marked.0))
  where
    made : 4097 ≤ length front → take 9 front ≡ gate → Headed (record { blksize = number w32 9 front; second = eqb (get_or front 4096 0 % 2) 1 }) front
    made long mark = record {
      long = long;
      first =
          ap (λ (l : List ℕ). take 13 l)
          (sym (take-append-drop 9 front)
          ∙ ap (λ (l : List ℕ). l ++ drop 9 front) mark
          ∙ ap (λ (l : List ℕ). gate ++ l) (parted 9 4 front ∙ ap (λ (l : List ℕ). l ++ drop 13 front) (sym (read_4 9 front bytes (omega (arith, long))))))
          ∙ take_at (gate ++ to_be_bytes w32 (number w32 9 front)) (drop 13 front) 13 refl;
      selected = so_selected (get_or front 4096 0) (eqb (get_or front 4096 0 % 2) 1) refl;
    }

-- what a head says is in the file
pub head_read : (i : Identity) (second : Bool) (h : List ℕ) → AreBytes (front_in h) → head_of (front_in h) ≡ Some (record { blksize = i.blksize; second = second }) → StandsAt 0 (head i) h × (get_or h 4096 0 % 2 ≡ selector second)
head_read i second h bytes e =
    let read = headed (take 4097 h) (record { blksize = i.blksize; second = second }) bytes e in (
      sym (take-take 13 4097 h (omega arith)) ∙ read.first,
      ap (λ (n : ℕ). n % 2) (sym (get_or-take 4097 h 4096 0 (omega arith))) ∙ read.selected,
    )
