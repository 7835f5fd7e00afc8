-- Sizes of a file in pages.
use Rattle.std.proofs.Common.{◌≡◌, ⊎_elim, ℕ, zero, suc, ◌+◌, ◌-◌, ◌*◌, ◌<◌, ◌≤◌, ◌^◌, true, ◌||◌, eqb, sym, ap, subst, arith, max}
use Rattle.std.specs.Int.{div_ceil}
use Rattle.std.proofs.Math.Nat.{div-le_self}
use Rattle.std.proofs.lemmas.Bool.{eq-eqb, or_left, or_right}
use Rattle.std.proofs.lemmas.Grind.{div_ceil_times}
use Rattle.kd_records.specs.Charge.{IsBlockSize, charge_of}
use Rattle.kd_records.specs.ChargeLaws.{block_from, block_upto, charge_is}
use Rattle.kdcfile_layout.specs.Layout.{slots_in_page, directory_pages, page_count}
use Rattle.kdcfile_layout.specs.ReadChains.{Holds}
use Rattle.kdcfile_layout.specs.Reading.{is_block_size}

pub block_passes : (size : ℕ) → IsBlockSize size → is_block_size size ≡ true
block_passes size h =
    ⊎_elim
    (λ a. or_left (eqb size 2048 || eqb size 4096) (eqb size 8192) (or_left (eqb size 2048) (eqb size 4096) (eq-eqb size 2048 a)))
    (λ o. ⊎_elim (λ b. or_left (eqb size 2048 || eqb size 4096) (eqb size 8192) (or_right (eqb size 2048) (eqb size 4096) (eq-eqb size 4096 b))) (λ c. or_right (eqb size 2048 || eqb size 4096) (eqb size 8192) (eq-eqb size 8192 c)) o)
    h

-- slots fill a page
pub slots_fill : (size : ℕ) → IsBlockSize size → slots_in_page size * 32 ≡ size
slots_fill size h =
    ⊎_elim
    (λ e. let q : slots_in_page size ≡ 64 = ap (λ (s : ℕ). slots_in_page s) e in omega (arith, q, e))
    (λ o. ⊎_elim (λ e. let q : slots_in_page size ≡ 128 = ap (λ (s : ℕ). slots_in_page s) e in omega (arith, q, e)) (λ e. let q : slots_in_page size ≡ 256 = ap (λ (s : ℕ). slots_in_page s) e in omega (arith, q, e)) o)
    h

pub few_slots : (size : ℕ) → IsBlockSize size → slots_in_page size ≤ 256
few_slots size h = omega (arith, slots_fill size h, block_upto size h)

pub few_directory_pages : (size pool : ℕ) → IsBlockSize size → pool ≤ 30000 → directory_pages size pool ≤ 30256
few_directory_pages size pool h most = omega (arith, div-le_self (pool + (slots_in_page size - 1)) (slots_in_page size), few_slots size h)

pub few_pages : (size pool : ℕ) → IsBlockSize size → pool ≤ 30000 → page_count size pool < 2 ^ 32 - 1
few_pages size pool h most = omega (arith, few_directory_pages size pool h most)

-- the pages of a value hold it
pub charge_holds : (size n : ℕ) → IsBlockSize size → Holds size (charge_of size n) n
charge_holds size n h =
    let least = block_from size h in
    let bounds = div_ceil_times n (size - 48) (omega (arith, least)) in
    record {
      block = omega (arith, least);
      some = one_at_least (div_ceil n (size - 48)) (charge_of size n) (charge_is size n least);
      least = most_of_it (size - 48) n (div_ceil n (size - 48)) (charge_of size n) (charge_is size n least) bounds.1;
      most = all_of_it (size - 48) n (div_ceil n (size - 48)) (charge_of size n) (charge_is size n least) bounds.0;
    }
  where
    one_at_least : (d c : ℕ) → c ≡ max 1 d → 1 ≤ c
    one_at_least d c e = omega (arith, e)

    most_of_it : (m n d c : ℕ) → c ≡ max 1 d → d * m < n + m → (c - 1) * m ≤ n
    most_of_it m n zero c e lt = let none : c - 1 ≡ 0 = omega (arith, e) in let P : ℕ → Type 0 = λ y. y * m ≤ n in subst P (sym none) (omega arith)
    most_of_it m n (suc d) c e lt = let less : c - 1 ≡ d = omega (arith, e) in let P : ℕ → Type 0 = λ y. y * m ≤ n in subst P (sym less) (omega (arith, lt))

    all_of_it : (m n d c : ℕ) → c ≡ max 1 d → n ≤ d * m → n ≤ c * m
    all_of_it m n zero c e le = omega (arith, le)
    all_of_it m n (suc d) c e le = let same : c ≡ suc d = omega (arith, e) in let P : ℕ → Type 0 = λ y. n ≤ y * m in subst P (sym same) le
