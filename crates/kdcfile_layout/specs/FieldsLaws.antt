-- Fields at their places in a list of bytes.
use Rattle.std.proofs.Common.{◌≡◌, ℕ, ◌+◌, ◌<◌, ◌≤◌, ◌^◌, List, ◌++◌, length, take, drop, refl, sym, ap, ◌∙◌, ⊎_elim, arith}
use Rattle.std.proofs.lemmas.Bool.{cases_lt}
use Rattle.std.proofs.lemmas.List.{drop-drop, drop_at, take_at, take-append-drop, get_or-take, get_or-drop, get_or_past, length-take, length-take-le, length-drop}
use Rattle.std.proofs.lemmas.Nat.{be_bytes_4, be_bytes_8, from_be_bytes-to_be_bytes_4, from_be_bytes-to_be_bytes_8}
use Rattle.std.specs.Int.{w32, w64, from_be_bytes, to_be_bytes}
use Rattle.kdcfile_layout.specs.Fields.{AreBytes, number}

pub after : (whole b c : List ℕ) (at n : ℕ) → drop at whole ≡ b ++ c → length b ≡ n → drop (at + n) whole ≡ c
after whole b c at n is len = sym (drop-drop n at whole) ∙ ap (λ (l : List ℕ). drop n l) is ∙ drop_at b c n len

pub field : (whole b c : List ℕ) (at n : ℕ) → drop at whole ≡ b ++ c → length b ≡ n → take n (drop at whole) ≡ b
field whole b c at n is len = ap (λ (l : List ℕ). take n l) is ∙ take_at b c n len

pub parted : (at n : ℕ) (xs : List ℕ) → drop at xs ≡ take n (drop at xs) ++ drop (at + n) xs
parted at n xs = sym (take-append-drop n (drop at xs)) ∙ ap (λ (l : List ℕ). take n (drop at xs) ++ l) (drop-drop n at xs)

pub AreBytes_drop : (at : ℕ) (xs : List ℕ) → AreBytes xs → AreBytes (drop at xs)
AreBytes_drop at xs bytes k = omega (arith, get_or-drop at xs k 0, bytes (at + k))

pub AreBytes_take : (n : ℕ) (xs : List ℕ) → AreBytes xs → AreBytes (take n xs)
AreBytes_take n xs bytes k =
    ⊎_elim (λ lt. omega (arith, get_or-take n xs k 0 lt, bytes k)) (λ ge. omega (arith, get_or_past (take n xs) k 0 (omega (arith, length-take n xs)))) (cases_lt k n)

pub AreBytes_piece : (at n : ℕ) (xs : List ℕ) → AreBytes xs → AreBytes (take n (drop at xs))
AreBytes_piece at n xs bytes = AreBytes_take n (drop at xs) (AreBytes_drop at xs bytes)

pub length_piece : (at n : ℕ) (xs : List ℕ) → at + n ≤ length xs → length (take n (drop at xs)) ≡ n
length_piece at n xs long = length-take-le n (drop at xs) (omega (arith, length-drop at xs))

pub written_4 : (whole c : List ℕ) (at n : ℕ) → drop at whole ≡ to_be_bytes w32 n ++ c → n < 2 ^ 32 → number w32 at whole ≡ n
unfolding number
written_4 whole c at n is lt = ap (λ (l : List ℕ). from_be_bytes w32 l) (field whole (to_be_bytes w32 n) c at 4 is refl) ∙ from_be_bytes-to_be_bytes_4 n lt

pub written_8 : (whole c : List ℕ) (at n : ℕ) → drop at whole ≡ to_be_bytes w64 n ++ c → n < 2 ^ 64 → number w64 at whole ≡ n
unfolding number
written_8 whole c at n is lt = ap (λ (l : List ℕ). from_be_bytes w64 l) (field whole (to_be_bytes w64 n) c at 8 is refl) ∙ from_be_bytes-to_be_bytes_8 n lt

pub read_4 : (at : ℕ) (xs : List ℕ) → AreBytes xs → at + 4 ≤ length xs → to_be_bytes w32 (number w32 at xs) ≡ take 4 (drop at xs)
unfolding number
read_4 at xs bytes long = be_bytes_4 (take 4 (drop at xs)) (from_be_bytes w32 (take 4 (drop at xs))) (length_piece at 4 xs long) (AreBytes_piece at 4 xs bytes) refl

pub read_8 : (at : ℕ) (xs : List ℕ) → AreBytes xs → at + 8 ≤ length xs → to_be_bytes w64 (number w64 at xs) ≡ take 8 (drop at xs)
unfolding number
read_8 at xs bytes long = be_bytes_8 (take 8 (drop at xs)) (from_be_bytes w64 (take 8 (drop at xs))) (length_piece at 8 xs long) (AreBytes_piece at 8 xs bytes) refl

pub small_4 : (at : ℕ) (xs : List ℕ) → AreBytes xs → number w32 at xs < 2 ^ 32
unfolding number
small_4 at xs bytes = let b = AreBytes_piece at 4 xs bytes in omega (arith, b 0, b 1, b 2, b 3)

pub small_8 : (at : ℕ) (xs : List ℕ) → AreBytes xs → number w64 at xs < 2 ^ 64
unfolding number
small_8 at xs bytes = let b = AreBytes_piece at 8 xs bytes in omega (arith, b 0, b 1, b 2, b 3, b 4, b 5, b 6, b 7)
