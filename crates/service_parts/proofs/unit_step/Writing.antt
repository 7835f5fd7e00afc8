-- Bytes put over others, one piece after another.
use Rattle.std.proofs.Common.{◌≡◌, ℕ, ◌+◌, ◌-◌, ◌≤◌, inl, inr, min, List, ◌++◌, length, take, drop, replicate, arith, sym, ◌∙◌, ap, append_assoc, length-append, length-take}
use Rattle.std.proofs.lemmas.List.{take_at, drop_at, drop-drop, take-append-le, take_all, length-replicate, append-nil}
use Rattle.std.proofs.lemmas.Bool.{cases_lt}
use Rattle.abstract_monitor.specs.Contents.{fitted, overlaid}

-- a piece is put after the one before
pub one_behind : (at : ℕ) (a b under : List ℕ) → at + length a + length b ≤ length under → overlaid (at + length a) b (overlaid at a under) ≡ overlaid at (a ++ b) under
unfolding overlaid
one_behind at a b under bounded =
    let front = take at under ++ a in
    let len : length front ≡ at + length a = omega (arith, length-append (take at under) a, length-take at under) in
    let rest = drop (at + length a) under in
    let dropped : drop (at + length a + length b) (front ++ rest) ≡ drop (at + length (a ++ b)) under =
    sym (drop-drop (length b) (at + length a) (front ++ rest)) ∙ ap (λ (x : List ℕ). drop (length b) x) (drop_at front rest (at + length a) len) ∙ drop-drop (length b) (at + length a) under
    ∙ ap (λ (n : ℕ). drop n under) (omega (arith, length-append a b)) in
    rw (take_at front rest (at + length a) len, dropped) (ap (λ (x : List ℕ). x ++ drop (at + length (a ++ b)) under) (append_assoc (take at under) a b))

pub fits_whole : (count : ℕ) (bytes : List ℕ) → length bytes ≤ count → fitted count bytes ≡ bytes ++ replicate (count - length bytes) 32
unfolding fitted
fits_whole count bytes h =
    take_all count (bytes ++ replicate (count - length bytes) 32) (omega (arith, length-append bytes (replicate (count - length bytes) 32), length-replicate {A = ℕ} (count - length bytes) 32))

pub is_cut : (count : ℕ) (bytes : List ℕ) → count ≤ length bytes → fitted count bytes ≡ take count bytes
unfolding fitted
is_cut count bytes h = take-append-le count bytes (replicate (count - length bytes) 32) h

pub fits_as_it_is : (count : ℕ) (bytes : List ℕ) → length bytes ≡ count → fitted count bytes ≡ bytes
fits_as_it_is count bytes e =
    let none : count - length bytes ≡ 0 = omega arith in
    fits_whole count bytes (omega arith) ∙ rw none (append-nil bytes)

-- a front of the bytes, and spaces
pub fitted_is : (count m : ℕ) (bytes : List ℕ) → m ≡ min (length bytes) count → take m bytes ++ replicate (count - length (take m bytes)) 32 ≡ fitted count bytes
fitted_is count m bytes e =
    elim (cases_lt (length bytes) count) [
      | inl h ↦
          let whole : take m bytes ≡ bytes = take_all m bytes (omega arith) in
          rw whole (sym (fits_whole count bytes (omega arith)))
      | inr h ↦
          let is : m ≡ count = omega arith in
          let none : count - length (take count bytes) ≡ 0 = omega (arith, length-take count bytes) in
          rw (is, none) (append-nil (take count bytes) ∙ sym (is_cut count bytes h))
    ]

-- bytes are put, and spaces after them
pub put_and_filled : (at count m : ℕ) (bytes area put all : List ℕ) → m ≡ min (length bytes) count → at + count ≤ length area → put ≡ take at area ++ take m bytes ++ drop (at + length (take m bytes)) area → all ≡ take (at + length (take m bytes)) put ++ replicate (count - length (take m bytes)) 32 ++ drop (at + length (take m bytes) + (count - length (take m bytes))) put → all ≡ overlaid at (fitted count bytes) area
unfolding overlaid
put_and_filled at count m bytes area put all e bounded first second =
    let front = take m bytes in
    let spaces = replicate (count - length front) 32 in
    let len : length spaces ≡ count - length front = length-replicate (count - length front) 32 in
    let fits : at + length front + length spaces ≤ length area = omega (arith, length-take m bytes) in
    second ∙ ap (λ (n : ℕ). take (at + length front) put ++ spaces ++ drop (at + length front + n) put) (sym len)
    ∙ ap (λ (x : List ℕ). overlaid (at + length front) spaces x) first ∙ one_behind at front spaces area fits ∙ ap (λ (x : List ℕ). overlaid at x area) (fitted_is count m bytes e)

-- zeros are put, and digits after them
pub zeros_and_digits : (at count : ℕ) (digits area first all : List ℕ) → length digits ≤ count → at + count ≤ length area → first ≡ take at area ++ replicate (count - length digits) 48 ++ drop (at + (count - length digits)) area → all ≡ take (at + (count - length digits)) first ++ digits ++ drop (at + (count - length digits) + length digits) first → all ≡ overlaid at (replicate (count - length digits) 48 ++ digits) area
unfolding overlaid
zeros_and_digits at count digits area first all short bounded one two =
    let zeros = replicate (count - length digits) 48 in
    let len : length zeros ≡ count - length digits = length-replicate (count - length digits) 48 in
    let fits : at + length zeros + length digits ≤ length area = omega arith in
    let is_first : first ≡ overlaid at zeros area = one ∙ ap (λ (n : ℕ). take at area ++ zeros ++ drop (at + n) area) (sym len) in
    two ∙ ap (λ (n : ℕ). take (at + n) first ++ digits ++ drop (at + n + length digits) first) (sym len)
    ∙ ap (λ (x : List ℕ). overlaid (at + length zeros) digits x) is_first ∙ one_behind at zeros digits area fits
