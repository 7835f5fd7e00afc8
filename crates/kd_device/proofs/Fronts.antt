-- Bytes with zero bytes at their end.
use Rattle.std.proofs.Common.{◌≡◌, ℕ, ◌+◌, ◌-◌, ◌≤◌, List, ◌++◌, length, take, drop, get_or, ap, sym, ◌∙◌, arith, append_assoc}
use Rattle.std.specs.Prelude.{replicate}
use Rattle.std.proofs.lemmas.List.{take-append-drop, take-take, drop-take, length-take-le, length-drop, length-replicate, get_or-replicate, get_or_default, same_lists, replicate-append-replicate}

all_zero : (ys : List ℕ) (n : ℕ) → length ys ≡ n → ((k : ℕ) → get_or ys k 0 ≤ 0) → ys ≡ replicate n 0
all_zero ys n long none =
    same_lists ys (replicate n 0) (long ∙ sym (length-replicate n 0))
    (λ k d lt.
    let zero : get_or ys k 0 ≡ 0 = omega (arith, none k) in
    get_or_default ys k d 0 lt ∙ zero ∙ sym (get_or-replicate n k 0 d (omega (arith, lt, long))))

-- the last part of the front is zero too
pub front_less : (xs : List ℕ) (len half : ℕ) → half ≤ len → len ≤ length xs → xs ≡ take len xs ++ replicate (length xs - len) 0 → ((k : ℕ) → get_or (take (len - half) (drop half xs)) k 0 ≤ 0) → xs ≡ take half xs ++ replicate (length xs - half) 0
front_less xs len half le within zeros none =
    let part : List ℕ = take (len - half) (drop half xs) in
    let long : length part ≡ len - half = length-take-le (len - half) (drop half xs) (omega (arith, le, within, length-drop half xs)) in
    let sum : half + (len - half) ≡ len = omega (arith, le) in
    let all : len - half + (length xs - len) ≡ length xs - half = omega (arith, le, within) in
    let parts : take half xs ++ part ≡ take len xs =
    ap (λ (l : List ℕ). l ++ part) (sym (take-take half len xs le))
    ∙ ap (λ (l : List ℕ). take half (take len xs) ++ l) (sym (drop-take half (len - half) xs) ∙ ap (λ (n : ℕ). drop half (take n xs)) sum)
    ∙ take-append-drop half (take len xs) in
    zeros
    ∙ ap (λ (l : List ℕ). l ++ replicate (length xs - len) 0) (sym parts ∙ ap (λ (l : List ℕ). take half xs ++ l) (all_zero part (len - half) long none))
    ∙ append_assoc (take half xs) (replicate (len - half) 0) (replicate (length xs - len) 0)
    ∙ ap (λ (l : List ℕ). take half xs ++ l) (replicate-append-replicate (len - half) (length xs - len) 0 ∙ ap (λ (n : ℕ). replicate n 0) all)
