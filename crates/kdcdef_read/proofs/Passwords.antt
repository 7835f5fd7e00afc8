-- A password, one byte after another.
use Rattle.std.proofs.Common.{◌≡◌, ℕ, ◌+◌, ◌<◌, List, [], ◌∷◌, ◌++◌, length, take, None, sym, ap, ◌∙◌, arith, append_assoc, length-append, length-take-le, set}
use Rattle.std.proofs.lemmas.Bool.Decides.{nat_tests}
use Rattle.std.proofs.lemmas.List.{take_more_set}
use Rattle.kdcdef_read.specs.Passwords.{password_of}

-- one more byte
pub byte_more : (cells left rest whole : List ℕ) (used byte : ℕ) → used < length cells → left ≡ byte ∷ rest → take used cells ++ left ≡ whole → take (used + 1) (set cells used byte) ++ rest ≡ whole
byte_more cells left rest whole used byte within is so_far =
    ap (λ (front : List ℕ). front ++ rest) (take_more_set cells used byte within)
    ∙ append_assoc (take used cells) (byte ∷ []) rest ∙ ap (λ (x : List ℕ). take used cells ++ x) (sym is) ∙ so_far

-- there is a byte behind 16
pub byte_too_many : (cells left rest whole : List ℕ) (byte : ℕ) → length cells ≡ 16 → left ≡ byte ∷ rest → take 16 cells ++ left ≡ whole → None ≡ password_of whole
byte_too_many cells left rest whole byte sixteen is so_far =
    let long : 16 < length whole = omega (arith, ap length so_far, length-append (take 16 cells) left, length-take-le 16 cells, ap length is) in
    grind (arith, nat_tests, long)
