-- Laws: how long the digits of a number are.
use Rattle.std.specs.Prelude.{◌≡◌, ℕ, zero, suc, ◌+◌, ◌/◌, ◌%◌, [], ◌∷◌, length, refl}
use Rattle.std.proofs.Common.{arith, length-append}
use Rattle.abstract_monitor.specs.Contents.{in_digits}

pub length_in_digits : (k n : ℕ) → length (in_digits k n) ≡ k
unfolding in_digits
length_in_digits zero n = refl
length_in_digits (suc k) n = omega (arith, length-append (in_digits k (n / 10)) ((48 + n % 10) ∷ []), length_in_digits k (n / 10))
