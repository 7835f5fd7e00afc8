-- Results that fit a field, and those that do not.
use Rattle.std.proofs.Common.{◌≡◌, ◌≢◌, ℕ, zero, suc, ◌+◌, ◌-◌, ◌*◌, ◌/◌, ◌%◌, ◌^◌, ◌≤◌, ◌<◌, true, inl, inr, min, nat_lt, List, [], ◌∷◌, ◌++◌, length, take, replicate, refl, arith, sym, ◌∙◌, ap}
use Rattle.std.proofs.Common.{append_assoc, length-take, add-one, Option, Some, None}
use Rattle.std.specs.Prelude.{option_and_then}
use Rattle.std.proofs.lemmas.Bool.{cases_Bool, cases_lt, le-ltb}
use Rattle.std.proofs.lemmas.Bool.Decides.{nat_tests}
use Rattle.std.proofs.lemmas.List.{append-nil, replicate-append-replicate, take_at}
use Rattle.std.proofs.Math.Nat.{add-suc, add-zero, pow-zero, pow-suc, pow-le-pow_right, div-eq_of_lt, div-div-eq-div-mul, lt-div-mul-add}
use Rattle.abstract_monitor.specs.Contents.{in_digits, number_in, fitted}
use Rattle.abstract_monitor.specs.Statement.{calculated}
use Rattle.kdcs_types.specs.declared.run_state.RunState.{RunState}
use Rattle.application_types.specs.declared.unit_types.unit.Field.{Field}
use Rattle.abstract_monitor.specs.Fields.{written}
use Rattle.service_parts.specs.Calculation.{limited, with_result}
use Rattle.service_parts.proofs.unit_step.Writing.{fits_as_it_is}
use Rattle.abstract_monitor.specs.ContentsLaws.{length_in_digits}

-- ---- what 64 bits hold

ten_digits : (len : ℕ) → 10 ^ min len 18 ≤ 10 ^ 18
ten_digits len =
    let p : 0 < 10 = omega arith in
    let q : min len 18 ≤ 18 = omega arith in
    pow-le-pow_right {n = 10} p {i = min len 18} {j = 18} q

too_large : (len n : ℕ) → 2 ^ 64 ≤ n → number_in len n ≡ None
unfolding number_in
too_large len n h =
    let fits : 10 ^ min len 18 ≤ n = omega (arith, ten_digits len) in
    rw (le-ltb n (10 ^ min len 18) fits) refl

pub limited_none : (len : ℕ) (o : Option ℕ) → limited o ≡ None → option_and_then (number_in len) o ≡ None
limited_none len None e = refl
limited_none len (Some m) e =
    elim (cases_Bool (nat_lt m (2 ^ 64))) [
      | inl h ↦ absurd (cc (rw h at e))
      | inr h ↦ too_large len m (grind (arith, nat_tests))
    ]

pub no_result : (len : ℕ) (calculation : ℕ → ℕ → Option ℕ) (x y : Option ℕ) (a b : ℕ) → x ≡ Some a → y ≡ Some b → limited (calculation a b) ≡ None → calculated len calculation x y ≡ None
no_result len calculation x y a b x_is y_is none = rw (x_is, y_is) (limited_none len (calculation a b) none)

-- ---- numbers in a field

ten_pos : (k : ℕ) → 0 < 10 ^ k
ten_pos zero = omega (arith, pow-zero 10)
ten_pos (suc k) = omega (arith, pow-suc 10 k, ten_pos k)

below_power : (n k : ℕ) → n / 10 ^ k ≡ 0 → n < 10 ^ k
below_power n k none =
    let lt : n < n / 10 ^ k * 10 ^ k + 10 ^ k = lt-div-mul-add (ten_pos k) in
    let at_most : n < 0 * 10 ^ k + 10 ^ k = rw none at lt in
    omega arith

number_none : (len n k : ℕ) → k ≡ min len 18 → n / 10 ^ k ≢ 0 → number_in len n ≡ None
unfolding number_in
number_none len n k e more =
    rw (sym e)
    (elim (cases_lt n (10 ^ k)) [
      | inl h ↦ absurd (more (div-eq_of_lt h))
      | inr h ↦ rw (le-ltb n (10 ^ k) h) refl
    ])

number_some : (len n k : ℕ) → k ≡ min len 18 → n / 10 ^ k ≡ 0 → number_in len n ≡ Some (in_digits len n)
unfolding number_in
number_some len n k e none =
    let h : n < 10 ^ k = below_power n k none in
    let test : nat_lt n (10 ^ k) ≡ true = grind (arith, nat_tests) in
    rw (sym e, test) refl

abbrev zero_digit : ℕ
zero_digit = 48

zeros_more : (j : ℕ) → replicate j zero_digit ++ zero_digit ∷ [] ≡ replicate (suc j) zero_digit
zeros_more j = replicate-append-replicate j 1 zero_digit ∙ ap (λ (n : ℕ). replicate n zero_digit) (add-one j)

no_digits : (j : ℕ) → in_digits j 0 ≡ replicate j zero_digit
unfolding in_digits
no_digits zero = refl
no_digits (suc j) = ap (λ (x : List ℕ). x ++ zero_digit ∷ []) (no_digits j) ∙ zeros_more j

-- the digits before the last k are zeros, where the number has no more
leading_zeros : (j k n : ℕ) → n / 10 ^ k ≡ 0 → in_digits (j + k) n ≡ replicate j zero_digit ++ in_digits k n
unfolding in_digits
leading_zeros j zero n none =
    let small : n < 10 ^ 0 = below_power n 0 none in
    let is : n ≡ 0 = omega (arith, pow-zero 10) in
    rw (add-zero, append-nil, is) (no_digits j)
leading_zeros j (suc k) n none =
    let ten : 10 * 10 ^ k ≡ 10 ^ suc k = omega (arith, pow-suc 10 k) in
    let fewer : n / 10 / 10 ^ k ≡ 0 = div-div-eq-div-mul n 10 (10 ^ k) ∙ ap (λ (x : ℕ). n / x) ten ∙ none in
    rw add-suc
    (ap (λ (x : List ℕ). x ++ (48 + n % 10) ∷ []) (leading_zeros j k (n / 10) fewer) ∙ append_assoc (replicate j zero_digit) (in_digits k (n / 10)) ((48 + n % 10) ∷ []))

whole_digits : (len n k : ℕ) → k ≤ len → n / 10 ^ k ≡ 0 → replicate (len - k) zero_digit ++ in_digits k n ≡ in_digits len n
whole_digits len n k h none =
    let e : len - k + k ≡ len = omega arith in
    sym (leading_zeros (len - k) k n none) ∙ ap (λ (m : ℕ). in_digits m n) e

-- the number has too many digits
pub refused : (len n m left : ℕ) (cells : List ℕ) → length cells ≡ 18 → m ≡ min len 18 → left ≡ n / 10 ^ length (take m cells) → left ≢ 0 → number_in len n ≡ None
refused len n m left cells bounded is left_is more =
    let k : length (take m cells) ≡ min len 18 = omega (arith, length-take m cells) in
    number_none len n (length (take m cells)) k (λ e. more (left_is ∙ e))

-- the number fits
pub fits : (len n m left : ℕ) (cells : List ℕ) → length cells ≡ 18 → m ≡ min len 18 → left ≡ n / 10 ^ length (take m cells) → left ≡ 0 → number_in len n ≡ Some (in_digits len n)
fits len n m left cells bounded is left_is none =
    let k : length (take m cells) ≡ min len 18 = omega (arith, length-take m cells) in
    number_some len n (length (take m cells)) k (sym left_is ∙ none)

-- and its digits with zeros before them fill the field
pub gets_number : (run : RunState) (f : Field) (n m left : ℕ) (cells digits : List ℕ) → length cells ≡ 18 → m ≡ min f.length 18 → left ≡ n / 10 ^ length (take m cells) → left ≡ 0 → digits ≡ in_digits (length (take m cells)) n → written run f.spab f.offset (replicate (f.length - length digits) zero_digit ++ digits) ≡ with_result run f (number_in f.length n)
gets_number run f n m left cells digits bounded is left_is none digits_are =
    let k = length (take m cells) in
    let short : k ≤ f.length = omega (arith, length-take m cells) in
    let count : length digits ≡ k = ap length digits_are ∙ length_in_digits k n in
    let all : replicate (f.length - length digits) zero_digit ++ digits ≡ in_digits f.length n =
    ap (λ (x : ℕ). replicate (f.length - x) zero_digit ++ digits) count ∙ ap (λ (x : List ℕ). replicate (f.length - k) zero_digit ++ x) digits_are ∙ whole_digits f.length n k short (sym left_is ∙ none) in
    let same : fitted f.length (in_digits f.length n) ≡ in_digits f.length n = fits_as_it_is f.length (in_digits f.length n) (length_in_digits f.length n) in
    rw (fits f.length n m left cells bounded is left_is none) (ap (λ (x : List ℕ). written run f.spab f.offset x) (all ∙ sym same))

-- five digits in eight cells
pub five_fit : (n len : ℕ) (digits rest : List ℕ) → len ≡ 5 → digits ≡ in_digits len n → take 5 (digits ++ rest) ≡ in_digits 5 n
five_fit n len digits rest five is =
    let e : digits ≡ in_digits 5 n = is ∙ ap (λ (k : ℕ). in_digits k n) five in
    rw e (take_at (in_digits 5 n) rest 5 (length_in_digits 5 n))
