-- What digits say where a number of a range is wanted.
use Rattle.std.proofs.Common.{◌≡◌, inl, inr, ℕ, ◌≤◌, Bool, true, false, ◌&&◌, List, [], ◌∷◌, length, refl, sym, ap, ◌∙◌, arith}
use Rattle.std.specs.Prelude.{IsTrue, not, nat_le, nat_lt}
use Rattle.std.specs.List.{list_all, All}
use Rattle.std.proofs.lemmas.Bool.{cases_Bool, ltb-true, le-leb}
use Rattle.std.proofs.lemmas.Bool.Decides.{nat_tests}
use Rattle.std.proofs.lemmas.List.Elements.{All-nil, All-cons}
use Rattle.kd_base.specs.Text.{is_space, is_digit, decimal_value}
use Rattle.kd_base.specs.ToolsLaws.{both_true, true_both}
use Rattle.script_read.specs.Script.{Line, Says, IsOutOfRange, is_count, number_in, number_by, numbered}
use Rattle.script_read.specs.Spelling.{IsNumber}
use Rattle.script_read.proofs.Parted.{IsWord}

-- bytes that pass a test which no space passes
pub no_spaces : (test : ℕ → Bool) → ((b : ℕ) → test b ≡ true → is_space b ≡ false) → (word : List ℕ) → list_all test word ≡ true → All (λ b. is_space b ≡ false) word
no_spaces test none [] h = All-nil (λ b. is_space b ≡ false)
no_spaces test none (b ∷ word) h =
    let e = both_true (test b) (list_all test word) h in
    All-cons (λ b. is_space b ≡ false) b word (none b e.0) (no_spaces test none word e.1)

-- a word, by a test that computes
pub word_of : (word : List ℕ) → (nat_lt 0 (length word) && list_all (λ b. not (is_space b)) word) ≡ true → IsWord word
word_of word h =
    let e = both_true (nat_lt 0 (length word)) (list_all (λ b. not (is_space b)) word) h in
    record { some = ltb-true 0 (length word) e.0; none = no_spaces (λ b. not (is_space b)) (λ b k. not_true (is_space b) k) word e.1 }
  where
    not_true : (b : Bool) → not b ≡ true → b ≡ false
    not_true true k = absurd cc
    not_true false k = refl

no_space : (b : ℕ) → is_digit b ≡ true → is_space b ≡ false
no_space b h = grind (arith, nat_tests)

pub digits_word : (digits : List ℕ) → 1 ≤ length digits → IsTrue (list_all is_digit digits) → IsWord digits
digits_word digits some h = record { some = omega arith; none = no_spaces is_digit no_space digits h }

le_so : (m n : ℕ) → nat_le m n ≡ true → m ≤ n
le_so m n h = grind (arith, nat_tests)

counted : (low high : ℕ) (digits : List ℕ) → length digits ≤ 18 → low ≤ decimal_value digits → decimal_value digits ≤ high → is_count low high digits ≡ true
counted low high digits few above below =
    true_both (nat_le (length digits) 18) (nat_le low (decimal_value digits) && nat_le (decimal_value digits) high) (le-leb (length digits) 18 few)
    (true_both (nat_le low (decimal_value digits)) (nat_le (decimal_value digits) high) (le-leb low (decimal_value digits) above) (le-leb (decimal_value digits) high below))

counts_so : (low high : ℕ) (digits : List ℕ) → 1 ≤ length digits → list_all is_digit digits ≡ true → is_count low high digits ≡ true → IsNumber low high (decimal_value digits) digits
counts_so low high digits some all h =
    let few = both_true (nat_le (length digits) 18) (nat_le low (decimal_value digits) && nat_le (decimal_value digits) high) h in
    let range = both_true (nat_le low (decimal_value digits)) (nat_le (decimal_value digits) high) few.1 in
    record {
      some = some;
      few = le_so (length digits) 18 few.0;
      all_digits = all;
      value = refl;
      range = (le_so low (decimal_value digits) range.0, le_so (decimal_value digits) high range.1);
    }

pub number_said : (low high n : ℕ) (digits : List ℕ) → IsNumber low high n digits → numbered low high digits ≡ Says n
number_said low high n digits is =
    let value = is.value in
    let range = is.range in
    ap (λ (all : Bool). number_by all low high digits) is.all_digits
    ∙ ap (λ (count : Bool). number_in count (decimal_value digits)) (counted low high digits is.few (omega arith) (omega arith))
    ∙ ap (λ (m : ℕ). let line : Line ℕ = Says m in line) (sym value)

pub outside_said : (low high : ℕ) (digits : List ℕ) → 1 ≤ length digits → IsTrue (list_all is_digit digits) → ((n : ℕ) → IsNumber low high n digits → ⊥) → numbered low high digits ≡ IsOutOfRange
outside_said low high digits some all none =
    ap (λ (d : Bool). number_by d low high digits) all
    ∙ elim (cases_Bool (is_count low high digits)) [
      | inl h ↦ absurd (none (decimal_value digits) (counts_so low high digits some all h))
      | inr h ↦ ap (λ (count : Bool). number_in count (decimal_value digits)) h
    ]

-- ---- and nothing else

said_as : (count : Bool) (v n : ℕ) → number_in count v ≡ Says n → (count ≡ true) × (n ≡ v)
said_as true v n h = (refl, cc)
said_as false v n h = absurd cc

said_by : (all : Bool) (low high n : ℕ) (word : List ℕ) → number_by all low high word ≡ Says n → (all ≡ true) × (is_count low high word ≡ true) × (n ≡ decimal_value word)
said_by true low high n word h = let s = said_as (is_count low high word) (decimal_value word) n h in (refl, s.0, s.1)
said_by false low high n word h = absurd cc

pub number_only : (low high n : ℕ) (word : List ℕ) → 1 ≤ length word → numbered low high word ≡ Says n → IsNumber low high n word
number_only low high n word some h =
    let s = said_by (list_all is_digit word) low high n word h in
    let is = counts_so low high word some s.0 s.1 in
    let value = s.2 in
    let range = is.range in
    record { some = some; few = is.few; all_digits = s.0; value = value; range = (omega arith, omega arith) }

out_as : (count : Bool) (v : ℕ) → number_in count v ≡ IsOutOfRange → count ≡ false
out_as true v h = absurd cc
out_as false v h = refl

out_by : (all : Bool) (low high : ℕ) (word : List ℕ) → number_by all low high word ≡ IsOutOfRange → (all ≡ true) × (is_count low high word ≡ false)
out_by true low high word h = (refl, out_as (is_count low high word) (decimal_value word) h)
out_by false low high word h = absurd cc

-- digits that are no number of the range
pub record AreOutside (low high : ℕ) (word : List ℕ) : Type 0 where
  pub all_digits : IsTrue (list_all is_digit word)
  pub outside : (n : ℕ) → IsNumber low high n word → ⊥

pub outside_only : (low high : ℕ) (word : List ℕ) → numbered low high word ≡ IsOutOfRange → AreOutside low high word
outside_only low high word h =
    let o = out_by (list_all is_digit word) low high word h in
    record {
      all_digits = o.0;
      outside =
          λ n is.
          let value = is.value in
          let range = is.range in
          let count = counted low high word is.few (omega arith) (omega arith) in
          let differ = sym count ∙ o.1 in
          cc;
    }
