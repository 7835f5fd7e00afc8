-- The words of a line, one after another.
use Rattle.std.proofs.Common.{◌≡◌, ℕ, ◌+◌, ◌<◌, ◌≤◌, inl, inr, true, false, List, [], ◌∷◌, length, take, drop, get_or, refl, sym, ap, ◌∙◌, arith}
use Rattle.std.specs.Prelude.{filter, not, nat_lt}
use Rattle.std.specs.List.{slice_split, prefix_len, position_or_len, All}
use Rattle.std.proofs.lemmas.Bool.{cases_Bool, ltb-true, ltb-false}
use Rattle.std.proofs.lemmas.Bool.Decides.{nat_tests}
use Rattle.std.proofs.lemmas.List.{take_all, drop_all, drop_more, length-take-le, nil_from_length}
use Rattle.std.proofs.lemmas.List.Elements.{All-from_get_or}
use Rattle.std.proofs.lemmas.List.Splits.{slice_split_none, slice_split_first}
use Rattle.std.proofs.lemmas.List.Sums.{fails_before_first, passes_at_first, prefix_len-le-length}
use Rattle.kd_base.specs.Text.{is_space}
use Rattle.script_read.specs.Script.{words}
use Rattle.kd_base.specs.FrontsLaws.{one_add}

pub no_space : (b : ℕ) (line : List ℕ) → is_space b ≡ false → prefix_len is_space (b ∷ line) ≡ 0
no_space b line h = rw h refl

-- a space in front parts nothing
pub words_behind_space : (b : ℕ) (rest : List ℕ) → is_space b ≡ true → words (b ∷ rest) ≡ words rest
words_behind_space b rest h = rw h refl

pub words_behind_spaces : (line : List ℕ) → words (drop (prefix_len is_space line) line) ≡ words line
words_behind_spaces [] = refl
words_behind_spaces (b ∷ line) =
    elim (cases_Bool (is_space b)) [
      | inl h ↦ rw (h, one_add (prefix_len is_space line)) (words_behind_spaces line)
      | inr h ↦ ap (λ n. words (drop n (b ∷ line))) (no_space b line h)
    ]

pub behind_spaces : (line : List ℕ) → prefix_len is_space (drop (prefix_len is_space line) line) ≡ 0
behind_spaces [] = refl
behind_spaces (b ∷ line) =
    elim (cases_Bool (is_space b)) [
      | inl h ↦ rw (h, one_add (prefix_len is_space line)) (behind_spaces line)
      | inr h ↦ ap (λ n. prefix_len is_space (drop n (b ∷ line))) (no_space b line h) ∙ no_space b line h
    ]

pub word_stands : (front : List ℕ) → 0 < length front → prefix_len is_space front ≡ 0 → 0 < position_or_len is_space front
word_stands [] some none = absurd (omega arith)
word_stands (b ∷ rest) some none =
    elim (cases_Bool (is_space b)) [
      | inl h ↦ absurd (let n : 1 + prefix_len is_space rest ≡ 0 = rw h at none in omega (arith, n))
      | inr h ↦ rw h (omega arith)
    ]

pub kept : (word : List ℕ) (more : List (List ℕ)) → 0 < length word → filter (λ (w : List ℕ). nat_lt 0 (length w)) (word ∷ more) ≡ word ∷ filter (λ (w : List ℕ). nat_lt 0 (length w)) more
kept word more some = let t : nat_lt 0 (length word) ≡ true = grind (arith, nat_tests) in rw t refl

-- the bytes before the first space are the first word
word_before : (front : List ℕ) → 0 < position_or_len is_space front → position_or_len is_space front < length front → words front ≡ take (position_or_len is_space front) front ∷ words (drop (position_or_len is_space front) front)
word_before front some lt =
    let n = position_or_len is_space front in
    let long : length (take n front) ≡ n = length-take-le n front (omega arith) in
    ap (filter (λ (w : List ℕ). nat_lt 0 (length w))) (slice_split_first is_space front 0 lt)
    ∙ kept (take n front) (slice_split is_space (drop (n + 1) front)) (omega arith)
    ∙ ap (λ (ws : List (List ℕ)). take n front ∷ ws)
    (sym (ap words (drop_more front n 0 lt) ∙ words_behind_space (get_or front n 0) (drop (n + 1) front) (passes_at_first is_space front 0 lt)))

-- where no space stands, all is one word
pub one_word : (front : List ℕ) → 0 < length front → All (λ b. is_space b ≡ false) front → words front ≡ front ∷ []
one_word front some none =
    ap (filter (λ (w : List ℕ). nat_lt 0 (length w))) (slice_split_none is_space front none) ∙ kept front [] some

word_alone : (front : List ℕ) → 0 < length front → length front ≤ position_or_len is_space front → words front ≡ take (position_or_len is_space front) front ∷ words (drop (position_or_len is_space front) front)
word_alone front some le =
    let n = position_or_len is_space front in
    let none = All-from_get_or (λ b. is_space b ≡ false) front 0 (λ i lt. fails_before_first is_space front i 0 (omega arith)) in
    rw (take_all n front le, drop_all n front le) (one_word front some none)

pub first_word : (front : List ℕ) → 0 < length front → prefix_len is_space front ≡ 0 → words front ≡ take (position_or_len is_space front) front ∷ words (drop (position_or_len is_space front) front)
first_word front some none =
    let n = position_or_len is_space front in
    let stands = word_stands front some none in
    elim (cases_Bool (nat_lt n (length front))) [
      | inl h ↦ word_before front stands (ltb-true n (length front) h)
      | inr h ↦ word_alone front some (ltb-false n (length front) h)
    ]

-- ---- taking the next word

pub no_words : (line front : List ℕ) (n : ℕ) → n ≡ prefix_len is_space line → front ≡ drop n line → length front ≡ 0 → words line ≡ []
no_words line front n e at none =
    sym (words_behind_spaces line)
    ∙ ap (λ (m : ℕ). words (drop m line)) (sym e)
    ∙ ap words (sym at)
    ∙ ap words (nil_from_length front none)

-- after the spaces, the bytes before the next space are a word
pub record IsNextWord (line word rest : List ℕ) : Type 0 where
  pub words : words line ≡ word ∷ words rest
  pub some : 0 < length word

pub word_there : (line front : List ℕ) → front ≡ drop (prefix_len is_space line) line → 0 < length front → IsNextWord line (take (position_or_len is_space front) front) (drop (position_or_len is_space front) front)
word_there line front at some =
    let n = position_or_len is_space front in
    let none : prefix_len is_space front ≡ 0 = ap (prefix_len is_space) at ∙ behind_spaces line in
    let stands = word_stands front some none in
    let within = prefix_len-le-length (λ b. not (is_space b)) front in
    record {
      words = sym (words_behind_spaces line) ∙ ap words (sym at) ∙ first_word front some none;
      some = omega (arith, length-take-le n front within);
    }

pub next_word : (line front word rest : List ℕ) (n m : ℕ) → n ≡ prefix_len is_space line → front ≡ drop n line → 0 < length front → m ≡ position_or_len is_space front → word ≡ take m front → rest ≡ drop m front → IsNextWord line word rest
next_word line front word rest n m e at some f is behind =
    let there = word_there line front (at ∙ ap (λ (k : ℕ). drop k line) e) some in
    rw (is, behind, f) there
