-- Line feeds, and the first line of a text.
use Rattle.std.proofs.Common.{◌≡◌, ◌==◌, ℕ, ◌+◌, ◌<◌, ◌≤◌, Bool, true, false, cond, List, [], ◌∷◌, length, take, drop, refl, ap, ◌∙◌, arith}
use Rattle.std.specs.List.{slice_split, onto_first, position_or_len, before_first, after_first}
use Rattle.std.specs.Str.Lines.{lines, lines_of_parts, strip_carriage_return}
use Rattle.std.proofs.lemmas.List.Elements.{All-from_get_or}
use Rattle.std.proofs.lemmas.List.Splits.{slice_split_none, slice_split_first}
use Rattle.std.proofs.lemmas.List.Sums.{fails_before_first}

abbrev pub is_line_feed : ℕ → Bool
is_line_feed b = b == 10

-- where another part follows, the first is a line
onto : (line : List ℕ) (b : ℕ) (parts : List (List ℕ)) → lines_of_parts (line ∷ onto_first b parts) ≡ strip_carriage_return line ∷ lines_of_parts (onto_first b parts)
onto line b [] = refl
onto line b (part ∷ parts) = refl

chosen : (line : List ℕ) (test : Bool) (b : ℕ) (parts : List (List ℕ)) → lines_of_parts (line ∷ cond test ([] ∷ parts) (onto_first b parts)) ≡ strip_carriage_return line ∷ lines_of_parts (cond test ([] ∷ parts) (onto_first b parts))
chosen line true b parts = refl
chosen line false b parts = onto line b parts

goes_on : (line rest : List ℕ) → lines_of_parts (line ∷ slice_split is_line_feed rest) ≡ strip_carriage_return line ∷ lines rest
goes_on line [] = refl
goes_on line (b ∷ rest) = chosen line (is_line_feed b) b (slice_split is_line_feed rest)

pub first_line : (text : List ℕ) → position_or_len is_line_feed text < length text → lines text ≡ strip_carriage_return (take (position_or_len is_line_feed text) text) ∷ lines (drop (position_or_len is_line_feed text + 1) text)
first_line text lt = ap lines_of_parts (slice_split_first is_line_feed text 0 lt) ∙ goes_on (before_first is_line_feed text) (after_first is_line_feed text)

pub last_line : (text : List ℕ) → 0 < length text → length text ≤ position_or_len is_line_feed text → lines text ≡ text ∷ []
last_line text long le =
    let none = All-from_get_or (λ b. is_line_feed b ≡ false) text 0 (λ i lt. fails_before_first is_line_feed text i 0 (omega arith)) in
    ap lines_of_parts (slice_split_none is_line_feed text none) ∙ grind arith
