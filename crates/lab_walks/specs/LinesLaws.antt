-- The lines of a text of whole lines, and of more behind it.
use Rattle.std.proofs.Common.{◌≡◌, ℕ, ◌≤◌, List, [], ◌∷◌, ◌++◌, length, inl, inr, refl, sym, ap, ◌∙◌, append_assoc, arith}
use Rattle.std.specs.Prelude.{Bool, true, false, ◌==◌, cond}
use Rattle.std.specs.List.{onto_first, slice_split}
use Rattle.std.specs.Str.Lines.{lines, lines_of_parts, strip_carriage_return}
use Rattle.std.proofs.lemmas.List.Splits.{length-slice_split}
use Rattle.abstract_monitor.specs.Bytes.{Bytes}
use Rattle.lab_walks.specs.Ahead.{IsWhole}
use Rattle.lab_walks.specs.Outcomes.{by_name, placed, placed_all}

-- the parts between newlines
abbrev parts : Bytes → List Bytes
parts text = slice_split (λ b. b == 10) text

some_parts : (text : Bytes) → 1 ≤ length (parts text)
some_parts text = omega (arith, length-slice_split (λ b. b == 10) text)

onto_both : (c : ℕ) (xs ys : List Bytes) → 1 ≤ length xs → onto_first c (xs ++ ys) ≡ onto_first c xs ++ ys
onto_both c [] ys some = absurd (omega (arith, some))
onto_both c (x ∷ xs) ys some = refl

parts_both : (front rest : Bytes) → parts (front ++ 10 ∷ rest) ≡ parts front ++ parts rest
parts_both [] rest = refl
parts_both (c ∷ front) rest = ap (λ (l : List Bytes). cond (c == 10) ([] ∷ l) (onto_first c l)) (parts_both front rest) ∙ by (c == 10)
  where
    by : (b : Bool) → cond b ([] ∷ parts front ++ parts rest) (onto_first c (parts front ++ parts rest)) ≡ cond b ([] ∷ parts front) (onto_first c (parts front)) ++ parts rest
    by true = refl
    by false = onto_both c (parts front) (parts rest) (some_parts front)

line_then : (x : Bytes) (ys : List Bytes) → 1 ≤ length ys → lines_of_parts (x ∷ ys) ≡ strip_carriage_return x ∷ lines_of_parts ys
line_then x [] some = absurd (omega (arith, some))
line_then x (y ∷ ys) some = refl

-- the last part of a text of whole lines is empty, and no line
over_parts : (xs ys : List Bytes) → 1 ≤ length ys → lines_of_parts (xs ++ ys) ≡ lines_of_parts (xs ++ [] ∷ []) ++ lines_of_parts ys
over_parts [] ys some = refl
over_parts (x ∷ []) ys some = line_then x ys some
over_parts (x ∷ y ∷ xs) ys some = ap (λ (l : List Bytes). strip_carriage_return x ∷ l) (over_parts (y ∷ xs) ys some)

pub lines_both : (text rest : Bytes) → IsWhole text → lines (text ++ rest) ≡ lines text ++ lines rest
lines_both text rest (inl none) = (λ i. lines (none i ++ rest)) ∙ ap (λ (t : Bytes). lines t ++ lines rest) (sym none)
lines_both text rest (inr (front, is)) =
    ap lines (ap (λ (t : Bytes). t ++ rest) is ∙ append_assoc front (10 ∷ []) rest)
    ∙ ap lines_of_parts (parts_both front rest)
    ∙ over_parts (parts front) (parts rest) (some_parts rest)
    ∙ ap (λ (l : List Bytes). l ++ lines rest) (ap lines_of_parts (sym (parts_both front [])) ∙ ap lines (sym is))

pub placed_both : (others xs ys : List Bytes) → placed_all others (xs ++ ys) ≡ placed_all (placed_all others xs) ys
unfolding placed_all
placed_both others [] ys = refl
placed_both others (x ∷ xs) ys = placed_both (placed x others) xs ys

pub by_name_both : (text rest : Bytes) → IsWhole text → by_name (text ++ rest) ≡ placed_all (by_name text) (lines rest)
by_name_both text rest whole = ap (placed_all []) (lines_both text rest whole) ∙ placed_both [] (lines text) (lines rest)
