-- The rows that go, after one more item, and of all lists together.
use Rattle.std.proofs.Common.{◌≡◌, sym, ap, ◌∙◌, append_assoc, ℕ, ◌+◌, ◌<◌, List, [], ◌∷◌, ◌++◌, length, get_or, take, map, filter}
use Rattle.std.specs.Prelude.{Bool}
use Rattle.std.proofs.lemmas.List.{map-append, take_more}
use Rattle.std.proofs.lemmas.List.Elements.{filter-append}
use Rattle.kdcs_types.specs.declared.act.Row.{Row}

module _ {E : Type 0} (row_of : E → Row) (goes : Row → Bool) (items : List E) (i : ℕ) (item : E) (within : i < length items) (read : item ≡ get_or items i item) where
  abbrev left : ℕ → List Row
  left n = filter goes (map row_of (take n items))

  one_more : left (i + 1) ≡ left i ++ filter goes (row_of item ∷ [])
  one_more =
      ap (λ (l : List E). filter goes (map row_of l)) (take_more items i item within ∙ ap (λ (e : E). take i items ++ e ∷ []) (sym read))
      ∙ ap (filter goes) (map-append row_of (take i items) (item ∷ []))
      ∙ filter-append goes (map row_of (take i items)) (row_of item ∷ [])

  pub more : (start gone next : List Row) → gone ≡ start ++ left i → next ≡ gone ++ filter goes (row_of item ∷ []) → next ≡ start ++ left (i + 1)
  more start gone next so_far step =
      step ∙ ap (λ (l : List Row). l ++ filter goes (row_of item ∷ [])) so_far
      ∙ append_assoc start (left i) (filter goes (row_of item ∷ []))
      ∙ ap (λ (l : List Row). start ++ l) (sym one_more)

-- one list more, as the tables have it
pub list_more : {E : Type 0} (row_of : E → Row) (goes : Row → Bool) (before after : List Row) (xs ys : List E) → after ≡ before ++ filter goes (map row_of xs) → xs ≡ ys → after ≡ before ++ filter goes (map row_of ys)
list_more {E} row_of goes before after xs ys step same = step ∙ ap (λ (l : List E). before ++ filter goes (map row_of l)) same

two_more : (goes : Row → Bool) (start a rest : List Row) → (start ++ filter goes a) ++ filter goes rest ≡ start ++ filter goes (a ++ rest)
two_more goes start a rest = append_assoc start (filter goes a) (filter goes rest) ∙ ap (λ (l : List Row). start ++ l) (sym (filter-append goes a rest))

-- all lists, one after another
pub all_gone : (goes : Row → Bool) (a b c d e f g0 g1 g2 g3 g4 g5 g6 : List Row) → g0 ≡ [] → g1 ≡ g0 ++ filter goes a → g2 ≡ g1 ++ filter goes b → g3 ≡ g2 ++ filter goes c → g4 ≡ g3 ++ filter goes d → g5 ≡ g4 ++ filter goes e → g6 ≡ g5 ++ filter goes f
    → g6 ≡ filter goes (a ++ (b ++ (c ++ (d ++ (e ++ f)))))
all_gone goes a b c d e f g0 g1 g2 g3 g4 g5 g6 none one two three four five six =
    six
    ∙ ap (λ (l : List Row). l ++ filter goes f) five ∙ two_more goes g4 e f
    ∙ ap (λ (l : List Row). l ++ filter goes (e ++ f)) four ∙ two_more goes g3 d (e ++ f)
    ∙ ap (λ (l : List Row). l ++ filter goes (d ++ (e ++ f))) three ∙ two_more goes g2 c (d ++ (e ++ f))
    ∙ ap (λ (l : List Row). l ++ filter goes (c ++ (d ++ (e ++ f)))) two ∙ two_more goes g1 b (c ++ (d ++ (e ++ f)))
    ∙ ap (λ (l : List Row). l ++ filter goes (b ++ (c ++ (d ++ (e ++ f))))) one ∙ two_more goes g0 a (b ++ (c ++ (d ++ (e ++ f))))
    ∙ ap (λ (l : List Row). l ++ filter goes (a ++ (b ++ (c ++ (d ++ (e ++ f)))))) none
