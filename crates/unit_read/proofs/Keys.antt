-- The keywords that words begin with.
use Rattle.std.proofs.Common.{◌≡◌, ℕ, ◌≤◌, Bool, true, false, cond, List, [], ◌∷◌, ◌++◌, length, drop, Some, refl, ap, ◌∙◌, arith, length-append}
use Rattle.std.specs.Prelude.{◌==◌, ◌||◌}
use Rattle.kd_base.specs.ToolsLaws.{find_passes, both_true}
use Rattle.unit_read.specs.declared.word.Word.{Word}
use Rattle.unit_read.specs.declared.word.Word.TheVariants.{Plain, Literal}
use Rattle.unit_read.specs.declared.key.Key.{Key}
use Rattle.unit_read.specs.declared.key.TheConstants.{KEYS}
use Rattle.unit_read.specs.Keys.{first_keyword, second_keyword, is_front, begins_with, key_of, keyword_count}
use Rattle.std.proofs.lemmas.Slice.Eq.{bytes_eq-Decides}

-- the words of the keywords
abbrev pub keyword_words : Key → List Word
keyword_words key = cond (length (second_keyword key) == 0) (Plain (first_keyword key) ∷ []) (Plain (first_keyword key) ∷ Plain (second_keyword key) ∷ [])

front_is : (ws : List Word) (wanted : List ℕ) → is_front ws wanted ≡ true → ws ≡ Plain wanted ∷ drop 1 ws
front_is [] wanted h = absurd cc
front_is (Plain word ∷ ws) wanted h = ap (λ (x : List ℕ). let w : Word = Plain x in w ∷ ws) ((bytes_eq-Decides word wanted).0 h)
front_is (Literal bytes ∷ ws) wanted h = absurd cc

drop_two : (ws : List Word) → drop 1 (drop 1 ws) ≡ drop 2 ws
drop_two [] = refl
drop_two (w ∷ []) = refl
drop_two (w ∷ v ∷ ws) = refl

by_second : (alone : Bool) (first second : List ℕ) (ws : List Word) → is_front ws first ≡ true → (alone || is_front (drop 1 ws) second) ≡ true
    → ws ≡ cond alone (Plain first ∷ []) (Plain first ∷ Plain second ∷ []) ++ drop (cond alone 1 2) ws
by_second true first second ws h k = front_is ws first h
by_second false first second ws h k =
    front_is ws first h ∙ ap (λ (x : List Word). let w : Word = Plain first in w ∷ x) (front_is (drop 1 ws) second k ∙ ap (λ (x : List Word). let w : Word = Plain second in w ∷ x) (drop_two ws))

pub keywords_in_front : (ws : List Word) (key : Key) → key_of ws ≡ Some key → ws ≡ keyword_words key ++ drop (keyword_count key) ws
keywords_in_front ws key e =
    let h = both_true (is_front ws (first_keyword key)) (length (second_keyword key) == 0 || is_front (drop 1 ws) (second_keyword key)) (find_passes (begins_with ws) KEYS key e) in
    by_second (length (second_keyword key) == 0) (first_keyword key) (second_keyword key) ws h.0 h.1

count_is : (alone : Bool) (v w : Word) → length (cond alone (v ∷ []) (v ∷ w ∷ [])) ≡ cond alone 1 2
count_is true v w = refl
count_is false v w = refl

pub key_fits : (ws : List Word) (key : Key) → key_of ws ≡ Some key → keyword_count key ≤ length ws
key_fits ws key e =
    omega (arith, ap length (keywords_in_front ws key e), length-append (keyword_words key) (drop (keyword_count key) ws), count_is (length (second_keyword key) == 0) (Plain (first_keyword key)) (Plain (second_keyword key)))
