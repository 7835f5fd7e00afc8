-- The first word of a line, and words that are left.
use Rattle.std.specs.Prelude.{◌≡◌, refl, ℕ, false, ◌+◌, ◌-◌, ◌<◌, ◌≤◌, List, [], ◌∷◌, length, take, drop, None}
use Rattle.std.proofs.Common.{sym, ap, ◌∙◌, arith, length-drop}
use Rattle.std.specs.List.{position_or_len}
use Rattle.std.proofs.lemmas.List.{take_all}
use Rattle.std.proofs.lemmas.List.Elements.{All-from_get_or}
use Rattle.std.proofs.lemmas.List.Splits.{slice_split_none, slice_split_first, length-slice_split}
use Rattle.std.proofs.lemmas.List.Sums.{fails_before_first}
use Rattle.kd_base.specs.Text.{is_space}
use Rattle.kd_base.specs.ToolsLaws.{behind}
use Rattle.audit_trail.specs.Lines.{words, one, end_of}

pub last_word : (line front back : List ℕ) (n : ℕ) → n ≡ position_or_len is_space line → front ≡ take n line → back ≡ drop n line → length back ≡ 0 → words line ≡ front ∷ []
last_word line front back n is front_is back_is none =
    let long : length line ≤ n = omega (arith, length-drop n line, ap (λ (l : List ℕ). length l) back_is, none) in
    slice_split_none is_space line (All-from_get_or (λ b. is_space b ≡ false) line 0 (λ i lt. fails_before_first is_space line i 0 (omega (arith, is, long, lt))))
    ∙ ap (λ (w : List ℕ). w ∷ []) (sym (take_all n line long) ∙ sym front_is)

pub word_and_rest : (line front back : List ℕ) (n : ℕ) → n ≡ position_or_len is_space line → front ≡ take n line → back ≡ drop n line → 0 < length back → words line ≡ front ∷ words (take (length line - (n + 1)) (drop (n + 1) line))
word_and_rest line front back n is front_is back_is some =
    let lt : position_or_len is_space line < length line = omega (arith, length-drop n line, ap (λ (l : List ℕ). length l) back_is, some, is) in
    slice_split_first is_space line 0 lt
    ∙ (λ i. (ap (λ (m : ℕ). take m line) (sym is) ∙ sym front_is) i ∷ words ((ap (λ (m : ℕ). drop (m + 1) line) (sym is) ∙ sym (behind (n + 1) line)) i))

not_one : (w : List ℕ) (ws : List (List ℕ)) → 0 < length ws → one (w ∷ ws) ≡ None
not_one w [] some = absurd (omega (arith, some))
not_one w (v ∷ vs) some = refl

pub more_than_one : (w rest : List ℕ) → one (w ∷ words rest) ≡ None
more_than_one w rest = not_one w (words rest) (omega (arith, length-slice_split is_space rest))

not_ended : (ws : List (List ℕ)) → 0 < length ws → end_of ws ≡ None
not_ended [] some = absurd (omega (arith, some))
not_ended (v ∷ vs) some = refl

pub words_behind_end : (rest : List ℕ) → end_of (words rest) ≡ None
words_behind_end rest = not_ended (words rest) (omega (arith, length-slice_split is_space rest))
