-- The statements of a text are within the bounds: each line has a byte, and each operand has one.
use Rattle.std.proofs.Common.{◌≡◌, ℕ, zero, suc, ◌+◌, ◌-◌, ◌<◌, ◌≤◌, eqb, ltb, List, [], ◌∷◌, ◌++◌, length, take, drop, Some, None, Result, Ok, Err, sym, ap, ◌∙◌, arith, inl, inr, length-append}
use Rattle.std.proofs.Common.{length-drop, length-take-le}
use Rattle.std.specs.Prelude.{IfOk, slice_index}
use Rattle.std.specs.List.{position_or_len, suffix_len}
use Rattle.std.specs.Str.Lines.{lines, strip_carriage_return}
use Rattle.std.proofs.lemmas.Bool.{cases_Bool, ltb-false, ltb-true}
use Rattle.std.proofs.lemmas.List.{length-take}
use Rattle.texts.specs.declared.kdcdef_lex.fault.LexFault.{LexFault}
use Rattle.texts.specs.declared.kdcdef_lex.token.Token.{Token}
use Rattle.texts.specs.declared.kdcdef_lex.group.Group.{Group}
use Rattle.texts.specs.declared.kdcdef_lex.statement.RawStatement.{RawStatement}
use Rattle.texts.specs.Blanks.{is_blank}
use Rattle.texts.specs.Lines.{is_mark, up_to_last, continued}
use Rattle.texts.specs.Grammar.{written, AreTokens, IsStatement}
use Rattle.texts.specs.Spelling.{Joins, BeginsStatement, Cut, AllSay, SpellsStatements}
use Rattle.texts.specs.Bounds.{LinesUpTo, LinesFrom, operand_count, AreWithinBounds}
use Rattle.kd_base.specs.ToolsLaws.{chosen, some_is}
use Rattle.texts.specs.LinesLaws.{is_line_feed, first_line, last_line}
use Rattle.texts.proofs.kdcdef_lex.Words.{starts}
use Rattle.texts.proofs.kdcdef_lex.Parsed.{operands_fit}

-- the bytes of lines
total : List (List ℕ) → ℕ
total [] = 0
total (line ∷ lines) = length line + total lines

total_then : (a b : List (List ℕ)) → total (a ++ b) ≡ total a + total b
unfolding total
total_then [] b = omega arith
total_then (line ∷ a) b = omega (arith, total_then a b)

-- ---- lines

stripped : (line : List ℕ) → length (strip_carriage_return line) ≤ length line
stripped line =
    elim (cases_Bool (eqb (slice_index line (length line - 1)) 13)) [
      | inl h ↦ rw h (omega (arith, length-take (length line - 1) line))
      | inr h ↦ rw h (omega arith)
    ]

-- the lines of a text, and their bytes
abbrev LinesFit : List ℕ → Type 0
LinesFit text = (length (lines text) ≤ length text) × (total (lines text) ≤ length text)

lines_fit : (n : ℕ) (text : List ℕ) → length text ≤ n → LinesFit text
unfolding total
lines_fit zero [] le = (omega arith, omega arith)
lines_fit zero (b ∷ text) le = absurd (omega arith)
lines_fit (suc n) [] le = (omega arith, omega arith)
lines_fit (suc n) (b ∷ text) le =
    let all = b ∷ text in
    let p = position_or_len is_line_feed all in
    elim (cases_Bool (ltb p (length all))) [
      | inl h ↦
          let lt : p < length all = ltb-true p (length all) h in
          let cut = first_line all lt in
          let deep = lines_fit n (drop (p + 1) all) (omega (arith, length-drop (p + 1) all)) in
          let front : length (take p all) ≡ p = length-take-le p all (omega arith) in
          let one = stripped (take p all) in
          rw cut (omega (arith, deep.0, length-drop (p + 1) all), omega (arith, deep.1, length-drop (p + 1) all))
      | inr h ↦
          let one = last_line all (omega arith) (ltb-false p (length all) h) in
          rw one (omega arith, omega arith)
    ]

-- what a continued line gives is no longer than it
body_fits : (line body : List ℕ) → continued line ≡ Some body → length body ≤ length line
body_fits line body e =
    let text = up_to_last line in
    elim (chosen (is_mark (slice_index text (length text - 1))) (Some (take (length text - 1) text)) None (Some body) e) [
      | inl h ↦
          let same = ap length (some_is (take (length text - 1) text) body h.1) in
          omega (arith, length-take (length text - 1) text, length-take (length line - suffix_len is_blank line) line)
      | inr h ↦ absurd (cc h.1)
    ]

joined_fits : (own : List (List ℕ)) (text : List ℕ) → Joins own text → length text ≤ total own
unfolding total
joined_fits [] text h = absurd h
joined_fits (line ∷ []) text h = omega (arith, ap length h.1)
joined_fits (line ∷ next ∷ more) text h =
    omega (arith, ap length h.3, length-append h.0 h.1, body_fits line h.0 h.2, joined_fits (next ∷ more) h.1 h.4)

-- ---- operands

tokens_fit : (ts : List Token) (bytes : List ℕ) → AreTokens ts bytes → length ts ≤ length bytes
tokens_fit [] bytes h = omega arith
tokens_fit (t ∷ ts) bytes h =
    omega (arith, ap length h.2, length-append h.0 (written t ++ h.1), length-append (written t) h.1, (starts t h.1 h.4).1, tokens_fit ts h.1 h.6)

statement_fits : (s : RawStatement) (ts : List Token) (bytes : List ℕ) → AreTokens ts bytes → IsStatement s ts → length s.operands ≤ length bytes
statement_fits s ts bytes are h = omega (arith, tokens_fit ts bytes are, ap length h.1, operands_fit s.operands h.0 h.2)

-- ---- all statements

begun_some : (own : List (List ℕ)) → BeginsStatement own → 0 < length own
begun_some [] h = absurd h
begun_some (line ∷ own) h = omega arith

abbrev Fit : ℕ → ℕ → List (List ℕ) → List RawStatement → Type 0
Fit n last all ss = LinesUpTo last ss × (operand_count ss ≤ total all) × LinesFrom n ss

from_lower : (ss : List RawStatement) (a b : ℕ) → a ≤ b → LinesFrom b ss → LinesFrom a ss
from_lower [] a b le h = tt
from_lower (s ∷ ss) a b le h = (omega (arith, h.0), h.1)

say_fit : (gs : List Group) (ss : List RawStatement) (n last : ℕ) (all : List (List ℕ)) → Cut n all gs → AllSay gs ss → n + length all ≤ last + 1 → Fit n last all ss
say_fit [] [] n last all cut say bounded = (tt, omega arith, tt)
say_fit [] (s ∷ ss) n last all cut say bounded = absurd say
say_fit (g ∷ gs) [] n last all cut say bounded = absurd say
say_fit (g ∷ gs) (s ∷ ss) n last all cut say bounded =
    let before = cut.0 in
    let own = cut.1 in
    let after = cut.2 in
    let group = cut.5 in
    let count : length all ≡ length before + (length own + length after) = ap length cut.3 ∙ length-append before (own ++ after) ∙ ap (λ (k : ℕ). length before + k) (length-append own after) in
    let bytes : total all ≡ total before + (total own + total after) = ap total cut.3 ∙ total_then before (own ++ after) ∙ ap (λ (k : ℕ). total before + k) (total_then own after) in
    let own-is = group.last in
    let deep = say_fit gs ss (g.last + 1) last after cut.6 say.1 (omega arith) in
    let text : length g.text ≤ total own =
    elim group.joined [
      | inl k ↦ joined_fits own g.text k.0
      | inr k ↦ absurd (cc (sym say.0.0 ∙ k.1))
    ] in
    let operands = statement_fits s say.0.1.1 g.text say.0.1.2 say.0.1.3 in
    let behind : s.line + 1 ≤ g.last + 1 = omega (arith, say.0.2, group.first, begun_some own group.begins) in (
      (omega (arith, say.0.2, group.first, begun_some own group.begins), deep.0),
      omega (arith, deep.1),
      (omega (arith, say.0.2, group.first), from_lower ss (s.line + 1) (g.last + 1) behind deep.2),
    )

up_to : (ss : List RawStatement) (a b : ℕ) → a ≤ b → LinesUpTo a ss → LinesUpTo b ss
up_to [] a b le h = tt
up_to (s ∷ ss) a b le h = (omega arith, up_to ss a b le h.1)

pub are_within_bounds : (text : List ℕ) (ss : List RawStatement) → SpellsStatements text ss → AreWithinBounds ss
are_within_bounds text ss h =
    let fit = lines_fit (length text) text (omega arith) in
    let short : length text ≤ 16777216 = h.0 in
    let all = say_fit h.1 ss 1 (length text) (lines text) h.2 h.3 (omega (arith, fit.0)) in
    record { lines = up_to ss (length text) 16777217 (omega arith) all.0; order = all.2; operands = omega (arith, all.1, fit.1) }

pub found_within : (text : List ℕ) (r : Result (List RawStatement) LexFault) → IfOk r (λ ss. SpellsStatements text ss) → IfOk r (λ ss. AreWithinBounds ss)
found_within text (Ok ss) h = are_within_bounds text ss h
found_within text (Err e) h = tt
