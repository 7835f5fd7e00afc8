-- One statement after another.
use Rattle.std.proofs.Common.{◌≡◌, ℕ, ◌+◌, List, [], ◌∷◌, ◌++◌, Option, Some, None, Result, Ok, Err, refl, sym, ap, ◌∙◌, append_assoc}
use Rattle.std.specs.Prelude.{unwrap_or}
use Rattle.std.specs.Str.Lines.{lines}
use Rattle.texts.specs.declared.kdcdef_lex.fault.LexFault.{LexFault}
use Rattle.texts.specs.declared.kdcdef_lex.group.Group.{Group}
use Rattle.texts.specs.declared.kdcdef_lex.statement.RawStatement.{RawStatement}
use Rattle.texts.specs.Groups.{groups}
use Rattle.texts.specs.Parsing.{statement_at, spelled_at, statement_in}
use Rattle.texts.specs.Reading.{with_front, statement_of, statements_of, read_from}
use Rattle.texts.proofs.kdcdef_lex.Words.{are_tokens}
use Rattle.texts.proofs.kdcdef_lex.Parsed.{is_statement}
use Rattle.texts.proofs.kdcdef_lex.Spelling.{group_says}

front_then : (front more : List RawStatement) (read : Result (List RawStatement) LexFault) → with_front (front ++ more) read ≡ with_front front (with_front more read)
front_then front more (Ok statements) = ap (λ (x : List RawStatement). Ok x) (append_assoc front more statements)
front_then front more (Err e) = refl

one_more : (front : List RawStatement) (g : Group) (gs : List Group) (statement : RawStatement) (whole : Result (List RawStatement) LexFault) → statement_of g ≡ Ok statement
    → with_front front (statements_of (g ∷ gs)) ≡ whole → with_front (front ++ statement ∷ []) (statements_of gs) ≡ whole
one_more front g gs statement whole read so_far =
    let one : statements_of (g ∷ gs) ≡ with_front (statement ∷ []) (statements_of gs) = rw read refl in
    front_then front (statement ∷ []) (statements_of gs) ∙ ap (with_front front) (sym one) ∙ so_far

-- a group that is a statement is kept as it
pub read_kept : (g : Group) (s : RawStatement) → statement_of g ≡ Ok s → spelled_at g.first g.text ≡ Some s
read_kept g s e =
    let says = group_says g s e in
    let h = says.1 in
    rw (are_tokens g.text h.1 h.2) (ap (λ (n : ℕ). statement_at n h.1) (sym says.2) ∙ is_statement h.1 s h.3)

-- the lines behind a group, with its statement kept
pub kept_on : (front kept : List RawStatement) (n : ℕ) (text after : List ℕ) (g : Group) (s : RawStatement) (whole : Result (List RawStatement) LexFault) → groups None n (lines text) ≡ g ∷ groups None (g.last + 1) (lines after)
    → Ok s ≡ statement_of g → kept ≡ front ++ statement_in g.first g.text ∷ [] → with_front front (read_from n text) ≡ whole → with_front kept (read_from (g.last + 1) after) ≡ whole
kept_on front kept n text after g s whole found read is so_far =
    let same : statement_in g.first g.text ≡ s = ap (λ (o : Option RawStatement). unwrap_or o (record { line = g.first; keyword = []; operands = [] })) (read_kept g s (sym read)) in
    ap (λ (ss : List RawStatement). with_front ss (read_from (g.last + 1) after)) (is ∙ ap (λ (x : RawStatement). front ++ x ∷ []) same)
    ∙ one_more front g (groups None (g.last + 1) (lines after)) s whole (sym read) (ap (λ (gs : List Group). with_front front (statements_of gs)) (sym found) ∙ so_far)
