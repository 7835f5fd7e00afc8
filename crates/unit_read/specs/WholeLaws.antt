-- Units that a text spells have labels that count from one, and operands that are no longer than an area may be.
use Rattle.std.specs.Prelude.{ℕ, ◌+◌, ◌≤◌, true, false, cond, List, [], ◌∷◌, ◌++◌, length, Some, IfSome, All, bytes_eq}
use Rattle.std.specs.List.{AllByRecursion as Each}
use Rattle.std.proofs.lemmas.List.Elements.{All-from_recursion}
use Rattle.std.specs.Map.{lookup}
use Rattle.std.specs.Str.Lines.{lines}
use Rattle.std.proofs.Common.{arith, sym, subst, inl, inr}
use Rattle.application_types.specs.declared.unit_types.action.Action.{Action}
use Rattle.application_types.specs.declared.unit_types.action.Action.TheVariants as actions
use Rattle.application_types.specs.declared.unit_types.action.Operand.{Operand}
use Rattle.application_types.specs.declared.unit_types.action.Operand.TheVariants as operands
use Rattle.application_types.specs.declared.unit_types.action.UnitStatement.{UnitStatement}
use Rattle.application_types.specs.UnitText.{UnitText, IsShortOperand, IsSpellable, operands_of}
use Rattle.unit_read.specs.declared.piece.Piece.{Piece}
use Rattle.unit_read.specs.declared.piece.Piece.TheVariants as pieces
use Rattle.unit_read.specs.Grammar.{IsOperand, IsAction, SpellsPiece}
use Rattle.unit_read.specs.Spelling.{Placed, placed, ArePieces, AreUnits, IsBegun, SpellsUnits, label_in, statement_in, labels_in, statements_in}
use Rattle.std.proofs.ByRecursion.{All-append}
use Rattle.kd_base.specs.ListsLaws.{each_front, each_behind}

-- ---- operands

short_operand : (o : Operand) → IsOperand o → IsShortOperand o
short_operand (operands.Literal bytes) h = h
short_operand (operands.Digits digits) h = h.1
short_operand _ h = tt

short_action : (a : Action) → IsAction a → Each IsShortOperand (operands_of a)
short_action (actions.Move f o) h = (short_operand o h.1, tt)
short_action (actions.Join f o p) h = (short_operand o h.1, (short_operand p h.2, tt))
short_action (actions.Add f o) h = (short_operand o h.1, tt)
short_action (actions.Sub f o) h = (short_operand o h.1, tt)
short_action (actions.Mul f o) h = (short_operand o h.1, tt)
short_action (actions.Div f o) h = (short_operand o h.1, tt)
short_action (actions.If o r p l) h = (short_operand o h.0, (short_operand p h.1, tt))
short_action (actions.Mput o) h = (short_operand o h, tt)
short_action (actions.Fput to o) h = (short_operand to h.0, (short_operand o h.1, tt))
short_action (actions.Dput to mode d hours m s o) h =
    (short_operand to h.0, (short_operand d h.1, (short_operand hours h.2, (short_operand m h.3, (short_operand s h.4, (short_operand o h.5, tt))))))
short_action (actions.SgetGb n f) h = (short_operand n h.0, tt)
short_action (actions.SputGb n o) h = (short_operand n h.0, (short_operand o h.1, tt))
short_action (actions.SrelGb n) h = (short_operand n h, tt)
short_action (actions.SgetKp n f) h = (short_operand n h.0, tt)
short_action (actions.SgetRl n f) h = (short_operand n h.0, tt)
short_action (actions.SputMs n o) h = (short_operand n h.0, (short_operand o h.1, tt))
short_action (actions.SrelLb n) h = (short_operand n h, tt)
short_action (actions.SgetUs n f) h = (short_operand n h.0, tt)
short_action (actions.SputUs n o) h = (short_operand n h.0, (short_operand o h.1, tt))
short_action (actions.Gtda n f) h = (short_operand n h.0, tt)
short_action (actions.Ptda n o) h = (short_operand n h.0, (short_operand o h.1, tt))
short_action (actions.UnlkGb n) h = (short_operand n h, tt)
short_action (actions.UnlkUs n) h = (short_operand n h, tt)
short_action (actions.UnlkDa n) h = (short_operand n h, tt)
short_action (actions.Pend v (Some o)) h = (short_operand o h.1, tt)
short_action _ h = tt

-- the operands of a statement are short
abbrev IsShortStatement : UnitStatement → Type 0
IsShortStatement s = All IsShortOperand (operands_of s.action)

-- ---- pieces

-- the operands of a statement are short
abbrev IsShortPiece : Placed → Type 0
IsShortPiece p = Each IsShortStatement (statement_in p.line p.piece)

short_piece : (line : List ℕ) (n : ℕ) (piece : Piece) → SpellsPiece line piece → IsShortPiece (placed n piece)
short_piece line n (pieces.Statement a) h = (All-from_recursion IsShortOperand (operands_of a) (short_action a h.3.1), tt)
short_piece line n _ h = tt

short_pieces : (ls : List (List ℕ)) (n : ℕ) (ps : List Placed) → ArePieces n ls ps → Each IsShortPiece ps
short_pieces [] n ps h = subst (Each IsShortPiece) (sym h) tt
short_pieces (line ∷ rest) n ps (inl passed) = short_pieces rest (n + 1) ps passed.1
short_pieces (line ∷ rest) n ps (inr (piece, more, e, spells, left)) =
    subst (Each IsShortPiece) (sym e) (short_piece line n piece spells, short_pieces rest (n + 1) more left)

-- ---- lists

-- ---- a unit

short_statements : (ps : List Placed) → Each IsShortPiece ps → Each IsShortStatement (statements_in ps)
short_statements [] h = tt
short_statements (p ∷ ps) h = All-append _ (statement_in p.line p.piece) (statements_in ps) h.0 (short_statements ps h.1)

label_from : (k : ℕ) (piece : Piece) → 1 ≤ k → Each (λ (l : List ℕ × ℕ). 1 ≤ l.1) (label_in k piece)
label_from k (pieces.Label name) h = (h, tt)
label_from k _ h = tt

labels_from : (ps : List Placed) (k : ℕ) → 1 ≤ k → Each (λ (l : List ℕ × ℕ). 1 ≤ l.1) (labels_in k ps)
labels_from [] k h = tt
labels_from (p ∷ ps) k h = All-append _ (label_in k p.piece) _ (label_from k p.piece h) (labels_from ps (k + length (statement_in p.line p.piece)) (omega arith))

looked_up : (labels : List (List ℕ × ℕ)) (name : List ℕ) → Each (λ (l : List ℕ × ℕ). 1 ≤ l.1) labels → IfSome (lookup (bytes_eq name) labels) (λ place. 1 ≤ place)
looked_up [] name h = tt
looked_up (l ∷ ls) name h =
    elim (bytes_eq name l.0) as (λ b. IfSome (cond b (Some l.1) (lookup (bytes_eq name) ls)) (λ place. 1 ≤ place)) [
      | true ↦ h.0
      | false ↦ looked_up ls name h.1
    ]

whole_unit : (u : UnitText) (ps : List Placed) → IsBegun u ps → Each IsShortPiece ps → IsSpellable u
whole_unit u ps begun short =
    let body = each_behind IsShortPiece begun.heads begun.body (each_behind IsShortPiece (placed u.line (pieces.Unit u.name) ∷ []) (begun.heads ++ begun.body) (subst (Each IsShortPiece) begun.parts short)) in
    record {
      labels = λ name. looked_up u.labels name (subst (Each (λ (l : List ℕ × ℕ). 1 ≤ l.1)) (sym begun.labels) (labels_from begun.body 1 (omega arith)));
      operands = All-from_recursion IsShortStatement u.statements (subst (Each IsShortStatement) (sym begun.statements) (short_statements begun.body body));
    }

whole_units : (us before : List UnitText) (ps : List Placed) → AreUnits before us ps → Each IsShortPiece ps → Each IsSpellable us
whole_units [] before ps h short = tt
whole_units (u ∷ us) before ps (own, rest, last, e, follows, begun, more) short =
    let parts = subst (Each IsShortPiece) e short in
    (whole_unit u own begun (each_front IsShortPiece own (placed last pieces.End ∷ rest) parts), whole_units us (before ++ u ∷ []) rest more (each_behind IsShortPiece own (placed last pieces.End ∷ rest) parts).1)

pub spelled_whole : (text : List ℕ) (us : List UnitText) → SpellsUnits text us → All IsSpellable us
spelled_whole text us (few, ps, are, units) = All-from_recursion IsSpellable us (whole_units us [] ps units (short_pieces (lines text) 1 ps are))
