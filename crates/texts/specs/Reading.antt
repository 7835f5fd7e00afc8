-- Reading a text, with the first fault.
use Rattle.std.specs.Prelude.{ℕ, Bool, true, false, ◌&&◌, ◌||◌, ◌==◌, nat_le, nat_lt, List, [], ◌∷◌, ◌++◌, length, Option, Some, None, Result, Ok, Err, if◌then◌else◌}
use Rattle.std.specs.List.{list_all}
use Rattle.std.specs.Str.Lines.{lines}
use Rattle.kd_base.specs.Limits.{longest_text}
use Rattle.kd_base.specs.FirstFaults.{GivesUnless}
use Rattle.kd_base.specs.Tools.{◌>>=◌}
use Rattle.texts.specs.declared.kdcdef_lex.fault.LexFault.{LexFault}
use Rattle.texts.specs.declared.kdcdef_lex.fault.LexFault.TheVariants.{NotAscii, OpenQuote, OpenParen, DanglingContinuation, BadOperand, TextTooLong, Memory}
use Rattle.texts.specs.declared.kdcdef_lex.token.Token.{Token}
use Rattle.texts.specs.declared.kdcdef_lex.token.Token.TheVariants as tokens
use Rattle.texts.specs.declared.kdcdef_lex.group.Group.{Group}
use Rattle.texts.specs.declared.kdcdef_lex.statement.RawStatement.{RawStatement}
use Rattle.texts.specs.Groups.{groups}
use Rattle.texts.specs.Tokens.{tokens_of}
use Rattle.texts.specs.Parsing.{statement_at}

abbrev pub is_memory : LexFault → Bool
is_memory Memory = true
is_memory fault = false

-- what a function returned is what reading gives, unless memory ran out
abbrev pub Gives : {X : Type 0} → Result X LexFault → Result X LexFault → Type 0
Gives returned read = GivesUnless is_memory returned read

-- a byte that may be in a statement
abbrev pub is_text_byte : ℕ → Bool
is_text_byte b = (nat_le 32 b && nat_le b 126) || b == 9

-- whether a parenthesis is open after these tokens
abbrev pub leaves_open : Bool → List Token → Bool
leaves_open open_before [] = open_before
leaves_open open_before (tokens.Open ∷ ts) = leaves_open true ts
leaves_open open_before (tokens.Close ∷ ts) = leaves_open false ts
leaves_open open_before (token ∷ ts) = leaves_open open_before ts

-- the statement of a group, or its fault with the least line and, on one line, the least number
abbrev pub operands_fault : Group → Option RawStatement → Result RawStatement LexFault
operands_fault g None = Err (BadOperand g.first)
operands_fault g (Some statement) = if g.dangling then Err (DanglingContinuation g.last) else Ok statement

abbrev pub tokens_fault : Group → Option (List Token) → Result RawStatement LexFault
tokens_fault g None = Err (OpenQuote g.first)
tokens_fault g (Some ts) =
    if leaves_open false ts then Err (OpenParen g.first)
    else (if g.dangling && g.first == g.last then Err (DanglingContinuation g.last)
    else operands_fault g (statement_at g.first ts))

abbrev pub statement_of : Group → Result RawStatement LexFault
statement_of g = if list_all is_text_byte g.text then tokens_fault g (tokens_of g.text) else Err (NotAscii g.first)

abbrev pub with_front : List RawStatement → Result (List RawStatement) LexFault → Result (List RawStatement) LexFault
with_front front read = read >>= λ statements. Ok (front ++ statements)

abbrev pub statements_of : List Group → Result (List RawStatement) LexFault
statements_of [] = Ok []
statements_of (g ∷ gs) = statement_of g >>= λ statement. with_front (statement ∷ []) (statements_of gs)

-- what is read of the lines from number n on
abbrev pub read_from : ℕ → List ℕ → Result (List RawStatement) LexFault
read_from n text = statements_of (groups None n (lines text))

abbrev pub read_text : List ℕ → Result (List RawStatement) LexFault
read_text text = if nat_lt longest_text (length text) then Err TextTooLong else read_from 1 text
