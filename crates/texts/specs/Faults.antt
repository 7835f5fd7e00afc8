-- A fault is at a line.
use Rattle.std.specs.Prelude.{◌≡◌, ◌≢◌, ℕ, ◌<◌, ◌≤◌, ◌⊎◌, Bool, true, false, not, IsTrue, List, [], ◌∷◌, length, codes, if◌then◌else◌}
use Rattle.std.specs.List.{list_all}
use Rattle.std.specs.Str.Lines.{lines}
use Rattle.kd_base.specs.Limits.{longest_text}
use Rattle.texts.specs.declared.kdcdef_lex.fault.LexFault.{LexFault}
use Rattle.texts.specs.declared.kdcdef_lex.fault.LexFault.TheVariants.{NotAscii, OpenQuote, OpenParen, DanglingContinuation, BadOperand, TextTooLong, Memory}
use Rattle.texts.specs.declared.kdcdef_lex.token.Token.{Token}
use Rattle.texts.specs.declared.kdcdef_lex.group.Group.{Group}
use Rattle.texts.specs.declared.kdcdef_lex.statement.RawStatement.{RawStatement}
use Rattle.texts.specs.Quotes.{is_quote}
use Rattle.texts.specs.Reading.{is_text_byte, leaves_open}
use Rattle.texts.specs.Grammar.{AreTokens, IsStatement}
use Rattle.texts.specs.Spelling.{Cut, Says}

-- the line of a fault; a text that is too long has line 0
abbrev pub line_of : LexFault → ℕ
line_of TextTooLong = 0
line_of Memory = 0
line_of (NotAscii line) = line
line_of (OpenQuote line) = line
line_of (OpenParen line) = line
line_of (DanglingContinuation line) = line
line_of (BadOperand line) = line

-- the name by which it is printed
abbrev pub name_of : LexFault → List ℕ
name_of TextTooLong = codes "TextTooLong"
name_of Memory = codes "Memory"
name_of (NotAscii line) = codes "NotAscii"
name_of (OpenQuote line) = codes "OpenQuote"
name_of (OpenParen line) = codes "OpenParen"
name_of (DanglingContinuation line) = codes "DanglingContinuation"
name_of (BadOperand line) = codes "BadOperand"

-- whether the number of quotes is odd
abbrev pub odd_quotes : List ℕ → Bool
odd_quotes [] = false
odd_quotes (b ∷ bytes) = if is_quote b then not (odd_quotes bytes) else odd_quotes bytes

abbrev pub IsText : Group → Type 0
IsText g = IsTrue (list_all is_text_byte g.text)

-- the group has the fault, and none with a lesser line or, on its line, a lesser number
abbrev pub HasFault : Group → LexFault → Type 0
HasFault g (NotAscii n) = (n ≡ g.first) × (list_all is_text_byte g.text ≡ false)
HasFault g (OpenQuote n) = (n ≡ g.first) × IsText g × (odd_quotes g.text ≡ true)
HasFault g (OpenParen n) = (n ≡ g.first) × IsText g × (ts : List Token) × AreTokens ts g.text × (leaves_open false ts ≡ true)
HasFault g (DanglingContinuation n) = (n ≡ g.last) × IsText g × (g.dangling ≡ true) × (ts : List Token) × AreTokens ts g.text × (leaves_open false ts ≡ false) × ((g.first ≡ g.last) ⊎ ((s : RawStatement) × IsStatement s ts))
HasFault g (BadOperand n) = (n ≡ g.first) × IsText g × (g.dangling ≡ true → g.first ≢ g.last) × (ts : List Token) × AreTokens ts g.text × (leaves_open false ts ≡ false) × ((s : RawStatement) → IsStatement s ts → ⊥)
HasFault g TextTooLong = ⊥
HasFault g Memory = ⊥

-- the first group that is no spelling of a statement has the fault
abbrev pub FirstFault : List Group → LexFault → Type 0
FirstFault [] fault = ⊥
FirstFault (g ∷ gs) fault = HasFault g fault ⊎ (((s : RawStatement) × Says g s) × FirstFault gs fault)

abbrev pub HasTextFault : List ℕ → LexFault → Type 0
HasTextFault text TextTooLong = longest_text < length text
HasTextFault text fault = (length text ≤ longest_text) × (gs : List Group) × Cut 1 (lines text) gs × FirstFault gs fault
