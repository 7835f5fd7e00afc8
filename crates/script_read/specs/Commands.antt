-- What a script says, in a generation.
use Rattle.std.specs.Prelude.{ℕ, Bool, true, false, not, List, [], ◌∷◌, take, drop, codes, find, Option, Some, None, Result, option_and_then}
use Rattle.std.specs.List.{list_all, before_first, after_first}
use Rattle.kd_base.specs.Text.{is_between, is_space, name_of}
use Rattle.kd_base.specs.Limits.{last_clock}
use Rattle.application_types.specs.declared.kdcdef_types.entry.PtermEntry.{PtermEntry}
use Rattle.application_types.specs.declared.kdcdef_types.entry.LtermEntry.{LtermEntry}
use Rattle.application_types.specs.Generation.{Generated, pterm_of, lterm_of}
use Rattle.abstract_monitor.specs.declared.command.Command.{Command}
use Rattle.abstract_monitor.specs.declared.command.Command.TheVariants.{Input, Tick, Run, Turn, Drop, Print, PrintLast, Restart}
use Rattle.script_read.specs.declared.fault.ScriptFault.{ScriptFault}
use Rattle.script_read.specs.declared.keyword.Keyword.{Keyword}
use Rattle.script_read.specs.declared.keyword.Keyword.TheVariants as keywords
use Rattle.script_read.specs.declared.keyword.TheConstants.{KEYWORDS}
use Rattle.script_read.specs.Script.{Line, Says, IsBad, as_command, words, same, is_passed, begins_with_space, line_by, numbered, script_of}

-- ---- the operands

-- the greatest number of a RUN
abbrev pub last_turns : ℕ
last_turns = 1000000

-- the LTERM of the PTERM with this name, if there is one
abbrev pub lterm_at : Generated → Option (List ℕ) → Option LtermEntry
lterm_at g name = option_and_then (λ (p : PtermEntry). lterm_of g p.lterm) (option_and_then (pterm_of g) name)

-- an LTERM with USAGE=O, where a printer is wanted, and else one with USAGE=D
abbrev pub is_wanted : Bool → Option LtermEntry → Bool
is_wanted printer None = false
is_wanted true (Some lterm) = lterm.printer
is_wanted false (Some lterm) = not lterm.printer

abbrev pub pterm_by : Bool → List ℕ → Line (List ℕ)
pterm_by true name = Says name
pterm_by false word = IsBad

-- what a word says where a PTERM is wanted whose LTERM has USAGE=O (a printer), or else USAGE=D
abbrev pub pterm_in : Generated → Bool → List ℕ → Line (List ℕ)
pterm_in g printer word = pterm_by (is_wanted printer (lterm_at g (name_of word))) word

-- ---- IN

-- a byte from 0x20 to 0x7E
abbrev pub is_text_byte : ℕ → Bool
is_text_byte b = is_between 32 126 b

abbrev pub begins_with_in : List ℕ → Bool
begins_with_in line = same (take 3 line) (codes "IN ")

abbrev pub input_by : Bool → Line (List ℕ) → List ℕ → Line Command
input_by true name text = as_command (λ named. Input named text) name
input_by false name text = IsBad

-- after `IN` and its space: the name up to the first space, and after that space the text
abbrev pub input : Generated → List ℕ → Line Command
input g rest = input_by (list_all is_text_byte (after_first is_space rest)) (pterm_in g false (before_first is_space rest)) (after_first is_space rest)

-- ---- the other commands, whose words are parted by spaces

abbrev pub spelling : Keyword → List ℕ
spelling keywords.Tick = codes "TICK"
spelling keywords.Run = codes "RUN"
spelling keywords.Turn = codes "TURN"
spelling keywords.Drop = codes "DROP"
spelling keywords.Print = codes "PRINT"
spelling keywords.Restart = codes "RESTART"

-- the keyword that is spelled so
abbrev pub keyword_of : List ℕ → Option Keyword
keyword_of word = find (λ keyword. same word (spelling keyword)) KEYWORDS

-- a keyword alone
abbrev pub alone : Keyword → Line Command
alone keywords.Restart = Says Restart
alone keyword = IsBad

-- a keyword and a word
abbrev pub with_one : Generated → Keyword → List ℕ → Line Command
with_one g keywords.Tick word = as_command Tick (numbered 0 last_clock word)
with_one g keywords.Run word = as_command Run (numbered 0 last_turns word)
with_one g keywords.Turn word = as_command Turn (numbered 1 g.limits.tasks word)
with_one g keywords.Drop word = as_command Drop (pterm_in g false word)
with_one g keywords.Print word = as_command Print (pterm_in g true word)
with_one g keywords.Restart word = IsBad

abbrev pub last_by : Bool → Line (List ℕ) → Line Command
last_by true name = as_command PrintLast name
last_by false name = IsBad

-- a keyword and two words
abbrev pub with_two : Generated → Keyword → List ℕ → List ℕ → Line Command
with_two g keywords.Print word last = last_by (same last (codes "LAST")) (pterm_in g true word)
with_two g keyword word last = IsBad

abbrev pub with_words : Generated → Keyword → List (List ℕ) → Line Command
with_words g keyword [] = alone keyword
with_words g keyword (word ∷ []) = with_one g keyword word
with_words g keyword (word ∷ last ∷ []) = with_two g keyword word last
with_words g keyword (word ∷ last ∷ more ∷ rest) = IsBad

abbrev pub keyed : Generated → Option Keyword → List (List ℕ) → Line Command
keyed g None operands = IsBad
keyed g (Some keyword) operands = with_words g keyword operands

abbrev pub line_of_words : Generated → List (List ℕ) → Line Command
line_of_words g [] = IsBad
line_of_words g (word ∷ operands) = keyed g (keyword_of word) operands

-- ---- lines and scripts

abbrev pub command_by : Bool → Generated → List ℕ → Line Command
command_by true g line = input g (drop 3 line)
command_by false g line = line_of_words g (words line)

-- what a line says in a generation
abbrev pub line_in : Generated → List ℕ → Line Command
line_in g line = line_by (is_passed line) (begins_with_space line) (command_by (begins_with_in line) g line)

-- the commands of a script in a generation, or its first fault
abbrev pub script_in : Generated → List ℕ → Result (List Command) ScriptFault
script_in g text = script_of (line_in g) text
