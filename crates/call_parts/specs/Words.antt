-- What the words of a call ask for, and the line where they ask for nothing.
use Rattle.std.specs.Prelude.{⊤, ℕ, Bool, true, false, ◌&&◌, nat_le, List, [], ◌∷◌, ◌++◌, length, codes, Option, Some, None}
use Rattle.kd_base.specs.Text.{decimal_of}
use Rattle.application_types.specs.Statements.{IsWithin}
use Rattle.script_read.specs.Script.{same}
use Rattle.call_parts.specs.declared.words.Word.{Word}
use Rattle.call_parts.specs.declared.words.Word.TheVariants.{Gen, Run, Show, Update, Trail, Audit, Make}

abbrev pub word_by : (gen run show update trail audit : Bool) → Option Word
word_by true run show update trail audit = Some Gen
word_by false true show update trail audit = Some Run
word_by false false true update trail audit = Some Show
word_by false false false true trail audit = Some Update
word_by false false false false true audit = Some Trail
word_by false false false false false true = Some Audit
word_by false false false false false false = None

-- the word of a BASE that is spelled so
abbrev pub word_of : List ℕ → Option Word
word_of word = word_by (same word (codes "gen")) (same word (codes "run")) (same word (codes "show")) (same word (codes "update")) (same word (codes "trail")) (same word (codes "audit"))

-- a BASE has 1 to 200 bytes
abbrev pub is_base : List ℕ → Bool
is_base base = nat_le 1 (length base) && nat_le (length base) 200

-- the word has a BASE, whose texts it reads
abbrev pub IsOfBase : Word → Type 0
IsOfBase Gen = ⊤
IsOfBase Run = ⊤
IsOfBase Show = ⊤
IsOfBase Update = ⊤
IsOfBase Trail = ⊤
IsOfBase Audit = ⊤
IsOfBase (Make n) = ⊥

-- the third text of the word is a trail; that of each other word is a script, which has no commands where the word runs none
abbrev pub audits : Word → Bool
audits Gen = false
audits Run = false
audits Show = false
audits Update = false
audits Trail = false
audits Audit = true
audits (Make n) = false

-- the word reads no third text
abbrev pub HasNoThird : Word → Type 0
HasNoThird Gen = ⊤
HasNoThird Run = ⊥
HasNoThird Show = ⊤
HasNoThird Update = ⊤
HasNoThird Trail = ⊥
HasNoThird Audit = ⊥
HasNoThird (Make n) = ⊥

-- how many inputs `make` can make
abbrev pub is_input_count : ℕ → Bool
is_input_count n = nat_le 1 n && nat_le n 20000

-- a word as a call has it: `make` with a number of inputs that it can make
abbrev pub IsForm : Word → Type 0
IsForm Gen = ⊤
IsForm Run = ⊤
IsForm Show = ⊤
IsForm Update = ⊤
IsForm Trail = ⊤
IsForm Audit = ⊤
IsForm (Make n) = IsWithin 1 20000 n

abbrev pub made_by : Bool → ℕ → Option Word
made_by true n = Some (Make n)
made_by false n = None

-- `make` with this number, if it is one
abbrev pub made_input : Option ℕ → Option Word
made_input None = None
made_input (Some n) = made_by (is_input_count n) n

abbrev pub over_base : Bool → List ℕ → Option Word
over_base true word = word_of word
over_base false word = None

-- the word before this operand: N of 1 to 18 digits after `make`, and else a BASE
abbrev pub word_with : (make : Bool) → (word operand : List ℕ) → Option Word
word_with true word operand = made_input (decimal_of operand)
word_with false word operand = over_base (is_base operand) word

abbrev pub asked : Option Word → List ℕ → Option (Word × List ℕ)
asked None operand = None
asked (Some word) operand = Some (word, operand)

-- the word and the operand of `gen BASE`, `run BASE`, `show BASE`, `update BASE`, `trail BASE`, `audit BASE` and `make N`; no other words are a form
abbrev pub request_of : List (List ℕ) → Option (Word × List ℕ)
request_of [] = None
request_of (word ∷ []) = None
request_of (word ∷ operand ∷ []) = asked (word_with (same word (codes "make")) word operand) operand
request_of (word ∷ operand ∷ more ∷ rest) = None

abbrev pub base_by : Bool → List ℕ → Option (List ℕ)
base_by true base = Some base
base_by false base = None

-- the BASE of a call whose words are one BASE alone
abbrev pub base_of : List (List ℕ) → Option (List ℕ)
base_of [] = None
base_of (base ∷ []) = base_by (is_base base) base
base_of (base ∷ more ∷ rest) = None

-- ---- the words of `live`

abbrev pub live_by : (base alone : Bool) → List ℕ → Option (List ℕ)
live_by true true base = Some base
live_by true false base = None
live_by false alone base = None

abbrev pub is_alone : List ℕ → Bool
is_alone word = same word (codes "--alone")

-- the BASE of `BASE [--alone]`
abbrev pub live_base_of : List (List ℕ) → Option (List ℕ)
live_base_of [] = None
live_base_of (base ∷ []) = base_by (is_base base) base
live_base_of (base ∷ option ∷ []) = live_by (is_base base) (is_alone option) base
live_base_of (base ∷ option ∷ more ∷ rest) = None

-- a copy is taken alone
abbrev pub takes_alone : List (List ℕ) → Bool
takes_alone [] = false
takes_alone (base ∷ []) = false
takes_alone (base ∷ option ∷ rest) = is_alone option

-- ---- names

-- the name of the definition's text
abbrev pub definition_name : List ℕ → List ℕ
definition_name base = base ++ codes ".def"

-- the name of the units' text
abbrev pub units_name : List ℕ → List ℕ
units_name base = base ++ codes ".units"

-- the name of the script's text
abbrev pub script_name : List ℕ → List ℕ
script_name base = base ++ codes ".script"

-- the name of the trail's text
abbrev pub trail_name : List ℕ → List ℕ
trail_name base = base ++ codes ".trail"

-- the name of the KDCFILE
abbrev pub file_name : List ℕ → List ℕ
file_name base = base ++ codes ".KDCA"

-- status 1
abbrev pub usage_line : List ℕ
usage_line = codes "USAGE: utm gen BASE, run BASE, show BASE, update BASE, trail BASE, audit BASE, make N\n"

-- status 1 of a call whose words are to be one BASE with its option
abbrev pub live_usage_line : List ℕ
live_usage_line = codes "USAGE: live BASE [--alone]\n"
