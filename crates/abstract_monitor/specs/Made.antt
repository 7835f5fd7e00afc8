-- The made application of `make N`, its script, and the lines that it prints before the digest.
use Rattle.std.specs.Prelude.{ℕ, zero, suc, ◌+◌, ◌%◌, Bool, true, false, ◌||◌, List, [], ◌∷◌, ◌++◌, count_by, codes, decimal, None, ◌==◌}
use Rattle.kd_base.specs.declared.words.Variant.TheVariants.{Fi}
use Rattle.kdcs_types.specs.declared.act.Act.{Act}
use Rattle.kdcs_types.specs.declared.act.Act.TheVariants.{Commit, Emit}
use Rattle.kdcs_types.specs.declared.key.Area.TheVariants.{Gssb}
use Rattle.kdcs_types.specs.Tables.{TableRows, empty_tables, content_of}
use Rattle.application_types.specs.declared.kdcdef_types.entry.CallUse.TheVariants.{Both}
use Rattle.application_types.specs.declared.kdcdef_types.entry.TacEntry.{TacEntry}
use Rattle.application_types.specs.declared.kdcdef_types.entry.UserEntry.{UserEntry}
use Rattle.application_types.specs.declared.kdcdef_types.entry.PtermEntry.{PtermEntry}
use Rattle.application_types.specs.declared.kdcdef_types.entry.LtermEntry.{LtermEntry}
use Rattle.application_types.specs.Generation.{Generated}
use Rattle.application_types.specs.declared.unit_types.action.Action.{Action}
use Rattle.application_types.specs.declared.unit_types.action.Action.TheVariants.{Add, Init, Mget, Mput, Fget, Fput, SgetGb, SputGb, Pend}
use Rattle.application_types.specs.declared.unit_types.action.Operand.{Operand}
use Rattle.application_types.specs.declared.unit_types.action.Operand.TheVariants.{Field as FieldOf, Literal, Digits}
use Rattle.application_types.specs.declared.unit_types.action.UnitStatement.{UnitStatement}
use Rattle.application_types.specs.declared.unit_types.unit.Field.{Field}
use Rattle.application_types.specs.UnitText.{UnitText}
use Rattle.abstract_monitor.specs.Bytes.{Bytes}
use Rattle.abstract_monitor.specs.State.{Application}
use Rattle.abstract_monitor.specs.Calls.{or_empty}
use Rattle.abstract_monitor.specs.Lines.{line}
use Rattle.abstract_monitor.specs.declared.command.Command.{Command}
use Rattle.abstract_monitor.specs.declared.command.Command.TheVariants.{Input, Tick, Run}
use Rattle.abstract_monitor.specs.Trace.{trace, tables_after}

-- ---- the application

-- the letter and the number from 1 to 4
abbrev pub numbered_name : Bytes → ℕ → Bytes
numbered_name letter k = letter ++ decimal k

-- for the numbers from 1 to 4
abbrev pub for_four : {A : Type 0} → (ℕ → A) → List A
for_four f = f 1 ∷ f 2 ∷ f 3 ∷ f 4 ∷ []

-- a TAC with the program of its name
abbrev pub made_tac : (name : Bytes) → (asynchronous : Bool) → (class : ℕ) → Bytes × TacEntry
made_tac name asynchronous class = (name, record { program = name; asynchronous = asynchronous; call = Both; on = true; class = class; time = 1000; lock = None })

-- user Uk, without a password
abbrev pub made_user : ℕ → Bytes × UserEntry
made_user k = (numbered_name (codes "U") k, record { pass = None; restart = true; kset = None })

-- LTERM Lk
abbrev pub made_lterm : ℕ → Bytes × LtermEntry
made_lterm k = (numbered_name (codes "L") k, record { printer = false; kset = None })

-- PTERM Pk at LTERM Lk
abbrev pub made_pterm : ℕ → Bytes × PtermEntry
made_pterm k = (numbered_name (codes "P") k, record { lterm = numbered_name (codes "L") k })

-- what the definition of `make` generates
abbrev pub made_generation : Generated
made_generation = record {
  limits = record {
    appliname = codes "MAKE";
    tasks = 2;
    asyntasks = 1;
    gssbs = 32;
    lssbs = 8;
    kb = 16;
    spab = 64;
    nb = 80;
    pgpool = 64;
    reswait = 60;
    blksize = 2048;
    redelivery = 0;
  };
  programs = (codes "ADD", 2) ∷ (codes "TALLY", 3) ∷ [];
  tacs = made_tac (codes "ADD") false 0 ∷ made_tac (codes "TALLY") true 16 ∷ [];
  users = for_four made_user;
  pterms = for_four made_pterm;
  lterms = for_four made_lterm;
  tls = [];
  uls = [];
  classes = [];
  ksets = [];
  counts = record { users = 4; pterms = 4; lterms = 4; tacs = 2; programs = 2; passed_statements = 0; passed_operands = 0 };
  double = None;
}

-- a field of 8 bytes in SPAB
abbrev pub made_field : (line : ℕ) → (name : Bytes) → (offset : ℕ) → Field
made_field line name offset = record { name = name; line = line; spab = true; offset = offset; length = 8 }

-- statements, one a line from this one on
abbrev pub from_line : ℕ → List Action → List UnitStatement
from_line line [] = []
from_line line (action ∷ actions) = record { line = line; action = action } ∷ from_line (line + 1) actions

-- a unit of this name on this line: the fields v and n, and then its statements
abbrev pub made_unit : (name : Bytes) → (line : ℕ) → List Action → UnitText
made_unit name line actions = record {
  name = name;
  line = line;
  fields = made_field (line + 1) (codes "v") 0 ∷ made_field (line + 2) (codes "n") 8 ∷ [];
  labels = [];
  statements = from_line (line + 3) actions;
}

-- a GSSB grows by an operand, and n has its new content
abbrev pub grows : (name : Bytes) → Operand → List Action
grows name by = SgetGb (Literal name) (codes "n") ∷ Add (codes "n") by ∷ SputGb (Literal name) (FieldOf (codes "n")) ∷ []

-- it adds one to the GSSB CNT, and hands its input on to TALLY
abbrev pub add_unit : UnitText
add_unit =
    made_unit (codes "ADD") 1
    (Init ∷ Mget (codes "v") ∷ grows (codes "CNT") (Digits (codes "1")) ++ Fput (Literal (codes "TALLY")) (FieldOf (codes "v")) ∷ Mput (FieldOf (codes "n")) ∷ Pend Fi None ∷ [])

-- it adds its message to the GSSB TOTAL
abbrev pub tally_unit : UnitText
tally_unit = made_unit (codes "TALLY") 13 (Init ∷ Fget (codes "v") ∷ grows (codes "TOTAL") (FieldOf (codes "v")) ++ Pend Fi None ∷ [])

-- the application of `make`
abbrev pub made_application : Application
made_application = record { generation = made_generation; units = add_unit ∷ tally_unit ∷ [] }

-- ---- the script

-- user Uk signs on at PTERM Pk
abbrev pub sign_on_command : ℕ → Command
sign_on_command k = Input (numbered_name (codes "P") k) (codes "KDCSIGN " ++ numbered_name (codes "U") k)

-- a command or none
abbrev pub when : Bool → Command → List Command
when true command = command ∷ []
when false command = []

-- input i of all: at the terminals in rotation, a run after each second and after the last, a tick after each hundredth
abbrev pub made_round : (all i : ℕ) → List Command
made_round all i =
    Input (numbered_name (codes "P") ((i + 3) % 4 + 1)) (codes "ADD " ++ decimal (i % 10))
    ∷ when (i % 2 == 0 || i == all) (Run 100) ++ when (i % 100 == 0) (Tick 1)

-- so many inputs from this one on
unfoldable pub made_rounds : (all left i : ℕ) → List Command
made_rounds all zero i = []
made_rounds all (suc n) i = made_round all i ++ made_rounds all n (i + 1)

-- the script of `make N`
abbrev pub made_script : ℕ → List Command
made_script n = for_four sign_on_command ++ made_rounds n n 1

-- ---- the lines

-- a commit
abbrev pub is_commit : Act → Bool
is_commit (Commit changes) = true
is_commit (Emit bytes) = false

-- a line
abbrev pub is_emit : Act → Bool
is_emit (Commit changes) = false
is_emit (Emit bytes) = true

-- a word and a number
abbrev pub number_line : Bytes → ℕ → Bytes
number_line word n = line (word ++ 32 ∷ decimal n)

-- the content of the GSSB TOTAL
abbrev pub total_line : TableRows → Bytes
total_line t = line (codes "TOTAL " ++ or_empty (content_of t (Gssb (codes "TOTAL"))))

-- the lines by the acts and the last durable tables
abbrev pub lines_of_acts : ℕ → List Act → TableRows → Bytes
lines_of_acts n acts last =
    number_line (codes "INPUTS") n
    ++ number_line (codes "COMMITS") (count_by is_commit acts)
    ++ number_line (codes "LINES") (count_by is_emit acts)
    ++ number_line (codes "CLOCK") last.clock
    ++ total_line last

-- what `make N` prints before its line DIGEST
unfoldable pub made_lines : ℕ → Bytes
made_lines n = let acts = trace made_application empty_tables (made_script n) in lines_of_acts n acts (tables_after empty_tables acts)
