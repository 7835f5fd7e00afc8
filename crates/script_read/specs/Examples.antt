-- Worked lines.
use Rattle.std.specs.Prelude.{◌≡◌, ℕ, true, false, List, [], ◌∷◌, ◌++◌, map, codes, None, Ok, Err}
use Rattle.application_types.specs.Generation.{Generated}
use Rattle.abstract_monitor.specs.Made.{made_generation}
use Rattle.abstract_monitor.specs.declared.command.Command.{Command}
use Rattle.abstract_monitor.specs.declared.command.Command.TheVariants.{Input, Tick, Run, Turn, Drop, Print, PrintLast, Restart}
use Rattle.script_read.specs.declared.fault.ScriptFault.TheVariants.{BadLine, OutOfRange}
use Rattle.script_read.specs.Script.{Line, Nothing, Says, IsBad, IsOutOfRange}
use Rattle.script_read.specs.Commands.{line_in, script_in}

-- two tasks; a terminal P1 and a printer P3
abbrev pub example : Generated
example = record made_generation {
  pterms = (codes "P1", record { lterm = codes "L1" }) ∷ (codes "P3", record { lterm = codes "L3" }) ∷ [];
  lterms = (codes "L1", record { printer = false; kset = None }) ∷ (codes "L3", record { printer = true; kset = None }) ∷ [];
}

abbrev pub line_said : List ℕ → Line Command
line_said line = line_in example line

-- each line says what is beside it
abbrev pub AreSaid : List (List ℕ × Line Command) → Type 0
AreSaid rows = map (λ (row : List ℕ × Line Command). line_said row.0) rows ≡ map (λ (row : List ℕ × Line Command). row.1) rows

-- one space is dropped in front of the text, and none after it
abbrev pub InputRows : Type 0
InputRows = AreSaid (
    (codes "IN P1 KDCSIGN U1,PW1", Says (Input (codes "P1") (codes "KDCSIGN U1,PW1")))
    ∷ (codes "IN P1  A ", Says (Input (codes "P1") (codes " A ")))
    ∷ (codes "IN P1", Says (Input (codes "P1") []))
    ∷ (codes "IN P1 ", Says (Input (codes "P1") []))
    ∷ (codes "IN  P1 A", IsBad)
    ∷ (codes "IN P3 A", IsBad)
    ∷ (codes "IN P9 A", IsBad)
    ∷ (codes "IN P1 " ++ 9 ∷ [], IsBad)
    ∷ (codes "IN", IsBad)
    ∷ [])

-- the last has the least fault of a line
abbrev pub NumberRows : Type 0
NumberRows = AreSaid (
    (codes "TICK 5", Says (Tick 5))
    ∷ (codes "TICK  999999999999 ", Says (Tick 999999999999))
    ∷ (codes "TICK 1000000000000", IsOutOfRange)
    ∷ (codes "TICK 0000000000000000001", IsOutOfRange)
    ∷ (codes "RUN 1000000", Says (Run 1000000))
    ∷ (codes "RUN 1000001", IsOutOfRange)
    ∷ (codes "RUN X", IsBad)
    ∷ (codes "TURN 2", Says (Turn 2))
    ∷ (codes "TURN 0", IsOutOfRange)
    ∷ (codes "TURN 3", IsOutOfRange)
    ∷ (codes "TURN 3 3", IsBad)
    ∷ [])

abbrev pub NameRows : Type 0
NameRows = AreSaid (
    (codes "DROP P1", Says (Drop (codes "P1")))
    ∷ (codes "DROP P3", IsBad)
    ∷ (codes "PRINT P3", Says (Print (codes "P3")))
    ∷ (codes "PRINT P1", IsBad)
    ∷ (codes "PRINT P3 LAST", Says (PrintLast (codes "P3")))
    ∷ (codes "PRINT P3 FIRST", IsBad)
    ∷ (codes "RESTART  ", Says Restart)
    ∷ (codes "RESTART 1", IsBad)
    ∷ [])

abbrev pub LineRows : Type 0
LineRows = AreSaid (
    (codes "* TURN 9", Nothing)
    ∷ (codes "  ", Nothing)
    ∷ (codes " RESTART", IsBad)
    ∷ (codes "restart", IsBad)
    ∷ (codes "TURN" ++ 9 ∷ codes "1", IsBad)
    ∷ (codes "JUMP 3", IsBad)
    ∷ [])

pub record ScriptRows : Type 0 where
  pub script : script_in example (codes "*\nTURN 1\n\nRESTART") ≡ Ok (Turn 1 ∷ Restart ∷ [])
  pub first : script_in example (codes "TICK 1\nTURN 3\nJUMP 3\n") ≡ Err (OutOfRange 2)
  pub bad : script_in example (codes "TICK 1\nJUMP 3\nTURN 3\n") ≡ Err (BadLine 2)
