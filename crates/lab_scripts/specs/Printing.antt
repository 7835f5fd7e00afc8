-- What a test prints.
use Rattle.std.specs.Prelude.{ℕ, Bool, true, false, List}
use Rattle.lab_turns.specs.Consoles.{Passed, printed}
use Rattle.lab_scripts.specs.declared.difference.Difference.{Difference}
use Rattle.lab_scripts.specs.Expected.{Expectation}
use Rattle.lab_scripts.specs.Met.{IsFirstDifference, difference_lines, lines_expected, met_line}

-- of a script that is met how many lines are expected, and of any other the first difference; and nothing else passed
abbrev pub TellsTest : {C : Type 0} → (passes : C → List Passed → C → Type 0) → List Expectation → (sent : List (List (List ℕ))) → (met : Bool) → C → C → Type 0
TellsTest passes expected sent true a b = passes a (printed (met_line (lines_expected expected))) b
TellsTest passes expected sent false a b = (d : Difference) × IsFirstDifference expected sent d × passes a (printed (difference_lines d)) b
