-- The text and the line of a fault, and the name by which it is printed.
use Rattle.std.specs.Prelude.{ℕ, List, codes}
use Rattle.application_read.specs.DefinitionFaults.{line_of as line_of_definition, name_of as name_of_definition}
use Rattle.unit_read.specs.Faults.{line_of as line_of_units, name_of as name_of_units}
use Rattle.application_check.specs.declared.unit_check.fault.FitFault.{FitFault}
use Rattle.application_check.specs.declared.unit_check.fault.FitFault.TheVariants as fit
use Rattle.application_check.specs.FitFaults.{line_of as line_of_fit, name_of as name_of_fit}
use Rattle.application_read.specs.declared.fault.ApplicationFault.{ApplicationFault}
use Rattle.application_read.specs.declared.fault.ApplicationFault.TheVariants.{Definition, Units, Fit, Memory}

-- a PROGRAM statement without a unit is in the definition
abbrev pub text_of_fit : FitFault → List ℕ
text_of_fit (fit.NoUnit line) = codes "DEF"
text_of_fit _ = codes "UNITS"

-- the text, its line, counted from 1, and the name; a text that is too long has line 0, and want of memory is no fault of
-- a text
abbrev pub row_of : ApplicationFault → List ℕ × ℕ × List ℕ
row_of (Definition fault) = (codes "DEF", line_of_definition fault, name_of_definition fault)
row_of (Units fault) = (codes "UNITS", line_of_units fault, name_of_units fault)
row_of (Fit fault) = (text_of_fit fault, line_of_fit fault, name_of_fit fault)
row_of Memory = (codes "Memory", 0, codes "Memory")

abbrev pub text_of : ApplicationFault → List ℕ
text_of fault = (row_of fault).0

abbrev pub line_of : ApplicationFault → ℕ
line_of fault = (row_of fault).1

abbrev pub name_of : ApplicationFault → List ℕ
name_of fault = (row_of fault).2
