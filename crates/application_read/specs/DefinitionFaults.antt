-- The line of a fault, and the name by which it is printed.
use Rattle.std.specs.Prelude.{ℕ, List, codes}
use Rattle.texts.specs.Faults.{line_of as line_of_lex, name_of as name_of_lex}
use Rattle.kdcdef_read.specs.Faults.{line_of as line_of_read, name_of as name_of_read}
use Rattle.application_check.specs.Faults.{line_of as line_of_check, name_of as name_of_check}
use Rattle.application_read.specs.declared.definition_fault.DefinitionFault.{DefinitionFault}
use Rattle.application_read.specs.declared.definition_fault.DefinitionFault.TheVariants.{Lex, Read, Check, Memory}

-- the line, counted from 1; a text that is too long has line 0
abbrev pub line_of : DefinitionFault → ℕ
line_of (Lex fault) = line_of_lex fault
line_of (Read fault) = line_of_read fault
line_of (Check fault) = line_of_check fault
line_of Memory = 0

-- the name; want of memory is no fault of a text
abbrev pub name_of : DefinitionFault → List ℕ
name_of (Lex fault) = name_of_lex fault
name_of (Read fault) = name_of_read fault
name_of (Check fault) = name_of_check fault
name_of Memory = codes "Memory"
