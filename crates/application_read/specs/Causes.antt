-- The fault of a definition for a fault of one reader.
use Rattle.texts.specs.declared.kdcdef_lex.fault.LexFault.{LexFault}
use Rattle.texts.specs.Reading.{is_memory as is_lex_memory}
use Rattle.kdcdef_read.specs.declared.fault.ReadFault.{ReadFault}
use Rattle.kdcdef_read.specs.Faults.{is_memory as is_read_memory}
use Rattle.application_check.specs.declared.kdcdef_check.fault.CheckFault.{CheckFault}
use Rattle.application_check.specs.Faults.{is_memory as is_check_memory}
use Rattle.application_read.specs.declared.definition_fault.DefinitionFault.{DefinitionFault}
use Rattle.application_read.specs.declared.definition_fault.DefinitionFault.TheVariants.{Lex, Read, Check, Memory}
use Rattle.application_read.specs.Handed.{handed_in}

abbrev pub of_lex : LexFault → DefinitionFault
of_lex fault = handed_in Memory is_lex_memory (λ (x : LexFault). Lex x) fault

abbrev pub of_read : ReadFault → DefinitionFault
of_read fault = handed_in Memory is_read_memory (λ (x : ReadFault). Read x) fault

abbrev pub of_check : CheckFault → DefinitionFault
of_check fault = handed_in Memory is_check_memory (λ (x : CheckFault). Check x) fault
