-- What the text of a definition generates, and its first fault.
use Rattle.std.specs.Prelude.{◌≡◌, ℕ, Bool, true, false, List, Result}
use Rattle.kd_base.specs.FirstFaults.{GivesUnless}
use Rattle.texts.specs.declared.kdcdef_lex.statement.RawStatement.{RawStatement}
use Rattle.texts.specs.Spelling.{SpellsStatements}
use Rattle.texts.specs.Faults.{HasTextFault}
use Rattle.application_types.specs.declared.kdcdef_types.statement.Statement.{Statement}
use Rattle.application_types.specs.Generation.{Generated}
use Rattle.kdcdef_read.specs.Meaning.{StandFor, HasFault as HasReadFault}
use Rattle.application_check.specs.Generating.{generated}
use Rattle.application_check.specs.Faults.{AreFaultless, IsFirstFault}
use Rattle.application_read.specs.declared.definition_fault.DefinitionFault.{DefinitionFault}
use Rattle.application_read.specs.declared.definition_fault.DefinitionFault.TheVariants.{Lex, Read, Check, Memory}

-- the text spells raw statements, which stand for these
abbrev pub Says : List ℕ → List Statement → Type 0
Says text ss = (raw : List RawStatement) × SpellsStatements text raw × StandFor raw ss

-- the text says statements without a fault, which generate this
abbrev pub Generates : List ℕ → Generated → Type 0
Generates text g = (ss : List Statement) × Says text ss × AreFaultless ss × (g ≡ generated ss)

-- the first fault of the text: of its spelling, else of a statement by itself, else of the statements together
abbrev pub HasFault : List ℕ → DefinitionFault → Type 0
HasFault text (Lex fault) = HasTextFault text fault
HasFault text (Read fault) = (raw : List RawStatement) × SpellsStatements text raw × HasReadFault raw fault
HasFault text (Check fault) = (ss : List Statement) × Says text ss × IsFirstFault ss fault
HasFault text Memory = ⊥

abbrev pub is_memory : DefinitionFault → Bool
is_memory Memory = true
is_memory fault = false

-- what came back is this, unless memory ran out
abbrev pub Gives : Result Generated DefinitionFault → Result Generated DefinitionFault → Type 0
Gives returned wanted = GivesUnless is_memory returned wanted
