-- What a definition and its units generate, and their first fault.
use Rattle.std.specs.Prelude.{ℕ, Bool, true, false, List, Result}
use Rattle.kd_base.specs.FirstFaults.{GivesUnless}
use Rattle.application_types.specs.Generation.{Generated}
use Rattle.application_read.specs.Definition.{Generates, HasFault}
use Rattle.application_types.specs.UnitText.{UnitText}
use Rattle.unit_read.specs.Spelling.{SpellsUnits}
use Rattle.unit_read.specs.Faults.{HasTextFault}
use Rattle.application_types.specs.Fitted.{FittedUnits, AreFittedTo}
use Rattle.application_check.specs.FitFaults.{IsFirstFault}
use Rattle.application_read.specs.declared.application.Application.{Application}
use Rattle.application_read.specs.declared.fault.ApplicationFault.{ApplicationFault}
use Rattle.application_read.specs.declared.fault.ApplicationFault.TheVariants.{Definition, Units, Fit, Memory}

-- the text spells units that fit the generation: these
abbrev pub SpellsFitted : Generated → List ℕ → FittedUnits → Type 0
SpellsFitted g text fitted = (us : List UnitText) × SpellsUnits text us × AreFittedTo g us fitted

-- the definition makes this generation, and the other text spells these units, which fit it
abbrev pub TextsGenerate : (definition units : List ℕ) → Application → Type 0
TextsGenerate definition units a = Generates definition a.generation × SpellsFitted a.generation units a.units

-- the first fault of the texts: of the definition, else of the units by themselves, else of their fit
abbrev pub TextsHaveFault : (definition units : List ℕ) → ApplicationFault → Type 0
TextsHaveFault definition units (Definition fault) = HasFault definition fault
TextsHaveFault definition units (Units fault) = ((g : Generated) × Generates definition g) × HasTextFault units fault
TextsHaveFault definition units (Fit fault) = (g : Generated) × (us : List UnitText) × Generates definition g × SpellsUnits units us × IsFirstFault g us fault
TextsHaveFault definition units Memory = ⊥

abbrev pub is_memory : ApplicationFault → Bool
is_memory Memory = true
is_memory _ = false

-- what came back is this, unless memory ran out
abbrev pub Gives : Result Application ApplicationFault → Result Application ApplicationFault → Type 0
Gives answer wanted = GivesUnless is_memory answer wanted
