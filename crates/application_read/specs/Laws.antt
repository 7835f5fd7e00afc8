-- What holds of all that texts generate.
use Rattle.std.specs.Prelude.{ℕ, List}
use Rattle.application_types.specs.Generation.{Generated}
use Rattle.application_types.specs.Soundness.{IsSound}
use Rattle.application_types.specs.Fitted.{IsFit, AreFit}
use Rattle.application_read.specs.Definition.{Generates}
use Rattle.application_read.specs.Texts.{TextsGenerate}
use Rattle.application_read.specs.declared.application.Application.{Application}

-- a generation keeps all that is asked of one
abbrev pub GenerationsAreSound : Type 0
GenerationsAreSound = (text : List ℕ) (g : Generated) → Generates text g → IsSound g

-- the units of an application were fitted to its generation, and fit it
abbrev pub UnitsFit : Type 0
UnitsFit =
    (definition units : List ℕ) (a : Application) → TextsGenerate definition units a
    → IsFit a.generation a.units × AreFit a.units.limits a.units.tacs a.units.units
