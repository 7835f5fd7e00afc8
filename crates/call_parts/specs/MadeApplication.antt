-- What the made texts say: the made application, and its script.
use Rattle.std.specs.Prelude.{◌≡◌, ℕ, List, Ok}
use Rattle.application_types.specs.Statements.{IsWithin}
use Rattle.application_types.specs.Fitted.{FittedUnits}
use Rattle.application_read.specs.declared.application.Application.{Application as Read}
use Rattle.application_read.specs.Texts.{TextsGenerate}
use Rattle.laws_of_runs.specs.Applied.{applied}
use Rattle.abstract_monitor.specs.Made.{made_generation, made_application, made_script}
use Rattle.script_read.specs.Commands.{script_in}
use Rattle.call_parts.specs.MadeTexts.{definition_text, units_text, script_text}

-- its units, as they were fitted to its generation
abbrev pub fitted_units : FittedUnits
fitted_units = record { units = made_application.units; limits = made_generation.limits; tacs = made_generation.tacs }

-- the made application, as it is read
abbrev pub generated_application : Read
generated_application = record { generation = made_generation; units = fitted_units }

-- the texts of `make` with n inputs
pub record AreMade (n : ℕ) (definition units script : List ℕ) : Type 0 where
  pub definition_is : definition ≡ definition_text
  pub units_are : units ≡ units_text
  pub script_is : script ≡ script_text n

-- no text of `make` is refused
pub record MadeTextsAreTaken : Type 0 where
  pub application : TextsGenerate definition_text units_text generated_application
  -- a monitor runs the made application
  pub applied : applied generated_application.generation generated_application.units ≡ made_application
  pub script : (n : ℕ) → IsWithin 1 20000 n → script_in generated_application.generation (script_text n) ≡ Ok (made_script n)
