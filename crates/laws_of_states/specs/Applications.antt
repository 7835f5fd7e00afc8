-- What a monitor may take of its application: what checked generations and fitted units give.
use Rattle.std.specs.Prelude.{◌≡◌, ◌≤◌, ◌+◌, cond, length, Some, IsTrue, IfSome, All}
use Rattle.kd_base.specs.Limits.{longest_content}
use Rattle.application_types.specs.declared.kdcdef_types.entry.LtermEntry.{LtermEntry}
use Rattle.application_types.specs.declared.kdcdef_types.entry.PtermEntry.{PtermEntry}
use Rattle.application_types.specs.declared.kdcdef_types.entry.TacEntry.{TacEntry}
use Rattle.application_types.specs.declared.kdcdef_types.entry.UserEntry.{UserEntry}
use Rattle.application_types.specs.declared.kdcdef_types.limits.Limits.{Limits}
use Rattle.application_types.specs.Generation.{Generated, tac_of, user_of, lterm_of, pterm_of}
use Rattle.application_types.specs.declared.unit_types.unit.Field.{Field}
use Rattle.application_types.specs.UnitText.{UnitText, KnowsItsLabels, LabelsFromOne, HasShortOperands}
use Rattle.abstract_monitor.specs.Bytes.{Bytes}
use Rattle.abstract_monitor.specs.State.{Application, unit_of}
use Rattle.laws_of_states.specs.Suits.{is_lterm}

-- a field lies inside KB or SPAB of these lengths
abbrev pub LiesInside : Limits → Field → Type 0
LiesInside m f = f.offset + f.length ≤ cond f.spab m.spab m.kb

-- a unit that was fitted: its fields lie inside their areas, each jump has its label, labels count from one, and no literal is longer than an area may be
pub record IsFittedUnit (m : Limits) (unit : UnitText) : Type 0 where
  pub fields : All (LiesInside m) unit.fields
  pub labels : KnowsItsLabels unit
  pub labels_from_one : LabelsFromOne unit
  pub literals : HasShortOperands unit

-- the TAC has a fitted unit
abbrev pub HasUnit : Application → Bytes → Type 0
HasUnit app tac = (unit : UnitText) × (unit_of app tac ≡ Some unit) × IsFittedUnit app.generation.limits unit

-- what a unit reads of its header: no TAC, user or LTERM has a name of more than 8 bytes
pub record HasShortNames (g : Generated) : Type 0 where
  pub tacs : (tac : Bytes) → IfSome (tac_of g tac) (λ (t : TacEntry). length tac ≤ 8)
  pub users : (user : Bytes) → IfSome (user_of g user) (λ (u : UserEntry). length user ≤ 8)
  pub lterms : (lterm : Bytes) → IfSome (lterm_of g lterm) (λ (l : LtermEntry). length lterm ≤ 8)

-- a generation within its ranges, with a fitted unit for each of its TACs
pub record IsApplication (app : Application) : Type 0 where
  pub tasks : 1 ≤ app.generation.limits.tasks
  pub kb : app.generation.limits.kb ≤ longest_content
  pub spab : app.generation.limits.spab ≤ longest_content
  pub nb : app.generation.limits.nb ≤ 32700
  pub names : HasShortNames app.generation
  -- each PTERM has an LTERM of the generation
  pub terminals : (pterm : Bytes) → IfSome (pterm_of app.generation pterm) (λ (p : PtermEntry). IsTrue (is_lterm app.generation p.lterm))
  pub units : (tac : Bytes) → IfSome (tac_of app.generation tac) (λ (t : TacEntry). HasUnit app tac)
