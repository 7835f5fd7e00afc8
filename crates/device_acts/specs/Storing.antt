-- Which commits can be stored, and that those of turns and commands are.
use Rattle.std.specs.Prelude.{◌≡◌, ◌≤◌, ℕ, ⊤, List, [], ◌∷◌, All}
use Rattle.kd_records.specs.Charge.{total_charge as records_charge}
use Rattle.kd_records.specs.Contents.{patched, IsPatch}
use Rattle.kdcs_types.specs.declared.act.Act.{Act}
use Rattle.kdcs_types.specs.declared.act.Act.TheVariants.{Commit, Emit}
use Rattle.kdcs_types.specs.declared.act.Changes.{Changes}
use Rattle.kdcs_types.specs.Tables.{TableRows, changed}
use Rattle.application_types.specs.Soundness.{AreLimits}
use Rattle.application_types.specs.Statements.{IsWithin}
use Rattle.abstract_monitor.specs.State.{Application, State}
use Rattle.abstract_monitor.specs.Endings.{durable}
use Rattle.abstract_monitor.specs.Turns.{turn_of}
use Rattle.abstract_monitor.specs.Commands.{command_of}
use Rattle.abstract_monitor.specs.declared.command.Command.{Command}
use Rattle.laws_of_states.specs.Applications.{IsApplication}
use Rattle.abstract_monitor.specs.CommandsOf.{IsCommandOf}
use Rattle.laws_of_states.specs.Keeping.{HasFacts}
use Rattle.record_codec.specs.Records.{content_of_tables, patch_of}
use Rattle.record_codec.specs.Values.{HasShortChange}
use Rattle.device_acts.specs.Stands.{AreTables}
use Rattle.device_acts.specs.Named.{IsNamedAct}

-- the changes make, of proper tables that are stored in so many pages, tables that can be stored there too
pub record CanBeStored (block pages : ℕ) (t : TableRows) (c : Changes) : Type 0 where
  pub short : All HasShortChange c.items
  pub patch : IsPatch (patch_of c)
  pub before : records_charge block (content_of_tables t).items ≤ pages
  pub records : patched (content_of_tables t) (patch_of c) ≡ content_of_tables (changed t c)
  pub after : records_charge block (content_of_tables (changed t c)).items ≤ pages
  pub tables : AreTables (changed t c)

-- so do all commits of some acts, one after another
abbrev pub AreStorable : (block pages : ℕ) → TableRows → List Act → Type 0
AreStorable block pages t [] = ⊤
AreStorable block pages t (Commit c ∷ acts) = CanBeStored block pages t c × AreStorable block pages (changed t c) acts
AreStorable block pages t (Emit line ∷ acts) = AreStorable block pages t acts

-- the acts of a turn, whose names are names, under a generation within its ranges
abbrev pub TurnsCanBeStored : Type 0
TurnsCanBeStored =
    (app : Application) (s : State) (task : ℕ) → IsApplication app → AreLimits app.generation.limits → IsWithin 1 app.generation.limits.tasks task → HasFacts app s → AreTables (durable app.generation s.tables) → All IsNamedAct (turn_of app s task).acts
    → AreStorable app.generation.limits.blksize app.generation.limits.pgpool (durable app.generation s.tables) (turn_of app s task).acts

-- the acts of a command of one step, likewise
abbrev pub CommandsCanBeStored : Type 0
CommandsCanBeStored =
    (app : Application) (s : State) (c : Command) → IsApplication app → AreLimits app.generation.limits → IsCommandOf app.generation c → HasFacts app s → AreTables (durable app.generation s.tables) → All IsNamedAct (command_of app s c).acts
    → AreStorable app.generation.limits.blksize app.generation.limits.pgpool (durable app.generation s.tables) (command_of app s c).acts
