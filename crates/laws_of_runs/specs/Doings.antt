-- What the step of each commit makes of the tables, by what made the commit.
use Rattle.std.specs.Prelude.{◌≡◌, ℕ, List, [], ◌∷◌, ◌++◌, Option, Some, None}
use Rattle.std.specs.FinMap.{find}
use Rattle.kdcs_types.specs.declared.act.Act.{Act}
use Rattle.kdcs_types.specs.declared.key.ServiceId.{ServiceId}
use Rattle.kdcs_types.specs.declared.service.Ending.{Ending}
use Rattle.kdcs_types.specs.declared.service.Ending.TheVariants.{Synced, Broken, BrokenFr}
use Rattle.kdcs_types.specs.declared.service.Job.{Job}
use Rattle.kdcs_types.specs.declared.service.Settled.{Settled}
use Rattle.kdcs_types.specs.Keys.{id_cmp}
use Rattle.kdcs_types.specs.Tables.{TableRows}
use Rattle.abstract_monitor.specs.declared.answer.Happened.{Happened}
use Rattle.abstract_monitor.specs.declared.answer.Happened.TheVariants.{Went, Queued, Waited, Held, Settles, Breaks, Returns}
use Rattle.abstract_monitor.specs.declared.outcome.Outcome.{Outcome}
use Rattle.abstract_monitor.specs.declared.outcome.Outcome.TheVariants.{Wait, Finish}
use Rattle.abstract_monitor.specs.Bytes.{Bytes}
use Rattle.abstract_monitor.specs.State.{Application, OpenTransaction, State}
use Rattle.abstract_monitor.specs.Endings.{synchronised, broken}
use Rattle.abstract_monitor.specs.Statements.{kept_record}
use Rattle.abstract_monitor.specs.Turns.{commit_of, dump_acts, ended_acts, message_acts, statement_now}
use Rattle.abstract_monitor.specs.Commands.{ScriptStep, Maker, ByTick, ByShow, ByTransaction, due_for, shown_tables}
use Rattle.laws_of_states.specs.Commits.{EndsSo, SendsNext}

-- the tables after a synchronisation point, or after an abnormal end
abbrev pub tables_by : Application → TableRows → ServiceId → OpenTransaction → Happened → Ending → TableRows
tables_by app t id x (Settles o) Synced = synchronised app.generation t id x o
tables_by app t id x (Settles o) (Broken cause) = broken app.generation t id x
tables_by app t id x (Settles o) BrokenFr = broken app.generation t id x
tables_by app t id x (Breaks by) ending = broken app.generation t id x
tables_by app t id x Went ending = broken app.generation t id x
tables_by app t id x Queued ending = broken app.generation t id x
tables_by app t id x (Held tac) ending = broken app.generation t id x
tables_by app t id x Waited ending = broken app.generation t id x
tables_by app t id x Returns ending = broken app.generation t id x

-- PEND RE and FI send the message of a dialogue service
abbrev pub point_lines : State → ServiceId → OpenTransaction → Outcome → List Act
point_lines s id x (Wait tac) = message_acts s id x
point_lines s id x Finish = message_acts s id x
point_lines s id x _ = []

-- the lines after a commit
abbrev pub lines_by : State → ServiceId → OpenTransaction → Happened → Ending → List Act
lines_by s id x (Settles o) Synced = point_lines s id x o
lines_by s id x (Settles o) (Broken cause) = dump_acts id x (Broken cause) ++ ended_acts s id
lines_by s id x (Settles o) BrokenFr = dump_acts id x BrokenFr ++ ended_acts s id
lines_by s id x (Breaks by) ending = dump_acts id x ending ++ ended_acts s id
lines_by s id x _ ending = []

-- the next statement of an open transaction, of which this is the record, ended it, made these tables, and sent these lines after its commit
pub record Settling (app : Application) (s : State) (kept : Settled) (after : TableRows) (acts : List Act) : Type 0 where
  pub own : OpenTransaction
  pub was_open : find id_cmp kept.service s.active ≡ Some own
  pub kept_is : kept ≡ kept_record kept.service own kept.ending
  pub ends : EndsSo app s.tables kept.service own (statement_now app s kept.service own).1 kept.ending
  pub gives : after ≡ tables_by app s.tables kept.service own (statement_now app s kept.service own).1 kept.ending
  pub sends : acts ≡ commit_of app s.tables after ∷ lines_by s kept.service own (statement_now app s kept.service own).1 kept.ending

-- the due job of an LTERM is shown there, and its message is sent next
pub record Showing (app : Application) (s : State) (lterm : Bytes) (d : ScriptStep) : Type 0 where
  pub job : Job
  pub due : due_for s lterm ≡ Some job
  pub gives : d.after.tables ≡ shown_tables s.tables lterm job
  pub sends : SendsNext app lterm job.value.message d.acts

-- the clock alone is another
pub record Ticking (s : State) (d : ScriptStep) : Type 0 where
  pub clock : ℕ
  pub gives : d.after.tables ≡ record s.tables { clock = clock }

-- what a commit is, by its maker
abbrev pub StepMakes : Application → State → ScriptStep → Option Maker → Type 0
StepMakes app s d None = Unit {0}
StepMakes app s d (Some (ByTick ticks)) = Ticking s d
StepMakes app s d (Some (ByShow lterm)) = Showing app s lterm d
StepMakes app s d (Some (ByTransaction kept)) = Settling app s kept d.after.tables d.acts
