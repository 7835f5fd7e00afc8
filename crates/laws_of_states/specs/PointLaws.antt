-- Which ends of transactions and which commands leave tables that suit.
use Rattle.std.specs.Prelude.{◌≡◌, ◌≤◌, ℕ, IsTrue, Some, None}
use Rattle.std.specs.List.{list_all}
use Rattle.kdcs_types.specs.declared.key.ServiceId.{ServiceId}
use Rattle.kdcs_types.specs.declared.key.ServiceId.TheVariants.{Dialogue}
use Rattle.kdcs_types.specs.declared.service.Job.{Job}
use Rattle.kd_base.specs.Limits.{last_clock}
use Rattle.kdcs_types.specs.Tables.{TableRows, IsSortedTables}
use Rattle.application_types.specs.Generation.{Generated}
use Rattle.abstract_monitor.specs.declared.outcome.Outcome.{Outcome}
use Rattle.abstract_monitor.specs.Bytes.{Bytes}
use Rattle.abstract_monitor.specs.Charges.{total_charge}
use Rattle.abstract_monitor.specs.Commands.{due_for, shown_tables}
use Rattle.abstract_monitor.specs.Endings.{is_asynchronous, with_service, synchronised, broken, durable, refusal}
use Rattle.abstract_monitor.specs.State.{OpenTransaction, State}
use Rattle.laws_of_states.specs.Suits.{Suits, service_suits}
use Rattle.laws_of_states.specs.Transactions.{IsRooted, CanGoOn}
use Rattle.laws_of_states.specs.OpenLaws.{OutcomeFits}

-- tables in order, whose durable part suits, with rows that suit
pub record AreSound (g : Generated) (t : TableRows) : Type 0 where
  pub order : IsSortedTables t
  pub suits : Suits g (durable g t)
  pub rows : IsTrue (list_all (service_suits g) t.services)

-- a transaction that can go on, at an outcome that has its follow-up
pub record IsSoundlyOpen (g : Generated) (t : TableRows) (id : ServiceId) (x : OpenTransaction) : Type 0 where
  pub sound : AreSound g t
  pub can : CanGoOn g id x
  pub rooted : IsRooted t id x

-- a synchronisation point that is not refused
abbrev pub PointsStaySound : Type 0
PointsStaySound =
    (g : Generated) (t : TableRows) (id : ServiceId) (x : OpenTransaction) (o : Outcome) → IsSoundlyOpen g t id x → OutcomeFits g (is_asynchronous id) o
    → refusal g (durable g (synchronised g t id x o)) ≡ None → AreSound g (synchronised g t id x o)

-- the pages of the durable tables are no more
abbrev pub TakesNoMore : Generated → (before after : TableRows) → Type 0
TakesNoMore g before after = total_charge g.limits.blksize (durable g after) ≤ total_charge g.limits.blksize (durable g before)

-- an abnormal end
pub record EndSound (g : Generated) (before after : TableRows) : Type 0 where
  pub sound : AreSound g after
  pub charge : TakesNoMore g before after

abbrev pub EndsStaySound : Type 0
EndsStaySound = (g : Generated) (t : TableRows) (id : ServiceId) (x : OpenTransaction) → AreSound g t → EndSound g t (broken g t id x)

-- without the row of a user who signs off
abbrev pub SignOffsStaySound : Type 0
SignOffsStaySound = (g : Generated) (t : TableRows) (user : Bytes) → AreSound g t → EndSound g t (with_service t (Dialogue user) None)

-- KDCOUT and PRINT: the due job of an LTERM becomes its shown message
abbrev pub ShowsStaySound : Type 0
ShowsStaySound = (g : Generated) (s : State) (lterm : Bytes) (job : Job) → AreSound g s.tables → due_for s lterm ≡ Some job → EndSound g s.tables (shown_tables s.tables lterm job)

-- TICK within the greatest clock
abbrev pub TicksStaySound : Type 0
TicksStaySound = (g : Generated) (t : TableRows) (clock : ℕ) → AreSound g t → clock ≤ last_clock → EndSound g t (record t { clock = clock })

-- a warm start from durable tables, and a start from tables that suit
pub record StartsAreSound : Type 0 where
  pub warm : (g : Generated) (t : TableRows) → AreSound g t → EndSound g t (durable g t)
  pub suiting : (g : Generated) (t : TableRows) → IsSortedTables t → Suits g t → AreSound g t
