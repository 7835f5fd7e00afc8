-- The contents of tables, and an open transaction once its unit is stepped.
use Rattle.std.specs.Prelude.{◌≡◌, Some}
use Rattle.std.proofs.Common.{sym, subst}
use Rattle.kdcs_types.specs.declared.call.Call.{Call}
use Rattle.kdcs_types.specs.declared.key.ServiceId.{ServiceId}
use Rattle.kdcs_types.specs.Tables.{TableRows}
use Rattle.application_types.specs.Generation.{Generated}
use Rattle.application_types.specs.UnitText.{UnitText}
use Rattle.abstract_monitor.specs.Statement.{step}
use Rattle.service_parts.specs.Answers.{meaning_of}
use Rattle.service_parts.specs.declared.unit_step.stepped.Stepped.{Stepped}
use Rattle.service_parts.specs.declared.unit_step.stepped.Stepped.TheVariants as stepped
use Rattle.monitor_parts.specs.Asked.{no_locks}
use Rattle.abstract_monitor.specs.Locks.{told_now}
use Rattle.abstract_monitor.specs.State.{Application}
use Rattle.laws_of_states.specs.OpenLaws.{StandsIn}
use Rattle.laws_of_states.specs.PointLaws.{AreSound}
use Rattle.laws_of_states.specs.StatesLaws.{told_fits}
use Rattle.open_transaction.specs.declared.open.OpenTransaction.{OpenTransaction}
use Rattle.open_transaction.specs.Transactions.{transaction_of}
use Rattle.kdcs_calls.specs.Stating.{ContentsFit, StepLeaves}

-- contents of sound tables
pub contents_fit : (g : Generated) (t : TableRows) (id : ServiceId) → AreSound g t → ContentsFit t
unfolding told_now
contents_fit g t id sound area = told_fits g t no_locks 0 id (Some area) sound

-- what a step has left of the transaction, and what it means, by what it comes to
module _ (x y : OpenTransaction) (s : Stepped) (leaves : StepLeaves x y s) where
  pub left : (r : Stepped) → s ≡ r → StepLeaves x y r
  left r is = subst (StepLeaves x y) is leaves

  pub asks_stands : (app : Application) (unit : UnitText) (call : Call) → s ≡ stepped.Asks call → StandsIn app x.id (transaction_of x) unit → StandsIn app y.id (transaction_of y) unit
  asks_stands app unit call is stands = subst (λ (w : OpenTransaction). StandsIn app w.id (transaction_of w) unit) (sym (left (stepped.Asks call) is)) stands

pub means : (x y : OpenTransaction) (unit : UnitText) (s : Stepped) → meaning_of s y.run ≡ step unit x.run → (r : Stepped) → s ≡ r → meaning_of r y.run ≡ step unit x.run
means x y unit s meaning r is = subst (λ (k : Stepped). meaning_of k y.run ≡ step unit x.run) is meaning
