-- The next statement of a replay, from the step of its unit.
use Rattle.std.specs.Prelude.{◌≡◌, Option, Some, Result, IfOk}
use Rattle.std.proofs.Common.{ap, ◌∙◌}
use Rattle.std.proofs.lemmas.Result.{IfOk-weaker}
use Rattle.kdcs_types.specs.declared.call.Call.{Call}
use Rattle.kdcs_types.specs.declared.call.Cause.{Cause}
use Rattle.kdcs_types.specs.declared.service.Ending.TheVariants.{Broken}
use Rattle.kdcs_types.specs.Tables.{TableRows}
use Rattle.application_types.specs.UnitText.{UnitText}
use Rattle.abstract_monitor.specs.Statement.{Meaning, Plain, Asks, Ends, step}
use Rattle.service_parts.specs.Answers.{meaning_of}
use Rattle.service_parts.specs.declared.unit_step.stepped.Stepped.{Stepped}
use Rattle.service_parts.specs.declared.unit_step.stepped.Stepped.TheVariants as stepped
use Rattle.abstract_monitor.specs.declared.answer.Happened.{Happened}
use Rattle.abstract_monitor.specs.declared.answer.Happened.TheVariants.{Went, Breaks}
use Rattle.abstract_monitor.specs.Endings.{is_asynchronous}
use Rattle.abstract_monitor.specs.State.{Application, OpenTransaction as Transaction, unit_of}
use Rattle.abstract_monitor.specs.Statements.{Kept, area_in_unit, area_of, area_of_step, by_step, in_unit, statement}
use Rattle.laws_of_states.specs.Replay.{replay_statement, replay_told}
use Rattle.open_transaction.specs.declared.open.OpenTransaction.{OpenTransaction}
use Rattle.open_transaction.specs.Transactions.{transaction_of}
use Rattle.kdcs_calls.specs.Stating.{StepLeaves}
use Rattle.kdcs_calls.specs.StatingLaws.{left, means}
use Rattle.serial_audit.specs.Asking.{call_replayed}

module _ (app : Application) (t : TableRows) (r : Kept) where
  stated : (x : Transaction) (unit : UnitText) (m : Meaning) → Some unit ≡ unit_of app x.current → m ≡ step unit x.run
      → by_step app (replay_told t r x (area_of_step x m)) (is_asynchronous r.service) x unit m ≡ replay_statement app t r x
  unfolding statement area_of
  stated x unit m found is =
      ap (λ (n : Meaning). by_step app (replay_told t r x (area_of_step x n)) (is_asynchronous r.service) x unit n) is
      ∙ ap (λ (o : Option UnitText). in_unit app (replay_told t r x (area_in_unit x o)) (is_asynchronous r.service) x o) found

  module _ (w v : OpenTransaction) (unit : UnitText) (found : Some unit ≡ unit_of app w.current) (s : Stepped) (meaning : meaning_of s v.run ≡ step unit w.run) (leaves : StepLeaves w v s) where
    -- a plain statement
    pub plain_stated : s ≡ stepped.Plain → (transaction_of v, Went) ≡ replay_statement app t r (transaction_of w)
    plain_stated is =
        ap (λ (k : OpenTransaction). (transaction_of k, Went)) (left w v s leaves stepped.Plain is)
        ∙ stated (transaction_of w) unit (Plain v.run) found (means w v unit s meaning stepped.Plain is)

    pub plain_touches : s ≡ stepped.Plain → (transaction_of v).touched ≡ (transaction_of w).touched
    plain_touches is = ap (λ (k : OpenTransaction). k.touched) (left w v s leaves stepped.Plain is)

    -- an end
    pub end_stated : (cause : Cause) → s ≡ stepped.Ends cause → (transaction_of v, Breaks (Broken cause)) ≡ replay_statement app t r (transaction_of w)
    end_stated cause is =
        ap (λ (k : OpenTransaction). (transaction_of k, Breaks (Broken cause))) (left w v s leaves (stepped.Ends cause) is)
        ∙ stated (transaction_of w) unit (Ends cause) found (means w v unit s meaning (stepped.Ends cause) is)

    module _ (call : Call) (is : s ≡ stepped.Asks call) where
      -- a call: nothing has changed
      call_same : v ≡ w
      call_same = left w v s leaves (stepped.Asks call) is

      pub call_stated : {E : Type 0} (z : Transaction) (o : Result Happened E)
          → IfOk o (λ (h : Happened). (z, h) ≡ call_replayed app t r (transaction_of v) unit call)
          → IfOk o (λ (h : Happened). (z, h) ≡ replay_statement app t r (transaction_of w))
      call_stated z o e =
          IfOk-weaker o _ _
          (λ h k.
          k
          ∙ ap (λ (j : OpenTransaction). call_replayed app t r (transaction_of j) unit call) call_same
          ∙ stated (transaction_of w) unit (Asks call) found (means w v unit s meaning (stepped.Asks call) is))
          e
