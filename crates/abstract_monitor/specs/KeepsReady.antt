-- A run that can be stepped stays so: after a plain statement, and after a call's answer.
use Rattle.std.specs.Prelude.{◌≡◌, length}
use Rattle.kdcs_types.specs.declared.call.Reply.{Reply}
use Rattle.kdcs_types.specs.declared.run_state.RunState.{RunState}
use Rattle.application_types.specs.UnitText.{UnitText, LabelsFromOne}
use Rattle.abstract_monitor.specs.Statement.{Meaning, Plain, Asks, Ends, step, answered}
use Rattle.abstract_monitor.specs.Ready.{IsReady, CanAnswer}

-- the areas keep their lengths
pub record SameLengths (old new : RunState) : Type 0 where
  pub kb : length new.kb ≡ length old.kb
  pub spab : length new.spab ≡ length old.spab

-- where a statement leads on, the run stays ready, in areas of the same lengths
abbrev pub StaysReady : UnitText → RunState → Meaning → Type 0
StaysReady unit run (Plain after) = IsReady unit after × SameLengths run after
StaysReady unit run (Asks call) = Unit {0}
StaysReady unit run (Ends cause) = Unit {0}

abbrev pub StepsStayReady : Type 0
StepsStayReady = (unit : UnitText) (run : RunState) → LabelsFromOne unit → IsReady unit run → StaysReady unit run (step unit run)

abbrev pub AnswersStayReady : Type 0
AnswersStayReady =
    (unit : UnitText) (run : RunState) (reply : Reply) → IsReady unit run → CanAnswer unit run reply → IsReady unit (answered unit run reply) × SameLengths run (answered unit run reply)
