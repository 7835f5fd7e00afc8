-- A statement that breaks its transaction ends it abnormally.
use Rattle.std.specs.Prelude.{Bool, Option, Some, None}
use Rattle.kd_base.specs.declared.words.Variant.{Variant}
use Rattle.kd_base.specs.declared.words.Variant.TheVariants.{Fr}
use Rattle.kdcs_types.specs.declared.service.Ending.{Ending}
use Rattle.kdcs_types.specs.declared.service.Ending.TheVariants.{Synced, Broken, BrokenFr}
use Rattle.application_types.specs.UnitText.{UnitText}
use Rattle.abstract_monitor.specs.Statement.{Meaning, Plain, Asks, Ends, step}
use Rattle.abstract_monitor.specs.declared.answer.Called.{Called}
use Rattle.abstract_monitor.specs.declared.answer.Called.TheVariants.{Replied, Waits, Abnormal, Pends}
use Rattle.abstract_monitor.specs.declared.answer.Happened.{Happened}
use Rattle.abstract_monitor.specs.declared.answer.Happened.TheVariants.{Breaks}
use Rattle.abstract_monitor.specs.declared.outcome.Outcome.{Outcome}
use Rattle.abstract_monitor.specs.declared.outcome.Outcome.TheVariants.{Break}
use Rattle.abstract_monitor.specs.Calls.{Told, call_outcome}
use Rattle.abstract_monitor.specs.State.{Application, OpenTransaction, unit_of}
use Rattle.abstract_monitor.specs.Statements.{break_ending, by_outcome, by_call, by_step, in_unit, statement}

-- no synchronisation point
abbrev pub IsAbnormal : Ending → Type 0
IsAbnormal Synced = ⊥
IsAbnormal (Broken cause) = Unit {0}
IsAbnormal BrokenFr = Unit {0}

abbrev pub NoPoint : Happened → Type 0
NoPoint (Breaks ending) = IsAbnormal ending
NoPoint _ = Unit {0}

variants_break : (variant : Variant) → IsAbnormal (break_ending variant)
variants_break Fr = tt
variants_break _ = tt

outcome_breaks : (app : Application) (asynchronous : Bool) (x : OpenTransaction) (variant : Variant) (o : Outcome) → NoPoint (by_outcome app asynchronous x variant o).1
outcome_breaks app asynchronous x variant Break = variants_break variant
outcome_breaks app asynchronous x variant _ = tt

call_breaks : (app : Application) (asynchronous : Bool) (unit : UnitText) (x : OpenTransaction) (c : Called) → NoPoint (by_call app asynchronous unit x c).1
call_breaks app asynchronous unit x (Replied reply) = tt
call_breaks app asynchronous unit x Waits = tt
call_breaks app asynchronous unit x (Abnormal cause) = tt
call_breaks app asynchronous unit x (Pends variant o) = outcome_breaks app asynchronous x variant o

step_breaks : (app : Application) (v : Told) (asynchronous : Bool) (x : OpenTransaction) (unit : UnitText) (m : Meaning) → NoPoint (by_step app v asynchronous x unit m).1
step_breaks app v asynchronous x unit (Plain after) = tt
step_breaks app v asynchronous x unit (Ends cause) = tt
step_breaks app v asynchronous x unit (Asks call) = let p = call_outcome app.generation v asynchronous x call in call_breaks app asynchronous unit p.0 p.1

unit_breaks : (app : Application) (v : Told) (asynchronous : Bool) (x : OpenTransaction) (o : Option UnitText) → NoPoint (in_unit app v asynchronous x o).1
unit_breaks app v asynchronous x None = tt
unit_breaks app v asynchronous x (Some unit) = step_breaks app v asynchronous x unit (step unit x.run)

pub breaks_abnormally : (app : Application) (v : Told) (asynchronous : Bool) (x : OpenTransaction) → NoPoint (statement app v asynchronous x).1
unfolding statement
breaks_abnormally app v asynchronous x = unit_breaks app v asynchronous x (unit_of app x.current)
