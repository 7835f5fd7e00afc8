-- When a unit run can be stepped, and when a call's answer can be stored.
use Rattle.std.specs.Prelude.{◌+◌, ◌≤◌, length, All, IfSome, IsSome}
use Rattle.kdcs_types.specs.declared.call.Reply.{Reply}
use Rattle.kdcs_types.specs.declared.run_state.RunState.{RunState}
use Rattle.application_types.specs.declared.unit_types.action.Action.{Action}
use Rattle.application_types.specs.declared.unit_types.action.Action.TheVariants as action
use Rattle.application_types.specs.declared.unit_types.action.UnitStatement.{UnitStatement}
use Rattle.application_types.specs.declared.unit_types.unit.Field.{Field}
use Rattle.application_types.specs.UnitText.{UnitText, label_place}
use Rattle.abstract_monitor.specs.Fields.{run_area}
use Rattle.abstract_monitor.specs.Statement.{Meaning, Asks, step, next_target}

-- a field lies inside its area
abbrev pub IsInside : RunState → Field → Type 0
IsInside run f = f.offset + f.length ≤ length (run_area run f.spab)

-- a label that the statement may jump to is one of the unit's
abbrev pub KnowsLabel : UnitText → Action → Type 0
KnowsLabel unit (action.If x relation y label) = IsSome (label_place unit label)
KnowsLabel unit (action.Jump label) = IsSome (label_place unit label)
KnowsLabel unit _ = Unit {0}

-- a run of this unit between two statements
pub record IsReady (unit : UnitText) (run : RunState) : Type 0 where
  pub place : 1 ≤ run.place
  pub read_length : run.length ≤ 99999
  pub count : run.count ≤ run.budget
  pub fields : All (IsInside run) unit.fields
  pub labels : All (λ (s : UnitStatement). KnowsLabel unit s.action) unit.statements

-- the next statement is a call
abbrev pub IsAsking : Meaning → Type 0
IsAsking (Asks call) = Unit {0}
IsAsking _ = ⊥

-- an answer that the next statement's call can have
pub record CanAnswer (unit : UnitText) (run : RunState) (reply : Reply) : Type 0 where
  pub asks : IsAsking (step unit run)
  pub read_length : reply.length ≤ 99999
  pub target : IfSome reply.content (λ content. IsSome (next_target unit run))
