-- One statement of a unit run, by cases on what it says; and what the answer of a call does.
use Rattle.std.specs.Prelude.{ℕ, ◌+◌, ◌-◌, ◌*◌, ◌/◌, Bool, true, false, List, ◌++◌, Option, Some, None, option_and_then, nat_le, ◌==◌, if◌then◌else◌}
use Rattle.std.specs.Option.{option_map}
use Rattle.std.specs.Ordering.{is_eq, is_ne, is_lt, is_gt}
use Rattle.std.specs.declared.cmp.Ordering.{Ordering}
use Rattle.kdcs_types.specs.declared.call.Call.{Call}
use Rattle.kdcs_types.specs.declared.call.Call.TheVariants as call
use Rattle.kdcs_types.specs.declared.call.Cause.{Cause}
use Rattle.kdcs_types.specs.declared.call.Cause.TheVariants.{E06, E07, E08}
use Rattle.kdcs_types.specs.declared.call.Reply.{Reply}
use Rattle.kdcs_types.specs.declared.run_state.RunState.{RunState}
use Rattle.application_types.specs.declared.unit_types.action.Action.{Action}
use Rattle.application_types.specs.declared.unit_types.action.Action.TheVariants as action
use Rattle.application_types.specs.declared.unit_types.action.Operand.{Operand}
use Rattle.application_types.specs.declared.unit_types.action.Relation.{Relation}
use Rattle.application_types.specs.declared.unit_types.action.Relation.TheVariants.{Eq, Ne, Lt, Gt}
use Rattle.application_types.specs.declared.unit_types.action.UnitStatement.{UnitStatement}
use Rattle.application_types.specs.declared.unit_types.unit.Field.{Field}
use Rattle.application_types.specs.UnitText.{UnitText, field_named, label_place, statement_at}
use Rattle.abstract_monitor.specs.Contents.{number_of, number_in, compared}
use Rattle.abstract_monitor.specs.Fields.{field_bytes, field_length, value_of, stored, stored_in}

-- a plain statement was done and leads to this state, this call comes next, or the run ends with this cause
pub data Meaning : Type 0 where
  Plain : (after : RunState) → Meaning
  Asks : (asked : Call) → Meaning
  Ends : (cause : Cause) → Meaning

-- ---- numbers

abbrev pub sum_of : ℕ → ℕ → Option ℕ
sum_of a b = Some (a + b)

-- none below 0
abbrev pub difference_of : ℕ → ℕ → Option ℕ
difference_of a b = if nat_le b a then Some (a - b) else None

abbrev pub product_of : ℕ → ℕ → Option ℕ
product_of a b = Some (a * b)

-- cut to a whole number; none by 0
abbrev pub quotient_of : ℕ → ℕ → Option ℕ
quotient_of a b = if b == 0 then None else Some (a / b)

-- the bytes that a calculation gives to a field of this length; none where an operand is no number, or there is no result
-- that fits
abbrev pub calculated : ℕ → (ℕ → ℕ → Option ℕ) → Option ℕ → Option ℕ → Option (List ℕ)
calculated capacity calculation None b = None
calculated capacity calculation (Some a) None = None
calculated capacity calculation (Some a) (Some b) = option_and_then (number_in capacity) (calculation a b)

-- ---- the next statement

abbrev pub moved_on : RunState → RunState
moved_on run = record run { place = run.place + 1; count = run.count + 1 }

abbrev pub jumped : RunState → Option ℕ → RunState
jumped run None = run
jumped run (Some place) = record run { place = place; count = run.count + 1 }

abbrev pub relates : Relation → Ordering → Bool
relates Eq order = is_eq order
relates Ne order = is_ne order
relates Lt order = is_lt order
relates Gt order = is_gt order

abbrev pub branched : UnitText → RunState → List ℕ → Bool → RunState
branched unit run label true = jumped run (label_place unit label)
branched unit run label false = moved_on run

-- ---- what a statement does

-- a field gets bytes
abbrev pub gets : UnitText → RunState → List ℕ → List ℕ → Meaning
gets unit run name bytes = Plain (moved_on (stored unit run name bytes))

-- a field gets a result, where there is one
abbrev pub gets_result : RunState → Field → Option (List ℕ) → Meaning
gets_result run f None = Ends E06
gets_result run f (Some bytes) = Plain (moved_on (stored_in run (Some f) bytes))

-- a field gets what a calculation makes of its own number and that of an operand
abbrev pub calculates : UnitText → RunState → Option Field → Operand → (ℕ → ℕ → Option ℕ) → Meaning
calculates unit run None operand calculation = Plain (moved_on run)
calculates unit run (Some f) operand calculation =
    gets_result run f (calculated f.length calculation (number_of (field_bytes run (Some f))) (number_of (value_of unit run operand)))

-- the length of a target field
abbrev pub target_capacity : UnitText → List ℕ → ℕ
target_capacity unit name = field_length (field_named unit name)

unfoldable pub done_by : UnitText → RunState → Action → Meaning
done_by unit run (action.Move f x) = gets unit run f (value_of unit run x)
done_by unit run (action.Join f x y) = gets unit run f (value_of unit run x ++ value_of unit run y)
done_by unit run (action.Add f x) = calculates unit run (field_named unit f) x sum_of
done_by unit run (action.Sub f x) = calculates unit run (field_named unit f) x difference_of
done_by unit run (action.Mul f x) = calculates unit run (field_named unit f) x product_of
done_by unit run (action.Div f x) = calculates unit run (field_named unit f) x quotient_of
done_by unit run (action.If x relation y label) =
    Plain (branched unit run label (relates relation (compared (value_of unit run x) (value_of unit run y))))
done_by unit run (action.Jump label) = Plain (jumped run (label_place unit label))
done_by unit run action.Init = Asks call.Init
done_by unit run (action.Mget f) = Asks (call.Mget (target_capacity unit f))
done_by unit run (action.Mput x) = Asks (call.Mput (value_of unit run x))
done_by unit run (action.Fget f) = Asks (call.Fget (target_capacity unit f))
done_by unit run (action.Fput to x) = Asks (call.Fput (value_of unit run to) (value_of unit run x))
done_by unit run (action.Dput to mode d h m s x) =
    Asks (call.Dput (value_of unit run to) mode (value_of unit run d) (value_of unit run h) (value_of unit run m) (value_of unit run s) (value_of unit run x))
done_by unit run (action.SgetGb name f) = Asks (call.SgetGb (value_of unit run name) (target_capacity unit f))
done_by unit run (action.SputGb name x) = Asks (call.SputGb (value_of unit run name) (value_of unit run x))
done_by unit run (action.SrelGb name) = Asks (call.SrelGb (value_of unit run name))
done_by unit run (action.SgetKp name f) = Asks (call.SgetKp (value_of unit run name) (target_capacity unit f))
done_by unit run (action.SgetRl name f) = Asks (call.SgetRl (value_of unit run name) (target_capacity unit f))
done_by unit run (action.SputMs name x) = Asks (call.SputMs (value_of unit run name) (value_of unit run x))
done_by unit run (action.SrelLb name) = Asks (call.SrelLb (value_of unit run name))
done_by unit run (action.SgetUs name f) = Asks (call.SgetUs (value_of unit run name) (target_capacity unit f))
done_by unit run (action.SputUs name x) = Asks (call.SputUs (value_of unit run name) (value_of unit run x))
done_by unit run (action.Gtda name f) = Asks (call.Gtda (value_of unit run name) (target_capacity unit f))
done_by unit run (action.Ptda name x) = Asks (call.Ptda (value_of unit run name) (value_of unit run x))
done_by unit run (action.UnlkGb name) = Asks (call.UnlkGb (value_of unit run name))
done_by unit run (action.UnlkUs name) = Asks (call.UnlkUs (value_of unit run name))
done_by unit run (action.UnlkDa name) = Asks (call.UnlkDa (value_of unit run name))
done_by unit run (action.Pend variant follow_up) = Asks (call.Pend variant (option_map (value_of unit run) follow_up))

-- whether the doing of a statement may take memory: one that copies bytes
abbrev pub takes_memory : Action → Bool
takes_memory (action.Add f x) = false
takes_memory (action.Sub f x) = false
takes_memory (action.Mul f x) = false
takes_memory (action.Div f x) = false
takes_memory (action.If x relation y label) = false
takes_memory (action.Jump label) = false
takes_memory action.Init = false
takes_memory (action.Mget f) = false
takes_memory (action.Fget f) = false
takes_memory (action.Pend variant None) = false
takes_memory _ = true

-- what the statement at a place says, counted from 1
abbrev pub action_at : UnitText → ℕ → Option Action
action_at unit place = option_map (λ (s : UnitStatement). s.action) (statement_at unit place)

-- E07 where no statement is left to TIME
abbrev pub within_time : UnitText → RunState → Action → Bool → Meaning
within_time unit run says true = Ends E07
within_time unit run says false = done_by unit run says

-- E08 after the last statement
abbrev pub next_step : UnitText → RunState → Option Action → Meaning
next_step unit run None = Ends E08
next_step unit run (Some says) = within_time unit run says (run.count == run.budget)

-- one statement
unfoldable pub step : UnitText → RunState → Meaning
step unit run = next_step unit run (action_at unit run.place)

-- ---- what a call answers

-- the field that a call reads into
abbrev pub target_of : Action → Option (List ℕ)
target_of (action.Mget f) = Some f
target_of (action.Fget f) = Some f
target_of (action.SgetGb name f) = Some f
target_of (action.SgetKp name f) = Some f
target_of (action.SgetRl name f) = Some f
target_of (action.SgetUs name f) = Some f
target_of (action.Gtda name f) = Some f
target_of _ = None

-- the target gets the content, where there are both
abbrev pub read_into : UnitText → RunState → Option (List ℕ) → Option (List ℕ) → RunState
read_into unit run None content = run
read_into unit run (Some f) None = run
read_into unit run (Some f) (Some content) = stored unit run f content

-- the next statement's target
abbrev pub next_target : UnitText → RunState → Option (List ℕ)
next_target unit run = option_and_then target_of (action_at unit run.place)

-- the call's statement is counted, and the run has the code, the length and the content
unfoldable pub answered : UnitText → RunState → Reply → RunState
answered unit run reply =
    let after = read_into unit run (next_target unit run) reply.content in
    record after { place = after.place + 1; count = after.count + 1; code = reply.code; length = reply.length }
