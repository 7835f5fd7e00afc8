-- What a step answered.
use Rattle.std.specs.Prelude.{◌≡◌, Bool, false, Option, None, Some}
use Rattle.kdcs_types.specs.declared.run_state.RunState.{RunState}
use Rattle.kdcs_types.specs.declared.call.Call.{Call}
use Rattle.application_types.specs.declared.unit_types.action.Action.{Action}
use Rattle.application_types.specs.declared.unit_types.action.Action.TheVariants as action
use Rattle.abstract_monitor.specs.Statement.{Meaning, Plain, Asks, Ends, takes_memory}
use Rattle.service_parts.specs.declared.unit_step.stepped.Stepped.{Stepped}
use Rattle.service_parts.specs.declared.unit_step.stepped.Stepped.TheVariants as stepped

-- an answer, with the state that was left
abbrev pub meaning_of : Stepped → RunState → Meaning
meaning_of stepped.Plain after = Plain after
meaning_of (stepped.Asks call) after = Asks call
meaning_of (stepped.Ends cause) after = Ends cause

-- nothing changed, unless a plain statement was done
abbrev pub OnlyPlainMoves : Stepped → RunState → RunState → Type 0
OnlyPlainMoves stepped.Plain old new = Unit {0}
OnlyPlainMoves (stepped.Asks call) old new = new ≡ old
OnlyPlainMoves (stepped.Ends cause) old new = new ≡ old

abbrev pub next_takes_memory : Option Action → Bool
next_takes_memory None = false
next_takes_memory (Some says) = takes_memory says

-- the statement is no plain one
abbrev pub IsCall : Action → Type 0
IsCall (action.Move f x) = ⊥
IsCall (action.Join f x y) = ⊥
IsCall (action.Add f x) = ⊥
IsCall (action.Sub f x) = ⊥
IsCall (action.Mul f x) = ⊥
IsCall (action.Div f x) = ⊥
IsCall (action.If x relation y label) = ⊥
IsCall (action.Jump label) = ⊥
IsCall _ = Unit {0}

abbrev pub IsDput : Action → Type 0
IsDput (action.Dput to mode d h m s x) = Unit {0}
IsDput _ = ⊥

-- the statement asks for this call
abbrev pub IsAsked : Meaning → Call → Type 0
IsAsked (Plain after) call = ⊥
IsAsked (Asks asked) call = call ≡ asked
IsAsked (Ends cause) call = ⊥
