-- How a PEND ends a unit run: its outcome, or the cause that refuses it.
use Rattle.std.specs.Prelude.{Bool, true, false, ◌&&◌, ◌||◌, not, [], Option, Some, None, Result, Ok, Err}
use Rattle.kd_base.specs.declared.words.Variant.{Variant}
use Rattle.kd_base.specs.declared.words.Variant.TheVariants.{Kp, Pr, Pa, Re, Sp, Fi, Fc, Fr, Er, Rs}
use Rattle.kdcs_types.specs.declared.call.Cause.{Cause}
use Rattle.kdcs_types.specs.declared.call.Cause.TheVariants.{E03, E04, E05}
use Rattle.application_types.specs.declared.kdcdef_types.entry.CallUse.{CallUse}
use Rattle.application_types.specs.declared.kdcdef_types.entry.CallUse.TheVariants.{Both, First, Next}
use Rattle.application_types.specs.declared.kdcdef_types.entry.TacEntry.{TacEntry}
use Rattle.abstract_monitor.specs.declared.outcome.Outcome.{Outcome}
use Rattle.abstract_monitor.specs.declared.outcome.Outcome.TheVariants.{Stay, Queue, Hold, Wait, Point, Finish, Follow, Break, Back}
use Rattle.abstract_monitor.specs.Bytes.{Bytes}

-- CALL other than FIRST: the TAC may be within a service
abbrev pub goes_within : CallUse → Bool
goes_within Both = true
goes_within First = false
goes_within Next = true

-- CALL other than NEXT: the TAC may begin a service
abbrev pub goes_first : CallUse → Bool
goes_first Both = true
goes_first First = true
goes_first Next = false

-- both are asynchronous, or neither is
abbrev pub same_kind : Bool → Bool → Bool
same_kind true asynchronous = asynchronous
same_kind false asynchronous = not asynchronous

-- KP, RE and FC are of dialogue services alone
abbrev pub is_for_kind : (asynchronous : Bool) → Variant → Bool
is_for_kind asynchronous Kp = not asynchronous
is_for_kind asynchronous Re = not asynchronous
is_for_kind asynchronous Fc = not asynchronous
is_for_kind asynchronous _ = true

-- a follow-up TAC that the variant allows
abbrev pub may_follow : (asynchronous : Bool) → Variant → TacEntry → Bool
may_follow asynchronous Kp t = not t.asynchronous && goes_within t.call
may_follow asynchronous Re t = not t.asynchronous && goes_within t.call
may_follow asynchronous Pr t = same_kind asynchronous t.asynchronous && goes_within t.call
may_follow asynchronous Pa t = same_kind asynchronous t.asynchronous && goes_within t.call
may_follow asynchronous Sp t = same_kind asynchronous t.asynchronous && goes_within t.call
may_follow asynchronous Fc t = not t.asynchronous && goes_first t.call && t.on
may_follow asynchronous _ t = true

-- FI, FR, ER and RS take no follow-up
abbrev pub takes_follow_up : Variant → Bool
takes_follow_up Fi = false
takes_follow_up Fr = false
takes_follow_up Er = false
takes_follow_up Rs = false
takes_follow_up _ = true

-- KP, RE, FC, and FI of a dialogue service, need a message
abbrev pub needs_message : (asynchronous : Bool) → Variant → Bool
needs_message asynchronous Kp = true
needs_message asynchronous Re = true
needs_message asynchronous Fc = true
needs_message asynchronous Fi = not asynchronous
needs_message asynchronous _ = false

-- the operand names a TAC that may follow
abbrev pub fits_follow_up : (asynchronous : Bool) → Variant → Option TacEntry → Option Bytes → Bool
fits_follow_up asynchronous variant None name = false
fits_follow_up asynchronous variant (Some t) None = false
fits_follow_up asynchronous variant (Some t) (Some name) = may_follow asynchronous variant t

-- where the variant goes; FI, FR, ER and RS look at no follow-up
abbrev pub goes_by : Variant → Bytes → Outcome
goes_by Kp tac = Hold tac
goes_by Pr tac = Stay tac
goes_by Pa tac = Queue tac
goes_by Re tac = Wait tac
goes_by Sp tac = Point tac
goes_by Fc tac = Follow tac
goes_by Fi tac = Finish
goes_by Fr tac = Break
goes_by Er tac = Break
goes_by Rs tac = Back

-- FI, FR, ER and RS have no operand
abbrev pub name_or_empty : Option Bytes → Bytes
name_or_empty None = []
name_or_empty (Some name) = name

-- the first of three tests that fails
abbrev pub pend_by : (of_kind follows has_message : Bool) → Outcome → Result Outcome Cause
pend_by false _ _ o = Err E05
pend_by true false _ o = Err E04
pend_by true true false o = Err E03
pend_by true true true o = Ok o

-- PEND: the outcome for this kind of service, or E05, E04 or E03 in this order
unfoldable pub pend_outcome : (asynchronous : Bool) → Variant → (has_message : Bool) → Option TacEntry → Option Bytes → Result Outcome Cause
pend_outcome asynchronous variant has_message follow_up name =
    pend_by
    (is_for_kind asynchronous variant)
    (not (takes_follow_up variant) || fits_follow_up asynchronous variant follow_up name)
    (not (needs_message asynchronous variant) || has_message)
    (goes_by variant (name_or_empty name))
