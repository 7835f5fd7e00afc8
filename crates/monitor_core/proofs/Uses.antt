-- What holds of a state where a terminal input has its use.
use Rattle.std.specs.Prelude.{◌≡◌, refl, Bool, true, false, ◌||◌, ◌++◌, List, [], ◌∷◌, Option, Some, None, IsSome, is_some, option_map, bytes_eq, codes}
use Rattle.std.proofs.Common.{sym, ap, subst, ◌∙◌, true≢false}
use Rattle.std.specs.FinMap.{find}
use Rattle.std.specs.List.{list_any}
use Rattle.kdcs_types.specs.declared.act.Act.{Act}
use Rattle.kdcs_types.specs.declared.act.Act.TheVariants.{Emit}
use Rattle.kdcs_types.specs.declared.key.ServiceId.TheVariants.{Dialogue}
use Rattle.kdcs_types.specs.Keys.{id_cmp}
use Rattle.kdcs_types.specs.Tables.{service_of}
use Rattle.abstract_monitor.specs.declared.input_use.ServiceState.TheVariants.{NoService}
use Rattle.abstract_monitor.specs.declared.input_use.Use.{Use}
use Rattle.abstract_monitor.specs.declared.input_use.Use.TheVariants.{Sign, Off, Next, Start}
use Rattle.abstract_monitor.specs.Bytes.{Bytes, bytes_cmp}
use Rattle.abstract_monitor.specs.Commands.{says, signed_off, user_at, user_by, use_now}
use Rattle.abstract_monitor.specs.Lines.{sys_line}
use Rattle.abstract_monitor.specs.Sessions.{awaits_by, has_user, is_awaiting, is_running, service_state, service_state_by}
use Rattle.abstract_monitor.specs.State.{Application, OpenTransaction, Session, State}
use Rattle.abstract_monitor.specs.Turns.{pterm_by, pterm_of_user}
use Rattle.abstract_monitor.specs.UseLaws.{IsAtRest, IsFor as FitsState, use_fits}
use Rattle.monitor_core.specs.Commanding.{Comes, HasService, IsFor, Rests}
use Rattle.monitor_core.proofs.Signs.{user_in, user_is}

-- a user without a session is signed on nowhere
nowhere : (signed : List (Bytes × Session)) (user : Bytes) → list_any (has_user user) signed ≡ false → pterm_of_user signed user ≡ None
unfolding pterm_of_user
nowhere [] user e = refl
nowhere (v ∷ vs) user e = by (bytes_eq v.1.user user) e (nowhere vs user)
  where
    by : (b : Bool) → (b || list_any (has_user user) vs) ≡ false → (list_any (has_user user) vs ≡ false → pterm_of_user vs user ≡ None) → pterm_by v.0 b (pterm_of_user vs user) ≡ None
    by true h rest = absurd (true≢false h)
    by false h rest = rest h

pub use_for : (app : Application) (s : State) (pterm text : Bytes) → IsFor s pterm (use_now app s pterm text)
unfolding service_state
use_for app s pterm text = by (use_now app s pterm text) (use_fits app s pterm text)
  where
    is_signed : (v : Session) → find bytes_cmp pterm s.signed ≡ Some v → IsSome (find bytes_cmp pterm s.signed)
    is_signed v on = subst (λ (o : Option Session). IsSome o) (sym on) refl

    has : (v : Session) (awaits : Bool) → IsAtRest s pterm v → is_awaiting s (Dialogue v.user) ≡ awaits → HasService s pterm (service_state_by false awaits)
    has v awaits rest e = record {
      signed = is_signed v rest.signed;
      is = subst (λ (o : Option Session). service_state_by (is_running s (Dialogue (user_by o))) (is_awaiting s (Dialogue (user_by o))) ≡ service_state_by false awaits) (sym rest.signed) (rw (rest.rests, e) refl);
    }

    by : (u : Use) → FitsState s pterm u → IsFor s pterm u
    by (Sign name) f = record { pterm_is_free = f.0; user_is_free = nowhere s.signed name f.1 }
    by Off f = is_signed f.0 f.1
    by (Next next) f = has f.0 true f.1 f.2
    by (Start tac next) f = has f.0 false f.1 f.2
    by _ f = tt

-- ---- where there is no service

-- there is no open transaction, and the service is neither ready nor in a task
rests_without : (s : State) (user : Bytes) → service_state s user ≡ NoService → Rests s (Dialogue user)
unfolding service_state
rests_without s user e = by (is_running s (Dialogue user)) refl (find id_cmp (Dialogue user) s.active) refl e
  where
    by : (running : Bool) → is_running s (Dialogue user) ≡ running → (o : Option OpenTransaction) → find id_cmp (Dialogue user) s.active ≡ o
        → service_state_by running (is_some o || awaits_by (service_of s.tables (Dialogue user))) ≡ NoService → Rests s (Dialogue user)
    by true f o h g = absurd cc
    by false f None h g = record { closed = h; unplaced = f }
    by false f (Some x) h g = absurd cc

pub rests_here : (s : State) (pterm user : Bytes) → Some user ≡ option_map user_in (find bytes_cmp pterm s.signed) → HasService s pterm NoService → Rests s (Dialogue user)
rests_here s pterm user who h = rests_without s user (ap (service_state s) (user_is user (find bytes_cmp pterm s.signed) who) ∙ h.is)

-- ---- the user who is signed on signs off

pub leaves : (app : Application) (s t : State) (pterm user line : Bytes) → Some user ≡ option_map user_in (find bytes_cmp pterm s.signed) → t ≡ signed_off app s pterm user
    → line ≡ sys_line pterm (codes "SIGNED OFF " ++ user) → (acts : List Act) → acts ≡ Emit line ∷ []
    → Comes t acts (says (signed_off app s pterm (user_at s pterm)) (sys_line pterm (codes "SIGNED OFF " ++ user_at s pterm)))
leaves app s t pterm user line who came said acts done =
    subst (λ (u : Bytes). Comes t acts (says (signed_off app s pterm u) (sys_line pterm (codes "SIGNED OFF " ++ u)))) (user_is user (find bytes_cmp pterm s.signed) who)
    record { state = came; acts = done ∙ ap (λ (l : Bytes). Emit l ∷ []) said }
