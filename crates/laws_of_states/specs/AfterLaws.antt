-- After a step of one service a state is consistent where that service is placed, and holds nothing that another held.
use Rattle.std.specs.Prelude.{◌≡◌, refl, ℕ, ◌+◌, ◌-◌, ◌≤◌, Bool, true, false, cond, slice_get, slice_set, Option, Some, None, is_some}
use Rattle.std.proofs.Common.{sym, ap, ◌∙◌, subst, inl, true≢false, arith}
use Rattle.std.specs.FinMap.{find}
use Rattle.kdcs_types.specs.declared.key.ServiceId.{ServiceId}
use Rattle.kdcs_types.specs.declared.key.ServiceId.TheVariants.{Dialogue, Asynchronous}
use Rattle.kdcs_types.specs.declared.service.Service.{Service}
use Rattle.kdcs_types.specs.Keys.{id_cmp, id_eq}
use Rattle.kdcs_types.specs.KeyLaws.{id_eq_same, id_eq_itself}
use Rattle.kdcs_types.specs.Tables.{TableRows, service_of}
use Rattle.abstract_monitor.specs.Bytes.{Bytes}
use Rattle.abstract_monitor.specs.Locks.{Waiting, touched_by}
use Rattle.abstract_monitor.specs.Sessions.{in_place}
use Rattle.abstract_monitor.specs.State.{Application, OpenTransaction, State}
use Rattle.abstract_monitor.specs.Turns.{with_task, last_told, message_sent, pterm_of_user}
use Rattle.laws_of_states.specs.Facts.{IsConsistent}
use Rattle.laws_of_states.specs.Transactions.{HasOwnJob, IsRooted}
use Rattle.laws_of_states.specs.CountsLaws.{times, times_set}
use Rattle.laws_of_states.specs.PlacesLaws.{times_ready, times_held, IsPlaced, IsLeft, lists_of, placed_of, consistent_from, left_placed}
use Rattle.laws_of_states.specs.ChangesLaws.{AreSessions, Alters, last_alters, last_left}
use Rattle.laws_of_states.specs.AreasLaws.{HoldsNew, exclusive_after}

pub sessions_of : (app : Application) (s : State) → IsConsistent app s → AreSessions s.signed
sessions_of app s c = let l = lists_of app s c in record { sorted = l.sessions; once = l.signed_once }

pub consistent_after : (app : Application) (s u : State) (id : ServiceId) → IsConsistent app s → Alters s u id → IsPlaced app u id → HoldsNew s.active id u.active → IsConsistent app u
consistent_after app s u id c a own areas =
    let sessions = a.sessions (sessions_of app s c) in
    consistent_from app u (record {
      tasks = a.tasks ∙ c.tasks;
      sessions = sessions.sorted;
      signed_once = sessions.once;
      active = a.active c.active;
      exclusive = exclusive_after s.active u.active id (λ i apart. (a.others i apart).opened) areas c.exclusive;
      waits = a.waits c.waits;
    }) (λ i. by i (id_eq i id) refl)
  where
    by : (i : ServiceId) (b : Bool) → id_eq i id ≡ b → IsPlaced app u i
    by i true e = subst (IsPlaced app u) (sym (id_eq_same i id e)) own
    by i false e = left_placed app s u i (a.others i e) (placed_of app s c i)

-- a step that leaves every service as it was
pub consistent_left : (app : Application) (s u : State) (id : ServiceId) → IsConsistent app s → Alters s u id → IsLeft s u id → IsConsistent app u
consistent_left app s u id c a l =
    consistent_after app s u id c a (left_placed app s u id l (placed_of app s c id)) (λ area h. inl (ap (λ o. touched_by o area) (sym l.opened) ∙ h))

-- ---- the service of the step

-- nothing waits
pub no_wait : (s : State) (id : ServiceId) → find id_cmp id s.waits ≡ None → (w : Waiting) → find id_cmp id s.waits ≡ Some w → (1 ≤ times_held s id) × (w.1 ≤ s.tables.clock)
no_wait s id none w e = absurd (true≢false (sym (ap is_some (sym none ∙ e))))

-- the task that holds the service is its only place
pub record IsInTask (s : State) (task : ℕ) (id : ServiceId) : Type 0 where
  pub ready : times_ready s id ≡ 0
  pub held : times_held s id ≡ 1
  pub freed : times_held (with_task s task None) id ≡ 0

pub in_task : (app : Application) (s : State) (task : ℕ) (id : ServiceId) → IsPlaced app s id → slice_get s.tasks (task - 1) ≡ Some (Some id) → IsInTask s task id
in_task app s task id p is =
    let a : times (in_place id) (slice_set s.tasks (task - 1) None) + 1 ≡ times_held s id = counted in
    let b : times_ready s id + times_held s id ≤ 1 = p.once in
    record { ready = omega arith; held = omega arith; freed = omega arith }
  where
    counted : times (in_place id) (slice_set s.tasks (task - 1) None) + 1 ≡ times_held s id
    counted = more (id_eq id id) (id_eq_itself id) (times_set (in_place id) s.tasks (task - 1) (Some id) None is)
      where
        more : (b : Bool) → b ≡ true → times (in_place id) (slice_set s.tasks (task - 1) None) + cond b 1 0 ≡ times (in_place id) s.tasks + 0 → times (in_place id) (slice_set s.tasks (task - 1) None) + 1 ≡ times_held s id
        more true e h = omega arith
        more false e h = absurd (true≢false (sym e))

-- the transaction that goes on is still rooted
pub rooted_still : (t : TableRows) (id : ServiceId) (x y : OpenTransaction) → IsRooted t id x → y.began ≡ x.began → IsRooted t id y
rooted_still t id x y r e = record { began = r.began ∙ sym e; job = subst (HasOwnJob t id) (sym e) r.job }

-- the transaction that begins with the row
pub rooted_row : (t : TableRows) (id : ServiceId) (row : Service) (y : OpenTransaction) → service_of t id ≡ Some row → y.began ≡ Some row → IsRooted t id y
rooted_row t id row y is e = record { began = is ∙ sym e; job = subst (HasOwnJob t id) (sym e) (job id) }
  where
    job : (i : ServiceId) → HasOwnJob t i (Some row)
    job (Dialogue user) = tt
    job (Asynchronous number) = tt

-- ---- messages

pub last_consistent : (app : Application) (s : State) (pterm : Option Bytes) (message : Bytes) → IsConsistent app s → IsConsistent app (last_told s pterm message)
last_consistent app s pterm message c =
    let id : ServiceId = Dialogue message in
    consistent_left app s (last_told s pterm message) id c (last_alters s pterm message id c.sessions) (last_left s pterm message id c.sessions)

pub sent_consistent : (app : Application) (s : State) (id : ServiceId) (x : OpenTransaction) → IsConsistent app s → IsConsistent app (message_sent s id x)
sent_consistent app s (Dialogue user) x c = last_consistent app s (pterm_of_user s.signed user) _ c
sent_consistent app s (Asynchronous number) x c = c
