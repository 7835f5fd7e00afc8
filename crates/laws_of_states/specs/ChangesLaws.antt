-- Steps change a state by few operations, each of one service; what one of them does to the other services, and to the order of lists.
use Rattle.std.specs.Prelude.{◌≡◌, refl, ℕ, suc, ◌+◌, ◌-◌, ◌≤◌, Bool, true, false, cond, not, IsTrue, [], ◌∷◌, ◌++◌, map, filter, length, bytes_eq, slice_get, slice_set, Option, Some, None, is_some}
use Rattle.std.proofs.Common.{sym, ap, ◌∙◌, subst, true≢false, arith, length-set}
use Rattle.std.proofs.lemmas.List.{length-map}
use Rattle.std.specs.FinMap.{find, put, is_sorted}
use Rattle.std.specs.List.{list_any}
use Rattle.kd_base.specs.ToolsLaws.{some_is}
use Rattle.kdcs_types.specs.declared.key.Area.{Area}
use Rattle.kdcs_types.specs.declared.key.ServiceId.{ServiceId}
use Rattle.kdcs_types.specs.declared.key.ServiceId.TheVariants.{Dialogue, Asynchronous}
use Rattle.kdcs_types.specs.declared.service.Service.{Service}
use Rattle.kdcs_types.specs.Keys.{id_cmp, id_eq}
use Rattle.kdcs_types.specs.KeyLaws.{id_eq_itself}
use Rattle.kdcs_types.specs.Tables.{TableRows, service_of}
use Rattle.abstract_monitor.specs.Bytes.{Bytes, bytes_cmp}
use Rattle.abstract_monitor.specs.Commands.{no_place, with_session, without_session, withdrawn}
use Rattle.abstract_monitor.specs.Sessions.{has_user, in_place}
use Rattle.abstract_monitor.specs.State.{OpenTransaction, Session, State}
use Rattle.abstract_monitor.specs.Turns.{pterm_of_user, with_open, without_wait, without_open, with_task, queued, without_transaction, noted_last, last_told}
use Rattle.laws_of_states.specs.Facts.{IsOpen}
use Rattle.laws_of_states.specs.Transactions.{HasOwnJob}
use Rattle.laws_of_states.specs.CountsLaws.{times, times_push, times_set, times_without_other, times_freed_other, any_counted, counted_any, none_counted, counted_none}
use Rattle.laws_of_states.specs.EntriesLaws.{other_put, other_without, sorted_put, sorted_without}
use Rattle.laws_of_states.specs.TerminalsLaws.{Signed, signed_at, left_at, same_bytes, signed_any, signed_sorted, left_sorted, signed_more, signed_same, signed_less, fewer}
use Rattle.laws_of_states.specs.PlacesLaws.{is_signed_for, IsLeft, still_signed, left_where, left_itself, left_then}

-- sessions in the order of their terminals, and each user in one of them at most
pub record AreSessions (signed : Signed) : Type 0 where
  pub sorted : IsTrue (is_sorted bytes_cmp signed)
  pub once : (user : Bytes) → times (has_user user) signed ≤ 1

-- a change of the one service: the others are as they were, and lists stay in order
pub record Alters (s u : State) (id : ServiceId) : Type 0 where
  pub others : (i : ServiceId) → id_eq i id ≡ false → IsLeft s u i
  pub tasks : length u.tasks ≡ length s.tasks
  pub sessions : AreSessions s.signed → AreSessions u.signed
  pub active : IsTrue (is_sorted id_cmp s.active) → IsTrue (is_sorted id_cmp u.active)
  pub waits : IsTrue (is_sorted id_cmp s.waits) → IsTrue (is_sorted id_cmp u.waits)

pub alters_then : (s u v : State) (id : ServiceId) → Alters s u id → Alters u v id → Alters s v id
alters_then s u v id a b = record {
  others = λ i apart. left_then s u v i (a.others i apart) (b.others i apart);
  tasks = b.tasks ∙ a.tasks;
  sessions = λ h. b.sessions (a.sessions h);
  active = λ h. b.active (a.active h);
  waits = λ h. b.waits (a.waits h);
}

pub still : (s : State) (id : ServiceId) → Alters s s id
still s id = record { others = λ i apart. left_itself s i; tasks = refl; sessions = λ h. h; active = λ h. h; waits = λ h. h }

same_clock : (s : State) → s.tables.clock ≤ s.tables.clock
same_clock s = omega arith

-- ---- open transactions, requests that wait, and the ready list

pub open_alters : (s : State) (id : ServiceId) (x : OpenTransaction) → Alters s (with_open s id x) id
open_alters s id x = record {
  others = λ i apart. left_where s (with_open s id x) i refl refl (other_put i id x s.active apart) refl refl refl;
  tasks = refl;
  sessions = λ h. h;
  active = sorted_put id x s.active;
  waits = λ h. h;
}

pub unwaiting_alters : (s : State) (id : ServiceId) → Alters s (without_wait s id) id
unwaiting_alters s id = record {
  others = λ i apart. left_where s (without_wait s id) i refl refl refl (other_without i id s.waits apart) refl refl;
  tasks = refl;
  sessions = λ h. h;
  active = λ h. h;
  waits = sorted_without id s.waits;
}

pub wait_alters : (s : State) (id : ServiceId) (w : Area × ℕ) → Alters s (record s { waits = put id_cmp id w s.waits }) id
wait_alters s id w = record {
  others = λ i apart. left_where s (record s { waits = put id_cmp id w s.waits }) i refl refl refl (other_put i id w s.waits apart) refl refl;
  tasks = refl;
  sessions = λ h. h;
  active = λ h. h;
  waits = sorted_put id w s.waits;
}

pub closed_alters : (s : State) (id : ServiceId) → Alters s (without_open s id) id
closed_alters s id = alters_then s (without_wait s id) (without_open s id) id (unwaiting_alters s id) (record {
  others = λ i apart. left_where (without_wait s id) (without_open s id) i refl refl (other_without i id s.active apart) refl refl refl;
  tasks = refl;
  sessions = λ h. h;
  active = sorted_without id s.active;
  waits = λ h. h;
})

-- at the back of the ready list
abbrev pub with_ready : State → ServiceId → State
with_ready s id = record s { ready = s.ready ++ id ∷ [] }

pub ready_alters : (s : State) (id : ServiceId) → Alters s (with_ready s id) id
ready_alters s id = record {
  others = λ i apart. left_where s (with_ready s id) i (times_push (id_eq i) s.ready id ∙ ap (λ b. cond b (suc (times (id_eq i) s.ready)) (times (id_eq i) s.ready)) apart) refl refl refl refl refl;
  tasks = refl;
  sessions = λ h. h;
  active = λ h. h;
  waits = λ h. h;
}

-- no more in the ready list
abbrev pub without_ready : State → ServiceId → State
without_ready s id = record s { ready = filter (λ (i : ServiceId). not (id_eq id i)) s.ready }

pub unready_alters : (s : State) (id : ServiceId) → Alters s (without_ready s id) id
unready_alters s id = record {
  others = λ i apart. left_where s (without_ready s id) i (times_without_other i id s.ready apart) refl refl refl refl refl;
  tasks = refl;
  sessions = λ h. h;
  active = λ h. h;
  waits = λ h. h;
}

pub queued_alters : (s : State) (id : ServiceId) (x : OpenTransaction) → Alters s (queued s id x) id
queued_alters s id x = alters_then s (with_open s id x) (queued s id x) id (open_alters s id x) (ready_alters (with_open s id x) id)

-- ---- tasks

-- a task that another service holds, or that none holds
abbrev pub place_of : ServiceId → Option ServiceId → ℕ
place_of i place = cond (in_place i place) 1 0

pub task_alters : (s : State) (task : ℕ) (id : ServiceId) (old new : Option ServiceId) → slice_get s.tasks (task - 1) ≡ Some old
    → ((i : ServiceId) → id_eq i id ≡ false → (in_place i old ≡ false) × (in_place i new ≡ false)) → Alters s (with_task s task new) id
task_alters s task id old new is none = record {
  others = λ i apart. left_where s (with_task s task new) i refl (even i (none i apart) (times_set (in_place i) s.tasks (task - 1) old new is)) refl refl refl refl;
  tasks = length-set s.tasks (task - 1) new;
  sessions = λ h. h;
  active = λ h. h;
  waits = λ h. h;
}
  where
    even : (i : ServiceId) → (in_place i old ≡ false) × (in_place i new ≡ false)
        → times (in_place i) (slice_set s.tasks (task - 1) new) + cond (in_place i old) 1 0 ≡ times (in_place i) s.tasks + cond (in_place i new) 1 0
        → times (in_place i) (slice_set s.tasks (task - 1) new) ≡ times (in_place i) s.tasks
    even i a e =
        let f : place_of i old ≡ 0 = ap {B = ℕ} (λ b. cond b 1 0) a.0 in
        let g : place_of i new ≡ 0 = ap {B = ℕ} (λ b. cond b 1 0) a.1 in
        omega arith

pub freed_alters : (s : State) (task : ℕ) (id : ServiceId) → slice_get s.tasks (task - 1) ≡ Some (Some id) → Alters s (with_task s task None) id
freed_alters s task id is = task_alters s task id (Some id) None is (λ i apart. (apart, refl))

pub taken_alters : (s : State) (task : ℕ) (id : ServiceId) → slice_get s.tasks (task - 1) ≡ Some None → Alters s (with_task s task (Some id)) id
taken_alters s task id is = task_alters s task id None (Some id) is (λ i apart. (refl, apart))

-- in no task any more
abbrev pub without_place : State → ServiceId → State
without_place s id = record s { tasks = map (no_place id) s.tasks }

pub unplaced_alters : (s : State) (id : ServiceId) → Alters s (without_place s id) id
unplaced_alters s id = record {
  others = λ i apart. left_where s (without_place s id) i refl (times_freed_other i id s.tasks apart) refl refl refl refl;
  tasks = length-map s.tasks (no_place id);
  sessions = λ h. h;
  active = λ h. h;
  waits = λ h. h;
}

pub withdrawn_alters : (s : State) (id : ServiceId) → Alters s (withdrawn s id) id
withdrawn_alters s id =
    let a = alters_then s (without_open s id) (without_ready (without_open s id) id) id (closed_alters s id) (unready_alters (without_open s id) id) in
    alters_then s (without_ready (without_open s id) id) (withdrawn s id) id a (unplaced_alters (without_ready (without_open s id) id) id)

pub without_transaction_alters : (s : State) (task : ℕ) (id : ServiceId) → slice_get s.tasks (task - 1) ≡ Some (Some id) → Alters s (without_transaction s task id) id
without_transaction_alters s task id is = alters_then s (with_task s task None) (without_transaction s task id) id (freed_alters s task id is) (closed_alters (with_task s task None) id)

-- ---- tables

-- the tables keep what other services look at
pub record KeepsRows (s : State) (t : TableRows) (id : ServiceId) : Type 0 where
  pub rows : (i : ServiceId) → id_eq i id ≡ false → service_of t i ≡ service_of s.tables i
  pub jobs : (i : ServiceId) (began : Option Service) → id_eq i id ≡ false → IsOpen s i → HasOwnJob s.tables i began → HasOwnJob t i began
  pub clock : s.tables.clock ≤ t.clock

pub tables_alter : (s : State) (t : TableRows) (id : ServiceId) → KeepsRows s t id → Alters s (record s { tables = t }) id
tables_alter s t id k = record {
  others = λ i apart. record { ready = refl; held = refl; opened = refl; waits = refl; row = k.rows i apart; signed = still_signed s (record s { tables = t }) i refl; job = λ began o h. k.jobs i began apart o h; clock = k.clock };
  tasks = refl;
  sessions = λ h. h;
  active = λ h. h;
  waits = λ h. h;
}

-- ---- sessions

-- a user is signed on where the sessions count it
pub counted_signed : (es : Signed) (user : Bytes) → 1 ≤ times (has_user user) es → is_some (pterm_of_user es user) ≡ true
counted_signed es user h = signed_any es user ∙ counted_any (has_user user) es h

pub signed_counted : (es : Signed) (user : Bytes) → is_some (pterm_of_user es user) ≡ true → 1 ≤ times (has_user user) es
signed_counted es user h = any_counted (has_user user) es (sym (signed_any es user) ∙ h)

pub same_signed : (es fs : Signed) (user : Bytes) → times (has_user user) fs ≡ times (has_user user) es → is_some (pterm_of_user fs user) ≡ is_some (pterm_of_user es user)
same_signed es fs user e = by (list_any (has_user user) es) refl
  where
    by : (b : Bool) → list_any (has_user user) es ≡ b → is_some (pterm_of_user fs user) ≡ is_some (pterm_of_user es user)
    by true h =
        let k : 1 ≤ times (has_user user) es = any_counted (has_user user) es h in
        signed_any fs user ∙ counted_any (has_user user) fs (subst (λ n. 1 ≤ n) (sym e) k) ∙ sym (signed_any es user ∙ h)
    by false h = signed_any fs user ∙ counted_none (has_user user) fs (e ∙ none_counted (has_user user) es h) ∙ sym (signed_any es user ∙ h)

-- other sessions, of which another user is in as many
pub sessions_alter : (s : State) (fs : Signed) (id : ServiceId) → ((user : Bytes) → id_eq (Dialogue user) id ≡ false → times (has_user user) fs ≡ times (has_user user) s.signed)
    → (AreSessions s.signed → AreSessions fs) → Alters s (record s { signed = fs }) id
sessions_alter s fs id same sessions = record {
  others = λ i apart. record { ready = refl; held = refl; opened = refl; waits = refl; row = refl; signed = signed i apart; job = λ began o h. h; clock = same_clock s };
  tasks = refl;
  sessions = sessions;
  active = λ h. h;
  waits = λ h. h;
}
  where
    signed : (i : ServiceId) → id_eq i id ≡ false → is_signed_for (record s { signed = fs }) i ≡ is_signed_for s i
    signed (Dialogue user) apart = same_signed s.signed fs user (same user apart)
    signed (Asynchronous number) apart = refl

-- a session of a user who has none, at a terminal that has none
session_alters_by : (s : State) (pterm : Bytes) (v : Session) → find bytes_cmp pterm s.signed ≡ None → times (has_user v.user) s.signed ≡ 0 → Alters s (record s { signed = signed_at pterm v s.signed }) (Dialogue v.user)
session_alters_by s pterm v free none = sessions_alter s (signed_at pterm v s.signed) (Dialogue v.user) (λ u apart. same u apart (bytes_eq v.user u) refl (more u)) sessions
  where
    more : (u : Bytes) → times (has_user u) (signed_at pterm v s.signed) ≡ cond (bytes_eq v.user u) (suc (times (has_user u) s.signed)) (times (has_user u) s.signed)
    more u = signed_more (has_user u) pterm v s.signed free

    same : (u : Bytes) → id_eq (Dialogue u) (Dialogue v.user) ≡ false → (b : Bool) → bytes_eq v.user u ≡ b
        → times (has_user u) (signed_at pterm v s.signed) ≡ cond b (suc (times (has_user u) s.signed)) (times (has_user u) s.signed) → times (has_user u) (signed_at pterm v s.signed) ≡ times (has_user u) s.signed
    same u apart true e h = absurd (true≢false (sym (id_eq_itself (Dialogue v.user)) ∙ ap (λ n. id_eq (Dialogue n) (Dialogue v.user)) (same_bytes v.user u e) ∙ apart))
    same u apart false e h = h

    once : (u : Bytes) (b : Bool) → bytes_eq v.user u ≡ b → times (has_user u) (signed_at pterm v s.signed) ≡ cond b (suc (times (has_user u) s.signed)) (times (has_user u) s.signed)
        → times (has_user u) s.signed ≤ 1 → times (has_user u) (signed_at pterm v s.signed) ≤ 1
    once u true e h o = let z : times (has_user u) s.signed ≡ 0 = ap (λ n. times (has_user n) s.signed) (sym (same_bytes v.user u e)) ∙ none in omega arith
    once u false e h o = omega arith

    sessions : AreSessions s.signed → AreSessions (signed_at pterm v s.signed)
    sessions a = record { sorted = signed_sorted pterm v s.signed a.sorted; once = λ u. once u (bytes_eq v.user u) refl (more u) (a.once u) }

pub session_alters : (s : State) (pterm user : Bytes) (last : Option Bytes) → find bytes_cmp pterm s.signed ≡ None → times (has_user user) s.signed ≡ 0 → Alters s (with_session s pterm user last) (Dialogue user)
session_alters s pterm user last free none = session_alters_by s pterm (record { user = user; last = last }) free none

-- the terminal of a user is left
pub off_alters : (s : State) (pterm : Bytes) (v : Session) → IsTrue (is_sorted bytes_cmp s.signed) → find bytes_cmp pterm s.signed ≡ Some v → Alters s (without_session s pterm) (Dialogue v.user)
off_alters s pterm v sorted is = sessions_alter s (left_at pterm s.signed) (Dialogue v.user) same sessions
  where
    same : (u : Bytes) → id_eq (Dialogue u) (Dialogue v.user) ≡ false → times (has_user u) (left_at pterm s.signed) ≡ times (has_user u) s.signed
    same u apart = signed_less u pterm s.signed sorted (λ w h. by w (bytes_eq w.user u) refl (ap (λ (x : Session). x.user) (some_is w v (sym h ∙ is))))
      where
        by : (w : Session) (b : Bool) → bytes_eq w.user u ≡ b → w.user ≡ v.user → bytes_eq w.user u ≡ false
        by w true e q = absurd (true≢false (sym (id_eq_itself (Dialogue v.user)) ∙ ap (λ n. id_eq (Dialogue n) (Dialogue v.user)) (sym q ∙ same_bytes w.user u e) ∙ apart))
        by w false e q = e

    sessions : AreSessions s.signed → AreSessions (left_at pterm s.signed)
    sessions a = record { sorted = left_sorted pterm s.signed a.sorted; once = λ u. at_most u (fewer pterm (has_user u) s.signed) (a.once u) }
      where
        at_most : (u : Bytes) → times (has_user u) (left_at pterm s.signed) ≤ times (has_user u) s.signed → times (has_user u) s.signed ≤ 1
            → times (has_user u) (left_at pterm s.signed) ≤ 1
        at_most u h k = omega arith

-- the last message of a session leaves every service as it was
pub last_left : (s : State) (pterm : Option Bytes) (message : Bytes) (i : ServiceId) → IsTrue (is_sorted bytes_cmp s.signed) → IsLeft s (last_told s pterm message) i
last_left s None message i sorted = left_itself s i
last_left s (Some pterm) message i sorted = by (find bytes_cmp pterm s.signed) refl
  where
    signed : (j : ServiceId) (v : Session) → find bytes_cmp pterm s.signed ≡ Some v → is_signed_for (noted_last s pterm message (Some v)) j ≡ is_signed_for s j
    signed (Dialogue user) v e = same_signed s.signed _ user (signed_same user pterm v (record v { last = Some message }) s.signed sorted e refl)
    signed (Asynchronous number) v e = refl

    by : (o : Option Session) → find bytes_cmp pterm s.signed ≡ o → IsLeft s (noted_last s pterm message o) i
    by None e = left_itself s i
    by (Some v) e = record { ready = refl; held = refl; opened = refl; waits = refl; row = refl; signed = signed i v e; job = λ began o h. h; clock = same_clock s }

-- the last message of a session
pub last_alters : (s : State) (pterm : Option Bytes) (message : Bytes) (id : ServiceId) → IsTrue (is_sorted bytes_cmp s.signed) → Alters s (last_told s pterm message) id
last_alters s None message id sorted = still s id
last_alters s (Some pterm) message id sorted = by (find bytes_cmp pterm s.signed) refl
  where
    by : (o : Option Session) → find bytes_cmp pterm s.signed ≡ o → Alters s (noted_last s pterm message o) id
    by None e = still s id
    by (Some v) e =
        sessions_alter s (signed_at pterm (record v { last = Some message }) s.signed) id
        (λ user apart. signed_same user pterm v (record v { last = Some message }) s.signed sorted e refl)
        (λ a. record {
          sorted = signed_sorted pterm (record v { last = Some message }) s.signed a.sorted;
          once = λ user. subst (λ n. n ≤ 1) (sym (signed_same user pterm v (record v { last = Some message }) s.signed sorted e refl)) (a.once user);
        })
