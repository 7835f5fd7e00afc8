-- What holds of one service in a state, apart from what holds of the lists as a whole; and when a step leaves a service as it was.
use Rattle.std.specs.Prelude.{◌≡◌, refl, ℕ, ◌+◌, ◌≤◌, Bool, true, false, ◌||◌, IsTrue, length, count_by, filter_map, Option, Some, None, is_some}
use Rattle.std.proofs.Common.{sym, ap, ◌∙◌, subst, true≢false, arith}
use Rattle.std.specs.FinMap.{find, is_sorted}
use Rattle.std.specs.List.{list_any}
use Rattle.kd_base.specs.ToolsLaws.{some_is}
use Rattle.kdcs_types.specs.declared.key.ServiceId.{ServiceId}
use Rattle.kdcs_types.specs.declared.key.ServiceId.TheVariants.{Dialogue, Asynchronous}
use Rattle.kdcs_types.specs.declared.service.Service.{Service}
use Rattle.kdcs_types.specs.Keys.{id_cmp, id_eq}
use Rattle.kdcs_types.specs.Tables.{TableRows, service_of}
use Rattle.abstract_monitor.specs.Bytes.{Bytes, bytes_cmp}
use Rattle.abstract_monitor.specs.Endings.{is_asynchronous}
use Rattle.abstract_monitor.specs.Locks.{IsExclusive, Waiting}
use Rattle.abstract_monitor.specs.Sessions.{has_user, in_place, is_running}
use Rattle.abstract_monitor.specs.State.{Application, OpenTransaction, State}
use Rattle.abstract_monitor.specs.Turns.{pterm_of_user}
use Rattle.laws_of_states.specs.Facts.{placed, IsOpen, StandsAtKeep, IsConsistent}
use Rattle.laws_of_states.specs.Transactions.{HasOwnJob, IsRooted}
use Rattle.laws_of_states.specs.CountsLaws.{times, times_counts, times_append, held_services, any_counted, counted_any, none_counted}

-- how often the service is ready
abbrev pub times_ready : State → ServiceId → ℕ
times_ready s id = times (id_eq id) s.ready

-- how many tasks hold it
abbrev pub times_held : State → ServiceId → ℕ
times_held s id = times (in_place id) s.tasks

-- the user of a dialogue service is signed on
abbrev pub is_signed_for : State → ServiceId → Bool
is_signed_for s (Dialogue user) = is_some (pterm_of_user s.signed user)
is_signed_for s (Asynchronous number) = true

-- the lists of a state as a whole
pub record HasLists (app : Application) (s : State) : Type 0 where
  pub tasks : length s.tasks ≡ app.generation.limits.tasks
  pub sessions : IsTrue (is_sorted bytes_cmp s.signed)
  pub signed_once : (user : Bytes) → times (has_user user) s.signed ≤ 1
  pub active : IsTrue (is_sorted id_cmp s.active)
  pub exclusive : IsExclusive s.active
  pub waits : IsTrue (is_sorted id_cmp s.waits)

-- one service
pub record IsPlaced (app : Application) (s : State) (id : ServiceId) : Type 0 where
  pub once : times_ready s id + times_held s id ≤ 1
  pub opened : 1 ≤ times_ready s id + times_held s id → IsOpen s id
  pub signed : IsOpen s id → is_signed_for s id ≡ true
  pub goes_on : (row : Service) → is_asynchronous id ≡ false → is_signed_for s id ≡ true → service_of s.tables id ≡ Some row → row.awaits ≡ false → IsOpen s id
  pub kept : (x : OpenTransaction) → find id_cmp id s.active ≡ Some x → times_ready s id + times_held s id ≡ 0 → StandsAtKeep app id x
  pub rooted : (x : OpenTransaction) → find id_cmp id s.active ≡ Some x → IsRooted s.tables id x
  pub waiting : (w : Waiting) → find id_cmp id s.waits ≡ Some w → (1 ≤ times_held s id) × (w.1 ≤ s.tables.clock)

-- ---- consistent is that the lists are in order, and each service is placed

placed_counts : (s : State) (id : ServiceId) → count_by (id_eq id) (placed s) ≡ times_ready s id + times_held s id
placed_counts s id =
    sym (times_counts (id_eq id) (placed s)) ∙ times_append (id_eq id) s.ready (filter_map (λ (place : Option ServiceId). place) s.tasks)
    ∙ ap (λ n. times (id_eq id) s.ready + n) (held_services id s.tasks)

pub runs_placed : (s : State) (id : ServiceId) → is_running s id ≡ true → 1 ≤ times_ready s id + times_held s id
runs_placed s id h = by (list_any (id_eq id) s.ready) refl h
  where
    by : (b : Bool) → list_any (id_eq id) s.ready ≡ b → (b || list_any (in_place id) s.tasks) ≡ true → 1 ≤ times_ready s id + times_held s id
    by true e t = let k : 1 ≤ times_ready s id = any_counted (id_eq id) s.ready e in omega arith
    by false e t = let k : 1 ≤ times_held s id = any_counted (in_place id) s.tasks t in omega arith

pub rests_placed : (s : State) (id : ServiceId) → is_running s id ≡ false → times_ready s id + times_held s id ≡ 0
rests_placed s id h = by (list_any (id_eq id) s.ready) refl h
  where
    by : (b : Bool) → list_any (id_eq id) s.ready ≡ b → (b || list_any (in_place id) s.tasks) ≡ false → times_ready s id + times_held s id ≡ 0
    by true e t = absurd (true≢false t)
    by false e t =
        let k : times_ready s id ≡ 0 = none_counted (id_eq id) s.ready e in
        let l : times_held s id ≡ 0 = none_counted (in_place id) s.tasks t in
        omega arith

pub placed_runs : (s : State) (id : ServiceId) → 1 ≤ times_ready s id + times_held s id → is_running s id ≡ true
placed_runs s id h = by (is_running s id) refl
  where
    by : (b : Bool) → is_running s id ≡ b → is_running s id ≡ true
    by true e = e
    by false e = let k : times_ready s id + times_held s id ≡ 0 = rests_placed s id e in absurd (omega arith)

pub placed_rests : (s : State) (id : ServiceId) → times_ready s id + times_held s id ≡ 0 → is_running s id ≡ false
placed_rests s id h = by (is_running s id) refl
  where
    by : (b : Bool) → is_running s id ≡ b → is_running s id ≡ false
    by false e = e
    by true e = let k : 1 ≤ times_ready s id + times_held s id = runs_placed s id e in absurd (omega arith)

pub lists_of : (app : Application) (s : State) → IsConsistent app s → HasLists app s
lists_of app s c = record {
  tasks = c.tasks;
  sessions = c.sessions;
  signed_once = λ user. subst (λ n. n ≤ 1) (sym (times_counts (has_user user) s.signed)) (c.signed_once user);
  active = c.active;
  exclusive = c.exclusive;
  waits = c.waits;
}

pub placed_of : (app : Application) (s : State) → IsConsistent app s → (id : ServiceId) → IsPlaced app s id
placed_of app s c id = record {
  once = subst (λ n. n ≤ 1) (placed_counts s id) (c.placed_once id);
  opened = λ h. c.placed_open id (placed_runs s id h);
  signed = signed id;
  goes_on = goes_on id;
  kept = λ x is h. c.kept id x is (placed_rests s id h);
  rooted = c.rooted id;
  waiting = λ w is. let k = c.waiting id w is in (any_counted (in_place id) s.tasks k.placed, k.since);
}
  where
    signed : (i : ServiceId) → IsOpen s i → is_signed_for s i ≡ true
    signed (Dialogue user) h = c.open_signed user h
    signed (Asynchronous number) h = refl

    goes_on : (i : ServiceId) (row : Service) → is_asynchronous i ≡ false → is_signed_for s i ≡ true → service_of s.tables i ≡ Some row → row.awaits ≡ false → IsOpen s i
    goes_on (Dialogue user) row d on is awaits = c.row_goes_on user row on is awaits
    goes_on (Asynchronous number) row d on is awaits = absurd (true≢false d)

pub consistent_from : (app : Application) (s : State) → HasLists app s → ((id : ServiceId) → IsPlaced app s id) → IsConsistent app s
consistent_from app s l p = record {
  tasks = l.tasks;
  placed_once = λ id. subst (λ n. n ≤ 1) (sym (placed_counts s id)) (p id).once;
  placed_open = λ id h. (p id).opened (runs_placed s id h);
  sessions = l.sessions;
  signed_once = λ user. subst (λ n. n ≤ 1) (times_counts (has_user user) s.signed) (l.signed_once user);
  open_signed = λ user h. (p (Dialogue user)).signed h;
  row_goes_on = λ user row on is awaits. (p (Dialogue user)).goes_on row refl on is awaits;
  kept = λ id x is h. (p id).kept x is (rests_placed s id h);
  active = l.active;
  exclusive = l.exclusive;
  rooted = λ id. (p id).rooted;
  waits = l.waits;
  waiting = λ id w is. let k = (p id).waiting w is in record { placed = counted_any (in_place id) s.tasks k.0; since = k.1 };
}

-- ---- a service that a step leaves alone

-- the same but that its job may be new, and the clock later
pub record IsLeft (s u : State) (id : ServiceId) : Type 0 where
  pub ready : times_ready u id ≡ times_ready s id
  pub held : times_held u id ≡ times_held s id
  pub opened : find id_cmp id u.active ≡ find id_cmp id s.active
  pub waits : find id_cmp id u.waits ≡ find id_cmp id s.waits
  pub row : service_of u.tables id ≡ service_of s.tables id
  pub signed : is_signed_for u id ≡ is_signed_for s id
  pub job : (began : Option Service) → IsOpen s id → HasOwnJob s.tables id began → HasOwnJob u.tables id began
  pub clock : s.tables.clock ≤ u.tables.clock

pub left_placed : (app : Application) (s u : State) (id : ServiceId) → IsLeft s u id → IsPlaced app s id → IsPlaced app u id
left_placed app s u id l p = record {
  once = subst (λ n. n ≤ 1) (sym count) p.once;
  opened = λ h. open_now (p.opened (subst (λ n. 1 ≤ n) count h));
  signed = λ h. l.signed ∙ p.signed (open_then h);
  goes_on = λ row d on is awaits. open_now (p.goes_on row d (sym l.signed ∙ on) (sym l.row ∙ is) awaits);
  kept = λ x is h. p.kept x (sym l.opened ∙ is) (sym count ∙ h);
  rooted = λ x is.
      let was : find id_cmp id s.active ≡ Some x = sym l.opened ∙ is in
      let r = p.rooted x was in
      record { began = l.row ∙ r.began; job = l.job x.began (ap is_some was) r.job };
  waiting = λ w is.
      let k = p.waiting w (sym l.waits ∙ is) in
      let a : 1 ≤ times_held s id = k.0 in
      let b : w.1 ≤ s.tables.clock = k.1 in
      let c : s.tables.clock ≤ u.tables.clock = l.clock in
      (subst (λ n. 1 ≤ n) (sym l.held) a, omega arith);
}
  where
    count : times_ready u id + times_held u id ≡ times_ready s id + times_held s id
    count = ap (λ n. n + times_held u id) l.ready ∙ ap (λ n. times_ready s id + n) l.held

    open_now : IsOpen s id → IsOpen u id
    open_now h = ap is_some l.opened ∙ h

    open_then : IsOpen u id → IsOpen s id
    open_then h = sym (ap is_some l.opened) ∙ h

pub left_itself : (s : State) (id : ServiceId) → IsLeft s s id
left_itself s id = record { ready = refl; held = refl; opened = refl; waits = refl; row = refl; signed = refl; job = λ began o h. h; clock = omega arith }

-- the sessions are the same
pub still_signed : (s u : State) (id : ServiceId) → u.signed ≡ s.signed → is_signed_for u id ≡ is_signed_for s id
still_signed s u (Dialogue user) e = ap (λ es. is_some (pterm_of_user es user)) e
still_signed s u (Asynchronous number) e = refl

-- sessions and tables are the same, and so is what is there for the service
pub left_where : (s u : State) (id : ServiceId) → times_ready u id ≡ times_ready s id → times_held u id ≡ times_held s id → find id_cmp id u.active ≡ find id_cmp id s.active
    → find id_cmp id u.waits ≡ find id_cmp id s.waits → u.signed ≡ s.signed → u.tables ≡ s.tables → IsLeft s u id
left_where s u id ready held opened waits signed tables = record {
  ready = ready;
  held = held;
  opened = opened;
  waits = waits;
  row = ap (λ t. service_of t id) tables;
  signed = still_signed s u id signed;
  job = λ began o h. subst (λ t. HasOwnJob t id began) (sym tables) h;
  clock = subst (λ (t : TableRows). s.tables.clock ≤ t.clock) (sym tables) (omega arith);
}

pub left_then : (s u v : State) (id : ServiceId) → IsLeft s u id → IsLeft u v id → IsLeft s v id
left_then s u v id a b = record {
  ready = b.ready ∙ a.ready;
  held = b.held ∙ a.held;
  opened = b.opened ∙ a.opened;
  waits = b.waits ∙ a.waits;
  row = b.row ∙ a.row;
  signed = b.signed ∙ a.signed;
  job = λ began o h. b.job began (ap is_some a.opened ∙ o) (a.job began o h);
  clock = let k : s.tables.clock ≤ u.tables.clock = a.clock in let l : u.tables.clock ≤ v.tables.clock = b.clock in omega arith;
}

-- ---- the service of a step

-- it is ready or in a task
pub placed_running : (app : Application) (s : State) (id : ServiceId) (x : OpenTransaction) → times_ready s id + times_held s id ≡ 1 → find id_cmp id s.active ≡ Some x
    → is_signed_for s id ≡ true → IsRooted s.tables id x → ((w : Waiting) → find id_cmp id s.waits ≡ Some w → (1 ≤ times_held s id) × (w.1 ≤ s.tables.clock)) → IsPlaced app s id
placed_running app s id x count is on rooted waiting = record {
  once = omega arith;
  opened = λ h. ap is_some is;
  signed = λ h. on;
  goes_on = λ row d o r a. ap is_some is;
  kept = λ y e h. absurd (omega arith);
  rooted = λ y e. subst (IsRooted s.tables id) (some_is x y (sym is ∙ e)) rooted;
  waiting = waiting;
}

-- it is at a PEND KP
pub placed_kept : (app : Application) (s : State) (id : ServiceId) (x : OpenTransaction) → times_ready s id + times_held s id ≡ 0 → find id_cmp id s.active ≡ Some x
    → is_signed_for s id ≡ true → IsRooted s.tables id x → StandsAtKeep app id x → find id_cmp id s.waits ≡ None → IsPlaced app s id
placed_kept app s id x count is on rooted stands none = record {
  once = omega arith;
  opened = λ h. ap is_some is;
  signed = λ h. on;
  goes_on = λ row d o r a. ap is_some is;
  kept = λ y e h. subst (StandsAtKeep app id) (some_is x y (sym is ∙ e)) stands;
  rooted = λ y e. subst (IsRooted s.tables id) (some_is x y (sym is ∙ e)) rooted;
  waiting = λ w e. absurd (true≢false (sym (ap is_some (sym none ∙ e))));
}

-- it has no open transaction
pub placed_closed : (app : Application) (s : State) (id : ServiceId) → times_ready s id + times_held s id ≡ 0 → find id_cmp id s.active ≡ None
    → ((row : Service) → is_asynchronous id ≡ false → is_signed_for s id ≡ true → service_of s.tables id ≡ Some row → row.awaits ≡ false → ⊥) → find id_cmp id s.waits ≡ None → IsPlaced app s id
placed_closed app s id count closed awaits none = record {
  once = omega arith;
  opened = λ h. absurd (omega arith);
  signed = λ h. absurd (true≢false (sym h ∙ ap is_some closed));
  goes_on = λ row d o r a. absurd (awaits row d o r a);
  kept = λ y e h. absurd (true≢false (sym (ap is_some (sym closed ∙ e))));
  rooted = λ y e. absurd (true≢false (sym (ap is_some (sym closed ∙ e))));
  waiting = λ w e. absurd (true≢false (sym (ap is_some (sym none ∙ e))));
}
