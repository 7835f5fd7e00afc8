-- A step touches one service at most.
use Rattle.std.specs.Prelude.{◌≡◌, refl, ℕ, ◌-◌, ◌+◌, Bool, true, false, cond, not, List, Option, Some, None, slice_get, nat_le}
use Rattle.std.proofs.Common.{sym, ap, subst, ◌∙◌}
use Rattle.std.specs.Cmp.{eq_by_cmp_equiv}
use Rattle.std.specs.FinMap.{find, put}
use Rattle.std.specs.FinMap.Entries.{where_key, find-put, find-where_key}
use Rattle.kdcs_types.specs.declared.act.Act.{Act}
use Rattle.kdcs_types.specs.declared.key.Area.{Area}
use Rattle.kdcs_types.specs.declared.key.Key.TheVariants.{Service as ServiceKey}
use Rattle.kdcs_types.specs.declared.key.ServiceId.{ServiceId}
use Rattle.kdcs_types.specs.declared.key.ServiceId.TheVariants.{Dialogue, Asynchronous}
use Rattle.kdcs_types.specs.declared.key.Target.{Target}
use Rattle.kdcs_types.specs.declared.key.Target.TheVariants.{Tac, Lterm}
use Rattle.kdcs_types.specs.declared.service.Ending.{Ending}
use Rattle.kdcs_types.specs.declared.service.Ending.TheVariants.{Synced, Broken}
use Rattle.kdcs_types.specs.declared.service.Job.{Job}
use Rattle.kdcs_types.specs.declared.service.JobValue.{JobValue}
use Rattle.kdcs_types.specs.declared.service.Service.{Service}
use Rattle.kdcs_types.specs.declared.service.Settled.{Settled}
use Rattle.kdcs_types.specs.KeyLaws.{id_total, same_id}
use Rattle.kdcs_types.specs.Keyed.{item_at}
use Rattle.kdcs_types.specs.KeyedLaws.{item_at_without}
use Rattle.kdcs_types.specs.Keys.{id_cmp, id_eq}
use Rattle.kd_base.specs.Limits.{last_clock}
use Rattle.kdcs_types.specs.Tables.{TableRows, service_key, service_of, job_of, shown_of}
use Rattle.abstract_monitor.specs.declared.answer.Happened.{Happened}
use Rattle.abstract_monitor.specs.declared.answer.Happened.TheVariants.{Went, Queued, Waited, Held, Settles, Breaks, Returns}
use Rattle.abstract_monitor.specs.declared.input_use.Use.{Use}
use Rattle.abstract_monitor.specs.declared.input_use.Use.TheVariants.{Sign, Off, Display, Output, Again, Next, Start}
use Rattle.abstract_monitor.specs.declared.outcome.Outcome.{Outcome}
use Rattle.abstract_monitor.specs.declared.outcome.Outcome.TheVariants.{Wait, Point, Follow, Finish}
use Rattle.abstract_monitor.specs.declared.work.Work.{Work}
use Rattle.abstract_monitor.specs.declared.work.Work.TheVariants as work
use Rattle.abstract_monitor.specs.Bytes.{Bytes, bytes_cmp}
use Rattle.abstract_monitor.specs.State.{Application, OpenTransaction, Session, State}
use Rattle.abstract_monitor.specs.Endings.{synchronised, broken, row_after, restarts}
use Rattle.abstract_monitor.specs.Statements.{area_of, kept_record}
use Rattle.abstract_monitor.specs.Picks.{pick}
use Rattle.abstract_monitor.specs.Turns.{without_transaction, with_task, without_wait, queued, waiting_for, pterm_of_user, noted_last, last_told, message_sent, goes_on, after_point, settled, abnormal}
use Rattle.abstract_monitor.specs.Turns.{back_by, back, happens, served, took_job_for, took_job, took, turn_by, turn_of}
use Rattle.abstract_monitor.specs.declared.command.Command.TheVariants.{Input, Tick, Run, Turn, Drop, Print, PrintLast, Restart}
use Rattle.abstract_monitor.specs.Commands.{signed_on_by, resumed_by, with_session, signed_off, rolled_tables, show_next, show_by, due_for, last_by, next_by, used, use_now, tick_by, drop_by}
use Rattle.abstract_monitor.specs.Commands.{command_of, lterm_at}
use Rattle.laws_of_states.specs.EachTurnLaws.{of_point}
use Rattle.laws_of_states.specs.Frames.{LeavesOthers, TurnsLeaveOthers, TouchesOne, CommandsTouchOne}
use Rattle.laws_of_states.specs.OwnRowLaws.{points_set, ends_remove}
use Rattle.laws_of_states.specs.TablesStayLaws.{last_again_stays, again_stays, display_stays}

-- ---- lists by services

put_other : {X : Type 0} (es : List (ServiceId × X)) (id other : ServiceId) (y : X) → id_eq other id ≡ false → find id_cmp other (put id_cmp id y es) ≡ find id_cmp other es
put_other es id other y e = find-put id_cmp id_total other id y es ∙ ap (λ b. cond b (Some y) (find id_cmp other es)) e

without_other : {X : Type 0} (es : List (ServiceId × X)) (id other : ServiceId) → id_eq other id ≡ false → find id_cmp other (where_key id_cmp (λ i. not (id_eq id i)) es) ≡ find id_cmp other es
without_other es id other e =
    find-where_key id_cmp (λ k. not (id_eq id k)) other (λ x same. ap (λ k. not (id_eq id k)) (sym (same_id other x same))) es
    ∙ ap (λ b. cond (not b) (find id_cmp other es) None) ((eq_by_cmp_equiv id_total).symm id other ∙ e)

-- ---- changes of a state

module _ (id : ServiceId) where
  stays : (s : State) → LeavesOthers id s s
  stays s = record { transactions = λ other e. refl; rows = λ other e. refl; waits = λ other e. refl }

  both_leave : (a b c : State) → LeavesOthers id a b → LeavesOthers id b c → LeavesOthers id a c
  both_leave a b c f g = record {
    transactions = λ other e. g.transactions other e ∙ f.transactions other e;
    rows = λ other e. g.rows other e ∙ f.rows other e;
    waits = λ other e. g.waits other e ∙ f.waits other e;
  }

  waits_on : (s : State) (o : Option Area) → LeavesOthers id s (waiting_for s id o)
  waits_on s None = stays s
  waits_on s (Some area) = record { transactions = λ other e. refl; rows = λ other e. refl; waits = λ other e. put_other s.waits id other _ e }

  noted : (s : State) (pterm message : Bytes) (v : Option Session) → LeavesOthers id s (noted_last s pterm message v)
  noted s pterm message None = stays s
  noted s pterm message (Some v) = record { transactions = λ other e. refl; rows = λ other e. refl; waits = λ other e. refl }

  told : (s : State) (pterm : Option Bytes) (message : Bytes) → LeavesOthers id s (last_told s pterm message)
  told s None message = stays s
  told s (Some pterm) message = noted s pterm message (find bytes_cmp pterm s.signed)

  sent : (s : State) (i : ServiceId) (x : OpenTransaction) → LeavesOthers id s (message_sent s i x)
  sent s (Dialogue user) x = told s (pterm_of_user s.signed user) _
  sent s (Asynchronous number) x = stays s

  goes : (app : Application) (s : State) (x : OpenTransaction) (row : Option Service) → LeavesOthers id s (goes_on app s id x row)
  goes app s x None = stays s
  goes app s x (Some row) = record { transactions = λ other e. put_other s.active id other _ e; rows = λ other e. refl; waits = λ other e. refl }

  -- the transaction is over, in these tables
  over : (s : State) (task : ℕ) (new : TableRows) → ((other : ServiceId) → id_eq other id ≡ false → service_of new other ≡ service_of s.tables other) → LeavesOthers id s (record (without_transaction s task id) { tables = new })
  over s task new rows = record { transactions = λ other e. without_other s.active id other e; rows = rows; waits = λ other e. without_other s.waits id other e }

-- ---- a turn

module _ (app : Application) (s : State) (task : ℕ) (id : ServiceId) (x : OpenTransaction) where
  abnormal_fine : (e : Ending) → LeavesOthers id s (abnormal app s task id x e).after
  unfolding abnormal
  abnormal_fine ending = over id s task (broken app.generation s.tables id x) (λ other e. ends_remove app.generation s.tables id x other ∙ ap (λ b. cond b None (service_of s.tables other)) e)

  point_fine : (u : State) → LeavesOthers id s u → (o : Outcome) (row : Option Service) (commit : Act) (kept : Settled) → LeavesOthers id s (after_point app u id x o row commit kept).after
  point_fine u h (Wait tac) row commit kept = both_leave id s u _ h (sent id u id x)
  point_fine u h Finish row commit kept = both_leave id s u _ h (sent id u id x)
  point_fine u h (Point tac) row commit kept = both_leave id s u _ h (goes id app u x row)
  point_fine u h (Follow tac) row commit kept = both_leave id s u _ h (goes id app u x row)
  point_fine u h _ row commit kept = h

  settled_fine : (o : Outcome) → LeavesOthers id s (settled app s task id x o).after
  settled_fine o =
      let new = synchronised app.generation s.tables id x o in
      of_point app s task id x o (λ t. LeavesOthers id s t.after) (λ cause. abnormal_fine (Broken cause))
      (point_fine (record (without_transaction s task id) { tables = new })
      (over id s task _ (λ other e. points_set app.generation s.tables id x o other ∙ ap (λ b. cond b (row_after app.generation id x o) (service_of s.tables other)) e))
      o (row_after app.generation id x o) _ (kept_record id x Synced))

  closed : LeavesOthers id s (without_transaction s task id)
  closed = record { transactions = λ other e. without_other s.active id other e; rows = λ other e. refl; waits = λ other e. without_other s.waits id other e }

  back_fine : (began : Option Service) → LeavesOthers id s (back app (without_transaction s task id) id x began).after
  back_fine None = closed
  back_fine (Some row) = by row.awaits
    where
      by : (b : Bool) → LeavesOthers id s (back_by app (without_transaction s task id) id x row b).after
      by true =
          let left = without_transaction s task id in
          last_again_stays (LeavesOthers id s) left (λ pterm message. both_leave id s left _ closed (told id left pterm message)) closed id row.last
      by false = both_leave id s (without_transaction s task id) _ closed (record { transactions = λ other e. put_other _ id other _ e; rows = λ other e. refl; waits = λ other e. refl })

  happens_fine : (y : OpenTransaction) (h : Happened) → LeavesOthers id s (happens app s task id x y h).after
  unfolding happens
  happens_fine y Went = record { transactions = λ other e. put_other s.active id other y e; rows = λ other e. refl; waits = λ other e. without_other s.waits id other e }
  happens_fine y Queued = record { transactions = λ other e. put_other s.active id other y e; rows = λ other e. refl; waits = λ other e. without_other s.waits id other e }
  happens_fine y Waited = waits_on id s (area_of app x)
  happens_fine y (Held tac) = both_leave id s (with_task (without_wait s id) task None) _ (record { transactions = λ other e. refl; rows = λ other e. refl; waits = λ other e. without_other s.waits id other e }) (sent id (with_task (without_wait s id) task None) id x)
  happens_fine y (Settles o) = settled_fine o
  happens_fine y (Breaks ending) = abnormal_fine ending
  happens_fine y Returns = back_fine x.began

served_fine : (app : Application) (s : State) (task : ℕ) (id : ServiceId) (o : Option OpenTransaction) → LeavesOthers id s (served app s task id o).after
served_fine app s task id None = stays id s
served_fine app s task id (Some x) = happens_fine app s task id x _ _

pub turns_leave_others : TurnsLeaveOthers
unfolding turn_of
turns_leave_others app s task id e = subst (λ place. LeavesOthers id s (turn_by app s task place).after) (sym e) (served_fine app s task id (find id_cmp id s.active))

-- any service will do where none is touched
abbrev nobody : ServiceId
nobody = Asynchronous 0

untouched : (s u : State) → u.active ≡ s.active → u.tables.services ≡ s.tables.services → u.waits ≡ s.waits → TouchesOne s u
untouched s u a t w = (
  nobody,
  record {
    transactions = λ other e. ap (find id_cmp other) a;
    rows = λ other e. ap (λ (rows : List Service). item_at service_key (ServiceKey other) rows) t;
    waits = λ other e. ap (find id_cmp other) w;
  },
)

job_touches : (app : Application) (s : State) (task number : ℕ) (job : Option JobValue) → TouchesOne s (took_job app s task number job).after
job_touches app s task number None = untouched s s refl refl refl
job_touches app s task number (Some job) = by job.to
  where
    by : (to : Target) → TouchesOne s (took_job_for app s task number job to).after
    by (Tac tac) = (Asynchronous number, record { transactions = λ other e. put_other s.active (Asynchronous number) other _ e; rows = λ other e. refl; waits = λ other e. refl })
    by (Lterm lterm) = untouched s s refl refl refl

took_touches : (app : Application) (s : State) (task : ℕ) (w : Option Work) → TouchesOne s (took app s task w).after
took_touches app s task None = untouched s s refl refl refl
took_touches app s task (Some (work.Service id)) = untouched s _ refl refl refl
took_touches app s task (Some (work.Job number)) = job_touches app s task number (job_of s.tables number)

turn_touches : (app : Application) (s : State) (task : ℕ) → TouchesOne s (turn_of app s task).after
unfolding turn_of
turn_touches app s task = by (slice_get s.tasks (task - 1))
  where
    by : (place : Option (Option ServiceId)) → TouchesOne s (turn_by app s task place).after
    by None = untouched s s refl refl refl
    by (Some None) = took_touches app s task (pick app s)
    by (Some (Some id)) = (id, served_fine app s task id (find id_cmp id s.active))

-- ---- the other commands

module _ (app : Application) (s : State) where
  same : TouchesOne s s
  same = untouched s s refl refl refl

  resumed : (u : State) (user lterm : Bytes) (row : Service) (awaits : Bool) → u.active ≡ s.active → u.tables ≡ s.tables → u.waits ≡ s.waits → TouchesOne s (resumed_by app u user lterm row awaits)
  resumed u user lterm row true a t w = untouched s u a (ap (λ (r : TableRows). r.services) t) w
  resumed u user lterm row false a t w = (
    Dialogue user,
    record {
      transactions = λ other e. put_other u.active (Dialogue user) other _ e ∙ ap (find id_cmp other) a;
      rows = λ other e. ap (λ (r : TableRows). service_of r other) t;
      waits = λ other e. ap (find id_cmp other) w;
    },
  )

  signed : (pterm user lterm : Bytes) (row : Option Service) → TouchesOne s (signed_on_by app s pterm user lterm row).after
  signed pterm user lterm None = untouched s _ refl refl refl
  signed pterm user lterm (Some row) = resumed (with_session s pterm user row.last) user lterm row row.awaits refl refl refl

  rolled : (user : Bytes) (b : Bool) (other : ServiceId) → id_eq other (Dialogue user) ≡ false → service_of (rolled_tables app s.tables user b) other ≡ service_of s.tables other
  rolled user true other e = refl
  rolled user false other e = item_at_without service_key (ServiceKey other) (ServiceKey (Dialogue user)) s.tables.services ∙ ap (λ b. cond b None (service_of s.tables other)) e

  off : (pterm user : Bytes) → TouchesOne s (signed_off app s pterm user)
  unfolding signed_off
  off pterm user = (
    Dialogue user,
    record {
      transactions = λ other e. without_other s.active (Dialogue user) other e;
      rows = rolled user (restarts app.generation user);
      waits = λ other e. without_other s.waits (Dialogue user) other e;
    },
  )

  shows : (lterm none : Bytes) (line_of : Bytes → Bytes) (job : Option Job) → TouchesOne s (show_by app s lterm none line_of job).after
  shows lterm none line_of None = same
  shows lterm none line_of (Some job) = untouched s _ refl refl refl

  queues : (user : Bytes) (x : OpenTransaction) → TouchesOne s (queued s (Dialogue user) x)
  queues user x = (Dialogue user, record { transactions = λ other e. put_other s.active (Dialogue user) other x e; rows = λ other e. refl; waits = λ other e. refl })

  next : (user lterm text : Bytes) (o : Option OpenTransaction) (row : Option Service) → TouchesOne s (next_by app s user lterm text o row)
  next user lterm text (Some x) row = queues user _
  next user lterm text None (Some row) = queues user _
  next user lterm text None None = same

  uses : (pterm lterm user : Bytes) (u : Use) → TouchesOne s (used app s pterm lterm user u).after
  unfolding used show_next
  uses pterm lterm user (Sign name) = signed pterm name (lterm_at app pterm) (service_of s.tables (Dialogue name))
  uses pterm lterm user Off = off pterm user
  uses pterm lterm user Display = display_stays (TouchesOne s) s same pterm (last_by (find bytes_cmp pterm s.signed))
  uses pterm lterm user Output = shows lterm _ _ (due_for s lterm)
  uses pterm lterm user Again = again_stays (TouchesOne s) s same _ _ (shown_of s.tables lterm)
  uses pterm lterm user (Next text) = next user lterm text _ _
  uses pterm lterm user (Start tac text) = queues user _
  uses pterm lterm user _ = same

  ticks_by : (ticks clock : ℕ) (b : Bool) → TouchesOne s (tick_by app s ticks clock b).after
  ticks_by ticks clock true = untouched s _ refl refl refl
  ticks_by ticks clock false = same

  drops : (pterm : Bytes) (v : Option Session) → TouchesOne s (drop_by app s pterm v).after
  drops pterm None = same
  drops pterm (Some v) = off pterm v.user

pub commands_touch_one : CommandsTouchOne
unfolding command_of show_next
commands_touch_one app s (Input pterm text) = uses app s pterm _ _ (use_now app s pterm text)
commands_touch_one app s (Tick ticks) = ticks_by app s ticks _ (nat_le (s.tables.clock + ticks) last_clock)
commands_touch_one app s (Run turns) = same app s
commands_touch_one app s (Turn task) = turn_touches app s task
commands_touch_one app s (Drop pterm) = drops app s pterm (find bytes_cmp pterm s.signed)
commands_touch_one app s (Print pterm) = shows app s (lterm_at app pterm) _ _ (due_for s (lterm_at app pterm))
commands_touch_one app s (PrintLast pterm) = again_stays (TouchesOne s) s (same app s) _ _ (shown_of s.tables (lterm_at app pterm))
commands_touch_one app s Restart = tt
