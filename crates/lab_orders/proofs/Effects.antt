-- A turn without effect leaves the state as it was.
use Rattle.std.proofs.Common.{◌≡◌, inl, inr, ℕ, ◌-◌, refl, sym, ap, ◌∙◌}
use Rattle.std.specs.Prelude.{◌⊎◌, Bool, true, false, not, ◌||◌, ◌&&◌, ◌==◌, IsTrue, cond, List, [], Option, Some, None, slice_get}
use Rattle.std.specs.FinMap.{find, put, is_sorted}
use Rattle.std.specs.FinMap.Entries.{find-put}
use Rattle.std.proofs.lemmas.Bool.{eqb-true, true≢false}
use Rattle.kdcs_types.specs.declared.key.Area.{Area}
use Rattle.kdcs_types.specs.declared.key.ServiceId.{ServiceId}
use Rattle.kdcs_types.specs.declared.key.ServiceId.TheVariants.{Dialogue, Asynchronous}
use Rattle.kdcs_types.specs.KeyLaws.{area_eq_same, id_eq_itself, id_total}
use Rattle.kdcs_types.specs.Keys.{area_eq, id_cmp}
use Rattle.kdcs_types.specs.declared.service.JobValue.{JobValue}
use Rattle.kdcs_types.specs.declared.service.Service.{Service}
use Rattle.kdcs_types.specs.declared.key.Target.{Target}
use Rattle.kdcs_types.specs.declared.key.Target.TheVariants.{Tac, Lterm}
use Rattle.abstract_monitor.specs.declared.answer.Happened.{Happened}
use Rattle.abstract_monitor.specs.declared.answer.Happened.TheVariants.{Went, Queued, Waited, Held, Settles, Breaks, Returns}
use Rattle.abstract_monitor.specs.declared.outcome.Outcome.{Outcome}
use Rattle.abstract_monitor.specs.declared.outcome.Outcome.TheVariants.{Stay, Queue, Hold, Wait, Point, Finish, Follow, Break, Back}
use Rattle.abstract_monitor.specs.declared.work.Work.{Work}
use Rattle.abstract_monitor.specs.declared.work.Work.TheVariants as work
use Rattle.kdcs_types.specs.declared.call.Cause.{Cause}
use Rattle.kdcs_types.specs.Tables.{job_of}
use Rattle.abstract_monitor.specs.Locks.{Waiting, since, locks_of}
use Rattle.abstract_monitor.specs.State.{Application, OpenTransaction, State}
use Rattle.abstract_monitor.specs.Statements.{area_of}
use Rattle.abstract_monitor.specs.Picks.{pick}
use Rattle.abstract_monitor.specs.Endings.{durable, refusal, synchronised}
use Rattle.abstract_monitor.specs.Turns.{Turned, abnormal, back, back_by, happens, last_again, served, settled, settled_by, statement_now, took, took_job, took_job_for, turn_by, turn_of, unmoved, waiting_for}
use Rattle.abstract_monitor.specs.Turns.{without_transaction}
use Rattle.monitor_core.specs.LockingLaws.{put_same}
use Rattle.lab_walks.specs.Orders.{has_effect, same_wait, wait_by, wait_in}

pub found_put : {X : Type 0} (id : ServiceId) (x : X) (es : List (ServiceId × X)) → find id_cmp id (put id_cmp id x es) ≡ Some x
found_put id x es = find-put id_cmp id_total id id x es ∙ ap (λ b. cond b (Some x) (find id_cmp id es)) (id_eq_itself id)

-- the same request is told by the test
pub same_wait_only : (v w : Option Waiting) → same_wait v w ≡ true → v ≡ w
same_wait_only None None e = refl
same_wait_only None (Some w) e = absurd (true≢false (sym e))
same_wait_only (Some v) None e = absurd (true≢false (sym e))
same_wait_only (Some v) (Some w) e = by (area_eq v.0 w.0) (v.1 == w.1) refl refl e
  where
    by : (a n : Bool) → area_eq v.0 w.0 ≡ a → (v.1 == w.1) ≡ n → (a && n) ≡ true → Some v ≡ Some w
    by true true ea en e = λ i. Some (area_eq_same v.0 w.0 ea i, eqb-true v.1 w.1 en i)
    by true false ea en e = absurd (true≢false (sym e))
    by false n ea en e = absurd (true≢false (sym e))

-- it moved nothing: nothing happened, or a request waits
IsStill : State → (task : ℕ) → Turned → Type 0
IsStill s task t = (t.after ≡ s) ⊎ ((id : ServiceId) × (area : Area) × (n : ℕ) × (slice_get s.tasks (task - 1) ≡ Some (Some id)) × (t.after ≡ record s { waits = put id_cmp id (area, n) s.waits }))

still : (s : State) (task : ℕ) (t : Turned) → t.after ≡ s → IsStill s task t
unfolding IsStill
still s task t e = inl e

moved_not : {A : Type 0} → true ≡ false → A
moved_not e = absurd (true≢false e)

point_moves : (app : Application) (s : State) (task : ℕ) (id : ServiceId) (x : OpenTransaction) (o : Outcome) → (settled app s task id x o).moved ≡ true
unfolding settled abnormal
point_moves app s task id x o = by (refusal app.generation (durable app.generation (synchronised app.generation s.tables id x o))) o
  where
    by : (c : Option Cause) (o' : Outcome) → (settled_by app s task id x o' (synchronised app.generation s.tables id x o) c).moved ≡ true
    by (Some cause) o' = refl
    by None (Stay tac) = refl
    by None (Queue tac) = refl
    by None (Hold tac) = refl
    by None (Wait tac) = refl
    by None (Point tac) = refl
    by None Finish = refl
    by None (Follow tac) = refl
    by None Break = refl
    by None Back = refl

again_moves : (s : State) (id : ServiceId) (last : Option (List ℕ)) → (last_again s id last).moved ≡ true
again_moves s id None = refl
again_moves s (Dialogue user) (Some message) = refl
again_moves s (Asynchronous number) (Some message) = refl

back_moves : (app : Application) (s : State) (id : ServiceId) (x : OpenTransaction) (row : Option Service) → (back app s id x row).moved ≡ true
back_moves app s id x None = refl
back_moves app s id x (Some row) = by row.awaits
  where
    by : (b : Bool) → (back_by app s id x row b).moved ≡ true
    by true = again_moves s id row.last
    by false = refl

happens_still : (app : Application) (s : State) (task : ℕ) (id : ServiceId) → slice_get s.tasks (task - 1) ≡ Some (Some id) → (x y : OpenTransaction) (h : Happened) → (happens app s task id x y h).moved ≡ false → IsStill s task (happens app s task id x y h)
unfolding happens abnormal IsStill
happens_still app s task id at x y Went e = moved_not e
happens_still app s task id at x y Queued e = moved_not e
happens_still app s task id at x y Waited e = by (area_of app x)
  where
    by : (o : Option Area) → IsStill s task (record { after = waiting_for s id o; moved = false; acts = []; settled = None })
    by None = inl refl
    by (Some area) = inr (id, area, since (locks_of s) id area s.tables.clock, at, refl)
happens_still app s task id at x y (Held tac) e = moved_not e
happens_still app s task id at x y (Settles o) e = moved_not (sym (point_moves app s task id x o) ∙ e)
happens_still app s task id at x y (Breaks ending) e = moved_not e
happens_still app s task id at x y Returns e = moved_not (sym (back_moves app (without_transaction s task id) id x x.began) ∙ e)

-- a statement moves nothing only where its request waits
pub happens_only : (app : Application) (s : State) (task : ℕ) (id : ServiceId) (x y : OpenTransaction) (h : Happened) → (happens app s task id x y h).moved ≡ false → h ≡ Waited
unfolding happens abnormal
happens_only app s task id x y Went e = moved_not e
happens_only app s task id x y Queued e = moved_not e
happens_only app s task id x y Waited e = refl
happens_only app s task id x y (Held tac) e = moved_not e
happens_only app s task id x y (Settles o) e = moved_not (sym (point_moves app s task id x o) ∙ e)
happens_only app s task id x y (Breaks ending) e = moved_not e
happens_only app s task id x y Returns e = moved_not (sym (back_moves app (without_transaction s task id) id x x.began) ∙ e)

pub happens_waits : (app : Application) (s : State) (task : ℕ) (id : ServiceId) (x y : OpenTransaction) → happens app s task id x y Waited ≡ unmoved (waiting_for s id (area_of app x))
unfolding happens
happens_waits app s task id x y = refl

pub took_still : (app : Application) (s : State) (task : ℕ) (o : Option Work) → (took app s task o).moved ≡ false → (took app s task o).after ≡ s
took_still app s task None e = refl
took_still app s task (Some (work.Service id)) e = moved_not e
took_still app s task (Some (work.Job number)) e = by (job_of s.tables number) e
  where
    for : (job : JobValue) (to : Target) → (took_job_for app s task number job to).moved ≡ false → (took_job_for app s task number job to).after ≡ s
    for job (Tac tac) e = moved_not e
    for job (Lterm lterm) e = refl

    by : (o : Option JobValue) → (took_job app s task number o).moved ≡ false → (took_job app s task number o).after ≡ s
    by None e = refl
    by (Some job) e = for job job.to e

turn_still : (app : Application) (s : State) (task : ℕ) → (turn_of app s task).moved ≡ false → IsStill s task (turn_of app s task)
unfolding turn_of
turn_still app s task e = by (slice_get s.tasks (task - 1)) refl e
  where
    open_by : (id : ServiceId) → slice_get s.tasks (task - 1) ≡ Some (Some id) → (o : Option OpenTransaction) → (served app s task id o).moved ≡ false → IsStill s task (served app s task id o)
    open_by id at None e = still s task (served app s task id None) refl
    open_by id at (Some x) e = happens_still app s task id at x (statement_now app s id x).0 (statement_now app s id x).1 e

    by : (o : Option (Option ServiceId)) → slice_get s.tasks (task - 1) ≡ o → (turn_by app s task o).moved ≡ false → IsStill s task (turn_by app s task o)
    by None at e = still s task (turn_by app s task None) refl
    by (Some None) at e = still s task (turn_by app s task (Some None)) (took_still app s task (pick app s) e)
    by (Some (Some id)) at e = open_by id at (find id_cmp id s.active) e

wait_at : (s : State) (task : ℕ) (id : ServiceId) → slice_get s.tasks (task - 1) ≡ Some (Some id) → wait_in s task ≡ find id_cmp id s.waits
wait_at s task id at = ap (wait_by s) at

-- a turn that moves nothing, and after which the same request waits, leaves the state as it was
pub no_effect_no_change : (app : Application) (s : State) (task : ℕ) → IsTrue (is_sorted id_cmp s.waits) → has_effect app s task ≡ false → (turn_of app s task).after ≡ s
unfolding has_effect IsStill
no_effect_no_change app s task sorted e = by (turn_of app s task).moved (same_wait (wait_in s task) (wait_in (turn_of app s task).after task)) refl refl e
  where
    Later : Turned
    Later = turn_of app s task

    waited : wait_in s task ≡ wait_in (turn_of app s task).after task → IsStill s task (turn_of app s task) → (turn_of app s task).after ≡ s
    waited same (inl stays) = stays
    waited same (inr (id, area, n, at, is)) =
        let here : wait_in (turn_of app s task).after task ≡ Some (area, n) = ap (λ (u : State). wait_in u task) is ∙ ap (wait_by (record s { waits = put id_cmp id (area, n) s.waits })) at ∙ found_put id (area, n) s.waits in
        is ∙ ap (λ (w : List (ServiceId × Waiting)). record s { waits = w }) (put_same id (area, n) s.waits sorted (sym (wait_at s task id at) ∙ same ∙ here))

    by : (m w : Bool) → (turn_of app s task).moved ≡ m → same_wait (wait_in s task) (wait_in (turn_of app s task).after task) ≡ w → (m || not w) ≡ false → (turn_of app s task).after ≡ s
    by true w em ew e = moved_not e
    by false false em ew e = moved_not e
    by false true em ew e = waited (same_wait_only _ _ ew) (turn_still app s task em)

-- ---- and says nothing

happens_quiet : (app : Application) (s : State) (task : ℕ) (id : ServiceId) (x y : OpenTransaction) (h : Happened) → (happens app s task id x y h).moved ≡ false → (happens app s task id x y h).acts ≡ []
unfolding happens abnormal
happens_quiet app s task id x y Went e = moved_not e
happens_quiet app s task id x y Queued e = moved_not e
happens_quiet app s task id x y Waited e = refl
happens_quiet app s task id x y (Held tac) e = moved_not e
happens_quiet app s task id x y (Settles o) e = moved_not (sym (point_moves app s task id x o) ∙ e)
happens_quiet app s task id x y (Breaks ending) e = moved_not e
happens_quiet app s task id x y Returns e = moved_not (sym (back_moves app (without_transaction s task id) id x x.began) ∙ e)

took_quiet : (app : Application) (s : State) (task : ℕ) (o : Option Work) → (took app s task o).moved ≡ false → (took app s task o).acts ≡ []
took_quiet app s task None e = refl
took_quiet app s task (Some (work.Service id)) e = moved_not e
took_quiet app s task (Some (work.Job number)) e = by (job_of s.tables number) e
  where
    for : (job : JobValue) (to : Target) → (took_job_for app s task number job to).moved ≡ false → (took_job_for app s task number job to).acts ≡ []
    for job (Tac tac) e = moved_not e
    for job (Lterm lterm) e = refl

    by : (o : Option JobValue) → (took_job app s task number o).moved ≡ false → (took_job app s task number o).acts ≡ []
    by None e = refl
    by (Some job) e = for job job.to e

turn_quiet : (app : Application) (s : State) (task : ℕ) → (turn_of app s task).moved ≡ false → (turn_of app s task).acts ≡ []
unfolding turn_of
turn_quiet app s task e = by (slice_get s.tasks (task - 1)) e
  where
    open_by : (id : ServiceId) (o : Option OpenTransaction) → (served app s task id o).moved ≡ false → (served app s task id o).acts ≡ []
    open_by id None e = refl
    open_by id (Some x) e = happens_quiet app s task id x (statement_now app s id x).0 (statement_now app s id x).1 e

    by : (o : Option (Option ServiceId)) → (turn_by app s task o).moved ≡ false → (turn_by app s task o).acts ≡ []
    by None e = refl
    by (Some None) e = took_quiet app s task (pick app s) e
    by (Some (Some id)) e = open_by id (find id_cmp id s.active) e

pub no_effect_no_acts : (app : Application) (s : State) (task : ℕ) → has_effect app s task ≡ false → (turn_of app s task).acts ≡ []
unfolding has_effect
no_effect_no_acts app s task e = by (turn_of app s task).moved refl e
  where
    by : (m : Bool) → (turn_of app s task).moved ≡ m → (m || not (same_wait (wait_in s task) (wait_in (turn_of app s task).after task))) ≡ false → (turn_of app s task).acts ≡ []
    by true em e = moved_not e
    by false em e = turn_quiet app s task em
