-- The rotation of the tasks is an order: what its RUNs come to, turn by turn.
use Rattle.std.proofs.Common.{◌≡◌, ℕ, zero, suc, ◌+◌, ◌-◌, ◌≤◌, List, [], ◌∷◌, ◌++◌, inl, inr, refl, sym, ap, subst, ◌∙◌, arith}
use Rattle.std.specs.Prelude.{◌⊎◌, Bool, true, false, not, ◌||◌, ◌&&◌, ◌==◌, cond, if◌then◌else◌, Option, Some, None, nat_le, slice_get}
use Rattle.std.specs.FinMap.{find}
use Rattle.std.proofs.lemmas.Bool.{eq-eqb, eqb-true, leb-true, true≢false}
use Rattle.application_types.specs.Statements.{IsWithin}
use Rattle.kdcs_types.specs.declared.key.Area.{Area}
use Rattle.kdcs_types.specs.declared.key.ServiceId.{ServiceId}
use Rattle.kdcs_types.specs.KeyLaws.{area_eq_itself, id_eq_same}
use Rattle.kdcs_types.specs.Keys.{area_eq, id_cmp, id_eq}
use Rattle.kdcs_types.specs.declared.key.Target.{Target}
use Rattle.kdcs_types.specs.declared.key.Target.TheVariants.{Tac, Lterm}
use Rattle.kdcs_types.specs.declared.service.JobValue.{JobValue}
use Rattle.kdcs_types.specs.Tables.{content_of, job_of}
use Rattle.abstract_monitor.specs.declared.answer.Happened.{Happened}
use Rattle.abstract_monitor.specs.declared.answer.Happened.TheVariants.{Waited}
use Rattle.abstract_monitor.specs.declared.answer.LockAnswer.TheVariants.{Wait}
use Rattle.abstract_monitor.specs.declared.work.Work.{Work}
use Rattle.abstract_monitor.specs.declared.work.Work.TheVariants as work
use Rattle.abstract_monitor.specs.declared.command.Command.{Command}
use Rattle.abstract_monitor.specs.declared.command.Command.TheVariants.{Input, Tick, Run, Turn, Drop, Print, PrintLast, Restart}
use Rattle.abstract_monitor.specs.Calls.{Told}
use Rattle.abstract_monitor.specs.Commands.{ScriptStep, command_of, in_a_row, next_task, rotated, started, state_after, steps_of, turned_step}
use Rattle.abstract_monitor.specs.Endings.{is_asynchronous}
use Rattle.abstract_monitor.specs.Locks.{Waiting, answer_of, locks_of, since, since_by, told_now}
use Rattle.abstract_monitor.specs.Picks.{pick}
use Rattle.abstract_monitor.specs.State.{Application, OpenTransaction, State}
use Rattle.abstract_monitor.specs.Statements.{area_of, statement}
use Rattle.abstract_monitor.specs.Trace.{history}
use Rattle.abstract_monitor.specs.Turns.{Turned, happens, served, statement_now, told_here, took, took_job, took_job_for, turn_by, turn_of, waiting, waiting_for}
use Rattle.laws_of_runs.specs.HistoryLaws.{rotated_ended}
use Rattle.laws_of_states.specs.Applications.{IsApplication}
use Rattle.laws_of_states.specs.Keeping.{HasFacts, IsScriptOf, Leads}
use Rattle.lab_orders.specs.Laws.{RotationsAreOrders}
use Rattle.lab_walks.specs.Orders.{IsAtRest, IsNext, IsOrder, RunsSo, by_effect, has_effect, is_in, order_steps, same_wait, turned_run, turned_script, wait_by, wait_in}
use Rattle.lab_orders.specs.Walking.{IsNoRun}
use Rattle.lab_orders.proofs.Effects.{found_put, happens_only, happens_waits, no_effect_no_change, took_still}
use Rattle.lab_orders.proofs.Ordered.{order_begins, order_behind}
use Rattle.lab_orders.proofs.Steps.{after_one, command_steps, no_acts_after, no_steps, over_steps, rest_steps, run_steps, turn_steps}
use Rattle.lab_orders.proofs.Waiting.{IsToldToWait, found_wait, later, other_told, own_told, statement_told, told_from, told_to, with_wait}

-- ---- tasks that have nothing to do, whatever others begin to wait for

-- the area is awaited
abbrev Awaits : State → ServiceId → Option Area → Type 0
Awaits s id None = Unit {0}
Awaits s id (Some area) = (n : ℕ) × (find id_cmp id s.waits ≡ Some (area, n))

-- the statement waits, and is known to
abbrev QuietFor : Application → State → ServiceId → Option OpenTransaction → Type 0
QuietFor app s id None = Unit {0}
QuietFor app s id (Some x) = ((statement_now app s id x).1 ≡ Waited) × Awaits s id (area_of app x)

abbrev QuietBy : Application → State → (task : ℕ) → Option (Option ServiceId) → Type 0
QuietBy app s task None = Unit {0}
QuietBy app s task (Some None) = (took app s task (pick app s)).moved ≡ false
QuietBy app s task (Some (Some id)) = QuietFor app s id (find id_cmp id s.active)

-- a free task that finds no work, or a service that waits on
Quiet : Application → State → (task : ℕ) → Type 0
Quiet app s task = QuietBy app s task (slice_get s.tasks (task - 1))

same_itself : (o : Option Waiting) → same_wait o o ≡ true
same_itself None = refl
same_itself (Some w) = by (area_eq w.0 w.0) (w.1 == w.1) (area_eq_itself w.0) (eq-eqb w.1 w.1 refl)
  where
    by : (a n : Bool) → a ≡ true → n ≡ true → (a && n) ≡ true
    by a n ea en = λ i. ea i && en i

no_effect : (app : Application) (s : State) (task : ℕ) → (turn_of app s task).moved ≡ false → wait_in s task ≡ wait_in (turn_of app s task).after task → has_effect app s task ≡ false
unfolding has_effect
no_effect app s task still same =
    (λ i. still i || not (same_wait (wait_in s task) (sym same i)))
    ∙ ap not (same_itself (wait_in s task))

moves_effect : (app : Application) (s : State) (task : ℕ) → (turn_of app s task).moved ≡ true → has_effect app s task ≡ true
unfolding has_effect
moves_effect app s task m = ap (λ b. b || not (same_wait (wait_in s task) (wait_in (turn_of app s task).after task))) m

-- it has no effect
quiet_rests : (app : Application) (s : State) (task : ℕ) → Quiet app s task → has_effect app s task ≡ false
unfolding Quiet turn_of
quiet_rests app s task quiet = by (slice_get s.tasks (task - 1)) refl quiet
  where
    rests : (t : Turned) → turn_of app s task ≡ t → t.moved ≡ false → wait_in s task ≡ wait_in t.after task → has_effect app s task ≡ false
    rests t e still same = no_effect app s task (ap (λ (u : Turned). u.moved) e ∙ still) (same ∙ ap (λ (u : Turned). wait_in u.after task) (sym e))

    waited : (id : ServiceId) → slice_get s.tasks (task - 1) ≡ Some (Some id) → (o : Option Area) → Awaits s id o → wait_in s task ≡ wait_in (waiting_for s id o) task
    waited id at None awaits = refl
    waited id at (Some area) awaits =
        let here : wait_in s task ≡ Some (area, awaits.0) = ap (wait_by s) at ∙ awaits.1 in
        let when : since (locks_of s) id area s.tables.clock ≡ awaits.0 = ap (since_by area s.tables.clock) awaits.1 ∙ ap (λ b. if b then awaits.0 else s.tables.clock) (area_eq_itself area) in
        here
        ∙ (λ i. Some (area, sym when i))
        ∙ sym (found_put id (area, since (locks_of s) id area s.tables.clock) s.waits)
        ∙ sym (ap (wait_by (waiting s id area)) at)

    open_by : (id : ServiceId) → slice_get s.tasks (task - 1) ≡ Some (Some id) → (o : Option OpenTransaction) → turn_of app s task ≡ served app s task id o → QuietFor app s id o → has_effect app s task ≡ false
    open_by id at None e q = rests (served app s task id None) e refl refl
    open_by id at (Some x) e q =
        let is : served app s task id (Some x) ≡ happens app s task id x (statement_now app s id x).0 Waited = ap (happens app s task id x (statement_now app s id x).0) q.0 in
        rests _ (e ∙ is ∙ happens_waits app s task id x (statement_now app s id x).0) refl (waited id at (area_of app x) q.1)

    by : (o : Option (Option ServiceId)) → slice_get s.tasks (task - 1) ≡ o → QuietBy app s task o → has_effect app s task ≡ false
    by None at q = rests _ (ap (turn_by app s task) at) refl refl
    by (Some None) at q =
        let e : turn_of app s task ≡ took app s task (pick app s) = ap (turn_by app s task) at in
        rests _ e q (ap (λ (u : State). wait_in u task) (sym (took_still app s task (pick app s) q)))
    by (Some (Some id)) at q = open_by id at (find id_cmp id s.active) (ap (turn_by app s task) at) q

-- ---- one turn that moves nothing

-- the statement of a service, as another service has begun to wait
module _ (app : Application) (s : State) (id : ServiceId) (x : OpenTransaction) (opened : find id_cmp id s.active ≡ Some x) (area : Area) (asks : area_of app x ≡ Some area) (waits : (statement_now app s id x).1 ≡ Waited) where
  abbrev reswait : ℕ
  reswait = app.generation.limits.reswait

  told : IsToldToWait (locks_of s) reswait s.tables.clock id area
  unfolding told_now
  told = told_from (locks_of s) reswait s.tables.clock id area
      (subst (λ (o : Option Area). (told_now (locks_of s) reswait s.tables id o).answer ≡ Wait) asks (statement_told (told_here app s id x) app (is_asynchronous id) x waits))

  -- the same answer, the same statement
  same_statement : (j : ServiceId) (y : OpenTransaction) (place : Area) → area_of app y ≡ Some place → (statement_now app s j y).1 ≡ Waited
      → IsToldToWait (later (locks_of s) reswait s.tables.clock id area told) reswait s.tables.clock j place → (statement_now app (waiting s id area) j y).1 ≡ Waited
  unfolding told_now with_wait
  same_statement j y place asks_y waited then_told = ap (λ (v : Told). (statement app v (is_asynchronous j) y).1) told_same ∙ waited
    where
      before : answer_of (locks_of s) reswait s.tables.clock j place ≡ Wait
      before = subst (λ (o : Option Area). (told_now (locks_of s) reswait s.tables j o).answer ≡ Wait) asks_y (statement_told (told_here app s j y) app (is_asynchronous j) y waited)

      after : answer_of (locks_of (waiting s id area)) reswait s.tables.clock j place ≡ Wait
      after = told_to _ reswait s.tables.clock j place then_told

      told_same : told_here app (waiting s id area) j y ≡ told_here app s j y
      told_same =
          ap (told_now (locks_of (waiting s id area)) reswait s.tables j) asks_y
          ∙ (λ i. record { answer = (after ∙ sym before) i; content = content_of s.tables place })
          ∙ sym (ap (told_now (locks_of s) reswait s.tables j) asks_y)

  -- it waits on
  own_quiet : QuietFor app (waiting s id area) id (Some x)
  own_quiet = (
    same_statement id x area asks waits (own_told (locks_of s) reswait s.tables.clock id area told),
    subst (Awaits (waiting s id area) id) (sym asks) (since (locks_of s) id area s.tables.clock, found_put id (area, since (locks_of s) id area s.tables.clock) s.waits),
  )

  -- so does another
  other_quiet : (j : ServiceId) (y : OpenTransaction) → id_eq j id ≡ false → QuietFor app s j (Some y) → QuietFor app (waiting s id area) j (Some y)
  unfolding told_now with_wait
  other_quiet j y apart quiet = by (area_of app y) refl quiet.1
    where
      found : find id_cmp j (waiting s id area).waits ≡ find id_cmp j s.waits
      found = found_wait (locks_of s) id j area (since (locks_of s) id area s.tables.clock) ∙ ap (λ b. cond b (Some (area, since (locks_of s) id area s.tables.clock)) (find id_cmp j s.waits)) apart

      by : (o : Option Area) → area_of app y ≡ o → Awaits s j o → QuietFor app (waiting s id area) j (Some y)
      by None e awaits = (
        ap (λ (v : Told). (statement app v (is_asynchronous j) y).1) (ap (told_now (locks_of (waiting s id area)) reswait s.tables j) e ∙ sym (ap (told_now (locks_of s) reswait s.tables j) e)) ∙ quiet.0,
        subst (Awaits (waiting s id area) j) (sym e) tt,
      )
      by (Some place) e awaits =
          let told_j = told_from (locks_of s) reswait s.tables.clock j place (subst (λ (o : Option Area). (told_now (locks_of s) reswait s.tables j o).answer ≡ Wait) e (statement_told (told_here app s j y) app (is_asynchronous j) y quiet.0)) in (
            same_statement j y place e quiet.0 (other_told (locks_of s) reswait s.tables.clock id area told j place awaits.0 apart awaits.1 told_j),
            subst (Awaits (waiting s id area) j) (sym e) (awaits.0, found ∙ awaits.1),
          )

  -- whoever it is
  pub each_quiet : (j : ServiceId) (o : Option OpenTransaction) → find id_cmp j s.active ≡ o → QuietFor app s j o → QuietFor app (waiting s id area) j o
  each_quiet j None at quiet = tt
  each_quiet j (Some y) at quiet = by (id_eq j id) refl
    where
      transaction_or : OpenTransaction → Option OpenTransaction → OpenTransaction
      transaction_or d None = d
      transaction_or d (Some z) = z

      by : (b : Bool) → id_eq j id ≡ b → QuietFor app (waiting s id area) j (Some y)
      by true e =
          let same : j ≡ id = id_eq_same j id e in
          let same_open : x ≡ y = ap (transaction_or x) (sym opened ∙ ap (λ (i : ServiceId). find id_cmp i s.active) (sym same) ∙ at) in
          subst (λ (p : ServiceId × OpenTransaction). QuietFor app (waiting s id area) p.0 (Some p.1)) (λ i. (sym same i, same_open i)) own_quiet
      by false e = other_quiet j y e quiet

-- what a turn that moves nothing keeps and makes
record IsCalm (app : Application) (s : State) (task : ℕ) (t : Turned) : Type 0 where
  own : Quiet app t.after task
  others : (u : ℕ) → Quiet app s u → Quiet app t.after u

calm_same : (app : Application) (s : State) (task : ℕ) (t : Turned) → t.after ≡ s → Quiet app s task → IsCalm app s task t
calm_same app s task t same quiet = record { own = subst (λ (w : State). Quiet app w task) (sym same) quiet; others = λ u q. subst (λ (w : State). Quiet app w u) (sym same) q }

calm_wait : (app : Application) (s : State) (task : ℕ) (id : ServiceId) → slice_get s.tasks (task - 1) ≡ Some (Some id) → (x : OpenTransaction) → find id_cmp id s.active ≡ Some x → (statement_now app s id x).1 ≡ Waited → (o : Option Area) → area_of app x ≡ o
    → (t : Turned) → t.after ≡ waiting_for s id o → IsCalm app s task t
unfolding Quiet pick
calm_wait app s task id at x opened waits None asks t after =
    calm_same app s task t after (subst (QuietBy app s task) (sym at) (subst (QuietFor app s id) (sym opened) (waits, subst (Awaits s id) (sym asks) tt)))
calm_wait app s task id at x opened waits (Some area) asks t after = record {
  own = subst (λ (w : State). Quiet app w task) (sym after) (subst (QuietBy app (waiting s id area) task) (sym at) (subst (QuietFor app (waiting s id area) id) (sym opened) (own_quiet app s id x opened area asks waits)));
  others = λ u q. subst (λ (w : State). Quiet app w u) (sym after) (by u (slice_get s.tasks (u - 1)) q);
}
  where
    by : (u : ℕ) (o : Option (Option ServiceId)) → QuietBy app s u o → QuietBy app (waiting s id area) u o
    by u None q = tt
    by u (Some None) q = free (pick app s) q
      where
        free : (w : Option Work) → (took app s u w).moved ≡ false → (took app (waiting s id area) u w).moved ≡ false
        free w q = same_moved w ∙ q
          where
            same_moved : (w : Option Work) → (took app (waiting s id area) u w).moved ≡ (took app s u w).moved
            same_moved None = refl
            same_moved (Some (work.Service i)) = refl
            same_moved (Some (work.Job number)) = jobs (job_of s.tables number)
              where
                for : (job : JobValue) (to : Target) → (took_job_for app (waiting s id area) u number job to).moved ≡ (took_job_for app s u number job to).moved
                for job (Tac tac) = refl
                for job (Lterm lterm) = refl

                jobs : (o : Option JobValue) → (took_job app (waiting s id area) u number o).moved ≡ (took_job app s u number o).moved
                jobs None = refl
                jobs (Some job) = for job job.to
    by u (Some (Some j)) q = each_quiet app s id x opened area asks waits j (find id_cmp j s.active) refl q

-- the turn of a task that moves nothing
calm : (app : Application) (s : State) (task : ℕ) → (turn_of app s task).moved ≡ false → IsCalm app s task (turn_of app s task)
unfolding turn_of Quiet
calm app s task e = by (slice_get s.tasks (task - 1)) refl e
  where
    stated_by : (id : ServiceId) → slice_get s.tasks (task - 1) ≡ Some (Some id) → (x : OpenTransaction) → find id_cmp id s.active ≡ Some x → (h : Happened) → (statement_now app s id x).1 ≡ h
        → (happens app s task id x (statement_now app s id x).0 h).moved ≡ false → IsCalm app s task (happens app s task id x (statement_now app s id x).0 h)
    stated_by id at x opened h is m =
        let waited : h ≡ Waited = happens_only app s task id x (statement_now app s id x).0 h m in
        calm_wait app s task id at x opened (is ∙ waited) (area_of app x) refl _
        (ap (λ (g : Happened). (happens app s task id x (statement_now app s id x).0 g).after) waited ∙ ap (λ (t : Turned). t.after) (happens_waits app s task id x (statement_now app s id x).0))

    open_by : (id : ServiceId) → slice_get s.tasks (task - 1) ≡ Some (Some id) → (o : Option OpenTransaction) → find id_cmp id s.active ≡ o → (served app s task id o).moved ≡ false → IsCalm app s task (served app s task id o)
    open_by id at None opened m = calm_same app s task (served app s task id None) refl (subst (QuietBy app s task) (sym at) (subst (QuietFor app s id) (sym opened) tt))
    open_by id at (Some x) opened m = stated_by id at x opened (statement_now app s id x).1 refl m

    by : (o : Option (Option ServiceId)) → slice_get s.tasks (task - 1) ≡ o → (turn_by app s task o).moved ≡ false → IsCalm app s task (turn_by app s task o)
    by None at m = calm_same app s task (turn_by app s task None) refl (subst (QuietBy app s task) (sym at) tt)
    by (Some None) at m = calm_same app s task (turn_by app s task (Some None)) (took_still app s task (pick app s) m) (subst (QuietBy app s task) (sym at) m)
    by (Some (Some id)) at m = open_by id at (find id_cmp id s.active) refl m

-- ---- the tasks in rotation

below : (a b : ℕ) → a ≤ b → (a ≡ b → ⊥) → a + 1 ≤ b
below a b le other = by (a == b) refl
  where
    by : (c : Bool) → (a == b) ≡ c → a + 1 ≤ b
    by true e = absurd (other (eqb-true a b e))
    by false e = grind (arith, le, e)

-- the task had one of so many turns before that of this one
Near : (tasks task row u : ℕ) → Type 0
Near tasks task row u = (1 ≤ u) × (u ≤ tasks) × (((u + 1 ≤ task) × (task ≤ u + row)) ⊎ ((task ≤ u) × (task + tasks ≤ u + row)))

near_none : (tasks task u : ℕ) → 1 ≤ task → Near tasks task 0 u → ⊥
unfolding Near
near_none tasks task u low (least, most, inl both) = omega (arith, both.0, both.1)
near_none tasks task u low (least, most, inr both) = omega (arith, low, most, both.1)

near_all : (tasks task row u : ℕ) → tasks ≤ row → 1 ≤ u → u ≤ tasks → task ≤ tasks → Near tasks task row u
unfolding Near
near_all tasks task row u all least most high = by (nat_le task u) refl
  where
    by : (b : Bool) → nat_le task u ≡ b → Near tasks task row u
    by true e = let le : task ≤ u = leb-true task u e in (least, most, inr (le, omega (arith, all, le)))
    by false e = let gt : u + 1 ≤ task = grind (arith, e) in (least, most, inl (gt, omega (arith, all, high)))

near_self : (tasks task row : ℕ) → Near tasks task row task → tasks ≤ row
unfolding Near
near_self tasks task row (least, most, inl both) = absurd (omega (arith, both.0))
near_self tasks task row (least, most, inr both) = omega (arith, both.1)

near_next : (tasks task row u : ℕ) → 1 ≤ task → task ≤ tasks → Near tasks (if task == tasks then 1 else task + 1) (row + 1) u → (u ≡ task) ⊎ Near tasks task row u
unfolding Near
near_next tasks task row u low high near = at_end (task == tasks) refl near
  where
    alone : (b : Bool) → (u == task) ≡ b → ((u ≡ task → ⊥) → Near tasks task row u) → (u ≡ task) ⊎ Near tasks task row u
    alone true e other = inl (eqb-true u task e)
    alone false e other = inr (other (λ same. true≢false (sym (eq-eqb u task same) ∙ e)))

    at_end : (b : Bool) → (task == tasks) ≡ b → Near tasks (if b then 1 else task + 1) (row + 1) u → (u ≡ task) ⊎ Near tasks task row u
    at_end true e (least, most, inl both) = absurd (omega (arith, both.0, least))
    at_end true e (least, most, inr both) =
        let last : task ≡ tasks = eqb-true task tasks e in
        alone (u == task) refl (λ other. let less : u + 1 ≤ task = below u task (omega (arith, most, last)) other in (least, most, inl (less, omega (arith, both.1, last))))
    at_end false e (least, most, inl both) = alone (u == task) refl (λ other. let less : u + 1 ≤ task = below u task (omega (arith, both.0)) other in (least, most, inl (less, omega (arith, both.1))))
    at_end false e (least, most, inr both) = inr (least, most, inr (omega (arith, both.0), omega (arith, both.1)))

near_own : (tasks task row : ℕ) → 1 ≤ task → task ≤ tasks → Near tasks (if task == tasks then 1 else task + 1) (row + 1) task
unfolding Near
near_own tasks task row low high = by (task == tasks) refl
  where
    by : (b : Bool) → (task == tasks) ≡ b → Near tasks (if b then 1 else task + 1) (row + 1) task
    by true e = let last : task ≡ tasks = eqb-true task tasks e in (low, high, inr (low, omega (arith, last)))
    by false e = (low, high, inl (omega arith, omega arith))

near_later : (tasks task row u : ℕ) → 1 ≤ task → task ≤ tasks → row + 1 ≤ tasks → Near tasks task row u → Near tasks (if task == tasks then 1 else task + 1) (row + 1) u
unfolding Near
near_later tasks task row u low high few near = by (task == tasks) refl near
  where
    by : (b : Bool) → (task == tasks) ≡ b → Near tasks task row u → Near tasks (if b then 1 else task + 1) (row + 1) u
    by true e (least, most, inl both) = let last : task ≡ tasks = eqb-true task tasks e in (least, most, inr (least, omega (arith, last, both.1)))
    by true e (least, most, inr both) = let last : task ≡ tasks = eqb-true task tasks e in absurd (omega (arith, last, most, both.1, few))
    by false e (least, most, inl both) = (least, most, inl (omega (arith, both.0), omega (arith, both.1)))
    by false e (least, most, inr both) = let past : task + 1 ≤ u = omega (arith, both.1, few) in (least, most, inr (past, omega (arith, both.1)))

next_within : (tasks task : ℕ) → 1 ≤ task → task ≤ tasks → IsWithin 1 tasks (if task == tasks then 1 else task + 1)
next_within tasks task low high = by (task == tasks) refl
  where
    by : (b : Bool) → (task == tasks) ≡ b → IsWithin 1 tasks (if b then 1 else task + 1)
    by true e = (omega arith, omega (arith, low, high))
    by false e = (omega arith, below task tasks high (λ same. true≢false (sym (eq-eqb task tasks same) ∙ e)))

-- ---- commands

plain_history : (app : Application) (c : Command) (cs : List Command) (s : State) → IsNoRun c → history app s (c ∷ cs) ≡ command_of app s c ∷ history app (command_of app s c).after cs
unfolding history steps_of state_after
plain_history app (Run turns) cs s plain = absurd plain
plain_history app (Input pterm text) cs s plain = refl
plain_history app (Tick ticks) cs s plain = refl
plain_history app (Turn task) cs s plain = refl
plain_history app (Drop pterm) cs s plain = refl
plain_history app (Print pterm) cs s plain = refl
plain_history app (PrintLast pterm) cs s plain = refl
plain_history app Restart cs s plain = refl

run_history : (app : Application) (n : ℕ) (cs : List Command) (s : State) → history app s (Run n ∷ cs) ≡ rotated app n false s 1 0 ++ history app (state_after s (rotated app n false s 1 0)) cs
unfolding history steps_of
run_history app n cs s = refl

-- ---- RUNs

module _ (keep : Leads HasFacts HasFacts) (app : Application) (is : IsApplication app) where
  abbrev tasks : ℕ
  tasks = app.generation.limits.tasks

  -- an order with the steps of the commands
  record Follows (cs : List Command) (s : State) : Type 0 where
    order : List ℕ
    is_order : IsOrder app cs s order
    steps : order_steps app cs s order ≡ history app s cs

  module _ (cs : List Command) (behind : (s : State) → HasFacts app s → Follows cs s) where
    -- an order with these steps, and then those of what follows
    record Goes (n : ℕ) (idle : List ℕ) (s : State) (steps : List ScriptStep) : Type 0 where
      order : List ℕ
      runs : RunsSo app n idle (IsOrder app cs) s order
      same : history app s (turned_run n (turned_script cs) order) ≡ steps ++ history app (state_after s steps) cs

    goes_over : (idle : List ℕ) (s : State) → HasFacts app s → Goes 0 idle s []
    unfolding RunsSo
    goes_over idle s facts = let next = behind s facts in record {
      order = next.order;
      runs = next.is_order;
      same = over_steps app s (turned_script cs) next.order ∙ next.steps ∙ ap (λ (u : State). history app u cs) (sym (no_acts_after s));
    }

    -- all tasks rest
    goes_rest : (n : ℕ) (idle : List ℕ) (s : State) → HasFacts app s → IsAtRest app s → Goes n idle s []
    unfolding RunsSo
    goes_rest zero idle s facts rest = goes_over idle s facts
    goes_rest (suc n) idle s facts rest = let next = behind s facts in record {
      order = 0 ∷ next.order;
      runs = (rest, next.is_order);
      same = rest_steps app s n (turned_script cs) next.order ∙ next.steps ∙ ap (λ (u : State). history app u cs) (sym (no_acts_after s));
    }

    -- a turn, and those behind it
    goes_turn : (n t : ℕ) (idle : List ℕ) (s : State) (steps : List ScriptStep) → (others : List ℕ) (o : List ℕ)
        → RunsSo app (suc n) idle (IsOrder app cs) s (suc t ∷ o)
        → history app (turn_of app s (suc t)).after (turned_run n (turned_script cs) o) ≡ steps ++ history app (state_after (turn_of app s (suc t)).after steps) cs
        → Goes (suc n) idle s (turned_step (turn_of app s (suc t)) ∷ steps)
    goes_turn n t idle s steps others o runs same = record {
      order = suc t ∷ o;
      runs = runs;
      same =
          turn_steps app s n (turned_script cs) t o
          ∙ ap (λ (l : List ScriptStep). turned_step (turn_of app s (suc t)) ∷ l) same
          ∙ ap (λ (u : State). turned_step (turn_of app s (suc t)) ∷ (steps ++ history app u cs)) (sym (after_one s (turned_step (turn_of app s (suc t))) steps));
    }

    -- with an effect, or without
    goes_effect : (n t : ℕ) (idle : List ℕ) (s : State) (steps : List ScriptStep) → IsNext app idle (suc t) → has_effect app s (suc t) ≡ true → Goes n [] (turn_of app s (suc t)).after steps → Goes (suc n) idle s (turned_step (turn_of app s (suc t)) ∷ steps)
    unfolding RunsSo
    goes_effect n t idle s steps next e g =
        goes_turn n t idle s steps [] g.order (next, subst (λ b. by_effect b (RunsSo app n [] (IsOrder app cs) (turn_of app s (suc t)).after g.order) (RunsSo app n (suc t ∷ idle) (IsOrder app cs) s g.order)) (sym e) g.runs) g.same

    goes_idle : (n t : ℕ) (idle : List ℕ) (s : State) (steps : List ScriptStep) → HasFacts app s → IsNext app idle (suc t) → has_effect app s (suc t) ≡ false → Goes n (suc t ∷ idle) (turn_of app s (suc t)).after steps → Goes (suc n) idle s (turned_step (turn_of app s (suc t)) ∷ steps)
    unfolding RunsSo
    goes_idle n t idle s steps facts next e g =
        let stays : (turn_of app s (suc t)).after ≡ s = no_effect_no_change app s (suc t) facts.0.waits e in
        goes_turn n t idle s steps [] g.order (next, subst (λ b. by_effect b (RunsSo app n [] (IsOrder app cs) (turn_of app s (suc t)).after g.order) (RunsSo app n (suc t ∷ idle) (IsOrder app cs) s g.order)) (sym e) (subst (λ (u : State). RunsSo app n (suc t ∷ idle) (IsOrder app cs) u g.order) stays g.runs)) g.same

    -- the tasks that had the last turns are quiet, and the idle ones are among them
    abbrev Row : State → (task row : ℕ) → List ℕ → Type 0
    Row s task row idle = ((u : ℕ) → Near tasks task row u → Quiet app s u) × ((u : ℕ) → is_in u idle ≡ true → Near tasks task row u)

    -- one turn, and then those behind it
    goes_step : (n : ℕ) → ((s : State) (task row : ℕ) (idle : List ℕ) → HasFacts app s → 1 ≤ task → task ≤ tasks → row + 1 ≤ tasks → Row s task row idle → Goes n idle s (rotated app n false s task row))
        → (s : State) (t row : ℕ) (idle : List ℕ) → HasFacts app s → 1 ≤ suc t → suc t ≤ tasks → row + 1 ≤ tasks → Row s (suc t) row idle → Goes (suc n) idle s (rotated app (suc n) false s (suc t) row)
    unfolding rotated
    goes_step n again s t row idle facts low high few rests = by (turn_of app s (suc t)).moved refl
      where
        later_state : State
        later_state = (turn_of app s (suc t)).after

        later_facts : HasFacts app later_state
        later_facts = keep.turns app s (suc t) is (low, high) facts

        other : is_in (suc t) idle ≡ false
        other = here (is_in (suc t) idle) refl
          where
            here : (b : Bool) → is_in (suc t) idle ≡ b → b ≡ false
            here false e = refl
            here true e = let all : tasks ≤ row = near_self tasks (suc t) row (rests.1 (suc t) e) in absurd (omega (arith, all, few))

        next : IsNext app idle (suc t)
        next = record { within = (low, high); other = other }

        within_next : IsWithin 1 tasks (next_task app (suc t))
        within_next = next_within tasks (suc t) low high

        Rest_of : Bool → Type 0
        Rest_of b = Goes (suc n) idle s (turned_step (turn_of app s (suc t)) ∷ rotated app n (in_a_row b row == tasks) later_state (next_task app (suc t)) (in_a_row b row))

        none_over : (0 == tasks) ≡ false
        none_over = here (0 == tasks) refl
          where
            here : (b : Bool) → (0 == tasks) ≡ b → b ≡ false
            here false e = refl
            here true e = let z : 0 ≡ tasks = eqb-true 0 tasks e in absurd (omega (arith, z, low, high))

        moves : (turn_of app s (suc t)).moved ≡ true → Rest_of true
        moves m =
            goes_effect n t idle s _ next (moves_effect app s (suc t) m)
            (subst (λ b. Goes n [] later_state (rotated app n b later_state (next_task app (suc t)) 0)) (sym none_over)
            (again later_state (next_task app (suc t)) 0 [] later_facts within_next.0 within_next.1 (omega (arith, low, high)) ((λ u near. absurd (near_none tasks (next_task app (suc t)) u within_next.0 near)), (λ u e. absurd (true≢false (sym e))))))

        quiet_then : (turn_of app s (suc t)).moved ≡ false → (u : ℕ) → Near tasks (next_task app (suc t)) (row + 1) u → Quiet app later_state u
        quiet_then m u near = elim (near_next tasks (suc t) row u low high near) [
          | inl same ↦ subst (Quiet app later_state) (sym same) (calm app s (suc t) m).own
          | inr before ↦ (calm app s (suc t) m).others u (rests.0 u before)
        ]

        -- the RUN is over, as all tasks rest
        over : (turn_of app s (suc t)).moved ≡ false → tasks ≤ row + 1 → IsAtRest app later_state
        over m all task turn = true≢false (sym turn.effect ∙ quiet_rests app later_state task (quiet_then m task (near_all tasks (next_task app (suc t)) (row + 1) task all turn.within.0 turn.within.1 within_next.1)))

        goes_then : (turn_of app s (suc t)).moved ≡ false → (others : List ℕ) → ((u : ℕ) → is_in u others ≡ true → Near tasks (next_task app (suc t)) (row + 1) u) → (b : Bool) → (row + 1 == tasks) ≡ b → Goes n others later_state (rotated app n b later_state (next_task app (suc t)) (row + 1))
        goes_then m others near true e =
            let all : row + 1 ≡ tasks = eqb-true (row + 1) tasks e in
            subst (Goes n others later_state) (sym (rotated_ended app n later_state (next_task app (suc t)) (row + 1))) (goes_rest n others later_state later_facts (over m (omega (arith, all))))
        goes_then m others near false e =
            again later_state (next_task app (suc t)) (row + 1) others later_facts within_next.0 within_next.1
            (below (row + 1) tasks few (λ same. true≢false (sym (eq-eqb (row + 1) tasks same) ∙ e)))
            (quiet_then m, near)

        near_idle : (u : ℕ) → is_in u (suc t ∷ idle) ≡ true → Near tasks (next_task app (suc t)) (row + 1) u
        near_idle u e = here (suc t == u) refl e
          where
            here : (b : Bool) → (suc t == u) ≡ b → (b || is_in u idle) ≡ true → Near tasks (next_task app (suc t)) (row + 1) u
            here true same h = subst (Near tasks (next_task app (suc t)) (row + 1)) (eqb-true (suc t) u same) (near_own tasks (suc t) row low high)
            here false differs h = near_later tasks (suc t) row u low high few (rests.1 u h)

        stays : (turn_of app s (suc t)).moved ≡ false → (b : Bool) → has_effect app s (suc t) ≡ b → Rest_of false
        stays m true e = goes_effect n t idle s _ next e (goes_then m [] (λ u h. absurd (true≢false (sym h))) (row + 1 == tasks) refl)
        stays m false e = goes_idle n t idle s _ facts next e (goes_then m (suc t ∷ idle) near_idle (row + 1 == tasks) refl)

        by : (b : Bool) → (turn_of app s (suc t)).moved ≡ b → Goes (suc n) idle s (rotated app (suc n) false s (suc t) row)
        by true m = subst Rest_of (sym m) (moves m)
        by false m = subst Rest_of (sym m) (stays m (has_effect app s (suc t)) refl)

    goes_round : (n : ℕ) (s : State) (task row : ℕ) (idle : List ℕ) → HasFacts app s → 1 ≤ task → task ≤ tasks → row + 1 ≤ tasks → Row s task row idle → Goes n idle s (rotated app n false s task row)
    unfolding rotated
    goes_round zero s task row idle facts low high few rests = goes_over idle s facts
    goes_round (suc n) s zero row idle facts low high few rests = absurd (omega (arith, low))
    goes_round (suc n) s (suc t) row idle facts low high few rests = goes_step n (goes_round n) s t row idle facts low high few rests

    -- a RUN from its begin
    goes_run : (n : ℕ) (s : State) → HasFacts app s → Follows (Run n ∷ cs) s
    goes_run n s facts =
        let some : 1 ≤ tasks = is.tasks in
        let g = goes_round n s 1 0 [] facts (omega arith) some (omega (arith, some)) ((λ u near. absurd (near_none tasks 1 u (omega arith) near)), (λ u e. absurd (true≢false (sym e)))) in
        record { order = g.order; is_order = order_begins app n cs s g.order g.runs; steps = run_steps app n cs s g.order ∙ g.same ∙ sym (run_history app n cs s) }

    goes_command : (c : Command) → IsNoRun c → ((s : State) → HasFacts app s → HasFacts app (command_of app s c).after) → (s : State) → HasFacts app s → Follows (c ∷ cs) s
    goes_command c plain later s facts =
        let next = behind (command_of app s c).after (later s facts) in
        record {
          order = next.order;
          is_order = order_behind app c cs s plain next.order next.is_order;
          steps = command_steps app c cs s plain next.order ∙ ap (λ (l : List ScriptStep). command_of app s c ∷ l) next.steps ∙ sym (plain_history app c cs s plain);
        }

  plain_follows : (c : Command) (cs : List Command) → IsNoRun c → IsScriptOf app (c ∷ cs) → ((s : State) → HasFacts app s → Follows cs s) → (s : State) → HasFacts app s → Follows (c ∷ cs) s
  plain_follows c cs plain names behind s facts = goes_command cs behind c plain (λ u h. keep.commands app u c is (names 0 c (omega arith)) h) s facts

  none_follows : (s : State) → Follows [] s
  unfolding IsOrder history
  none_follows s = record { order = []; is_order = refl; steps = no_steps app s [] }

  follows_of : (cs : List Command) → IsScriptOf app cs → (s : State) → HasFacts app s → Follows cs s
  follows_of [] names s facts = none_follows s
  follows_of (Run n ∷ cs) names s facts = goes_run cs (follows_of cs (λ k d less. names (suc k) d (omega (arith, less)))) n s facts
  follows_of (Input pterm text ∷ cs) names s facts = plain_follows (Input pterm text) cs tt names (follows_of cs (λ k d less. names (suc k) d (omega (arith, less)))) s facts
  follows_of (Tick ticks ∷ cs) names s facts = plain_follows (Tick ticks) cs tt names (follows_of cs (λ k d less. names (suc k) d (omega (arith, less)))) s facts
  follows_of (Turn task ∷ cs) names s facts = plain_follows (Turn task) cs tt names (follows_of cs (λ k d less. names (suc k) d (omega (arith, less)))) s facts
  follows_of (Drop pterm ∷ cs) names s facts = plain_follows (Drop pterm) cs tt names (follows_of cs (λ k d less. names (suc k) d (omega (arith, less)))) s facts
  follows_of (Print pterm ∷ cs) names s facts = plain_follows (Print pterm) cs tt names (follows_of cs (λ k d less. names (suc k) d (omega (arith, less)))) s facts
  follows_of (PrintLast pterm ∷ cs) names s facts = plain_follows (PrintLast pterm) cs tt names (follows_of cs (λ k d less. names (suc k) d (omega (arith, less)))) s facts
  follows_of (Restart ∷ cs) names s facts = plain_follows Restart cs tt names (follows_of cs (λ k d less. names (suc k) d (omega (arith, less)))) s facts

pub rotations_are_orders : Leads HasFacts HasFacts → RotationsAreOrders
rotations_are_orders keep app t cs starts =
    let facts = keep.starts app t starts.application starts.order starts.suits in
    let follows = follows_of keep app starts.application cs starts.names (started app t) facts in
    (follows.order, record { is_order = follows.is_order; steps = follows.steps })
