-- After each turn the open transactions are as their records are to be.
use Rattle.std.specs.Prelude.{◌≡◌, refl, ℕ, ◌-◌, ◌≤◌, Bool, true, false, IsTrue, List, is_some, slice_get, IfSome, Option, Some, None}
use Rattle.std.proofs.Common.{sym, ap, ◌∙◌, subst, arith, true≢false}
use Rattle.std.specs.List.{list_all}
use Rattle.std.specs.FinMap.{find}
use Rattle.kd_base.specs.ToolsLaws.{some_is}
use Rattle.kdcs_types.specs.declared.act.Act.{Act}
use Rattle.kdcs_types.specs.declared.key.Area.{Area}
use Rattle.kdcs_types.specs.declared.key.ServiceId.{ServiceId}
use Rattle.kdcs_types.specs.declared.key.ServiceId.TheVariants.{Dialogue, Asynchronous}
use Rattle.kdcs_types.specs.declared.key.Target.{Target}
use Rattle.kdcs_types.specs.declared.key.Target.TheVariants.{Tac, Lterm}
use Rattle.kdcs_types.specs.declared.service.Ending.{Ending}
use Rattle.kdcs_types.specs.declared.service.Ending.TheVariants.{Broken}
use Rattle.kdcs_types.specs.declared.service.JobValue.{JobValue}
use Rattle.kdcs_types.specs.declared.service.Service.{Service}
use Rattle.kdcs_types.specs.declared.service.Settled.{Settled}
use Rattle.kdcs_types.specs.KeyLaws.{id_eq_same}
use Rattle.kdcs_types.specs.Keys.{id_cmp, id_eq}
use Rattle.kdcs_types.specs.Tables.{TableRows, job_of}
use Rattle.application_types.specs.Generation.{Generated}
use Rattle.abstract_monitor.specs.declared.answer.Happened.{Happened}
use Rattle.abstract_monitor.specs.declared.answer.Happened.TheVariants.{Went, Queued, Waited, Held, Settles, Breaks, Returns}
use Rattle.abstract_monitor.specs.declared.outcome.Outcome.{Outcome}
use Rattle.abstract_monitor.specs.declared.outcome.Outcome.TheVariants.{Stay, Queue, Hold, Wait, Point, Follow, Finish, Break, Back}
use Rattle.abstract_monitor.specs.declared.work.Work.{Work}
use Rattle.abstract_monitor.specs.declared.work.Work.TheVariants as work
use Rattle.abstract_monitor.specs.Bytes.{Bytes, bytes_cmp}
use Rattle.abstract_monitor.specs.Calls.{Told}
use Rattle.abstract_monitor.specs.Endings.{is_asynchronous, opened, opened_by_row, opened_by_job, row_after, synchronised, broken}
use Rattle.abstract_monitor.specs.Locks.{locks_of}
use Rattle.abstract_monitor.specs.Picks.{pick}
use Rattle.abstract_monitor.specs.State.{Application, OpenTransaction, Session, State}
use Rattle.abstract_monitor.specs.Statements.{area_of}
use Rattle.abstract_monitor.specs.Turns.{pterm_of_user, noted_last, last_told, message_sent, with_open, without_wait, with_task, queued, without_transaction, abnormal, after_point, settled, back_by}
use Rattle.abstract_monitor.specs.Turns.{back, waiting_for, happens, told_here, statement_now, served, took_job_for, took_job, took, turn_by, turn_of}
use Rattle.laws_of_states.specs.EachTurnLaws.{of_point}
use Rattle.laws_of_states.specs.JobLaws.{points_number, ends_draw_none}
use Rattle.laws_of_states.specs.Keeping.{HasFacts}
use Rattle.laws_of_states.specs.Suits.{fits_message}
use Rattle.laws_of_states.specs.TablesStayLaws.{last_again_stays}
use Rattle.laws_of_states.specs.EntriesLaws.{found_put, found_without, other_put, other_without}
use Rattle.laws_of_states.specs.OpenLaws.{ToldFits}
use Rattle.laws_of_states.specs.PointLaws.{AreSound}
use Rattle.laws_of_states.specs.StatesLaws.{told_fits}
use Rattle.serial_audit.specs.Audit.{IsDueFor}
use Rattle.trail_run.specs.HoldsFacts.{HasItsJob, IsRecorded, AllRecorded}
use Rattle.trail_run.proofs.laws_of_trails.HoldsJobs.{KeepsJobs, point_keeps, end_keeps, has_still, picked_due}
use Rattle.trail_run.proofs.laws_of_trails.HoldsStatements.{Stays, statement_stays}

pub sound_tables : (app : Application) (s : State) → HasFacts app s → AreSound app.generation s.tables
sound_tables app s facts = record { order = facts.1.order; suits = facts.1.suits; rows = facts.1.rows }

-- ---- one transaction

-- in other tables, where its job is there still
moved : (g : Generated) (t u : TableRows) (id : ServiceId) (x : OpenTransaction) → HasItsJob u id x.first x.began → IsRecorded g t id x → IsRecorded g u id x
moved g t u id x job h = record { first = h.first; inputs = h.inputs; notes = h.notes; job = job }

-- one that goes on from a row
pub row_recorded : (g : Generated) (t : TableRows) (id : ServiceId) (row : Service) (lterm : Bytes) → IsRecorded g t id (opened_by_row g id row lterm)
unfolding opened
row_recorded g t (Dialogue user) row lterm = record { first = refl; inputs = refl; notes = refl; job = tt }
row_recorded g t (Asynchronous number) row lterm = record { first = refl; inputs = refl; notes = refl; job = tt }

-- one that takes a job that is due
job_recorded : (g : Generated) (t : TableRows) (number : ℕ) (job : JobValue) (tac : Bytes) → job_of t number ≡ Some job → job.due ≤ t.clock → job.to ≡ Tac tac → IsRecorded g t (Asynchronous number) (opened_by_job g job tac)
unfolding opened
job_recorded g t number job tac found due to = record { first = tt; inputs = refl; notes = refl; job = there (job_of t number) found }
  where
    there : (o : Option JobValue) → o ≡ Some job → IsDueFor t.clock tac o
    there o e = let is : IsDueFor t.clock tac (Some job) = (due, to) in subst (IsDueFor t.clock tac) (sym e) is

-- after a statement
stays_recorded : (g : Generated) (t : TableRows) (id : ServiceId) (x y : OpenTransaction) (v : Told) → ToldFits v → Stays v x y → IsRecorded g t id x → IsRecorded g t id y
stays_recorded g t id x y v fits s h = record {
  first = begins x.began y.began s.began x.first y.first s.first h.first;
  inputs = subst (λ (l : List Bytes). IsTrue (list_all (fits_message g) l)) (sym s.inputs) h.inputs;
  notes = s.notes fits h.notes;
  job = subst (HasItsJob t id y.first) (sym s.began) (subst (λ (f : Bytes). HasItsJob t id f x.began) (sym s.first) h.job);
}
  where
    begins : (a b : Option Service) → b ≡ a → (f k : Bytes) → k ≡ f → IfSome a (λ (row : Service). row.first ≡ f) → IfSome b (λ (row : Service). row.first ≡ k)
    begins a b e f k same is = subst (λ (o : Option Service). IfSome o (λ (row : Service). row.first ≡ k)) (sym e) (subst (λ (n : Bytes). IfSome a (λ (row : Service). row.first ≡ n)) (sym same) is)

-- ---- a step of one service

module _ (app : Application) (s : State) (all : AllRecorded app s) where
  -- what the step leaves of the jobs of others
  abbrev Leaves : TableRows → ServiceId → Type 0
  Leaves t id = (i : ServiceId) (y : OpenTransaction) → id_eq i id ≡ false → find id_cmp i s.active ≡ Some y → HasItsJob t i y.first y.began

  -- the others are open as they were and have their jobs; what is open of the one is as it is to be
  pub after_step : (u : State) (id : ServiceId)
      → ((i : ServiceId) → id_eq i id ≡ false → find id_cmp i u.active ≡ find id_cmp i s.active)
      → Leaves u.tables id
      → ((y : OpenTransaction) → find id_cmp id u.active ≡ Some y → IsRecorded app.generation u.tables id y)
      → AllRecorded app u
  after_step u id others left own i y is = by (id_eq i id) refl
    where
      by : (b : Bool) → id_eq i id ≡ b → IsRecorded app.generation u.tables i y
      by true e = subst (λ k. IsRecorded app.generation u.tables k y) (sym (id_eq_same i id e)) (own y (ap (λ k. find id_cmp k u.active) (sym (id_eq_same i id e)) ∙ is))
      by false e = let was = sym (others i e) ∙ is in moved app.generation s.tables u.tables i y (left i y e was) (all i y was)

  pub leaves_same : (id : ServiceId) → Leaves s.tables id
  leaves_same id i y e was = (all i y was).job

  -- with this transaction of the one, in the same tables
  pub opened_step : (u : State) (id : ServiceId) (y : OpenTransaction) → u.tables ≡ s.tables → find id_cmp id u.active ≡ Some y
      → ((i : ServiceId) → id_eq i id ≡ false → find id_cmp i u.active ≡ find id_cmp i s.active) → IsRecorded app.generation s.tables id y → AllRecorded app u
  opened_step u id y same here others is_so =
      after_step u id others
      (subst (λ (t : TableRows). Leaves t id) (sym same) (leaves_same id))
      (λ z is. subst (λ (k : OpenTransaction). IsRecorded app.generation u.tables id k) (some_is y z (sym here ∙ is)) (subst (λ (t : TableRows). IsRecorded app.generation t id y) (sym same) is_so))

  -- tables that keep the jobs of others, and whose clock does not go back
  pub leaves : (t : TableRows) (id : ServiceId) → s.tables.clock ≤ t.clock → KeepsJobs s.tables t id → Leaves t id
  leaves t id later keeps i y e was =
      has_still s.tables t later i y.first y.began (λ n is h. keeps n (ap (λ (k : ServiceId). id_eq k id) (sym is) ∙ e) h) (all i y was).job

-- ---- messages

noted_recorded : (app : Application) (u : State) (pterm message : Bytes) (o : Option Session) → AllRecorded app u → AllRecorded app (noted_last u pterm message o)
noted_recorded app u pterm message None h = h
noted_recorded app u pterm message (Some v) h = h

pub told_recorded : (app : Application) (u : State) (o : Option Bytes) (message : Bytes) → AllRecorded app u → AllRecorded app (last_told u o message)
told_recorded app u None message h = h
told_recorded app u (Some pterm) message h = noted_recorded app u pterm message (find bytes_cmp pterm u.signed) h

sent_recorded : (app : Application) (u : State) (id : ServiceId) (x : OpenTransaction) → AllRecorded app u → AllRecorded app (message_sent u id x)
sent_recorded app u (Dialogue user) x h = told_recorded app u (pterm_of_user u.signed user) _ h
sent_recorded app u (Asynchronous number) x h = h

-- ---- a statement

same_clock : (a b : ℕ) → b ≡ a → a ≤ b
same_clock a b e = omega (arith, e)

module _ (app : Application) (s : State) (facts : HasFacts app s) (all : AllRecorded app s) (task : ℕ) (id : ServiceId) (x : OpenTransaction) (is : find id_cmp id s.active ≡ Some x) where
  abbrev left : State
  left = without_transaction s task id

  -- in these tables, with no open transaction
  closed : (t : TableRows) → Leaves app s all t id → AllRecorded app (record left { tables = t })
  closed t others =
      after_step app s all (record left { tables = t }) id (λ i e. other_without i id s.active e) others
      (λ y h. absurd (true≢false (sym (ap is_some (sym (found_without id s.active) ∙ h)))))

  -- in these tables, and ready to go on from its row
  goes : (t : TableRows) (row : Service) → Leaves app s all t id → AllRecorded app (queued (record left { tables = t }) id (opened_by_row app.generation id row x.lterm))
  goes t row others =
      let y = opened_by_row app.generation id row x.lterm in
      after_step app s all (queued (record left { tables = t }) id y) id (λ i e. other_put i id y left.active e ∙ other_without i id s.active e) others
      (λ z h. subst (λ (k : OpenTransaction). IsRecorded app.generation t id k) (some_is y z (sym (found_put id y left.active) ∙ h)) (row_recorded app.generation t id row x.lterm))

  left_broken : Leaves app s all (broken app.generation s.tables id x) id
  left_broken = leaves app s all (broken app.generation s.tables id x) id (same_clock _ _ (ends_draw_none app.generation s.tables id x).clock) (end_keeps app.generation s.tables id x)

  left_point : (o : Outcome) → Leaves app s all (synchronised app.generation s.tables id x o) id
  left_point o = leaves app s all (synchronised app.generation s.tables id x o) id (same_clock _ _ (points_number app.generation s.tables id x o).clock) (point_keeps app.generation s.tables id x o)

  left_same : Leaves app s all s.tables id
  left_same = leaves_same app s all id

  breaks : (ending : Ending) → AllRecorded app (abnormal app s task id x ending).after
  unfolding abnormal
  breaks ending = closed (broken app.generation s.tables id x) left_broken

  points : (o : Outcome) (commit : Act) (kept : Settled)
      → AllRecorded app (after_point app (record left { tables = synchronised app.generation s.tables id x o }) id x o (row_after app.generation id x o) commit kept).after
  unfolding row_after
  points (Wait tac) commit kept = sent_recorded app _ id x (closed (synchronised app.generation s.tables id x (Wait tac)) (left_point (Wait tac)))
  points Finish commit kept = sent_recorded app _ id x (closed (synchronised app.generation s.tables id x Finish) (left_point Finish))
  points (Point tac) commit kept = goes (synchronised app.generation s.tables id x (Point tac)) _ (left_point (Point tac))
  points (Follow tac) commit kept = goes (synchronised app.generation s.tables id x (Follow tac)) _ (left_point (Follow tac))
  points (Hold tac) commit kept = closed (synchronised app.generation s.tables id x (Hold tac)) (left_point (Hold tac))
  points (Stay tac) commit kept = closed (synchronised app.generation s.tables id x (Stay tac)) (left_point (Stay tac))
  points (Queue tac) commit kept = closed (synchronised app.generation s.tables id x (Queue tac)) (left_point (Queue tac))
  points Break commit kept = closed (synchronised app.generation s.tables id x Break) (left_point Break)
  points Back commit kept = closed (synchronised app.generation s.tables id x Back) (left_point Back)

  settles : (o : Outcome) → AllRecorded app (settled app s task id x o).after
  settles o = of_point app s task id x o (λ t. AllRecorded app t.after) (λ cause. breaks (Broken cause)) (points o _ _)

  returns_to : (began : Option Service) → AllRecorded app (back app left id x began).after
  returns_to None = closed s.tables left_same
  returns_to (Some row) = by row.awaits
    where
      by : (b : Bool) → AllRecorded app (back_by app left id x row b).after
      by true =
          let kept = closed s.tables left_same in
          last_again_stays (AllRecorded app) left (λ pterm message. told_recorded app left pterm message kept) kept id row.last
      by false = goes s.tables row left_same

  does : AllRecorded app (happens app s task id x (statement_now app s id x).0 (statement_now app s id x).1).after
  unfolding happens
  does = by (statement_now app s id x).1
    where
      y : OpenTransaction
      y = (statement_now app s id x).0

      after : IsRecorded app.generation s.tables id y
      after =
          let told = told_fits app.generation s.tables (locks_of s) app.generation.limits.reswait id (area_of app x) (sound_tables app s facts) in
          stays_recorded app.generation s.tables id x y (told_here app s id x) told (statement_stays app (is_asynchronous id) x (told_here app s id x)) (all id x is)

      by : (h : Happened) → AllRecorded app (happens app s task id x y h).after
      by Went = opened_step app s all (with_open (without_wait s id) id y) id y refl (found_put id y s.active) (λ i k. other_put i id y s.active k) after
      by Queued = opened_step app s all (queued (with_task (without_wait s id) task None) id y) id y refl (found_put id y s.active) (λ i k. other_put i id y s.active k) after
      by Waited = waits (area_of app x)
        where
          waits : (of : Option Area) → AllRecorded app (waiting_for s id of)
          waits None = all
          waits (Some area) = all
      by (Held tac) = sent_recorded app (with_task (without_wait s id) task None) id x all
      by (Settles o) = settles o
      by (Breaks ending) = breaks ending
      by Returns = returns_to x.began

-- ---- a turn

module _ (app : Application) (s : State) (facts : HasFacts app s) (all : AllRecorded app s) (task : ℕ) where
  job_taken : (number : ℕ) → pick app s ≡ Some (work.Job number) → (o : Option JobValue) → job_of s.tables number ≡ o → AllRecorded app (took_job app s task number o).after
  job_taken number is None e = all
  job_taken number is (Some job) e = for job.to refl
    where
      for : (to : Target) → job.to ≡ to → AllRecorded app (took_job_for app s task number job to).after
      for (Tac tac) goes_to =
          let id = Asynchronous number in
          let y = opened_by_job app.generation job tac in
          opened_step app s all (with_open (with_task s task (Some id)) id y) id y refl (found_put id y s.active) (λ i k. other_put i id y s.active k)
          (job_recorded app.generation s.tables number job tac e (picked_due app s number facts.1.order is job e) goes_to)
      for (Lterm lterm) goes_to = all

  took_recorded : (o : Option Work) → pick app s ≡ o → AllRecorded app (took app s task o).after
  took_recorded None e = all
  took_recorded (Some (work.Service id)) e = all
  took_recorded (Some (work.Job number)) e = job_taken number e (job_of s.tables number) refl

  served_recorded : (id : ServiceId) (o : Option OpenTransaction) → find id_cmp id s.active ≡ o → AllRecorded app (served app s task id o).after
  served_recorded id None e = all
  served_recorded id (Some x) e = does app s facts all task id x e

  pub turns_recorded : AllRecorded app (turn_of app s task).after
  unfolding turn_of
  turns_recorded = by (slice_get s.tasks (task - 1))
    where
      by : (o : Option (Option ServiceId)) → AllRecorded app (turn_by app s task o).after
      by None = all
      by (Some None) = took_recorded (pick app s) refl
      by (Some (Some id)) = served_recorded id (find id_cmp id s.active) refl
