-- Each turn keeps a state consistent.
use Rattle.std.specs.Prelude.{◌≡◌, refl, ℕ, suc, ◌+◌, ◌-◌, ◌≤◌, Bool, true, false, cond, [], slice_get, Option, Some, None, is_some, if◌then◌else◌}
use Rattle.std.proofs.Common.{sym, ap, ◌∙◌, subst, inl, true≢false, arith}
use Rattle.std.specs.FinMap.{find}
use Rattle.kd_base.specs.ToolsLaws.{some_is}
use Rattle.kdcs_types.specs.declared.act.Act.{Act}
use Rattle.kdcs_types.specs.declared.key.Area.{Area}
use Rattle.kdcs_types.specs.declared.key.ServiceId.{ServiceId}
use Rattle.kdcs_types.specs.declared.service.Ending.{Ending}
use Rattle.kdcs_types.specs.declared.service.Ending.TheVariants.{Broken}
use Rattle.kdcs_types.specs.declared.service.Service.{Service}
use Rattle.kdcs_types.specs.declared.service.Settled.{Settled}
use Rattle.kdcs_types.specs.Keys.{area_eq, id_cmp, id_eq}
use Rattle.kdcs_types.specs.KeyLaws.{id_eq_itself}
use Rattle.kdcs_types.specs.Tables.{TableRows, service_of}
use Rattle.abstract_monitor.specs.declared.answer.Happened.{Happened}
use Rattle.abstract_monitor.specs.declared.answer.Happened.TheVariants.{Went, Queued, Waited, Held, Settles, Breaks, Returns}
use Rattle.abstract_monitor.specs.declared.outcome.Outcome.{Outcome}
use Rattle.abstract_monitor.specs.declared.outcome.Outcome.TheVariants.{Hold, Stay, Queue, Wait, Point, Follow, Finish, Break, Back}
use Rattle.abstract_monitor.specs.Bytes.{Bytes}
use Rattle.abstract_monitor.specs.Endings.{is_asynchronous, opened, opened_by_row, row_after, synchronised, broken}
use Rattle.abstract_monitor.specs.Locks.{Waiting, locks_of, since, since_by}
use Rattle.abstract_monitor.specs.State.{Application, OpenTransaction, State}
use Rattle.abstract_monitor.specs.Statements.{area_of}
use Rattle.abstract_monitor.specs.Turns.{with_open, without_wait, with_task, queued, without_transaction, abnormal, after_point, settled, back_by, back, waiting, waiting_for, happens, told_here}
use Rattle.abstract_monitor.specs.Turns.{statement_now, served}
use Rattle.laws_of_states.specs.EachTurnLaws.{of_point}
use Rattle.laws_of_states.specs.Facts.{IsConsistent}
use Rattle.laws_of_states.specs.Transactions.{IsRooted}
use Rattle.laws_of_states.specs.TablesStayLaws.{last_again_stays}
use Rattle.laws_of_states.specs.JobLaws.{points_number, ends_draw_none}
use Rattle.laws_of_states.specs.OwnRowLaws.{synchronised_other, synchronised_own, broken_other, broken_own}
use Rattle.laws_of_states.specs.CountsLaws.{times, times_push}
use Rattle.laws_of_states.specs.EntriesLaws.{found_put, found_without}
use Rattle.laws_of_states.specs.PlacesLaws.{still_signed, times_ready, times_held, is_signed_for, IsPlaced, placed_of, placed_running, placed_kept, placed_closed}
use Rattle.laws_of_states.specs.ChangesLaws.{KeepsRows, alters_then, open_alters, unwaiting_alters, wait_alters, freed_alters, queued_alters, without_transaction_alters, tables_alter}
use Rattle.laws_of_states.specs.KeptLaws.{StatementKeeps, statement_keeps, held_alike}
use Rattle.laws_of_states.specs.RowsLaws.{synchronised_jobs, broken_jobs}
use Rattle.laws_of_states.specs.AreasLaws.{closed_holds, new_holds, statement_holds}
use Rattle.laws_of_states.specs.AfterLaws.{consistent_after, no_wait, IsInTask, in_task, rooted_still, rooted_row, last_consistent, sent_consistent}

row_new : (app : Application) (id : ServiceId) (row : Service) (lterm : Bytes) → (opened_by_row app.generation id row lterm).touched ≡ []
unfolding opened
row_new app id row lterm = refl

row_began : (app : Application) (id : ServiceId) (row : Service) (lterm : Bytes) → (opened_by_row app.generation id row lterm).began ≡ Some row
unfolding opened
row_began app id row lterm = refl

-- a service that becomes ready
pub times_queued : (s : State) (id : ServiceId) (y : OpenTransaction) → times_ready s id ≡ 0 → times_held s id ≡ 0 → times_ready (queued s id y) id + times_held (queued s id y) id ≡ 1
times_queued s id y none free =
    let one : times (id_eq id) (queued s id y).ready ≡ 1 =
    times_push (id_eq id) s.ready id ∙ ap (λ b. cond b (suc (times (id_eq id) s.ready)) (times (id_eq id) s.ready)) (id_eq_itself id) ∙ ap (λ n. suc n) none in
    omega arith

module _ (app : Application) (s : State) (task : ℕ) (id : ServiceId) (x : OpenTransaction) (c : IsConsistent app s) (at : slice_get s.tasks (task - 1) ≡ Some (Some id)) (is : find id_cmp id s.active ≡ Some x) where
  place : IsPlaced app s id
  place = placed_of app s c id

  in_its_task : IsInTask s task id
  in_its_task = in_task app s task id place at

  on : is_signed_for s id ≡ true
  on = place.signed (ap is_some is)

  rooted : IsRooted s.tables id x
  rooted = place.rooted x is

  -- the state without the transaction of the task
  abbrev left : State
  left = without_transaction s task id

  went : (y : OpenTransaction) → StatementKeeps (told_here app s id x) (area_of app x) x (y, Went) → IsConsistent app (with_open (without_wait s id) id y)
  went y k =
      let u = with_open (without_wait s id) id y in
      consistent_after app s u id c
      (alters_then s (without_wait s id) u id (unwaiting_alters s id) (open_alters (without_wait s id) id y))
      (placed_running app u id y
      (let a : times_ready s id ≡ 0 = in_its_task.ready in let b : times_held s id ≡ 1 = in_its_task.held in omega arith)
      (found_put id y s.active)
      (still_signed s u id refl ∙ on)
      (rooted_still s.tables id x y rooted k.began)
      (no_wait u id (found_without id s.waits)))
      (statement_holds s app.generation.limits.reswait u.active id x y (area_of app x) c.active is (found_put id y s.active) k.touched)

  put_back : (y : OpenTransaction) → StatementKeeps (told_here app s id x) (area_of app x) x (y, Queued) → IsConsistent app (queued (with_task (without_wait s id) task None) id y)
  put_back y k =
      let v = with_task (without_wait s id) task None in
      let u = queued v id y in
      consistent_after app s u id c
      (alters_then s v u id (alters_then s (without_wait s id) v id (unwaiting_alters s id) (freed_alters (without_wait s id) task id at)) (queued_alters v id y))
      (placed_running app u id y
      (times_queued v id y in_its_task.ready in_its_task.freed)
      (found_put id y s.active)
      (still_signed s u id refl ∙ on)
      (rooted_still s.tables id x y rooted k.began)
      (no_wait u id (found_without id s.waits)))
      (statement_holds s app.generation.limits.reswait u.active id x y (area_of app x) c.active is (found_put id y s.active) k.touched)

  waited : (of : Option Area) → IsConsistent app (waiting_for s id of)
  waited None = c
  waited (Some area) =
      let w : Area × ℕ = (area, since (locks_of s) id area s.tables.clock) in
      let u = waiting s id area in
      consistent_after app s u id c (wait_alters s id w)
      (placed_running app u id x
      (let a : times_ready s id ≡ 0 = in_its_task.ready in let b : times_held s id ≡ 1 = in_its_task.held in omega arith)
      is (still_signed s u id refl ∙ on) rooted
      (λ v e. (let b : times_held s id ≡ 1 = in_its_task.held in omega arith, subst (λ (n : Waiting). n.1 ≤ s.tables.clock) (some_is w v (sym (found_put id w s.waits) ∙ e)) (begun area))))
      (λ a h. inl h)
    where
      begun : (a : Area) → since (locks_of s) id a s.tables.clock ≤ s.tables.clock
      begun a = by (find id_cmp id s.waits) refl
        where
          by : (o : Option Waiting) → find id_cmp id s.waits ≡ o → since_by a s.tables.clock o ≤ s.tables.clock
          by None e = omega arith
          by (Some w) e = either (area_eq a w.0)
            where
              either : (b : Bool) → (if b then w.1 else s.tables.clock) ≤ s.tables.clock
              either true = (place.waiting w e).1
              either false = omega arith

  stands : (tac : Bytes) → (statement_now app s id x).1 ≡ Held tac → IsConsistent app (with_task (without_wait s id) task None)
  stands tac e =
      let u = with_task (without_wait s id) task None in
      consistent_after app s u id c
      (alters_then s (without_wait s id) u id (unwaiting_alters s id) (freed_alters (without_wait s id) task id at))
      (placed_kept app u id x
      (let a : times_ready s id ≡ 0 = in_its_task.ready in let b : times_held (with_task s task None) id ≡ 0 = in_its_task.freed in omega arith)
      is (still_signed s u id refl ∙ on) rooted
      (tac, λ told. held_alike app (told_here app s id x) told (is_asynchronous id) tac x e)
      (found_without id s.waits))
      (λ a h. inl h)

  -- ---- ends

  none_left : times_ready left id + times_held left id ≡ 0
  none_left = let a : times_ready s id ≡ 0 = in_its_task.ready in let b : times_held (with_task s task None) id ≡ 0 = in_its_task.freed in omega arith

  -- with these tables, and no open transaction
  closed : (t : TableRows) → KeepsRows left t id → ((row : Service) → service_of t id ≡ Some row → row.awaits ≡ false → ⊥) → IsConsistent app (record left { tables = t })
  closed t k awaits =
      let u = record left { tables = t } in
      consistent_after app s u id c
      (alters_then s left u id (without_transaction_alters s task id at) (tables_alter left t id k))
      (placed_closed app u id none_left (found_without id s.active) (λ row d o r a. awaits row r a) (found_without id s.waits))
      (closed_holds s.active u.active id (found_without id s.active))

  -- with these tables, and ready to go on from its row
  goes : (t : TableRows) (row : Service) → KeepsRows left t id → service_of t id ≡ Some row → IsConsistent app (queued (record left { tables = t }) id (opened_by_row app.generation id row x.lterm))
  goes t row k here =
      let v = record left { tables = t } in
      let y = opened_by_row app.generation id row x.lterm in
      let u = queued v id y in
      consistent_after app s u id c
      (alters_then s v u id (alters_then s left v id (without_transaction_alters s task id at) (tables_alter left t id k)) (queued_alters v id y))
      (placed_running app u id y
      (times_queued v id y in_its_task.ready in_its_task.freed)
      (found_put id y left.active)
      (still_signed s u id refl ∙ on)
      (rooted_row t id row y here (row_began app id row x.lterm))
      (no_wait u id (found_without id s.waits)))
      (new_holds s.active u.active id y (found_put id y left.active) (row_new app id row x.lterm))

  broken_keeps : KeepsRows left (broken app.generation s.tables id x) id
  broken_keeps = record {
    rows = broken_other app.generation s.tables id x;
    jobs = λ i began apart o h. broken_jobs app.generation s.tables id x i began apart h;
    clock = let e : (broken app.generation s.tables id x).clock ≡ s.tables.clock = (ends_draw_none app.generation s.tables id x).clock in omega arith;
  }

  synchronised_keeps : (o : Outcome) → KeepsRows left (synchronised app.generation s.tables id x o) id
  synchronised_keeps o = record {
    rows = synchronised_other app.generation s.tables id x o;
    jobs = λ i began apart p h. synchronised_jobs app.generation s.tables id x o i began apart h;
    clock = let e : (synchronised app.generation s.tables id x o).clock ≡ s.tables.clock = (points_number app.generation s.tables id x o).clock in omega arith;
  }

  same_keeps : KeepsRows left s.tables id
  same_keeps = record { rows = λ i apart. refl; jobs = λ i began apart o h. h; clock = omega arith }

  breaks : (e : Ending) → IsConsistent app (abnormal app s task id x e).after
  unfolding abnormal
  breaks e = closed (broken app.generation s.tables id x) broken_keeps (λ row r a. absurd (true≢false (sym (ap is_some (sym (broken_own app.generation s.tables id x) ∙ r)))))

  -- the service is over
  over : (o : Outcome) → service_of (synchronised app.generation s.tables id x o) id ≡ None → IsConsistent app (record left { tables = synchronised app.generation s.tables id x o })
  over o none = closed (synchronised app.generation s.tables id x o) (synchronised_keeps o) (λ row r a. absurd (true≢false (sym (ap is_some (sym none ∙ r)))))

  points : (o : Outcome) (commit : Act) (kept : Settled)
      → IsConsistent app (after_point app (record left { tables = synchronised app.generation s.tables id x o }) id x o (row_after app.generation id x o) commit kept).after
  unfolding row_after
  points (Wait tac) commit kept = sent_consistent app _ id x (closed (synchronised app.generation s.tables id x (Wait tac)) (synchronised_keeps (Wait tac)) (awaits_then (Wait tac) (synchronised_own app.generation s.tables id x (Wait tac))))
    where
      awaits_then : (o : Outcome) → service_of (synchronised app.generation s.tables id x o) id ≡ row_after app.generation id x (Wait tac) → (row : Service) → service_of (synchronised app.generation s.tables id x o) id ≡ Some row → row.awaits ≡ false → ⊥
      awaits_then o own row r a = absurd (true≢false (ap (λ (v : Service). v.awaits) (some_is _ row (sym own ∙ r)) ∙ a))
  points Finish commit kept = sent_consistent app _ id x (over Finish (synchronised_own app.generation s.tables id x Finish))
  points (Point tac) commit kept = goes (synchronised app.generation s.tables id x (Point tac)) _ (synchronised_keeps (Point tac)) (synchronised_own app.generation s.tables id x (Point tac))
  points (Follow tac) commit kept = goes (synchronised app.generation s.tables id x (Follow tac)) _ (synchronised_keeps (Follow tac)) (synchronised_own app.generation s.tables id x (Follow tac))
  points (Hold tac) commit kept = over (Hold tac) (synchronised_own app.generation s.tables id x (Hold tac))
  points (Stay tac) commit kept = over (Stay tac) (synchronised_own app.generation s.tables id x (Stay tac))
  points (Queue tac) commit kept = over (Queue tac) (synchronised_own app.generation s.tables id x (Queue tac))
  points Break commit kept = over Break (synchronised_own app.generation s.tables id x Break)
  points Back commit kept = over Back (synchronised_own app.generation s.tables id x Back)

  settles : (o : Outcome) → IsConsistent app (settled app s task id x o).after
  settles o = of_point app s task id x o (λ t. IsConsistent app t.after) (λ cause. breaks (Broken cause)) (points o _ _)

  returns_to : (began : Option Service) → service_of s.tables id ≡ began → IsConsistent app (back app left id x began).after
  returns_to None e = closed s.tables same_keeps (λ row r a. absurd (true≢false (sym (ap is_some (sym e ∙ r)))))
  returns_to (Some row) e = by row.awaits refl
    where
      by : (b : Bool) → row.awaits ≡ b → IsConsistent app (back_by app left id x row b).after
      by true a =
          let kept = closed s.tables same_keeps (λ r q f. absurd (true≢false (sym a ∙ ap (λ (v : Service). v.awaits) (some_is row r (sym e ∙ q)) ∙ f))) in
          last_again_stays (IsConsistent app) left (λ pterm message. last_consistent app left pterm message kept) kept id row.last
      by false a = goes s.tables row same_keeps e

  does : (y : OpenTransaction) (h : Happened) → StatementKeeps (told_here app s id x) (area_of app x) x (y, h) → (statement_now app s id x).1 ≡ h → IsConsistent app (happens app s task id x y h).after
  unfolding happens
  does y Went k e = went y (record { touched = k.touched; began = k.began })
  does y Queued k e = put_back y (record { touched = k.touched; began = k.began })
  does y Waited k e = waited (area_of app x)
  does y (Held tac) k e = sent_consistent app _ id x (stands tac e)
  does y (Settles o) k e = settles o
  does y (Breaks ending) k e = breaks ending
  does y Returns k e = returns_to x.began rooted.began

-- a task serves its service
pub served_consistent : (app : Application) (s : State) (task : ℕ) (id : ServiceId) → IsConsistent app s → slice_get s.tasks (task - 1) ≡ Some (Some id)
    → (o : Option OpenTransaction) → find id_cmp id s.active ≡ o → IsConsistent app (served app s task id o).after
served_consistent app s task id c at None e = c
served_consistent app s task id c at (Some x) e =
    does app s task id x c at e (statement_now app s id x).0 (statement_now app s id x).1 (statement_keeps app (told_here app s id x) (is_asynchronous id) x) refl
