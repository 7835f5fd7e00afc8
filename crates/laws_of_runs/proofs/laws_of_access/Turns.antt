-- A turn brings no service but by a PEND FC that the rule allows.
use Rattle.std.specs.Prelude.{◌≡◌, ◌⊎◌, refl, ℕ, ◌-◌, Bool, true, false, Option, Some, None, slice_get}
use Rattle.std.proofs.Common.{sym, ap, ◌∙◌, subst, inl, inr}
use Rattle.std.specs.FinMap.{find}
use Rattle.kdcs_types.specs.declared.key.Area.{Area}
use Rattle.kdcs_types.specs.declared.key.ServiceId.{ServiceId}
use Rattle.kdcs_types.specs.declared.key.ServiceId.TheVariants.{Dialogue, Asynchronous}
use Rattle.kdcs_types.specs.declared.key.Target.{Target}
use Rattle.kdcs_types.specs.declared.key.Target.TheVariants.{Tac, Lterm}
use Rattle.kdcs_types.specs.declared.service.Ending.{Ending}
use Rattle.kdcs_types.specs.declared.service.Ending.TheVariants.{Synced, Broken}
use Rattle.kdcs_types.specs.declared.service.JobValue.{JobValue}
use Rattle.kdcs_types.specs.declared.service.Service.{Service}
use Rattle.kdcs_types.specs.Keys.{id_cmp}
use Rattle.kdcs_types.specs.Tables.{service_of, job_of}
use Rattle.abstract_monitor.specs.declared.answer.Happened.{Happened}
use Rattle.abstract_monitor.specs.declared.answer.Happened.TheVariants.{Went, Queued, Waited, Held, Settles, Breaks, Returns}
use Rattle.abstract_monitor.specs.declared.outcome.Outcome.{Outcome}
use Rattle.abstract_monitor.specs.declared.outcome.Outcome.TheVariants.{Stay, Queue, Hold, Wait, Point, Finish, Follow, Break, Back}
use Rattle.abstract_monitor.specs.declared.work.Work.{Work}
use Rattle.abstract_monitor.specs.declared.work.Work.TheVariants as work
use Rattle.abstract_monitor.specs.Bytes.{Bytes}
use Rattle.abstract_monitor.specs.Endings.{is_asynchronous, opened, opened_by_row, opened_by_job, new_row, row_after, synchronised}
use Rattle.abstract_monitor.specs.Picks.{pick}
use Rattle.abstract_monitor.specs.State.{Application, OpenTransaction, State}
use Rattle.abstract_monitor.specs.Statements.{area_of, kept_record}
use Rattle.abstract_monitor.specs.Turns.{Turned, with_task, without_wait, without_transaction, queued, waiting_for, after_point, abnormal, settled, commit_of, back_by, back, happens, statement_now}
use Rattle.abstract_monitor.specs.Turns.{told_here, served, took_job_for, took_job, took, turn_by, turn_of}
use Rattle.abstract_monitor.specs.Commands.{ByTransaction, maker_of, turned_step}
use Rattle.laws_of_states.specs.EachTurnLaws.{of_point}
use Rattle.laws_of_states.specs.TablesStayLaws.{last_again_stays}
use Rattle.laws_of_runs.specs.Access.{RowIsOf, OpenIsOf, IsThere, WasThereOrBegins}
use Rattle.laws_of_runs.proofs.laws_of_access.Beginnings.{open_put, open_without, point_row_there, end_row_there, last_same, sent_same, same_there}
use Rattle.laws_of_runs.proofs.laws_of_access.Firsts.{first_stays}

-- ---- a task that works

module _ (app : Application) (s : State) (task : ℕ) (id : ServiceId) (x : OpenTransaction) (is_open : find id_cmp id s.active ≡ Some x) (rooted : service_of s.tables id ≡ x.began) where
  -- each service that is there after the turn was there, or begins at it
  abbrev Fine : Turned → Type 0
  Fine t = (user tac : Bytes) → IsThere t.after user tac → WasThereOrBegins app s (turned_step t) user tac

  -- the own service was there, by its transaction and by the row with which that began
  own_open : (user tac : Bytes) → Dialogue user ≡ id → x.first ≡ tac → IsThere s user tac
  own_open user tac same first = inr (subst (λ (i : ServiceId). OpenIsOf tac (find id_cmp i s.active)) (sym same) (subst (OpenIsOf tac) (sym is_open) first))

  own_row : (user tac : Bytes) → Dialogue user ≡ id → RowIsOf tac x.began → IsThere s user tac
  own_row user tac same row = inl (subst (λ (i : ServiceId). RowIsOf tac (service_of s.tables i)) (sym same) (subst (RowIsOf tac) (sym rooted) row))

  -- nothing is there that was not
  abbrev NothingNew : State → Type 0
  NothingNew u = (user tac : Bytes) → IsThere u user tac → IsThere s user tac

  fine : (t : Turned) → NothingNew t.after → Fine t
  fine t h user tac there = inl (h user tac there)

  -- the own transaction goes on, with the same first TAC
  goes_on_there : (y : OpenTransaction) → y.first ≡ x.first → (user tac : Bytes) → ((Dialogue user ≡ id) × (y.first ≡ tac)) ⊎ OpenIsOf tac (find id_cmp (Dialogue user) s.active) → IsThere s user tac
  goes_on_there y stays user tac (inl own) = own_open user tac own.0 (sym stays ∙ own.1)
  goes_on_there y stays user tac (inr transaction) = inr transaction

  went_there : (y : OpenTransaction) → y.first ≡ x.first → NothingNew (queued s id y)
  went_there y stays user tac (inl row) = inl row
  went_there y stays user tac (inr transaction) = goes_on_there y stays user tac (open_put (Dialogue user) id y s.active tac transaction)

  -- the own transaction is over
  over_there : NothingNew (without_transaction s task id)
  over_there user tac (inl row) = inl row
  over_there user tac (inr transaction) = inr (open_without (Dialogue user) id s.active tac transaction)

  abnormal_fine : (ending : Ending) → Fine (abnormal app s task id x ending)
  unfolding abnormal
  abnormal_fine ending user tac (inl row) = inl (inl (end_row_there app.generation s.tables id x (Dialogue user) tac row))
  abnormal_fine ending user tac (inr transaction) = inl (inr (open_without (Dialogue user) id s.active tac transaction))

  -- ---- synchronisation points

  -- the state after a point, before its service goes on or its message is sent
  abbrev at_point : Outcome → State
  at_point o = record (without_transaction s task id) { tables = synchronised app.generation s.tables id x o }

  -- what a point of this outcome leaves; its row is of the own service
  point_there : (o : Outcome) (user tac : Bytes) → IsThere (at_point o) user tac → ((Dialogue user ≡ id) × RowIsOf tac (row_after app.generation id x o)) ⊎ IsThere s user tac
  point_there o user tac (inl row) = by (point_row_there app.generation s.tables id x o (Dialogue user) tac row)
    where
      by : ((Dialogue user ≡ id) × RowIsOf tac (row_after app.generation id x o)) ⊎ RowIsOf tac (service_of s.tables (Dialogue user)) → ((Dialogue user ≡ id) × RowIsOf tac (row_after app.generation id x o)) ⊎ IsThere s user tac
      by (inl own) = inl own
      by (inr other) = inr (inl other)
  point_there o user tac (inr transaction) = inr (inr (open_without (Dialogue user) id s.active tac transaction))

  -- after a point of SP or FC its service goes on from its row
  queued_there : (o : Outcome) (row : Service) → row_after app.generation id x o ≡ Some row → (user tac : Bytes) → IsThere (queued (at_point o) id (opened_by_row app.generation id row x.lterm)) user tac
      → ((Dialogue user ≡ id) × RowIsOf tac (row_after app.generation id x o)) ⊎ IsThere s user tac
  unfolding opened
  queued_there o row is user tac (inl there) = point_there o user tac (inl there)
  queued_there o row is user tac (inr transaction) = by (open_put (Dialogue user) id (opened_by_row app.generation id row x.lterm) (at_point o).active tac transaction)
    where
      by : ((Dialogue user ≡ id) × (row.first ≡ tac)) ⊎ OpenIsOf tac (find id_cmp (Dialogue user) (at_point o).active) → ((Dialogue user ≡ id) × RowIsOf tac (row_after app.generation id x o)) ⊎ IsThere s user tac
      by (inl own) = inl (own.0, subst (RowIsOf tac) (sym is) own.1)
      by (inr there) = inr (inr (open_without (Dialogue user) id s.active tac there))

  -- where the row after the point has the same first TAC, nothing is new
  same_first : (o : Outcome) → ((tac : Bytes) → RowIsOf tac (row_after app.generation id x o) → x.first ≡ tac) → (user tac : Bytes)
      → ((Dialogue user ≡ id) × RowIsOf tac (row_after app.generation id x o)) ⊎ IsThere s user tac → IsThere s user tac
  same_first o stays user tac (inl own) = own_open user tac own.0 (stays tac own.1)
  same_first o stays user tac (inr there) = there

  -- a PEND FC begins its service
  begins : (next : Bytes) (t : Turned) → (statement_now app s id x).1 ≡ Settles (Follow next) → t.settled ≡ Some (kept_record id x Synced) → (user tac : Bytes)
      → ((Dialogue user ≡ id) × RowIsOf tac (row_after app.generation id x (Follow next))) ⊎ IsThere s user tac → WasThereOrBegins app s (turned_step t) user tac
  unfolding row_after
  begins next t ends by user tac (inr there) = inl there
  begins next t ends by user tac (inl own) = inr (
    x.lterm,
    inr (record {
      own = x;
      was_open = ap (λ (i : ServiceId). find id_cmp i s.active) own.0 ∙ is_open;
      where_at = refl;
      ends = ap (λ (i : ServiceId). (statement_now app s i x).1) own.0 ∙ ends ∙ ap (λ (f : Bytes). Settles (Follow f)) own.1;
      step = ap maker_of by ∙ ap (λ (i : ServiceId). Some (ByTransaction (kept_record i x Synced))) (sym own.0);
    }),
  )

  point_fine : (o : Outcome) → (statement_now app s id x).1 ≡ Settles o
      → Fine (after_point app (at_point o) id x o (row_after app.generation id x o) (commit_of app s.tables (synchronised app.generation s.tables id x o)) (kept_record id x Synced))
  unfolding row_after
  point_fine (Wait next) ends user tac there = inl (same_first (Wait next) (λ f h. h) user tac (point_there (Wait next) user tac (same_there (at_point (Wait next)) _ (sent_same (at_point (Wait next)) id x) user tac there)))
  point_fine Finish ends user tac there = inl (same_first Finish (λ f h. absurd h) user tac (point_there Finish user tac (same_there (at_point Finish) _ (sent_same (at_point Finish) id x) user tac there)))
  point_fine (Point next) ends user tac there = inl (same_first (Point next) (λ f h. h) user tac (queued_there (Point next) _ refl user tac there))
  point_fine (Follow next) ends user tac there =
      let t = after_point app (at_point (Follow next)) id x (Follow next) (row_after app.generation id x (Follow next)) (commit_of app s.tables (synchronised app.generation s.tables id x (Follow next))) (kept_record id x Synced) in
      begins next t ends refl user tac (queued_there (Follow next) (new_row app.generation id x next) refl user tac there)
  point_fine (Stay next) ends user tac there = inl (same_first (Stay next) (λ f h. absurd h) user tac (point_there (Stay next) user tac there))
  point_fine (Queue next) ends user tac there = inl (same_first (Queue next) (λ f h. absurd h) user tac (point_there (Queue next) user tac there))
  point_fine (Hold next) ends user tac there = inl (same_first (Hold next) (λ f h. absurd h) user tac (point_there (Hold next) user tac there))
  point_fine Break ends user tac there = inl (same_first Break (λ f h. absurd h) user tac (point_there Break user tac there))
  point_fine Back ends user tac there = inl (same_first Back (λ f h. absurd h) user tac (point_there Back user tac there))

  settled_fine : (o : Outcome) → (statement_now app s id x).1 ≡ Settles o → Fine (settled app s task id x o)
  settled_fine o ends = of_point app s task id x o Fine (λ cause. abnormal_fine (Broken cause)) (point_fine o ends)

  -- ---- other ends of a turn

  waits_there : (o : Option Area) → NothingNew (waiting_for s id o)
  waits_there None user tac there = there
  waits_there (Some area) user tac there = there

  -- PEND RS of a point that awaits no input goes on from its row
  again_there : (row : Service) → x.began ≡ Some row → NothingNew (queued (without_transaction s task id) id (opened_by_row app.generation id row x.lterm))
  unfolding opened
  again_there row is user tac (inl there) = inl there
  again_there row is user tac (inr transaction) = from (open_put (Dialogue user) id (opened_by_row app.generation id row x.lterm) (without_transaction s task id).active tac transaction)
    where
      from : ((Dialogue user ≡ id) × (row.first ≡ tac)) ⊎ OpenIsOf tac (find id_cmp (Dialogue user) (without_transaction s task id).active) → IsThere s user tac
      from (inl own) = own_row user tac own.0 (subst (RowIsOf tac) (sym is) own.1)
      from (inr there) = inr (open_without (Dialogue user) id s.active tac there)

  back_fine : (began : Option Service) → x.began ≡ began → Fine (back app (without_transaction s task id) id x began)
  back_fine None is = fine (back app (without_transaction s task id) id x None) over_there
  back_fine (Some row) is = by row.awaits
    where
      left : State
      left = without_transaction s task id

      by : (b : Bool) → Fine (back_by app (without_transaction s task id) id x row b)
      by true = fine (back_by app left id x row true)
          (last_again_stays NothingNew left (λ pterm message user tac there. over_there user tac (same_there left _ (last_same left pterm message) user tac there)) over_there id row.last)
      by false = fine (back_by app left id x row false) (again_there row is)

  happens_fine : (y : OpenTransaction) → y.first ≡ x.first → (h : Happened) → (statement_now app s id x).1 ≡ h → Fine (happens app s task id x y h)
  unfolding happens
  happens_fine y stays Went is = fine (happens app s task id x y Went) (went_there y stays)
  happens_fine y stays Queued is = fine (happens app s task id x y Queued) (went_there y stays)
  happens_fine y stays Waited is = fine (happens app s task id x y Waited) (waits_there (area_of app x))
  happens_fine y stays (Held next) is =
      let left = with_task (without_wait s id) task None in
      fine (happens app s task id x y (Held next)) (λ user tac there. same_there left _ (sent_same left id x) user tac there)
  happens_fine y stays (Settles o) is = settled_fine o is
  happens_fine y stays (Breaks ending) is = abnormal_fine ending
  happens_fine y stays Returns is = back_fine x.began refl

-- ---- a turn

module _ (app : Application) (s : State) (task : ℕ) (rooted : (id : ServiceId) (x : OpenTransaction) → find id_cmp id s.active ≡ Some x → service_of s.tables id ≡ x.began) where
  abbrev TurnFine : Turned → Type 0
  TurnFine t = (user tac : Bytes) → IsThere t.after user tac → WasThereOrBegins app s (turned_step t) user tac

  served_fine : (id : ServiceId) (o : Option OpenTransaction) → find id_cmp id s.active ≡ o → TurnFine (served app s task id o)
  served_fine id None e = λ user tac there. inl there
  served_fine id (Some x) e =
      happens_fine app s task id x e (rooted id x e) (statement_now app s id x).0 (first_stays app (is_asynchronous id) x (told_here app s id x)) (statement_now app s id x).1 refl

  -- an asynchronous service is none of a user's
  took_there : (number : ℕ) (y : OpenTransaction) (user tac : Bytes) → ((Dialogue user ≡ Asynchronous number) × (y.first ≡ tac)) ⊎ OpenIsOf tac (find id_cmp (Dialogue user) s.active) → IsThere s user tac
  took_there number y user tac (inl own) = absurd (no own.0)
    where
      no : Dialogue user ≡ Asynchronous number → ⊥
      no e = cc
  took_there number y user tac (inr transaction) = inr transaction

  job_for_fine : (number : ℕ) (job : JobValue) (to : Target) → TurnFine (took_job_for app s task number job to)
  job_for_fine number job (Tac tac) user first (inl row) = inl (inl row)
  job_for_fine number job (Tac tac) user first (inr transaction) = inl (took_there number (opened_by_job app.generation job tac) user first (open_put (Dialogue user) (Asynchronous number) (opened_by_job app.generation job tac) s.active first transaction))
  job_for_fine number job (Lterm lterm) user first there = inl there

  job_fine : (number : ℕ) (job : Option JobValue) → TurnFine (took_job app s task number job)
  job_fine number None = λ user tac there. inl there
  job_fine number (Some job) = job_for_fine number job job.to

  took_fine : (w : Option Work) → TurnFine (took app s task w)
  took_fine None = λ user tac there. inl there
  took_fine (Some (work.Service id)) = λ user tac there. inl there
  took_fine (Some (work.Job number)) = job_fine number (job_of s.tables number)

  pub turn_fine : TurnFine (turn_of app s task)
  unfolding turn_of
  turn_fine = by (slice_get s.tasks (task - 1))
    where
      by : (place : Option (Option ServiceId)) → TurnFine (turn_by app s task place)
      by None = λ user tac there. inl there
      by (Some None) = took_fine (pick app s)
      by (Some (Some id)) = served_fine id (find id_cmp id s.active) refl
