-- Each turn keeps a sound state.
use Rattle.std.specs.Prelude.{◌≡◌, refl, ℕ, ◌-◌, Bool, true, false, slice_get, Option, None, Some}
use Rattle.std.proofs.Common.{ap, subst, ◌∙◌}
use Rattle.std.specs.FinMap.{find}
use Rattle.kdcs_types.specs.declared.act.Act.{Act}
use Rattle.kdcs_types.specs.declared.call.Cause.{Cause}
use Rattle.kdcs_types.specs.declared.key.Area.{Area}
use Rattle.kdcs_types.specs.declared.key.ServiceId.{ServiceId}
use Rattle.kdcs_types.specs.declared.key.ServiceId.TheVariants.{Dialogue, Asynchronous}
use Rattle.kdcs_types.specs.declared.key.Target.{Target}
use Rattle.kdcs_types.specs.declared.key.Target.TheVariants.{Tac, Lterm}
use Rattle.kdcs_types.specs.declared.service.Ending.{Ending}
use Rattle.kdcs_types.specs.declared.service.Ending.TheVariants.{Broken}
use Rattle.kdcs_types.specs.declared.service.JobValue.{JobValue}
use Rattle.kdcs_types.specs.declared.service.Service.{Service}
use Rattle.kdcs_types.specs.declared.service.Settled.{Settled}
use Rattle.kdcs_types.specs.Keys.{id_cmp}
use Rattle.kdcs_types.specs.Tables.{TableRows, service_of, job_of}
use Rattle.abstract_monitor.specs.declared.answer.Happened.{Happened}
use Rattle.abstract_monitor.specs.declared.answer.Happened.TheVariants.{Went, Queued, Waited, Held, Settles, Breaks, Returns}
use Rattle.abstract_monitor.specs.declared.outcome.Outcome.{Outcome}
use Rattle.abstract_monitor.specs.declared.outcome.Outcome.TheVariants.{Wait, Point, Follow, Finish}
use Rattle.abstract_monitor.specs.declared.work.Work.{Work}
use Rattle.abstract_monitor.specs.declared.work.Work.TheVariants as work
use Rattle.abstract_monitor.specs.Bytes.{Bytes, bytes_cmp}
use Rattle.abstract_monitor.specs.State.{Application, OpenTransaction, Session, State}
use Rattle.abstract_monitor.specs.Endings.{is_asynchronous, opened_by_row, opened_by_job, row_after, synchronised, broken, durable, refusal}
use Rattle.abstract_monitor.specs.Statements.{area_of}
use Rattle.abstract_monitor.specs.Locks.{locks_of}
use Rattle.abstract_monitor.specs.Picks.{pick}
use Rattle.abstract_monitor.specs.Turns.{without_wait, with_task, queued, without_transaction, pterm_of_user, noted_last, last_told, abnormal, message_sent, goes_on, after_point, settled_by, settled}
use Rattle.abstract_monitor.specs.Turns.{last_again, back_by, back, waiting_for, happens, told_here, statement_now, served, took_job_for, took_job, took, turn_by, turn_of}
use Rattle.laws_of_states.specs.Applications.{IsApplication}
use Rattle.laws_of_states.specs.Transactions.{IsRooted, CanGoOn}
use Rattle.laws_of_states.specs.Facts.{IsConsistent}
use Rattle.laws_of_states.specs.OpenLaws.{OutcomeFits, HappenedFits}
use Rattle.laws_of_states.specs.PointLaws.{AreSound}
use Rattle.laws_of_states.specs.StatedLaws.{statements_keep}
use Rattle.laws_of_states.specs.OpeningsLaws.{rows_can, jobs_can}
use Rattle.laws_of_states.specs.PointsLaws.{points_stay_sound, next_row}
use Rattle.laws_of_states.specs.EndsLaws.{ends_stay_sound}
use Rattle.laws_of_states.specs.StatesLaws.{Parts, opens_put, opens_without, sessions_put, session_found, row_found, job_found, told_fits}

-- ---- messages to terminals

noted_parts : (app : Application) (s : State) (pterm message : Bytes) (o : Option Session) → find bytes_cmp pterm s.signed ≡ o → Parts app s → Parts app (noted_last s pterm message o)
noted_parts app s pterm message None e p = p
noted_parts app s pterm message (Some v) e p =
    let is = session_found app s.signed pterm v p.sessions e in
    let told : Session = record v { last = Some message } in
    record { tables = p.tables; sessions = sessions_put app s.signed pterm told p.sessions (is.0, is.1); opens = p.opens }

last_told_parts : (app : Application) (s : State) (o : Option Bytes) (message : Bytes) → Parts app s → Parts app (last_told s o message)
last_told_parts app s None message p = p
last_told_parts app s (Some pterm) message p = noted_parts app s pterm message (find bytes_cmp pterm s.signed) refl p

message_parts : (app : Application) (s : State) (id : ServiceId) (x : OpenTransaction) → Parts app s → Parts app (message_sent s id x)
message_parts app s (Dialogue user) x p = last_told_parts app s (pterm_of_user s.signed user) _ p
message_parts app s (Asynchronous number) x p = p

again_parts : (app : Application) (s : State) (id : ServiceId) (last : Option Bytes) → Parts app s → Parts app (last_again s id last).after
again_parts app s id None p = p
again_parts app s (Dialogue user) (Some message) p = last_told_parts app s (pterm_of_user s.signed user) message p
again_parts app s (Asynchronous number) (Some message) p = p

-- ---- one service

module _ (app : Application) (application : IsApplication app) (s : State) (p : Parts app s) (task : ℕ) (id : ServiceId) (x : OpenTransaction) (can : CanGoOn app.generation id x) (rooted : IsRooted s.tables id x) where
  -- without the transaction, over other tables
  ended_parts : (t : TableRows) → AreSound app.generation t → Parts app (record (without_transaction s task id) { tables = t })
  ended_parts t sound = record { tables = sound; sessions = p.sessions; opens = opens_without app s.active id p.opens }

  queued_parts : (u : State) → Parts app u → (row : Service) → CanGoOn app.generation id (opened_by_row app.generation id row x.lterm) → Parts app (queued u id (opened_by_row app.generation id row x.lterm))
  queued_parts u q row opens = record { tables = q.tables; sessions = q.sessions; opens = opens_put app u.active id (opened_by_row app.generation id row x.lterm) q.opens opens }

  abnormal_parts : (e : Ending) → Parts app (abnormal app s task id x e).after
  unfolding abnormal
  abnormal_parts e = ended_parts (broken app.generation s.tables id x) (ends_stay_sound app.generation s.tables id x p.tables).sound

  goes_on_parts : (o : Outcome) → OutcomeFits app.generation (is_asynchronous id) o → (u : State) → Parts app u → (row : Option Service) → row_after app.generation id x o ≡ row → Parts app (goes_on app u id x row)
  goes_on_parts o fits u q None e = q
  goes_on_parts o fits u q (Some row) e =
      let found = next_row app.generation s.tables id x o (record { sound = p.tables; can = can; rooted = rooted }) fits row e in
      queued_parts u q row (rows_can app.generation id row x.lterm found.0 found.1 can.lterm)

  point_parts : (o : Outcome) → OutcomeFits app.generation (is_asynchronous id) o → (u : State) → Parts app u → (commit : Act) (kept : Settled) → Parts app (after_point app u id x o (row_after app.generation id x o) commit kept).after
  point_parts (Wait tac) fits u q commit kept = message_parts app u id x q
  point_parts Finish fits u q commit kept = message_parts app u id x q
  point_parts (Point tac) fits u q commit kept = goes_on_parts (Point tac) fits u q (row_after app.generation id x (Point tac)) refl
  point_parts (Follow tac) fits u q commit kept = goes_on_parts (Follow tac) fits u q (row_after app.generation id x (Follow tac)) refl
  point_parts _ fits u q commit kept = q

  settled_parts : (o : Outcome) → OutcomeFits app.generation (is_asynchronous id) o → Parts app (settled app s task id x o).after
  unfolding settled
  settled_parts o fits = by (refusal app.generation (durable app.generation new)) refl
    where
      new : TableRows
      new = synchronised app.generation s.tables id x o

      by : (c : Option Cause) → refusal app.generation (durable app.generation new) ≡ c → Parts app (settled_by app s task id x o new c).after
      by (Some cause) e = abnormal_parts (Broken cause)
      by None e =
          point_parts o fits (record (without_transaction s task id) { tables = new })
          (ended_parts new (points_stay_sound app.generation s.tables id x o (record { sound = p.tables; can = can; rooted = rooted }) fits e)) _ _

  back_parts : (began : Option Service) → service_of s.tables id ≡ began → Parts app (back app (without_transaction s task id) id x began).after
  back_parts None e = ended_parts s.tables p.tables
  back_parts (Some row) e = by row.awaits
    where
      by : (b : Bool) → Parts app (back_by app (without_transaction s task id) id x row b).after
      by true = again_parts app (without_transaction s task id) id row.last (ended_parts s.tables p.tables)
      by false =
          let found = row_found app.generation s.tables id row p.tables e in
          queued_parts (without_transaction s task id) (ended_parts s.tables p.tables) row (rows_can app.generation id row x.lterm found.suits found.own can.lterm)

  waiting_parts : (o : Option Area) → Parts app (waiting_for s id o)
  waiting_parts None = p
  waiting_parts (Some area) = record { tables = p.tables; sessions = p.sessions; opens = p.opens }

  happens_parts : (y : OpenTransaction) (h : Happened) → CanGoOn app.generation id y → HappenedFits app.generation (is_asynchronous id) h → Parts app (happens app s task id x y h).after
  unfolding happens
  happens_parts y Went after fits = record { tables = p.tables; sessions = p.sessions; opens = opens_put app s.active id y p.opens after }
  happens_parts y Queued after fits = record { tables = p.tables; sessions = p.sessions; opens = opens_put app s.active id y p.opens after }
  happens_parts y Waited after fits = waiting_parts (area_of app x)
  happens_parts y (Held tac) after fits = message_parts app (with_task (without_wait s id) task None) id x (record { tables = p.tables; sessions = p.sessions; opens = p.opens })
  happens_parts y (Settles o) after fits = settled_parts o fits
  happens_parts y (Breaks ending) after fits = abnormal_parts ending
  happens_parts y Returns after fits = back_parts x.began rooted.began

-- ---- a turn

served_parts : (app : Application) (s : State) (task : ℕ) (id : ServiceId) → IsApplication app → IsConsistent app s → Parts app s → (o : Option OpenTransaction) → find id_cmp id s.active ≡ o → Parts app (served app s task id o).after
served_parts app s task id application facts p None e = p
served_parts app s task id application facts p (Some x) e =
    let can = p.opens id x e in
    let told = told_fits app.generation s.tables (locks_of s) app.generation.limits.reswait id (area_of app x) p.tables in
    let kept = statements_keep app id x (told_here app s id x) application can told in
    let r = statement_now app s id x in
    happens_parts app application s p task id x can (facts.rooted id x e) r.0 r.1 kept.can kept.fits

job_parts : (app : Application) (s : State) (task number : ℕ) (value : JobValue) → Parts app s → job_of s.tables number ≡ Some value → (to : Target) → value.to ≡ to → Parts app (took_job_for app s task number value to).after
job_parts app s task number value p e (Tac tac) to =
    let found = job_found app.generation s.tables number value p.tables e in
    let opens : CanGoOn app.generation (Asynchronous found.job.number) (opened_by_job app.generation found.job.value tac) =
    jobs_can app.generation found.job tac found.suits (ap (λ (v : JobValue). v.to) found.value_is ∙ to) in
    let same : CanGoOn app.generation (Asynchronous number) (opened_by_job app.generation value tac) =
    subst (λ (v : JobValue). CanGoOn app.generation (Asynchronous number) (opened_by_job app.generation v tac)) found.value_is
    (subst (λ n. CanGoOn app.generation (Asynchronous n) (opened_by_job app.generation found.job.value tac)) found.number_is opens) in
    record { tables = p.tables; sessions = p.sessions; opens = opens_put app s.active (Asynchronous number) (opened_by_job app.generation value tac) p.opens same }
job_parts app s task number value p e (Lterm lterm) to = p

took_parts : (app : Application) (s : State) (task : ℕ) → Parts app s → (w : Option Work) → Parts app (took app s task w).after
took_parts app s task p None = p
took_parts app s task p (Some (work.Service id)) = record { tables = p.tables; sessions = p.sessions; opens = p.opens }
took_parts app s task p (Some (work.Job number)) = by (job_of s.tables number) refl
  where
    by : (o : Option JobValue) → job_of s.tables number ≡ o → Parts app (took_job app s task number o).after
    by None e = p
    by (Some value) e = job_parts app s task number value p e value.to refl

pub turn_parts : (app : Application) (s : State) (task : ℕ) → IsApplication app → IsConsistent app s → Parts app s → Parts app (turn_of app s task).after
unfolding turn_of
turn_parts app s task application facts p = by (slice_get s.tasks (task - 1))
  where
    by : (o : Option (Option ServiceId)) → Parts app (turn_by app s task o).after
    by None = p
    by (Some None) = took_parts app s task p (pick app s)
    by (Some (Some id)) = served_parts app s task id application facts p (find id_cmp id s.active) refl
