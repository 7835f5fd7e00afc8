-- Where no TAC has a lock, each turn is what it is without key sets.
use Rattle.std.specs.Prelude.{◌≡◌, refl, ℕ, ◌-◌, ◌++◌, slice_get, Option, Some, None, option_and_then}
use Rattle.std.proofs.Common.{ap, ◌∙◌}
use Rattle.std.specs.FinMap.{find}
use Rattle.kdcs_types.specs.declared.act.Act.{Act}
use Rattle.kdcs_types.specs.declared.call.Cause.{Cause}
use Rattle.kdcs_types.specs.declared.key.ServiceId.{ServiceId}
use Rattle.kdcs_types.specs.declared.key.ServiceId.TheVariants.{Dialogue, Asynchronous}
use Rattle.kdcs_types.specs.declared.service.Ending.{Ending}
use Rattle.kdcs_types.specs.declared.service.Ending.TheVariants.{Synced, Broken}
use Rattle.kdcs_types.specs.declared.service.JobValue.{JobValue}
use Rattle.kdcs_types.specs.declared.service.Service.{Service}
use Rattle.kdcs_types.specs.declared.service.Settled.{Settled}
use Rattle.kdcs_types.specs.Keys.{id_cmp}
use Rattle.kdcs_types.specs.Tables.{TableRows, job_of, with_change}
use Rattle.abstract_monitor.specs.declared.answer.Happened.{Happened}
use Rattle.abstract_monitor.specs.declared.answer.Happened.TheVariants.{Went, Queued, Waited, Held, Settles, Breaks, Returns}
use Rattle.abstract_monitor.specs.declared.outcome.Outcome.{Outcome}
use Rattle.abstract_monitor.specs.declared.work.Work.{Work}
use Rattle.abstract_monitor.specs.Endings.{is_asynchronous, opened, job_change, with_service, with_own_fate, row_after, synchronised, broken, durable, refusal}
use Rattle.abstract_monitor.specs.Locks.{locks_of, told_now}
use Rattle.abstract_monitor.specs.Picks.{pick}
use Rattle.abstract_monitor.specs.State.{Application, OpenTransaction, State}
use Rattle.abstract_monitor.specs.Statements.{kept_record}
use Rattle.abstract_monitor.specs.Turns.{unmoved, committed, commit_of, without_transaction, dump_acts, ended_acts, abnormal, after_point, settled_by, settled}
use Rattle.abstract_monitor.specs.Turns.{back, waiting_for, happens, statement_now, stated, served, took, turn_by, turn_of}
use Rattle.laws_of_runs.specs.Access.{HasNoLocks, keyless}
use Rattle.laws_of_runs.proofs.laws_of_access.Keyless.{fate_same, durable_same, commit_same, area_same, statement_same}

module _ (app : Application) (s : State) where
  abbrev bare : Application
  bare = keyless app

  -- ---- ends

  own_fate_same : (t : TableRows) (id : ServiceId) (began : Option Service) → with_own_fate bare.generation t id began ≡ with_own_fate app.generation t id began
  own_fate_same t (Dialogue user) began = refl
  own_fate_same t (Asynchronous number) (Some row) = refl
  own_fate_same t (Asynchronous number) None = ap (λ (o : JobValue → Option JobValue). with_change t (job_change number (option_and_then o (job_of t number)))) (λ i v. fate_same app.generation v i)

  broken_same : (id : ServiceId) (x : OpenTransaction) → broken bare.generation s.tables id x ≡ broken app.generation s.tables id x
  unfolding broken
  broken_same id x = ap (λ (t : TableRows). with_service t id None) (own_fate_same s.tables id x.began)

  abnormal_same : (task : ℕ) (id : ServiceId) (x : OpenTransaction) (ending : Ending) → abnormal bare s task id x ending ≡ abnormal app s task id x ending
  unfolding abnormal
  abnormal_same task id x ending i =
      let new = broken_same id x i in
      committed (record (without_transaction s task id) { tables = new }) (commit_same app s.tables new i) (kept_record id x ending) (dump_acts id x ending ++ ended_acts s id)

  row_same : (id : ServiceId) (x : OpenTransaction) (o : Outcome) → row_after bare.generation id x o ≡ row_after app.generation id x o
  unfolding row_after
  row_same id x o = refl

  synchronised_same : (id : ServiceId) (x : OpenTransaction) (o : Outcome) → synchronised bare.generation s.tables id x o ≡ synchronised app.generation s.tables id x o
  unfolding synchronised row_after
  synchronised_same id x o = refl

  refusal_same : (t : TableRows) → refusal bare.generation t ≡ refusal app.generation t
  unfolding refusal
  refusal_same t = refl

  after_point_same : (u : State) (id : ServiceId) (x : OpenTransaction) (o : Outcome) (row : Option Service) (commit : Act) (kept : Settled) → after_point bare u id x o row commit kept ≡ after_point app u id x o row commit kept
  unfolding opened
  after_point_same u id x o row commit kept = refl

  settled_by_same : (task : ℕ) (id : ServiceId) (x : OpenTransaction) (o : Outcome) (new : TableRows) (why : Option Cause) → settled_by bare s task id x o new why ≡ settled_by app s task id x o new why
  settled_by_same task id x o new (Some cause) = abnormal_same task id x (Broken cause)
  settled_by_same task id x o new None =
      let u = record (without_transaction s task id) { tables = new } in
      after_point_same u id x o (row_after bare.generation id x o) (commit_of bare s.tables new) (kept_record id x Synced)
      ∙ (λ i. after_point app u id x o (row_same id x o i) (commit_same app s.tables new i) (kept_record id x Synced))

  settled_same : (task : ℕ) (id : ServiceId) (x : OpenTransaction) (o : Outcome) → settled bare s task id x o ≡ settled app s task id x o
  unfolding settled
  settled_same task id x o =
      let old = synchronised bare.generation s.tables id x o in
      settled_by_same task id x o old (refusal bare.generation (durable bare.generation old))
      ∙ (λ i. settled_by app s task id x o (synchronised_same id x o i) (why i))
    where
      why : refusal bare.generation (durable bare.generation (synchronised bare.generation s.tables id x o)) ≡ refusal app.generation (durable app.generation (synchronised app.generation s.tables id x o))
      why i = refusal_same (durable_same app.generation (synchronised_same id x o i) i) i

  back_same : (u : State) (id : ServiceId) (x : OpenTransaction) (row : Option Service) → back bare u id x row ≡ back app u id x row
  unfolding opened
  back_same u id x row = refl

  -- ---- a turn

  happens_same : (task : ℕ) (id : ServiceId) (x y : OpenTransaction) (h : Happened) → happens bare s task id x y h ≡ happens app s task id x y h
  unfolding happens
  happens_same task id x y Went = refl
  happens_same task id x y Queued = refl
  happens_same task id x y Waited = ap (λ area. unmoved (waiting_for s id area)) (area_same app x)
  happens_same task id x y (Held tac) = refl
  happens_same task id x y (Settles o) = settled_same task id x o
  happens_same task id x y (Breaks ending) = abnormal_same task id x ending
  happens_same task id x y Returns = back_same (without_transaction s task id) id x x.began

  took_same : (task : ℕ) (work : Option Work) → took bare s task work ≡ took app s task work
  unfolding opened
  took_same task work = refl

  pick_same : pick bare s ≡ pick app s
  unfolding pick
  pick_same = refl

  module _ (none : HasNoLocks app.generation) where
    statement_now_same : (id : ServiceId) (x : OpenTransaction) → statement_now bare s id x ≡ statement_now app s id x
    statement_now_same id x i = statement_same app none (told_now (locks_of s) app.generation.limits.reswait s.tables id (area_same app x i)) (is_asynchronous id) x i

    served_same : (task : ℕ) (id : ServiceId) (o : Option OpenTransaction) → served bare s task id o ≡ served app s task id o
    served_same task id None = refl
    served_same task id (Some x) =
        let r = statement_now bare s id x in
        happens_same task id x r.0 r.1 ∙ ap (stated app s task id x) (statement_now_same id x)

    turn_by_same : (task : ℕ) (place : Option (Option ServiceId)) → turn_by bare s task place ≡ turn_by app s task place
    turn_by_same task None = refl
    turn_by_same task (Some None) = took_same task (pick bare s) ∙ ap (took app s task) pick_same
    turn_by_same task (Some (Some id)) = served_same task id (find id_cmp id s.active)

    pub turn_same : (task : ℕ) → turn_of bare s task ≡ turn_of app s task
    unfolding turn_of
    turn_same task = turn_by_same task (slice_get s.tasks (task - 1))
