-- A turn that ends a transaction: what holds of its end holds of the tables and the record of the turn.
use Rattle.std.specs.Prelude.{◌≡◌, refl, ℕ, ◌-◌, Bool, true, false, slice_get, Option, Some, None}
use Rattle.std.proofs.Common.{sym, subst}
use Rattle.std.specs.FinMap.{find}
use Rattle.kdcs_types.specs.declared.act.Act.{Act}
use Rattle.kdcs_types.specs.declared.call.Cause.{Cause}
use Rattle.kdcs_types.specs.declared.key.ServiceId.{ServiceId}
use Rattle.kdcs_types.specs.declared.key.ServiceId.TheVariants.{Dialogue, Asynchronous}
use Rattle.kdcs_types.specs.declared.key.Target.{Target}
use Rattle.kdcs_types.specs.declared.key.Target.TheVariants.{Tac, Lterm}
use Rattle.kdcs_types.specs.declared.service.Ending.{Ending}
use Rattle.kdcs_types.specs.declared.service.Ending.TheVariants.{Synced}
use Rattle.kdcs_types.specs.declared.service.JobValue.{JobValue}
use Rattle.kdcs_types.specs.declared.service.Service.{Service}
use Rattle.kdcs_types.specs.declared.service.Settled.{Settled}
use Rattle.kdcs_types.specs.Keys.{id_cmp}
use Rattle.kdcs_types.specs.Tables.{TableRows, job_of}
use Rattle.abstract_monitor.specs.declared.answer.Happened.{Happened}
use Rattle.abstract_monitor.specs.declared.answer.Happened.TheVariants.{Settles, Breaks, Returns}
use Rattle.abstract_monitor.specs.declared.outcome.Outcome.{Outcome}
use Rattle.abstract_monitor.specs.declared.outcome.Outcome.TheVariants.{Hold, Stay, Queue, Wait, Point, Follow, Finish, Break, Back}
use Rattle.abstract_monitor.specs.declared.work.Work.{Work}
use Rattle.abstract_monitor.specs.declared.work.Work.TheVariants as work
use Rattle.abstract_monitor.specs.Bytes.{Bytes}
use Rattle.abstract_monitor.specs.Endings.{synchronised, broken, durable, refusal}
use Rattle.abstract_monitor.specs.Picks.{pick}
use Rattle.abstract_monitor.specs.State.{Application, OpenTransaction, State}
use Rattle.abstract_monitor.specs.Statements.{kept_record}
use Rattle.abstract_monitor.specs.Turns.{without_transaction, abnormal, after_point, settled_by, settled, last_again, back_by, back, happens, told_here, statement_now, served, took_job_for, took_job}
use Rattle.abstract_monitor.specs.Turns.{took, turn_by, turn_of}
use Rattle.laws_of_states.specs.Facts.{IsConsistent}
use Rattle.laws_of_states.specs.Replay.{settled_as, IsAtomic, IsReplayable, SettlesAs}
use Rattle.laws_of_runs.proofs.Ends.{breaks_atomic, settles_atomic}
use Rattle.laws_of_states.specs.TablesStayLaws.{sent_tables}

-- it holds of the tables and the record of a turn that ends a transaction
abbrev pub IfSettled : (TableRows → Settled → Type 0) → TableRows → Option Settled → Type 0
IfSettled P t None = Unit {0}
IfSettled P t (Some kept) = P t kept

module _ (app : Application) (s : State) (task : ℕ) (id : ServiceId) (x : OpenTransaction) where
  abbrev left : State
  left = without_transaction s task id

  module _ (P : TableRows → Settled → Type 0) where
    point_settles : (u : State) (o : Outcome) (row : Option Service) (commit : Act) (kept : Settled) → P u.tables kept
        → (let turned = after_point app u id x o row commit kept in IfSettled P turned.after.tables turned.settled)
    point_settles u (Wait tac) row commit kept h = subst (λ t. P t kept) (sym (sent_tables u id x)) h
    point_settles u Finish row commit kept h = subst (λ t. P t kept) (sym (sent_tables u id x)) h
    point_settles u (Point tac) None commit kept h = h
    point_settles u (Point tac) (Some row) commit kept h = h
    point_settles u (Follow tac) None commit kept h = h
    point_settles u (Follow tac) (Some row) commit kept h = h
    point_settles u (Hold tac) row commit kept h = h
    point_settles u (Stay tac) row commit kept h = h
    point_settles u (Queue tac) row commit kept h = h
    point_settles u Break row commit kept h = h
    point_settles u Back row commit kept h = h

    module _ (breaks_so : (ending : Ending) → (statement_now app s id x).1 ≡ Breaks ending → P (broken app.generation s.tables id x) (kept_record id x ending))
        (settles_so : (o : Outcome) (cause : Option Cause) → (statement_now app s id x).1 ≡ Settles o → refusal app.generation (durable app.generation (synchronised app.generation s.tables id x o)) ≡ cause
        → (let e = settled_as app s.tables id x (synchronised app.generation s.tables id x o) cause in P e.tables (kept_record id x e.ending))) where
      settled_so : (o : Outcome) → (statement_now app s id x).1 ≡ Settles o → (let turned = settled app s task id x o in IfSettled P turned.after.tables turned.settled)
      unfolding settled abnormal
      settled_so o e = by (refusal app.generation (durable app.generation (synchronised app.generation s.tables id x o))) refl
        where
          by : (cause : Option Cause) → refusal app.generation (durable app.generation (synchronised app.generation s.tables id x o)) ≡ cause
              → (let turned = settled_by app s task id x o (synchronised app.generation s.tables id x o) cause in IfSettled P turned.after.tables turned.settled)
          by (Some cause) q = settles_so o (Some cause) e q
          by None q = point_settles (record left { tables = synchronised app.generation s.tables id x o }) o _ _ (kept_record id x Synced) (settles_so o None e q)

      back_so : (began : Option Service) → (let turned = back app left id x began in IfSettled P turned.after.tables turned.settled)
      back_so None = tt
      back_so (Some row) = by row.awaits
        where
          again : (i : ServiceId) (last : Option Bytes) → (let turned = last_again left i last in IfSettled P turned.after.tables turned.settled)
          again i None = tt
          again (Dialogue user) (Some message) = tt
          again (Asynchronous number) (Some message) = tt

          by : (b : Bool) → (let turned = back_by app left id x row b in IfSettled P turned.after.tables turned.settled)
          by true = again id row.last
          by false = tt

      pub ends_so : (y : OpenTransaction) (h : Happened) → (statement_now app s id x).1 ≡ h → (let turned = happens app s task id x y h in IfSettled P turned.after.tables turned.settled)
      unfolding happens abnormal
      ends_so y (Settles o) e = settled_so o e
      ends_so y (Breaks ending) e = breaks_so ending e
      ends_so y Returns e = back_so x.began
      ends_so y _ e = tt

-- of each turn
pub turn_ends_so : (app : Application) (s : State) (task : ℕ) (P : TableRows → Settled → Type 0)
    → ((id : ServiceId) (x : OpenTransaction) (ending : Ending) → find id_cmp id s.active ≡ Some x → (statement_now app s id x).1 ≡ Breaks ending → P (broken app.generation s.tables id x) (kept_record id x ending))
    → ((id : ServiceId) (x : OpenTransaction) (o : Outcome) (cause : Option Cause) → find id_cmp id s.active ≡ Some x → (statement_now app s id x).1 ≡ Settles o
    → refusal app.generation (durable app.generation (synchronised app.generation s.tables id x o)) ≡ cause
    → (let e = settled_as app s.tables id x (synchronised app.generation s.tables id x o) cause in P e.tables (kept_record id x e.ending)))
    → IfSettled P (turn_of app s task).after.tables (turn_of app s task).settled
unfolding turn_of
turn_ends_so app s task P breaks_so settles_so = by (slice_get s.tasks (task - 1))
  where
    serves : (id : ServiceId) (o : Option OpenTransaction) → find id_cmp id s.active ≡ o → (let turned = served app s task id o in IfSettled P turned.after.tables turned.settled)
    serves id None e = tt
    serves id (Some x) e =
        ends_so app s task id x P (λ ending now. breaks_so id x ending e now) (λ o cause now refused. settles_so id x o cause e now refused)
        (statement_now app s id x).0 (statement_now app s id x).1 refl

    takes_job : (number : ℕ) (o : Option JobValue) → (let turned = took_job app s task number o in IfSettled P turned.after.tables turned.settled)
    takes_job number None = tt
    takes_job number (Some job) = for job.to
      where
        for : (to : Target) → (let turned = took_job_for app s task number job to in IfSettled P turned.after.tables turned.settled)
        for (Tac tac) = tt
        for (Lterm lterm) = tt

    takes : (o : Option Work) → (let turned = took app s task o in IfSettled P turned.after.tables turned.settled)
    takes None = tt
    takes (Some (work.Service id)) = tt
    takes (Some (work.Job number)) = takes_job number (job_of s.tables number)

    by : (o : Option (Option ServiceId)) → (let turned = turn_by app s task o in IfSettled P turned.after.tables turned.settled)
    by None = tt
    by (Some None) = takes (pick app s)
    by (Some (Some id)) = serves id (find id_cmp id s.active) refl

-- the transactions of a state whose open ones are the replays of their records
pub turns_are_serial : (app : Application) (s : State) (task : ℕ) → IsConsistent app s → IsReplayable app s → SettlesAs app s.tables (turn_of app s task).after.tables (turn_of app s task).settled
turns_are_serial app s task c replayable =
    as_law (turn_of app s task).after.tables (turn_of app s task).settled
    (turn_ends_so app s task (λ t kept. IsAtomic app s.tables t kept)
    (λ id x ending is now. breaks_atomic app s.tables id x (replayable id x is) (c.rooted id x is) (told_here app s id x) ending now)
    (λ id x o cause is now refused. settles_atomic app s.tables id x (replayable id x is) (c.rooted id x is) (told_here app s id x) o cause now refused))
  where
    as_law : (t : TableRows) (o : Option Settled) → IfSettled (λ u kept. IsAtomic app s.tables u kept) t o → SettlesAs app s.tables t o
    as_law t None h = tt
    as_law t (Some kept) h = h
