-- After each turn all open transactions replay to themselves, and a transaction that it ends does so as its record.
use Rattle.std.specs.Prelude.{◌≡◌, refl, ℕ, ◌-◌, Bool, true, false, IsTrue, [], slice_get, is_some, Option, Some, None}
use Rattle.std.proofs.Common.{sym, ap, ◌∙◌, subst, true≢false}
use Rattle.std.specs.FinMap.{find}
use Rattle.kd_base.specs.ToolsLaws.{some_is}
use Rattle.kdcs_types.specs.declared.act.Act.{Act}
use Rattle.kdcs_types.specs.declared.key.Area.{Area}
use Rattle.kdcs_types.specs.declared.key.ServiceId.{ServiceId}
use Rattle.kdcs_types.specs.declared.key.ServiceId.TheVariants.{Dialogue, Asynchronous}
use Rattle.kdcs_types.specs.declared.key.Target.{Target}
use Rattle.kdcs_types.specs.declared.key.Target.TheVariants.{Tac, Lterm}
use Rattle.kdcs_types.specs.declared.service.Ending.{Ending}
use Rattle.kdcs_types.specs.declared.service.Ending.TheVariants.{Broken}
use Rattle.kdcs_types.specs.declared.service.JobValue.{JobValue}
use Rattle.kdcs_types.specs.declared.service.Service.{Service}
use Rattle.kdcs_types.specs.declared.service.Settled.{Settled}
use Rattle.kdcs_types.specs.Keys.{id_cmp, id_eq}
use Rattle.kdcs_types.specs.KeyLaws.{id_eq_same, id_eq_itself}
use Rattle.kdcs_types.specs.Tables.{TableRows, content_of, job_of}
use Rattle.abstract_monitor.specs.declared.answer.Happened.{Happened}
use Rattle.abstract_monitor.specs.declared.answer.Happened.TheVariants.{Went, Queued, Waited, Held, Settles, Breaks, Returns}
use Rattle.abstract_monitor.specs.declared.outcome.Outcome.{Outcome}
use Rattle.abstract_monitor.specs.declared.outcome.Outcome.TheVariants.{Hold, Stay, Queue, Wait, Point, Follow, Finish, Break, Back}
use Rattle.abstract_monitor.specs.declared.work.Work.{Work}
use Rattle.abstract_monitor.specs.declared.work.Work.TheVariants as work
use Rattle.abstract_monitor.specs.Bytes.{Bytes, bytes_cmp}
use Rattle.abstract_monitor.specs.Calls.{touches}
use Rattle.abstract_monitor.specs.Endings.{opened_by_row, opened_by_job, lterm_of_row, lterm_in_row, opened, row_after, synchronised, broken}
use Rattle.abstract_monitor.specs.Locks.{told_now, locks_of, touched_by}
use Rattle.abstract_monitor.specs.Picks.{pick}
use Rattle.abstract_monitor.specs.State.{Application, OpenTransaction, Session, State}
use Rattle.abstract_monitor.specs.Statements.{Stated, area_of}
use Rattle.abstract_monitor.specs.Turns.{pterm_of_user, noted_last, last_told, message_sent, with_open, without_wait, with_task, queued, without_transaction, abnormal, goes_on, after_point, settled}
use Rattle.abstract_monitor.specs.Turns.{back_by, back, waiting_for, happens, told_here, statement_now, served, took_job_for, took_job, took, turn_by, turn_of}
use Rattle.laws_of_states.specs.EachTurnLaws.{of_point}
use Rattle.laws_of_states.specs.Keeping.{HasFacts}
use Rattle.laws_of_states.specs.Replay.{opened_from}
use Rattle.laws_of_states.specs.TablesStayLaws.{last_again_stays}
use Rattle.laws_of_states.specs.EntriesLaws.{found_put, found_without, other_put, other_without}
use Rattle.laws_of_runs.specs.ReplaysLaws.{alike_itself, same_job}
use Rattle.laws_of_runs.specs.Replays.{kept_and, GoesOnAtOnce, SeesTheSame, ReplaysToItself, AllReplay}
use Rattle.laws_of_runs.proofs.Ends.{replay_lterm}
use Rattle.laws_of_runs.proofs.Frames.{still_replays, synchronised_seen, broken_seen}
use Rattle.laws_of_runs.proofs.Openings.{dialogue_row_replays, asynchronous_row_replays, job_replays}
use Rattle.laws_of_runs.proofs.Steps.{statement_replays}

pub seen_itself : (t : TableRows) (id : ServiceId) (x : OpenTransaction) → SeesTheSame t t id x
seen_itself t id x = record { areas = λ area held. refl; job = same_job t id x.began }

-- the LTERM with which an asynchronous service goes on is that of its row
abbrev pub GoesOnAt : ServiceId → Service → Bytes → Type 0
GoesOnAt (Dialogue user) row lterm = Unit {0}
GoesOnAt (Asynchronous number) row lterm = lterm_of_row row.lterm ≡ lterm

pub row_replays : (app : Application) (t : TableRows) (id : ServiceId) (row : Service) (lterm : Bytes) → row.awaits ≡ false → GoesOnAt id row lterm → ReplaysToItself app t id (opened_by_row app.generation id row lterm)
row_replays app t (Dialogue user) row lterm awaits at = dialogue_row_replays app t user row lterm awaits
row_replays app t (Asynchronous number) row lterm awaits at =
    subst (λ l. ReplaysToItself app t (Asynchronous number) (opened_by_row app.generation (Asynchronous number) row l)) at (asynchronous_row_replays app t number row)

-- ---- a step of one service

module _ (app : Application) (s : State) (all : AllReplay app s) where
  -- the others are open as they were and see the same; what is open of the one replays to itself
  pub after_step : (u : State) (id : ServiceId)
      → ((i : ServiceId) → id_eq i id ≡ false → find id_cmp i u.active ≡ find id_cmp i s.active)
      → ((i : ServiceId) (y : OpenTransaction) → id_eq i id ≡ false → find id_cmp i s.active ≡ Some y → SeesTheSame s.tables u.tables i y)
      → ((y : OpenTransaction) → find id_cmp id u.active ≡ Some y → ReplaysToItself app u.tables id y)
      → AllReplay app u
  after_step u id others sees own i y is = by (id_eq i id) refl
    where
      by : (b : Bool) → id_eq i id ≡ b → ReplaysToItself app u.tables i y
      by true e = subst (λ k. ReplaysToItself app u.tables k y) (sym (id_eq_same i id e)) (own y (ap (λ k. find id_cmp k u.active) (sym (id_eq_same i id e)) ∙ is))
      by false e = let was = sym (others i e) ∙ is in still_replays app s.tables u.tables i y (sees i y e was) (all i y was)

  -- with this transaction of the one, in the same tables
  pub opened_step : (u : State) (id : ServiceId) (y : OpenTransaction) → u.tables ≡ s.tables → find id_cmp id u.active ≡ Some y
      → ((i : ServiceId) → id_eq i id ≡ false → find id_cmp i u.active ≡ find id_cmp i s.active) → ReplaysToItself app s.tables id y → AllReplay app u
  opened_step u id y same here others replays =
      after_step u id others
      (λ i z e was. subst (λ t. SeesTheSame s.tables t i z) (sym same) (seen_itself s.tables i z))
      (λ z is. subst (λ (k : OpenTransaction). ReplaysToItself app u.tables id k) (some_is y z (sym here ∙ is)) (subst (λ t. ReplaysToItself app t id y) (sym same) replays))

-- ---- messages

noted_replays : (app : Application) (u : State) (pterm message : Bytes) (o : Option Session) → AllReplay app u → AllReplay app (noted_last u pterm message o)
noted_replays app u pterm message None h = h
noted_replays app u pterm message (Some v) h = h

pub told_replays : (app : Application) (u : State) (o : Option Bytes) (message : Bytes) → AllReplay app u → AllReplay app (last_told u o message)
told_replays app u None message h = h
told_replays app u (Some pterm) message h = noted_replays app u pterm message (find bytes_cmp pterm u.signed) h

sent_replays : (app : Application) (u : State) (id : ServiceId) (x : OpenTransaction) → AllReplay app u → AllReplay app (message_sent u id x)
sent_replays app u (Dialogue user) x h = told_replays app u (pterm_of_user u.signed user) _ h
sent_replays app u (Asynchronous number) x h = h

-- ---- a statement

module _ (app : Application) (s : State) (facts : HasFacts app s) (all : AllReplay app s) (task : ℕ) (id : ServiceId) (x : OpenTransaction) (is : find id_cmp id s.active ≡ Some x) where
  abbrev left : State
  left = without_transaction s task id

  -- no other holds what it holds
  apart : (i : ServiceId) (y : OpenTransaction) → id_eq i id ≡ false → find id_cmp i s.active ≡ Some y → (area : Area) → IsTrue (touches x area) → IsTrue (touches y area) → ⊥
  apart i y other was area own held =
      let same : i ≡ id = facts.0.exclusive i id area (ap (λ o. touched_by o area) was ∙ held) (ap (λ o. touched_by o area) is ∙ own) in
      true≢false (sym (id_eq_itself id) ∙ ap (λ k. id_eq k id) (sym same) ∙ other)

  -- in these tables, with no open transaction
  closed : (t : TableRows) → ((i : ServiceId) (y : OpenTransaction) → id_eq i id ≡ false → find id_cmp i s.active ≡ Some y → SeesTheSame s.tables t i y) → AllReplay app (record left { tables = t })
  closed t sees =
      after_step app s all (record left { tables = t }) id (λ i e. other_without i id s.active e) sees
      (λ y h. absurd (true≢false (sym (ap is_some (sym (found_without id s.active) ∙ h)))))

  -- in these tables, and ready to go on from its row
  goes : (t : TableRows) (row : Service) → row.awaits ≡ false → GoesOnAt id row x.lterm
      → ((i : ServiceId) (y : OpenTransaction) → id_eq i id ≡ false → find id_cmp i s.active ≡ Some y → SeesTheSame s.tables t i y)
      → AllReplay app (queued (record left { tables = t }) id (opened_by_row app.generation id row x.lterm))
  goes t row awaits at sees =
      let y = opened_by_row app.generation id row x.lterm in
      after_step app s all (queued (record left { tables = t }) id y) id (λ i e. other_put i id y left.active e ∙ other_without i id s.active e) sees
      (λ z h. subst (λ (k : OpenTransaction). ReplaysToItself app t id k) (some_is y z (sym (found_put id y left.active) ∙ h)) (row_replays app t id row x.lterm awaits at))

  sees_broken : (i : ServiceId) (y : OpenTransaction) → id_eq i id ≡ false → find id_cmp i s.active ≡ Some y → SeesTheSame s.tables (broken app.generation s.tables id x) i y
  sees_broken i y e was = broken_seen app.generation s.tables id x i y e (facts.0.rooted i y was).job

  sees_point : (o : Outcome) (i : ServiceId) (y : OpenTransaction) → id_eq i id ≡ false → find id_cmp i s.active ≡ Some y → SeesTheSame s.tables (synchronised app.generation s.tables id x o) i y
  sees_point o i y e was = synchronised_seen app.generation s.tables id x o i y e (apart i y e was) (facts.1.transactions id x is).written_held (facts.0.rooted i y was).job

  breaks : (ending : Ending) → AllReplay app (abnormal app s task id x ending).after
  unfolding abnormal
  breaks ending = closed (broken app.generation s.tables id x) sees_broken

  point_lterm : (i : ServiceId) (row : Service) → i ≡ id → row.lterm ≡ lterm_in_row i x.lterm → GoesOnAt i row x.lterm
  point_lterm (Dialogue user) row same e = tt
  point_lterm (Asynchronous number) row same e = ap lterm_of_row e

  points : (o : Outcome) (commit : Act) (kept : Settled)
      → AllReplay app (after_point app (record left { tables = synchronised app.generation s.tables id x o }) id x o (row_after app.generation id x o) commit kept).after
  unfolding row_after
  points (Wait tac) commit kept = sent_replays app _ id x (closed (synchronised app.generation s.tables id x (Wait tac)) (sees_point (Wait tac)))
  points Finish commit kept = sent_replays app _ id x (closed (synchronised app.generation s.tables id x Finish) (sees_point Finish))
  points (Point tac) commit kept = goes (synchronised app.generation s.tables id x (Point tac)) _ refl (point_lterm id _ refl refl) (sees_point (Point tac))
  points (Follow tac) commit kept = goes (synchronised app.generation s.tables id x (Follow tac)) _ refl (point_lterm id _ refl refl) (sees_point (Follow tac))
  points (Hold tac) commit kept = closed (synchronised app.generation s.tables id x (Hold tac)) (sees_point (Hold tac))
  points (Stay tac) commit kept = closed (synchronised app.generation s.tables id x (Stay tac)) (sees_point (Stay tac))
  points (Queue tac) commit kept = closed (synchronised app.generation s.tables id x (Queue tac)) (sees_point (Queue tac))
  points Break commit kept = closed (synchronised app.generation s.tables id x Break) (sees_point Break)
  points Back commit kept = closed (synchronised app.generation s.tables id x Back) (sees_point Back)

  settles : (o : Outcome) → AllReplay app (settled app s task id x o).after
  settles o = of_point app s task id x o (λ t. AllReplay app t.after) (λ cause. breaks (Broken cause)) (points o _ _)

  sees_all : (i : ServiceId) (y : OpenTransaction) → id_eq i id ≡ false → find id_cmp i s.active ≡ Some y → SeesTheSame s.tables s.tables i y
  sees_all i y e was = seen_itself s.tables i y

  -- the LTERM of an asynchronous transaction that began with a row is that of the row
  began_lterm : (i : ServiceId) (row : Service) → ReplaysToItself app s.tables i x → x.began ≡ Some row → GoesOnAt i row x.lterm
  unfolding opened
  began_lterm (Dialogue user) row h e = tt
  began_lterm (Asynchronous number) row h e =
      ap (λ (o : Option Service). lterm_of_row (lterm_of o)) (sym e)
      ∙ from x.began e
      ∙ sym (replay_lterm app s.tables (kept_and (Asynchronous number) x [] [] x.statements) x.statements)
      ∙ ap (λ (y : OpenTransaction). y.lterm) (h s.tables [] [] (alike_itself s.tables (Asynchronous number) x))
    where
      lterm_of : Option Service → Option Bytes
      lterm_of None = None
      lterm_of (Some r) = r.lterm

      from : (o : Option Service) → o ≡ Some row → lterm_of_row (lterm_of o) ≡ (opened_from app s.tables (kept_and (Asynchronous number) x [] [] x.statements) (Asynchronous number) o).lterm
      from None q = absurd (true≢false (sym (ap is_some q)))
      from (Some r) q = refl

  returns_to : (began : Option Service) → x.began ≡ began → AllReplay app (back app left id x began).after
  returns_to None e = closed s.tables sees_all
  returns_to (Some row) e = by row.awaits refl
    where
      by : (b : Bool) → row.awaits ≡ b → AllReplay app (back_by app left id x row b).after
      by true a =
          let kept = closed s.tables sees_all in
          last_again_stays (AllReplay app) left (λ pterm message. told_replays app left pterm message kept) kept id row.last
      by false a = goes s.tables row a (began_lterm id row (all id x is) e) sees_all

  -- what it is told of its area is the content in the tables
  tells_content : (of : Option Area) (area : Area) → of ≡ Some area → (told_now (locks_of s) app.generation.limits.reswait s.tables id of).content ≡ content_of s.tables area
  unfolding told_now
  tells_content None area e = absurd (true≢false (sym (ap is_some e)))
  tells_content (Some a) area e = ap (content_of s.tables) (some_is a area e)

  does : (r : Stated) → statement_now app s id x ≡ r → AllReplay app (happens app s task id x r.0 r.1).after
  unfolding happens
  does r now = by r.1 refl
    where
      replays : GoesOnAtOnce r.1 → ReplaysToItself app s.tables id r.0
      replays goes_on = statement_replays app s.tables id x (all id x is) (told_here app s id x) (tells_content (area_of app x)) r now goes_on

      by : (h : Happened) → r.1 ≡ h → AllReplay app (happens app s task id x r.0 h).after
      by Went e = opened_step app s all (with_open (without_wait s id) id r.0) id r.0 refl (found_put id r.0 s.active) (λ i k. other_put i id r.0 s.active k) (replays (subst GoesOnAtOnce (sym e) tt))
      by Queued e =
          opened_step app s all (queued (with_task (without_wait s id) task None) id r.0) id r.0 refl (found_put id r.0 s.active) (λ i k. other_put i id r.0 s.active k) (replays (subst GoesOnAtOnce (sym e) tt))
      by Waited e = waits (area_of app x)
        where
          waits : (of : Option Area) → AllReplay app (waiting_for s id of)
          waits None = all
          waits (Some area) = all
      by (Held tac) e = sent_replays app (with_task (without_wait s id) task None) id x all
      by (Settles o) e = settles o
      by (Breaks ending) e = breaks ending
      by Returns e = returns_to x.began refl

-- ---- a turn

job_taken : (app : Application) (s : State) (all : AllReplay app s) (task number : ℕ) (o : Option JobValue) → job_of s.tables number ≡ o → AllReplay app (took_job app s task number o).after
job_taken app s all task number None e = all
job_taken app s all task number (Some job) e = for job.to
  where
    for : (to : Target) → AllReplay app (took_job_for app s task number job to).after
    for (Tac tac) =
        let id = Asynchronous number in
        let y = opened_by_job app.generation job tac in
        opened_step app s all (with_open (with_task s task (Some id)) id y) id y refl (found_put id y s.active) (λ i k. other_put i id y s.active k) (job_replays app s.tables number job tac e)
    for (Lterm lterm) = all

took_replays : (app : Application) (s : State) (all : AllReplay app s) (task : ℕ) (o : Option Work) → AllReplay app (took app s task o).after
took_replays app s all task None = all
took_replays app s all task (Some (work.Service id)) = all
took_replays app s all task (Some (work.Job number)) = job_taken app s all task number (job_of s.tables number) refl

served_replays : (app : Application) (s : State) → HasFacts app s → AllReplay app s → (task : ℕ) (id : ServiceId) (o : Option OpenTransaction) → find id_cmp id s.active ≡ o → AllReplay app (served app s task id o).after
served_replays app s facts all task id None e = all
served_replays app s facts all task id (Some x) e = does app s facts all task id x e (statement_now app s id x) refl

pub turns_replay : (app : Application) (s : State) (task : ℕ) → HasFacts app s → AllReplay app s → AllReplay app (turn_of app s task).after
unfolding turn_of
turns_replay app s task facts all = by (slice_get s.tasks (task - 1))
  where
    by : (o : Option (Option ServiceId)) → AllReplay app (turn_by app s task o).after
    by None = all
    by (Some None) = took_replays app s all task (pick app s)
    by (Some (Some id)) = served_replays app s facts all task id (find id_cmp id s.active) refl
