-- Each step keeps names, and what made its commit can be written.
use Rattle.std.specs.Prelude.{◌≡◌, refl, ℕ, ◌-◌, Bool, true, false, cond, not, IsTrue, List, [], ◌∷◌, map, slice_get, nat_le, length, IfSome, Option, Some, None}
use Rattle.std.proofs.Common.{sym, ap, subst, ◌∙◌, arith}
use Rattle.std.proofs.lemmas.Bool.{leb-true, le-leb}
use Rattle.std.specs.List.{list_all}
use Rattle.std.specs.declared.cmp.Ordering.TheVariants.{Equal}
use Rattle.std.specs.FinMap.{find, put}
use Rattle.std.specs.FinMap.Entries.{where_key, find-put, find-where_key}
use Rattle.kd_base.specs.ToolsLaws.{both_true, true_both, some_is}
use Rattle.application_types.specs.Soundness.{AreLimits, AreNamed}
use Rattle.application_types.specs.Generation.{Generated}
use Rattle.kdcs_types.specs.declared.act.Act.{Act}
use Rattle.kdcs_types.specs.declared.key.Area.{Area}
use Rattle.kdcs_types.specs.declared.key.ServiceId.{ServiceId}
use Rattle.kdcs_types.specs.declared.key.ServiceId.TheVariants.{Dialogue, Asynchronous}
use Rattle.kdcs_types.specs.declared.key.Target.{Target}
use Rattle.kdcs_types.specs.declared.key.Target.TheVariants.{Tac, Lterm}
use Rattle.kdcs_types.specs.declared.service.Ending.{Ending}
use Rattle.kdcs_types.specs.declared.service.Ending.TheVariants.{Broken}
use Rattle.kdcs_types.specs.declared.service.Job.{Job}
use Rattle.kdcs_types.specs.declared.service.JobValue.{JobValue}
use Rattle.kdcs_types.specs.declared.service.Service.{Service}
use Rattle.kdcs_types.specs.declared.service.Settled.{Settled}
use Rattle.kdcs_types.specs.Keys.{id_cmp, id_eq}
use Rattle.kdcs_types.specs.KeyLaws.{id_total, same_id}
use Rattle.kdcs_types.specs.Tables.{TableRows, service_of, job_of, shown_of}
use Rattle.abstract_monitor.specs.declared.answer.Happened.{Happened}
use Rattle.abstract_monitor.specs.declared.answer.Happened.TheVariants.{Went, Queued, Waited, Held, Settles, Breaks, Returns}
use Rattle.abstract_monitor.specs.declared.command.Command.{Command}
use Rattle.abstract_monitor.specs.declared.command.Command.TheVariants.{Input, Tick, Run, Turn, Drop, Print, PrintLast, Restart}
use Rattle.abstract_monitor.specs.declared.input_use.Use.{Use}
use Rattle.abstract_monitor.specs.declared.input_use.Use.TheVariants.{Sign, SignRefused, SignFirst, AlreadySigned, Off, Display, Output, Again, Busy, TooLong, Next, Start, TacRefused}
use Rattle.abstract_monitor.specs.declared.outcome.Outcome.{Outcome}
use Rattle.abstract_monitor.specs.declared.outcome.Outcome.TheVariants.{Hold, Stay, Queue, Wait, Point, Follow, Finish, Break, Back}
use Rattle.abstract_monitor.specs.declared.work.Work.{Work}
use Rattle.abstract_monitor.specs.declared.work.Work.TheVariants as work
use Rattle.abstract_monitor.specs.Access.{denial_of}
use Rattle.abstract_monitor.specs.Bytes.{Bytes, bytes_cmp}
use Rattle.abstract_monitor.specs.Commands.{asynchronous_rows, opened_row, started, lterm_at, user_at, with_session, resumed_by, signed_on_by, signed_off, due_for, show_by, show_next, last_by}
use Rattle.abstract_monitor.specs.Commands.{held_tac, next_by, next_input, used, use_now, tick_by, drop_by, command_of}
use Rattle.abstract_monitor.specs.Endings.{is_asynchronous, lterm_of_row, opened, opened_by_start, opened_by_input, opened_by_row, opened_by_job, followed_by_input, row_after, synchronised, broken}
use Rattle.abstract_monitor.specs.Endings.{durable, restarts}
use Rattle.abstract_monitor.specs.Locks.{Active, locks_of}
use Rattle.abstract_monitor.specs.Picks.{pick}
use Rattle.abstract_monitor.specs.Sessions.{service_state, use_under, use_of}
use Rattle.abstract_monitor.specs.State.{Application, OpenTransaction, Session, State}
use Rattle.abstract_monitor.specs.Statements.{area_of}
use Rattle.abstract_monitor.specs.Turns.{pterm_of_user, noted_last, last_told, message_sent, without_wait, with_task, queued, without_transaction, abnormal, goes_on, after_point, settled, back_by}
use Rattle.abstract_monitor.specs.Turns.{back, waiting_for, happens, told_here, statement_now, served, took_job_for, took_job, took, turn_by, turn_of}
use Rattle.laws_of_states.specs.EachTurnLaws.{of_point}
use Rattle.laws_of_states.specs.Facts.{IsSessionOf}
use Rattle.laws_of_states.specs.Keeping.{HasFacts}
use Rattle.laws_of_states.specs.Suits.{is_user, fits_content}
use Rattle.laws_of_states.specs.TablesStayLaws.{last_again_stays, again_stays, display_stays}
use Rattle.laws_of_states.specs.EndsLaws.{due_job_found}
use Rattle.laws_of_states.specs.ListsLaws.{all_append, all_filter}
use Rattle.laws_of_states.specs.StatesLaws.{parts_of, told_fits}
use Rattle.laws_of_states.specs.UsesLaws.{UseFits, use_fits}
use Rattle.trail_run.proofs.laws_of_trails.WrittenCalls.{statement_keeps}
use Rattle.trail_run.proofs.laws_of_trails.WrittenRows.{name_passes, user_named, lterm_named}
use Rattle.trail_run.proofs.laws_of_trails.WrittenTables.{RowKeeps, row_after_keeps, row_keeps, point_keeps, end_keeps, rolled_keeps, durable_keeps, shown_keeps}
use Rattle.trail_run.specs.WrittenNames.{has_named_lssbs, KeepsNames, RowsKeepNames, AllKeepNames, StateKeepsNames}

-- ---- open transactions

put_keeps : (active : Active) (id : ServiceId) (y : OpenTransaction) → AllKeepNames active → KeepsNames y → AllKeepNames (put id_cmp id y active)
put_keeps active id y all k q x e = by (id_eq q id) (sym (find-put id_cmp id_total q id y active) ∙ e)
  where
    by : (b : Bool) → cond b (Some y) (find id_cmp q active) ≡ Some x → KeepsNames x
    by true is = subst (λ (z : OpenTransaction). KeepsNames z) (some_is y x is) k
    by false is = all q x is

left_keeps : (active : Active) (id : ServiceId) → AllKeepNames active → AllKeepNames (where_key id_cmp (λ i. not (id_eq id i)) active)
left_keeps active id all q x e = by (not (id_eq id q)) (sym (find-where_key id_cmp (λ k. not (id_eq id k)) q alike active) ∙ e)
  where
    alike : (k : ServiceId) → id_cmp q k ≡ Equal → not (id_eq id k) ≡ not (id_eq id q)
    alike k same = ap (λ (i : ServiceId). not (id_eq id i)) (sym (same_id q k same))

    by : (b : Bool) → cond b (find id_cmp q active) None ≡ Some x → KeepsNames x
    by true is = all q x is
    by false is = absurd cc

-- ---- openings

opened_row_keeps : (g : Generated) (id : ServiceId) (row : Service) (lterm : Bytes) → IsTrue (has_named_lssbs row) → KeepsNames (opened_by_row g id row lterm)
unfolding opened
opened_row_keeps g id row lterm h = (refl, h, refl, refl)

opened_input_keeps : (g : Generated) (id : ServiceId) (row : Service) (lterm input : Bytes) → IsTrue (has_named_lssbs row) → IsTrue (fits_content input) → KeepsNames (opened_by_input g id row lterm input)
unfolding opened
opened_input_keeps g id row lterm input h fits = (refl, h, true_both (fits_content input) true fits refl, refl)

opened_start_keeps : (g : Generated) (user lterm tac input : Bytes) → IsTrue (fits_content input) → KeepsNames (opened_by_start g user lterm tac input)
unfolding opened
opened_start_keeps g user lterm tac input fits = (refl, refl, true_both (fits_content input) true fits refl, refl)

opened_job_keeps : (g : Generated) (job : JobValue) (tac : Bytes) → KeepsNames (opened_by_job g job tac)
unfolding opened
opened_job_keeps g job tac = (refl, refl, refl, refl)

further_keeps : (g : Generated) (x : OpenTransaction) (tac input : Bytes) → IsTrue (fits_content input) → KeepsNames x → KeepsNames (followed_by_input g x tac input)
unfolding followed_by_input
further_keeps g x tac input fits k = (k.0, k.1, all_append fits_content x.inputs (input ∷ []) k.2 (true_both (fits_content input) true fits refl), k.3)

-- ---- starts

rows_keep : (app : Application) (rows : List Service) → IsTrue (list_all has_named_lssbs rows) → AllKeepNames (map (opened_row app) rows)
rows_keep app [] h id x e = absurd cc
rows_keep app (row ∷ rows) h id x e = let parts = both_true (has_named_lssbs row) (list_all has_named_lssbs rows) h in by (id_eq id row.id) parts.0 (rows_keep app rows parts.1 id x) e
  where
    opens : OpenTransaction
    opens = opened_by_row app.generation row.id row (lterm_of_row row.lterm)

    by : (b : Bool) → IsTrue (has_named_lssbs row) → (find id_cmp id (map (opened_row app) rows) ≡ Some x → KeepsNames x) → cond b (Some opens) (find id_cmp id (map (opened_row app) rows)) ≡ Some x → KeepsNames x
    by true named rest is = subst (λ (y : OpenTransaction). KeepsNames y) (some_is opens x is) (opened_row_keeps app.generation row.id row (lterm_of_row row.lterm) named)
    by false named rest is = rest is

pub start_keeps : (app : Application) (t : TableRows) → RowsKeepNames t → StateKeepsNames (started app t)
unfolding started
start_keeps app t h = (h, rows_keep app (asynchronous_rows t) (all_filter has_named_lssbs (λ (s : Service). is_asynchronous s.id) t.services h.3))

-- ---- messages

noted_keeps : (u : State) (pterm message : Bytes) (o : Option Session) → StateKeepsNames u → StateKeepsNames (noted_last u pterm message o)
noted_keeps u pterm message None h = h
noted_keeps u pterm message (Some v) h = h

told_keeps : (u : State) (o : Option Bytes) (message : Bytes) → StateKeepsNames u → StateKeepsNames (last_told u o message)
told_keeps u None message h = h
told_keeps u (Some pterm) message h = noted_keeps u pterm message (find bytes_cmp pterm u.signed) h

sent_keeps : (u : State) (id : ServiceId) (x : OpenTransaction) → StateKeepsNames u → StateKeepsNames (message_sent u id x)
sent_keeps u (Dialogue user) x h = told_keeps u (pterm_of_user u.signed user) _ h
sent_keeps u (Asynchronous number) x h = h

-- ---- one service

module _ (app : Application) (s : State) (h : StateKeepsNames s) (task : ℕ) (id : ServiceId) (x : OpenTransaction) (k : KeepsNames x) where
  abbrev left : State
  left = without_transaction s task id

  ended_keeps : (t : TableRows) → RowsKeepNames t → StateKeepsNames (record left { tables = t })
  ended_keeps t rows = (rows, left_keeps s.active id h.1)

  queued_keeps : (u : State) (y : OpenTransaction) → StateKeepsNames u → KeepsNames y → StateKeepsNames (queued u id y)
  queued_keeps u y w own = (w.0, put_keeps u.active id y w.1 own)

  abnormal_keeps : (ending : Ending) → StateKeepsNames (abnormal app s task id x ending).after
  unfolding abnormal
  abnormal_keeps ending = ended_keeps (broken app.generation s.tables id x) (end_keeps app.generation s.tables id x h.0)

  goes_keeps : (u : State) (row : Option Service) → RowKeeps row → StateKeepsNames u → StateKeepsNames (goes_on app u id x row)
  goes_keeps u None is w = w
  goes_keeps u (Some row) is w = queued_keeps u (opened_by_row app.generation id row x.lterm) w (opened_row_keeps app.generation id row x.lterm is)

  after_keeps : (o : Outcome) (u : State) (row : Option Service) (commit : Act) (kept : Settled) → RowKeeps row → StateKeepsNames u → StateKeepsNames (after_point app u id x o row commit kept).after
  after_keeps (Wait tac) u row commit kept is w = sent_keeps u id x w
  after_keeps Finish u row commit kept is w = sent_keeps u id x w
  after_keeps (Point tac) u row commit kept is w = goes_keeps u row is w
  after_keeps (Follow tac) u row commit kept is w = goes_keeps u row is w
  after_keeps (Hold tac) u row commit kept is w = w
  after_keeps (Stay tac) u row commit kept is w = w
  after_keeps (Queue tac) u row commit kept is w = w
  after_keeps Break u row commit kept is w = w
  after_keeps Back u row commit kept is w = w

  settled_keeps : (o : Outcome) → StateKeepsNames (settled app s task id x o).after
  settled_keeps o =
      of_point app s task id x o (λ t. StateKeepsNames t.after) (λ cause. abnormal_keeps (Broken cause))
      (after_keeps o (record left { tables = synchronised app.generation s.tables id x o }) (row_after app.generation id x o) _ _ (row_after_keeps app.generation id x o k)
      (ended_keeps (synchronised app.generation s.tables id x o) (point_keeps app.generation s.tables id x o k h.0)))

  back_keeps : (began : Option Service) → service_of s.tables id ≡ began → StateKeepsNames (back app left id x began).after
  back_keeps None e = ended_keeps s.tables h.0
  back_keeps (Some row) e = by row.awaits
    where
      by : (b : Bool) → StateKeepsNames (back_by app left id x row b).after
      by true = let kept = ended_keeps s.tables h.0 in last_again_stays StateKeepsNames left (λ pterm message. told_keeps left pterm message kept) kept id row.last
      by false = queued_keeps left (opened_by_row app.generation id row x.lterm) (ended_keeps s.tables h.0) (opened_row_keeps app.generation id row x.lterm (row_keeps s.tables id row h.0 e))

  waiting_keeps : (o : Option Area) → StateKeepsNames (waiting_for s id o)
  waiting_keeps None = h
  waiting_keeps (Some area) = h

  happens_keep : (y : OpenTransaction) (happened : Happened) → KeepsNames y → service_of s.tables id ≡ x.began → StateKeepsNames (happens app s task id x y happened).after
  unfolding happens
  happens_keep y Went after e = (h.0, put_keeps s.active id y h.1 after)
  happens_keep y Queued after e = (h.0, put_keeps s.active id y h.1 after)
  happens_keep y Waited after e = waiting_keeps (area_of app x)
  happens_keep y (Held tac) after e = sent_keeps (with_task (without_wait s id) task None) id x h
  happens_keep y (Settles o) after e = settled_keeps o
  happens_keep y (Breaks ending) after e = abnormal_keeps ending
  happens_keep y Returns after e = back_keeps x.began e

-- ---- a turn

module _ (app : Application) (limits : AreLimits app.generation.limits) (names : AreNamed app.generation) (s : State) (facts : HasFacts app s) (h : StateKeepsNames s) where
  served_keeps : (task : ℕ) (id : ServiceId) (o : Option OpenTransaction) → find id_cmp id s.active ≡ o → StateKeepsNames (served app s task id o).after
  served_keeps task id None e = h
  served_keeps task id (Some x) e =
      let can = facts.1.transactions id x e in
      let told = told_fits app.generation s.tables (locks_of s) app.generation.limits.reswait id (area_of app x) (parts_of app s facts.1).tables in
      let k = h.1 id x e in
      let r = statement_now app s id x in
      let user = name_passes x.user (user_named app.generation limits names x.user can.user) in
      let lterm = name_passes x.lterm (lterm_named app.generation limits names x.lterm can.lterm) in
      happens_keep app s h task id x k r.0 r.1 (statement_keeps app (told_here app s id x) (is_asynchronous id) x told user lterm k) (facts.0.rooted id x e).began

  job_for_keeps : (task number : ℕ) (job : JobValue) (to : Target) → StateKeepsNames (took_job_for app s task number job to).after
  job_for_keeps task number job (Tac tac) = (h.0, put_keeps s.active (Asynchronous number) (opened_by_job app.generation job tac) h.1 (opened_job_keeps app.generation job tac))
  job_for_keeps task number job (Lterm lterm) = h

  job_keeps : (task number : ℕ) (o : Option JobValue) → StateKeepsNames (took_job app s task number o).after
  job_keeps task number None = h
  job_keeps task number (Some job) = job_for_keeps task number job job.to

  took_keeps : (task : ℕ) (w : Option Work) → StateKeepsNames (took app s task w).after
  took_keeps task None = h
  took_keeps task (Some (work.Service id)) = h
  took_keeps task (Some (work.Job number)) = job_keeps task number (job_of s.tables number)

  pub turn_keeps : (task : ℕ) → StateKeepsNames (turn_of app s task).after
  unfolding turn_of
  turn_keeps task = by (slice_get s.tasks (task - 1))
    where
      by : (o : Option (Option ServiceId)) → StateKeepsNames (turn_by app s task o).after
      by None = h
      by (Some None) = took_keeps task (pick app s)
      by (Some (Some id)) = served_keeps task id (find id_cmp id s.active) refl

  -- ---- commands

  signs_on : (pterm user lterm : Bytes) (o : Option Service) → service_of s.tables (Dialogue user) ≡ o → StateKeepsNames (signed_on_by app s pterm user lterm o).after
  signs_on pterm user lterm None e = h
  signs_on pterm user lterm (Some row) e = by row.awaits
    where
      by : (b : Bool) → StateKeepsNames (resumed_by app (with_session s pterm user row.last) user lterm row b)
      by true = h
      by false =
          let y = opened_by_row app.generation (Dialogue user) row lterm in
          (h.0, put_keeps s.active (Dialogue user) y h.1 (opened_row_keeps app.generation (Dialogue user) row lterm (row_keeps s.tables (Dialogue user) row h.0 e)))

  signs_off : (pterm user : Bytes) → StateKeepsNames (signed_off app s pterm user)
  unfolding signed_off
  signs_off pterm user = (rolled_keeps app s.tables user (restarts app.generation user) h.0, left_keeps s.active (Dialogue user) h.1)

  shows : (lterm no_message : Bytes) (line_of : Bytes → Bytes) → StateKeepsNames (show_next app s lterm no_message line_of).after
  unfolding show_next
  shows lterm no_message line_of = by (due_for s lterm) refl
    where
      by : (o : Option Job) → due_for s lterm ≡ o → StateKeepsNames (show_by app s lterm no_message line_of o).after
      by None e = h
      by (Some job) e = (shown_keeps s.tables lterm job (due_job_found s lterm job e).there h.0, h.1)

  ticks_on : (ticks clock : ℕ) (within : Bool) → StateKeepsNames (tick_by app s ticks clock within).after
  ticks_on ticks clock false = h
  ticks_on ticks clock true = h

  goes_next : (user lterm text : Bytes) → IsTrue (fits_content text) → StateKeepsNames (next_input app s user lterm text)
  goes_next user lterm text fits = by (find id_cmp (Dialogue user) s.active) refl (service_of s.tables (Dialogue user)) refl
    where
      by : (o : Option OpenTransaction) → find id_cmp (Dialogue user) s.active ≡ o → (r : Option Service) → service_of s.tables (Dialogue user) ≡ r → StateKeepsNames (next_by app s user lterm text o r)
      by (Some x) e r f =
          let y = followed_by_input app.generation x (held_tac app x) text in
          (h.0, put_keeps s.active (Dialogue user) y h.1 (further_keeps app.generation x (held_tac app x) text fits (h.1 (Dialogue user) x e)))
      by None e (Some row) f =
          let y = opened_by_input app.generation (Dialogue user) row lterm text in
          (h.0, put_keeps s.active (Dialogue user) y h.1 (opened_input_keeps app.generation (Dialogue user) row lterm text (row_keeps s.tables (Dialogue user) row h.0 f) fits))
      by None e None f = h

  -- a message of at most NB bytes is no longer than a content
  message_short : (text : Bytes) → IsTrue (nat_le (length text) app.generation.limits.nb) → IsTrue (fits_content text)
  message_short text fits = le-leb (length text) 32767 (omega (arith, leb-true (length text) app.generation.limits.nb fits, limits.nb))

  uses : (pterm user : Bytes) (u : Use) → UseFits app.generation user (service_state s user) u → StateKeepsNames (used app s pterm (lterm_at app pterm) user u).after
  unfolding used
  uses pterm user (Sign name) fits = signs_on pterm name (lterm_at app pterm) (service_of s.tables (Dialogue name)) refl
  uses pterm user (SignRefused fault) fits = h
  uses pterm user SignFirst fits = h
  uses pterm user AlreadySigned fits = h
  uses pterm user Off fits = signs_off pterm user
  uses pterm user Display fits = display_stays StateKeepsNames s h pterm (last_by (find bytes_cmp pterm s.signed))
  uses pterm user Output fits = shows (lterm_at app pterm) _ _
  uses pterm user Again fits = again_stays StateKeepsNames s h _ _ (shown_of s.tables (lterm_at app pterm))
  uses pterm user Busy fits = h
  uses pterm user TooLong fits = h
  uses pterm user (Next text) fits = goes_next user (lterm_at app pterm) text (message_short text fits.fits)
  uses pterm user (Start tac text) fits =
      let y = opened_by_start app.generation user (lterm_at app pterm) tac text in
      (h.0, put_keeps s.active (Dialogue user) y h.1 (opened_start_keeps app.generation user (lterm_at app pterm) tac text (message_short text fits.fits)))
  uses pterm user (TacRefused fault) fits = h

  use_now_fits : (pterm text : Bytes) → UseFits app.generation (user_at s pterm) (service_state s (user_at s pterm)) (use_now app s pterm text)
  unfolding use_of use_under use_now
  use_now_fits pterm text = use_fits app.generation (denial_of app.generation) s.signed (service_state s) (lterm_at app pterm) text (find bytes_cmp pterm s.signed) (by (find bytes_cmp pterm s.signed) (facts.1.sessions pterm))
    where
      by : (o : Option Session) → IfSome o (λ (v : Session). IsSessionOf app (pterm, v)) → IfSome o (λ (v : Session). IsTrue (is_user app.generation v.user))
      by None is = tt
      by (Some v) is = is.1

  drops : (pterm : Bytes) (o : Option Session) → StateKeepsNames (drop_by app s pterm o).after
  drops pterm None = h
  drops pterm (Some v) = signs_off pterm v.user

  pub command_keeps : (c : Command) → StateKeepsNames (command_of app s c).after
  unfolding command_of
  command_keeps (Input pterm text) = uses pterm (user_at s pterm) (use_now app s pterm text) (use_now_fits pterm text)
  command_keeps (Tick ticks) = ticks_on ticks _ _
  command_keeps (Run turns) = h
  command_keeps (Turn task) = turn_keeps task
  command_keeps (Drop pterm) = drops pterm (find bytes_cmp pterm s.signed)
  command_keeps (Print pterm) = shows (lterm_at app pterm) _ _
  command_keeps (PrintLast pterm) = again_stays StateKeepsNames s h _ _ (shown_of s.tables (lterm_at app pterm))
  command_keeps Restart = start_keeps app (durable app.generation s.tables) (durable_keeps app.generation s.tables h.0)
