-- Each command keeps a state consistent.
use Rattle.std.specs.Prelude.{◌≡◌, refl, ℕ, zero, suc, ◌+◌, ◌≤◌, Bool, true, false, cond, not, ◌||◌, IsTrue, [], Option, Some, None, is_some}
use Rattle.std.proofs.Common.{sym, ap, ◌∙◌, subst, inl, true≢false, arith}
use Rattle.std.specs.FinMap.{find}
use Rattle.std.specs.List.{list_any}
use Rattle.kd_base.specs.ToolsLaws.{some_is}
use Rattle.kdcs_types.specs.declared.key.ServiceId.{ServiceId}
use Rattle.kdcs_types.specs.declared.key.ServiceId.TheVariants.{Dialogue, Asynchronous}
use Rattle.kdcs_types.specs.declared.service.Job.{Job}
use Rattle.kdcs_types.specs.declared.service.Service.{Service}
use Rattle.kdcs_types.specs.Keyed.{ascends}
use Rattle.kdcs_types.specs.Keys.{id_cmp, id_eq}
use Rattle.kdcs_types.specs.KeyLaws.{id_eq_same}
use Rattle.kdcs_types.specs.Tables.{service_key, service_of, shown_of}
use Rattle.abstract_monitor.specs.declared.input_use.Use.{Use}
use Rattle.abstract_monitor.specs.declared.input_use.Use.TheVariants.{Sign, SignRefused, SignFirst, AlreadySigned, Off, Display, Output, Again, Busy, TooLong, Next, Start, TacRefused}
use Rattle.abstract_monitor.specs.Bytes.{Bytes, bytes_cmp}
use Rattle.abstract_monitor.specs.declared.command.Command.{Command}
use Rattle.abstract_monitor.specs.declared.command.Command.TheVariants.{Input, Tick, Run, Turn, Drop, Print, PrintLast, Restart}
use Rattle.abstract_monitor.specs.Commands.{lterm_at, user_by, user_at, with_session, without_session, resumed_by, signed_on_by, signed_on, withdrawn, rolled_tables, signed_off, is_for, due_for}
use Rattle.abstract_monitor.specs.Commands.{shown_tables, show_by, show_next, last_by, held_tac, next_by, next_input, start_service, used, use_now, tick_by, drop_by, command_of}
use Rattle.abstract_monitor.specs.Endings.{is_durable, durable, restarts, opened, opened_by_start, opened_by_input, opened_by_row, followed_by_input}
use Rattle.abstract_monitor.specs.Locks.{Waiting}
use Rattle.abstract_monitor.specs.Sessions.{has_user, awaits_by, is_awaiting}
use Rattle.abstract_monitor.specs.State.{Application, OpenTransaction, Session, State}
use Rattle.abstract_monitor.specs.Turns.{pterm_of_user, queued}
use Rattle.abstract_monitor.specs.UseLaws.{IsAtRest, IsFor, use_fits}
use Rattle.laws_of_states.specs.Facts.{IsOpen, IsConsistent}
use Rattle.laws_of_states.specs.Keeping.{HasFacts}
use Rattle.laws_of_states.specs.Transactions.{HasOwnJob, IsRooted}
use Rattle.laws_of_states.specs.TablesStayLaws.{again_stays, display_stays}
use Rattle.laws_of_states.specs.CountsLaws.{times, none_counted, times_without_itself, times_freed_itself}
use Rattle.laws_of_states.specs.EntriesLaws.{found_put, found_without}
use Rattle.laws_of_states.specs.TerminalsLaws.{signed_at, left_at, Signed, bytes_itself, signed_more, signed_fewer}
use Rattle.laws_of_states.specs.PlacesLaws.{still_signed, times_ready, times_held, is_signed_for, IsPlaced, IsLeft, placed_of, rests_placed, placed_running, placed_closed}
use Rattle.laws_of_states.specs.ChangesLaws.{KeepsRows, alters_then, queued_alters, withdrawn_alters, tables_alter, session_alters, off_alters, counted_signed, signed_counted}
use Rattle.laws_of_states.specs.RowsLaws.{job_stays, job_there, rolled_other, kept_ascends}
use Rattle.laws_of_states.specs.AreasLaws.{HoldsNew, closed_holds, new_holds, same_holds}
use Rattle.laws_of_states.specs.AfterLaws.{consistent_after, consistent_left, sessions_of, no_wait, rooted_still, rooted_row}
use Rattle.laws_of_states.proofs.laws_of_places.Turns.{times_queued}
use Rattle.laws_of_states.proofs.laws_of_places.Taking.{IsFreeJob, due_free, turns_consistent}
use Rattle.laws_of_states.proofs.laws_of_places.Starts.{started_consistent}

none_of : {A : Type 0} (o : Option A) → (is_some o ≡ true → ⊥) → o ≡ None
none_of None h = refl
none_of (Some x) h = absurd (h refl)

zero_of : (n : ℕ) → (1 ≤ n → ⊥) → n ≡ 0
zero_of zero h = refl
zero_of (suc n) h = absurd (h (omega arith))

-- the service is in no place, so it does not wait
no_waits : (app : Application) (s : State) (id : ServiceId) → IsPlaced app s id → times_ready s id + times_held s id ≡ 0 → find id_cmp id s.waits ≡ None
no_waits app s id p rests = by (find id_cmp id s.waits) refl
  where
    by : (o : Option Waiting) → find id_cmp id s.waits ≡ o → find id_cmp id s.waits ≡ None
    by None e = e
    by (Some w) e = let k : 1 ≤ times_held s id = (p.waiting w e).0 in absurd (omega arith)

-- ---- sign-on

module _ (app : Application) (s : State) (c : IsConsistent app s) (pterm user : Bytes) (free : find bytes_cmp pterm s.signed ≡ None) (nowhere : list_any (has_user user) s.signed ≡ false) where
  counts_none : times (has_user user) s.signed ≡ 0
  counts_none = none_counted (has_user user) s.signed nowhere

  place : IsPlaced app s (Dialogue user)
  place = placed_of app s c (Dialogue user)

  closed : find id_cmp (Dialogue user) s.active ≡ None
  closed = none_of (find id_cmp (Dialogue user) s.active) (λ h. let k : 1 ≤ times (has_user user) s.signed = signed_counted s.signed user (place.signed h) in let z : times (has_user user) s.signed ≡ 0 = counts_none in absurd (omega arith))

  rests : times_ready s (Dialogue user) + times_held s (Dialogue user) ≡ 0
  rests = zero_of _ (λ h. true≢false (sym (place.opened h) ∙ ap is_some closed))

  now_signed : (last : Option Bytes) → is_signed_for (with_session s pterm user last) (Dialogue user) ≡ true
  now_signed last =
      let v : Session = record { user = user; last = last } in
      let more : times (has_user user) (signed_at pterm v s.signed) ≡ suc (times (has_user user) s.signed) =
      signed_more (has_user user) pterm v s.signed free ∙ ap (λ b. cond b (suc (times (has_user user) s.signed)) (times (has_user user) s.signed)) (bytes_itself user) in
      counted_signed (signed_at pterm v s.signed) user (omega arith)

  -- no row goes on without an input
  signs : (last : Option Bytes) → ((row : Service) → service_of s.tables (Dialogue user) ≡ Some row → row.awaits ≡ false → ⊥) → IsConsistent app (with_session s pterm user last)
  signs last awaits =
      let id = Dialogue user in
      let u = with_session s pterm user last in
      consistent_after app s u id c (session_alters s pterm user last free counts_none)
      (placed_closed app u id rests closed (λ row d o r a. awaits row r a) (no_waits app s id place rests))
      (λ area h. inl h)

  -- the row goes on
  resumes : (row : Service) (lterm : Bytes) → service_of s.tables (Dialogue user) ≡ Some row
      → IsConsistent app (queued (with_session s pterm user row.last) (Dialogue user) (opened_by_row app.generation (Dialogue user) row lterm))
  unfolding opened
  resumes row lterm is =
      let id = Dialogue user in
      let v = with_session s pterm user row.last in
      let y = opened_by_row app.generation id row lterm in
      let u = queued v id y in
      let a : times_ready s id + times_held s id ≡ 0 = rests in
      consistent_after app s u id c (alters_then s v u id (session_alters s pterm user row.last free counts_none) (queued_alters v id y))
      (placed_running app u id y (times_queued v id y (omega arith) (omega arith)) (found_put id y s.active)
      (still_signed v u id refl ∙ now_signed row.last)
      (rooted_row s.tables id row y is refl)
      (no_wait u id (no_waits app s id place rests)))
      (new_holds s.active u.active id y (found_put id y s.active) refl)

  pub signs_on : IsConsistent app (signed_on app s pterm user).after
  signs_on = by (service_of s.tables (Dialogue user)) refl
    where
      by : (o : Option Service) → service_of s.tables (Dialogue user) ≡ o → IsConsistent app (signed_on_by app s pterm user (lterm_at app pterm) o).after
      by None e = signs None (λ row r a. absurd (true≢false (sym (ap is_some (sym e ∙ r)))))
      by (Some row) e = goes row.awaits refl
        where
          goes : (b : Bool) → row.awaits ≡ b → IsConsistent app (resumed_by app (with_session s pterm user row.last) user (lterm_at app pterm) row b)
          goes true a = signs row.last (λ r q f. absurd (true≢false (sym a ∙ ap (λ (v : Service). v.awaits) (some_is row r (sym e ∙ q)) ∙ f)))
          goes false a = resumes row (lterm_at app pterm) e

-- ---- within a session

module _ (app : Application) (s : State) (c : IsConsistent app s) (pterm : Bytes) (v : Session) (on : find bytes_cmp pterm s.signed ≡ Some v) where
  its_place : IsPlaced app s (Dialogue v.user)
  its_place = placed_of app s c (Dialogue v.user)

  is_on : is_signed_for s (Dialogue v.user) ≡ true
  is_on =
      let k : suc (times (has_user v.user) (left_at pterm s.signed)) ≤ times (has_user v.user) s.signed = signed_fewer pterm v s.signed on in
      counted_signed s.signed v.user (omega arith)

  rolled_keeps : (signed : Signed) (b : Bool) → KeepsRows (record (without_session (withdrawn s (Dialogue v.user)) pterm) { signed = signed }) (rolled_tables app s.tables v.user b) (Dialogue v.user)
  rolled_keeps signed true = record { rows = λ i apart. refl; jobs = λ i began apart o h. h; clock = omega arith }
  rolled_keeps signed false = record { rows = rolled_other false app s.tables v.user; jobs = λ i began apart o h. job i began h; clock = omega arith }
    where
      job : (i : ServiceId) (began : Option Service) → HasOwnJob s.tables i began → HasOwnJob (rolled_tables app s.tables v.user false) i began
      job (Dialogue user) began h = tt
      job (Asynchronous n) (Some row) h = tt
      job (Asynchronous n) None h = h

  pub signs_off : IsConsistent app (signed_off app s pterm v.user)
  unfolding signed_off
  signs_off =
      let id = Dialogue v.user in
      let w = withdrawn s id in
      let o = without_session w pterm in
      let t = rolled_tables app s.tables v.user (restarts app.generation v.user) in
      let u = record o { tables = t } in
      let a : times_ready w id ≡ 0 = times_without_itself id s.ready in
      let b : times_held w id ≡ 0 = times_freed_itself id s.tasks in
      consistent_after app s u id c
      (alters_then s o u id (alters_then s w o id (withdrawn_alters s id) (off_alters w pterm v c.sessions on)) (tables_alter o t id (rolled_keeps o.signed (restarts app.generation v.user))))
      (placed_closed app u id (omega arith) (found_without id s.active) (λ row d h r q. gone h) (found_without id s.waits))
      (closed_holds s.active u.active id (found_without id s.active))
    where
      gone : is_some (pterm_of_user (left_at pterm s.signed) v.user) ≡ true → ⊥
      gone h =
          let k : suc (times (has_user v.user) (left_at pterm s.signed)) ≤ times (has_user v.user) s.signed = signed_fewer pterm v s.signed on in
          let l : 1 ≤ times (has_user v.user) (left_at pterm s.signed) = signed_counted _ v.user h in
          let m : times (has_user v.user) s.signed ≤ 1 = (sessions_of app s c).once v.user in
          absurd (omega arith)

  -- a service at rest becomes ready with this transaction
  becomes_ready : (y : OpenTransaction) → times_ready s (Dialogue v.user) + times_held s (Dialogue v.user) ≡ 0 → IsRooted s.tables (Dialogue v.user) y
      → ((x : OpenTransaction) → find id_cmp (Dialogue v.user) s.active ≡ Some x → y.touched ≡ x.touched) → (find id_cmp (Dialogue v.user) s.active ≡ None → y.touched ≡ [])
      → IsConsistent app (queued s (Dialogue v.user) y)
  becomes_ready y none rooted same new =
      let id = Dialogue v.user in
      let u = queued s id y in
      consistent_after app s u id c (queued_alters s id y)
      (placed_running app u id y (times_queued s id y (omega arith) (omega arith)) (found_put id y s.active) (still_signed s u id refl ∙ is_on) rooted (no_wait u id (no_waits app s id its_place none)))
      (by (find id_cmp id s.active) refl)
    where
      by : (o : Option OpenTransaction) → find id_cmp (Dialogue v.user) s.active ≡ o → HoldsNew s.active (Dialogue v.user) (queued s (Dialogue v.user) y).active
      by None e = new_holds s.active (queued s (Dialogue v.user) y).active (Dialogue v.user) y (found_put (Dialogue v.user) y s.active) (new e)
      by (Some x) e = same_holds s.active (queued s (Dialogue v.user) y).active (Dialogue v.user) x y e (found_put (Dialogue v.user) y s.active) (same x e)

  pub goes_next : (lterm text : Bytes) → IsAtRest s pterm v → IsConsistent app (next_input app s v.user lterm text)
  unfolding followed_by_input opened
  goes_next lterm text rest = by (find id_cmp (Dialogue v.user) s.active) refl (service_of s.tables (Dialogue v.user)) refl
    where
      none : times_ready s (Dialogue v.user) + times_held s (Dialogue v.user) ≡ 0
      none = rests_placed s (Dialogue v.user) rest.rests

      by : (o : Option OpenTransaction) → find id_cmp (Dialogue v.user) s.active ≡ o → (r : Option Service) → service_of s.tables (Dialogue v.user) ≡ r → IsConsistent app (next_by app s v.user lterm text o r)
      by (Some x) e r q =
          let y = followed_by_input app.generation x (held_tac app x) text in
          becomes_ready y none (rooted_still s.tables (Dialogue v.user) x y (its_place.rooted x e) refl)
          (λ z f. ap (λ (k : OpenTransaction). k.touched) (some_is x z (sym e ∙ f)))
          (λ f. absurd (true≢false (ap is_some (sym e ∙ f))))
      by None e (Some row) q =
          let y = opened_by_input app.generation (Dialogue v.user) row lterm text in
          becomes_ready y none (rooted_row s.tables (Dialogue v.user) row y q refl) (λ z f. absurd (true≢false (sym (ap is_some (sym e ∙ f))))) (λ f. refl)
      by None e None q = c

  pub starts : (lterm tac text : Bytes) → IsAtRest s pterm v → is_awaiting s (Dialogue v.user) ≡ false → IsConsistent app (start_service app s v.user lterm tac text)
  unfolding opened
  starts lterm tac text rest none =
      let y = opened_by_start app.generation v.user lterm tac text in
      becomes_ready y (rests_placed s (Dialogue v.user) rest.rests) (record { began = no_row (service_of s.tables (Dialogue v.user)) refl; job = tt })
      (λ z f. absurd (true≢false (sym (ap is_some (sym is_closed ∙ f))))) (λ f. refl)
    where
      first_false : (a b : Bool) → (a || b) ≡ false → a ≡ false
      first_false true b h = h
      first_false false b h = refl

      second_false : (a b : Bool) → (a || b) ≡ false → b ≡ false
      second_false true b h = absurd (true≢false h)
      second_false false b h = h

      is_closed : find id_cmp (Dialogue v.user) s.active ≡ None
      is_closed = none_of _ (λ h. true≢false (sym h ∙ first_false (is_some (find id_cmp (Dialogue v.user) s.active)) (awaits_by (service_of s.tables (Dialogue v.user))) none))

      no_row : (o : Option Service) → service_of s.tables (Dialogue v.user) ≡ o → service_of s.tables (Dialogue v.user) ≡ None
      no_row None e = e
      no_row (Some row) e =
          let a : row.awaits ≡ false = ap awaits_by (sym e) ∙ second_false (is_some (find id_cmp (Dialogue v.user) s.active)) (awaits_by (service_of s.tables (Dialogue v.user))) none in
          absurd (true≢false (sym (its_place.goes_on row refl is_on e a) ∙ ap is_some is_closed))

-- ---- jobs for LTERMs, and the clock

module _ (app : Application) (s : State) (c : IsConsistent app s) where
  shown_left : (lterm : Bytes) (job : Job) → IsFreeJob s job → (i : ServiceId) → IsLeft s (record s { tables = shown_tables s.tables lterm job }) i
  shown_left lterm job free i = record { ready = refl; held = refl; opened = refl; waits = refl; row = refl; signed = signed i; job = stays i; clock = omega arith }
    where
      signed : (j : ServiceId) → is_signed_for (record s { tables = shown_tables s.tables lterm job }) j ≡ is_signed_for s j
      signed (Dialogue user) = refl
      signed (Asynchronous number) = refl

      stays : (j : ServiceId) (began : Option Service) → IsOpen s j → HasOwnJob s.tables j began → HasOwnJob (shown_tables s.tables lterm job) j began
      stays (Dialogue user) began o h = tt
      stays (Asynchronous n) (Some row) o h = tt
      stays (Asynchronous n) None o h = by (id_eq (Asynchronous n) (Asynchronous job.number)) refl
        where
          by : (b : Bool) → id_eq (Asynchronous n) (Asynchronous job.number) ≡ b → HasOwnJob (shown_tables s.tables lterm job) (Asynchronous n) None
          by false e = job_there (shown_tables s.tables lterm job) n ∙ job_stays n job.number s.tables.jobs e (sym (job_there s.tables n) ∙ h)
          by true e = absurd (true≢false (sym free.free ∙ ap (λ b. not b) (ap (λ k. is_some (find id_cmp k s.active)) (sym (id_eq_same (Asynchronous n) (Asynchronous job.number) e)) ∙ o)))

  pub shows : (lterm no_message : Bytes) (line_of : Bytes → Bytes) → IsConsistent app (show_next app s lterm no_message line_of).after
  unfolding show_next
  shows lterm no_message line_of = by (due_for s lterm) (due_free s s.tables.clock (is_for lterm))
    where
      by : (o : Option Job) → ((j : Job) → o ≡ Some j → IsFreeJob s j) → IsConsistent app (show_by app s lterm no_message line_of o).after
      by None free = c
      by (Some job) free =
          let u = record s { tables = shown_tables s.tables lterm job } in
          let id = Dialogue lterm in
          let l = shown_left lterm job (free job refl) in
          consistent_left app s u id c (record { others = λ i apart. l i; tasks = refl; sessions = λ h. h; active = λ h. h; waits = λ h. h }) (l id)

  pub ticks_on : (ticks : ℕ) (within : Bool) → IsConsistent app (tick_by app s ticks (s.tables.clock + ticks) within).after
  ticks_on ticks false = c
  ticks_on ticks true =
      let u = record s { tables = record s.tables { clock = s.tables.clock + ticks } } in
      let id = Dialogue [] in
      consistent_left app s u id c (record { others = λ i apart. later i; tasks = refl; sessions = λ h. h; active = λ h. h; waits = λ h. h }) (later id)
    where
      signed : (j : ServiceId) → is_signed_for (record s { tables = record s.tables { clock = s.tables.clock + ticks } }) j ≡ is_signed_for s j
      signed (Dialogue user) = refl
      signed (Asynchronous number) = refl

      job : (j : ServiceId) (began : Option Service) → HasOwnJob s.tables j began → HasOwnJob (record s.tables { clock = s.tables.clock + ticks }) j began
      job (Dialogue user) began h = tt
      job (Asynchronous n) (Some row) h = tt
      job (Asynchronous n) None h = h

      later : (i : ServiceId) → IsLeft s (record s { tables = record s.tables { clock = s.tables.clock + ticks } }) i
      later i = record { ready = refl; held = refl; opened = refl; waits = refl; row = refl; signed = signed i; job = λ began o h. job i began h; clock = omega arith }

-- ---- all commands

used_consistent : (app : Application) (s : State) (c : IsConsistent app s) (pterm : Bytes) (u : Use) → IsFor s pterm u → IsConsistent app (used app s pterm (lterm_at app pterm) (user_at s pterm) u).after
unfolding used
used_consistent app s c pterm (Sign name) f = signs_on app s c pterm name f.0 f.1
used_consistent app s c pterm (SignRefused fault) f = c
used_consistent app s c pterm SignFirst f = c
used_consistent app s c pterm AlreadySigned f = c
used_consistent app s c pterm Off f = subst (λ (o : Option Session). IsConsistent app (signed_off app s pterm (user_by o))) (sym f.1) (signs_off app s c pterm f.0 f.1)
used_consistent app s c pterm Display f = display_stays (IsConsistent app) s c pterm (last_by (find bytes_cmp pterm s.signed))
used_consistent app s c pterm Output f = shows app s c (lterm_at app pterm) _ _
used_consistent app s c pterm Again f = again_stays (IsConsistent app) s c _ _ (shown_of s.tables (lterm_at app pterm))
used_consistent app s c pterm Busy f = c
used_consistent app s c pterm TooLong f = c
used_consistent app s c pterm (Next text) f =
    subst (λ (o : Option Session). IsConsistent app (next_input app s (user_by o) (lterm_at app pterm) text)) (sym f.1.signed) (goes_next app s c pterm f.0 f.1.signed (lterm_at app pterm) text f.1)
used_consistent app s c pterm (Start tac text) f =
    subst (λ (o : Option Session). IsConsistent app (start_service app s (user_by o) (lterm_at app pterm) tac text)) (sym f.1.signed) (starts app s c pterm f.0 f.1.signed (lterm_at app pterm) tac text f.1 f.2)
used_consistent app s c pterm (TacRefused fault) f = c

drop_consistent : (app : Application) (s : State) (c : IsConsistent app s) (pterm : Bytes) (o : Option Session) → find bytes_cmp pterm s.signed ≡ o → IsConsistent app (drop_by app s pterm o).after
drop_consistent app s c pterm None e = c
drop_consistent app s c pterm (Some v) e = signs_off app s c pterm v e

durable_order : (app : Application) (s : State) → IsTrue (ascends service_key s.tables.services) → IsTrue (ascends service_key (durable app.generation s.tables).services)
unfolding durable
durable_order app s h = kept_ascends (is_durable app.generation) s.tables.services h

pub commands_consistent : (app : Application) (s : State) (command : Command) → HasFacts app s → IsConsistent app (command_of app s command).after
unfolding command_of
commands_consistent app s (Input pterm text) c = used_consistent app s c.0 pterm (use_now app s pterm text) (use_fits app s pterm text)
commands_consistent app s (Tick ticks) c = ticks_on app s c.0 ticks _
commands_consistent app s (Run turns) c = c.0
commands_consistent app s (Turn task) c = turns_consistent app s task c
commands_consistent app s (Drop pterm) c = drop_consistent app s c.0 pterm (find bytes_cmp pterm s.signed) refl
commands_consistent app s (Print pterm) c = shows app s c.0 (lterm_at app pterm) _ _
commands_consistent app s (PrintLast pterm) c = again_stays (IsConsistent app) s c.0 _ _ (shown_of s.tables (lterm_at app pterm))
commands_consistent app s Restart c = started_consistent app (durable app.generation s.tables) (durable_order app s c.1.order.services)
