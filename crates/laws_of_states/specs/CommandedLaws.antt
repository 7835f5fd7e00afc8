-- Each command and each start keeps a sound state.
use Rattle.std.specs.Prelude.{◌≡◌, refl, ℕ, ◌+◌, Bool, true, false, cond, IsTrue, IfSome, List, [], ◌∷◌, map, Option, None, Some, nat_le}
use Rattle.std.proofs.Common.{sym, ap, subst, true≢false}
use Rattle.std.proofs.lemmas.Bool.{leb-true}
use Rattle.std.specs.List.{list_all}
use Rattle.std.specs.FinMap.{find, is_sorted}
use Rattle.kd_base.specs.ToolsLaws.{both_true, some_is}
use Rattle.kdcs_types.specs.declared.key.ServiceId.{ServiceId}
use Rattle.kdcs_types.specs.declared.key.ServiceId.TheVariants.{Dialogue, Asynchronous}
use Rattle.kdcs_types.specs.declared.service.Job.{Job}
use Rattle.kdcs_types.specs.declared.service.JobValue.{JobValue}
use Rattle.kdcs_types.specs.declared.service.Service.{Service}
use Rattle.kdcs_types.specs.Keys.{id_cmp, id_eq}
use Rattle.kdcs_types.specs.KeyLaws.{id_eq_same}
use Rattle.kd_base.specs.Limits.{last_clock}
use Rattle.kdcs_types.specs.Tables.{TableRows, service_fits, lterm_fits, service_of, shown_of}
use Rattle.application_types.specs.Generation.{Generated}
use Rattle.abstract_monitor.specs.declared.answer.Happened.{Happened}
use Rattle.abstract_monitor.specs.declared.answer.Happened.TheVariants.{Held}
use Rattle.abstract_monitor.specs.declared.input_use.ServiceState.TheVariants.{Awaits}
use Rattle.abstract_monitor.specs.declared.input_use.Use.{Use}
use Rattle.abstract_monitor.specs.declared.input_use.Use.TheVariants.{Sign, SignRefused, SignFirst, AlreadySigned, Off, Display, Output, Again, Busy, TooLong, Next, Start, TacRefused}
use Rattle.abstract_monitor.specs.Bytes.{Bytes, bytes_cmp}
use Rattle.abstract_monitor.specs.Access.{denial_of}
use Rattle.abstract_monitor.specs.State.{Application, OpenTransaction, Session, State}
use Rattle.abstract_monitor.specs.Calls.{nothing_told}
use Rattle.abstract_monitor.specs.Endings.{is_asynchronous, lterm_of_row, opened_by_start, opened_by_input, opened_by_row, followed_by_input, durable, restarts}
use Rattle.abstract_monitor.specs.Sessions.{is_running, is_awaiting, service_state_by, service_state, use_under, use_of}
use Rattle.abstract_monitor.specs.Statements.{statement}
use Rattle.abstract_monitor.specs.Turns.{turn_of}
use Rattle.abstract_monitor.specs.declared.command.Command.{Command}
use Rattle.abstract_monitor.specs.declared.command.Command.TheVariants.{Input, Tick, Run, Turn, Drop, Print, PrintLast, Restart}
use Rattle.abstract_monitor.specs.Commands.{asynchronous_rows, opened_row, started, lterm_at, user_at, with_session, resumed_by, signed_on_by, signed_on, rolled_tables, signed_off, due_for, show_by}
use Rattle.abstract_monitor.specs.Commands.{show_next, show_again_by, last_by, display, follow_up_of, held_tac, next_by, next_input, start_service, used, use_now, tick_by, drop_by, command_of}
use Rattle.laws_of_states.specs.Applications.{IsApplication}
use Rattle.abstract_monitor.specs.CommandsOf.{IsCommandOf, is_pterm}
use Rattle.laws_of_states.specs.Suits.{is_user, is_lterm, has_kind, fits_message, lterm_suits, service_suits}
use Rattle.laws_of_states.specs.Transactions.{CanGoOn}
use Rattle.laws_of_states.specs.Facts.{IsSessionOf, StandsAtKeep, IsConsistent}
use Rattle.laws_of_states.specs.OpenLaws.{HappenedFits}
use Rattle.laws_of_states.specs.PointLaws.{AreSound}
use Rattle.laws_of_states.specs.StateLaws.{StatesStaySound}
use Rattle.laws_of_states.specs.ListsLaws.{filter_passes, all_filter}
use Rattle.laws_of_states.specs.StatedLaws.{statements_keep}
use Rattle.laws_of_states.specs.RowPartsLaws.{row_parts}
use Rattle.laws_of_states.specs.OpeningsLaws.{starts_can, inputs_can, rows_can, further_by_input}
use Rattle.laws_of_states.specs.EndsLaws.{sign_offs_stay_sound, shows_stay_sound, ticks_stay_sound, starts_are_sound}
use Rattle.laws_of_states.specs.UsesLaws.{StartFits, UseFits, use_fits}
use Rattle.laws_of_states.specs.StatesLaws.{Opens, Parts, parts_of, sound_state, opens_put, opens_without, sessions_put, sessions_without, lterm_declared, row_found}
use Rattle.laws_of_states.specs.TurnedLaws.{turn_parts}

-- ---- starts

-- the LTERM of an asynchronous service's row is declared
row_lterm : (g : Generated) (id : ServiceId) (o : Option Bytes) → IsTrue (is_asynchronous id) → IsTrue (lterm_fits id o) → IsTrue (lterm_suits g o) → IsTrue (is_lterm g (lterm_of_row o))
row_lterm g (Dialogue user) o asynchronous fits suits = absurd (true≢false (sym asynchronous))
row_lterm g (Asynchronous number) None asynchronous fits suits = absurd (true≢false (sym fits))
row_lterm g (Asynchronous number) (Some lterm) asynchronous fits suits = suits

started_opens : (app : Application) (rows : List Service) → IsTrue (list_all (λ (s : Service). is_asynchronous s.id) rows) → IsTrue (list_all service_fits rows) → IsTrue (list_all (service_suits app.generation) rows) → Opens app (map (opened_row app) rows)
started_opens app [] a l h id x e = absurd cc
started_opens app (row ∷ rows) a l h id x e =
    let asynchronous = both_true (is_asynchronous row.id) (list_all (λ (s : Service). is_asynchronous s.id) rows) a in
    let fits = both_true (service_fits row) (list_all service_fits rows) l in
    let suits = both_true (service_suits app.generation row) (list_all (service_suits app.generation) rows) h in
    let lterm = row_lterm app.generation row.id row.lterm asynchronous.0 (both_true (lterm_fits row.id row.lterm) (is_sorted bytes_cmp row.lssbs) fits.0).0 (row_parts app.generation row suits.0).lterm in
    by (id_eq id row.id) refl (rows_can app.generation row.id row (lterm_of_row row.lterm) suits.0 refl lterm) (started_opens app rows asynchronous.1 fits.1 suits.1 id x) e
  where
    opens : OpenTransaction
    opens = opened_by_row app.generation row.id row (lterm_of_row row.lterm)

    by : (b : Bool) → id_eq id row.id ≡ b → CanGoOn app.generation row.id opens → (find id_cmp id (map (opened_row app) rows) ≡ Some x → CanGoOn app.generation id x)
        → cond b (Some opens) (find id_cmp id (map (opened_row app) rows)) ≡ Some x → CanGoOn app.generation id x
    by true same can rest is =
        subst (λ (y : OpenTransaction). CanGoOn app.generation id y) (some_is opens x is) (subst (λ (i : ServiceId). CanGoOn app.generation i opens) (sym (id_eq_same id row.id same)) can)
    by false same can rest is = rest is

start_parts : (app : Application) (t : TableRows) → AreSound app.generation t → Parts app (started app t)
unfolding started
start_parts app t sound =
    let asynchronous : Service → Bool = λ (s : Service). is_asynchronous s.id in
    record {
      tables = sound;
      sessions = λ pterm. tt;
      opens = started_opens app (asynchronous_rows t) (filter_passes asynchronous t.services) (all_filter service_fits asynchronous t.services sound.order.services_fit) (all_filter (service_suits app.generation) asynchronous t.services sound.rows);
    }

-- ---- signing on and off

session_parts : (app : Application) (s : State) (pterm user : Bytes) (last : Option Bytes) → IsTrue (is_pterm app.generation pterm) → IsTrue (is_user app.generation user) → Parts app s → Parts app (with_session s pterm user last)
session_parts app s pterm user last is who p =
    let v : Session = record { user = user; last = last } in
    record { tables = p.tables; sessions = sessions_put app s.signed pterm v p.sessions (is, who); opens = p.opens }

resumed_parts : (app : Application) (s : State) (user lterm : Bytes) (row : Service) (awaits : Bool) → CanGoOn app.generation (Dialogue user) (opened_by_row app.generation (Dialogue user) row lterm) → Parts app s → Parts app (resumed_by app s user lterm row awaits)
resumed_parts app s user lterm row true can p = p
resumed_parts app s user lterm row false can p = record { tables = p.tables; sessions = p.sessions; opens = opens_put app s.active (Dialogue user) (opened_by_row app.generation (Dialogue user) row lterm) p.opens can }

signed_on_parts : (app : Application) (s : State) (pterm user : Bytes) → IsApplication app → IsTrue (is_pterm app.generation pterm) → IsTrue (is_user app.generation user) → Parts app s → Parts app (signed_on app s pterm user).after
signed_on_parts app s pterm user application is who p = by (service_of s.tables (Dialogue user)) refl
  where
    by : (o : Option Service) → service_of s.tables (Dialogue user) ≡ o → Parts app (signed_on_by app s pterm user (lterm_at app pterm) o).after
    by None e = session_parts app s pterm user None is who p
    by (Some row) e =
        let found = row_found app.generation s.tables (Dialogue user) row p.tables e in
        resumed_parts app (with_session s pterm user row.last) user (lterm_at app pterm) row row.awaits
        (rows_can app.generation (Dialogue user) row (lterm_at app pterm) found.suits found.own (lterm_declared app pterm application is)) (session_parts app s pterm user row.last is who p)

rolled_sound : (app : Application) (t : TableRows) (user : Bytes) (b : Bool) → AreSound app.generation t → AreSound app.generation (rolled_tables app t user b)
rolled_sound app t user true s = s
rolled_sound app t user false s = (sign_offs_stay_sound app.generation t user s).sound

signed_off_parts : (app : Application) (s : State) (pterm user : Bytes) → Parts app s → Parts app (signed_off app s pterm user)
unfolding signed_off
signed_off_parts app s pterm user p = record {
  tables = rolled_sound app s.tables user (restarts app.generation user) p.tables;
  sessions = sessions_without app s.signed pterm p.sessions;
  opens = opens_without app s.active (Dialogue user) p.opens;
}

-- ---- shown messages

show_parts : (app : Application) (s : State) (lterm no_message : Bytes) (line_of : Bytes → Bytes) → Parts app s → Parts app (show_next app s lterm no_message line_of).after
unfolding show_next
show_parts app s lterm no_message line_of p = by (due_for s lterm) refl
  where
    by : (o : Option Job) → due_for s lterm ≡ o → Parts app (show_by app s lterm no_message line_of o).after
    by None e = p
    by (Some job) e = record { tables = (shows_stay_sound app.generation s lterm job p.tables e).sound; sessions = p.sessions; opens = p.opens }

again_parts : (app : Application) (s : State) (no_message : Bytes) (line_of : Bytes → Bytes) (o : Option JobValue) → Parts app s → Parts app (show_again_by s no_message line_of o).after
again_parts app s no_message line_of None p = p
again_parts app s no_message line_of (Some value) p = p

display_parts : (app : Application) (s : State) (pterm : Bytes) (o : Option Bytes) → Parts app s → Parts app (display s pterm o).after
display_parts app s pterm None p = p
display_parts app s pterm (Some message) p = p

-- ---- inputs

not_running : (running awaiting : Bool) → service_state_by running awaiting ≡ Awaits → running ≡ false
not_running true awaiting e = absurd cc
not_running false awaiting e = refl

pub awaits_not_running : (s : State) (user : Bytes) → service_state s user ≡ Awaits → is_running s (Dialogue user) ≡ false
unfolding service_state
awaits_not_running s user e = not_running (is_running s (Dialogue user)) (is_awaiting s (Dialogue user)) e

-- the follow-up of a PEND KP is a dialogue TAC
kept_kind : (g : Generated) (h : Happened) (tac : Bytes) → h ≡ Held tac → HappenedFits g false h → IsTrue (has_kind g (follow_up_of h) false)
kept_kind g h tac e fits =
    subst (λ (k : Happened). IsTrue (has_kind g (follow_up_of k) false)) (sym e) (subst (HappenedFits g false) e fits).0

held_kind : (app : Application) (user : Bytes) (x : OpenTransaction) → IsApplication app → CanGoOn app.generation (Dialogue user) x → StandsAtKeep app (Dialogue user) x → IsTrue (has_kind app.generation (held_tac app x) false)
held_kind app user x application can stands =
    kept_kind app.generation (statement app nothing_told false x).1 stands.0 (ap (λ (r : OpenTransaction × Happened). r.1) (stands.1 nothing_told)) (statements_keep app (Dialogue user) x nothing_told application can refl).fits

next_parts : (app : Application) (s : State) (user lterm text : Bytes) → IsApplication app → IsConsistent app s → IsTrue (is_lterm app.generation lterm) → IsTrue (fits_message app.generation text) → service_state s user ≡ Awaits → Parts app s → Parts app (next_input app s user lterm text)
next_parts app s user lterm text application facts is fits awaits p = by (find id_cmp (Dialogue user) s.active) refl (service_of s.tables (Dialogue user)) refl
  where
    by : (o : Option OpenTransaction) → find id_cmp (Dialogue user) s.active ≡ o → (r : Option Service) → service_of s.tables (Dialogue user) ≡ r → Parts app (next_by app s user lterm text o r)
    by (Some x) e r f =
        let can = p.opens (Dialogue user) x e in
        let kind = held_kind app user x application can (facts.kept (Dialogue user) x e (awaits_not_running s user awaits)) in
        let y = followed_by_input app.generation x (held_tac app x) text in
        record { tables = p.tables; sessions = p.sessions; opens = opens_put app s.active (Dialogue user) y p.opens (further_by_input app.generation (Dialogue user) x (held_tac app x) text kind fits can) }
    by None e (Some row) f =
        let found = row_found app.generation s.tables (Dialogue user) row p.tables f in
        let y = opened_by_input app.generation (Dialogue user) row lterm text in
        record { tables = p.tables; sessions = p.sessions; opens = opens_put app s.active (Dialogue user) y p.opens (inputs_can app.generation user row lterm text found.suits found.own is fits) }
    by None e None f = p

start_service_parts : (app : Application) (s : State) (user lterm tac text : Bytes) → IsTrue (is_lterm app.generation lterm) → StartFits app.generation user tac text → Parts app s → Parts app (start_service app s user lterm tac text)
start_service_parts app s user lterm tac text is fits p =
    let y = opened_by_start app.generation user lterm tac text in
    record { tables = p.tables; sessions = p.sessions; opens = opens_put app s.active (Dialogue user) y p.opens (starts_can app.generation user lterm tac text fits.is is fits.kind fits.fits) }

used_parts : (app : Application) (s : State) (pterm user : Bytes) → IsApplication app → IsConsistent app s → IsTrue (is_pterm app.generation pterm) → Parts app s → (u : Use) → UseFits app.generation user (service_state s user) u
    → Parts app (used app s pterm (lterm_at app pterm) user u).after
unfolding used
used_parts app s pterm user application facts is p (Sign name) fits = signed_on_parts app s pterm name application is fits p
used_parts app s pterm user application facts is p (SignRefused fault) fits = p
used_parts app s pterm user application facts is p SignFirst fits = p
used_parts app s pterm user application facts is p AlreadySigned fits = p
used_parts app s pterm user application facts is p Off fits = signed_off_parts app s pterm user p
used_parts app s pterm user application facts is p Display fits = display_parts app s pterm (last_by (find bytes_cmp pterm s.signed)) p
used_parts app s pterm user application facts is p Output fits = show_parts app s (lterm_at app pterm) _ _ p
used_parts app s pterm user application facts is p Again fits = again_parts app s _ _ (shown_of s.tables (lterm_at app pterm)) p
used_parts app s pterm user application facts is p Busy fits = p
used_parts app s pterm user application facts is p TooLong fits = p
used_parts app s pterm user application facts is p (Next text) fits =
    next_parts app s user (lterm_at app pterm) text application facts (lterm_declared app pterm application is) fits.fits fits.awaits p
used_parts app s pterm user application facts is p (Start tac text) fits = start_service_parts app s user (lterm_at app pterm) tac text (lterm_declared app pterm application is) fits p
used_parts app s pterm user application facts is p (TacRefused fault) fits = p

-- the use of an input, as the system stands
use_now_fits : (app : Application) (s : State) (pterm text : Bytes) → Parts app s → UseFits app.generation (user_at s pterm) (service_state s (user_at s pterm)) (use_now app s pterm text)
unfolding use_of use_under use_now
use_now_fits app s pterm text p = use_fits app.generation (denial_of app.generation) s.signed (service_state s) (lterm_at app pterm) text (find bytes_cmp pterm s.signed) (by (find bytes_cmp pterm s.signed) (p.sessions pterm))
  where
    by : (o : Option Session) → IfSome o (λ (v : Session). IsSessionOf app (pterm, v)) → IfSome o (λ (v : Session). IsTrue (is_user app.generation v.user))
    by None h = tt
    by (Some v) h = h.1

-- ---- the other commands

tick_parts : (app : Application) (s : State) (ticks clock : ℕ) (b : Bool) → nat_le clock last_clock ≡ b → Parts app s → Parts app (tick_by app s ticks clock b).after
tick_parts app s ticks clock false e p = p
tick_parts app s ticks clock true e p = record { tables = (ticks_stay_sound app.generation s.tables clock p.tables (leb-true clock last_clock e)).sound; sessions = p.sessions; opens = p.opens }

drop_parts : (app : Application) (s : State) (pterm : Bytes) (o : Option Session) → Parts app s → Parts app (drop_by app s pterm o).after
drop_parts app s pterm None p = p
drop_parts app s pterm (Some v) p = signed_off_parts app s pterm v.user p

command_parts : (app : Application) (s : State) (c : Command) → IsApplication app → IsCommandOf app.generation c → IsConsistent app s → Parts app s → Parts app (command_of app s c).after
unfolding command_of
command_parts app s (Input pterm text) application is facts p = used_parts app s pterm (user_at s pterm) application facts is p (use_now app s pterm text) (use_now_fits app s pterm text p)
command_parts app s (Tick ticks) application is facts p = tick_parts app s ticks (s.tables.clock + ticks) (nat_le (s.tables.clock + ticks) last_clock) refl p
command_parts app s (Run turns) application is facts p = p
command_parts app s (Turn task) application is facts p = turn_parts app s task application facts p
command_parts app s (Drop pterm) application is facts p = drop_parts app s pterm (find bytes_cmp pterm s.signed) p
command_parts app s (Print pterm) application is facts p = show_parts app s (lterm_at app pterm) _ _ p
command_parts app s (PrintLast pterm) application is facts p = again_parts app s _ _ (shown_of s.tables (lterm_at app pterm)) p
command_parts app s Restart application is facts p = start_parts app (durable app.generation s.tables) (starts_are_sound.warm app.generation s.tables p.tables).sound

pub states_stay_sound : StatesStaySound
states_stay_sound = record {
  turns = λ app s task application within has. sound_state app (turn_of app s task).after (turn_parts app s task application has.0 (parts_of app s has.1));
  commands = λ app s c application is has. sound_state app (command_of app s c).after (command_parts app s c application is has.0 (parts_of app s has.1));
  starts = λ app t application order suits. sound_state app (started app t) (start_parts app t (starts_are_sound.suiting app.generation t order suits));
}
