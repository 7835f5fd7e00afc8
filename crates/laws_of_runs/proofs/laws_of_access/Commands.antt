-- A command brings no service but by an input that starts it.
use Rattle.std.specs.Prelude.{◌≡◌, ◌⊎◌, refl, ℕ, ◌+◌, Bool, true, false, [], Option, Some, None, nat_le}
use Rattle.std.proofs.Common.{sym, ap, ◌∙◌, subst, inl, inr}
use Rattle.std.specs.FinMap.{find}
use Rattle.kdcs_types.specs.declared.key.ServiceId.{ServiceId}
use Rattle.kdcs_types.specs.declared.key.ServiceId.TheVariants.{Dialogue, Asynchronous}
use Rattle.kdcs_types.specs.declared.service.Job.{Job}
use Rattle.kdcs_types.specs.declared.service.Service.{Service}
use Rattle.kdcs_types.specs.Keys.{id_cmp}
use Rattle.kd_base.specs.Limits.{last_clock}
use Rattle.kdcs_types.specs.Tables.{service_of, shown_of}
use Rattle.abstract_monitor.specs.declared.command.Command.{Command}
use Rattle.abstract_monitor.specs.declared.command.Command.TheVariants.{Input, Tick, Run, Turn, Drop, Print, PrintLast, Restart}
use Rattle.abstract_monitor.specs.declared.input_use.Use.{Use}
use Rattle.abstract_monitor.specs.declared.input_use.Use.TheVariants.{Sign, SignRefused, SignFirst, AlreadySigned, Off, Display, Output, Again, Busy, TooLong, Next, Start, TacRefused}
use Rattle.abstract_monitor.specs.Bytes.{Bytes, bytes_cmp}
use Rattle.abstract_monitor.specs.Endings.{opened, opened_by_start, opened_by_input, opened_by_row, followed_by_input, durable, restarts}
use Rattle.abstract_monitor.specs.State.{Application, OpenTransaction, Session, State}
use Rattle.abstract_monitor.specs.Access.{denial_of}
use Rattle.abstract_monitor.specs.Turns.{queued, told_here, turn_of}
use Rattle.abstract_monitor.specs.Commands.{ScriptStep, started, lterm_at, user_at, with_session, resumed_by, signed_on_by, signed_off, due_for, show_by, show_next, last_by, held_tac, next_by, used}
use Rattle.abstract_monitor.specs.Commands.{use_now, tick_by, drop_by, command_of, turned_step}
use Rattle.laws_of_states.specs.Keeping.{HasFacts}
use Rattle.laws_of_states.specs.TablesStayLaws.{again_stays, display_stays}
use Rattle.laws_of_runs.specs.Access.{RowIsOf, OpenIsOf, IsThere, Begins, WasThereOrBegins, TurnsKeepAccess, CommandsKeepAccess}
use Rattle.laws_of_runs.proofs.laws_of_access.Beginnings.{open_put, open_without, rolled_row_there, durable_row_there, started_open}
use Rattle.laws_of_runs.proofs.laws_of_access.Denials.{start_allowed, answers_denials}
use Rattle.laws_of_runs.proofs.laws_of_access.Firsts.{follow_allowed}
use Rattle.laws_of_runs.proofs.laws_of_access.Turns.{turn_fine}

-- the user of a dialogue service
abbrev user_in : ServiceId → Bytes
user_in (Dialogue user) = user
user_in (Asynchronous number) = []

module _ (app : Application) (s : State) where
  -- nothing is there that was not
  abbrev NothingNew : State → Type 0
  NothingNew u = (user tac : Bytes) → IsThere u user tac → IsThere s user tac

  stays : NothingNew s
  stays user tac there = there

  -- the service that is put in was there
  was_there : (u : Bytes) (y : OpenTransaction) → IsThere s u y.first → (user tac : Bytes) → ((Dialogue user ≡ Dialogue u) × (y.first ≡ tac)) ⊎ OpenIsOf tac (find id_cmp (Dialogue user) s.active) → IsThere s user tac
  was_there u y there user tac (inl own) = subst (λ (t : Bytes). IsThere s user t) own.1 (subst (λ (v : Bytes). IsThere s v y.first) (sym (same_user own.0)) there)
    where
      same_user : Dialogue user ≡ Dialogue u → user ≡ u
      same_user e = ap user_in e
  was_there u y there user tac (inr transaction) = inr transaction

  queued_there : (u : Bytes) (y : OpenTransaction) → IsThere s u y.first → NothingNew (queued s (Dialogue u) y)
  queued_there u y there user tac (inl row) = inl row
  queued_there u y there user tac (inr transaction) = was_there u y there user tac (open_put (Dialogue user) (Dialogue u) y s.active tac transaction)

  -- the row of a service that is found
  row_there : (u : Bytes) (row : Service) → service_of s.tables (Dialogue u) ≡ Some row → IsThere s u row.first
  row_there u row e = inl (subst (RowIsOf row.first) (sym e) refl)

  -- ---- signing on and off

  resumed_there : (pterm u lterm : Bytes) (last : Option Bytes) (row : Service) → service_of s.tables (Dialogue u) ≡ Some row → (awaits : Bool) → NothingNew (resumed_by app (with_session s pterm u last) u lterm row awaits)
  unfolding opened
  resumed_there pterm u lterm last row e true = stays
  resumed_there pterm u lterm last row e false = queued_there u (opened_by_row app.generation (Dialogue u) row lterm) (row_there u row e)

  signed_there : (pterm u : Bytes) (o : Option Service) → service_of s.tables (Dialogue u) ≡ o → NothingNew (signed_on_by app s pterm u (lterm_at app pterm) o).after
  signed_there pterm u None e = stays
  signed_there pterm u (Some row) e = resumed_there pterm u (lterm_at app pterm) row.last row e row.awaits

  off_there : (pterm u : Bytes) → NothingNew (signed_off app s pterm u)
  unfolding signed_off
  off_there pterm u user tac (inl row) = inl (rolled_row_there app s.tables u (restarts app.generation u) (Dialogue user) tac row)
  off_there pterm u user tac (inr transaction) = inr (open_without (Dialogue user) (Dialogue u) s.active tac transaction)

  -- ---- shown messages

  show_there : (lterm none : Bytes) (line_of : Bytes → Bytes) (o : Option Job) → NothingNew (show_by app s lterm none line_of o).after
  show_there lterm none line_of None = stays
  show_there lterm none line_of (Some job) = λ user tac there. there

  shows_there : (lterm none : Bytes) (line_of : Bytes → Bytes) → NothingNew (show_next app s lterm none line_of).after
  unfolding show_next
  shows_there lterm none line_of = show_there lterm none line_of (due_for s lterm)

  -- ---- inputs

  next_there : (u lterm text : Bytes) (o : Option OpenTransaction) → find id_cmp (Dialogue u) s.active ≡ o → (r : Option Service) → service_of s.tables (Dialogue u) ≡ r → NothingNew (next_by app s u lterm text o r)
  unfolding followed_by_input opened
  next_there u lterm text (Some x) e r f = queued_there u (followed_by_input app.generation x (held_tac app x) text) (inr (subst (OpenIsOf x.first) (sym e) refl))
  next_there u lterm text None e (Some row) f = queued_there u (opened_by_input app.generation (Dialogue u) row lterm text) (row_there u row f)
  next_there u lterm text None e None f = stays

  -- what an input of this use brings
  module _ (pterm text : Bytes) where
    abbrev Brings : Use → Type 0
    Brings u = (user tac : Bytes) → IsThere (used app s pterm (lterm_at app pterm) (user_at s pterm) u).after user tac → WasThereOrBegins app s (command_of app s (Input pterm text)) user tac

    nothing : (u : Use) → NothingNew (used app s pterm (lterm_at app pterm) (user_at s pterm) u).after → Brings u
    nothing u h user tac there = inl (h user tac there)

    starts : (tac message : Bytes) → use_now app s pterm text ≡ Start tac message → Brings (Start tac message)
    unfolding used opened
    starts t message is user tac (inl row) = inl (inl row)
    starts t message is user tac (inr transaction) = by (open_put (Dialogue user) (Dialogue (user_at s pterm)) (opened_by_start app.generation (user_at s pterm) (lterm_at app pterm) t message) s.active tac transaction)
      where
        by : ((Dialogue user ≡ Dialogue (user_at s pterm)) × (t ≡ tac)) ⊎ OpenIsOf tac (find id_cmp (Dialogue user) s.active) → WasThereOrBegins app s (command_of app s (Input pterm text)) user tac
        by (inr there) = inl (inr there)
        by (inl own) = inr (
          lterm_at app pterm,
          inl (record {
            pterm = pterm;
            text = text;
            message = message;
            who = sym (ap user_in own.0);
            where_at = refl;
            meant = is ∙ ap (λ (f : Bytes). Start f message) own.1;
            step = refl;
          }),
        )

    used_there : (u : Use) → use_now app s pterm text ≡ u → Brings u
    unfolding used
    used_there (Sign name) is = nothing (Sign name) (signed_there pterm name (service_of s.tables (Dialogue name)) refl)
    used_there (SignRefused fault) is = nothing (SignRefused fault) stays
    used_there SignFirst is = nothing SignFirst stays
    used_there AlreadySigned is = nothing AlreadySigned stays
    used_there Off is = nothing Off (off_there pterm (user_at s pterm))
    used_there Display is = nothing Display (display_stays NothingNew s stays pterm (last_by (find bytes_cmp pterm s.signed)))
    used_there Output is = nothing Output (shows_there (lterm_at app pterm) _ _)
    used_there Again is = nothing Again (again_stays NothingNew s stays _ _ (shown_of s.tables (lterm_at app pterm)))
    used_there Busy is = nothing Busy stays
    used_there TooLong is = nothing TooLong stays
    used_there (Next message) is = nothing (Next message) (next_there (user_at s pterm) (lterm_at app pterm) message (find id_cmp (Dialogue (user_at s pterm)) s.active) refl (service_of s.tables (Dialogue (user_at s pterm))) refl)
    used_there (Start tac message) is = starts tac message is
    used_there (TacRefused fault) is = nothing (TacRefused fault) stays

  -- ---- all commands

  drop_there : (pterm : Bytes) (o : Option Session) → NothingNew (drop_by app s pterm o).after
  drop_there pterm None = stays
  drop_there pterm (Some v) = off_there pterm v.user

  tick_there : (ticks clock : ℕ) (b : Bool) → NothingNew (tick_by app s ticks clock b).after
  tick_there ticks clock true = λ user tac there. there
  tick_there ticks clock false = stays

  restart_there : NothingNew (started app (durable app.generation s.tables))
  unfolding started
  restart_there user tac (inl row) = inl (durable_row_there app.generation s.tables (Dialogue user) tac row)
  restart_there user tac (inr transaction) = absurd (started_open app user tac (durable app.generation s.tables).services transaction)

  command_brings : HasFacts app s → (c : Command) → (user tac : Bytes) → IsThere (command_of app s c).after user tac → WasThereOrBegins app s (command_of app s c) user tac
  unfolding command_of
  command_brings facts (Input pterm text) = used_there pterm text (use_now app s pterm text) refl
  command_brings facts (Tick ticks) = λ user tac there. inl (tick_there ticks (s.tables.clock + ticks) (nat_le (s.tables.clock + ticks) last_clock) user tac there)
  command_brings facts (Run turns) = λ user tac there. inl there
  command_brings facts (Turn task) = turn_fine app s task (λ id x e. (facts.0.rooted id x e).began)
  command_brings facts (Drop pterm) = λ user tac there. inl (drop_there pterm (find bytes_cmp pterm s.signed) user tac there)
  command_brings facts (Print pterm) = λ user tac there. inl (shows_there (lterm_at app pterm) _ _ user tac there)
  command_brings facts (PrintLast pterm) = λ user tac there. inl (again_stays NothingNew s stays _ _ (shown_of s.tables (lterm_at app pterm)) user tac there)
  command_brings facts Restart = λ user tac there. inl (restart_there user tac there)

  -- ---- what is begun is allowed

  begun_allowed : HasFacts app s → (d : ScriptStep) (user lterm tac : Bytes) → Begins app s d user lterm tac → denial_of app.generation user lterm tac ≡ None
  begun_allowed facts d user lterm tac (inl b) =
      ap (λ (u : Bytes). denial_of app.generation u lterm tac) (sym b.who)
      ∙ ap (λ (l : Bytes). denial_of app.generation (user_at s b.pterm) l tac) (sym b.where_at)
      ∙ start_allowed app s b.pterm b.text tac b.message b.meant
  begun_allowed facts d user lterm tac (inr b) =
      ap (λ (u : Bytes). denial_of app.generation u lterm tac) (facts.1.transactions (Dialogue user) b.own b.was_open).owner
      ∙ ap (λ (l : Bytes). denial_of app.generation b.own.user l tac) (sym b.where_at)
      ∙ follow_allowed app false b.own tac (told_here app s (Dialogue user) b.own) b.ends

pub turns_keep_access : TurnsKeepAccess
turns_keep_access app s task facts = record {
  begins = turn_fine app s task (λ id x e. (facts.0.rooted id x e).began);
  allowed = begun_allowed app s facts (turned_step (turn_of app s task));
  denials = λ pterm text is. answers_denials app s pterm text;
}

pub commands_keep_access : CommandsKeepAccess
commands_keep_access app s c facts = record {
  begins = command_brings app s facts c;
  allowed = begun_allowed app s facts (command_of app s c);
  denials = λ pterm text is. answers_denials app s pterm text;
}
