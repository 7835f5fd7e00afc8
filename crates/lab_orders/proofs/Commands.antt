-- Commands of a search.
use Rattle.std.proofs.Common.{◌≡◌, ℕ, ◌+◌, ◌<◌, List, [], ◌∷◌, ◌++◌, refl, sym, ap, subst, ◌∙◌, get_or, drop, length}
use Rattle.std.specs.Prelude.{Bool, true, false, ◌&&◌, ◌||◌, nat_le, Option, Some, None, sum_by}
use Rattle.std.specs.FinMap.{find}
use Rattle.kd_base.specs.Limits.{last_clock}
use Rattle.kdcs_types.specs.declared.key.ServiceId.TheVariants.{Dialogue}
use Rattle.kdcs_types.specs.declared.service.Job.{Job}
use Rattle.kdcs_types.specs.declared.service.JobValue.{JobValue}
use Rattle.kdcs_types.specs.declared.service.Service.{Service}
use Rattle.std.proofs.lemmas.List.Sums.{sum_by-cons}
use Rattle.std.proofs.lemmas.List.{drop_more}
use Rattle.kdcs_types.specs.declared.act.Act.{Act}
use Rattle.kdcs_types.specs.Tables.{TableRows, service_of, shown_of}
use Rattle.abstract_monitor.specs.Bytes.{bytes_cmp}
use Rattle.abstract_monitor.specs.CommandsOf.{IsCommandOf}
use Rattle.abstract_monitor.specs.declared.command.Command.{Command}
use Rattle.abstract_monitor.specs.declared.command.Command.TheVariants.{Input, Tick, Run, Turn, Drop, Print, PrintLast, Restart}
use Rattle.abstract_monitor.specs.Commands.{ScriptStep, command_of, display, drop_by, due_for, last_by, lterm_at, maker_of, show_again_by, show_by, show_next, signed_on_by, started, tick_by, turned_step, use_now, used, user_at}
use Rattle.abstract_monitor.specs.declared.input_use.Use.{Use}
use Rattle.abstract_monitor.specs.declared.input_use.Use.TheVariants.{Sign, SignRefused, SignFirst, AlreadySigned, Off, Display, Output, Again, Busy, TooLong, Next, Start, TacRefused}
use Rattle.abstract_monitor.specs.Lines.{asy_line, no_message_line, prt_line}
use Rattle.abstract_monitor.specs.Endings.{durable}
use Rattle.abstract_monitor.specs.State.{Application, Session, State}
use Rattle.abstract_monitor.specs.Trace.{bytes_of, tables_after}
use Rattle.abstract_monitor.specs.Turns.{Turned, turn_of}
use Rattle.laws_of_states.specs.DurableLaws.{durable_again}
use Rattle.laws_of_states.specs.Keeping.{HasFacts, IsScriptOf}
use Rattle.laws_of_runs.specs.Replays.{AllReplay}
use Rattle.laws_of_states.specs.Steps.{CommitsOnce, StepsMakeTheirTables}
use Rattle.laws_of_states.specs.TablesStayLaws.{started_tables}
use Rattle.monitor_core.specs.Commanding.{Comes, IsCoreCommand}
use Rattle.monitor_core.specs.CoreSteps.{durable_of}
use Rattle.monitor_core.specs.CoreValue.{CoreValue}
use Rattle.monitor_core.specs.Keeping.{AreKept}
use Rattle.monitor_core.specs.KeepingLaws.{acts_are_kept as kept_acts, durable_after as changed_tables}
use Rattle.service_ends.specs.declared.turned.Turned.{Turned as Did}
use Rattle.service_ends.specs.Ending.{turned_to}
use Rattle.lab_orders.specs.declared.path.Path.{Path}
use Rattle.lab_walks.specs.declared.signs.Signs.{Signs}
use Rattle.lab_walks.specs.Serial.{is_one_at_a_time}
use Rattle.lab_walks.specs.Signs.{is_dump, is_k04, is_k05, is_refused_in}
use Rattle.lab_orders.specs.Walking.{DidCommand, IsBeside, IsNoRun, IsSeen, tries_of}

-- ---- the durable tables

-- a step with its durable tables
module _ (make : StepsMakeTheirTables) (c d : CoreValue) (step : ScriptStep) (facts : HasFacts c.application c.state) (later : HasFacts d.application d.state) (same : d.application ≡ c.application) (state : d.state ≡ step.after) (once : CommitsOnce c.application c.state step) where
  pub acts_are_kept : (acts : List Act) → acts ≡ step.acts → AreKept acts
  acts_are_kept acts are = kept_acts make c d step facts.1.order later.1.order same state once acts are

  pub durable_after : (before after : TableRows) (acts : List Act) → before ≡ durable_of c → acts ≡ step.acts → after ≡ tables_after before acts → after ≡ durable_of d
  durable_after before after acts beside are is = changed_tables make c d step facts.1.order later.1.order same state once acts are before after beside is

-- ---- what is seen

dumps_sign : (app : Application) (s : State) (pterm user lterm : List ℕ) (o : Option Service) → is_dump (signed_on_by app s pterm user lterm o).by ≡ false
dumps_sign app s pterm user lterm None = refl
dumps_sign app s pterm user lterm (Some row) = refl

dumps_display : (s : State) (pterm : List ℕ) (o : Option (List ℕ)) → is_dump (display s pterm o).by ≡ false
dumps_display s pterm None = refl
dumps_display s pterm (Some message) = refl

dumps_show : (app : Application) (s : State) (lterm none : List ℕ) (line : List ℕ → List ℕ) (o : Option Job) → is_dump (show_by app s lterm none line o).by ≡ false
dumps_show app s lterm none line None = refl
dumps_show app s lterm none line (Some job) = refl

dumps_again : (s : State) (none : List ℕ) (line : List ℕ → List ℕ) (o : Option JobValue) → is_dump (show_again_by s none line o).by ≡ false
dumps_again s none line None = refl
dumps_again s none line (Some value) = refl

dumps_drop : (app : Application) (s : State) (pterm : List ℕ) (o : Option Session) → is_dump (drop_by app s pterm o).by ≡ false
dumps_drop app s pterm None = refl
dumps_drop app s pterm (Some v) = refl

dumps_tick : (app : Application) (s : State) (ticks clock : ℕ) (b : Bool) → is_dump (tick_by app s ticks clock b).by ≡ false
dumps_tick app s ticks clock true = refl
dumps_tick app s ticks clock false = refl

dumps_used : (app : Application) (s : State) (pterm lterm user : List ℕ) (asked : Use) → is_dump (used app s pterm lterm user asked).by ≡ false
unfolding used show_next
dumps_used app s pterm lterm user (Sign name) = dumps_sign app s pterm name (lterm_at app pterm) (service_of s.tables (Dialogue name))
dumps_used app s pterm lterm user (SignRefused fault) = refl
dumps_used app s pterm lterm user SignFirst = refl
dumps_used app s pterm lterm user AlreadySigned = refl
dumps_used app s pterm lterm user Off = refl
dumps_used app s pterm lterm user Display = dumps_display s pterm (last_by (find bytes_cmp pterm s.signed))
dumps_used app s pterm lterm user Output = dumps_show app s lterm (no_message_line pterm) (asy_line pterm) (due_for s lterm)
dumps_used app s pterm lterm user Again = dumps_again s (no_message_line pterm) (asy_line pterm) (shown_of s.tables lterm)
dumps_used app s pterm lterm user Busy = refl
dumps_used app s pterm lterm user TooLong = refl
dumps_used app s pterm lterm user (Next text) = refl
dumps_used app s pterm lterm user (Start tac text) = refl
dumps_used app s pterm lterm user (TacRefused fault) = refl

-- a turn alone ends with a dump
no_dump : (app : Application) (s : State) (c : Command) → IsCoreCommand c → is_dump (command_of app s c).by ≡ false
unfolding command_of show_next
no_dump app s (Input pterm text) core = dumps_used app s pterm (lterm_at app pterm) (user_at s pterm) (use_now app s pterm text)
no_dump app s (Tick ticks) core = dumps_tick app s ticks (s.tables.clock + ticks) (nat_le (s.tables.clock + ticks) last_clock)
no_dump app s (Run turns) core = absurd core
no_dump app s (Turn task) core = absurd core
no_dump app s (Drop pterm) core = dumps_drop app s pterm (find bytes_cmp pterm s.signed)
no_dump app s (Print pterm) core = dumps_show app s (lterm_at app pterm) (no_message_line pterm) (prt_line pterm) (due_for s (lterm_at app pterm))
no_dump app s (PrintLast pterm) core = dumps_again s (no_message_line pterm) (prt_line pterm) (shown_of s.tables (lterm_at app pterm))
no_dump app s Restart core = absurd core

module _ (before after : Signs) (now : State) (k04 : after.k04 ≡ (before.k04 || is_refused_in is_k04 now)) (k05 : after.k05 ≡ (before.k05 || is_refused_in is_k05 now)) where
  pub seen_turn : (app : Application) (s : State) (task : ℕ) (did : Did) → turned_to now did ≡ turn_of app s task → after.dump ≡ (before.dump || is_dump (maker_of did.settled)) → IsSeen before (command_of app s (Turn task)) after
  unfolding command_of
  seen_turn app s task did e dump = record {
    k04 = k04 ∙ ap (λ (t : Turned). before.k04 || is_refused_in is_k04 t.after) e;
    k05 = k05 ∙ ap (λ (t : Turned). before.k05 || is_refused_in is_k05 t.after) e;
    dump = dump ∙ ap (λ (t : Turned). before.dump || is_dump (maker_of t.settled)) e;
  }

  seen_none : (d : ScriptStep) → now ≡ d.after → is_dump d.by ≡ false → after.dump ≡ (before.dump || false) → IsSeen before d after
  seen_none d is none dump = record {
    k04 = k04 ∙ ap (λ (u : State). before.k04 || is_refused_in is_k04 u) is;
    k05 = k05 ∙ ap (λ (u : State). before.k05 || is_refused_in is_k05 u) is;
    dump = dump ∙ ap (λ (b : Bool). before.dump || b) (sym none);
  }

  pub seen_command : (app : Application) (s : State) (c : Command) → IsCoreCommand c → now ≡ (command_of app s c).after → after.dump ≡ (before.dump || false) → IsSeen before (command_of app s c) after
  seen_command app s c core is dump = seen_none (command_of app s c) is (no_dump app s c core) dump

  pub seen_restart : (app : Application) (s : State) → now ≡ (command_of app s Restart).after → after.dump ≡ (before.dump || false) → IsSeen before (command_of app s Restart) after
  unfolding command_of
  seen_restart app s is dump = seen_none (command_of app s Restart) is refl dump

-- ---- one command

pub did_command : (make : StepsMakeTheirTables) (c d : CoreValue) (command : Command) (before after : Path) → IsBeside c before → HasFacts d.application d.state → AllReplay d.application d.state → d.application ≡ c.application
    → CommitsOnce c.application c.state (command_of c.application c.state command) → (acts : List Act) → Comes d.state acts (command_of c.application c.state command)
    → after.turns ≡ before.turns → after.sent ≡ before.sent ++ bytes_of acts → after.durable ≡ tables_after before.durable acts → IsSeen before.signs (command_of c.application c.state command) after.signs → after.serial ≡ (before.serial && is_one_at_a_time d.state) → DidCommand c before command d after
did_command make c d command before after beside facts replays same once acts comes turns sent durable_is seen serial = record {
  application = same;
  beside = record { facts = facts; replays = replays; durable = durable_after make c d (command_of c.application c.state command) beside.facts facts same comes.state once before.durable after.durable acts beside.durable comes.acts durable_is };
  state = comes.state;
  turns = turns;
  sent = sent ∙ ap (λ (l : List Act). before.sent ++ bytes_of l) comes.acts;
  signs = seen;
  serial = serial;
}

pub turn_comes : (app : Application) (s now : State) (task : ℕ) (did : Did) → turned_to now did ≡ turn_of app s task → Comes now did.acts (command_of app s (Turn task))
unfolding command_of
turn_comes app s now task did e = record { state = ap (λ (t : Turned). t.after) e; acts = ap (λ (t : Turned). t.acts) e }

pub turn_commits : (app : Application) (s : State) (task : ℕ) → CommitsOnce app s (turned_step (turn_of app s task)) → CommitsOnce app s (command_of app s (Turn task))
unfolding command_of
turn_commits app s task h = h

restart_state : (c : CoreValue) → (command_of c.application c.state Restart).after ≡ started c.application (durable_of c)
unfolding command_of
restart_state c = refl

restart_bytes : (app : Application) (s : State) → bytes_of (command_of app s Restart).acts ≡ 82 ∷ 69 ∷ 83 ∷ 84 ∷ 65 ∷ 82 ∷ 84 ∷ 10 ∷ []
unfolding command_of bytes_of
restart_bytes app s = refl

pub did_restart : (c d : CoreValue) (before after : Path) (sent : List ℕ) → IsBeside c before → d.application ≡ c.application → d.state ≡ started d.application before.durable → HasFacts d.application d.state → AllReplay d.application d.state
    → sent ≡ 82 ∷ 69 ∷ 83 ∷ 84 ∷ 65 ∷ 82 ∷ 84 ∷ 10 ∷ [] → after.sent ≡ before.sent ++ sent → after.turns ≡ before.turns → after.durable ≡ before.durable → after.signs.k04 ≡ (before.signs.k04 || is_refused_in is_k04 d.state) → after.signs.k05 ≡ (before.signs.k05 || is_refused_in is_k05 d.state) → after.signs.dump ≡ (before.signs.dump || false) → after.serial ≡ (before.serial && is_one_at_a_time d.state) → DidCommand c before Restart d after
did_restart c d before after sent beside app state facts replays line said turns durable_is k04 k05 dump serial = record {
  application = app;
  beside = record {
    facts = facts;
    replays = replays;
    durable =
        durable_is
        ∙ beside.durable
        ∙ sym (durable_again c.application.generation c.state.tables)
        ∙ ap (durable c.application.generation) (sym (started_tables c.application (durable_of c)))
        ∙ sym ((λ i. durable (app i).generation (state i).tables) ∙ (λ i. durable c.application.generation (started (app i) (beside.durable i)).tables));
  };
  state = there;
  turns = turns;
  sent = said ∙ ap (λ (l : List ℕ). before.sent ++ l) (line ∙ sym (restart_bytes c.application c.state));
  signs = seen_restart before.signs after.signs d.state k04 k05 c.application c.state there dump;
  serial = serial;
}
  where
    there : d.state ≡ (command_of c.application c.state Restart).after
    there = state ∙ (λ i. started (app i) (beside.durable i)) ∙ sym (restart_state c)

pub no_run : (c : Command) → ((turns : ℕ) → c ≡ Run turns → ⊥) → IsNoRun c
no_run (Run turns) not = not turns refl
no_run (Input pterm text) not = tt
no_run (Tick ticks) not = tt
no_run (Turn task) not = tt
no_run (Drop pterm) not = tt
no_run (Print pterm) not = tt
no_run (PrintLast pterm) not = tt
no_run Restart not = tt

pub one_try : (command : Command) → IsNoRun command → tries_of command ≡ 1
one_try (Run turns) h = absurd h
one_try (Input pterm text) h = refl
one_try (Tick ticks) h = refl
one_try (Turn task) h = refl
one_try (Drop pterm) h = refl
one_try (Print pterm) h = refl
one_try (PrintLast pterm) h = refl
one_try Restart h = refl

-- ---- a script

-- the command at a place, and those behind it
module _ (commands : List Command) (at : ℕ) (command : Command) (is : command ≡ get_or commands at command) (lt : at < length commands) where
  pub here_and_behind : drop at commands ≡ command ∷ drop (at + 1) commands
  here_and_behind = drop_more commands at command lt ∙ ap (λ (x : Command). x ∷ drop (at + 1) commands) (sym is)

  pub tries_here : sum_by tries_of (drop at commands) ≡ tries_of command + sum_by tries_of (drop (at + 1) commands)
  tries_here = ap (sum_by tries_of) here_and_behind ∙ sum_by-cons tries_of command (drop (at + 1) commands)

  pub name_here : (app later : Application) → later ≡ app → IsScriptOf app commands → IsCommandOf later.generation command
  name_here app later same names = subst (λ (x : Command). IsCommandOf later.generation x) (sym is) (subst (λ (a : Application). IsCommandOf a.generation (get_or commands at command)) (sym same) (names at command lt))
