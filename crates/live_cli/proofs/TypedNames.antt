-- The commands of typed lines are those of a script of the generation's names.
use Rattle.std.proofs.Common.{◌≡◌, ⊎_elim, ℕ, List, [], ◌∷◌, Bool, true, false, Ok, Err, refl}
use Rattle.std.specs.Prelude.{All, ◌&&◌, Result}
use Rattle.std.specs.List.{list_any}
use Rattle.std.proofs.lemmas.List.Elements.{All-append, All-cons, All-nil}
use Rattle.kdcs_types.specs.Tables.{IsSortedTables, TableRows}
use Rattle.abstract_monitor.specs.Commands.{started}
use Rattle.abstract_monitor.specs.CommandsOf.{IsCommandOf}
use Rattle.abstract_monitor.specs.State.{Application}
use Rattle.abstract_monitor.specs.Trace.{trace}
use Rattle.abstract_monitor.specs.declared.command.Command.{Command}
use Rattle.abstract_monitor.specs.declared.command.Command.TheVariants.{Run}
use Rattle.laws_of_states.specs.Suits.{Suits}
use Rattle.script_read.specs.Commands.{script_in}
use Rattle.script_read.specs.Spelling.{CommandsOnly}
use Rattle.script_read.specs.declared.fault.ScriptFault.{ScriptFault}
use Rattle.typed_lines.specs.Commands.{is_input, run_behind, turns_added}
use Rattle.typed_lines.specs.Typing.{typed_of}
use Rattle.typed_lines.specs.declared.typed.Typed.{Typed}
use Rattle.typed_lines.specs.declared.typed.Typed.TheVariants as asks
use Rattle.call_ends.specs.OpenedLaws.{opened_one, opened_two}
use Rattle.call_parts.proofs.Scripts.{script_names}
use Rattle.call_parts.specs.Asking.{Errand, app_of}
use Rattle.live_run.specs.Sessions.{AreWoven, Exchange, Session, commands_asked, commands_of_line, commands_said, session_after, session_commands, session_from}
use Rattle.live_run.specs.WovenLaws.{session_is_woven}
use Rattle.live_cli.specs.Living.{acts_lived}
use Rattle.live_cli.specs.LivesLawfully.{GoesOnFrom, commands_lived}

-- ---- names

module _ (app : Application) (only : CommandsOnly) where
  behind_names : (works : Bool) → All (IsCommandOf app.generation) (run_behind works)
  behind_names true = All-cons (IsCommandOf app.generation) (Run 1000000) [] tt (All-nil (IsCommandOf app.generation))
  behind_names false = All-nil (IsCommandOf app.generation)

  said_names : (auto : Bool) (line : List ℕ) (said : Result (List Command) ScriptFault) → script_in app.generation line ≡ said → All (IsCommandOf app.generation) (commands_said (turns_added auto said))
  said_names auto line (Ok commands) is = All-append (IsCommandOf app.generation) commands (run_behind (auto && list_any is_input commands)) (script_names app.generation only line commands is) (behind_names (auto && list_any is_input commands))
  said_names auto line (Err fault) is = All-nil (IsCommandOf app.generation)

  asked_names : (v : Session) (line : List ℕ) (asked : Typed) → All (IsCommandOf app.generation) (commands_asked app v line asked)
  asked_names v line (asks.Question question) = All-nil (IsCommandOf app.generation)
  asked_names v line (asks.Switch switch) = All-nil (IsCommandOf app.generation)
  asked_names v line asks.Script = said_names v.auto line (script_in app.generation line) refl

  pub session_names : (v : Session) (exchanges : List Exchange) → All (IsCommandOf app.generation) (session_commands app v exchanges)
  unfolding session_commands commands_of_line
  session_names v [] = All-nil (IsCommandOf app.generation)
  session_names v (x ∷ exchanges) = All-append (IsCommandOf app.generation) (commands_asked app v x.line (typed_of x.line)) (session_commands app (session_after app v x.line) exchanges) (asked_names v x.line (typed_of x.line)) (session_names (session_after app v x.line) exchanges)

-- ---- tables

pub goes_on : (e : Errand) (t : TableRows) → GoesOnFrom e t → IsSortedTables t × Suits e.application.generation t
goes_on e t from = ⊎_elim (λ one. opened_one e one.0 t one.1) (λ two. opened_two e two.0 t two.1) from

-- ---- acts

pub lived_woven : (e : Errand) (t : TableRows) (exchanges : List Exchange) → AreWoven (trace (app_of e) t (commands_lived e t exchanges)) (acts_lived e t exchanges)
unfolding trace
lived_woven e t exchanges = session_is_woven (app_of e) (session_from (started (app_of e) t)) exchanges
