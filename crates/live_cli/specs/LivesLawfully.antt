-- The laws that commands keep which are typed.
use Rattle.std.specs.Prelude.{◌⊎◌, ℕ, List, Ok}
use Rattle.kd_device.specs.Room.{RoomState}
use Rattle.kd_device.specs.Twin.{Both}
use Rattle.kdcs_types.specs.Tables.{TableRows}
use Rattle.abstract_monitor.specs.Commands.{started}
use Rattle.abstract_monitor.specs.Trace.{trace}
use Rattle.abstract_monitor.specs.declared.command.Command.{Command}
use Rattle.call_ends.specs.LawfulRuns.{RunsLawfully}
use Rattle.call_parts.specs.Asking.{Errand, app_of}
use Rattle.call_parts.specs.Opening.{Opens, OpensTwo}
use Rattle.live_run.specs.Sessions.{AreWoven, Exchange, session_commands, session_from}
use Rattle.live_cli.specs.Living.{acts_lived}
use Rattle.live_cli.specs.Promise.{LiveReads}
use Rattle.live_cli.specs.PromiseTwo.{LiveReadsTwo}

-- tables with which one file or two are opened
abbrev pub GoesOnFrom : Errand → TableRows → Type 0
GoesOnFrom e t = ((bytes : List ℕ) × Opens e bytes t) ⊎ ((a : Both) × OpensTwo e a t)

-- the commands of lines that are typed at the monitor which begins with them
abbrev pub commands_lived : Errand → TableRows → List Exchange → List Command
commands_lived e t exchanges = session_commands (app_of e) (session_from (started (app_of e) t)) exchanges

-- the commands of the lines run lawfully, and the acts of the session are those of the trace of these commands, with answers and refusals between
pub record LivesLawfully (e : Errand) (t : TableRows) (exchanges : List Exchange) : Type 0 where
  pub laws : RunsLawfully (app_of e) t (commands_lived e t exchanges)
  pub woven : AreWoven (trace (app_of e) t (commands_lived e t exchanges)) (acts_lived e t exchanges)

-- whatever lines are typed, where texts are accepted, from tables with which files are opened
abbrev pub SessionsLiveLawfully : Type 0
SessionsLiveLawfully =
    (words : List (List ℕ)) (room : RoomState) (e : Errand) → LiveReads words room (Ok e) ⊎ LiveReadsTwo words room (Ok e) → (t : TableRows) → GoesOnFrom e t → (exchanges : List Exchange) → LivesLawfully e t exchanges
