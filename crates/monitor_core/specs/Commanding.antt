-- What a command of the code came to, as the definition says it.
use Rattle.std.specs.Prelude.{◌≡◌, ◌++◌, Bool, true, false, List, None, IsSome, codes}
use Rattle.std.specs.FinMap.{find}
use Rattle.kdcs_types.specs.declared.act.Act.{Act}
use Rattle.kdcs_types.specs.declared.key.ServiceId.{ServiceId}
use Rattle.kdcs_types.specs.declared.key.ServiceId.TheVariants.{Dialogue}
use Rattle.kdcs_types.specs.Keys.{id_cmp}
use Rattle.abstract_monitor.specs.declared.command.Command.{Command}
use Rattle.abstract_monitor.specs.declared.command.Command.TheVariants.{Input, Tick, Run, Turn, Drop, Print, PrintLast, Restart}
use Rattle.abstract_monitor.specs.declared.input_use.ServiceState.{ServiceState}
use Rattle.abstract_monitor.specs.declared.input_use.ServiceState.TheVariants.{NoService, Awaits}
use Rattle.abstract_monitor.specs.declared.input_use.Use.{Use}
use Rattle.abstract_monitor.specs.declared.input_use.Use.TheVariants.{Sign, Off, Next, Start}
use Rattle.abstract_monitor.specs.Bytes.{Bytes, bytes_cmp}
use Rattle.abstract_monitor.specs.Commands.{ScriptStep, held_tac, says, signed_off, user_at}
use Rattle.abstract_monitor.specs.Endings.{followed_by_input}
use Rattle.abstract_monitor.specs.Lines.{asy_line, prt_line, sys_line}
use Rattle.abstract_monitor.specs.Sessions.{is_running, service_state}
use Rattle.abstract_monitor.specs.State.{Application, OpenTransaction, State}
use Rattle.abstract_monitor.specs.Turns.{queued}
use Rattle.monitor_parts.specs.Signed.{CanSignOn}
use Rattle.monitor_core.specs.declared.showing.Shown.{Shown}
use Rattle.monitor_core.specs.declared.showing.Shown.TheVariants.{Terminal, Printer}

-- the state and the acts of the step
pub record Comes (now : State) (done : List Act) (step : ScriptStep) : Type 0 where
  pub state : now ≡ step.after
  pub acts : done ≡ step.acts

-- the service has no open transaction, and is neither ready nor in a task
pub record Rests (s : State) (id : ServiceId) : Type 0 where
  pub closed : find id_cmp id s.active ≡ None
  pub unplaced : is_running s id ≡ false

-- somebody is signed on at the PTERM, and the service of this user is in this state
pub record HasService (s : State) (pterm : Bytes) (service : ServiceState) : Type 0 where
  pub signed : IsSome (find bytes_cmp pterm s.signed)
  pub is : service_state s (user_at s pterm) ≡ service

-- what the use of an input says of the state: who signs on may do so, who signs off is signed on, and a service goes on where it awaits an input, and starts where there is none
abbrev pub IsFor : State → (pterm : Bytes) → Use → Type 0
IsFor s pterm (Sign name) = CanSignOn s.signed pterm name
IsFor s pterm Off = IsSome (find bytes_cmp pterm s.signed)
IsFor s pterm (Next text) = HasService s pterm Awaits
IsFor s pterm (Start tac text) = HasService s pterm NoService
IsFor s pterm _ = Unit {0}

-- no service reads the input
abbrev pub IsUnread : Use → Type 0
IsUnread (Next text) = ⊥
IsUnread (Start tac text) = ⊥
IsUnread _ = Unit {0}

-- KDCOFF of the user who is signed on at the PTERM
abbrev pub off_step : Application → State → (pterm : Bytes) → ScriptStep
off_step app s pterm = says (signed_off app s pterm (user_at s pterm)) (sys_line pterm (codes "SIGNED OFF " ++ user_at s pterm))

-- the open transaction of a dialogue service is at a PEND KP, and its follow-up reads the input
abbrev pub queued_with : Application → State → (user : Bytes) → OpenTransaction → (text : Bytes) → State
queued_with app s user x text = queued s (Dialogue user) (followed_by_input app.generation x (held_tac app x) text)

-- the commands of one step that are no turn and no restart
abbrev pub IsCoreCommand : Command → Type 0
IsCoreCommand (Input pterm text) = Unit {0}
IsCoreCommand (Tick ticks) = Unit {0}
IsCoreCommand (Run turns) = ⊥
IsCoreCommand (Turn task) = ⊥
IsCoreCommand (Drop pterm) = Unit {0}
IsCoreCommand (Print pterm) = Unit {0}
IsCoreCommand (PrintLast pterm) = Unit {0}
IsCoreCommand Restart = ⊥

-- PRINT, or PRINT LAST
abbrev pub printed : (again : Bool) → (pterm : Bytes) → Command
printed true pterm = PrintLast pterm
printed false pterm = Print pterm

-- the line of a job's message, at a terminal or at a printer
abbrev pub shown_line : Shown → (pterm message : Bytes) → Bytes
shown_line Terminal pterm message = asy_line pterm message
shown_line Printer pterm message = prt_line pterm message
