-- What a listener hears of commands and their steps.
use Rattle.std.specs.Prelude.{◌≡◌, ⊤, ℕ, List, [], ◌∷◌, ◌++◌, length}
use Rattle.kdcs_types.specs.declared.act.Act.{Act}
use Rattle.abstract_monitor.specs.declared.command.Command.{Command}
use Rattle.abstract_monitor.specs.declared.command.Command.TheVariants.{Input, Tick, Run, Turn, Drop, Print, PrintLast, Restart}
use Rattle.abstract_monitor.specs.Commands.{ScriptStep, state_after, steps_of}
use Rattle.abstract_monitor.specs.State.{Application, State}
use Rattle.lab_turns.specs.declared.run_end.RunEnd.{RunEnd}
use Rattle.lab_turns.specs.declared.run_end.RunEnd.TheVariants.{Idle, Waiting, Spent}
use Rattle.lab_turns.specs.declared.view.TurnView.{TurnView}

-- what is heard of, one after another
pub data Heard : Type 0 where
  -- a command will be performed
  Asked : Command → Heard
  -- a turn was done: what is seen of it, the state after it, and its acts
  Turned : TurnView → State → List Act → Heard
  -- another command was done: the state after it, and its acts
  Done : State → List Act → Heard
  -- a RUN is over, after so many turns
  Over : (turns : ℕ) → RunEnd → Heard

-- a step was heard of: the state after it, and its acts
abbrev pub IsStep : Heard → ScriptStep → Type 0
IsStep (Asked command) d = ⊥
IsStep (Turned view after acts) d = (after ≡ d.after) × (acts ≡ d.acts)
IsStep (Done after acts) d = (after ≡ d.after) × (acts ≡ d.acts)
IsStep (Over turns end) d = ⊥

-- each of these steps was heard of, once and in its order, and nothing else was
unfoldable pub AreSteps : List Heard → List ScriptStep → Type 0
AreSteps [] [] = ⊤
AreSteps [] (d ∷ ds) = ⊥
AreSteps (h ∷ hs) [] = ⊥
AreSteps (h ∷ hs) (d ∷ ds) = IsStep h d × AreSteps hs ds

-- a RUN of so many turns ended so in this state, after so many
abbrev pub EndsSo : (all : ℕ) → State → (done : ℕ) → RunEnd → Type 0
EndsSo all s done Idle = s.waits ≡ []
EndsSo all s done (Waiting services) = services ≡ length s.waits
EndsSo all s done Spent = done ≡ all

-- behind the turns of a RUN it is heard how many there were, and how they ended; behind the step of another command nothing is
abbrev pub IsEnding : Command → State → (done : ℕ) → List Heard → Type 0
IsEnding (Run turns) s done tail = (end : RunEnd) × EndsSo turns s done end × (tail ≡ Over done end ∷ [])
IsEnding (Input pterm text) s done tail = tail ≡ []
IsEnding (Tick ticks) s done tail = tail ≡ []
IsEnding (Turn task) s done tail = tail ≡ []
IsEnding (Drop pterm) s done tail = tail ≡ []
IsEnding (Print pterm) s done tail = tail ≡ []
IsEnding (PrintLast pterm) s done tail = tail ≡ []
IsEnding Restart s done tail = tail ≡ []

-- all that is heard of a command in this state: itself, each of its steps, and how it ended
pub record TellsCommand (app : Application) (s : State) (command : Command) (tale : List Heard) : Type 0 where
  pub own : List Heard
  pub tail : List Heard
  pub steps : AreSteps own (steps_of app s command)
  pub ending : IsEnding command (state_after s (steps_of app s command)) (length own) tail
  pub all : tale ≡ Asked command ∷ own ++ tail

-- all that is heard of the commands of a script, one after the other
unfoldable pub TellsScript : Application → State → List Command → List Heard → Type 0
TellsScript app s [] tale = tale ≡ []
TellsScript app s (c ∷ cs) tale =
    (first rest : List Heard) × TellsCommand app s c first × TellsScript app (state_after s (steps_of app s c)) cs rest × (tale ≡ first ++ rest)

-- a listener heard all that is to be heard of a command
abbrev pub HearsCommand : {L : Type 0} → (hears : L → List Heard → L → Type 0) → Application → State → Command → L → L → Type 0
HearsCommand hears app s command a b = (tale : List Heard) × TellsCommand app s command tale × hears a tale b

-- and of a script
abbrev pub HearsScript : {L : Type 0} → (hears : L → List Heard → L → Type 0) → Application → State → List Command → L → L → Type 0
HearsScript hears app s commands a b = (tale : List Heard) × TellsScript app s commands tale × hears a tale b
