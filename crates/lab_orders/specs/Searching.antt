-- What the code of a search comes to along the turns of a walk.
use Rattle.std.specs.Prelude.{◌≡◌, ◌*◌, ◌+◌, ◌<◌, ◌≤◌, ◌^◌, ℕ, Bool, true, false, List, [], ◌∷◌, ◌++◌, length, Option, Some, None, sum_by}
use Rattle.std.specs.List.{list_any}
use Rattle.kdcs_types.specs.Tables.{TableRows}
use Rattle.abstract_monitor.specs.declared.command.Command.{Command}
use Rattle.abstract_monitor.specs.Commands.{ScriptStep, started, state_after}
use Rattle.abstract_monitor.specs.State.{Application, State}
use Rattle.laws_of_states.specs.Keeping.{IsScriptOf}
use Rattle.laws_of_states.specs.Suits.{Suits}
use Rattle.monitor_core.specs.CoreValue.{CoreValue}
use Rattle.lab_walks.specs.declared.frame.Frame.{Frame}
use Rattle.lab_orders.specs.declared.path.Path.{Path}
use Rattle.lab_orders.specs.declared.reach.Place.{Place}
use Rattle.lab_orders.specs.declared.reach.Place.TheVariants.{Inside, Ended, Worked}
use Rattle.lab_orders.specs.Performing.{ahead_at_end}
use Rattle.lab_orders.specs.Walking.{IsBeside, tries_of}
use Rattle.lab_walks.specs.Ahead.{Ahead, ahead, ahead_in, sent_over}
use Rattle.lab_walks.specs.Frames.{IsWay, turn_in, turns_in}
use Rattle.lab_walks.specs.Serial.{is_serial_along}
use Rattle.lab_walks.specs.Signs.{has_work, is_dump_along, is_k04, is_k05, is_refused_along}
use Rattle.lab_walks.specs.Walks.{Spot, InRun, AtEnd, stand, stand_run}

-- turns of a script from a state; it may be asked whether work is left where a RUN ends
pub record Quest : Type 0 where
  pub app : Application
  pub commands : List Command
  pub start : State
  pub frames : List Frame
  pub asks : Bool

abbrev pub place_of : Quest → Spot
place_of q = stand q.app q.commands q.start (turns_in q.frames)

-- the path tells what was sent and seen over all steps so far
pub record TellsAll (steps : List ScriptStep) (p : Path) : Type 0 where
  pub sent : p.sent ≡ sent_over steps
  pub k04 : p.signs.k04 ≡ is_refused_along is_k04 steps
  pub k05 : p.signs.k05 ≡ is_refused_along is_k05 steps
  pub dump : p.signs.dump ≡ is_dump_along steps
  pub serial : p.serial ≡ is_serial_along steps

-- steps, and states in which RUNs ended, and then what is left
abbrev pub done_and : List ScriptStep → List State → Ahead → Ahead
done_and steps ends left = (steps ++ left.0, ends ++ left.1)

-- some of them are done, and the rest leads on; where this is asked for, no work was left where a RUN ended
pub record Going (q : Quest) (Stand : List ℕ → Spot) (Left : List ℕ → Ahead) (s : State) (p : Path) (rest : List Frame) : Type 0 where
  pub done : List Frame
  pub split : q.frames ≡ done ++ rest
  pub spot : (o : List ℕ) → stand q.app q.commands q.start (turns_in done ++ o) ≡ Stand o
  pub steps : List ScriptStep
  pub ends : List State
  pub ahead_is : (o : List ℕ) → ahead q.app q.start q.commands (turns_in done ++ o) ≡ done_and steps ends (Left o)
  pub state : s ≡ state_after q.start steps
  pub told : TellsAll steps p
  pub no_work : q.asks ≡ true → list_any (has_work q.app) ends ≡ false

-- between two commands, in a RUN, and where one ends
abbrev pub GoesOn : Quest → Application → State → List Command → Path → List Frame → Type 0
GoesOn q app s cs p rest = Going q (stand app cs s) (ahead app s cs) s p rest

abbrev pub GoesInRun : Quest → Application → State → (turns room : ℕ) → List Command → Path → List Frame → Type 0
GoesInRun q app s turns room cs p rest = Going q (stand_run app turns room (stand app cs) s) (ahead_in app s turns cs) s p rest

abbrev pub GoesToEnd : Quest → Application → State → List Command → Path → List Frame → Type 0
GoesToEnd q app s cs p rest = Going q (stand app cs s) (ahead_at_end app s cs) s p rest

-- in a RUN with so many commands behind it, and no turn is left
abbrev pub StopsIn : Quest → List Command → (later : ℕ) → CoreValue → Path → (left room behind : ℕ) → Type 0
StopsIn q cs later d p left room behind = (behind ≡ later) × GoesInRun q d.application d.state (left + 1) room cs p []

-- the turns of a RUN were done, or the turns end in it
abbrev pub RanOrStops : Quest → List Command → (later : ℕ) → CoreValue → Path → List Frame → Option Place → Type 0
RanOrStops q cs later d p rest None = GoesToEnd q d.application d.state cs p rest
RanOrStops q cs later d p rest (Some (Inside left room behind)) = StopsIn q cs later d p left room behind
RanOrStops q cs later d p rest (Some Ended) = ⊥
RanOrStops q cs later d p rest (Some Worked) = ⊥

-- a command was done, or the turns end in it, or work is left behind it
abbrev pub WentOrEnds : Quest → List Command → (later : ℕ) → CoreValue → Path → List Frame → Option Place → Type 0
WentOrEnds q cs later d p rest None = GoesOn q d.application d.state cs p rest
WentOrEnds q cs later d p rest (Some (Inside left room behind)) = StopsIn q cs later d p left room behind
WentOrEnds q cs later d p rest (Some Ended) = ⊥
WentOrEnds q cs later d p rest (Some Worked) = q.asks ≡ true

-- so many turns without effect can be counted
abbrev pub CanCount : Place → Type 0
CanCount (Inside left room behind) = room ≤ 7 * 10 ^ 18
CanCount Ended = Unit {0}
CanCount Worked = Unit {0}

abbrev pub CanCountIf : Option Place → Type 0
CanCountIf None = Unit {0}
CanCountIf (Some place) = CanCount place

-- where work was left, the core is no more beside the path
abbrev pub IsBesideAt : CoreValue → Path → Place → Type 0
IsBesideAt d p (Inside left room behind) = IsBeside d p
IsBesideAt d p Ended = IsBeside d p
IsBesideAt d p Worked = Unit {0}

abbrev pub IsBesideIf : CoreValue → Path → Option Place → Type 0
IsBesideIf d p None = IsBeside d p
IsBesideIf d p (Some place) = IsBesideAt d p place

pub record WentRun (c : CoreValue) (before : Path) (turns later : ℕ) (rest : List Frame) (d : CoreValue) (after : Path) (behind : List Frame) (place : Option Place) : Type 0 where
  pub application : d.application ≡ c.application
  pub beside : IsBeside d after
  pub few : CanCountIf place
  pub went : (q : Quest) (cs : List Command) → q.app ≡ c.application → IsWay q.app q.commands q.start q.frames → GoesInRun q c.application c.state turns 0 cs before rest → RanOrStops q cs later d after behind place

pub record WentCommand (asks : Bool) (c : CoreValue) (before : Path) (command : Command) (later : ℕ) (rest : List Frame) (d : CoreValue) (after : Path) (behind : List Frame) (place : Option Place) : Type 0 where
  pub application : d.application ≡ c.application
  pub beside : IsBesideIf d after place
  pub few : CanCountIf place
  pub went : (q : Quest) (cs : List Command) → q.app ≡ c.application → q.asks ≡ asks → IsWay q.app q.commands q.start q.frames → GoesOn q c.application c.state (command ∷ cs) before rest → WentOrEnds q cs later d after behind place

-- each turn is that of a task, or 0
pub record IsTaken (app : Application) (f : Frame) : Type 0 where
  pub at : f.at < length f.choices
  pub within : turn_in f ≤ app.generation.limits.tasks

-- the turns lead into a RUN of the script, with so many commands behind it
pub record IsInside (q : Quest) (d : CoreValue) (p : Path) (left room behind : ℕ) : Type 0 where
  pub front : List Command
  pub cs : List Command
  pub parts : q.commands ≡ front ++ cs
  pub stops : StopsIn q cs (length cs) d p left room behind

-- the turns lead to this place
abbrev pub Reached : Quest → CoreValue → Path → Place → Type 0
Reached q d p (Inside left room behind) = IsInside q d p left room behind
Reached q d p Ended = place_of q ≡ AtEnd d.state
Reached q d p Worked = q.asks ≡ true

pub record Followed (asks : Bool) (c : CoreValue) (before : Path) (commands : List Command) (frames : List Frame) (d : CoreValue) (after : Path) (place : Place) : Type 0 where
  pub application : d.application ≡ c.application
  pub beside : IsBesideAt d after place
  pub steps : d.steps ≤ c.steps + sum_by tries_of commands
  pub few : CanCount place
  pub reached : (q : Quest) → q.app ≡ c.application → q.commands ≡ commands → q.asks ≡ asks → IsWay q.app q.commands q.start q.frames → GoesOn q c.application c.state commands before frames → Reached q d after place

-- a script that can start again from these tables
pub record CanGo (app : Application) (t : TableRows) (commands : List Command) : Type 0 where
  pub suits : Suits app.generation t
  pub names : IsScriptOf app commands
  pub tries : sum_by tries_of commands ≤ 10 ^ 14

-- the state that turns lead to
abbrev pub state_at : Spot → State
state_at (InRun left room s) = s
state_at (AtEnd s) = s

abbrev pub quest_of : Application → List Command → TableRows → List Frame → (asks : Bool) → Quest
quest_of app commands t frames asks = record { app = app; commands = commands; start = started app t; frames = frames; asks = asks }
