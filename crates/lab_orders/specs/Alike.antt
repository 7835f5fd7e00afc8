-- What the code keeps of turns that lead into a RUN, by which it tells whether others are as good.
use Rattle.std.specs.Prelude.{◌≡◌, ◌+◌, ◌≤◌, ℕ, false, List, ◌++◌, length, Option, IfSome}
use Rattle.std.specs.List.{list_any}
use Rattle.kdcs_types.specs.Tables.{TableRows}
use Rattle.abstract_monitor.specs.declared.command.Command.{Command}
use Rattle.abstract_monitor.specs.Commands.{ScriptStep, started}
use Rattle.abstract_monitor.specs.State.{Application, State}
use Rattle.laws_of_states.specs.Keeping.{HasFacts}
use Rattle.laws_of_runs.specs.Replays.{AllReplay}
use Rattle.monitor_core.specs.CoreValue.{CoreValue}
use Rattle.lab_states.specs.Outlines.{outlined}
use Rattle.lab_walks.specs.Ahead.{Arrived, IsWhole, sent_over}
use Rattle.lab_walks.specs.Outcomes.{by_name}
use Rattle.lab_walks.specs.Serial.{is_serial_along}
use Rattle.lab_walks.specs.Signs.{has_work, is_dump_along, is_k04, is_k05, is_refused_along}
use Rattle.lab_orders.specs.declared.key.Key.{Key}
use Rattle.lab_orders.specs.declared.path.Path.{Path}
use Rattle.lab_orders.specs.declared.reach.Place.{Place}
use Rattle.lab_orders.specs.declared.reach.Place.TheVariants.{Inside}

-- the key is that of these turns
pub record IsKeyed (app : Application) (t : TableRows) (script : List Command) (taken : List ℕ) (key : Key) : Type 0 where
  -- the commands up to the RUN, and those behind it
  pub front : List Command
  pub cs : List Command
  pub split : script ≡ front ++ cs
  pub behind : key.behind ≡ length cs
  pub s : State
  pub steps : List ScriptStep
  pub ends : List State
  pub arrived : Arrived app script (started app t) taken (key.left + 1) key.room cs s steps ends
  pub facts : HasFacts app s
  pub replays : AllReplay app s
  pub outline : key.outline ≡ outlined s
  pub lines : key.lines ≡ by_name (sent_over steps)
  pub whole : IsWhole (sent_over steps)
  pub k04 : key.signs.k04 ≡ is_refused_along is_k04 steps
  pub k05 : key.signs.k05 ≡ is_refused_along is_k05 steps
  pub dump : key.signs.dump ≡ is_dump_along steps
  pub serial : key.serial ≡ is_serial_along steps
  -- no work was left where a RUN ended
  pub rest : list_any (has_work app) ends ≡ false

-- if there is one
abbrev pub IsKeyedIf : Application → TableRows → List Command → (taken : List ℕ) → Option Key → Type 0
IsKeyedIf app t script taken key = IfSome key (IsKeyed app t script taken)

-- it is made of this core and path, in this place
pub record IsMadeOf (d : CoreValue) (p : Path) (place : Place) (key : Key) : Type 0 where
  pub place_is : place ≡ Inside key.left key.room key.behind
  pub outline : key.outline ≡ outlined d.state
  pub lines : key.lines ≡ by_name p.sent
  pub whole : IsWhole p.sent
  pub signs : key.signs ≡ p.signs
  pub serial : key.serial ≡ p.serial

-- the first is as good as the other: both say the same, and with the first there may have been no fewer turns without effect
pub record IsNoWorse (k l : Key) : Type 0 where
  pub left : k.left ≡ l.left
  pub behind : k.behind ≡ l.behind
  pub outline : k.outline ≡ l.outline
  pub lines : k.lines ≡ l.lines
  pub k04 : k.signs.k04 ≡ l.signs.k04
  pub k05 : k.signs.k05 ≡ l.signs.k05
  pub dump : k.signs.dump ≡ l.signs.dump
  pub serial : k.serial ≡ l.serial
  pub room : l.room ≤ k.room
