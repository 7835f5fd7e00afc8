-- What is still to come of a script after some turns, and turns that stand for others, since no more is to come after these.
use Rattle.std.specs.Prelude.{◌≡◌, ◌⊎◌, ◌≤◌, ℕ, List, [], ◌∷◌, ◌++◌}
use Rattle.std.specs.List.{list_any}
use Rattle.abstract_monitor.specs.declared.command.Command.{Command}
use Rattle.abstract_monitor.specs.Bytes.{Bytes}
use Rattle.abstract_monitor.specs.Commands.{ScriptStep, acts_of, state_after}
use Rattle.abstract_monitor.specs.State.{Application, State}
use Rattle.abstract_monitor.specs.Trace.{bytes_of, history}
use Rattle.lab_walks.specs.Orders.{order_steps, turned_run, turned_script}
use Rattle.lab_walks.specs.Outcomes.{by_name, result_of}
use Rattle.lab_walks.specs.Serial.{is_serial, is_serial_along}
use Rattle.lab_walks.specs.Signs.{has_work, is_dump_along, is_k04, is_k05, is_refused_along, run_end, run_ends}
use Rattle.lab_walks.specs.Walks.{CanBe, IsWalk, stand, stand_run}

-- the steps of a walk that are still to be done, and the states in which its RUNs are still to end
abbrev pub Ahead : Type 0
Ahead = List ScriptStep × List State

abbrev pub ahead : Application → State → List Command → (walk : List ℕ) → Ahead
ahead app s cs walk = (order_steps app cs s walk, run_ends app cs s walk)

-- in a RUN with so many turns left
abbrev pub ahead_in : Application → State → (turns : ℕ) → List Command → (walk : List ℕ) → Ahead
ahead_in app s turns cs walk = (history app s (turned_run turns (turned_script cs) walk), run_end app turns (run_ends app cs) s walk)

-- turns of a script that can be, and lead into a RUN which has so many turns left, with these steps done and these states in which RUNs ended; what is to come is that of the rest
pub record Arrived (app : Application) (script : List Command) (start : State) (taken : List ℕ) (turns room : ℕ) (cs : List Command) (s : State) (steps : List ScriptStep) (ends : List State) : Type 0 where
  pub can : (before : List ℕ) (t : ℕ) (behind : List ℕ) → taken ≡ before ++ t ∷ behind → CanBe app (stand app script start before) t
  pub spot : (o : List ℕ) → stand app script start (taken ++ o) ≡ stand_run app turns room (stand app cs) s o
  pub steps_are : (o : List ℕ) → order_steps app script start (taken ++ o) ≡ steps ++ (ahead_in app s turns cs o).0
  pub ends_are : (o : List ℕ) → run_ends app script start (taken ++ o) ≡ ends ++ (ahead_in app s turns cs o).1
  pub state : s ≡ state_after start steps

-- a text of whole lines
abbrev pub IsWhole : Bytes → Type 0
IsWhole text = (text ≡ []) ⊎ ((front : Bytes) × (text ≡ front ++ 10 ∷ []))

-- what was sent over some steps
abbrev pub sent_over : List ScriptStep → Bytes
sent_over steps = bytes_of (acts_of steps)

-- the same was sent and seen, as far as an outcome tells it
pub record SeesTheSame (app : Application) (steps others : List ScriptStep) (ends other_ends : List State) : Type 0 where
  pub lines : by_name (sent_over steps) ≡ by_name (sent_over others)
  pub k04 : is_refused_along is_k04 steps ≡ is_refused_along is_k04 others
  pub k05 : is_refused_along is_k05 steps ≡ is_refused_along is_k05 others
  pub dump : is_dump_along steps ≡ is_dump_along others
  pub serial : is_serial_along steps ≡ is_serial_along others
  pub work : list_any (has_work app) ends ≡ list_any (has_work app) other_ends

-- a walk that comes to the same as another one, and is serial just where that is
pub record StandsFor (app : Application) (cs : List Command) (s : State) (walk other : List ℕ) : Type 0 where
  pub walk_is : IsWalk app cs s walk
  pub result : result_of app cs s walk ≡ result_of app cs s other
  pub serial : is_serial app cs s walk ≡ is_serial app cs s other

-- where both lead to one state, with no more to come after the one than after the other, and the same was seen on both ways, the one stands for the other, whatever follows
abbrev pub ArrivedStandFor : Type 0
ArrivedStandFor =
    (app : Application) (script : List Command) (start : State) (p q : List ℕ) (turns room more : ℕ) (cs : List Command) (s : State) (steps others : List ScriptStep) (ends other_ends : List State)
    → Arrived app script start p turns room cs s steps ends → Arrived app script start q turns more cs s others other_ends → room ≤ more
    → IsWhole (sent_over steps) → IsWhole (sent_over others) → SeesTheSame app others steps other_ends ends
    → (o : List ℕ) → IsWalk app script start (p ++ o) → StandsFor app script start (q ++ o) (p ++ o)
