-- Walks that stand for all, and turns that are still to be followed.
use Rattle.std.specs.Prelude.{◌≡◌, ◌⊎◌, ◌≤◌, ℕ, List, ◌∷◌, ◌++◌, Some}
use Rattle.kdcs_types.specs.Tables.{TableRows}
use Rattle.abstract_monitor.specs.declared.command.Command.{Command}
use Rattle.abstract_monitor.specs.Commands.{started}
use Rattle.abstract_monitor.specs.State.{Application, State}
use Rattle.laws_of_states.specs.ItemsLaws.{IsIn}
use Rattle.lab_walks.specs.declared.frame.Frame.{Frame}
use Rattle.lab_walks.specs.Ahead.{StandsFor}
use Rattle.lab_walks.specs.Frames.{IsWay, turns_in}
use Rattle.lab_walks.specs.Walks.{IsWalk}
use Rattle.lab_orders.specs.declared.key.Key.{Key}
use Rattle.lab_orders.specs.declared.standing.Node.{Node}
use Rattle.lab_orders.specs.Alike.{IsKeyedIf, IsNoWorse}
use Rattle.lab_orders.specs.Told.{turns_of}

-- ---- walks

-- it stands for the other, with no more turns
pub record IsAsGood (app : Application) (cs : List Command) (s : State) (walk other : List ℕ) : Type 0 where
  pub stands : StandsFor app cs s walk other
  pub turns : turns_of walk ≤ turns_of other

-- one of these is as good as the walk
pub record IsStoodFor (app : Application) (cs : List Command) (s : State) (walks : List (List ℕ)) (walk : List ℕ) : Type 0 where
  pub other : List ℕ
  pub among : IsIn other walks
  pub good : IsAsGood app cs s other walk

-- one that begins with the turns of some of these nodes is as good as the walk
pub record IsPending (app : Application) (cs : List Command) (s : State) (nodes : List Node) (walk : List ℕ) : Type 0 where
  pub node : Node
  pub among : IsIn node nodes
  pub behind : List ℕ
  pub good : IsAsGood app cs s (turns_in node.frames ++ behind) walk

-- each walk is stood for by one of the walks, or will be by one that begins with some of the turns
abbrev pub AllAreCovered : Application → List Command → State → (walks : List (List ℕ)) → (nodes : List Node) → Type 0
AllAreCovered app cs s walks nodes = (walk : List ℕ) → IsWalk app cs s walk → IsStoodFor app cs s walks walk ⊎ IsPending app cs s nodes walk

-- ---- nodes

-- turns that can be, with their key
pub record IsNode (app : Application) (t : TableRows) (cs : List Command) (node : Node) : Type 0 where
  pub way : IsWay app cs (started app t) node.frames
  pub keyed : IsKeyedIf app t cs (turns_in node.frames) node.key

-- each of them is one
abbrev pub AreNodes : Application → TableRows → List Command → List Node → Type 0
AreNodes app t cs nodes = (node : Node) → IsIn node nodes → IsNode app t cs node

-- by their keys the one is as good as the other, and it has no more turns
pub record CanReplace (node other : Node) : Type 0 where
  pub key : Key
  pub other_key : Key
  pub has : node.key ≡ Some key
  pub other_has : other.key ≡ Some other_key
  pub no_worse : IsNoWorse key other_key
  pub turns : turns_of (turns_in node.frames) ≤ turns_of (turns_in other.frames)

-- one of these can replace it
pub record IsReplaced (nodes : List Node) (node : Node) : Type 0 where
  pub by : Node
  pub among : IsIn by nodes
  pub can : CanReplace by node

-- a node was put among others: each is there, or one that can replace it
pub record IsPut (old new : List Node) (node : Node) : Type 0 where
  pub kept : (n : Node) → IsIn n (node ∷ old) → IsIn n new ⊎ IsReplaced new n
  pub only : (n : Node) → IsIn n new → IsIn n (node ∷ old)

-- ---- nodes in place of others

-- for each walk that begins with the turns of these frames, one that begins with those of some of the nodes is as good
abbrev pub IsFollowed : Application → List Command → State → (nodes : List Node) → List Frame → Type 0
IsFollowed app cs s nodes frames = (o : List ℕ) → IsWalk app cs s (turns_in frames ++ o) → IsPending app cs s nodes (turns_in frames ++ o)

-- and so for each of some nodes
pub record AreInPlace (app : Application) (t : TableRows) (cs : List Command) (old new : List Node) : Type 0 where
  pub are : AreNodes app t cs new
  pub each : (node : Node) → IsIn node old → IsFollowed app cs (started app t) new node.frames

-- a frame with another of its choices
abbrev pub chosen : Frame → (place : ℕ) → Frame
chosen f place = record { choices = f.choices; at = place; idle = f.idle }
