-- The turns of a walk so far with what else can be in their places, and what is still to be walked.
use Rattle.std.specs.Prelude.{◌≡◌, ◌⊎◌, ◌+◌, ◌<◌, ℕ, Bool, true, false, IsTrue, All, List, [], ◌∷◌, ◌++◌, drop, get_or, length, map}
use Rattle.abstract_monitor.specs.declared.command.Command.{Command}
use Rattle.abstract_monitor.specs.State.{Application, State}
use Rattle.lab_walks.specs.declared.frame.Frame.{Frame}
use Rattle.lab_walks.specs.Lists.{AreOnce}
use Rattle.lab_walks.specs.Orders.{is_in}
use Rattle.lab_walks.specs.Walks.{AtEnd, CanBe, InRun, Spot, idle_count, stand}

-- the turn that is taken
abbrev pub turn_in : Frame → ℕ
turn_in f = get_or f.choices f.at 0

abbrev pub turns_in : List Frame → List ℕ
turns_in frames = map turn_in frames

-- just what can be next in a RUN, and one of it is taken
pub record Opens (app : Application) (left room : ℕ) (s : State) (f : Frame) : Type 0 where
  pub idle : f.idle ≡ idle_count app s
  pub can : All (CanBe app (InRun left room s)) f.choices
  pub whole : (t : ℕ) → CanBe app (InRun left room s) t → IsTrue (is_in t f.choices)
  pub once : AreOnce f.choices
  pub at : f.at < length f.choices

abbrev pub IsFrame : Application → Spot → Frame → Type 0
IsFrame app (AtEnd s) f = ⊥
IsFrame app (InRun left room s) f = Opens app left room s f

-- so it is where the turns before it lead
abbrev pub IsWay : Application → List Command → State → List Frame → Type 0
IsWay app cs s frames = (before : List Frame) (f : Frame) (behind : List Frame) → frames ≡ before ++ f ∷ behind → IsFrame app (stand app cs s (turns_in before)) f

-- ---- what is still to be walked

-- in place of the turn of a frame
abbrev pub others : Frame → List ℕ
others f = drop (f.at + 1) f.choices

-- it begins with the turns of these frames, or leaves them for a choice that is still to be walked
abbrev pub IsAhead : List Frame → List ℕ → Type 0
IsAhead [] w = Unit {0}
IsAhead (f ∷ fs) [] = ⊥
IsAhead (f ∷ fs) (t ∷ w) = ((t ≡ turn_in f) × IsAhead fs w) ⊎ IsTrue (is_in t (others f))

-- it leaves the turns of these frames for a choice that is still to be walked
abbrev pub IsLeft : List Frame → List ℕ → Type 0
IsLeft [] w = ⊥
IsLeft (f ∷ fs) [] = ⊥
IsLeft (f ∷ fs) (t ∷ w) = ((t ≡ turn_in f) × IsLeft fs w) ⊎ IsTrue (is_in t (others f))

-- the next choice was taken: just what was left is ahead, and the way there is as before
pub record Advanced (old new : List Frame) : Type 0 where
  pub left : (w : List ℕ) → IsLeft old w → IsAhead new w
  pub only : (w : List ℕ) → IsAhead new w → IsLeft old w
  pub way : (app : Application) (cs : List Command) (s : State) → IsWay app cs s old → IsWay app cs s new

-- it was taken, or none was left
abbrev pub AdvancedOrNot : (old new : List Frame) → (more : Bool) → Type 0
AdvancedOrNot old new true = Advanced old new
AdvancedOrNot old new false = (w : List ℕ) → IsLeft old w → ⊥
