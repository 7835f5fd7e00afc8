-- What a room is seen as: texts by name.
use Rattle.std.specs.Prelude.{◌≡◌, ◌≤◌, ℕ, Bool, List, Option}
use Rattle.std.specs.Ordering.{nat_cmp}
use Rattle.std.specs.Cmp.Lexicographic.{slice_cmp}
use Rattle.std.specs.FinMap.{find}

-- a room at one moment
pub record RoomState : Type 0 where
  pub told : Bool  -- whether the texts are told
  pub texts : List (List ℕ × List ℕ)  -- texts by name
  pub sure : Bool  -- whether no read of a text that is there fails
  pub faults : ℕ

-- the first text of this name
abbrev pub text_of : List ℕ → List (List ℕ × List ℕ) → Option (List ℕ)
text_of name texts = find (slice_cmp nat_cmp) name texts

-- what no read changes or lowers
pub record SameRoom (old new : RoomState) : Type 0 where
  pub told : new.told ≡ old.told
  pub texts : new.texts ≡ old.texts
  pub sure : new.sure ≡ old.sure
  pub faults : old.faults ≤ new.faults
