-- What an input of typed lines is seen as.
use Rattle.std.specs.Prelude.{◌≡◌, ℕ, ◌+◌, Bool, List, take, Option, Some}
use Rattle.kd_device.specs.Device.{State}

-- an input at one moment; who types may look at the keeper first, and types the next line by what is seen of it
pub record TypingState : Type 0 where
  pub told : Bool  -- whether what is typed is told
  pub types : ℕ → State → Option (List ℕ)  -- the next line after so many, where this is seen of the keeper; none at the end
  pub typed : ℕ  -- how many lines were read
  pub faults : ℕ

-- what no read changes
pub record SameTyping (old new : TypingState) : Type 0 where
  pub told : new.told ≡ old.told
  pub types : new.types ≡ old.types

-- the line after n lines, where this is seen of the keeper, as it is read: cut off one byte past the limit, so that a longer one shows as one
pub record IsTyped (i : TypingState) (limit n : ℕ) (seen : State) (line : List ℕ) : Type 0 where
  pub whole : List ℕ
  pub typed : i.types n seen ≡ Some whole
  pub shown : line ≡ take (limit + 1) whole

-- the next line was read
pub record ReadsNext (limit : ℕ) (old new : TypingState) (seen : State) (line : List ℕ) : Type 0 where
  pub next : IsTyped old limit old.typed seen line
  pub typed : new.typed ≡ old.typed + 1
