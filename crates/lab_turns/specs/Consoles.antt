-- What passes at a console.
use Rattle.std.specs.Prelude.{ℕ, List, map}

-- one after another: lines that are typed, the end of the input, and bytes that are printed
pub data Passed : Type 0 where
  Typed : (line : List ℕ) → Passed
  Ended : Passed
  Put : (byte : ℕ) → Passed

-- a text is printed
abbrev pub printed : List ℕ → List Passed
printed text = map Put text
