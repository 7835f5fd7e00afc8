-- The first fault of a text, and an answer that may be want of memory instead.
use Rattle.std.specs.Prelude.{◌≡◌, ◌⊎◌, ℕ, Bool, true, false, cond, ◌&&◌, ◌||◌, ◌==◌, nat_lt, nat_le, List, [], ◌∷◌, Option, Some, None, Result, Ok, Err, IsTrue}
use Rattle.std.specs.Global.{Vec}

-- ---- an answer, unless memory ran out

-- a fact that has to hold only where this is false
abbrev pub Unless : Bool → Type 0 → Type 0
Unless true P = Unit {0}
Unless false P = P

-- what came back is what is wanted, unless memory ran out
abbrev pub GivesUnless : {X E : Type 0} → (E → Bool) → Result X E → Result X E → Type 0
GivesUnless is_memory (Ok x) wanted = wanted ≡ Ok x
GivesUnless is_memory (Err e) wanted = Unless (is_memory e) (wanted ≡ Err e)

-- a returned `Vec`, as the list in it
abbrev pub items_of : {X E : Type 0} → Result (Vec X) E → Result (List X) E
items_of (Ok v) = Ok v.items
items_of (Err e) = Err e

-- ---- the order of faults: by their lines, and on one line by their numbers

module _ {E : Type 0} (line_of number_of : E → ℕ) where
  -- a stands on a lesser line, or on the same one with a number that is not greater
  abbrev pub first_by : E → E → Bool
  first_by a b = nat_lt (line_of a) (line_of b) || (line_of a == line_of b && nat_le (number_of a) (number_of b))

  -- the first of two faults that were found
  abbrev pub earlier_by : Option E → Option E → Option E
  earlier_by None found = found
  earlier_by (Some a) None = Some a
  earlier_by (Some a) (Some b) = cond (first_by a b) (Some a) (Some b)

  -- none is such a fault, or it is one, and comes first of them
  abbrev pub IsFirstBy : (E → Type 0) → Option E → Type 0
  IsFirstBy Such None = (fault : E) → Such fault → ⊥
  IsFirstBy Such (Some fault) = Such fault × ((other : E) → Such other → IsTrue (first_by fault other))

-- ---- a chain of tests, each with its fault

-- the fault of the first test that is true
abbrev pub first_true : {E : Type 0} → List (Bool × E) → Option E
first_true [] = None
first_true ((test, fault) ∷ rest) = cond test (Some fault) (first_true rest)

-- the fault of a test that is true
abbrev pub IsTested : {E : Type 0} → List (Bool × E) → E → Type 0
IsTested [] e = ⊥
IsTested ((test, fault) ∷ rest) e = ((test ≡ true) × (e ≡ fault)) ⊎ IsTested rest e
