-- Lines in memory, as an input.
use Rattle.std.specs.Prelude.{ℕ, true, List, slice_get, Option}
use Rattle.live_run.specs.Typing.{TypingState}

-- lines, the number of the one whose read fails, how many were read, and how many reads failed
pub record LinesNow : Type 0 where
  pub lines : List (List ℕ)
  pub fails : Option ℕ
  pub next : ℕ
  pub faults : ℕ

-- they are typed in their order, whatever is seen of the keeper
abbrev pub typing_of : LinesNow → TypingState
typing_of m = record { told = true; types = λ n seen. slice_get m.lines n; typed = m.next; faults = m.faults }
