-- A fault of one reader that another hands on: want of memory as such, and any other fault in its variant.
use Rattle.std.specs.Prelude.{Bool, cond}

abbrev pub handed_in : {D F : Type 0} → F → (D → Bool) → (D → F) → D → F
handed_in memory is_want variant fault = cond (is_want fault) memory (variant fault)
