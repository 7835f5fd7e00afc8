-- A commit that changes no row.
use Rattle.std.proofs.Common.{◌≡◌, ℕ, ◌<◌, ◌++◌, List, [], ◌∷◌, length, arith, refl}
use Rattle.std.specs.Prelude.{codes, decimal}
use Rattle.kdcs_types.specs.declared.act.Change.{Change}
use Rattle.lab_turns.specs.Phrases.{changes_text}

pub no_row : (clock : ℕ) (changes : List Change) → length changes < 1 → codes "no row, CLOCK " ++ decimal clock ≡ changes_text clock changes
no_row clock [] few = refl
no_row clock (x ∷ xs) few = absurd (omega (arith, few))
