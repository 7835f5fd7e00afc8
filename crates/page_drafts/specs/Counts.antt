-- Sums over records and over slots, when one changes.
use Rattle.std.proofs.Common.{ℕ, List, Option, Some, None}
use Rattle.std.specs.Prelude.{sum_by}
use Rattle.kd_records.specs.Contents.{Record}

-- a number for a value, and 0 where there is none
abbrev pub if_any : (List ℕ → ℕ) → Option (List ℕ) → ℕ
if_any f None = 0
if_any f (Some v) = f v

abbrev pub over : (List ℕ → ℕ) → List Record → ℕ
over f items = sum_by (λ (r : Record). f r.1) items
