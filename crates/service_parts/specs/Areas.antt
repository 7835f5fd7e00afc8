-- The private writes of a transaction, and what they change in the tables.
use Rattle.std.specs.Prelude.{Bool, not, ◌&&◌, List, ℕ, Option, map, nat_le, length, is_some}
use Rattle.std.specs.FinMap.{find}
use Rattle.kdcs_types.specs.declared.act.Change.{Change}
use Rattle.kdcs_types.specs.declared.key.Area.{Area}
use Rattle.abstract_monitor.specs.Bytes.{Bytes, bytes_cmp}
use Rattle.abstract_monitor.specs.Endings.{area_change}
use Rattle.abstract_monitor.specs.State.{OpenTransaction}

-- the areas written, in the order of their keys, each with its last content, or none where it is deleted; and the LSSBs in the order of their names
pub record PrivateAreas : Type 0 where
  pub written : List (Area × Option Bytes)
  pub lssbs : List (Bytes × Bytes)

-- the transaction with these private areas
abbrev pub with_areas_of : OpenTransaction → PrivateAreas → OpenTransaction
with_areas_of x o = record x { written = o.written; lssbs = o.lssbs }

-- what the writes change in the tables
abbrev pub changes_of : List (Area × Option Bytes) → List Change
changes_of written = map (λ (w : Area × Option Bytes). area_change w.0 w.1) written

-- an LSSB of a new name, where there are so many already
abbrev pub is_one_too_many : ℕ → Bytes → List (Bytes × Bytes) → Bool
is_one_too_many limit name lssbs = not (is_some (find bytes_cmp name lssbs)) && nat_le limit (length lssbs)
