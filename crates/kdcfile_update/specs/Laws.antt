-- What holds of files that are taken.
use Rattle.std.specs.Prelude.{List, ℕ}
use Rattle.application_types.specs.Generation.{Generated}
use Rattle.application_types.specs.Soundness.{AreLimits}
use Rattle.kd_update.specs.Carrying.{carried}
use Rattle.kdcfile_update.specs.Updating.{Stored, Takes, TablesSuit}

-- the tables that a file keeps after its update suit the generation
abbrev pub TakenTablesSuit : Type 0
TakenTablesSuit = (g : Generated) (fingerprint bytes : List ℕ) (s : Stored) → AreLimits g.limits → Takes g fingerprint bytes s → TablesSuit g (carried g s.tables)
