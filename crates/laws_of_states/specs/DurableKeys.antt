-- What outlives a stop: the rows of durable tables, and what a change makes of them.
use Rattle.std.specs.Prelude.{◌≡◌, Bool, true, cond, IsTrue}
use Rattle.kdcs_types.specs.declared.key.Key.{Key}
use Rattle.kdcs_types.specs.declared.key.Key.TheVariants as key
use Rattle.kdcs_types.specs.declared.act.Change.{Change}
use Rattle.kdcs_types.specs.Tables.{TableRows, with_change, change_fits, change_key, IsSortedTables}
use Rattle.application_types.specs.Generation.{Generated}
use Rattle.abstract_monitor.specs.Endings.{is_durable, durable}

-- the row of the key outlives a stop
abbrev pub key_is_durable : Generated → Key → Bool
key_is_durable g (key.Service id) = is_durable g id
key_is_durable g _ = true

-- a change is one of the durable part, or of no part of it
abbrev pub DurableIsChanged : Type 0
DurableIsChanged =
    (g : Generated) (t : TableRows) (c : Change) → IsSortedTables t → IsTrue (change_fits c)
    → durable g (with_change t c) ≡ cond (key_is_durable g (change_key c)) (with_change (durable g t) c) (durable g t)
