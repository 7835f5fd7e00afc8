-- How many pages the durable rows of tables take, and which of their values are short.
use Rattle.std.specs.Prelude.{ℕ, ◌≤◌, Bool, true, cond, Option, Some, None, nat_lt}
use Rattle.kdcs_types.specs.declared.act.Change.{Change}
use Rattle.kdcs_types.specs.declared.act.Row.{Row}
use Rattle.kdcs_types.specs.Tables.{TableRows, change_key, row_key}
use Rattle.application_types.specs.Generation.{Generated}
use Rattle.abstract_monitor.specs.Charges.{charge_of, total_charge}
use Rattle.abstract_monitor.specs.Endings.{durable}
use Rattle.laws_of_states.specs.DurableKeys.{key_is_durable}
use Rattle.table_fit.specs.Lengths.{value_length}
use Rattle.table_fit.specs.Weights.{row_left}

-- the pages that the value of a row takes
abbrev pub value_charge : ℕ → Row → ℕ
value_charge blksize r = charge_of blksize (value_length r)

-- those of a durable row; another takes none
abbrev pub row_charge : Generated → Row → ℕ
row_charge g r = cond (key_is_durable g (row_key r)) (value_charge g.limits.blksize r) 0

-- the durable rows fit into the page pool
abbrev pub FitPool : Generated → TableRows → Type 0
FitPool g t = total_charge g.limits.blksize (durable g t) ≤ g.limits.pgpool

-- ---- lengths

-- no value that fits into the pool is as long
abbrev pub longest : ℕ
longest = 4294967296

-- the value of the row, if there is one, is short
abbrev pub is_short : Option Row → Bool
is_short None = true
is_short (Some r) = nat_lt (value_length r) longest

-- so is that of the row that the change leaves, if the row is durable
abbrev pub leaves_short : Generated → Change → Bool
leaves_short g c = cond (key_is_durable g (change_key c)) (is_short (row_left c)) true
