-- Turns and commands are counted before what they do.
use Rattle.std.specs.Prelude.{ℕ, ◌+◌, ◌≤◌}
use Rattle.kdcs_types.specs.declared.key.ServiceId.{ServiceId}
use Rattle.open_transaction.specs.Transactions.{Boxed}
use Rattle.service_ends.specs.declared.core_state.parts.MonitorParts.{MonitorParts}
use Rattle.service_ends.specs.Standing.{Each}

-- the transaction did fewer statements than this
abbrev pub DidFewer : (steps : ℕ) → ServiceId × Boxed → Type 0
DidFewer steps e = e.1.value.statements + 1 ≤ steps

-- a turn or command is counted that no open transaction has done
abbrev pub IsAhead : MonitorParts → Type 0
IsAhead p = Each (DidFewer p.steps) p.active
