-- Entries that hold one after another.
use Rattle.std.specs.Prelude.{◌≡◌, List, [], ◌∷◌}
use Rattle.kdcs_types.specs.Tables.{TableRows}
use Rattle.abstract_monitor.specs.State.{Application}
use Rattle.audit_trail.specs.declared.entry.TrailEntry.{TrailEntry}
use Rattle.serial_audit.specs.Audit.{HoldsFor}

-- each entry holds for the tables that the entries before it come to, and all come to these
abbrev pub HoldInTurn : Application → (before : TableRows) → List TrailEntry → (after : TableRows) → Type 0
HoldInTurn app before [] after = after ≡ before
HoldInTurn app before (entry ∷ rest) after = (between : TableRows) × (HoldsFor app before entry between × HoldInTurn app between rest after)

-- all entries hold
abbrev pub AllHold : Application → (before : TableRows) → List TrailEntry → Type 0
AllHold app before entries = (after : TableRows) × HoldInTurn app before entries after
