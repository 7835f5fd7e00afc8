-- The entries of a run: what made each of its commits, and what each changed.
use Rattle.std.specs.Prelude.{List, [], ◌∷◌, Option, Some, None, filter_map}
use Rattle.std.specs.Option.{option_map}
use Rattle.kdcs_types.specs.declared.act.Act.{Act}
use Rattle.kdcs_types.specs.declared.act.Act.TheVariants.{Commit, Emit}
use Rattle.kdcs_types.specs.declared.act.Changes.{Changes}
use Rattle.kdcs_types.specs.Tables.{TableRows, changed}
use Rattle.abstract_monitor.specs.Commands.{Maker, ByTick, ByShow, ByTransaction, ScriptStep}
use Rattle.audit_trail.specs.declared.entry.By.{By}
use Rattle.audit_trail.specs.declared.entry.By.TheVariants.{Tick, Shown, Transaction}
use Rattle.audit_trail.specs.declared.entry.TrailEntry.{TrailEntry}

-- what made a commit, as an entry says it
abbrev pub by_of : Maker → By
by_of (ByTick ticks) = Tick ticks
by_of (ByShow lterm) = Shown lterm
by_of (ByTransaction kept) = Transaction kept

-- the changes of the first commit among some acts
abbrev pub changes_among : List Act → Option Changes
changes_among [] = None
changes_among (Commit changes ∷ acts) = Some changes
changes_among (Emit line ∷ acts) = changes_among acts

-- no entry without a commit, nor without what made it
abbrev pub entry_by : Option Changes → Option By → Option TrailEntry
entry_by None by = None
entry_by (Some changes) None = None
entry_by (Some changes) (Some by) = Some (record { by = by; changes = changes })

-- the commit of a step with what made it, if it has one
abbrev pub entry_in : ScriptStep → Option TrailEntry
entry_in d = entry_by (changes_among d.acts) (option_map by_of d.by)

-- those of all steps, in order
abbrev pub entries_in : List ScriptStep → List TrailEntry
entries_in steps = filter_map entry_in steps

-- what the commit of an entry makes of tables
abbrev pub changed_by : Option TrailEntry → TableRows → TableRows
changed_by None t = t
changed_by (Some e) t = changed t e.changes
