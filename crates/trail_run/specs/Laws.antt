-- What holds of the entries of a history.
use Rattle.std.specs.Prelude.{◌≡◌, List, filter, map}
use Rattle.kdcs_types.specs.declared.act.Act.{Act}
use Rattle.kdcs_types.specs.declared.act.Act.TheVariants.{Commit}
use Rattle.abstract_monitor.specs.declared.command.Command.{Command}
use Rattle.abstract_monitor.specs.Commands.{Maker, acts_of}
use Rattle.abstract_monitor.specs.Made.{is_commit}
use Rattle.abstract_monitor.specs.State.{Application, State}
use Rattle.abstract_monitor.specs.Trace.{history}
use Rattle.laws_of_runs.specs.SerialRuns.{makers_of}
use Rattle.audit_trail.specs.declared.entry.TrailEntry.{TrailEntry}
use Rattle.audit_trail.specs.Makers.{maker_of}
use Rattle.trail_run.specs.Entries.{entries_in}

-- the commits of some entries, and what made them
abbrev pub commits_of : List TrailEntry → List Act
commits_of entries = map (λ (e : TrailEntry). Commit e.changes) entries

abbrev pub makers_in : List TrailEntry → List Maker
makers_in entries = map (λ (e : TrailEntry). maker_of e.by) entries

-- these are all commits of the history, in order, and all that made them
pub record AreItsCommits (app : Application) (s : State) (script : List Command) (entries : List TrailEntry) : Type 0 where
  pub commits : commits_of entries ≡ filter is_commit (acts_of (history app s script))
  pub makers : makers_in entries ≡ makers_of (history app s script)

abbrev pub EntriesAreTheCommits : Type 0
EntriesAreTheCommits = (app : Application) (s : State) (script : List Command) → AreItsCommits app s script (entries_in (history app s script))
