use Rattle.std.proofs.Common.{List, ◌++◌, ap, ◌∙◌}
use Rattle.audit_trail.specs.declared.entry.TrailEntry.{TrailEntry}
use Rattle.abstract_monitor.specs.Trace.{history}
use Rattle.trail_run.specs.Entries.{entries_in}
use Rattle.trail_run.proofs.trail.trail_of.Goals as goal

pub run_script-requires-clause-ready : goal.run_script-requires-clause-ready
run_script-requires-clause-ready c = record { application = c.requires.application; durable = c.requires.durable }

pub returns : goal.returns
returns c = c.in_ok-_last.ensures.took.entries ∙ ap (λ (l : List TrailEntry). l ++ entries_in (history c.args.core.application c.args.core.state c.args.commands.now)) c.new.ensures
