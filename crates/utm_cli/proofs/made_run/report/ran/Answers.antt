use Rattle.std.proofs.Common.{◌∙◌, ◌++◌, refl, ap, List, ℕ}
use Rattle.abstract_monitor.specs.Commands.{acts_of}
use Rattle.abstract_monitor.specs.Trace.{history, tables_after, bytes_of}
use Rattle.monitor_core.specs.CoreSteps.{durable_of}
use Rattle.device_run.specs.Running.{identity_of}
use Rattle.utm_cli.proofs.MadeStarted.{reported}
use Rattle.utm_cli.proofs.made_run.report.ran.Goals as goal

pub stored_tables-requires : goal.stored_tables-requires
stored_tables-requires c =
    let core = c.args.core in
    let acts = acts_of (history core.application core.state c.args.commands.now) in
    record { stands = (identity_of c.args.fingerprint.now core, tables_after (durable_of core) acts, (c.in-Ok.ensures.done refl).holds) }

pub returns : goal.returns
returns c =
    let core = c.args.core in
    let acts = acts_of (history core.application core.state c.args.commands.now) in
    let done = c.in-Ok.ensures.done refl in
    let sent = c.sent.ensures ∙ c.stored_tables.ensures.sent ∙ done.sent ∙ ap (λ (l : List ℕ). l ++ bytes_of acts) c.requires.silent in
    record {
      exact = reported c.args.n (durable_of core) acts c.in-Ok.commits c.sent.result.now c.in_ok-tables.tables (c.in-Ok.ensures.counted refl) sent
          (c.in_ok-tables.ensures.tables (identity_of c.args.fingerprint.now core) (tables_after (durable_of core) acts) done.holds) c.made_report_lines.result c.made_report_lines.ensures;
    }
