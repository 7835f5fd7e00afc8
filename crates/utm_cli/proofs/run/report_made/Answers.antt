use Rattle.call_parts.specs.Asking.{making}
use Rattle.utm_cli.proofs.Turns.{turns_as}
use Rattle.utm_cli.proofs.run.report_made.Goals as goal

pub made_report-requires-clause-turns : goal.made_report-requires-clause-turns
made_report-requires-clause-turns g c = turns_as (making c.args.inputs c.args.work c.args.commands.now) c.as_slice.result.now c.as_slice.ensures c.requires.can
