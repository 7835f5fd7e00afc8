use Rattle.laws_of_runs.specs.Applied.{applied}
use Rattle.utm_cli.proofs.MadeStarted.{runs, script_is, report_is, handed}
use Rattle.utm_cli.proofs.made_run.report.made_report.Goals as goal

pub ran-requires-clause-running : goal.ran-requires-clause-running
ran-requires-clause-running c =
    let opened = c.in_ok-device.ensures in
    let core = c.in_ok-core.ensures in
    runs (applied c.args.generation c.args.units) c.args.fingerprint.now c.in_ok-device.tables opened.empty opened.suits c.in_ok-core.core core.application core.state core.steps
    core.application_is core.limits core.facts c.in_ok-device.store opened.tables

pub ran-requires-clause-names : goal.ran-requires-clause-names
ran-requires-clause-names c =
    let opened = c.in_ok-device.ensures in
    let core = c.in_ok-core.ensures in
    script_is (applied c.args.generation c.args.units) c.args.fingerprint.now c.in_ok-device.tables opened.empty opened.suits c.in_ok-core.core core.application core.state core.steps c.args.commands.now c.requires.names

pub returns : goal.returns
returns c =
    let opened = c.in_ok-device.ensures in
    let core = c.in_ok-core.ensures in
    record {
      exact = handed c.ran.result _ _ c.ran.ensures.exact
          (report_is (applied c.args.generation c.args.units) c.args.fingerprint.now c.in_ok-device.tables opened.empty opened.suits c.in_ok-core.core core.application core.state core.steps c.args.n c.args.commands.now);
    }
