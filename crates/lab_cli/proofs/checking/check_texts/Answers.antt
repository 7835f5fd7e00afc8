use Rattle.lab_cli.proofs.Checks.{is_checked}
use Rattle.lab_cli.proofs.checking.check_texts.Goals as goal

pub returns : goal.returns
returns g c = is_checked c.args.definition.now c.args.units.now c.in_ok-checked.checked.verdict c.status_of.result.code c.in_ok-checked.ensures.verdict c.status_of.ensures
