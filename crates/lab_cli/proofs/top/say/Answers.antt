use Rattle.std.proofs.Common.{refl}
use Rattle.lab_cli.proofs.Statuses.{failed_code, own_code}
use Rattle.lab_cli.proofs.top.say.Goals as goal

pub returns-in-Ok-clause-code : goal.returns-in-Ok-clause-code
returns-in-Ok-clause-code g c = own_code c.args.status.code

pub returns-in-Err-clause-code : goal.returns-in-Err-clause-code
returns-in-Err-clause-code g c = failed_code c.args.status.code

pub returns-in-Err-clause-said : goal.returns-in-Err-clause-said
returns-in-Err-clause-said g c = λ not_five. absurd (not_five refl)
