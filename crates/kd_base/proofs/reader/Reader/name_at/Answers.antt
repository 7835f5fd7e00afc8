use Rattle.std.proofs.Common.{arith, Some}
use Rattle.std.proofs.lemmas.Grind.{common_steps}
use Rattle.kd_base.specs.RoundTripsLaws.{name_only}
use Rattle.kd_base.proofs.reader.Reader.name_at.Goals as goal

pub returns-in_err-name-clause-only : goal.returns-in_err-name-clause-only
returns-in_err-name-clause-only c = name_only c.args.self.now c.from_residual.result (grind (arith, common_steps))

pub returns-clause-only : goal.returns-clause-only
returns-clause-only c = name_only c.args.self.now (Some c.in_ok-name.name) (grind (arith, common_steps))
