use Rattle.carry_cli.specs.KindsLaws.{files_have_one_state}
use Rattle.carry_cli.proofs.laws.files_have_one_state.Goals as goal

pub returns : goal.returns
returns c = files_have_one_state
