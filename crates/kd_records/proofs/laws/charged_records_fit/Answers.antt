use Rattle.kd_records.specs.ChargeLaws.{charged_records_fit}
use Rattle.kd_records.proofs.laws.charged_records_fit.Goals as goal

pub returns : goal.returns
returns c = charged_records_fit
