use Rattle.device_acts.specs.TextLaws.{texts_are_told_apart}
use Rattle.device_acts.proofs.warm_start.laws.texts_are_told_apart.Goals as goal

pub returns : goal.returns
returns c = texts_are_told_apart
