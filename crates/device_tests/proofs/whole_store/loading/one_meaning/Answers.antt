use Rattle.device_tests.specs.ReadImagesLaws.{one_meaning}
use Rattle.device_tests.proofs.whole_store.loading.one_meaning.Goals as goal

pub returns : goal.returns
returns c = one_meaning
