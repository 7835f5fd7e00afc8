use Rattle.record_codec.specs.PatchesLaws.{patches_match_changes}
use Rattle.record_codec.proofs.laws.patches_match_changes.Goals as goal

pub returns : goal.returns
returns c = patches_match_changes
