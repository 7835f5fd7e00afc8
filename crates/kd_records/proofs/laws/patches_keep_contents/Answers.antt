use Rattle.kd_records.specs.ContentLaws.{patch_keeps_content, patch_keeps_order}
use Rattle.kd_records.proofs.laws.patches_keep_contents.Goals as goal

pub returns : goal.returns
returns c = record { content = patch_keeps_content; order = patch_keeps_order }
