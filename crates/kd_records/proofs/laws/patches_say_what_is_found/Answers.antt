use Rattle.kd_records.specs.ContentLaws.{change_says_what_is_found, patch_says_what_is_found, no_changes_change_nothing}
use Rattle.kd_records.proofs.laws.patches_say_what_is_found.Goals as goal

pub returns : goal.returns
returns c = record { one = change_says_what_is_found; all = patch_says_what_is_found; none = no_changes_change_nothing }
