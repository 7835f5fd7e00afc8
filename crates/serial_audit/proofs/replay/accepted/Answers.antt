use Rattle.std.specs.Prelude.{drop}
use Rattle.std.proofs.Common.{ap, ◌∙◌}
use Rattle.kd_base.specs.ToolsLaws.{behind}
use Rattle.serial_audit.proofs.replay.accepted.Goals as goal

pub returns : goal.returns
returns c = behind 2 c.as_slice.result.now ∙ ap (drop 2) c.as_slice.ensures
