use Rattle.std.proofs.Common.{◌∙◌}
use Rattle.std.specs.Vec.{vec_len}
use Rattle.kdcfile_layout.specs.FreshLaws.{filled}
use Rattle.device_tests.proofs.whole_store.making.add_zeros.Goals as goal

pub returns : goal.returns
returns c = c.in_ok-resize.ensures.items ∙ filled c.args.to.now.items c.args.count (vec_len c.args.to.now) c.len.result (c.args.to.now.ok.0) c.len.ensures
