use Rattle.std.proofs.Common.{arith}
use Rattle.std.proofs.lemmas.List.Sums.{prefix_len-le-length}
use Rattle.std.specs.Prelude.{not}
use Rattle.kd_base.specs.Text.{is_space}
use Rattle.script_read.proofs.word.split_at_space.Goals as goal

pub split_at-requires : goal.split_at-requires
split_at-requires c = omega (arith, prefix_len-le-length (λ b. not (is_space b)) c.args.line.now)
