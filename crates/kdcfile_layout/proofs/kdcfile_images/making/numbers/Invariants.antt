use Rattle.std.proofs.Common.{◌≡◌}
use Rattle.kdcfile_layout.specs.Fresh.{numbers}
use Rattle.kdcfile_layout.proofs.kdcfile_images.making.numbers.Given as goal

abbrev pub invariant-loop-n : goal.invariant-loop-n
invariant-loop-n l = l.pages ≡ numbers l.n
