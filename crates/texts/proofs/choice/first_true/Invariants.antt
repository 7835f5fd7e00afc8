use Rattle.std.proofs.Common.{◌≡◌, drop}
use Rattle.kd_base.specs.FirstFaults.{first_true}
use Rattle.texts.proofs.choice.first_true.Given as goal

abbrev pub invariant-loop-test : goal.invariant-loop-test
invariant-loop-test g l = first_true (drop l.test-index l.tests) ≡ first_true l.tests
