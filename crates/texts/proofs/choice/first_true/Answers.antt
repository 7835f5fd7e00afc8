use Rattle.std.proofs.Common.{◌≡◌, ℕ, ◌+◌, ◌<◌, Bool, cond, List, length, get_or, drop, Some, refl, sym, ap, ◌∙◌, add-one, drop-cons}
use Rattle.std.proofs.Math.ListN.{drop_of_length-le}
use Rattle.kd_base.specs.FirstFaults.{first_true}
use Rattle.texts.proofs.choice.first_true.Goals as goal

-- from the test at i on
at_test : {E : Type 0} (tests : List (Bool × E)) (i : ℕ) (test : Bool × E) → i < length tests → test ≡ get_or tests i test → first_true (drop i tests) ≡ cond test.0 (Some test.1) (first_true (drop (i + 1) tests))
at_test tests i test lt is = rw (add-one, drop-cons tests i test, ← is) refl

pub returns-then-test : goal.returns-then-test
returns-then-test g c =
    sym (rw c.if-test.true at (at_test c.args.tests.now c.loop-test.test-index c.test-item.result c.loop-test-test.true c.test-item.is)) ∙ c.loop-test.invariant

pub loop-test-preserved : goal.loop-test-preserved
loop-test-preserved g c =
    sym (rw c.if-test.false at (at_test c.args.tests.now c.loop-test.test-index c.test-item.result c.loop-test-test.true c.test-item.is)) ∙ c.loop-test.invariant

pub returns : goal.returns
returns g c = ap first_true (sym (drop_of_length-le c.args.tests.now c.loop-test-test.false)) ∙ c.loop-test.invariant
