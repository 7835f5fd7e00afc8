use Rattle.lab_cli.proofs.Working.{names_at, says_at, state_at, tests}
use Rattle.lab_cli.proofs.top.test_at.Goals as goal

pub test-requires-clause-names : goal.test-requires-clause-names
test-requires-clause-names g c = names_at c.args.place c.in-Ok.bench.application c.in-Ok.ensures.application c.deref.result.now c.deref.ensures.value c.requires.names

pub test-requires-clause-says : goal.test-requires-clause-says
test-requires-clause-says g c = says_at c.args.place c.in-Ok.bench.application c.in-Ok.ensures.application c.deref.result.now c.deref.ensures.value c.deref-2.result.now c.deref-2.ensures.value c.requires.says

pub returns-in-Ok-test : goal.returns-in-Ok-test
returns-in-Ok-test g c =
    tests g.C.Console.passes c.args.place c.in-Ok.bench.application c.in-Ok.bench.state c.in-Ok.ensures.application (state_at c.args.place c.in-Ok.bench.application c.in-Ok.bench.state c.in-Ok.ensures.application c.in-Ok.ensures.state) c.args.console c.test.new.console c.deref.result.now c.deref.ensures.value c.deref-2.result.now c.deref-2.ensures.value c.in-Ok-test.met c.in-Ok-test.ensures.met c.in-Ok-test.ensures.printed c.status_of_test.result.code c.status_of_test.ensures
