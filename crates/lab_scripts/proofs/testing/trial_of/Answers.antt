use Rattle.std.proofs.Common.{◌≡◌, ℕ, ◌+◌, [], length, refl, ap, subst, sym, ◌∙◌, arith}
use Rattle.std.specs.Str.Lines.{lines}
use Rattle.std.proofs.lemmas.Bool.Decides.{nat_tests}
use Rattle.std.proofs.lemmas.Grind.{common_steps}
use Rattle.std.proofs.lemmas.List.Elements.{All-head}
use Rattle.abstract_monitor.specs.CommandsOf.{IsCommandOf}
use Rattle.abstract_monitor.specs.Commands.{state_after, steps_of}
use Rattle.abstract_monitor.specs.State.{Application}
use Rattle.laws_of_states.specs.Keeping.{IsScriptOf}
use Rattle.lab_scripts.specs.Expected.{awaited_in, expected_of, lines_sent, sent_of}
use Rattle.lab_scripts.proofs.Lines.{short_script}
use Rattle.lab_scripts.proofs.SoFar.{SoFar, awaits_no_more, awaits_none, differs_here, differs_over, ends_met, goes_next, goes_on, goes_past, has_next, no_lines, starts}
use Rattle.lab_scripts.proofs.testing.trial_of.Goals as goal

pub loop-left-init : goal.loop-left-init
loop-left-init g c =
    let short = short_script c.args.bench.application.generation c.args.script.now c.args.commands.now c.requires.says in
    record {
      so_far = starts c.args.bench.application c.args.bench.state c.args.script.now c.args.commands.now (lines c.new.result) c.requires.says c.requires.names (ap lines c.new.ensures);
      application = refl;
      quiet = g.met.C.Console.passes_none c.args.console.now;
      numbered = omega (arith, short.0);
      few = omega arith;
    }

pub returns-in-Some-2-clause-found : goal.returns-in-Some-2-clause-found
returns-in-Some-2-clause-found g c =
    differs_here c.args.bench.application (expected_of c.args.script.now) (sent_of c.args.bench.application c.args.bench.state c.args.commands.now) (c.loop-left.number + 1) (lines c.loop-left.rest.now) c.loop-left.bench.state c.loop-left.left.now c.loop-left.last.line (lines c.loop-left.last.sent) c.loop-left.met c.loop-left.invariant.so_far c.next_line.result.0.now (lines c.next_line.result.1.now) c.next_line.ensures.lines c.in-Some.text.now c.in-Some.ensures c.in-Some-2.found (rw c.in-Some-2.is at c.in_ok-found.ensures.found)

pub returns-in-Some-2-clause-quiet : goal.returns-in-Some-2-clause-quiet
returns-in-Some-2-clause-quiet g c = g.met.C.Console.passes_both c.args.console.now c.loop-left.console c.tell_progress.new.console [] [] c.loop-left.invariant.quiet c.in_ok-tell_progress.ensures

pub returns-in-Some-3-clause-found : goal.returns-in-Some-3-clause-found
returns-in-Some-3-clause-found g c =
    differs_over c.args.bench.application (expected_of c.args.script.now) (sent_of c.args.bench.application c.args.bench.state c.args.commands.now) (c.loop-left.number + 1) (lines c.loop-left.rest.now) c.loop-left.bench.state c.loop-left.left.now c.loop-left.last.line (lines c.loop-left.last.sent) c.loop-left.met c.loop-left.invariant.so_far c.in-Some-3.found (awaits_no_more c.args.bench.application (expected_of c.args.script.now) (sent_of c.args.bench.application c.args.bench.state c.args.commands.now) (c.loop-left.number + 1) (lines c.loop-left.rest.now) c.loop-left.bench.state c.loop-left.left.now c.loop-left.last.line (lines c.loop-left.last.sent) c.loop-left.met c.loop-left.invariant.so_far c.next_line.result.0.now (lines c.next_line.result.1.now) c.next_line.ensures.lines c.commands_are_said.ensures.passed_only c.in_default.ensures (sym c.is_passed.ensures ∙ c.if-not-is_passed.true)) (rw c.in-Some-3.is at c.in_ok-found-2.ensures)

pub returns-in-Some-3-clause-quiet : goal.returns-in-Some-3-clause-quiet
returns-in-Some-3-clause-quiet g c = g.met.C.Console.passes_both c.args.console.now c.loop-left.console c.tell_progress.new.console [] [] c.loop-left.invariant.quiet c.in_ok-tell_progress.ensures

pub next_of-requires : goal.next_of-requires
next_of-requires g c = has_next c.args.bench.application (expected_of c.args.script.now) (sent_of c.args.bench.application c.args.bench.state c.args.commands.now) (c.loop-left.number + 1) (lines c.loop-left.rest.now) c.loop-left.bench.state c.loop-left.left.now c.loop-left.last.line (lines c.loop-left.last.sent) c.loop-left.met c.loop-left.invariant.so_far c.next_line.result.0.now (lines c.next_line.result.1.now) c.next_line.ensures.lines c.commands_are_said.ensures.passed_only c.in_default.ensures (sym c.is_passed.ensures ∙ c.if-not-is_passed.true)

pub do_command-requires : goal.do_command-requires
do_command-requires g c =
    let names = subst (IsScriptOf c.args.bench.application) c.next_of.ensures c.loop-left.invariant.so_far.names in
    subst (λ (app : Application). IsCommandOf app.generation c.next_of.result.0.now) (sym c.loop-left.invariant.application)
    (All-head (IsCommandOf c.args.bench.application.generation) c.next_of.result.0.now c.next_of.result.1.now names)

pub loop-left-preserved-in_default-2 : goal.loop-left-preserved-in_default-2
loop-left-preserved-in_default-2 g c =
    let sent = rw c.in_default-2.is at c.in_ok-found.ensures.found in
    let next = goes_on c.args.bench.application (expected_of c.args.script.now) (sent_of c.args.bench.application c.args.bench.state c.args.commands.now) (c.loop-left.number + 1) (lines c.loop-left.rest.now) c.loop-left.bench.state c.loop-left.left.now c.loop-left.last.line (lines c.loop-left.last.sent) c.loop-left.met c.loop-left.invariant.so_far c.next_line.result.0.now (lines c.next_line.result.1.now) c.next_line.ensures.lines c.in-Some.text.now c.in-Some.ensures (lines c.expect.new.self.sent) sent in
    record {
      so_far = subst (λ (n : ℕ). SoFar c.args.bench.application (expected_of c.args.script.now) (sent_of c.args.bench.application c.args.bench.state c.args.commands.now) (c.loop-left.number + 1 + 1) (lines c.next_line.result.1.now) c.loop-left.bench.state c.loop-left.left.now n (lines c.expect.new.self.sent) (c.loop-left.met + 1)) (sym c.expect.ensures.same) next;
      application = c.loop-left.invariant.application;
      quiet = g.met.C.Console.passes_both c.args.console.now c.loop-left.console c.tell_progress.new.console [] [] c.loop-left.invariant.quiet c.in_ok-tell_progress.ensures;
      numbered = omega (arith, c.next_line.ensures.shorter, c.loop-left.invariant.numbered);
      few = omega (arith, c.loop-left.invariant.few);
    }

pub loop-left-preserved-in_ok-next : goal.loop-left-preserved-in_ok-next
loop-left-preserved-in_ok-next g c =
    let over = rw c.in_default-3.is at c.in_ok-found-2.ensures in
    let command = c.next_of.result.0.now in
    let after = c.in_ok-next.ensures.done.state ∙ ap (λ (app : Application). state_after c.loop-left.bench.state (steps_of app c.loop-left.bench.state command)) c.loop-left.invariant.application in
    let sent = c.in_ok-next.ensures.sent ∙ ap (λ (app : Application). lines_sent app c.loop-left.bench.state command) c.loop-left.invariant.application in
    let next = goes_next c.args.bench.application (expected_of c.args.script.now) (sent_of c.args.bench.application c.args.bench.state c.args.commands.now) (c.loop-left.number + 1) (lines c.loop-left.rest.now) c.loop-left.bench.state c.loop-left.left.now c.loop-left.last.line (lines c.loop-left.last.sent) c.loop-left.met c.loop-left.invariant.so_far c.next_line.result.0.now (lines c.next_line.result.1.now) c.next_line.ensures.lines c.commands_are_said.ensures.passed_only c.in_default.ensures (sym c.is_passed.ensures ∙ c.if-not-is_passed.true) command c.next_of.result.1.now c.in_ok-next.next.state (lines c.in_ok-next.done.sent) over c.next_of.ensures after sent in
    record {
      so_far = subst (λ (n : ℕ). SoFar c.args.bench.application (expected_of c.args.script.now) (sent_of c.args.bench.application c.args.bench.state c.args.commands.now) (c.loop-left.number + 1 + 1) (lines c.next_line.result.1.now) c.in_ok-next.next.state c.next_of.result.1.now n (lines c.in_ok-next.done.sent) c.loop-left.met) (sym c.in_ok-next.ensures.line) next;
      application = c.in_ok-next.ensures.done.application ∙ c.loop-left.invariant.application;
      quiet = g.met.C.Console.passes_both c.args.console.now c.loop-left.console c.tell_progress.new.console [] [] c.loop-left.invariant.quiet c.in_ok-tell_progress.ensures;
      numbered = omega (arith, c.next_line.ensures.shorter, c.loop-left.invariant.numbered);
      few = omega (arith, c.loop-left.invariant.few);
    }

pub loop-left-preserved : goal.loop-left-preserved
loop-left-preserved g c = record {
  so_far = goes_past c.args.bench.application (expected_of c.args.script.now) (sent_of c.args.bench.application c.args.bench.state c.args.commands.now) (c.loop-left.number + 1) (lines c.loop-left.rest.now) c.loop-left.bench.state c.loop-left.left.now c.loop-left.last.line (lines c.loop-left.last.sent) c.loop-left.met c.loop-left.invariant.so_far c.next_line.result.0.now (lines c.next_line.result.1.now) c.next_line.ensures.lines c.in_default.ensures (sym c.is_passed.ensures ∙ c.if-not-is_passed.false);
  application = c.loop-left.invariant.application;
  quiet = g.met.C.Console.passes_both c.args.console.now c.loop-left.console c.tell_progress.new.console [] [] c.loop-left.invariant.quiet c.in_ok-tell_progress.ensures;
  numbered = omega (arith, c.next_line.ensures.shorter, c.loop-left.invariant.numbered);
  few = omega (arith, c.loop-left.invariant.few);
}

pub returns-in-Some-4-clause-found : goal.returns-in-Some-4-clause-found
returns-in-Some-4-clause-found g c =
    let zero : length c.loop-left.rest.now ≡ 0 = grind (arith, nat_tests, common_steps, c.is_empty.ensures, c.loop-left-test.false) in
    differs_over c.args.bench.application (expected_of c.args.script.now) (sent_of c.args.bench.application c.args.bench.state c.args.commands.now) (c.loop-left.number + 1) (lines c.loop-left.rest.now) c.loop-left.bench.state c.loop-left.left.now c.loop-left.last.line (lines c.loop-left.last.sent) c.loop-left.met c.loop-left.invariant.so_far c.in-Some-4.found (ap (awaited_in (c.loop-left.number + 1)) (no_lines c.loop-left.rest.now zero) ∙ awaits_none (c.loop-left.number + 1)) (rw c.in-Some-4.is at c.in_ok-found-3.ensures)

pub returns-clause-found : goal.returns-clause-found
returns-clause-found g c =
    let zero : length c.loop-left.rest.now ≡ 0 = grind (arith, nat_tests, common_steps, c.is_empty.ensures, c.loop-left-test.false) in
    let over = rw c.in-None.is at c.in_ok-found-3.ensures in
    ends_met c.args.bench.application (expected_of c.args.script.now) (sent_of c.args.bench.application c.args.bench.state c.args.commands.now) (c.loop-left.number + 1) (lines c.loop-left.rest.now) c.loop-left.bench.state c.loop-left.left.now c.loop-left.last.line (lines c.loop-left.last.sent) c.loop-left.met c.loop-left.invariant.so_far (no_lines c.loop-left.rest.now zero) over
