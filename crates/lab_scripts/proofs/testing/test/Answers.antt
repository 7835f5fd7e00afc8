use Rattle.std.proofs.Common.{ap, ◌∙◌}
use Rattle.lab_scripts.specs.Expected.{expected_of}
use Rattle.lab_scripts.specs.Met.{difference_lines, lines_expected, met_line}
use Rattle.lab_scripts.proofs.Printed.{printed_then}
use Rattle.lab_scripts.proofs.SoFar.{differs_not_met}
use Rattle.lab_scripts.proofs.testing.test.Goals as goal

pub returns-in_ok-put-in-Ok-clause-printed : goal.returns-in_ok-put-in-Ok-clause-printed
returns-in_ok-put-in-Ok-clause-printed g c =
    let found = rw c.in-Ok.is at c.in_ok-lines.ensures.found in
    printed_then g.C.Console.passes g.met.C.Console.passes_both c.args.console.now c.trial_of.new.console c.put.new.self c.as_slice-in-Ok.result.now (met_line (lines_expected (expected_of c.args.script.now))) (c.as_slice-in-Ok.ensures ∙ c.in_ok-met_line-in-Ok.ensures ∙ ap met_line found.1) c.in_ok-lines.ensures.quiet c.in_ok-put-in-Ok.ensures

pub returns-in_ok-put-in-Err-clause-met : goal.returns-in_ok-put-in-Err-clause-met
returns-in_ok-put-in-Err-clause-met g c =
    let found = rw c.in-Err.is at c.in_ok-lines.ensures.found in
    (λ h. absurd cc, λ m. absurd (differs_not_met _ _ c.in-Err.found found m))

pub returns-in_ok-put-in-Err-clause-printed : goal.returns-in_ok-put-in-Err-clause-printed
returns-in_ok-put-in-Err-clause-printed g c =
    let found = rw c.in-Err.is at c.in_ok-lines.ensures.found in (
      c.in-Err.found,
      found,
      printed_then g.C.Console.passes g.met.C.Console.passes_both c.args.console.now c.trial_of.new.console c.put-in-Err.new.self c.as_slice-in-Err-2.result.now (difference_lines c.in-Err.found) (c.as_slice-in-Err-2.ensures ∙ c.in_ok-difference_lines-in-Err.ensures) c.in_ok-lines.ensures.quiet c.in_ok-put-in-Err.ensures,
    )
