use Rattle.std.proofs.Common.{ℕ, arith, subst, length}
use Rattle.std.proofs.lemmas.Option.{slice_get_read}
use Rattle.std.proofs.Common.{refl}
use Rattle.application_check.specs.Steps.{OuterFault, IsFirstOf, AmongFirst}
use Rattle.application_check.proofs.kdcdef_check.FirstOfFaults.{next_first}
use Rattle.application_check.proofs.kdcdef_check.Chains.{outer_first}
use Rattle.application_check.proofs.kdcdef_check.passes.first_outer_fault.Goals as goal

pub loop-statement-preserved : goal.loop-statement-preserved
loop-statement-preserved c = λ all names whole.
    let ss = c.args.statements.now in
    let i = c.loop-statement.statement-index in
    let s = c.statement-item.result in
    let at = slice_get_read ss (length ss) i s refl c.loop-statement-test.true c.statement-item.is in
    rw c.earlier-first.ensures
    (next_first ss (OuterFault all) i s c.loop-statement.first c.fault_of.result c.loop-statement-test.true c.statement-item.is (c.loop-statement.invariant all names whole)
    (rw (c.fault_of.ensures all names (whole i s at)) (outer_first all i s)))

pub returns : goal.returns
returns c = λ all names whole.
    let ss = c.args.statements.now in
    subst (λ (n : ℕ). IsFirstOf (AmongFirst ss (OuterFault all) n) c.loop-statement.first) (omega (arith, c.loop-statement-test.false, c.loop-statement.auto.statement-index-end)) (c.loop-statement.invariant all names whole)
