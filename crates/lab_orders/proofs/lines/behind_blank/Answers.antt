use Rattle.std.proofs.Common.{◌≡◌, arith, sym, ap, ◌∙◌}
use Rattle.std.specs.Prelude.{true, false, ◌==◌}
use Rattle.lab_walks.specs.Outcomes.{behind_blank}
use Rattle.lab_orders.proofs.Placing.{behind_here, behind_later, behind_none}
use Rattle.lab_orders.proofs.Scripts.{none_here}
use Rattle.lab_orders.proofs.lines.behind_blank.Goals as goal

pub returns-then-byte-eq32 : goal.returns-then-byte-eq32
returns-then-byte-eq32 c =
    let e : (c.in-Some.byte.now == 32) ≡ true = grind (arith, c.if-byte-eq32.true) in
    sym (behind_here c.in-Some.byte.now c.in-Some.behind.now e) ∙ ap behind_blank (sym c.in-Some.ensures.cases.0) ∙ c.loop-byte.invariant

pub loop-byte-preserved : goal.loop-byte-preserved
loop-byte-preserved c =
    let e : (c.in-Some.byte.now == 32) ≡ false = grind (arith, c.if-byte-eq32.false) in
    sym (behind_later c.in-Some.byte.now c.in-Some.behind.now e) ∙ ap behind_blank (sym c.in-Some.ensures.cases.0) ∙ c.loop-byte.invariant

pub returns : goal.returns
returns c =
    let none = none_here c.loop-byte.rest.now c.in_default.ensures.cases in
    none ∙ sym behind_none ∙ ap behind_blank (sym none) ∙ c.loop-byte.invariant
