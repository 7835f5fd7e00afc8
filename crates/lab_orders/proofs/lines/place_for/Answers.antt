use Rattle.std.proofs.Common.{◌≡◌, arith, sym, ap, subst, ◌∙◌, length}
use Rattle.std.specs.Prelude.{true, false}
use Rattle.std.specs.Ordering.{is_lt}
use Rattle.std.proofs.lemmas.Cmp.{is_lt_index}
use Rattle.abstract_monitor.specs.Bytes.{bytes_cmp}
use Rattle.lab_walks.specs.Outcomes.{name_in}
use Rattle.lab_orders.proofs.Placing.{IsPast, past_more, placed_at, placed_last}
use Rattle.lab_orders.proofs.lines.place_for.Goals as goal

pub returns-then-eq-clause-place : goal.returns-then-eq-clause-place
returns-then-eq-clause-place c =
    let other = c.name_in.ensures ∙ ap name_in c.as_slice.ensures in
    let e : is_lt (bytes_cmp (name_in c.args.line.now) (name_in c.index-others-at.result)) ≡ true =
    (λ i. is_lt (bytes_cmp (sym c.name_in-name.ensures i) (sym other i))) ∙ ap is_lt (sym c.cmp.ensures) ∙ is_lt_index c.cmp.result ∙ sym c.eq.ensures ∙ c.if-eq.true in
    placed_at c.args.line.now c.args.others.now c.loop-at.at c.index-others-at.result c.index-others-at.is c.loop-at-test.true c.loop-at.invariant e

pub loop-at-preserved : goal.loop-at-preserved
loop-at-preserved c =
    let other = c.name_in.ensures ∙ ap name_in c.as_slice.ensures in
    let e : is_lt (bytes_cmp (name_in c.args.line.now) (name_in c.index-others-at.result)) ≡ false =
    (λ i. is_lt (bytes_cmp (sym c.name_in-name.ensures i) (sym other i))) ∙ ap is_lt (sym c.cmp.ensures) ∙ is_lt_index c.cmp.result ∙ sym c.eq.ensures ∙ c.if-eq.false in
    past_more c.args.line.now c.args.others.now c.loop-at.at c.index-others-at.result c.index-others-at.is c.loop-at-test.true c.loop-at.invariant e

pub returns-clause-place : goal.returns-clause-place
returns-clause-place c =
    let over : c.loop-at.at ≡ length c.args.others.now = omega (arith, c.loop-at-test.false, c.loop-at.auto.at-end) in
    placed_last c.args.line.now c.args.others.now (length c.args.others.now) (omega arith) (subst (IsPast c.args.line.now c.args.others.now) over c.loop-at.invariant)
