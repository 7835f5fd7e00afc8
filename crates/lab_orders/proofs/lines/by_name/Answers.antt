use Rattle.std.proofs.Common.{◌≡◌, arith, List, [], sym, ap, ◌∙◌, length}
use Rattle.std.specs.List.{insert}
use Rattle.std.specs.Str.Lines.{lines}
use Rattle.std.proofs.lemmas.Bool.Decides.{nat_tests}
use Rattle.std.proofs.lemmas.Grind.{common_steps}
use Rattle.abstract_monitor.specs.Bytes.{Bytes}
use Rattle.lab_walks.specs.Outcomes.{placed, placed_all}
use Rattle.lab_orders.proofs.Placing.{placed_next, placed_over}
use Rattle.lab_orders.proofs.Scripts.{none_here}
use Rattle.lab_orders.proofs.lines.by_name.Goals as goal

pub loop-rest-preserved : goal.loop-rest-preserved
loop-rest-preserved c =
    let line = c.next_line.result.0.now in
    let sorted = c.loop-rest.sorted.items in
    let there : c.insert.new.self.items ≡ placed line sorted =
    c.in_ok-insert.ensures.items
    ∙ ap (insert sorted c.place_for-at.result) c.in_ok-from_slice.ensures
    ∙ ap (λ (l : List Bytes). insert l c.place_for-at.result line) (sym c.as_slice.ensures.value)
    ∙ c.place_for-at.ensures.place
    ∙ ap (placed line) c.as_slice.ensures.value in
    ap (λ (l : List Bytes). placed_all l (lines c.next_line.result.1.now)) there
    ∙ sym (placed_next sorted line (lines c.next_line.result.1.now))
    ∙ ap (placed_all sorted) (sym c.next_line.ensures.lines)
    ∙ c.loop-rest.invariant

pub returns : goal.returns
returns c =
    let zero : length c.loop-rest.rest.now ≡ 0 = grind (arith, nat_tests, common_steps, c.is_empty.ensures, c.loop-rest-test.false) in
    let none : c.loop-rest.rest.now ≡ [] = none_here c.loop-rest.rest.now zero in
    c.from_vec.ensures ∙ sym (placed_over c.loop-rest.sorted.items) ∙ ap (λ (l : Bytes). placed_all c.loop-rest.sorted.items (lines l)) (sym none) ∙ c.loop-rest.invariant
