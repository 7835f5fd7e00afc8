use Rattle.std.proofs.Common.{◌+◌, ◌<◌, ◌≤◌, ◌^◌, List, arith, subst, sym, ◌∙◌, length}
use Rattle.std.specs.Prelude.{All}
use Rattle.lab_orders.specs.declared.explored.Outcome.{Outcome}
use Rattle.lab_orders.specs.Exploring.{IsAdded, IsThatOf, IsThere, orders_of}
use Rattle.lab_orders.proofs.Exploring.{added_behind, counted_so, counted_there, there_orders, there_within}
use Rattle.lab_orders.proofs.explored.add.Goals as goal

pub returns-in_default : goal.returns-in_default
returns-in_default c =
    subst (λ (l : List Outcome). IsAdded c.args.outcomes.now.items l c.args.found) (sym c.in_ok-push.ensures.items)
    (added_behind c.args.outcomes.now.items c.args.found c.from_found.result (subst (λ (l : List Outcome). All (λ (o : Outcome). IsThatOf o c.args.found → ⊥) l) c.as_slice.ensures.value c.in_default.ensures)
    c.from_found.ensures)

pub index_mut-requires : goal.index_mut-requires
index_mut-requires c =
    let within : c.in-Some.at < length c.args.outcomes.now.items = there_within c.args.outcomes.now.items c.args.found c.in-Some.at (subst (λ (l : List Outcome). IsThere l c.args.found c.in-Some.at) c.as_slice.ensures.value c.in-Some.ensures) in
    omega (arith, within, c.args.outcomes.now.ok.0)

pub count-requires-clause-orders : goal.count-requires-clause-orders
count-requires-clause-orders c =
    let there : IsThere c.args.outcomes.now.items c.args.found c.in-Some.at = subst (λ (l : List Outcome). IsThere l c.args.found c.in-Some.at) c.as_slice.ensures.value c.in-Some.ensures in
    let few : c.index_mut.result.now.orders ≤ orders_of c.args.outcomes.now.items = there_orders c.args.outcomes.now.items c.args.found c.in-Some.at there c.index_mut.result.now c.index_mut.ensures.value in
    omega (arith, few, c.requires.orders)

pub count-requires-clause-serial : goal.count-requires-clause-serial
count-requires-clause-serial c =
    let there : IsThere c.args.outcomes.now.items c.args.found c.in-Some.at = subst (λ (l : List Outcome). IsThere l c.args.found c.in-Some.at) c.as_slice.ensures.value c.in-Some.ensures in
    subst (λ (o : Outcome). o.serial + 1 < 2 ^ 64) (sym c.index_mut.ensures.value) (c.requires.serial c.in-Some.at c.index_mut.result.now (there_within c.args.outcomes.now.items c.args.found c.in-Some.at there))

pub returns : goal.returns
returns c =
    let there : IsThere c.args.outcomes.now.items c.args.found c.in-Some.at = subst (λ (l : List Outcome). IsThere l c.args.found c.in-Some.at) c.as_slice.ensures.value c.in-Some.ensures in
    counted_there c.args.outcomes.now.items c.args.found c.in-Some.at there c.count.new.self c.index_mut.result.now
    (λ x is same. counted_so x c.index_mut.result.now c.count.new.self c.args.found (is ∙ sym c.index_mut.ensures.value) same c.count.ensures.result c.count.ensures.turns c.count.ensures.sent c.count.ensures.orders c.count.ensures.serial)
