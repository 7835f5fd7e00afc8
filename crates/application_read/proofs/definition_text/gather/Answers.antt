use Rattle.std.proofs.lemmas.Result.{err_from_is_err_and}
use Rattle.application_read.proofs.Gatherings.{none_before, one_more, are_all, is_refused}
use Rattle.application_read.proofs.definition_text.gather.Goals as goal

pub loop-gathered-init : goal.loop-gathered-init
loop-gathered-init c = none_before c.args.reader c.in_ok-gathered.gathered c.in_ok-gathered.ensures

pub returns-in_err-statement-clause-fault : goal.returns-in_err-statement-clause-fault
returns-in_err-statement-clause-fault c =
    let e = err_from_is_err_and c.from_residual-in_err-statement.result c.from_residual-in_err-statement.ensures.1 in
    rw (e.1, e.2) (λ other. is_refused c.args.reader.read c.loop-gathered.reader c.loop-gathered.gathered c.loop-gathered.invariant c.in_err-statement.field-0.0 (c.in_err-statement.ensures.fault other))

pub add-requires : goal.add-requires
add-requires c = (c.loop-gathered.invariant.front, c.loop-gathered.invariant.gathered)

pub loop-gathered-smaller : goal.loop-gathered-smaller
loop-gathered-smaller c = rw c.in-Some.is at c.in_ok-statement.ensures.fewer

pub loop-gathered-preserved : goal.loop-gathered-preserved
loop-gathered-preserved c =
    let found = rw c.in-Some.is at c.in_ok-statement.ensures.found in
    let order = rw c.in-Some.is at c.in_ok-statement.ensures.order in
    one_more c.args.reader.read c.loop-gathered.reader c.loop-gathered.gathered c.loop-gathered.invariant c.in-Some.statement c.next.new.self c.add.new.self found order.0 order.1 c.in_ok-add.ensures

pub returns-clause-found : goal.returns-clause-found
returns-clause-found c = are_all c.args.reader.read c.loop-gathered.reader c.loop-gathered.gathered c.loop-gathered.invariant c.next.new.self (rw c.in_default.is at c.in_ok-statement.ensures.found)
