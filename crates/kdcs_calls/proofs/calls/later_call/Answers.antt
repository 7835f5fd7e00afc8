use Rattle.abstract_monitor.specs.Calls.{called}
use Rattle.abstract_monitor.specs.Endings.{is_asynchronous}
use Rattle.open_transaction.specs.Transactions.{transaction_of}
use Rattle.kdcs_calls.proofs.LaterCalls.{reads, writes}
use Rattle.kdcs_calls.proofs.calls.later_call.Goals as goal

pub returns-in-Mget-clause-exact : goal.returns-in-Mget-clause-exact
unfolding called
returns-in-Mget-clause-exact c = rw (c.in-Mget.is, ← c.is_asynchronous-asynchronous.ensures) c.get.ensures.exact

pub returns-in-Fget-clause-exact : goal.returns-in-Fget-clause-exact
unfolding called
returns-in-Fget-clause-exact c = rw (c.in-Fget.is, ← c.is_asynchronous-asynchronous.ensures) c.get-in-Fget.ensures.exact

pub returns-in-Fput-clause-exact : goal.returns-in-Fput-clause-exact
unfolding called
returns-in-Fput-clause-exact c = rw c.in-Fput.is c.put_job.ensures.exact

pub returns-in-Dput-clause-exact : goal.returns-in-Dput-clause-exact
unfolding called
returns-in-Dput-clause-exact c = rw (c.in-Dput.is, ← c.moment_in.ensures.exact) c.put_job-in-Dput.ensures.exact

pub returns-in-SgetKp-clause-exact : goal.returns-in-SgetKp-clause-exact
unfolding called
returns-in-SgetKp-clause-exact c = rw c.in-SgetKp.is c.access_local.ensures.exact

pub returns-in-SgetRl-clause-exact : goal.returns-in-SgetRl-clause-exact
unfolding called
returns-in-SgetRl-clause-exact c = rw c.in-SgetRl.is c.access_local-in-SgetRl.ensures.exact

pub returns-in-SputMs-clause-exact : goal.returns-in-SputMs-clause-exact
unfolding called
returns-in-SputMs-clause-exact c = rw c.in-SputMs.is c.access_local-in-SputMs.ensures.exact

pub returns-in-SrelLb-clause-exact : goal.returns-in-SrelLb-clause-exact
unfolding called
returns-in-SrelLb-clause-exact c = rw c.in-SrelLb.is c.access_local-in-SrelLb.ensures.exact

pub returns-in-Pend-clause-exact : goal.returns-in-Pend-clause-exact
unfolding called
returns-in-Pend-clause-exact c = rw (c.in-Pend.is, ← c.is_asynchronous-asynchronous.ensures) c.pend.ensures

pub returns-in-SputGb-clause-exact : goal.returns-in-SputGb-clause-exact
returns-in-SputGb-clause-exact c =
    writes c.args.outside.now.generation.now c.args.outside.now.tables.now c.args.locks.now c.args.transaction.now.id (is_asynchronous c.args.transaction.now.id) (transaction_of c.args.transaction.now) c.args.call.now _ c.owner_of-owner.ensures _ _ _ _ c.in-SputGb.is c.access_area-in-SputGb.ensures.exact

pub returns-in-SgetUs-clause-exact : goal.returns-in-SgetUs-clause-exact
returns-in-SgetUs-clause-exact c =
    reads c.args.outside.now.generation.now c.args.outside.now.tables.now c.args.locks.now c.args.transaction.now.id (is_asynchronous c.args.transaction.now.id) (transaction_of c.args.transaction.now) c.args.call.now _ c.owner_of-owner.ensures _ _ _ _ c.in-SgetUs.is c.access_area-in-SgetUs.ensures.exact
