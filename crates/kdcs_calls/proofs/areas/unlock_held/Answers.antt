use Rattle.kdcs_calls.proofs.areas.unlock_held.Goals as goal

pub returns-in-Err-clause-exact : goal.returns-in-Err-clause-exact
returns-in-Err-clause-exact c = rw (c.in-Err.is, c.replied.ensures)

pub returns-in-Ok-clause-exact : goal.returns-in-Ok-clause-exact
returns-in-Ok-clause-exact c = rw (c.in-Ok.is, ← c.if-not-touches.ensures, c.replied-in-Ok.ensures)

pub returns-in-Ok-2-clause-exact : goal.returns-in-Ok-2-clause-exact
returns-in-Ok-2-clause-exact c = rw (c.in-Ok.is, ← c.if-not-touches.ensures, ← c.if-changed.ensures, c.replied-in-Ok-2.ensures)
