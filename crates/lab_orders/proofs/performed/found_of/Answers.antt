use Rattle.std.proofs.lemmas.Bool.{true≢false}
use Rattle.lab_orders.proofs.performed.found_of.Goals as goal

pub perform_walk-requires-clause-known : goal.perform_walk-requires-clause-known
perform_walk-requires-clause-known c e = absurd (true≢false e)
