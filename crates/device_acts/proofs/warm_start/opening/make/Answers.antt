use Rattle.std.proofs.Common.{sym, subst}
use Rattle.kdcs_types.specs.Tables.{TableRows}
use Rattle.laws_of_states.specs.EmptyTablesLaws.{empty_suit}
use Rattle.laws_of_states.specs.Suits.{Suits}
use Rattle.device_acts.proofs.warm_start.opening.make.Goals as goal

pub create-requires-clause-identity : goal.create-requires-clause-identity
create-requires-clause-identity g c = record { blksize = c.limits_of-limits.ensures.blksize; least = c.limits_of-limits.ensures.pgpool.0; most = c.limits_of-limits.ensures.pgpool.1; fingerprint = c.told-fingerprint }

pub returns-clause-suits : goal.returns-clause-suits
returns-clause-suits g c = subst (λ (t : TableRows). Suits c.args.generation.now t) (sym c.empty.ensures) (empty_suit c.args.generation.now)
