use Rattle.std.proofs.Common.{sym, subst}
use Rattle.kd_device.specs.RestLaws.{rests_then}
use Rattle.kdcs_types.specs.Tables.{TableRows}
use Rattle.laws_of_states.specs.EmptyTablesLaws.{empty_suit}
use Rattle.laws_of_states.specs.Suits.{Suits}
use Rattle.device_acts.proofs.warm_start.opening.read_tables.Goals as goal

pub returns-then-size-eq0-clause-suits : goal.returns-then-size-eq0-clause-suits
returns-then-size-eq0-clause-suits g c = subst (λ (t : TableRows). Suits c.args.generation.now t) (sym c.empty.ensures) (empty_suit c.args.generation.now)

pub returns-in_ok-tables-clause-rests : goal.returns-in_ok-tables-clause-rests
returns-in_ok-tables-clause-rests g c = λ told. rests_then _ _ _ _ _ _ (c.size_at_rest.ensures.rests told) (c.warm.ensures.rests (rw c.size_at_rest.ensures.frame.told told))
