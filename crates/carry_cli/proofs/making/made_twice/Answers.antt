use Rattle.std.proofs.Common.{◌≤◌, ◌∙◌, ap, sym, subst}
use Rattle.carry_cli.specs.Kinds.{one_less}
use Rattle.carry_cli.specs.declared.kinds.Making.{Making}
use Rattle.carry_cli.proofs.Seen.{less_made, pool_some, used_some}
use Rattle.carry_cli.proofs.making.made_twice.Goals as goal

pub one_less-requires-clause-used : goal.one_less-requires-clause-used
one_less-requires-clause-used c = subst (λ (m : Making). 1 ≤ m.used) (sym c.made_once.ensures) (used_some c.args.copy.now c.requires)

pub one_less-requires-clause-pgpool : goal.one_less-requires-clause-pgpool
one_less-requires-clause-pgpool c = subst (λ (m : Making). 1 ≤ m.pgpool) (sym c.made_once.ensures) (pool_some c.args.copy.now c.requires)

pub returns : goal.returns
returns c = c.one_less.ensures ∙ ap (λ (m : Making). one_less m) c.made_once.ensures ∙ less_made c.args.copy.now c.requires
