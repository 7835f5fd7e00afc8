use Rattle.std.proofs.Common.{arith}
use Rattle.kdcfile_carry.proofs.Counting.{equal_counts, greater_counts}
use Rattle.kdcfile_carry.proofs.finding.of_two.Goals as goal

pub returns-then-first-second-clause-counts : goal.returns-then-first-second-clause-counts
returns-then-first-second-clause-counts c = λ a b one two. greater_counts c.args.first c.args.second a b c.requires.first c.requires.second one two c.if-first-second.true

pub returns-clause-counts : goal.returns-clause-counts
returns-clause-counts c = λ a b one two.
    equal_counts c.args.first c.args.second a b c.requires.first c.requires.second one two c.are_alike-alike.result (omega (arith, c.if-first-second.false)) (λ yes. c.are_alike-alike.ensures.0 yes) (λ no same. let yes = c.are_alike-alike.ensures.1 same in absurd cc)
