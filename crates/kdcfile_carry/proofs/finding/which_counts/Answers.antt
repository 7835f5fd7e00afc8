use Rattle.std.proofs.Common.{subst}
use Rattle.kdcfile_double.specs.Choice.{HasCopy, IsLoadedIf}
use Rattle.kdcfile_carry.proofs.Counting.{first_alone, second_alone}
use Rattle.kdcfile_carry.proofs.finding.which_counts.Goals as goal

pub returns-in-Some-second-clause-counts : goal.returns-in-Some-second-clause-counts
returns-in-Some-second-clause-counts c = λ a b one two. c.of_two.ensures.counts a b (subst (λ o. HasCopy o a) c.in-Some.is one) (subst (λ o. HasCopy o b) c.in-Some-second.is two)

pub returns-in-None-second-clause-counts : goal.returns-in-None-second-clause-counts
returns-in-None-second-clause-counts c = λ a b one two.
    first_alone c.in-Some.copy a b (subst IsLoadedIf c.in-Some.is c.requires.first) (subst (λ o. HasCopy o a) c.in-Some.is one) (subst (λ o. HasCopy o b) c.in-None-second.is two)

pub returns-in-Some-second-2-clause-counts : goal.returns-in-Some-second-2-clause-counts
returns-in-Some-second-2-clause-counts c = λ a b one two.
    second_alone c.in-Some-second-2.copy a b (subst IsLoadedIf c.in-Some-second-2.is c.requires.second) (subst (λ o. HasCopy o b) c.in-Some-second-2.is two) (subst (λ o. HasCopy o a) c.in-None.is one)
