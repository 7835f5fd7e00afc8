use Rattle.std.proofs.Common.{arith, sym, true≢false, ◌∙◌}
use Rattle.carry_cli.proofs.Seen.{first_alone, first_greater, neither, same_copies, second_alone, second_greater}
use Rattle.carry_cli.proofs.counting.counting_of.Goals as goal

pub returns-in-None-copy : goal.returns-in-None-copy
returns-in-None-copy c = λ a b first second. neither c.args.first.now c.args.second.now c.requires.first c.requires.second a b first second c.in-None.ensures c.in-None-copy.ensures

pub returns-in-Some-copy : goal.returns-in-Some-copy
returns-in-Some-copy c = λ a b first second. second_alone c.args.first.now c.args.second.now c.requires.first c.requires.second a b first second c.in-Some-copy.field-0.now c.in-None.ensures c.in-Some-copy.ensures

pub returns-in-None-copy-2 : goal.returns-in-None-copy-2
returns-in-None-copy-2 c = λ a b first second. first_alone c.args.first.now c.args.second.now c.requires.first c.requires.second a b first second c.in-Some.copy.now c.in-Some.ensures c.in-None-copy-2.ensures

pub returns-in-Some-copy-2 : goal.returns-in-Some-copy-2
returns-in-Some-copy-2 c = λ a b first second.
    second_greater c.args.first.now c.args.second.now c.requires.first c.requires.second a b first second c.in-Some.copy.now c.in-Some-copy-2.other.now c.in-Some.ensures c.in-Some-copy-2.ensures (omega (arith, c.if-copy-other.true))

pub returns-in-Some-2 : goal.returns-in-Some-2
returns-in-Some-2 c = λ a b first second.
    same_copies c.args.first.now c.args.second.now c.requires.first c.requires.second a b first second c.in-Some.copy.now c.in-Some-copy-2.other.now c.in-Some.ensures c.in-Some-copy-2.ensures (c.are_alike.ensures.0 c.if-are_alike.true)

pub returns-in-Some-3 : goal.returns-in-Some-3
returns-in-Some-3 c = λ a b first second.
    first_greater c.args.first.now c.args.second.now c.requires.first c.requires.second a b first second c.in-Some.copy.now c.in-Some-copy-2.other.now c.in-Some.ensures c.in-Some-copy-2.ensures (omega (arith, c.if-copy-other.false))
    (λ same. true≢false (sym (c.are_alike.ensures.1 same) ∙ c.if-are_alike.false))
