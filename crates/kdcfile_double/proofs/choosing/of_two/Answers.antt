use Rattle.kdcfile_double.specs.ChoiceLaws.{one_is_twice, two_are_twice}
use Rattle.kdcfile_double.proofs.choosing.of_two.Goals as goal

pub in_use-requires-then-are_alike : goal.in_use-requires-then-are_alike
in_use-requires-then-are_alike c = two_are_twice c.args.first c.args.second c.requires.first c.requires.second (c.are_alike.ensures.0 c.if-are_alike.true)

pub in_use-requires-else-are_alike : goal.in_use-requires-else-are_alike
in_use-requires-else-are_alike c = one_is_twice c.args.first c.requires.first
