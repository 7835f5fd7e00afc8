use Rattle.std.proofs.Common.{◌≡◌, length}
use Rattle.std.specs.Prelude.{is_some}
use Rattle.texts.specs.Parsing.{operands_of}
use Rattle.texts.proofs.kdcdef_lex.Following.{some_operands}
use Rattle.texts.proofs.kdcdef_lex.parse.are_operands.Given as goal

abbrev pub invariant-loop-more : goal.invariant-loop-more
invariant-loop-more l = is_some (some_operands l.rest) ≡ is_some (operands_of l.tokens)

abbrev pub decreases-loop-more : goal.decreases-loop-more
decreases-loop-more l = length l.rest
