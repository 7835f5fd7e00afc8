use Rattle.std.proofs.Common.{◌≡◌, length}
use Rattle.texts.specs.Parsing.{behind_list}
use Rattle.texts.proofs.kdcdef_lex.parse.behind_list.Given as goal

abbrev pub invariant-loop-more : goal.invariant-loop-more
invariant-loop-more l = behind_list l.rest ≡ behind_list l.inside

abbrev pub decreases-loop-more : goal.decreases-loop-more
decreases-loop-more l = length l.rest
