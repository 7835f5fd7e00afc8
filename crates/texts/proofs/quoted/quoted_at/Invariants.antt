use Rattle.std.proofs.Common.{◌≡◌, length}
use Rattle.kd_base.specs.Tools.{onto_first}
use Rattle.texts.specs.Quotes.{quoted_at}
use Rattle.texts.proofs.quoted.quoted_at.Given as goal

abbrev pub invariant-loop-content : goal.invariant-loop-content
invariant-loop-content l = onto_first l.content (quoted_at l.rest) ≡ quoted_at l.bytes

abbrev pub decreases-loop-content : goal.decreases-loop-content
decreases-loop-content l = length l.rest
