use Rattle.std.proofs.Common.{◌≡◌, length}
use Rattle.texts.specs.Quotes.{behind_quoted}
use Rattle.texts.proofs.quoted.behind_quoted.Given as goal

abbrev pub invariant-loop-after : goal.invariant-loop-after
invariant-loop-after l = behind_quoted l.rest ≡ behind_quoted l.bytes

abbrev pub decreases-loop-after : goal.decreases-loop-after
decreases-loop-after l = length l.rest
