use Rattle.std.proofs.Common.{◌≡◌, false, length}
use Rattle.texts.specs.Reading.{leaves_open}
use Rattle.texts.proofs.kdcdef_lex.tokens.leaves_open.Given as goal

abbrev pub invariant-loop-token : goal.invariant-loop-token
invariant-loop-token l = leaves_open l.is_open l.rest ≡ leaves_open false l.tokens

abbrev pub decreases-loop-token : goal.decreases-loop-token
decreases-loop-token l = length l.rest
