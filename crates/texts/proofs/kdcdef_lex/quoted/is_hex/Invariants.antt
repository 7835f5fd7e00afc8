use Rattle.std.proofs.Common.{◌≡◌, length}
use Rattle.std.specs.Prelude.{is_some}
use Rattle.texts.specs.QuotedValues.{hex_bytes}
use Rattle.texts.proofs.kdcdef_lex.quoted.is_hex.Given as goal

abbrev pub invariant-loop-after : goal.invariant-loop-after
invariant-loop-after l = is_some (hex_bytes l.rest) ≡ is_some (hex_bytes l.digits)

abbrev pub decreases-loop-after : goal.decreases-loop-after
decreases-loop-after l = length l.rest
