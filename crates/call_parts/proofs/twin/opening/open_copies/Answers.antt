use Rattle.std.proofs.Common.{Err, ap}
use Rattle.call_parts.specs.declared.error.CopiesError.{CopiesError}
use Rattle.call_parts.proofs.twin.opening.open_copies.Goals as goal

-- a copy is taken alone
pub unreachable-requires : goal.unreachable-requires
unreachable-requires g c = let h = c.in-Err-Missing.ensures.missing c.in-Err-Missing.field-0-0 (ap (λ (x : CopiesError). Err x) c.in-Err-Missing.field-0-is) in let differ = h.0 in cc

pub returns-in-Ok-clause-still : goal.returns-in-Ok-clause-still
returns-in-Ok-clause-still g c = λ told none. c.open_unless_missing.ensures.still told (λ t may starts. none t starts)

pub returns-in-Err-Files-clause-still : goal.returns-in-Err-Files-clause-still
returns-in-Err-Files-clause-still g c = λ told none. c.open_unless_missing.ensures.still told (λ t may starts. none t starts)
