use Rattle.std.proofs.Common.{rules, None}
use Rattle.kd_base.specs.RoundTripsLaws.{field_found, field_only}
use Rattle.kd_base.proofs.name.NameOf+8.from_padded.Goals as goal

pub returns-then-not-are_spaces-clause-only : goal.returns-then-not-are_spaces-clause-only
returns-then-not-are_spaces-clause-only c = field_only c.args.bytes.now None (search rules)

pub returns-clause-found : goal.returns-clause-found
returns-clause-found c = field_found c.args.bytes.now c.from_bytes.result c.requires (search rules)

pub returns-clause-only : goal.returns-clause-only
returns-clause-only c = field_only c.args.bytes.now c.from_bytes.result (search rules)
