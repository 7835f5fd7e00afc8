use Rattle.std.proofs.Common.{ap, ◌∙◌}
use Rattle.std.specs.Option.{option_copied}
use Rattle.audit_trail.specs.Lines.{end_of}
use Rattle.audit_trail.specs.Reading.{words_after}
use Rattle.audit_trail.proofs.Words.{words_behind_end}
use Rattle.audit_trail.proofs.line.end_in.Goals as goal

pub returns-in-Some : goal.returns-in-Some
returns-in-Some c = ap (λ o. end_of (words_after (option_copied o))) c.in-Some.is ∙ words_behind_end c.in-Some.field-0.now
