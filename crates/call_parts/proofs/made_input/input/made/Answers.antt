use Rattle.std.proofs.Common.{◌∙◌}
use Rattle.call_parts.proofs.MadeTexts.{definition_is}
use Rattle.call_parts.proofs.made_input.input.made.Goals as goal

pub returns-clause-definition : goal.returns-clause-definition
returns-clause-definition c = c.in_ok-from_slice.ensures ∙ definition_is
