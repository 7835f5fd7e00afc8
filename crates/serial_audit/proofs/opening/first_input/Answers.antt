use Rattle.std.proofs.Common.{ap, ◌∙◌}
use Rattle.abstract_monitor.specs.Calls.{or_empty}
use Rattle.serial_audit.proofs.opening.first_input.Goals as goal

pub returns-in_ok-clone-in-Some : goal.returns-in_ok-clone-in-Some
returns-in_ok-clone-in-Some c = c.in_ok-clone-in-Some.ensures.cases ∙ ap or_empty c.in-Some.ensures

pub returns-in-None : goal.returns-in-None
returns-in-None c = c.new.ensures ∙ ap or_empty c.in-None.ensures
