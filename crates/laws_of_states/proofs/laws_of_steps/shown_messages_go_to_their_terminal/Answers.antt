use Rattle.laws_of_states.proofs.laws_of_steps.Shown.{shows_at_its_terminal}
use Rattle.laws_of_states.proofs.laws_of_steps.shown_messages_go_to_their_terminal.Goals as goal

pub returns : goal.returns
returns c = shows_at_its_terminal
