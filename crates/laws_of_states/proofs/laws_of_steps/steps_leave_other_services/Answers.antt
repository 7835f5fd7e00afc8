use Rattle.laws_of_states.proofs.laws_of_steps.Frames.{turns_leave_others, commands_touch_one}
use Rattle.laws_of_states.proofs.laws_of_steps.steps_leave_other_services.Goals as goal

pub returns : goal.returns
returns c = record { turns = turns_leave_others; commands = commands_touch_one }
