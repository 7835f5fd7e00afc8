use Rattle.application_read.proofs.Generations.{generated_sound, units_fitted}
use Rattle.application_read.proofs.laws.generations_are_sound.Goals as goal

pub returns : goal.returns
returns c = record { sound = generated_sound; fit = units_fitted }
