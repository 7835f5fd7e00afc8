-- The steps of a script keep both kinds of facts, where they keep the tables and transactions sound.
use Rattle.laws_of_states.specs.Keeping.{HasFacts}
use Rattle.laws_of_states.specs.AlongLaws.{holds_along}
use Rattle.laws_of_states.specs.Laws.{TurnsStayConsistent, CommandsStayConsistent, StartsAreConsistent, SoundStepsKeepFacts, FactsHoldAlong}
use Rattle.laws_of_states.proofs.laws_of_places.Commands.{commands_consistent}
use Rattle.laws_of_states.proofs.laws_of_places.Starts.{started_consistent}
use Rattle.laws_of_states.proofs.laws_of_places.Taking.{turns_consistent}

pub turns_stay : TurnsStayConsistent
turns_stay app s task is_app within facts = turns_consistent app s task facts

pub commands_stay : CommandsStayConsistent
commands_stay app s c is_app fits facts = commands_consistent app s c facts

pub starts_are : StartsAreConsistent
starts_are app t is_app order suits = started_consistent app t order.services

pub sound_steps_keep : SoundStepsKeepFacts
sound_steps_keep sound = record {
  turns = λ app s task is_app within facts. (turns_stay app s task is_app within facts, sound.turns app s task is_app within facts);
  commands = λ app s c is_app fits facts. (commands_stay app s c is_app fits facts, sound.commands app s c is_app fits facts);
  starts = λ app t is_app order suits. (starts_are app t is_app order suits, sound.starts app t is_app order suits);
}

pub facts_hold : FactsHoldAlong
facts_hold = holds_along HasFacts
