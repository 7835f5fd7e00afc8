-- What each step from a state with its facts meets, each step of a script meets.
use Rattle.laws_of_states.specs.Keeping.{HasFacts}
use Rattle.laws_of_states.specs.Along.{StepLaw, MeetsAlong as MeetsAlongFrom}

-- each step of a script from such a state does
abbrev pub MeetsAlong : StepLaw → Type 0
MeetsAlong law = MeetsAlongFrom HasFacts law
