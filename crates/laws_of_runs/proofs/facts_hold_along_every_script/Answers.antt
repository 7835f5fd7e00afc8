use Rattle.laws_of_runs.proofs.facts_hold_along_every_script.Goals as goal

pub returns : goal.returns
returns c = record {
  starts = λ app t application order suits. (c.states_stay_consistent.ensures.starts app t application order suits, c.states_stay_sound.ensures.starts app t application order suits);
  steps = c.facts_hold_along.ensures.scripts (c.facts_hold_along.ensures.steps c.states_stay_sound.ensures);
}
