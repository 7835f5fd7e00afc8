use Rattle.abstract_monitor.specs.Commands.{started}
use Rattle.laws_of_states.specs.Keeping.{HasFacts}
use Rattle.laws_of_states.specs.AlongLaws.{meets_along}
use Rattle.laws_of_runs.specs.Access.{KeepsAccess}
use Rattle.laws_of_runs.proofs.laws_of_access.runs_keep_access.Goals as goal

pub returns : goal.returns
returns c = λ app t script application names order suits.
    meets_along HasFacts (c.facts_hold_along.ensures.steps c.states_stay_sound.ensures) KeepsAccess
    (record { turns = λ app s task _ _ facts. c.steps_keep_access.ensures.turns app s task facts; commands = λ app s d _ _ facts. c.steps_keep_access.ensures.commands app s d facts })
    app (started app t) script application names (c.facts_hold_along_every_script.ensures.starts app t application order suits)
