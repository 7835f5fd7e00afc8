-- Laws: a law on each step of a list of steps, with the state before it.
use Rattle.std.specs.Prelude.{List, [], ◌∷◌, ◌++◌}
use Rattle.abstract_monitor.specs.State.{State}
use Rattle.abstract_monitor.specs.Commands.{ScriptStep, state_after}
use Rattle.laws_of_states.specs.EachStep.{EachStep}

pub each_both : (law : State → ScriptStep → Type 0) (s : State) (xs ys : List ScriptStep) → EachStep law s xs → EachStep law (state_after s xs) ys → EachStep law s (xs ++ ys)
unfolding state_after
each_both law s [] ys h k = k
each_both law s (d ∷ ds) ys h k = (h.0, each_both law d.after ds ys h.1 k)

pub each_split : (law : State → ScriptStep → Type 0) (s : State) (xs ys : List ScriptStep) → EachStep law s (xs ++ ys) → EachStep law s xs × EachStep law (state_after s xs) ys
unfolding state_after
each_split law s [] ys h = (tt, h)
each_split law s (d ∷ ds) ys h = let rest = each_split law d.after ds ys h.1 in ((h.0, rest.0), rest.1)
