-- How many commits a script makes at most.
use Rattle.std.proofs.Common.{◌≡◌, inl, inr, arith, ℕ, zero, suc, ◌+◌, ◌≤◌, List, [], ◌∷◌, ◌++◌, sym, ap, subst, ◌∙◌}
use Rattle.std.specs.Prelude.{Bool, true, false, ◌==◌, sum_by}
use Rattle.std.proofs.lemmas.List.Sums.{sum_by-cons}
use Rattle.laws_of_states.specs.Steps.{CommitsOnce, TurnsCommitOnce, CommandsCommitOnce}
use Rattle.laws_of_states.specs.StepsLaws.{commits_of_both, lines_commit_nothing, commit_counts}
use Rattle.abstract_monitor.specs.State.{Application, State}
use Rattle.abstract_monitor.specs.declared.command.Command.{Command}
use Rattle.abstract_monitor.specs.declared.command.Command.TheVariants.{Input, Tick, Run, Turn, Drop, Print, PrintLast, Restart}
use Rattle.abstract_monitor.specs.Commands.{ScriptStep, acts_of, command_of, in_a_row, next_task, rotated, state_after, steps_of, turned_step}
use Rattle.abstract_monitor.specs.Trace.{history}
use Rattle.abstract_monitor.specs.Turns.{turn_of}
use Rattle.laws_of_states.specs.Cut.{commits_in}
use Rattle.monitor_core.specs.CoreSteps.{turns_of}
use Rattle.device_run.specs.SteppingLaws.{acts_both, acts_of_one}

-- the commits of some steps
abbrev commits_by : List ScriptStep → ℕ
commits_by steps = commits_in (acts_of steps)

at_most_one : (app : Application) (s : State) (d : ScriptStep) → CommitsOnce app s d → commits_in d.acts ≤ 1
at_most_one app s d (inl none) = subst (λ n. n ≤ 1) (sym (lines_commit_nothing d.acts none.lines)) (omega arith)
at_most_one app s d (inr one) = subst (λ n. n ≤ 1) (sym (ap commits_in one.acts ∙ commit_counts app s d.after one.rest one.lines)) (omega arith)

commits_both : (xs ys : List ScriptStep) → commits_by (xs ++ ys) ≡ commits_by xs + commits_by ys
commits_both xs ys = ap commits_in (acts_both xs ys) ∙ commits_of_both (acts_of xs) (acts_of ys)

commits_of_one : (d : ScriptStep) → commits_by (d ∷ []) ≡ commits_in d.acts
commits_of_one d = ap commits_in (acts_of_one d)

commits_more : (d : ScriptStep) (ds : List ScriptStep) → commits_by (d ∷ ds) ≡ commits_in d.acts + commits_by ds
commits_more d ds = commits_both (d ∷ []) ds ∙ ap (λ n. n + commits_by ds) (commits_of_one d)

-- turns make no more commits than they are
turns_commit : TurnsCommitOnce → (app : Application) (n : ℕ) (ended : Bool) (s : State) (task unmoved : ℕ) → commits_by (rotated app n ended s task unmoved) ≤ n
unfolding rotated
turns_commit law app zero ended s task unmoved = omega arith
turns_commit law app (suc n) true s task unmoved = omega arith
turns_commit law app (suc n) false s task unmoved =
    let turned = turn_of app s task in
    let row = in_a_row turned.moved unmoved in
    let rest = rotated app n (row == app.generation.limits.tasks) turned.after (next_task app task) row in
    let here = at_most_one app s (turned_step turned) (law app s task) in
    let later = turns_commit law app n (row == app.generation.limits.tasks) turned.after (next_task app task) row in
    subst (λ m. m ≤ suc n) (sym (commits_more (turned_step turned) rest)) (omega (arith, here, later))

one_commits : CommandsCommitOnce → (app : Application) (s : State) (command : Command) → commits_by (command_of app s command ∷ []) ≤ 1
one_commits law app s command = subst (λ n. n ≤ 1) (sym (commits_of_one (command_of app s command))) (at_most_one app s (command_of app s command) (law app s command))

-- nor does a command
command_commits : TurnsCommitOnce → CommandsCommitOnce → (app : Application) (s : State) (command : Command) → commits_by (steps_of app s command) ≤ turns_of command
unfolding steps_of
command_commits turns commands app s (Run n) = turns_commit turns app n false s 1 0
command_commits turns commands app s (Input pterm text) = one_commits commands app s (Input pterm text)
command_commits turns commands app s (Tick ticks) = one_commits commands app s (Tick ticks)
command_commits turns commands app s (Turn task) = one_commits commands app s (Turn task)
command_commits turns commands app s (Drop pterm) = one_commits commands app s (Drop pterm)
command_commits turns commands app s (Print pterm) = one_commits commands app s (Print pterm)
command_commits turns commands app s (PrintLast pterm) = one_commits commands app s (PrintLast pterm)
command_commits turns commands app s Restart = one_commits commands app s Restart

-- nor does a script
pub script_commits : TurnsCommitOnce → CommandsCommitOnce → (app : Application) (s : State) (cs : List Command) → commits_by (history app s cs) ≤ sum_by turns_of cs
unfolding history
script_commits turns commands app s [] = omega arith
script_commits turns commands app s (c ∷ cs) =
    let here = command_commits turns commands app s c in
    let next = state_after s (steps_of app s c) in
    let later = script_commits turns commands app next cs in
    let both = commits_both (steps_of app s c) (history app next cs) in
    let sum = sum_by-cons turns_of c cs in
    omega (arith, here, later, both, sum)
