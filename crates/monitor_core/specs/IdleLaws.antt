-- Laws: turns of free tasks where there is no work.
use Rattle.std.specs.Prelude.{◌≡◌, refl, ℕ, zero, suc, ◌+◌, ◌-◌, ◌≤◌, ◌<◌, ◌==◌, Bool, true, false, if◌then◌else◌, List, [], ◌∷◌, ◌++◌, Option, Some, None}
use Rattle.std.proofs.Common.{ap, sym, subst, ◌∙◌, arith, true≢false}
use Rattle.std.proofs.lemmas.Bool.{ne_eqb}
use Rattle.kdcs_types.specs.declared.key.Target.{Target}
use Rattle.kdcs_types.specs.declared.key.Target.TheVariants.{Tac, Lterm}
use Rattle.kdcs_types.specs.declared.service.JobValue.{JobValue}
use Rattle.kdcs_types.specs.Tables.{job_of}
use Rattle.abstract_monitor.specs.declared.work.Work.{Work}
use Rattle.abstract_monitor.specs.declared.work.Work.TheVariants as work
use Rattle.abstract_monitor.specs.Commands.{ScriptStep, acts_of, in_a_row, next_task, rotated, state_after, turned_step}
use Rattle.abstract_monitor.specs.Picks.{pick}
use Rattle.abstract_monitor.specs.State.{Application, State}
use Rattle.abstract_monitor.specs.Turns.{Turned, took, took_job, took_job_for, turn_of, unmoved}
use Rattle.laws_of_runs.specs.HistoryLaws.{rotated_more}
use Rattle.monitor_core.specs.CoreSteps.{AreFree, HasNoWork, IsFree, idle_steps, turn_steps}
use Rattle.monitor_core.specs.CoreValue.{CoreValue, Rested}
use Rattle.monitor_core.specs.Sinks.{DidTurn, DidTurns, row_after}
use Rattle.monitor_core.specs.WholeLaws.{turned_free}

pub idle_turn : (app : Application) (s : State) (task : ℕ) → IsFree s task → HasNoWork app s → turn_of app s task ≡ unmoved s
idle_turn app s task free none = sym (turned_free app s task free) ∙ none task

-- where one free task takes nothing, no other one does
no_job : (app : Application) (s : State) (task other number : ℕ) (job : JobValue) (to : Target) → (took_job_for app s task number job to).moved ≡ false → took_job_for app s other number job to ≡ unmoved s
no_job app s task other number job (Tac tac) h = absurd (true≢false h)
no_job app s task other number job (Lterm lterm) h = refl

no_job_there : (app : Application) (s : State) (task other number : ℕ) (o : Option JobValue) → (took_job app s task number o).moved ≡ false → took_job app s other number o ≡ unmoved s
no_job_there app s task other number None h = refl
no_job_there app s task other number (Some job) h = no_job app s task other number job job.to h

nothing_taken : (app : Application) (s : State) (task other : ℕ) (w : Option Work) → (took app s task w).moved ≡ false → took app s other w ≡ unmoved s
nothing_taken app s task other None h = refl
nothing_taken app s task other (Some (work.Service id)) h = absurd (true≢false h)
nothing_taken app s task other (Some (work.Job number)) h = no_job_there app s task other number (job_of s.tables number) h

-- a turn of a free task that moved nothing shows that there is no work, then and now
pub no_work : (c d : CoreValue) (task : ℕ) (moved : Bool) → IsFree c.state task → DidTurn c task d moved → moved ≡ false → d.application ≡ c.application → HasNoWork d.application d.state
no_work c d task moved free did is app =
    let took_so = turned_free c.application c.state task free in
    let idle : (took c.application c.state task (pick c.application c.state)).moved ≡ false = ap (λ (t : Turned). t.moved) took_so ∙ sym did.moved_is ∙ is in
    let none : HasNoWork c.application c.state = λ other. nothing_taken c.application c.state task other (pick c.application c.state) idle in
    let same : d.state ≡ c.state = did.state ∙ ap (λ (t : Turned). t.after) (sym took_so ∙ none task) in
    subst (λ (a : Application). HasNoWork a d.state) (sym app) (subst (HasNoWork c.application) (sym same) none)

-- ---- turns of free tasks in a row where there is no work

pub first_free : (s : State) (task count : ℕ) → AreFree s task count → 1 ≤ count → IsFree s task
first_free s task count free some = subst (IsFree s) (let same : task + 0 ≡ task = omega arith in same) (free 0 some)

-- they have no acts, and leave the state as it is
pub idle_acts : (s : State) (turns : ℕ) → acts_of (idle_steps s turns) ≡ []
idle_acts s zero = refl
idle_acts s (suc turns) = idle_acts s turns

pub idle_after : (s : State) (turns : ℕ) → state_after s (idle_steps s turns) ≡ s
unfolding state_after
idle_after s zero = refl
idle_after s (suc turns) = idle_after s turns

module _ (app : Application) (s : State) (none : HasNoWork app s) where
  abbrev tasks : ℕ
  tasks = app.generation.limits.tasks

  one_idle : (n left task unmoved : ℕ) → n ≡ suc left → IsFree s task
      → rotated app n false s task unmoved ≡ idle_steps s 1 ++ rotated app left (unmoved + 1 == tasks) s (next_task app task) (unmoved + 1)
  one_idle n left task unmoved is free =
      ap (λ (k : ℕ). rotated app k false s task unmoved) is
      ∙ rotated_more app left s task unmoved
      ∙ ap (λ (t : Turned). (turned_step t ∷ []) ++ rotated app left (in_a_row t.moved unmoved == tasks) t.after (next_task app task) (in_a_row t.moved unmoved)) (idle_turn app s task free none)

  -- the last task of them, and how many in a row moved nothing then
  idle_rotation : (more task unmoved last row : ℕ) → last ≡ task + more → row ≡ unmoved + suc more → AreFree s task (suc more) → last ≤ tasks → row ≤ tasks → (ended : Bool) → (row == tasks) ≡ ended
      → (left : ℕ) → rotated app (left + suc more) false s task unmoved ≡ idle_steps s (suc more) ++ rotated app left ended s (next_task app last) row
  idle_rotation zero task unmoved last row last_is row_is free within few ended is left =
      let last_here : task ≡ last = omega (arith, last_is) in
      let row_here : unmoved + 1 ≡ row = omega (arith, row_is) in
      one_idle (left + suc zero) left task unmoved (omega arith) (first_free s task (suc zero) free (omega arith))
      ∙ ap (λ (n : ℕ). idle_steps s 1 ++ rotated app left (unmoved + 1 == tasks) s (next_task app n) (unmoved + 1)) last_here
      ∙ ap (λ (n : ℕ). idle_steps s 1 ++ rotated app left (n == tasks) s (next_task app last) n) row_here
      ∙ ap (λ (b : Bool). idle_steps s 1 ++ rotated app left b s (next_task app last) row) is
  idle_rotation (suc more) task unmoved last row last_is row_is free within few ended is left =
      let not_over : unmoved + 1 ≡ tasks → ⊥ = λ e. omega (arith, e, row_is, few) in
      let not_last : task ≡ tasks → ⊥ = λ e. omega (arith, e, last_is, within) in
      let next_is : next_task app task ≡ task + 1 = ap (λ (b : Bool). if b then 1 else task + 1) (ne_eqb task tasks not_last) in
      let others : AreFree s (task + 1) (suc more) = λ i lt. subst (IsFree s) (let e : task + suc i ≡ (task + 1) + i = omega arith in e) (free (suc i) (omega (arith, lt))) in
      one_idle (left + suc (suc more)) (left + suc more) task unmoved (omega arith) (first_free s task (suc (suc more)) free (omega arith))
      ∙ ap (λ (b : Bool). idle_steps s 1 ++ rotated app (left + suc more) b s (next_task app task) (unmoved + 1)) (ne_eqb (unmoved + 1) tasks not_over)
      ∙ ap (λ (n : ℕ). idle_steps s 1 ++ rotated app (left + suc more) false s n (unmoved + 1)) next_is
      ∙ ap (λ (l : List ScriptStep). idle_steps s 1 ++ l) (idle_rotation more (task + 1) (unmoved + 1) last row (omega (arith, last_is)) (omega (arith, row_is)) others within few ended is left)

-- ---- the turns of a rotation

-- one turn of a task
pub one_turn : (c d : CoreValue) (task : ℕ) (moved : Bool) → DidTurn c task d moved → DidTurns c task d 1 moved (turn_steps c task)
one_turn c d task moved did = record {
  some = omega arith;
  counted = did.steps;
  rotation = λ unmoved few ended is left.
      let turned = turn_of c.application c.state task in
      let tasks = c.application.generation.limits.tasks in
      let row_is : in_a_row turned.moved unmoved ≡ row_after moved unmoved 1 = ap (λ (b : Bool). in_a_row b unmoved) (sym did.moved_is) ∙ one_row moved unmoved in
      let last_is : task ≡ task + (1 - 1) = omega arith in
      ap (λ (n : ℕ). rotated c.application n false c.state task unmoved) (let more : left + 1 ≡ suc left = omega arith in more)
      ∙ rotated_more c.application left c.state task unmoved
      ∙ ap (λ (n : ℕ). turn_steps c task ++ rotated c.application left (n == tasks) turned.after (next_task c.application task) n) row_is
      ∙ ap (λ (b : Bool). turn_steps c task ++ rotated c.application left b turned.after (next_task c.application task) (row_after moved unmoved 1)) is
      ∙ (λ i. turn_steps c task ++ rotated c.application left ended (sym did.state i) (next_task c.application (last_is i)) (row_after moved unmoved 1));
}
  where
    one_row : (moved : Bool) (unmoved : ℕ) → in_a_row moved unmoved ≡ row_after moved unmoved 1
    one_row true unmoved = refl
    one_row false unmoved = refl

-- those of free tasks where there is no work
pub idle_turns : (c d : CoreValue) (task turns : ℕ) → 1 ≤ turns → AreFree c.state task turns → HasNoWork c.application c.state → task + turns ≤ c.application.generation.limits.tasks + 1 → Rested c d turns
    → DidTurns c task d turns false (idle_steps c.state turns)
idle_turns c d task zero some free none within rested = absurd (omega (arith, some))
idle_turns c d task (suc more) some free none within rested = record {
  some = some;
  counted = rested.steps;
  rotation = λ unmoved few ended is left.
      let last = task + (suc more - 1) in
      idle_rotation c.application c.state none more task unmoved last (unmoved + suc more) (omega arith) refl free (omega (arith, within)) few ended is left
      ∙ ap (λ (s : State). idle_steps c.state (suc more) ++ rotated c.application left ended s (next_task c.application last) (unmoved + suc more)) (sym rested.state);
}

-- where there is no work, there is none afterwards
pub none_then : (c d : CoreValue) (turns : ℕ) → HasNoWork c.application c.state → Rested c d turns → HasNoWork d.application d.state
none_then c d turns none rested = subst (λ (a : Application). HasNoWork a d.state) (sym rested.application) (subst (HasNoWork c.application) (sym rested.state) none)

-- one turn of a free task where there is no work
pub one_rested : (c d : CoreValue) (task : ℕ) (moved : Bool) → IsFree c.state task → HasNoWork c.application c.state → DidTurn c task d moved → d.application ≡ c.application → Rested c d 1
one_rested c d task moved free none did app = record { application = app; state = did.state ∙ ap (λ (t : Turned). t.after) (idle_turn c.application c.state task free none); steps = did.steps }

pub one_step : (c : CoreValue) (task : ℕ) → IsFree c.state task → HasNoWork c.application c.state → turn_steps c task ≡ idle_steps c.state 1
one_step c task free none = ap (λ (t : Turned). turned_step t ∷ []) (idle_turn c.application c.state task free none)
