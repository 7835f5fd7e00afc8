-- Turns in rotation, one after another.
use Rattle.std.proofs.Common.{◌≡◌, ℕ, suc, ◌+◌, ◌-◌, ◌<◌, ◌≤◌, List, [], ◌++◌, refl, sym, ap, subst, ◌∙◌, arith, append_assoc}
use Rattle.std.specs.Prelude.{Bool, true, false, ◌==◌, if◌then◌else◌}
use Rattle.std.proofs.lemmas.Bool.{ne_eqb, eq-eqb}
use Rattle.std.proofs.lemmas.List.{append-nil}
use Rattle.application_types.specs.Statements.{IsWithin}
use Rattle.abstract_monitor.specs.State.{Application}
use Rattle.abstract_monitor.specs.Turns.{turn_of}
use Rattle.abstract_monitor.specs.Commands.{ScriptStep, rotated, next_task, in_a_row}
use Rattle.laws_of_states.specs.Applications.{IsApplication}
use Rattle.laws_of_runs.specs.HistoryLaws.{rotated_none, rotated_ended, rotated_more, next_within}
use Rattle.monitor_core.specs.CoreSteps.{turn_steps}
use Rattle.monitor_core.specs.CoreValue.{CoreValue}
use Rattle.monitor_core.specs.Sinks.{DidTurns, SinkGoesOn, row_after}

abbrev pub all_turns : CoreValue → ℕ → List ScriptStep
all_turns c turns = rotated c.application turns false c.state 1 0

-- the turns in a row that moved nothing stay fewer than the tasks until they are as many
row_below : (moved : Bool) (unmoved turns limit : ℕ) → unmoved < limit → unmoved + turns ≤ limit → (row_after moved unmoved turns ≡ limit → ⊥) → row_after moved unmoved turns < limit
row_below true unmoved turns limit few all ne = omega (arith, few)
row_below false unmoved turns limit few all ne = omega (arith, all, ne)

-- some first turns are done, and this task is next
pub record Rotation {S : Type 0} (took : S → CoreValue → List ScriptStep → S → CoreValue → Type 0) (s : S) (c : CoreValue) (turns : ℕ) (t : S) (d : CoreValue) (at task unmoved : ℕ) : Type 0 where
  pub within : IsWithin 1 d.application.generation.limits.tasks task
  pub fewer : unmoved < d.application.generation.limits.tasks
  pub steps : d.steps ≡ c.steps + at
  pub done : List ScriptStep
  pub whole : all_turns c turns ≡ done ++ rotated d.application (turns - at) false d.state task unmoved
  pub run : took s c done t d

module _ {S E : Type 0} (ready : S → CoreValue → Type 0) (known : S → Type 0) (took : S → CoreValue → List ScriptStep → S → CoreValue → Type 0) (failed : S → CoreValue → List ScriptStep → E → S → Type 0) (goes : SinkGoesOn ready known took failed) (s : S) (c : CoreValue) (is_ready : ready s c) (turns : ℕ) where
  pub rotation_start : IsApplication c.application → Rotation took s c turns s c 0 1 0
  rotation_start app = record {
    within = (omega arith, app.tasks);
    fewer = omega (arith, app.tasks);
    steps = omega arith;
    done = [];
    whole = let all : turns ≡ turns - 0 = omega arith in ap (λ n. rotated c.application n false c.state 1 0) all;
    run = goes.none s c is_ready;
  }

  module _ (t : S) (d : CoreValue) (at task unmoved : ℕ) (rotation : Rotation took s c turns t d at task unmoved) where
    pub same_limit : (tasks : ℕ) → tasks ≡ c.application.generation.limits.tasks → tasks ≡ d.application.generation.limits.tasks
    same_limit tasks is = is ∙ ap (λ (x : Application). x.generation.limits.tasks) (sym (goes.application s t c d rotation.done rotation.run))

    pub rotation_ready : ready t d
    rotation_ready = goes.again s t c d rotation.done is_ready rotation.run

    -- all turns are done
    module _ (over : turns ≡ at) where
      all_done : all_turns c turns ≡ rotation.done
      all_done =
          let none : turns - at ≡ 0 = omega (arith, over) in
          rotation.whole
          ∙ ap (λ n. rotation.done ++ rotated d.application n false d.state task unmoved) none
          ∙ ap (λ (l : List ScriptStep). rotation.done ++ l) (rotated_none d.application d.state task unmoved)
          ∙ append-nil rotation.done

      pub rotation_over : (u : S) → took t d [] u d → took s c (all_turns c turns) u d
      rotation_over u told = goes.more s t u c d d rotation.done [] (all_turns c turns) rotation.run told (λ known. all_done ∙ sym (append-nil rotation.done))

      pub rotation_unheard : (e : E) (u : S) → failed t d [] e u → failed s c (all_turns c turns) e u
      rotation_unheard e u told = goes.fails s t u c d rotation.done [] [] (all_turns c turns) e rotation.run told (λ known. all_done ∙ sym (append-nil rotation.done))

    -- the next turn failed
    pub rotation_failed : at < turns → (e : E) (u : S) → failed t d (turn_steps d task) e u → failed s c (all_turns c turns) e u
    rotation_failed lt e u here =
        let turned = turn_of d.application d.state task in
        let row = in_a_row turned.moved unmoved in
        let one_less : turns - at ≡ suc (turns - (at + 1)) = omega (arith, lt) in
        goes.fails s t u c d rotation.done (turn_steps d task) (rotated d.application (turns - (at + 1)) (row == d.application.generation.limits.tasks) turned.after (next_task d.application task) row) (all_turns c turns) e rotation.run here
        (λ known.
        rotation.whole
        ∙ ap (λ n. rotation.done ++ rotated d.application n false d.state task unmoved) one_less
        ∙ ap (λ (l : List ScriptStep). rotation.done ++ l) (rotated_more d.application (turns - (at + 1)) d.state task unmoved))

    -- so many turns are done
    module _ (u : S) (next : CoreValue) (count : ℕ) (moved : Bool) (steps : List ScriptStep) (unmoved' tasks : ℕ) (here : took t d steps u next) (did : DidTurns d task next count moved steps) (left : at + count ≤ turns) (few : unmoved + count ≤ tasks)
        (row_is : unmoved' ≡ row_after moved unmoved count) (tasks_are : tasks ≡ c.application.generation.limits.tasks) where
      limit_is : tasks ≡ d.application.generation.limits.tasks
      limit_is = same_limit tasks tasks_are

      abbrev last : ℕ
      last = task + (count - 1)

      abbrev row : ℕ
      row = row_after moved unmoved count

      abbrev behind : Bool → List ScriptStep
      behind ended = rotated d.application (turns - (at + count)) ended next.state (next_task d.application last) row

      split : (ended : Bool) → (row == d.application.generation.limits.tasks) ≡ ended → all_turns c turns ≡ rotation.done ++ (steps ++ behind ended)
      split ended is =
          let fewer : turns - at ≡ turns - (at + count) + count = omega (arith, left) in
          rotation.whole
          ∙ ap (λ n. rotation.done ++ rotated d.application n false d.state task unmoved) fewer
          ∙ ap (λ (l : List ScriptStep). rotation.done ++ l) (did.rotation unmoved (omega (arith, few, limit_is)) ended is (turns - (at + count)))

      done_more : took s c (rotation.done ++ steps) u next
      done_more = goes.more s t u c d next rotation.done steps (rotation.done ++ steps) rotation.run here (λ known. refl)

      pub turned_ready : ready u next
      turned_ready = goes.again s u c next (rotation.done ++ steps) is_ready done_more

      -- they are the last
      module _ (ended : unmoved' ≡ tasks) where
        all_ended : all_turns c turns ≡ rotation.done ++ steps
        all_ended =
            split true (eq-eqb row d.application.generation.limits.tasks (sym row_is ∙ ended ∙ limit_is))
            ∙ ap (λ (l : List ScriptStep). rotation.done ++ (steps ++ l)) (rotated_ended d.application (turns - (at + count)) next.state (next_task d.application last) row)
            ∙ ap (λ (l : List ScriptStep). rotation.done ++ l) (append-nil steps)

        pub rotation_ended : (v : S) → took u next [] v next → took s c (all_turns c turns) v next
        rotation_ended v told = goes.more s u v c next next (rotation.done ++ steps) [] (all_turns c turns) done_more told (λ known. all_ended ∙ sym (append-nil (rotation.done ++ steps)))

        pub ended_unheard : (e : E) (v : S) → failed u next [] e v → failed s c (all_turns c turns) e v
        ended_unheard e v told = goes.fails s u v c next (rotation.done ++ steps) [] [] (all_turns c turns) e done_more told (λ known. all_ended ∙ sym (append-nil (rotation.done ++ steps)))

      -- they are not
      pub rotation_more : (unmoved' ≡ tasks → ⊥) → task + count ≤ tasks + 1 → (task' : ℕ) → task' ≡ (if last == tasks then 1 else last + 1) → Rotation took s c turns u next (at + count) task' unmoved'
      rotation_more more high task' task_is =
          let limit = d.application.generation.limits.tasks in
          let ne : row ≡ limit → ⊥ = λ h. more (row_is ∙ h ∙ sym limit_is) in
          let app : next.application ≡ d.application = goes.application t u d next steps here in
          let same : limit ≡ next.application.generation.limits.tasks = ap (λ (x : Application). x.generation.limits.tasks) (sym app) in
          let task_now : task' ≡ next_task d.application last = task_is ∙ ap (λ n. if last == n then 1 else last + 1) limit_is in
          let last_within : IsWithin 1 limit last = (omega (arith, rotation.within.0, did.some), omega (arith, high, limit_is, did.some)) in
          record {
            within = subst (λ n. IsWithin 1 n task') same (subst (λ n. IsWithin 1 limit n) (sym task_now) (next_within limit last last_within));
            fewer = subst (λ n. unmoved' < n) same (subst (λ n. n < limit) (sym row_is) (row_below moved unmoved count limit rotation.fewer (omega (arith, few, limit_is)) ne));
            steps = omega (arith, did.counted, rotation.steps);
            done = rotation.done ++ steps;
            whole =
                split false (ne_eqb row limit ne)
                ∙ sym (append_assoc rotation.done steps (behind false))
                ∙ (λ i. (rotation.done ++ steps) ++ rotated (sym app i) (turns - (at + count)) false next.state (sym task_now i) (sym row_is i));
            run = done_more;
          }
