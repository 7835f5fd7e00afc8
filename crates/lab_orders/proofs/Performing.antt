-- Steps of a walk, one after another.
use Rattle.std.proofs.Common.{◌≡◌, ℕ, zero, suc, ◌+◌, ◌-◌, ◌<◌, ◌≤◌, List, [], ◌∷◌, ◌++◌, refl, sym, ap, subst, ◌∙◌, append_assoc, arith, get_or, drop, take, length}
use Rattle.std.specs.Prelude.{Bool, true, false, ◌&&◌, ◌||◌, not, sum_by}
use Rattle.std.specs.List.{list_all, list_any}
use Rattle.std.proofs.lemmas.Bool.{true≢false}
use Rattle.std.proofs.lemmas.List.{append-nil, drop_all, drop_more, take-append-drop}
use Rattle.std.proofs.lemmas.List.Folds.{list_all-append, list_any-append}
use Rattle.application_types.specs.Statements.{IsWithin}
use Rattle.kdcs_types.specs.Tables.{TableRows}
use Rattle.kdcs_types.specs.declared.act.Act.{Act}
use Rattle.abstract_monitor.specs.Bytes.{Bytes}
use Rattle.abstract_monitor.specs.declared.command.Command.{Command}
use Rattle.abstract_monitor.specs.declared.command.Command.TheVariants.{Input, Tick, Run, Turn, Drop, Print, PrintLast, Restart}
use Rattle.abstract_monitor.specs.Commands.{ScriptStep, acts_of, command_of, started, state_after, steps_of}
use Rattle.abstract_monitor.specs.CommandsOf.{IsCommandOf}
use Rattle.abstract_monitor.specs.Endings.{durable}
use Rattle.abstract_monitor.specs.State.{Application, State}
use Rattle.abstract_monitor.specs.Trace.{bytes_of, history}
use Rattle.laws_of_states.specs.Keeping.{HasFacts, IsScriptOf}
use Rattle.laws_of_runs.specs.Replays.{AllReplay}
use Rattle.monitor_core.specs.CoreValue.{CoreValue}
use Rattle.lab_walks.specs.Orders.{turned_run, turned_script}
use Rattle.lab_walks.specs.Serial.{is_one_at_a_time}
use Rattle.lab_walks.specs.Signs.{has_work, is_at_rest, is_dump, is_k04, is_k05, is_refused_in, run_end, run_ends}
use Rattle.lab_walks.specs.Walks.{AtEnd, CanBe, InRun, IsWalk, Spot, stand}
use Rattle.lab_orders.specs.declared.path.Path.{Path}
use Rattle.lab_orders.specs.Performing.{AreTasks, Goes, IsLeft, PerformedCommand, PerformedOne, PerformedRun, PerformedScript, Tells, ahead_at_end}
use Rattle.lab_walks.specs.Ahead.{Ahead, ahead, ahead_in}
use Rattle.lab_orders.specs.Trying.{Rested}
use Rattle.lab_orders.specs.Walking.{Begun, DidCommand, IsBeside, IsNoRun, IsSeen, tries_of}
use Rattle.lab_orders.proofs.Commands.{here_and_behind, name_here, tries_here}
use Rattle.lab_walks.specs.StepsLaws.{acts_both, after_both, bytes_both}
use Rattle.lab_orders.proofs.Steps.{after_one, moved, no_acts_after}

-- ---- what is sent and seen

or_false : (b : Bool) → b ≡ (b || false)
or_false true = refl
or_false false = refl

or_more : (a b c : Bool) → ((a || b) || c) ≡ (a || (b || c))
or_more true b c = refl
or_more false b c = refl

pub flags_both : {X : Type 0} (p : X → Bool) (xs ys : List X) (a b c : Bool) → b ≡ (a || list_any p xs) → c ≡ (b || list_any p ys) → c ≡ (a || list_any p (xs ++ ys))
flags_both p xs ys a b c first next =
    next
    ∙ ap (λ f. f || list_any p ys) first
    ∙ or_more a (list_any p xs) (list_any p ys)
    ∙ ap (λ f. a || f) (sym (list_any-append p xs ys))

and_true : (b : Bool) → b ≡ (b && true)
and_true true = refl
and_true false = refl

and_more : (a b c : Bool) → ((a && b) && c) ≡ (a && (b && c))
and_more true b c = refl
and_more false b c = refl

pub all_both : {X : Type 0} (p : X → Bool) (xs ys : List X) (a b c : Bool) → b ≡ (a && list_all p xs) → c ≡ (b && list_all p ys) → c ≡ (a && list_all p (xs ++ ys))
all_both p xs ys a b c first next =
    next
    ∙ ap (λ f. f && list_all p ys) first
    ∙ and_more a (list_all p xs) (list_all p ys)
    ∙ ap (λ f. a && f) (sym (list_all-append p xs ys))

tells_none : (p : Path) → Tells p [] p
unfolding bytes_of
tells_none p = record { sent = sym (append-nil p.sent); k04 = or_false p.signs.k04; k05 = or_false p.signs.k05; dump = or_false p.signs.dump; serial = and_true p.serial }

pub tells_step : (before after : Path) (d : ScriptStep) → after.sent ≡ before.sent ++ bytes_of d.acts → IsSeen before.signs d after.signs → after.serial ≡ (before.serial && is_one_at_a_time d.after) → Tells before (d ∷ []) after
tells_step before after d sent seen serial = record {
  sent = sent ∙ ap (λ (l : List Act). before.sent ++ bytes_of l) (sym (append-nil d.acts));
  k04 = seen.k04 ∙ ap (λ b. before.signs.k04 || b) (or_false (is_refused_in is_k04 d.after));
  k05 = seen.k05 ∙ ap (λ b. before.signs.k05 || b) (or_false (is_refused_in is_k05 d.after));
  dump = seen.dump ∙ ap (λ b. before.signs.dump || b) (or_false (is_dump d.by));
  serial = serial ∙ ap (λ b. before.serial && b) (and_true (is_one_at_a_time d.after));
}

tells_both : (p q r : Path) (xs ys : List ScriptStep) → Tells p xs q → Tells q ys r → Tells p (xs ++ ys) r
tells_both p q r xs ys first next = record {
  sent =
      next.sent
      ∙ ap (λ (b : Bytes). b ++ bytes_of (acts_of ys)) first.sent
      ∙ append_assoc p.sent (bytes_of (acts_of xs)) (bytes_of (acts_of ys))
      ∙ ap (λ (b : Bytes). p.sent ++ b) (sym (bytes_both (acts_of xs) (acts_of ys)) ∙ ap bytes_of (sym (acts_both xs ys)));
  k04 = flags_both (λ (d : ScriptStep). is_refused_in is_k04 d.after) xs ys p.signs.k04 q.signs.k04 r.signs.k04 first.k04 next.k04;
  k05 = flags_both (λ (d : ScriptStep). is_refused_in is_k05 d.after) xs ys p.signs.k05 q.signs.k05 r.signs.k05 first.k05 next.k05;
  dump = flags_both (λ (d : ScriptStep). is_dump d.by) xs ys p.signs.dump q.signs.dump r.signs.dump first.dump next.dump;
  serial = all_both (λ (d : ScriptStep). is_one_at_a_time d.after) xs ys p.serial q.serial r.serial first.serial next.serial;
}

-- ---- some steps, and more

pub none_of_both : (p : State → Bool) (xs ys : List State) → list_any p xs ≡ false → list_any p ys ≡ false → list_any p (xs ++ ys) ≡ false
none_of_both p xs ys first next = list_any-append p xs ys ∙ (λ i. first i || next i)

or_true : (b : Bool) → (b || true) ≡ true
or_true true = refl
or_true false = refl

one_of_both : (p : State → Bool) (xs ys : List State) → list_any p ys ≡ true → list_any p (xs ++ ys) ≡ true
one_of_both p xs ys next = list_any-append p xs ys ∙ ap (λ b. list_any p xs || b) next ∙ or_true (list_any p xs)

goes_none : (asks : Bool) (c : CoreValue) (p : Path) (all : Ahead) → Goes asks c p all c p all
goes_none asks c p all = record { steps = []; ends = []; steps_are = refl; ends_are = refl; state = sym (no_acts_after c.state); told = tells_none p; rest = λ asked. refl }

goes_both : (asks : Bool) (c d e : CoreValue) (p q r : Path) (all mid left : Ahead) → d.application ≡ c.application → Goes asks c p all d q mid → Goes asks d q mid e r left → Goes asks c p all e r left
goes_both asks c d e p q r all mid left same first next = record {
  steps = first.steps ++ next.steps;
  ends = first.ends ++ next.ends;
  steps_are = first.steps_are ∙ ap (λ (l : List ScriptStep). first.steps ++ l) next.steps_are ∙ sym (append_assoc first.steps next.steps left.0);
  ends_are = first.ends_are ∙ ap (λ (l : List State). first.ends ++ l) next.ends_are ∙ sym (append_assoc first.ends next.ends left.1);
  state = next.state ∙ ap (λ (s : State). state_after s next.steps) first.state ∙ sym (after_both c.state first.steps next.steps);
  told = tells_both p q r first.steps next.steps first.told next.told;
  rest = λ asked. none_of_both (has_work c.application) first.ends next.ends (first.rest asked) (subst (λ (a : Application). list_any (has_work a) next.ends ≡ false) same (next.rest asked));
}

-- one step
goes_step : (asks : Bool) (c d : CoreValue) (p q : Path) (step : ScriptStep) (left : Ahead) → d.state ≡ step.after → q.sent ≡ p.sent ++ bytes_of step.acts → IsSeen p.signs step q.signs → q.serial ≡ (p.serial && is_one_at_a_time d.state) → Goes asks c p (step ∷ left.0, left.1) d q left
goes_step asks c d p q step left state sent seen serial = record {
  steps = step ∷ [];
  ends = [];
  steps_are = refl;
  ends_are = refl;
  state = state ∙ sym (after_one c.state step [] ∙ no_acts_after step.after);
  told = tells_step p q step sent seen (serial ∙ ap (λ (s : State). p.serial && is_one_at_a_time s) state);
  rest = λ asked. refl;
}

-- a RUN ends, without work if it is asked
goes_end : (asks : Bool) (c d : CoreValue) (p q : Path) (all : Ahead) (s : State) (left : Ahead) → Goes true c p all d q (left.0, s ∷ left.1) → (asks ≡ true → is_at_rest c.application s ≡ true) → Goes asks c p all d q left
goes_end asks c d p q all s left g rests = record {
  steps = g.steps;
  ends = g.ends ++ s ∷ [];
  steps_are = g.steps_are;
  ends_are = g.ends_are ∙ sym (append_assoc g.ends (s ∷ []) left.1);
  state = g.state;
  told = g.told;
  rest = λ asked. none_of_both (has_work c.application) g.ends (s ∷ []) (g.rest refl) (ap (λ b. not b || false) (rests asked));
}

-- ---- in a RUN

module _ (app : Application) (s : State) (cs : List Command) where
  pub at_over : (o : List ℕ) → ahead_in app s 0 cs o ≡ ahead_at_end app s cs o
  unfolding turned_run run_end
  at_over o = refl

  at_none : (n : ℕ) → ahead_in app s (suc n) cs [] ≡ ahead_at_end app s cs []
  unfolding turned_run run_end
  at_none n = refl

  pub at_zero : (n : ℕ) (o : List ℕ) → ahead_in app s (suc n) cs (0 ∷ o) ≡ ahead_at_end app s cs o
  unfolding turned_run run_end
  at_zero n o = refl

  pub at_turn : (n t : ℕ) (o : List ℕ) → ahead_in app s (suc n) cs (suc t ∷ o) ≡ (command_of app s (Turn (suc t)) ∷ (ahead_in app (command_of app s (Turn (suc t))).after n cs o).0, (ahead_in app (command_of app s (Turn (suc t))).after n cs o).1)
  unfolding turned_run run_end history steps_of command_of state_after
  at_turn n t o = refl

-- some turns of a RUN are done
pub record PerformingRun (c d : CoreValue) (before now : Path) (turns made : ℕ) (walk rest : List ℕ) : Type 0 where
  pub application : d.application ≡ c.application
  pub beside : IsBeside d now
  pub steps : d.steps ≤ c.steps + made
  pub tasks : AreTasks c.application rest
  pub goes : (cs : List Command) → Goes true c before (ahead_in c.application c.state turns cs walk) d now (ahead_in c.application d.state (turns - made) cs rest)

pub run_starts : (c : CoreValue) (before : Path) (turns : ℕ) (walk : List ℕ) → IsBeside c before → AreTasks c.application walk → PerformingRun c c before before turns 0 walk walk
run_starts c before turns walk beside tasks = record {
  application = refl;
  beside = beside;
  steps = omega arith;
  tasks = tasks;
  goes = λ cs. let all : turns ≡ turns - 0 = omega arith in subst (λ n. Goes true c before (ahead_in c.application c.state turns cs walk) c before (ahead_in c.application c.state n cs walk)) all (goes_none true c before _);
}

module _ (c d : CoreValue) (before now : Path) (turns made : ℕ) (walk rest : List ℕ) (run : PerformingRun c d before now turns made walk rest) where
  pub run_over : turns ≤ made → PerformedRun c before turns walk d now rest
  run_over over = record {
    application = run.application;
    beside = run.beside;
    tasks = run.tasks;
    goes = λ cs.
        let none : turns - made ≡ 0 = omega (arith, over) in
        subst (Goes true c before (ahead_in c.application c.state turns cs walk) d now) (ap (λ n. ahead_in c.application d.state n cs rest) none ∙ at_over c.application d.state cs rest) (run.goes cs);
  }

  module _ (lt : made < turns) where
    one_less : turns - made ≡ suc (turns - (made + 1))
    one_less = omega (arith, lt)

    pub run_stops : rest ≡ [] → PerformedRun c before turns walk d now rest
    run_stops none = record {
      application = run.application;
      beside = run.beside;
      tasks = run.tasks;
      goes = λ cs.
          subst (Goes true c before (ahead_in c.application c.state turns cs walk) d now)
          ((λ i. ahead_in c.application d.state (one_less i) cs (none i)) ∙ at_none c.application d.state cs (turns - (made + 1)) ∙ ap (ahead_at_end c.application d.state cs) (sym none)) (run.goes cs);
    }

    module _ (task : ℕ) (behind : List ℕ) (is : rest ≡ task ∷ behind) where
      pub task_here : task ≤ c.application.generation.limits.tasks
      task_here = (subst (AreTasks c.application) is run.tasks) 0 task (omega arith)

      pub tasks_behind : AreTasks c.application behind
      tasks_behind = λ k e less. (subst (AreTasks c.application) is run.tasks) (suc k) e (omega (arith, less))

      pub run_rests : task ≡ 0 → PerformedRun c before turns walk d now behind
      run_rests zero_is = record {
        application = run.application;
        beside = run.beside;
        tasks = tasks_behind;
        goes = λ cs.
            subst (Goes true c before (ahead_in c.application c.state turns cs walk) d now)
            ((λ i. ahead_in c.application d.state (one_less i) cs ((is ∙ ap (λ t. t ∷ behind) zero_is) i)) ∙ at_zero c.application d.state cs (turns - (made + 1)) behind) (run.goes cs);
      }

      pub run_within : (task ≡ 0 → ⊥) → IsWithin 1 d.application.generation.limits.tasks task
      run_within ne = (by task ne, subst (λ (a : Application). task ≤ a.generation.limits.tasks) (sym run.application) task_here)
        where
          by : (t : ℕ) → (t ≡ 0 → ⊥) → 1 ≤ t
          by zero ne = absurd (ne refl)
          by (suc t) ne = omega arith

      pub run_more : (task ≡ 0 → ⊥) → (next : CoreValue) (later : Path) → DidCommand d now (Turn task) next later → next.steps ≡ d.steps + 1 → PerformingRun c next before later turns (made + 1) walk behind
      run_more ne next later did steps = record {
        application = did.application ∙ run.application;
        beside = did.beside;
        steps = omega (arith, steps, run.steps);
        tasks = tasks_behind;
        goes = λ cs. goes_both true c d next before now later _ _ _ run.application (run.goes cs) (subst (λ (l : Ahead). Goes true d now l next later (ahead_in c.application next.state (turns - (made + 1)) cs behind)) (sym (here cs task ne is)) (turned cs));
      }
        where
          step : ScriptStep
          step = command_of c.application d.state (Turn task)

          step_is : command_of d.application d.state (Turn task) ≡ step
          step_is = ap (λ (a : Application). command_of a d.state (Turn task)) run.application

          here : (cs : List Command) (t : ℕ) → (t ≡ 0 → ⊥) → rest ≡ t ∷ behind → ahead_in c.application d.state (turns - made) cs rest ≡ (command_of c.application d.state (Turn t) ∷ (ahead_in c.application (command_of c.application d.state (Turn t)).after (turns - (made + 1)) cs behind).0, (ahead_in c.application (command_of c.application d.state (Turn t)).after (turns - (made + 1)) cs behind).1)
          here cs zero ne is = absurd (ne refl)
          here cs (suc t) ne is = (λ i. ahead_in c.application d.state (one_less i) cs (is i)) ∙ at_turn c.application d.state cs (turns - (made + 1)) t behind

          after : next.state ≡ step.after
          after = did.state ∙ ap (λ (x : ScriptStep). x.after) step_is

          turned : (cs : List Command) → Goes true d now (step ∷ (ahead_in c.application step.after (turns - (made + 1)) cs behind).0, (ahead_in c.application step.after (turns - (made + 1)) cs behind).1) next later (ahead_in c.application next.state (turns - (made + 1)) cs behind)
          turned cs =
              subst (λ (s : State). Goes true d now (step ∷ (ahead_in c.application s (turns - (made + 1)) cs behind).0, (ahead_in c.application s (turns - (made + 1)) cs behind).1) next later (ahead_in c.application next.state (turns - (made + 1)) cs behind)) after
              (goes_step true d next now later step (ahead_in c.application next.state (turns - (made + 1)) cs behind) after (did.sent ∙ ap (λ (x : ScriptStep). now.sent ++ bytes_of x.acts) step_is) (subst (λ (x : ScriptStep). IsSeen now.signs x later.signs) step_is did.signs) did.serial)

-- a core that was found to rest
pub still_beside : (d e : CoreValue) (p : Path) → Rested d e true → IsBeside d p → IsBeside e p
still_beside d e p rested beside = record {
  facts = moved HasFacts rested.application (rested.stays refl) beside.facts;
  replays = moved AllReplay rested.application (rested.stays refl) beside.replays;
  durable = beside.durable ∙ (λ i. durable (sym rested.application i).generation (sym (rested.stays refl) i).tables);
}

-- ---- one command

module _ (app : Application) (s : State) (cs : List Command) where
  pub ahead_begins : (n : ℕ) (o : List ℕ) → ahead app s (Run n ∷ cs) o ≡ ahead_in app s n cs o
  unfolding turned_script run_ends
  ahead_begins n o = refl

  pub ahead_behind : (c : Command) → IsNoRun c → (o : List ℕ) → ahead app s (c ∷ cs) o ≡ (command_of app s c ∷ (ahead app (command_of app s c).after cs o).0, (ahead app (command_of app s c).after cs o).1)
  unfolding turned_script run_ends history steps_of state_after
  ahead_behind (Run turns) h o = absurd h
  ahead_behind (Input pterm text) h o = refl
  ahead_behind (Tick ticks) h o = refl
  ahead_behind (Turn task) h o = refl
  ahead_behind (Drop pterm) h o = refl
  ahead_behind (Print pterm) h o = refl
  ahead_behind (PrintLast pterm) h o = refl
  ahead_behind Restart h o = refl

ahead_over : (app : Application) (s : State) (o : List ℕ) → ahead app s [] o ≡ ([], [])
unfolding turned_script run_ends history
ahead_over app s o = refl

pub command_performed : (asks : Bool) (c : CoreValue) (before : Path) (command : Command) (walk : List ℕ) (d : CoreValue) (after : Path) → IsNoRun command → AreTasks c.application walk → DidCommand c before command d after → PerformedCommand asks c before command walk d after walk
command_performed asks c before command walk d after no_run tasks did = record {
  application = did.application;
  beside = did.beside;
  tasks = tasks;
  goes = λ cs.
      subst (λ (l : Ahead). Goes asks c before l d after (ahead c.application d.state cs walk)) (sym (ahead_behind c.application c.state cs command no_run walk))
      (subst (λ (s : State). Goes asks c before (command_of c.application c.state command ∷ (ahead c.application s cs walk).0, (ahead c.application s cs walk).1) d after (ahead c.application d.state cs walk)) did.state
      (goes_step asks c d before after (command_of c.application c.state command) (ahead c.application d.state cs walk) did.state did.sent did.signs did.serial));
}

module _ (c : CoreValue) (before : Path) (command : Command) (turns : ℕ) (is : command ≡ Run turns) (walk : List ℕ) (d : CoreValue) (after : Path) (behind : List ℕ) (run : PerformedRun c before turns walk d after behind) where
  begins : (cs : List Command) → ahead c.application c.state (command ∷ cs) walk ≡ ahead_in c.application c.state turns cs walk
  begins cs = ap (λ (x : Command). ahead c.application c.state (x ∷ cs) walk) is ∙ ahead_begins c.application c.state cs turns walk

  -- it is not asked whether work is left
  pub run_performed : (asks : Bool) → asks ≡ false → PerformedCommand asks c before command walk d after behind
  run_performed asks not_asked = record {
    application = run.application;
    beside = run.beside;
    tasks = run.tasks;
    goes = λ cs.
        subst (λ (l : Ahead). Goes asks c before l d after (ahead c.application d.state cs behind)) (sym (begins cs))
        (goes_end asks c d before after _ d.state (ahead c.application d.state cs behind) (run.goes cs) (λ asked. absurd (true≢false (sym asked ∙ not_asked))));
  }

  module _ (asks : Bool) (asked : asks ≡ true) (e : CoreValue) where
    pub run_rested : (rests : Bool) → Rested d e rests → PerformedOne asks c before command walk e after behind rests
    run_rested true rested = record {
      application = rested.application ∙ run.application;
      beside = still_beside d e after rested run.beside;
      tasks = run.tasks;
      goes = λ cs.
          subst (λ (l : Ahead). Goes asks c before l e after (ahead c.application e.state cs behind)) (sym (begins cs))
          (here (subst (λ (s : State). Goes asks c before (ahead_in c.application c.state turns cs walk) d after (ahead c.application s cs behind)) (sym (rested.stays refl))
          (goes_end asks c d before after _ d.state (ahead c.application d.state cs behind) (run.goes cs) (λ asked. subst (λ (a : Application). is_at_rest a d.state ≡ true) run.application (sym rested.is)))));
    }
      where
        here : {all left : Ahead} → Goes asks c before all d after left → Goes asks c before all e after left
        here g = record { steps = g.steps; ends = g.ends; steps_are = g.steps_are; ends_are = g.ends_are; state = rested.stays refl ∙ g.state; told = g.told; rest = g.rest }
    run_rested false rested = λ cs. record {
      application = rested.application ∙ run.application;
      asked = asked;
      work =
          ap (λ (l : Ahead). list_any (has_work c.application) l.1) (begins cs)
          ∙ ap (list_any (has_work c.application)) (run.goes cs).ends_are
          ∙ one_of_both (has_work c.application) (run.goes cs).ends (d.state ∷ run_ends c.application cs d.state behind)
          (ap (λ b. not b || list_any (has_work c.application) (run_ends c.application cs d.state behind)) (subst (λ (a : Application). is_at_rest a d.state ≡ false) run.application (sym rested.is)));
    }

-- ---- a script

-- some commands are done
pub record PerformingAll (asks : Bool) (c d : CoreValue) (before now : Path) (commands : List Command) (at : ℕ) (walk rest : List ℕ) : Type 0 where
  pub application : d.application ≡ c.application
  pub beside : IsBeside d now
  pub steps : d.steps + sum_by tries_of (drop at commands) ≤ c.steps + sum_by tries_of commands
  pub tasks : AreTasks c.application rest
  pub goes : Goes asks c before (ahead c.application c.state commands walk) d now (ahead c.application d.state (drop at commands) rest)

pub all_start : (asks : Bool) (c : CoreValue) (before : Path) (commands : List Command) (walk : List ℕ) → IsBeside c before → AreTasks c.application walk → PerformingAll asks c c before before commands 0 walk walk
all_start asks c before commands walk beside tasks = record { application = refl; beside = beside; steps = omega arith; tasks = tasks; goes = goes_none asks c before _ }

module _ (asks : Bool) (c d : CoreValue) (before now : Path) (commands : List Command) (at : ℕ) (walk rest : List ℕ) (all : PerformingAll asks c d before now commands at walk rest) where
  pub all_over : length commands ≤ at → PerformedScript asks c before commands walk d now
  all_over over = record {
    application = all.application;
    beside = all.beside;
    goes = subst (Goes asks c before (ahead c.application c.state commands walk) d now) (ap (λ (l : List Command). ahead c.application d.state l rest) (drop_all at commands over) ∙ ahead_over c.application d.state rest) all.goes;
  }

  pub all_steps : d.steps ≤ c.steps + sum_by tries_of commands
  all_steps = let h = all.steps in omega (arith, h)

  module _ (command : Command) (is : command ≡ get_or commands at command) (lt : at < length commands) where
    pub all_room : (n : ℕ) → c.steps + sum_by tries_of commands ≤ n → d.steps + tries_of command ≤ n
    all_room n few = omega (arith, few, tries_here commands at command is lt, all.steps)

    pub all_names : IsScriptOf c.application commands → IsCommandOf d.application.generation command
    all_names = name_here commands at command is lt c.application d.application all.application

    here : ahead c.application d.state (drop at commands) rest ≡ ahead c.application d.state (command ∷ drop (at + 1) commands) rest
    here = ap (λ (l : List Command). ahead c.application d.state l rest) (here_and_behind commands at command is lt)

    module _ (next : CoreValue) (later : Path) (behind : List ℕ) (few : next.steps ≤ d.steps + tries_of command) where
      pub all_few : next.steps ≤ c.steps + sum_by tries_of commands
      all_few = omega (arith, few, tries_here commands at command is lt, all.steps)

      pub all_more : PerformedOne asks d now command rest next later behind true → PerformingAll asks c next before later commands (at + 1) walk behind
      all_more one = record {
        application = one.application ∙ all.application;
        beside = one.beside;
        steps = omega (arith, few, tries_here commands at command is lt, all.steps);
        tasks = subst (λ (a : Application). AreTasks a behind) all.application one.tasks;
        goes = goes_both asks c d next before now later _ _ _ all.application (subst (Goes asks c before (ahead c.application c.state commands walk) d now) here all.goes)
            (subst (λ (a : Application). Goes asks d now (ahead a d.state (command ∷ drop (at + 1) commands) rest) next later (ahead a next.state (drop (at + 1) commands) behind)) all.application (one.goes (drop (at + 1) commands)));
      }

      pub all_left : PerformedOne asks d now command rest next later behind false → IsLeft asks c next commands walk
      all_left one =
          let left = one (drop (at + 1) commands) in
          record {
            application = left.application ∙ all.application;
            asked = left.asked;
            work =
                ap (list_any (has_work c.application)) (all.goes.ends_are ∙ ap (λ (l : Ahead). all.goes.ends ++ l.1) here)
                ∙ one_of_both (has_work c.application) all.goes.ends (run_ends c.application (command ∷ drop (at + 1) commands) d.state rest)
                (subst (λ (a : Application). list_any (has_work a) (run_ends a (command ∷ drop (at + 1) commands) d.state rest) ≡ true) all.application left.work);
          }

-- ---- the turns of a walk

walk_task : (app : Application) (p : Spot) (t : ℕ) → CanBe app p t → t ≤ app.generation.limits.tasks
walk_task app (AtEnd s) t can = absurd can
walk_task app (InRun left room s) zero can = omega arith
walk_task app (InRun left room s) (suc t) can = can.within.1

pub walk_tasks : (app : Application) (cs : List Command) (s : State) (walk : List ℕ) → IsWalk app cs s walk → AreTasks app walk
walk_tasks app cs s walk is k d less =
    walk_task app (stand app cs s (take k walk)) (get_or walk k d)
    (is.can (take k walk) (get_or walk k d) (drop (k + 1) walk) (sym (take-append-drop k walk) ∙ ap (λ (l : List ℕ). take k walk ++ l) (drop_more walk k d less)))

-- ---- from the start

pub left_work : (app : Application) (t : TableRows) (cs : List Command) (c : CoreValue) (before : Path) → Begun app t c before → (asks : Bool) (walk : List ℕ) (d : CoreValue) → IsLeft asks c d cs walk → (turns : List ℕ) → walk ≡ turns → list_any (has_work app) (run_ends app cs (started app t) turns) ≡ true
left_work app t cs c before begun asks walk d left turns same = (λ i. list_any (has_work (sym begun.application i)) (run_ends (sym begun.application i) cs (sym begun.state i) (sym same i))) ∙ left.work
