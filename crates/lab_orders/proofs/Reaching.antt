-- Along the turns of a walk.
use Rattle.std.proofs.Common.{◌≡◌, ℕ, zero, suc, ◌+◌, ◌-◌, ◌*◌, ◌<◌, ◌≤◌, ◌^◌, List, [], ◌∷◌, ◌++◌, refl, sym, ap, subst, ◌∙◌, append_assoc, arith, get_or, drop, take, length}
use Rattle.std.specs.Prelude.{Bool, true, false, not, ◌&&◌, ◌||◌, All, Option, Some, None, sum_by}
use Rattle.std.proofs.lemmas.Bool.{true≢false}
use Rattle.std.proofs.lemmas.List.{append-nil, drop_all, drop_more, length-drop, take-append-drop}
use Rattle.application_types.specs.Statements.{IsWithin}
use Rattle.kdcs_types.specs.Tables.{TableRows}
use Rattle.abstract_monitor.specs.Bytes.{Bytes}
use Rattle.abstract_monitor.specs.CommandsOf.{IsCommandOf}
use Rattle.abstract_monitor.specs.declared.command.Command.{Command}
use Rattle.abstract_monitor.specs.declared.command.Command.TheVariants.{Run, Turn}
use Rattle.abstract_monitor.specs.Commands.{ScriptStep, acts_of, command_of, started, state_after}
use Rattle.abstract_monitor.specs.State.{Application, State}
use Rattle.abstract_monitor.specs.Trace.{bytes_of}
use Rattle.laws_of_states.specs.Keeping.{IsScriptOf}
use Rattle.monitor_core.specs.CoreValue.{CoreValue}
use Rattle.lab_walks.specs.declared.frame.Frame.{Frame}
use Rattle.lab_walks.specs.Ahead.{Ahead, ahead, ahead_in}
use Rattle.lab_walks.specs.Frames.{IsFrame, IsWay, Opens, turn_in, turns_in}
use Rattle.lab_walks.specs.Serial.{is_one_at_a_time}
use Rattle.lab_walks.specs.Signs.{has_work, is_at_rest, is_dump, is_k04, is_k05, is_refused_in}
use Rattle.lab_walks.specs.Walks.{AtEnd, CanBe, InRun, Spot, idle_count, stand, stand_run}
use Rattle.lab_orders.specs.declared.path.Path.{Path}
use Rattle.lab_orders.specs.declared.reach.Place.{Place}
use Rattle.lab_orders.specs.declared.reach.Place.TheVariants.{Inside, Ended, Worked}
use Rattle.lab_orders.specs.Performing.{Tells}
use Rattle.lab_orders.specs.Searching.{Followed, GoesInRun, GoesOn, GoesToEnd, Going, IsTaken, Quest, Reached, TellsAll, WentCommand, WentOrEnds, WentRun, done_and, place_of, quest_of}
use Rattle.lab_orders.specs.Trying.{Rested}
use Rattle.lab_orders.specs.Walking.{Begun, DidCommand, IsBeside, IsNoRun, tries_of}
use Rattle.lab_orders.proofs.Commands.{name_here, tries_here, here_and_behind}
use Rattle.lab_orders.proofs.Performing.{ahead_begins, ahead_behind, all_both, at_over, at_turn, at_zero, flags_both, none_of_both, still_beside, tells_step}
use Rattle.lab_walks.specs.StepsLaws.{acts_both, after_both, bytes_both}
use Rattle.lab_orders.proofs.Steps.{after_one, moved, no_acts_after, stand_begins, stand_behind, stand_ends, stand_none, stand_over, stand_rest, stand_turn}

pub turns_both : (xs ys : List Frame) → turns_in (xs ++ ys) ≡ turns_in xs ++ turns_in ys
turns_both [] ys = refl
turns_both (x ∷ xs) ys = ap (λ (l : List ℕ). turn_in x ∷ l) (turns_both xs ys)

pub turns_more : (done : List Frame) (f : Frame) (o : List ℕ) → turns_in (done ++ f ∷ []) ++ o ≡ turns_in done ++ turn_in f ∷ o
turns_more done f o = ap (λ (l : List ℕ). l ++ o) (turns_both done (f ∷ [])) ∙ append_assoc (turns_in done) (turn_in f ∷ []) o

-- ---- what is told

tells_more : (p r : Path) (xs ys : List ScriptStep) → TellsAll xs p → Tells p ys r → TellsAll (xs ++ ys) r
tells_more p r xs ys all next = record {
  sent =
      next.sent
      ∙ ap (λ (b : Bytes). b ++ bytes_of (acts_of ys)) all.sent
      ∙ sym (bytes_both (acts_of xs) (acts_of ys))
      ∙ ap bytes_of (sym (acts_both xs ys));
  k04 = flags_both (λ (d : ScriptStep). is_refused_in is_k04 d.after) xs ys false p.signs.k04 r.signs.k04 all.k04 next.k04;
  k05 = flags_both (λ (d : ScriptStep). is_refused_in is_k05 d.after) xs ys false p.signs.k05 r.signs.k05 all.k05 next.k05;
  dump = flags_both (λ (d : ScriptStep). is_dump d.by) xs ys false p.signs.dump r.signs.dump all.dump next.dump;
  serial = all_both (λ (d : ScriptStep). is_one_at_a_time d.after) xs ys true p.serial r.serial all.serial next.serial;
}

did_tells : (c d : CoreValue) (before after : Path) (command : Command) → DidCommand c before command d after → Tells before (command_of c.application c.state command ∷ []) after
did_tells c d before after command did = tells_step before after (command_of c.application c.state command) did.sent did.signs (did.serial ∙ ap (λ (s : State). before.serial && is_one_at_a_time s) did.state)

begun_tells : (app : Application) (t : TableRows) (c : CoreValue) (p : Path) → Begun app t c p → TellsAll [] p
unfolding bytes_of
begun_tells app t c p begun = record { sent = begun.sent; k04 = begun.signs.k04; k05 = begun.signs.k05; dump = begun.signs.dump; serial = begun.serial }

-- ---- on the way

module _ {q : Quest} {Stand Next : List ℕ → Spot} {Left Later : List ℕ → Ahead} {s : State} {p : Path} {rest : List Frame} (g : Going q Stand Left s p rest) where
  -- what is left is the same
  going_same : ((o : List ℕ) → Stand o ≡ Next o) → ((o : List ℕ) → Left o ≡ Later o) → Going q Next Later s p rest
  going_same stands lefts = record {
    done = g.done;
    split = g.split;
    spot = λ o. g.spot o ∙ stands o;
    steps = g.steps;
    ends = g.ends;
    ahead_is = λ o. g.ahead_is o ∙ ap (done_and g.steps g.ends) (lefts o);
    state = g.state;
    told = g.told;
    no_work = g.no_work;
  }

  -- a turn is taken
  going_turn : (f : Frame) (behind : List Frame) → rest ≡ f ∷ behind → (t : ℕ) → turn_in f ≡ t → ((o : List ℕ) → Stand (t ∷ o) ≡ Next o) → ((o : List ℕ) → Left (t ∷ o) ≡ Later o) → Going q Next Later s p behind
  going_turn f behind is t turn stands lefts = record {
    done = g.done ++ f ∷ [];
    split = g.split ∙ ap (λ (l : List Frame). g.done ++ l) is ∙ sym (append_assoc g.done (f ∷ []) behind);
    spot = λ o. ap (stand q.app q.commands q.start) (there o) ∙ g.spot (t ∷ o) ∙ stands o;
    steps = g.steps;
    ends = g.ends;
    ahead_is = λ o. ap (ahead q.app q.start q.commands) (there o) ∙ g.ahead_is (t ∷ o) ∙ ap (done_and g.steps g.ends) (lefts o);
    state = g.state;
    told = g.told;
    no_work = g.no_work;
  }
    where
      there : (o : List ℕ) → turns_in (g.done ++ f ∷ []) ++ o ≡ turns_in g.done ++ t ∷ o
      there o = turns_more g.done f o ∙ ap (λ u. turns_in g.done ++ u ∷ o) turn

  -- a step is done
  going_step : (d : ScriptStep) (r : Path) → Tells p (d ∷ []) r → ((o : List ℕ) → Stand o ≡ Next o) → ((o : List ℕ) → Left o ≡ (d ∷ (Later o).0, (Later o).1)) → Going q Next Later d.after r rest
  going_step d r tells stands lefts = record {
    done = g.done;
    split = g.split;
    spot = λ o. g.spot o ∙ stands o;
    steps = g.steps ++ d ∷ [];
    ends = g.ends;
    ahead_is = λ o. g.ahead_is o ∙ ap (done_and g.steps g.ends) (lefts o) ∙ ap (λ (l : List ScriptStep). (l, g.ends ++ (Later o).1)) (sym (append_assoc g.steps (d ∷ []) (Later o).0));
    state = sym (after_both q.start g.steps (d ∷ []) ∙ after_one (state_after q.start g.steps) d [] ∙ no_acts_after d.after);
    told = tells_more p r g.steps (d ∷ []) g.told tells;
    no_work = g.no_work;
  }

  -- a RUN is over, without work if it is asked
  going_end : (q.asks ≡ true → is_at_rest q.app s ≡ true) → ((o : List ℕ) → Stand o ≡ Next o) → ((o : List ℕ) → Left o ≡ ((Later o).0, s ∷ (Later o).1)) → Going q Next Later s p rest
  going_end rests stands lefts = record {
    done = g.done;
    split = g.split;
    spot = λ o. g.spot o ∙ stands o;
    steps = g.steps;
    ends = g.ends ++ s ∷ [];
    ahead_is = λ o. g.ahead_is o ∙ ap (done_and g.steps g.ends) (lefts o) ∙ ap (λ (l : List State). (g.steps ++ (Later o).0, l)) (sym (append_assoc g.ends (s ∷ []) (Later o).1));
    state = g.state;
    told = g.told;
    no_work = λ asked. none_of_both (has_work q.app) g.ends (s ∷ []) (g.no_work asked) (ap (λ b. not b || false) (rests asked));
  }

-- ---- in a RUN

module _ (q : Quest) (app : Application) (n room : ℕ) (cs : List Command) (s : State) (p : Path) where
  -- no turn is left
  pub run_over : (rest : List Frame) → GoesInRun q app s 0 room cs p rest → GoesToEnd q app s cs p rest
  run_over rest g = going_same g (stand_over app s (stand app cs) room) (at_over app s cs)

  -- the turns end in it
  pub run_stands : GoesInRun q app s (n + 1) room cs p [] → place_of q ≡ InRun n room s
  run_stands g =
      ap (λ (l : List Frame). stand q.app q.commands q.start (turns_in l)) g.split
      ∙ ap (stand q.app q.commands q.start) (turns_both g.done [])
      ∙ g.spot []
      ∙ ap (λ m. stand_run app m room (stand app cs) s []) one_more
      ∙ stand_none app s (stand app cs) room n
    where
      one_more : n + 1 ≡ suc n
      one_more = omega arith

  module _ (f : Frame) (rest behind : List Frame) (is : rest ≡ f ∷ behind) (g : GoesInRun q app s (suc n) room cs p rest) where
    stands_here : stand q.app q.commands q.start (turns_in g.done) ≡ InRun n room s
    stands_here = ap (stand q.app q.commands q.start) (sym (append-nil (turns_in g.done))) ∙ g.spot [] ∙ stand_none app s (stand app cs) room n

    -- how many tasks are idle here
    pub idle_here : q.app ≡ app → IsWay q.app q.commands q.start q.frames → f.idle ≡ idle_count app s
    idle_here same way =
        let opens : Opens q.app n room s f = subst (λ (p : Spot). IsFrame q.app p f) stands_here (way g.done f behind (g.split ∙ ap (λ (l : List Frame). g.done ++ l) is)) in
        opens.idle ∙ ap (λ (a : Application). idle_count a s) same

    -- 0 ends it
    pub run_rests : turn_in f ≡ 0 → GoesToEnd q app s cs p behind
    run_rests zero_is = going_turn g f behind is 0 zero_is (stand_rest app s (stand app cs) room n) (at_zero app s cs n)

    -- a turn of a task
    pub run_turns : (t : ℕ) → turn_in f ≡ t → (t ≡ 0 → ⊥) → (r : Path) → Tells p (command_of app s (Turn t) ∷ []) r → (app' : Application) → app' ≡ app → (s' : State) → s' ≡ (command_of app s (Turn t)).after
        → (room' : ℕ) → room' ≡ room + idle_count app s → GoesInRun q app' s' n room' cs r behind
    unfolding command_of
    run_turns zero turn ne r tells app' same s' state room' room_is = absurd (ne refl)
    run_turns (suc t) turn ne r tells app' same s' state room' room_is =
        let there : Going q (λ o. stand_run app (suc n) room (stand app cs) s (suc t ∷ o)) (λ o. ahead_in app s (suc n) cs (suc t ∷ o)) s p behind = going_turn g f behind is (suc t) turn (λ o. refl) (λ o. refl) in
        subst (λ m. GoesInRun q app' s' n m cs r behind) (sym room_is)
        (moved (λ a u. GoesInRun q a u n (room + idle_count app s) cs r behind) same state
        (going_step there (command_of app s (Turn (suc t))) r tells (stand_turn app s (stand app cs) room n t) (at_turn app s cs n t)))

-- a turn that is taken and not 0 is that of a task
pub one_to_tasks : (app later : Application) → later ≡ app → (f : Frame) (t : ℕ) → t ≡ turn_in f → (t ≡ 0 → ⊥) → IsTaken app f → IsWithin 1 later.generation.limits.tasks t
one_to_tasks app later same f t is ne taken = (by t ne, subst (λ (a : Application). t ≤ a.generation.limits.tasks) (sym same) (subst (λ n. n ≤ app.generation.limits.tasks) (sym is) taken.within))
  where
    by : (t : ℕ) → (t ≡ 0 → ⊥) → 1 ≤ t
    by zero ne = absurd (ne refl)
    by (suc t) ne = omega arith

-- some turns of a RUN are done
pub record Running (c d : CoreValue) (before now : Path) (turns made room : ℕ) (frames rest : List Frame) : Type 0 where
  pub application : d.application ≡ c.application
  pub beside : IsBeside d now
  pub steps : d.steps ≤ c.steps + made
  pub taken : All (IsTaken c.application) rest
  pub room_is : room ≤ 65535 * made
  pub run : (q : Quest) (cs : List Command) → q.app ≡ c.application → IsWay q.app q.commands q.start q.frames → GoesInRun q c.application c.state turns 0 cs before frames → GoesInRun q d.application d.state (turns - made) room cs now rest

pub running_start : (c : CoreValue) (before : Path) (turns : ℕ) (frames : List Frame) → IsBeside c before → All (IsTaken c.application) frames → Running c c before before turns 0 0 frames frames
running_start c before turns frames beside taken = record {
  application = refl;
  beside = beside;
  steps = omega arith;
  taken = taken;
  room_is = omega arith;
  run = λ q cs same way g. let all : turns ≡ turns - 0 = omega arith in subst (λ n. GoesInRun q c.application c.state n 0 cs before frames) all g;
}

module _ (c d : CoreValue) (before now : Path) (turns made room : ℕ) (frames rest : List Frame) (running : Running c d before now turns made room frames rest) (later : ℕ) where
  pub running_over : turns ≤ made → WentRun c before turns later frames d now rest None
  running_over over = record {
    application = running.application;
    beside = running.beside;
    few = tt;
    went = λ q cs same way g.
        let none : turns - made ≡ 0 = omega (arith, over) in
        run_over q d.application 0 room cs d.state now rest (subst (λ n. GoesInRun q d.application d.state n room cs now rest) none (running.run q cs same way g));
  }

  module _ (lt : made < turns) where
    one_less : turns - made ≡ suc (turns - (made + 1))
    one_less = omega (arith, lt)

    run_here : (q : Quest) (cs : List Command) → q.app ≡ c.application → IsWay q.app q.commands q.start q.frames → GoesInRun q c.application c.state turns 0 cs before frames → GoesInRun q d.application d.state (suc (turns - (made + 1))) room cs now rest
    run_here q cs same way g = subst (λ n. GoesInRun q d.application d.state n room cs now rest) one_less (running.run q cs same way g)

    pub running_stops : rest ≡ [] → (left : ℕ) → left ≡ turns - made - 1 → turns ≤ 10 ^ 14 → WentRun c before turns later frames d now rest (Some (Inside left room later))
    running_stops none left left_is many = record {
      application = running.application;
      beside = running.beside;
      few = omega (arith, running.room_is, lt, many);
      went = λ q cs same way g.
          let one_more : turns - made ≡ left + 1 = omega (arith, left_is, lt) in
          (refl, subst (λ (x : ℕ × List Frame). GoesInRun q d.application d.state x.0 room cs now x.1) (λ i. (one_more i, none i)) (running.run q cs same way g));
    }

    module _ (f : Frame) (behind : List Frame) (is : rest ≡ f ∷ behind) where
      pub taken_here : IsTaken c.application f
      taken_here = (subst (All (IsTaken c.application)) is running.taken) 0 f (omega arith)

      pub taken_behind : All (IsTaken c.application) behind
      taken_behind = λ k e less. (subst (All (IsTaken c.application)) is running.taken) (suc k) e (omega (arith, less))

      pub running_rests : turn_in f ≡ 0 → WentRun c before turns later frames d now behind None
      running_rests zero_is = record {
        application = running.application;
        beside = running.beside;
        few = tt;
        went = λ q cs same way g. run_rests q d.application (turns - (made + 1)) room cs d.state now f rest behind is (run_here q cs same way g) zero_is;
      }

      pub running_more : (t : ℕ) → t ≡ turn_in f → (t ≡ 0 → ⊥) → (next : CoreValue) (after : Path) → DidCommand d now (Turn t) next after → next.steps ≡ d.steps + 1 → (room' : ℕ) → room' ≡ room + f.idle → f.idle ≤ 65535
          → Running c next before after turns (made + 1) room' frames behind
      running_more t turn ne next after did steps room' room_is few = record {
        application = did.application ∙ running.application;
        beside = did.beside;
        steps = omega (arith, steps, running.steps);
        taken = taken_behind;
        room_is = omega (arith, room_is, few, running.room_is);
        run = λ q cs same way g.
            let here = run_here q cs same way g in
            run_turns q d.application (turns - (made + 1)) room cs d.state now f rest behind is here t (sym turn) ne after (did_tells d next now after (Turn t) did) next.application did.application next.state did.state room'
            (room_is ∙ ap (λ n. room + n) (idle_here q d.application (turns - (made + 1)) room cs d.state now f rest behind is here (same ∙ sym running.application) way));
      }

-- ---- a RUN, and whether work is left at its end

module _ (asks : Bool) (c : CoreValue) (before : Path) (turns later : ℕ) (frames : List Frame) (d : CoreValue) (now : Path) (rest : List Frame) where
  begins : (q : Quest) (cs : List Command) → GoesOn q c.application c.state (Run turns ∷ cs) before frames → GoesInRun q c.application c.state turns 0 cs before frames
  begins q cs g = going_same g (stand_begins c.application turns cs c.state) (ahead_begins c.application c.state cs turns)

  -- the turns end in it
  pub run_stopped : (place : Place) → WentRun c before turns later frames d now rest (Some place) → WentCommand asks c before (Run turns) later frames d now rest (Some place)
  run_stopped (Inside left room behind) run = record {
    application = run.application;
    beside = run.beside;
    few = run.few;
    went = λ q cs same asked way g. run.went q cs same way (begins q cs g);
  }
  run_stopped Ended run = record { application = run.application; beside = run.beside; few = tt; went = λ q cs same asked way g. run.went q cs same way (begins q cs g) }
  run_stopped Worked run = record { application = run.application; beside = tt; few = tt; went = λ q cs same asked way g. absurd (run.went q cs same way (begins q cs g)) }

  module _ (run : WentRun c before turns later frames d now rest None) where
    ends : (q : Quest) (cs : List Command) → q.app ≡ c.application → IsWay q.app q.commands q.start q.frames → (q.asks ≡ true → is_at_rest d.application d.state ≡ true) → GoesOn q c.application c.state (Run turns ∷ cs) before frames → GoesOn q d.application d.state cs now rest
    ends q cs same way rests g =
        going_end (run.went q cs same way (begins q cs g)) (λ asked. subst (λ (a : Application). is_at_rest a d.state ≡ true) (run.application ∙ sym same) (rests asked)) (λ o. refl) (λ o. refl)

    -- it is not asked for
    pub run_went : asks ≡ false → WentCommand asks c before (Run turns) later frames d now rest None
    run_went not_asked = record {
      application = run.application;
      beside = run.beside;
      few = tt;
      went = λ q cs same is way g. ends q cs same way (λ asked. absurd (true≢false (sym asked ∙ is ∙ not_asked))) g;
    }

    -- none is left
    pub run_rested : (e : CoreValue) → Rested d e true → WentCommand asks c before (Run turns) later frames e now rest None
    run_rested e rested = record {
      application = rested.application ∙ run.application;
      beside = still_beside d e now rested run.beside;
      few = tt;
      went = λ q cs same is way g. moved (λ a u. GoesOn q a u cs now rest) rested.application (rested.stays refl) (ends q cs same way (λ asked. sym rested.is) g);
    }

    -- some is left
    pub run_worked : asks ≡ true → (e : CoreValue) → Rested d e false → WentCommand asks c before (Run turns) later frames e now rest (Some Worked)
    run_worked asked e rested = record { application = rested.application ∙ run.application; beside = tt; few = tt; went = λ q cs same is way g. is ∙ asked }

-- ---- a command

pub command_went : (asks : Bool) (c : CoreValue) (before : Path) (command : Command) (later : ℕ) (rest : List Frame) (d : CoreValue) (after : Path) → IsNoRun command → DidCommand c before command d after → WentCommand asks c before command later rest d after rest None
command_went asks c before command later rest d after no_run did = record {
  application = did.application;
  beside = did.beside;
  few = tt;
  went = λ q cs same is way g.
      moved (λ a u. GoesOn q a u cs after rest) did.application did.state
      (going_step g (command_of c.application c.state command) after (did_tells c d before after command did) (stand_behind c.application command cs c.state no_run) (ahead_behind c.application c.state cs command no_run));
}

-- ---- a script

-- some commands are done, and so many are later
pub record Following (asks : Bool) (c d : CoreValue) (before now : Path) (commands : List Command) (at later : ℕ) (frames rest : List Frame) : Type 0 where
  pub application : d.application ≡ c.application
  pub beside : IsBeside d now
  pub steps : d.steps + sum_by tries_of (drop at commands) ≤ c.steps + sum_by tries_of commands
  pub taken : All (IsTaken c.application) rest
  pub number : later + at ≡ length commands
  pub goes : (q : Quest) → q.app ≡ c.application → q.asks ≡ asks → IsWay q.app q.commands q.start q.frames → GoesOn q c.application c.state commands before frames → GoesOn q d.application d.state (drop at commands) now rest

pub following_start : (asks : Bool) (c : CoreValue) (before : Path) (commands : List Command) (frames : List Frame) → IsBeside c before → All (IsTaken c.application) frames → (later : ℕ) → later ≡ length commands → Following asks c c before before commands 0 later frames frames
following_start asks c before commands frames beside taken later number = record {
  application = refl;
  beside = beside;
  steps = omega arith;
  taken = taken;
  number = omega (arith, number);
  goes = λ q same is way g. g;
}

module _ (asks : Bool) (c d : CoreValue) (before now : Path) (commands : List Command) (at later : ℕ) (frames rest : List Frame) (following : Following asks c d before now commands at later frames rest) where
  pub following_over : length commands ≤ at → Followed asks c before commands frames d now Ended
  following_over over = record {
    application = following.application;
    beside = following.beside;
    steps = let h = following.steps in omega (arith, h);
    few = tt;
    reached = λ q same are is way g. over_here q (subst (λ (l : List Command). GoesOn q d.application d.state l now rest) (drop_all at commands over) (following.goes q same is way g));
  }
    where
      over_here : (q : Quest) → GoesOn q d.application d.state [] now rest → Reached q d now Ended
      over_here q g =
          ap (λ (l : List Frame). stand q.app q.commands q.start (turns_in l)) g.split
          ∙ ap (stand q.app q.commands q.start) (turns_both g.done rest)
          ∙ g.spot (turns_in rest)
          ∙ stand_ends d.application d.state (turns_in rest)

  module _ (command : Command) (is : command ≡ get_or commands at command) (lt : at < length commands) where
    pub following_steps : c.steps + sum_by tries_of commands ≤ 10 ^ 14 → d.steps + tries_of command ≤ 10 ^ 14
    following_steps few = omega (arith, few, tries_here commands at command is lt, following.steps)

    pub following_names : IsScriptOf c.application commands → IsCommandOf d.application.generation command
    following_names = name_here commands at command is lt c.application d.application following.application

    module _ (next : CoreValue) (after : Path) (behind : List Frame) (fewer : ℕ) (one_less : fewer ≡ later - 1) (few : next.steps ≤ d.steps + tries_of command) where
      goes_here : (place : Option Place) → WentCommand asks d now command fewer rest next after behind place → (q : Quest) → q.app ≡ c.application → q.asks ≡ asks → IsWay q.app q.commands q.start q.frames → GoesOn q c.application c.state commands before frames
          → WentOrEnds q (drop (at + 1) commands) fewer next after behind place
      goes_here place went q same asked way g =
          went.went q (drop (at + 1) commands) (same ∙ sym following.application) asked way
          (subst (λ (l : List Command). GoesOn q d.application d.state l now rest) (here_and_behind commands at command is lt) (following.goes q same asked way g))

      pub following_more : WentCommand asks d now command fewer rest next after behind None → All (IsTaken d.application) behind → Following asks c next before after commands (at + 1) fewer frames behind
      following_more went taken = record {
        application = went.application ∙ following.application;
        beside = went.beside;
        steps = omega (arith, few, tries_here commands at command is lt, following.steps);
        taken = subst (λ (a : Application). All (IsTaken a) behind) following.application taken;
        number = omega (arith, one_less, lt, following.number);
        goes = goes_here None went;
      }

      pub following_stops : (place : Place) → WentCommand asks d now command fewer rest next after behind (Some place) → Followed asks c before commands frames next after place
      following_stops place went = record {
        application = went.application ∙ following.application;
        beside = went.beside;
        steps = omega (arith, few, tries_here commands at command is lt, following.steps);
        few = went.few;
        reached = λ q same are asked way g. stops place q are (goes_here (Some place) went q same asked way g);
      }
        where
          number : fewer ≡ length (drop (at + 1) commands)
          number = let all : length (drop (at + 1) commands) ≡ length commands - (at + 1) = length-drop (at + 1) commands in omega (arith, all, one_less, lt, following.number)

          stops : (place : Place) (q : Quest) → q.commands ≡ commands → WentOrEnds q (drop (at + 1) commands) fewer next after behind (Some place) → Reached q next after place
          stops (Inside left room number_behind) q are h = record { front = take (at + 1) commands; cs = drop (at + 1) commands; parts = are ∙ sym (take-append-drop (at + 1) commands); stops = (h.0 ∙ number, h.1) }
          stops Ended q are h = absurd h
          stops Worked q are h = h

-- ---- the turns of a way

way_taken_at : (app : Application) (p : Spot) (f : Frame) → IsFrame app p f → IsTaken app f
way_taken_at app (AtEnd s) f h = absurd h
way_taken_at app (InRun left room s) f h = record { at = h.at; within = within (turn_in f) (h.can f.at 0 h.at) }
  where
    within : (t : ℕ) → CanBe app (InRun left room s) t → t ≤ app.generation.limits.tasks
    within zero can = omega arith
    within (suc t) can = can.within.1

pub way_taken : (app : Application) (cs : List Command) (s : State) (frames : List Frame) → IsWay app cs s frames → All (IsTaken app) frames
way_taken app cs s frames way k d less =
    way_taken_at app (stand app cs s (turns_in (take k frames))) (get_or frames k d)
    (way (take k frames) (get_or frames k d) (drop (k + 1) frames) (sym (take-append-drop k frames) ∙ ap (λ (l : List Frame). take k frames ++ l) (drop_more frames k d less)))

-- ---- from the start

module _ (app : Application) (t : TableRows) (cs : List Command) (c : CoreValue) (before : Path) (begun : Begun app t c before) (frames : List Frame) (asks : Bool) where
  goes_start : GoesOn (quest_of app cs t frames asks) c.application c.state cs before frames
  goes_start = moved (λ a u. GoesOn (quest_of app cs t frames asks) a u cs before frames) begun.application begun.state (record {
    done = [];
    split = refl;
    spot = λ o. refl;
    steps = [];
    ends = [];
    ahead_is = λ o. refl;
    state = sym (no_acts_after (started app t));
    told = begun_tells app t c before begun;
    no_work = λ asked. refl;
  })

  pub reached_from : (d : CoreValue) (after : Path) (place : Place) → Followed asks c before cs frames d after place → IsWay app cs (started app t) frames → Reached (quest_of app cs t frames asks) d after place
  reached_from d after place followed way = followed.reached (quest_of app cs t frames asks) (sym begun.application) refl refl way goes_start
