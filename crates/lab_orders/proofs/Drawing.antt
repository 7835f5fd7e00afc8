-- Turns that are drawn, and commands without a way.
use Rattle.std.proofs.Common.{◌≡◌, inl, inr, ℕ, zero, suc, ◌+◌, ◌-◌, ◌<◌, ◌≤◌, ◌^◌, List, [], ◌∷◌, ◌++◌, refl, sym, ap, subst, ◌∙◌, append_assoc, arith, get_or, slice_set, take, drop, length, replicate}
use Rattle.std.specs.Prelude.{◌⊎◌, Bool, true, false, All, Some, None, cond, sum_by}
use Rattle.std.proofs.lemmas.Bool.{true≢false}
use Rattle.std.proofs.lemmas.List.{append-nil, length-replicate, take_all, take_more}
use Rattle.kdcs_types.specs.Tables.{TableRows}
use Rattle.abstract_monitor.specs.declared.command.Command.{Command}
use Rattle.abstract_monitor.specs.declared.command.Command.TheVariants.{Run}
use Rattle.abstract_monitor.specs.Commands.{command_of, turned_step}
use Rattle.abstract_monitor.specs.CommandsOf.{IsCommandOf}
use Rattle.abstract_monitor.specs.Endings.{durable}
use Rattle.abstract_monitor.specs.State.{Application, State}
use Rattle.abstract_monitor.specs.Trace.{tables_after}
use Rattle.abstract_monitor.specs.Turns.{Turned, turn_of}
use Rattle.laws_of_states.specs.Keeping.{HasFacts, IsScriptOf}
use Rattle.laws_of_states.specs.Steps.{StepsMakeTheirTables, TurnsCommitOnce}
use Rattle.monitor_core.specs.CoreSteps.{durable_of}
use Rattle.monitor_core.specs.CoreValue.{CoreValue}
use Rattle.monitor_core.specs.Keeping.{AreKept}
use Rattle.service_ends.specs.declared.turned.Turned.{Turned as Did}
use Rattle.lab_orders.specs.declared.path.Path.{Path}
use Rattle.lab_orders.specs.Drawing.{CameIntoRun, CameToCommands, Drew, IsAwake, Script}
use Rattle.lab_walks.specs.Orders.{IsAtRest, IsTurn, has_effect}
use Rattle.lab_orders.specs.Trying.{Tried}
use Rattle.lab_orders.specs.Walking.{DidCommand, IsBeside, IsNoRun, tries_of}
use Rattle.lab_walks.specs.Walks.{CanBe, InRun, IsEnd, IsWalk, Spot, idle_count, idle_from, stand}
use Rattle.lab_orders.proofs.Commands.{acts_are_kept, durable_after, name_here, tries_here}
use Rattle.lab_walks.specs.ListsLaws.{each_more, not_none}
use Rattle.lab_orders.proofs.Steps.{moved, stand_begins, stand_behind, stand_ends, stand_none, stand_over, stand_rest, stand_turn}

-- ---- tasks that rest

pub rests_in : List Bool → ℕ
rests_in [] = 0
rests_in (true ∷ l) = suc (rests_in l)
rests_in (false ∷ l) = rests_in l

rests_set : (l : List Bool) (at : ℕ) → at < length l → ((d : Bool) → get_or l at d ≡ false) → rests_in (slice_set l at true) ≡ suc (rests_in l)
unfolding rests_in
rests_set [] at lt awake = absurd (omega (arith, lt))
rests_set (true ∷ l) zero lt awake = absurd (true≢false (awake true))
rests_set (false ∷ l) zero lt awake = refl
rests_set (true ∷ l) (suc at) lt awake = ap suc (rests_set l at (omega (arith, lt)) awake)
rests_set (false ∷ l) (suc at) lt awake = rests_set l at (omega (arith, lt)) awake

length_set : (l : List Bool) (at : ℕ) (b : Bool) → length (slice_set l at b) ≡ length l
length_set [] at b = refl
length_set (x ∷ l) zero b = refl
length_set (x ∷ l) (suc at) b = ap suc (length_set l at b)

get_set : (l : List Bool) (at k : ℕ) → get_or (slice_set l at true) k false ≡ true → (k ≡ at) ⊎ (get_or l k false ≡ true)
get_set [] at k e = inr e
get_set (x ∷ l) zero zero e = inl refl
get_set (x ∷ l) zero (suc k) e = inr e
get_set (x ∷ l) (suc at) zero e = inr e
get_set (x ∷ l) (suc at) (suc k) e = elim (get_set l at k e) [ inl same ↦ inl (ap suc same) | inr there ↦ inr there ]

-- those that rest have no effect
abbrev pub Rest : Application → State → List Bool → Type 0
Rest app s l = (k : ℕ) → get_or l k false ≡ true → has_effect app s (k + 1) ≡ false

rests_few : (app : Application) (s : State) (task : ℕ) (l : List Bool) → ((k : ℕ) → get_or l k false ≡ true → has_effect app s (task + k) ≡ false) → rests_in l ≤ idle_from app s task (length l)
unfolding rests_in
rests_few app s task [] none = omega arith
rests_few app s task (true ∷ l) none =
    let here : has_effect app s task ≡ false = ap (has_effect app s) (omega arith) ∙ none 0 refl in
    let one : idle_from app s task (suc (length l)) ≡ 1 + idle_from app s (task + 1) (length l) = ap (λ b. cond b 0 1 + idle_from app s (task + 1) (length l)) here in
    let rest = rests_few app s (task + 1) l (λ k e. ap (has_effect app s) (omega arith) ∙ none (suc k) e) in
    omega (arith, one, rest)
rests_few app s task (false ∷ l) none =
    let rest = rests_few app s (task + 1) l (λ k e. ap (has_effect app s) (omega arith) ∙ none (suc k) e) in
    by (has_effect app s task) rest
  where
    by : (b : Bool) → rests_in l ≤ idle_from app s (task + 1) (length l) → rests_in l ≤ cond b 0 1 + idle_from app s (task + 1) (length l)
    by true rest = omega (arith, rest)
    by false rest = omega (arith, rest)

few_rest : (app : Application) (s : State) (l : List Bool) → Rest app s l → length l ≡ app.generation.limits.tasks → rests_in l ≤ idle_count app s
few_rest app s l rest tasks = subst (λ n. rests_in l ≤ idle_from app s 1 n) tasks (rests_few app s 1 l (λ k e. ap (has_effect app s) (omega arith) ∙ rest k e))

all_rest : (app : Application) (s : State) (l : List Bool) → Rest app s l → length l ≡ app.generation.limits.tasks → All (λ rests. rests ≡ true) l → IsAtRest app s
all_rest app s l rest tasks all t turn =
    let low : 1 ≤ t = turn.within.0 in
    let high : t ≤ app.generation.limits.tasks = turn.within.1 in
    let none : has_effect app s (t - 1 + 1) ≡ false = rest (t - 1) (all (t - 1) false (omega (arith, low, high, tasks))) in
    let same : t - 1 + 1 ≡ t = omega (arith, low) in
    true≢false (sym turn.effect ∙ ap (has_effect app s) (sym same) ∙ none)

-- ---- what was taken

module _ (q : Script) (app : Application) (n room : ℕ) (cs : List Command) (s : State) (taken : List ℕ) (same : q.app ≡ app) where
  here_is : CameIntoRun q app s (suc n) room cs taken → stand q.app q.commands q.start taken ≡ InRun n room s
  here_is came = ap (stand q.app q.commands q.start) (sym (append-nil taken)) ∙ came.spot [] ∙ stand_none app s (stand app cs) room n

  can_more : CameIntoRun q app s (suc n) room cs taken → (t : ℕ) → CanBe app (InRun n room s) t → (before : List ℕ) (u : ℕ) (behind : List ℕ) → taken ++ t ∷ [] ≡ before ++ u ∷ behind → CanBe q.app (stand q.app q.commands q.start before) u
  can_more came t can = each_more (λ (before : List ℕ) (u : ℕ). CanBe q.app (stand q.app q.commands q.start before) u) taken t came.can
      (subst (λ (p : Spot). CanBe q.app p t) (sym (here_is came)) (subst (λ (a : Application). CanBe a (InRun n room s) t) (sym same) can))

  pub came_turn : CameIntoRun q app s (suc n) room cs taken → (t : ℕ) → IsTurn app s t
      → (app' : Application) → app' ≡ app → (s' : State) → s' ≡ (turn_of app s t).after → (room' : ℕ) → room' ≡ room + idle_count app s
      → CameIntoRun q app' s' n room' cs (taken ++ t ∷ [])
  came_turn came zero turn app' same' s' state room' room_is = let within : 1 ≤ 0 = turn.within.0 in absurd (omega (arith, within))
  came_turn came (suc t) turn app' same' s' state room' room_is =
      subst (λ r. CameIntoRun q app' s' n r cs (taken ++ suc t ∷ [])) (sym room_is)
      (moved (λ a u. CameIntoRun q a u n (room + idle_count app s) cs (taken ++ suc t ∷ [])) same' state (record {
        can = can_more came (suc t) turn;
        spot = λ o. ap (stand q.app q.commands q.start) (append_assoc taken (suc t ∷ []) o) ∙ came.spot (suc t ∷ o) ∙ stand_turn app s (stand app cs) room n t o;
      }))

  pub came_rest : CameIntoRun q app s (suc n) room cs taken → CanBe app (InRun n room s) 0 → CameToCommands q app s cs (taken ++ 0 ∷ [])
  came_rest came can = record {
    can = can_more came 0 can;
    spot = λ o. ap (stand q.app q.commands q.start) (append_assoc taken (0 ∷ []) o) ∙ came.spot (0 ∷ o) ∙ stand_rest app s (stand app cs) room n o;
  }

pub came_into : (q : Script) (app : Application) (n : ℕ) (cs : List Command) (s : State) (taken : List ℕ) → CameToCommands q app s (Run n ∷ cs) taken → CameIntoRun q app s n 0 cs taken
came_into q app n cs s taken came = record { can = came.can; spot = λ o. came.spot o ∙ stand_begins app n cs s o }

pub came_out : (q : Script) (app : Application) (room : ℕ) (cs : List Command) (s : State) (taken : List ℕ) → CameIntoRun q app s 0 room cs taken → CameToCommands q app s cs taken
came_out q app room cs s taken came = record { can = came.can; spot = λ o. came.spot o ∙ stand_over app s (stand app cs) room o }

came_command : (q : Script) (app : Application) (c : Command) (cs : List Command) (s : State) (taken : List ℕ) → CameToCommands q app s (c ∷ cs) taken → IsNoRun c
    → (app' : Application) → app' ≡ app → (s' : State) → s' ≡ (command_of app s c).after
    → CameToCommands q app' s' cs taken
came_command q app c cs s taken came no_run app' same s' state =
    moved (λ a u. CameToCommands q a u cs taken) same state (record { can = came.can; spot = λ o. came.spot o ∙ stand_behind app c cs s no_run o })

-- ---- a RUN

-- some turns were drawn
pub record Drawing (c d : CoreValue) (before now : Path) (turns made effects : ℕ) (resting : List Bool) : Type 0 where
  pub application : d.application ≡ c.application
  pub beside : IsBeside d now
  pub steps : d.steps ≤ c.steps + made
  pub few : effects ≤ made
  pub tasks : length resting ≡ d.application.generation.limits.tasks
  pub rest : Rest d.application d.state resting
  pub room : ℕ
  pub count : made ≤ effects + room + rests_in resting
  pub run : (q : Script) (cs : List Command) → q.app ≡ c.application → CameIntoRun q c.application c.state turns 0 cs before.turns → CameIntoRun q d.application d.state (turns - effects) room cs now.turns

no_rest : (app : Application) (s : State) (n : ℕ) → Rest app s (replicate n false)
no_rest app s n k e = absurd (true≢false (sym e ∙ none n k))
  where
    none : (n k : ℕ) → get_or (replicate n false) k false ≡ false
    none zero k = refl
    none (suc n) zero = refl
    none (suc n) (suc k) = none n k

pub drawing_start : (c : CoreValue) (before : Path) (turns tasks : ℕ) (resting : List Bool) → IsBeside c before → tasks ≡ c.application.generation.limits.tasks → resting ≡ replicate tasks false → Drawing c c before before turns 0 0 resting
drawing_start c before turns tasks resting beside tasks_are none = record {
  application = refl;
  beside = beside;
  steps = omega arith;
  few = omega arith;
  tasks = ap length none ∙ length-replicate tasks false ∙ tasks_are;
  rest = subst (Rest c.application c.state) (sym none) (no_rest c.application c.state tasks);
  room = 0;
  count = omega arith;
  run = λ q cs same r. let all : turns ≡ turns - 0 = omega arith in subst (λ n. CameIntoRun q c.application c.state n 0 cs before.turns) all r;
}

module _ (c d : CoreValue) (before now : Path) (turns made effects : ℕ) (resting : List Bool) (drawing : Drawing c d before now turns made effects resting) where
  few_here : rests_in resting ≤ idle_count d.application d.state
  few_here = few_rest d.application d.state resting drawing.rest drawing.tasks

  pub drawing_tasks : (tasks : ℕ) → tasks ≡ c.application.generation.limits.tasks → length resting ≡ tasks
  drawing_tasks tasks are = drawing.tasks ∙ ap (λ (a : Application). a.generation.limits.tasks) drawing.application ∙ sym are

  -- all turns had an effect
  pub drawing_over : turns ≤ effects → Drew c before (Run turns ∷ []) d now
  drawing_over over = record {
    application = drawing.application;
    beside = drawing.beside;
    came = λ q cs same r.
        let none : turns - effects ≡ 0 = omega (arith, over) in
        came_out q d.application drawing.room cs d.state now.turns
        (subst (λ n. CameIntoRun q d.application d.state n drawing.room cs now.turns) none (drawing.run q cs same (came_into q c.application turns cs c.state before.turns r)));
  }

  module _ (lt : effects < turns) where
    one_less : turns - effects ≡ suc (turns - (effects + 1))
    one_less = omega (arith, lt)

    run_here : (q : Script) (cs : List Command) → q.app ≡ c.application → CameIntoRun q c.application c.state turns 0 cs before.turns → CameIntoRun q d.application d.state (suc (turns - (effects + 1))) drawing.room cs now.turns
    run_here q cs same r = subst (λ n. CameIntoRun q d.application d.state n drawing.room cs now.turns) one_less (drawing.run q cs same r)

    ended : CanBe d.application (InRun (turns - (effects + 1)) drawing.room d.state) 0 → (later : Path) → later.turns ≡ now.turns ++ 0 ∷ [] → later.durable ≡ now.durable → Drew c before (Run turns ∷ []) d later
    ended can later turns_are durable_is = record {
      application = drawing.application;
      beside = record { facts = drawing.beside.facts; replays = drawing.beside.replays; durable = durable_is ∙ drawing.beside.durable };
      came = λ q cs same r.
          subst (CameToCommands q d.application d.state cs) (sym turns_are)
          (came_rest q d.application (turns - (effects + 1)) drawing.room cs d.state now.turns (same ∙ sym drawing.application) (run_here q cs same (came_into q c.application turns cs c.state before.turns r)) can);
    }

    -- all tasks rest
    pub drawing_rests : All (λ rests. rests ≡ true) resting → (later : Path) → later.turns ≡ now.turns ++ 0 ∷ [] → later.durable ≡ now.durable → Drew c before (Run turns ∷ []) d later
    drawing_rests all = ended (inl (all_rest d.application d.state resting drawing.rest drawing.tasks all))

    -- the turns are spent
    pub drawing_spent : turns ≤ made → (later : Path) → later.turns ≡ now.turns ++ 0 ∷ [] → later.durable ≡ now.durable → Drew c before (Run turns ∷ []) d later
    drawing_spent over = ended (inr (omega (arith, lt, over, drawing.count, few_here)))

    -- a turn had an effect
    pub drawing_effect : (task : ℕ) → IsAwake resting task → (next : CoreValue) (did : Did) → Tried d task next (Some did) → next.steps ≡ d.steps + 1 → (later : Path) → later.turns ≡ now.turns ++ task ∷ [] → later.durable ≡ durable_of next
        → (tasks : ℕ) → tasks ≡ c.application.generation.limits.tasks → (others : List Bool) → others ≡ replicate tasks false → Drawing c next before later turns (made + 1) (effects + 1) others
    drawing_effect task awake next did tried one later turns_are durable_is tasks tasks_are others none = record {
      application = tried.application ∙ drawing.application;
      beside = record { facts = tried.facts; replays = tried.replays; durable = durable_is };
      steps = omega (arith, one, drawing.steps);
      few = omega (arith, drawing.few);
      tasks = ap length none ∙ length-replicate tasks false ∙ tasks_are ∙ ap (λ (a : Application). a.generation.limits.tasks) (sym (tried.application ∙ drawing.application));
      rest = subst (Rest next.application next.state) (sym none) (no_rest next.application next.state tasks);
      room = drawing.room + idle_count d.application d.state;
      count = omega (arith, few_here, drawing.count);
      run = λ q cs same r.
          subst (λ (l : List ℕ). CameIntoRun q next.application next.state (turns - (effects + 1)) (drawing.room + idle_count d.application d.state) cs l) (sym turns_are)
          (came_turn q d.application (turns - (effects + 1)) drawing.room cs d.state now.turns (same ∙ sym drawing.application) (run_here q cs same r) task turn next.application tried.application next.state after (drawing.room + idle_count d.application d.state) refl);
    }
      where
        turn : IsTurn d.application d.state task
        turn = record { within = (awake.least, omega (arith, awake.most, drawing.tasks)); effect = tried.exact.0 }

        after : next.state ≡ (turn_of d.application d.state task).after
        after = ap (λ (t : Turned). t.after) tried.exact.1

  -- a turn had none
  pub drawing_none : (task : ℕ) → IsAwake resting task → (next : CoreValue) → Tried d task next None → next.steps ≡ d.steps + 1 → (others : List Bool) → others ≡ slice_set resting (task - 1) true → Drawing c next before now turns (made + 1) effects others
  drawing_none task awake next tried one others are = record {
    application = tried.application ∙ drawing.application;
    beside = record { facts = tried.facts; replays = tried.replays; durable = drawing.beside.durable ∙ (λ i. durable (sym tried.application i).generation (sym tried.exact.1 i).tables) };
    steps = omega (arith, one, drawing.steps);
    few = omega (arith, drawing.few);
    tasks = ap length are ∙ length_set resting (task - 1) true ∙ drawing.tasks ∙ ap (λ (a : Application). a.generation.limits.tasks) (sym tried.application);
    rest = moved (λ a u. Rest a u others) tried.application tried.exact.1 (subst (Rest d.application d.state) (sym are) rest);
    room = drawing.room;
    count =
        let more : rests_in others ≡ suc (rests_in resting) = ap rests_in are ∙ rests_set resting (task - 1) (let low = awake.least in let high = awake.most in omega (arith, low, high)) awake.awake in
        omega (arith, more, drawing.count);
    run = λ q cs same r. moved (λ a u. CameIntoRun q a u (turns - effects) drawing.room cs now.turns) tried.application tried.exact.1 (drawing.run q cs same r);
  }
    where
      rest : Rest d.application d.state (slice_set resting (task - 1) true)
      rest k e = elim (get_set resting (task - 1) k e) [
        | inl same ↦ (let low = awake.least in let number : k + 1 ≡ task = omega (arith, same, low) in ap (has_effect d.application d.state) number ∙ tried.exact.0)
        | inr there ↦ drawing.rest k there
      ]

-- ---- the durable tables

module _ (make : StepsMakeTheirTables) (commits : TurnsCommitOnce) (d next : CoreValue) (task : ℕ) (did : Did) (facts : HasFacts d.application d.state) (tried : Tried d task next (Some did)) where
  pub effect_is_kept : AreKept did.acts
  effect_is_kept = acts_are_kept make d next (turned_step (turn_of d.application d.state task)) facts tried.facts tried.application (ap (λ (t : Turned). t.after) tried.exact.1) (commits d.application d.state task) did.acts (ap (λ (t : Turned). t.acts) tried.exact.1)

  pub effect_durable : (before after : TableRows) → before ≡ durable_of d → after ≡ tables_after before did.acts → after ≡ durable_of next
  effect_durable before after b a = durable_after make d next (turned_step (turn_of d.application d.state task)) facts tried.facts tried.application (ap (λ (t : Turned). t.after) tried.exact.1) (commits d.application d.state task) before after did.acts b (ap (λ (t : Turned). t.acts) tried.exact.1) a

-- ---- one command

pub command_drew : (c : CoreValue) (before : Path) (command : Command) (d : CoreValue) (after : Path) → IsNoRun command → DidCommand c before command d after → Drew c before (command ∷ []) d after
command_drew c before command d after no_run did = record {
  application = did.application;
  beside = did.beside;
  came = λ q cs same r.
      subst (CameToCommands q d.application d.state cs) (sym did.turns)
      (came_command q c.application command cs c.state before.turns r no_run d.application did.application d.state did.state);
}

pub run_drew : (c : CoreValue) (before : Path) (command : Command) (turns : ℕ) (d : CoreValue) (after : Path) → command ≡ Run turns → Drew c before (Run turns ∷ []) d after → Drew c before (command ∷ []) d after
run_drew c before command turns d after is drew = subst (λ (x : Command). Drew c before (x ∷ []) d after) (sym is) drew

-- ---- a script

-- some commands were done
pub record Drawn (c d : CoreValue) (before now : Path) (commands : List Command) (at : ℕ) : Type 0 where
  pub drew : Drew c before (take at commands) d now
  pub steps : d.steps + sum_by tries_of (drop at commands) ≤ 10 ^ 14

pub drawn_start : (c : CoreValue) (before : Path) (commands : List Command) → IsBeside c before → c.steps + sum_by tries_of commands ≤ 10 ^ 14 → Drawn c c before before commands 0
drawn_start c before commands beside steps = record { drew = record { application = refl; beside = beside; came = λ q cs same r. r }; steps = steps }

module _ (c d : CoreValue) (before now : Path) (commands : List Command) (at : ℕ) (drawn : Drawn c d before now commands at) where
  pub drawn_over : length commands ≤ at → Drew c before commands d now
  drawn_over over = subst (λ (l : List Command). Drew c before l d now) (take_all at commands over) drawn.drew

  module _ (command : Command) (is : command ≡ get_or commands at command) (lt : at < length commands) where
    pub drawn_steps : d.steps + tries_of command ≤ 10 ^ 14
    drawn_steps = omega (arith, tries_here commands at command is lt, drawn.steps)

    pub drawn_names : IsScriptOf c.application commands → IsCommandOf d.application.generation command
    drawn_names = name_here commands at command is lt c.application d.application drawn.drew.application

    one_more : take (at + 1) commands ≡ take at commands ++ command ∷ []
    one_more = take_more commands at command lt ∙ ap (λ (x : Command). take at commands ++ x ∷ []) (sym is)

    pub drawn_more : (next : CoreValue) (later : Path) → Drew d now (command ∷ []) next later → next.steps ≤ d.steps + tries_of command → Drawn c next before later commands (at + 1)
    drawn_more next later drew steps = record {
      drew = record {
        application = drew.application ∙ drawn.drew.application;
        beside = drew.beside;
        came = λ q cs same r.
            let front : take (at + 1) commands ++ cs ≡ take at commands ++ command ∷ cs = ap (λ (l : List Command). l ++ cs) one_more ∙ append_assoc (take at commands) (command ∷ []) cs in
            drew.came q cs (same ∙ sym drawn.drew.application) (drawn.drew.came q (command ∷ cs) same (subst (λ (l : List Command). CameToCommands q c.application c.state l before.turns) front r));
      };
      steps = omega (arith, steps, tries_here commands at command is lt, drawn.steps);
    }

-- ---- from the start to the end

pub came_start : (q : Script) → CameToCommands q q.app q.start q.commands []
came_start q = record { can = λ before t behind e. absurd (not_none before t behind e); spot = λ o. refl }

pub ended_walk : (q : Script) (app : Application) (s : State) (taken : List ℕ) → CameToCommands q app s [] taken → IsWalk q.app q.commands q.start taken
ended_walk q app s taken came = record {
  can = came.can;
  end = subst IsEnd (sym (ap (stand q.app q.commands q.start) (sym (append-nil taken)) ∙ came.spot [] ∙ stand_ends app s [])) tt;
}
