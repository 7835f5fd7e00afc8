-- An order without its turns without effect.
use Rattle.std.proofs.Common.{◌≡◌, ℕ, zero, suc, ◌+◌, ◌-◌, ◌≤◌, List, [], ◌∷◌, ◌++◌, inl, inr, refl, sym, ap, subst, ◌∙◌, arith}
use Rattle.std.specs.Prelude.{Bool, true, false, ◌||◌, ◌==◌, cond, if◌then◌else◌}
use Rattle.std.proofs.lemmas.Bool.{true≢false, eqb-true}
use Rattle.kdcs_types.specs.declared.act.Act.{Act}
use Rattle.abstract_monitor.specs.declared.command.Command.{Command}
use Rattle.abstract_monitor.specs.declared.command.Command.TheVariants.{Input, Tick, Run, Turn, Drop, Print, PrintLast, Restart}
use Rattle.abstract_monitor.specs.Bytes.{Bytes}
use Rattle.abstract_monitor.specs.CommandsOf.{IsCommandOf}
use Rattle.abstract_monitor.specs.Commands.{ScriptStep, acts_of, command_of, started, state_after, turned_step}
use Rattle.abstract_monitor.specs.Listing.{listing}
use Rattle.abstract_monitor.specs.State.{Application, State}
use Rattle.abstract_monitor.specs.Trace.{bytes_of, history}
use Rattle.abstract_monitor.specs.Turns.{turn_of}
use Rattle.laws_of_states.specs.Applications.{IsApplication}
use Rattle.laws_of_states.specs.Keeping.{HasFacts, IsScriptOf, Leads}
use Rattle.lab_orders.specs.Laws.{OrdersAreWalked}
use Rattle.lab_walks.specs.Orders.{IsNext, IsOrder, RunsSo, by_effect, has_effect, is_in, order_steps, turned_run, turned_script, worked, worked_run}
use Rattle.lab_orders.specs.Walking.{IsNoRun}
use Rattle.lab_walks.specs.Outcomes.{by_name}
use Rattle.lab_walks.specs.Walks.{CanBe, InRun, IsEnd, Spot, idle_count, idle_from, stand, stand_run}
use Rattle.lab_orders.proofs.Effects.{no_effect_no_acts, no_effect_no_change}
use Rattle.lab_walks.specs.ListsLaws.{head_of, not_none, tail_of}
use Rattle.lab_orders.proofs.Working.{worked_begins, worked_behind, worked_over, worked_rest, worked_spent}
use Rattle.lab_walks.specs.StepsLaws.{bytes_both}
use Rattle.lab_orders.proofs.Steps.{after_one, command_steps, no_steps, over_steps, rest_steps, run_steps, stand_begins, stand_behind, stand_ends, stand_none, stand_over, stand_rest, stand_turn, turn_steps}

-- ---- tasks that are idle and not yet among these

idle_left : Application → State → (idle : List ℕ) → (task tasks : ℕ) → ℕ
idle_left app s idle task zero = 0
idle_left app s idle task (suc n) = cond (has_effect app s task || is_in task idle) 0 1 + idle_left app s idle (task + 1) n

all_left : (app : Application) (s : State) (task n : ℕ) → idle_left app s [] task n ≡ idle_from app s task n
unfolding idle_left
all_left app s task zero = refl
all_left app s task (suc n) = (λ i. cond (or_none (has_effect app s task) i) 0 1 + all_left app s (task + 1) n i)
  where
    or_none : (b : Bool) → (b || false) ≡ b
    or_none true = refl
    or_none false = refl

-- one more of them
less_left : (app : Application) (s : State) (idle : List ℕ) (t task n : ℕ) → idle_left app s (t ∷ idle) task n ≤ idle_left app s idle task n
unfolding idle_left
less_left app s idle t task zero = omega arith
less_left app s idle t task (suc n) = let rest = less_left app s idle t (task + 1) n in by (has_effect app s task) (t == task) (is_in task idle) rest
  where
    by : (e same i : Bool) → idle_left app s (t ∷ idle) (task + 1) n ≤ idle_left app s idle (task + 1) n → cond (e || (same || i)) 0 1 + idle_left app s (t ∷ idle) (task + 1) n ≤ cond (e || i) 0 1 + idle_left app s idle (task + 1) n
    by true same i rest = omega (arith, rest)
    by false true true rest = omega (arith, rest)
    by false true false rest = omega (arith, rest)
    by false false true rest = omega (arith, rest)
    by false false false rest = omega (arith, rest)

one_left : (app : Application) (s : State) (idle : List ℕ) (t task n : ℕ) → task ≤ t → t + 1 ≤ task + n → has_effect app s t ≡ false → is_in t idle ≡ false → idle_left app s (t ∷ idle) task n + 1 ≤ idle_left app s idle task n
unfolding idle_left
one_left app s idle t task zero low high none new = absurd (omega (arith, low, high))
one_left app s idle t task (suc n) low high none new = by (t == task) refl (λ e. one_left app s idle t (task + 1) n (grind (arith, low, e)) (omega (arith, high)) none new)
  where
    Goal : Bool → Bool → Type 0
    Goal e i = (cond (e || (t == task || i)) 0 1 + idle_left app s (t ∷ idle) (task + 1) n) + 1 ≤ cond (e || i) 0 1 + idle_left app s idle (task + 1) n

    here : (same : Bool) → same ≡ true → idle_left app s (t ∷ idle) (task + 1) n ≤ idle_left app s idle (task + 1) n → (cond (false || (same || false)) 0 1 + idle_left app s (t ∷ idle) (task + 1) n) + 1 ≤ cond (false || false) 0 1 + idle_left app s idle (task + 1) n
    here true e rest = omega (arith, rest)
    here false e rest = absurd (true≢false (sym e))

    there : (e i same : Bool) → same ≡ false → idle_left app s (t ∷ idle) (task + 1) n + 1 ≤ idle_left app s idle (task + 1) n → (cond (e || (same || i)) 0 1 + idle_left app s (t ∷ idle) (task + 1) n) + 1 ≤ cond (e || i) 0 1 + idle_left app s idle (task + 1) n
    there e i true is rest = absurd (true≢false is)
    there true i false is rest = omega (arith, rest)
    there false true false is rest = omega (arith, rest)
    there false false false is rest = omega (arith, rest)

    by : (b : Bool) → (t == task) ≡ b → ((t == task) ≡ false → idle_left app s (t ∷ idle) (task + 1) n + 1 ≤ idle_left app s idle (task + 1) n) → Goal (has_effect app s task) (is_in task idle)
    by true e rest =
        let same = eqb-true t task e in
        subst (λ (x : Bool × Bool). Goal x.0 x.1) (λ i. (sym (ap (has_effect app s) (sym same) ∙ none) i, sym (ap (λ u. is_in u idle) (sym same) ∙ new) i)) (here (t == task) e (less_left app s idle t (task + 1) n))
    by false e rest = there (has_effect app s task) (is_in task idle) (t == task) e (rest e)

-- ---- walks from a place

pub record IsWalkFrom (app : Application) (Stand : List ℕ → Spot) (walk : List ℕ) : Type 0 where
  pub can : (before : List ℕ) (t : ℕ) (behind : List ℕ) → walk ≡ before ++ t ∷ behind → CanBe app (Stand before) t
  pub end : IsEnd (Stand walk)

pub walk_same : (app : Application) (Stand Other : List ℕ → Spot) → ((o : List ℕ) → Other o ≡ Stand o) → (w : List ℕ) → IsWalkFrom app Stand w → IsWalkFrom app Other w
walk_same app Stand Other same w walk = record {
  can = λ before t behind e. subst (λ (p : Spot). CanBe app p t) (sym (same before)) (walk.can before t behind e);
  end = subst IsEnd (sym (same w)) walk.end;
}

walk_more : (app : Application) (Stand : List ℕ → Spot) (t : ℕ) (w : List ℕ) → CanBe app (Stand []) t → IsWalkFrom app (λ o. Stand (t ∷ o)) w → IsWalkFrom app Stand (t ∷ w)
unfolding head_of tail_of
walk_more app Stand t w here walk = record { can = can; end = walk.end }
  where
    can : (before : List ℕ) (u : ℕ) (behind : List ℕ) → t ∷ w ≡ before ++ u ∷ behind → CanBe app (Stand before) u
    can [] u behind e = subst (CanBe app (Stand [])) (ap (head_of 0) e) here
    can (x ∷ before) u behind e = subst (λ y. CanBe app (Stand (y ∷ before)) u) (ap (head_of 0) e) (walk.can before u behind (ap tail_of e))

-- ---- what turns without effect leave

pub record SameEnds (s : State) (xs ys : List ScriptStep) : Type 0 where
  pub bytes : bytes_of (acts_of xs) ≡ bytes_of (acts_of ys)
  pub state : state_after s xs ≡ state_after s ys

both : (xs ys more : List Act) → bytes_of xs ≡ bytes_of ys → bytes_of (more ++ xs) ≡ bytes_of (more ++ ys)
both xs ys more e = bytes_both more xs ∙ ap (λ (b : Bytes). bytes_of more ++ b) e ∙ sym (bytes_both more ys)

same_more : (s : State) (d : ScriptStep) (xs ys : List ScriptStep) → SameEnds d.after xs ys → SameEnds s (d ∷ xs) (d ∷ ys)
same_more s d xs ys same = record {
  bytes = both (acts_of xs) (acts_of ys) d.acts same.bytes;
  state = after_one s d xs ∙ same.state ∙ sym (after_one s d ys);
}

same_by : (s : State) {xs xs' ys ys' : List ScriptStep} → xs ≡ xs' → ys ≡ ys' → SameEnds s xs' ys' → SameEnds s xs ys
same_by s e f same = subst (λ (l : List ScriptStep × List ScriptStep). SameEnds s l.0 l.1) (λ i. (sym e i, sym f i)) same

same_skipped : (s : State) (d : ScriptStep) (xs ys : List ScriptStep) → d.acts ≡ [] → d.after ≡ s → SameEnds s xs ys → SameEnds s (d ∷ xs) ys
same_skipped s d xs ys none stays same = record {
  bytes = ap (λ (l : List Act). bytes_of (l ++ acts_of xs)) none ∙ same.bytes;
  state = after_one s d xs ∙ ap (λ (u : State). state_after u xs) stays ∙ same.state;
}

-- ---- a RUN

-- the facts of states are kept
module _ (keep : Leads HasFacts HasFacts) (app : Application) (is : IsApplication app) where
  -- what follows a RUN
  record Ahead (cs : List Command) : Type 0 where
    pub walks : (s : State) (o : List ℕ) → HasFacts app s → IsOrder app cs s o → IsWalkFrom app (stand app cs s) (worked app cs s o)
    pub ends : (s : State) (o : List ℕ) → HasFacts app s → IsOrder app cs s o → SameEnds s (order_steps app cs s o) (order_steps app cs s (worked app cs s o))

  module _ (cs : List Command) (ahead : Ahead cs) where
    walk_by : (b : Bool) (t n m : ℕ) (s : State) (o : List ℕ) → List ℕ
    walk_by b t n m s o = if b then suc t ∷ worked_run app n (m - 1) (worked app cs) (turn_of app s (suc t)).after o else worked_run app n m (worked app cs) s o

    worked_turn : (t n m : ℕ) (s : State) (o : List ℕ) (b : Bool) → has_effect app s (suc t) ≡ b → worked_run app (suc n) m (worked app cs) s (suc t ∷ o) ≡ walk_by b t n m s o
    unfolding worked_run walk_by
    worked_turn t n m s o b e = ap (λ x. walk_by x t n m s o) e

    abbrev left_here : State → List ℕ → ℕ
    left_here s idle = idle_left app s idle 1 app.generation.limits.tasks

    -- a 0 ends it
    zero_walk : (m room : ℕ) (s : State) (o : List ℕ) → HasFacts app s → CanBe app (InRun m room s) 0 → IsOrder app cs s o → IsWalkFrom app (stand_run app (suc m) room (stand app cs) s) (0 ∷ worked app cs s o)
    zero_walk m room s o facts can order =
        walk_more app (stand_run app (suc m) room (stand app cs) s) 0 (worked app cs s o)
        (subst (λ (p : Spot). CanBe app p 0) (sym (stand_none app s (stand app cs) room m)) can)
        (walk_same app (stand app cs s) (λ x. stand_run app (suc m) room (stand app cs) s (0 ∷ x)) (λ x. stand_rest app s (stand app cs) room m x) (worked app cs s o) (ahead.walks s o facts order))

    run_walks : (n m used room : ℕ) (idle : List ℕ) (s : State) (o : List ℕ) → m ≡ n + used → used + left_here s idle ≤ room + idle_count app s → HasFacts app s → RunsSo app n idle (IsOrder app cs) s o
        → IsWalkFrom app (stand_run app m room (stand app cs) s) (worked_run app n m (worked app cs) s o)
    unfolding RunsSo walk_by
    run_walks zero zero used room idle s o count few facts h =
        subst (IsWalkFrom app (stand_run app 0 room (stand app cs) s)) (sym (worked_over app cs s o))
        (walk_same app (stand app cs s) (stand_run app 0 room (stand app cs) s) (stand_over app s (stand app cs) room) (worked app cs s o) (ahead.walks s o facts h))
    run_walks zero (suc m) used room idle s o count few facts h =
        subst (IsWalkFrom app (stand_run app (suc m) room (stand app cs) s)) (sym (worked_spent app cs m s o)) (zero_walk m room s o facts (inr (omega (arith, count, few))) h)
    run_walks (suc n) m used room idle s [] count few facts h = absurd h
    run_walks (suc n) zero used room idle s (t ∷ o) count few facts h = absurd (omega (arith, count))
    run_walks (suc n) (suc m) used room idle s (zero ∷ o) count few facts h =
        subst (IsWalkFrom app (stand_run app (suc m) room (stand app cs) s)) (sym (worked_rest app cs n (suc m) s o)) (zero_walk m room s o facts (inl h.0) h.1)
    run_walks (suc n) (suc m) used room idle s (suc t ∷ o) count few facts h =
        let later = (turn_of app s (suc t)).after in
        by (has_effect app s (suc t)) refl h.1
        (λ runs. run_walks n (suc m - 1) used (room + idle_count app s) [] later o (omega (arith, count)) (full later) (keep.turns app s (suc t) is h.0.within facts) runs)
        (λ e runs. run_walks n (suc m) (used + 1) room (suc t ∷ idle) s o (omega (arith, count)) (less e) facts runs)
      where
        next : IsNext app idle (suc t)
        next = h.0

        full : (u : State) → used + left_here u [] ≤ (room + idle_count app s) + idle_count app u
        full u = let all : left_here u [] ≡ idle_count app u = all_left app u 1 app.generation.limits.tasks in omega (arith, few, all)

        less : has_effect app s (suc t) ≡ false → (used + 1) + left_here s (suc t ∷ idle) ≤ room + idle_count app s
        less e =
            let one : left_here s (suc t ∷ idle) + 1 ≤ left_here s idle = one_left app s idle (suc t) 1 app.generation.limits.tasks (omega arith) (let high = next.within.1 in omega (arith, high)) e next.other in
            omega (arith, few, one)

        by : (b : Bool) → has_effect app s (suc t) ≡ b → by_effect b (RunsSo app n [] (IsOrder app cs) (turn_of app s (suc t)).after o) (RunsSo app n (suc t ∷ idle) (IsOrder app cs) s o)
            → (RunsSo app n [] (IsOrder app cs) (turn_of app s (suc t)).after o → IsWalkFrom app (stand_run app (suc m - 1) (room + idle_count app s) (stand app cs) (turn_of app s (suc t)).after) (worked_run app n (suc m - 1) (worked app cs) (turn_of app s (suc t)).after o))
            → (has_effect app s (suc t) ≡ false → RunsSo app n (suc t ∷ idle) (IsOrder app cs) s o → IsWalkFrom app (stand_run app (suc m) room (stand app cs) s) (worked_run app n (suc m) (worked app cs) s o))
            → IsWalkFrom app (stand_run app (suc m) room (stand app cs) s) (worked_run app (suc n) (suc m) (worked app cs) s (suc t ∷ o))
        by true e runs moved idles =
            let later = (turn_of app s (suc t)).after in
            let same : suc m - 1 ≡ m = omega arith in
            subst (IsWalkFrom app (stand_run app (suc m) room (stand app cs) s)) (sym (worked_turn t n (suc m) s o true e))
            (walk_more app (stand_run app (suc m) room (stand app cs) s) (suc t) (worked_run app n (suc m - 1) (worked app cs) later o)
            (subst (λ (p : Spot). CanBe app p (suc t)) (sym (stand_none app s (stand app cs) room m)) (record { within = next.within; effect = e }))
            (walk_same app (stand_run app (suc m - 1) (room + idle_count app s) (stand app cs) later) (λ x. stand_run app (suc m) room (stand app cs) s (suc t ∷ x))
            (λ x. stand_turn app s (stand app cs) room m t x ∙ ap (λ k. stand_run app k (room + idle_count app s) (stand app cs) later x) (sym same))
            (worked_run app n (suc m - 1) (worked app cs) later o)
            (moved runs)))
        by false e runs moved idles =
            subst (IsWalkFrom app (stand_run app (suc m) room (stand app cs) s)) (sym (worked_turn t n (suc m) s o false e))
            (idles e runs)

    run_ends : (n m : ℕ) (idle : List ℕ) (s : State) (o : List ℕ) → n ≤ m → HasFacts app s → RunsSo app n idle (IsOrder app cs) s o
        → SameEnds s (history app s (turned_run n (turned_script cs) o)) (history app s (turned_run m (turned_script cs) (worked_run app n m (worked app cs) s o)))
    unfolding RunsSo walk_by
    run_ends zero zero idle s o le facts h =
        same_by s (over_steps app s (turned_script cs) o) (ap (λ (w : List ℕ). history app s (turned_run 0 (turned_script cs) w)) (worked_over app cs s o) ∙ over_steps app s (turned_script cs) (worked app cs s o)) (ahead.ends s o facts h)
    run_ends zero (suc m) idle s o le facts h =
        same_by s (over_steps app s (turned_script cs) o) (ap (λ (w : List ℕ). history app s (turned_run (suc m) (turned_script cs) w)) (worked_spent app cs m s o) ∙ rest_steps app s m (turned_script cs) (worked app cs s o)) (ahead.ends s o facts h)
    run_ends (suc n) m idle s [] le facts h = absurd h
    run_ends (suc n) zero idle s (t ∷ o) le facts h = absurd (omega (arith, le))
    run_ends (suc n) (suc m) idle s (zero ∷ o) le facts h =
        same_by s (rest_steps app s n (turned_script cs) o) (ap (λ (w : List ℕ). history app s (turned_run (suc m) (turned_script cs) w)) (worked_rest app cs n (suc m) s o) ∙ rest_steps app s m (turned_script cs) (worked app cs s o)) (ahead.ends s o facts h.1)
    run_ends (suc n) (suc m) idle s (suc t ∷ o) le facts h =
        by (has_effect app s (suc t)) refl h.1
        (λ runs. run_ends n (suc m - 1) [] (turn_of app s (suc t)).after o (omega (arith, le)) (keep.turns app s (suc t) is h.0.within facts) runs)
        (λ runs. run_ends n (suc m) (suc t ∷ idle) s o (omega (arith, le)) facts runs)
      where
        by : (b : Bool) → has_effect app s (suc t) ≡ b → by_effect b (RunsSo app n [] (IsOrder app cs) (turn_of app s (suc t)).after o) (RunsSo app n (suc t ∷ idle) (IsOrder app cs) s o)
            → (RunsSo app n [] (IsOrder app cs) (turn_of app s (suc t)).after o → SameEnds (turn_of app s (suc t)).after (history app (turn_of app s (suc t)).after (turned_run n (turned_script cs) o)) (history app (turn_of app s (suc t)).after (turned_run (suc m - 1) (turned_script cs) (worked_run app n (suc m - 1) (worked app cs) (turn_of app s (suc t)).after o))))
            → (RunsSo app n (suc t ∷ idle) (IsOrder app cs) s o → SameEnds s (history app s (turned_run n (turned_script cs) o)) (history app s (turned_run (suc m) (turned_script cs) (worked_run app n (suc m) (worked app cs) s o))))
            → SameEnds s (history app s (turned_run (suc n) (turned_script cs) (suc t ∷ o))) (history app s (turned_run (suc m) (turned_script cs) (worked_run app (suc n) (suc m) (worked app cs) s (suc t ∷ o))))
        by true e runs moved idles =
            let later = (turn_of app s (suc t)).after in
            let same : suc m - 1 ≡ m = omega arith in
            same_by s (turn_steps app s n (turned_script cs) t o)
            (ap (λ (w : List ℕ). history app s (turned_run (suc m) (turned_script cs) w)) (worked_turn t n (suc m) s o true e) ∙ turn_steps app s m (turned_script cs) t (worked_run app n (suc m - 1) (worked app cs) later o))
            (same_more s (turned_step (turn_of app s (suc t))) _ _
            (subst (λ k. SameEnds later (history app later (turned_run n (turned_script cs) o)) (history app later (turned_run k (turned_script cs) (worked_run app n (suc m - 1) (worked app cs) later o)))) same
            (moved runs)))
        by false e runs moved idles =
            let stays = no_effect_no_change app s (suc t) facts.0.waits e in
            same_by s (turn_steps app s n (turned_script cs) t o)
            (ap (λ (w : List ℕ). history app s (turned_run (suc m) (turned_script cs) w)) (worked_turn t n (suc m) s o false e))
            (same_skipped s (turned_step (turn_of app s (suc t))) _ _ (no_effect_no_acts app s (suc t) e) stays
            (subst (λ (u : State). SameEnds s (history app u (turned_run n (turned_script cs) o)) (history app s (turned_run (suc m) (turned_script cs) (worked_run app n (suc m) (worked app cs) s o)))) (sym stays)
            (idles runs)))

  -- ---- a script

  order_begins : (n : ℕ) (cs : List Command) (s : State) (o : List ℕ) → IsOrder app (Run n ∷ cs) s o → RunsSo app n [] (IsOrder app cs) s o
  unfolding IsOrder
  order_begins n cs s o h = h

  order_behind : (c : Command) (cs : List Command) (s : State) → IsNoRun c → (o : List ℕ) → IsOrder app (c ∷ cs) s o → IsOrder app cs (command_of app s c).after o
  unfolding IsOrder
  order_behind (Run turns) cs s plain o h = absurd plain
  order_behind (Input pterm text) cs s plain o h = h
  order_behind (Tick ticks) cs s plain o h = h
  order_behind (Turn task) cs s plain o h = h
  order_behind (Drop pterm) cs s plain o h = h
  order_behind (Print pterm) cs s plain o h = h
  order_behind (PrintLast pterm) cs s plain o h = h
  order_behind Restart cs s plain o h = h

  ahead_none : Ahead []
  unfolding IsOrder worked
  ahead_none = record {
    walks = λ s o facts h. record { can = λ before t behind e. absurd (not_none before t behind e); end = subst IsEnd (sym (stand_ends app s [])) tt };
    ends = λ s o facts h. same_by s (no_steps app s o) (no_steps app s []) (record { bytes = refl; state = refl });
  }

  ahead_run : (n : ℕ) (cs : List Command) → Ahead cs → Ahead (Run n ∷ cs)
  ahead_run n cs ahead = record {
    walks = λ s o facts h.
        let full : idle_left app s [] 1 app.generation.limits.tasks ≡ idle_count app s = all_left app s 1 app.generation.limits.tasks in
        subst (IsWalkFrom app (stand app (Run n ∷ cs) s)) (sym (worked_begins app n cs s o))
        (walk_same app (stand_run app n 0 (stand app cs) s) (stand app (Run n ∷ cs) s) (stand_begins app n cs s) _
        (run_walks cs ahead n n 0 0 [] s o (omega arith) (few s full) facts (order_begins n cs s o h)));
    ends = λ s o facts h.
        same_by s (run_steps app n cs s o) (ap (λ (w : List ℕ). order_steps app (Run n ∷ cs) s w) (worked_begins app n cs s o) ∙ run_steps app n cs s (worked_run app n n (worked app cs) s o))
        (run_ends cs ahead n n [] s o (omega arith) facts (order_begins n cs s o h));
  }
    where
      few : (s : State) → idle_left app s [] 1 app.generation.limits.tasks ≡ idle_count app s → 0 + left_here cs ahead s [] ≤ 0 + idle_count app s
      few s full = omega (arith, full)

  ahead_command : (c : Command) (cs : List Command) → IsNoRun c → IsCommandOf app.generation c → Ahead cs → Ahead (c ∷ cs)
  ahead_command c cs plain name ahead = record {
    walks = λ s o facts h.
        subst (IsWalkFrom app (stand app (c ∷ cs) s)) (sym (worked_behind app c cs s plain o))
        (walk_same app (stand app cs (command_of app s c).after) (stand app (c ∷ cs) s) (stand_behind app c cs s plain) _ (ahead.walks (command_of app s c).after o (keep.commands app s c is name facts) (order_behind c cs s plain o h)));
    ends = λ s o facts h.
        same_by s (command_steps app c cs s plain o) (ap (λ (w : List ℕ). order_steps app (c ∷ cs) s w) (worked_behind app c cs s plain o) ∙ command_steps app c cs s plain (worked app cs (command_of app s c).after o))
        (same_more s (command_of app s c) _ _ (ahead.ends (command_of app s c).after o (keep.commands app s c is name facts) (order_behind c cs s plain o h)));
  }

  behind : (c : Command) (cs : List Command) → IsScriptOf app (c ∷ cs) → IsScriptOf app cs
  behind c cs names k d less = names (suc k) d (omega (arith, less))

  ahead_of : (cs : List Command) → IsScriptOf app cs → Ahead cs
  ahead_of [] names = ahead_none
  ahead_of (Run n ∷ cs) names = ahead_run n cs (ahead_of cs (behind (Run n) cs names))
  ahead_of (Input pterm text ∷ cs) names = ahead_command (Input pterm text) cs tt (names 0 (Input pterm text) (omega arith)) (ahead_of cs (behind (Input pterm text) cs names))
  ahead_of (Tick ticks ∷ cs) names = ahead_command (Tick ticks) cs tt (names 0 (Tick ticks) (omega arith)) (ahead_of cs (behind (Tick ticks) cs names))
  ahead_of (Turn task ∷ cs) names = ahead_command (Turn task) cs tt (names 0 (Turn task) (omega arith)) (ahead_of cs (behind (Turn task) cs names))
  ahead_of (Drop pterm ∷ cs) names = ahead_command (Drop pterm) cs tt (names 0 (Drop pterm) (omega arith)) (ahead_of cs (behind (Drop pterm) cs names))
  ahead_of (Print pterm ∷ cs) names = ahead_command (Print pterm) cs tt (names 0 (Print pterm) (omega arith)) (ahead_of cs (behind (Print pterm) cs names))
  ahead_of (PrintLast pterm ∷ cs) names = ahead_command (PrintLast pterm) cs tt (names 0 (PrintLast pterm) (omega arith)) (ahead_of cs (behind (PrintLast pterm) cs names))
  ahead_of (Restart ∷ cs) names = ahead_command Restart cs tt (names 0 Restart (omega arith)) (ahead_of cs (behind Restart cs names))

pub orders_are_walked : Leads HasFacts HasFacts → OrdersAreWalked
orders_are_walked keep app t cs starts order h =
    let facts = keep.starts app t starts.application starts.order starts.suits in
    let ahead = ahead_of keep app starts.application cs starts.names in
    let walk = ahead.walks (started app t) order facts h in
    let ends = ahead.ends (started app t) order facts h in
    record {
      walk = record { can = walk.can; end = walk.end };
      same = λ said tables o. record { sent_is = o.sent_is ∙ ap by_name (sym ends.bytes); tables_are = o.tables_are ∙ ap (λ (s : State). listing s.tables) (sym ends.state) };
    }
