-- Each walk is an order without its turns without effect.
use Rattle.std.proofs.Common.{◌≡◌, ℕ, zero, suc, ◌+◌, ◌-◌, ◌≤◌, List, [], ◌∷◌, ◌++◌, inl, inr, refl, sym, ap, subst, ◌∙◌, arith}
use Rattle.std.specs.Prelude.{◌⊎◌, Bool, true, false, ◌||◌, ◌==◌, cond, if◌then◌else◌, nat_le}
use Rattle.std.proofs.lemmas.Bool.{true≢false, eqb-true}
use Rattle.std.proofs.lemmas.Bool.Decides.{nat_tests}
use Rattle.abstract_monitor.specs.declared.command.Command.{Command}
use Rattle.abstract_monitor.specs.declared.command.Command.TheVariants.{Input, Tick, Run, Turn, Drop, Print, PrintLast, Restart}
use Rattle.abstract_monitor.specs.Commands.{command_of}
use Rattle.abstract_monitor.specs.State.{Application, State}
use Rattle.abstract_monitor.specs.Turns.{turn_of}
use Rattle.lab_orders.specs.Laws.{WalksAreOrders}
use Rattle.lab_walks.specs.Orders.{IsAtRest, IsNext, IsOrder, IsTurn, RunsSo, by_effect, has_effect, is_in, worked, worked_run}
use Rattle.lab_orders.specs.Walking.{IsNoRun}
use Rattle.lab_walks.specs.Walks.{CanBe, InRun, IsEnd, Spot, idle_count, idle_from, stand, stand_run}
use Rattle.lab_orders.proofs.Steps.{stand_begins, stand_behind, stand_ends, stand_none, stand_over, stand_rest, stand_turn}
use Rattle.lab_orders.proofs.Working.{worked_begins, worked_behind, worked_over, worked_rest, worked_spent}
use Rattle.lab_orders.proofs.Worked.{IsWalkFrom, walk_same}

-- ---- turns without effect

module _ (app : Application) (Follows : State → List ℕ → Type 0) (follows : State → List ℕ → List ℕ) (s : State) where
  -- some tasks have turns without effect, one after another
  record Idle (idle : List ℕ) (c : ℕ) : Type 0 where
    pub taken : List ℕ
    pub after : List ℕ
    pub quiet : (t : ℕ) → is_in t after ≡ true → has_effect app s t ≡ false
    pub runs : (k : ℕ) (o : List ℕ) → RunsSo app k after Follows s o → RunsSo app (c + k) idle Follows s (taken ++ o)
    pub same : (k m : ℕ) (o : List ℕ) → worked_run app (c + k) m follows s (taken ++ o) ≡ worked_run app k m follows s o

  idle_none : (idle : List ℕ) → ((t : ℕ) → is_in t idle ≡ true → has_effect app s t ≡ false) → Idle idle 0
  idle_none idle quiet = record {
    taken = [];
    after = idle;
    quiet = quiet;
    runs = λ k o h. subst (λ n. RunsSo app n idle Follows s o) (omega arith) h;
    same = λ k m o. ap (λ n. worked_run app n m follows s o) (omega arith);
  }

  runs_idle : (k : ℕ) (idle : List ℕ) (p : ℕ) (o : List ℕ) → IsNext app idle (suc p) → has_effect app s (suc p) ≡ false → RunsSo app k (suc p ∷ idle) Follows s o → RunsSo app (suc k) idle Follows s (suc p ∷ o)
  unfolding RunsSo
  runs_idle k idle p o next none h = (next, subst (λ b. by_effect b (RunsSo app k [] Follows (turn_of app s (suc p)).after o) (RunsSo app k (suc p ∷ idle) Follows s o)) (sym none) h)

  worked_idle : (k m p : ℕ) (o : List ℕ) → has_effect app s (suc p) ≡ false → worked_run app (suc k) m follows s (suc p ∷ o) ≡ worked_run app k m follows s o
  unfolding worked_run
  worked_idle k m p o none = ap (λ b. if b then suc p ∷ worked_run app k (m - 1) follows (turn_of app s (suc p)).after o else worked_run app k m follows s o) none

  idle_one : (idle : List ℕ) (c p : ℕ) → IsNext app idle (suc p) → has_effect app s (suc p) ≡ false → Idle (suc p ∷ idle) c → Idle idle (suc c)
  idle_one idle c p next none rest = record {
    taken = suc p ∷ rest.taken;
    after = rest.after;
    quiet = rest.quiet;
    runs = λ k o h. subst (λ n. RunsSo app n idle Follows s (suc p ∷ (rest.taken ++ o))) (omega arith) (runs_idle (c + k) idle p (rest.taken ++ o) next none (rest.runs k o h));
    same = λ k m o. let more : suc c + k ≡ suc (c + k) = omega arith in ap (λ n. worked_run app n m follows s (suc p ∷ (rest.taken ++ o))) more ∙ worked_idle (c + k) m p (rest.taken ++ o) none ∙ rest.same k m o;
  }

  -- so many of the tasks from one on
  idles : (p n c : ℕ) (idle : List ℕ) → p + n ≤ app.generation.limits.tasks → c ≤ idle_from app s (suc p) n → ((t : ℕ) → is_in t idle ≡ true → t ≤ p) → ((t : ℕ) → is_in t idle ≡ true → has_effect app s t ≡ false) → Idle idle c
  idles p n zero idle high few below quiet = idle_none idle quiet
  idles p zero (suc c) idle high few below quiet = absurd (omega (arith, few))
  idles p (suc n) (suc c) idle high few below quiet =
      by (has_effect app s (suc p)) refl
      (λ fewer. idles (suc p) n (suc c) idle (omega (arith, high)) fewer (λ t e. let h = below t e in omega (arith, h)) quiet)
      (λ none fewer. idles (suc p) n c (suc p ∷ idle) (omega (arith, high)) fewer (under none) (silent none))
    where
      next_is : suc p + 1 ≡ suc (suc p)
      next_is = omega arith

      front : idle_from app s (suc p + 1) n ≡ idle_from app s (suc (suc p)) n
      front = ap (λ x. idle_from app s x n) next_is

      under : has_effect app s (suc p) ≡ false → (t : ℕ) → is_in t (suc p ∷ idle) ≡ true → t ≤ suc p
      under none t e = here (suc p == t) refl e
        where
          here : (b : Bool) → (suc p == t) ≡ b → (b || is_in t idle) ≡ true → t ≤ suc p
          here true same h = let is = eqb-true (suc p) t same in omega (arith, is)
          here false other h = let low = below t h in omega (arith, low)

      silent : has_effect app s (suc p) ≡ false → (t : ℕ) → is_in t (suc p ∷ idle) ≡ true → has_effect app s t ≡ false
      silent none t e = here (suc p == t) refl e
        where
          here : (b : Bool) → (suc p == t) ≡ b → (b || is_in t idle) ≡ true → has_effect app s t ≡ false
          here true same h = ap (has_effect app s) (sym (eqb-true (suc p) t same)) ∙ none
          here false other h = quiet t h

      other : is_in (suc p) idle ≡ false
      other = here (is_in (suc p) idle) refl
        where
          here : (b : Bool) → is_in (suc p) idle ≡ b → b ≡ false
          here false e = refl
          here true e = let low = below (suc p) e in absurd (omega (arith, low))

      by : (b : Bool) → has_effect app s (suc p) ≡ b → (suc c ≤ idle_from app s (suc (suc p)) n → Idle idle (suc c)) → (has_effect app s (suc p) ≡ false → c ≤ idle_from app s (suc (suc p)) n → Idle (suc p ∷ idle) c) → Idle idle (suc c)
      by true e skip take =
          let all : idle_from app s (suc p) (suc n) ≡ 0 + idle_from app s (suc p + 1) n = ap (λ b. cond b 0 1 + idle_from app s (suc p + 1) n) e in
          skip (omega (arith, few, all, front))
      by false e skip take =
          let all : idle_from app s (suc p) (suc n) ≡ 1 + idle_from app s (suc p + 1) n = ap (λ b. cond b 0 1 + idle_from app s (suc p + 1) n) e in
          idle_one idle c p (record { within = (omega arith, omega (arith, high)); other = other }) e (take e (omega (arith, few, all, front)))

  some_idle : (c : ℕ) → c ≤ idle_count app s → Idle [] c
  some_idle c few = idles 0 app.generation.limits.tasks c [] (omega arith) few (λ t e. absurd (true≢false (sym e))) (λ t e. absurd (true≢false (sym e)))

-- ---- a RUN

module _ (app : Application) (cs : List Command) where
  -- an order of what follows
  record OrderOf (s : State) (w : List ℕ) : Type 0 where
    pub order : List ℕ
    pub is_order : IsOrder app cs s order
    pub is : worked app cs s order ≡ w

  -- an order of a RUN, after so many turns without effect
  record RunOf (m room : ℕ) (s : State) (w : List ℕ) : Type 0 where
    pub turns : ℕ
    pub used : ℕ
    pub sum : turns + used ≡ m
    pub few : used ≤ room
    pub order : List ℕ
    pub runs : RunsSo app turns [] (IsOrder app cs) s order
    pub is : worked_run app turns m (worked app cs) s order ≡ w

  module _ (behind : (s : State) (w : List ℕ) → IsWalkFrom app (stand app cs s) w → OrderOf s w) where
    runs_over : (s : State) (idle o : List ℕ) → IsOrder app cs s o → RunsSo app 0 idle (IsOrder app cs) s o
    unfolding RunsSo
    runs_over s idle o h = h

    runs_rest : (n : ℕ) (s : State) (o : List ℕ) → IsAtRest app s → IsOrder app cs s o → RunsSo app (suc n) [] (IsOrder app cs) s (0 ∷ o)
    unfolding RunsSo
    runs_rest n s o rest h = (rest, h)

    runs_turn : (n t : ℕ) (idle : List ℕ) (s : State) (o : List ℕ) → IsNext app idle (suc t) → has_effect app s (suc t) ≡ true → RunsSo app n [] (IsOrder app cs) (turn_of app s (suc t)).after o → RunsSo app (suc n) idle (IsOrder app cs) s (suc t ∷ o)
    unfolding RunsSo
    runs_turn n t idle s o next e h = (next, subst (λ b. by_effect b (RunsSo app n [] (IsOrder app cs) (turn_of app s (suc t)).after o) (RunsSo app n (suc t ∷ idle) (IsOrder app cs) s o)) (sym e) h)

    turn_is : (n m t : ℕ) (s : State) (o : List ℕ) → has_effect app s (suc t) ≡ true → worked_run app (suc n) m (worked app cs) s (suc t ∷ o) ≡ suc t ∷ worked_run app n (m - 1) (worked app cs) (turn_of app s (suc t)).after o
    unfolding worked_run
    turn_is n m t s o e = ap (λ b. if b then suc t ∷ worked_run app n (m - 1) (worked app cs) (turn_of app s (suc t)).after o else worked_run app n m (worked app cs) s o) e

    -- what is behind the first turn
    tail_walk : (Stand : List ℕ → Spot) (t : ℕ) (w : List ℕ) → IsWalkFrom app Stand (t ∷ w) → IsWalkFrom app (λ o. Stand (t ∷ o)) w
    tail_walk Stand t w walk = record { can = λ before u more e. walk.can (t ∷ before) u more (ap (λ (l : List ℕ). t ∷ l) e); end = walk.end }

    head_can : (m room : ℕ) (s : State) (t : ℕ) (w : List ℕ) → IsWalkFrom app (stand_run app (suc m) room (stand app cs) s) (t ∷ w) → CanBe app (InRun m room s) t
    head_can m room s t w walk = subst (λ (p : Spot). CanBe app p t) (stand_none app s (stand app cs) room m) (walk.can [] t w refl)

    -- a number up to two others
    least : (a b : ℕ) → (c : ℕ) × (c ≤ a) × (c ≤ b) × ((c ≡ a) ⊎ (c ≡ b))
    least a b = by (nat_le a b) refl
      where
        by : (x : Bool) → nat_le a b ≡ x → (c : ℕ) × (c ≤ a) × (c ≤ b) × ((c ≡ a) ⊎ (c ≡ b))
        by true e = (a, omega arith, grind (arith, nat_tests, e), inl refl)
        by false e = (b, grind (arith, nat_tests, e), omega arith, inr refl)

    run_of : (m room : ℕ) (s : State) (w : List ℕ) → IsWalkFrom app (stand_run app m room (stand app cs) s) w → RunOf m room s w
    run_of zero room s w walk =
        let it = behind s w (walk_same app (stand_run app 0 room (stand app cs) s) (stand app cs s) (λ o. sym (stand_over app s (stand app cs) room o)) w walk) in
        record { turns = 0; used = 0; sum = omega arith; few = omega arith; order = it.order; runs = runs_over s [] it.order it.is_order; is = worked_over app cs s it.order ∙ it.is }
    run_of (suc m) room s [] walk = absurd (subst IsEnd (stand_none app s (stand app cs) room m) walk.end)
    run_of (suc m) room s (zero ∷ w) walk =
        zeros (head_can m room s 0 w walk) (behind s w (walk_same app (λ o. stand_run app (suc m) room (stand app cs) s (0 ∷ o)) (stand app cs s) (λ o. sym (stand_rest app s (stand app cs) room m o)) w (tail_walk (stand_run app (suc m) room (stand app cs) s) 0 w walk)))
      where
        zeros : IsAtRest app s ⊎ (m + 1 ≤ room + idle_count app s) → OrderOf s w → RunOf (suc m) room s (0 ∷ w)
        zeros (inl rest) it = record { turns = suc m; used = 0; sum = omega arith; few = omega arith; order = 0 ∷ it.order; runs = runs_rest m s it.order rest it.is_order; is = worked_rest app cs m (suc m) s it.order ∙ ap (λ (l : List ℕ). 0 ∷ l) it.is }
        zeros (inr spent) it =
            let l = least (idle_count app s) (suc m) in
            let idle = some_idle app (IsOrder app cs) (worked app cs) s l.0 l.1 in
            record {
              turns = l.0 + 0;
              used = suc m - l.0;
              sum = let le = l.2 in omega (arith, le);
              few = few l.0 l.3;
              order = idle.taken ++ it.order;
              runs = idle.runs 0 it.order (runs_over s idle.after it.order it.is_order);
              is = idle.same 0 (suc m) it.order ∙ worked_spent app cs m s it.order ∙ ap (λ (x : List ℕ). 0 ∷ x) it.is;
            }
          where
            few : (c : ℕ) → (c ≡ idle_count app s) ⊎ (c ≡ suc m) → suc m - c ≤ room
            few c (inl e) = omega (arith, e, spent)
            few c (inr e) = omega (arith, e)
    run_of (suc m) room s (suc t ∷ w) walk =
        turns (run_of m (room + idle_count app s) (turn_of app s (suc t)).after w (walk_same app (λ o. stand_run app (suc m) room (stand app cs) s (suc t ∷ o)) (stand_run app m (room + idle_count app s) (stand app cs) (turn_of app s (suc t)).after) (λ o. sym (stand_turn app s (stand app cs) room m t o)) w (tail_walk (stand_run app (suc m) room (stand app cs) s) (suc t) w walk)))
      where
        turn : IsTurn app s (suc t)
        turn = head_can m room s (suc t) w walk

        turns : RunOf m (room + idle_count app s) (turn_of app s (suc t)).after w → RunOf (suc m) room s (suc t ∷ w)
        turns it =
            let l = least (idle_count app s) it.used in
            let idle = some_idle app (IsOrder app cs) (worked app cs) s l.0 l.1 in
            record {
              turns = l.0 + suc it.turns;
              used = it.used - l.0;
              sum = let le = l.2 in let all = it.sum in omega (arith, le, all);
              few = few l.0 l.3;
              order = idle.taken ++ suc t ∷ it.order;
              runs = idle.runs (suc it.turns) (suc t ∷ it.order) (runs_turn it.turns t idle.after s it.order (record { within = turn.within; other = other idle.after idle.quiet }) turn.effect it.runs);
              is =
                  idle.same (suc it.turns) (suc m) (suc t ∷ it.order)
                  ∙ turn_is it.turns (suc m) t s it.order turn.effect
                  ∙ ap (λ k. suc t ∷ worked_run app it.turns k (worked app cs) (turn_of app s (suc t)).after it.order) (omega arith)
                  ∙ ap (λ (x : List ℕ). suc t ∷ x) it.is;
            }
          where
            few : (c : ℕ) → (c ≡ idle_count app s) ⊎ (c ≡ it.used) → it.used - c ≤ room
            few c (inl e) = let le = it.few in omega (arith, e, le)
            few c (inr e) = omega (arith, e)

            other : (after : List ℕ) → ((u : ℕ) → is_in u after ≡ true → has_effect app s u ≡ false) → is_in (suc t) after ≡ false
            other after quiet = by (is_in (suc t) after) refl
              where
                by : (b : Bool) → is_in (suc t) after ≡ b → b ≡ false
                by false e = refl
                by true e = absurd (true≢false (sym turn.effect ∙ quiet (suc t) e))

    -- from its start
    whole_run : (n : ℕ) (s : State) (w : List ℕ) → IsWalkFrom app (stand_run app n 0 (stand app cs) s) w → (o : List ℕ) × RunsSo app n [] (IsOrder app cs) s o × (worked_run app n n (worked app cs) s o ≡ w)
    whole_run n s w walk =
        let it = run_of n 0 s w walk in
        let all : it.turns ≡ n = let sum = it.sum in let few = it.few in omega (arith, sum, few) in
        (it.order, subst (λ k. RunsSo app k [] (IsOrder app cs) s it.order) all it.runs, ap (λ k. worked_run app k n (worked app cs) s it.order) (sym all) ∙ it.is)

-- ---- a script

pub order_begins : (app : Application) (n : ℕ) (cs : List Command) (s : State) (o : List ℕ) → RunsSo app n [] (IsOrder app cs) s o → IsOrder app (Run n ∷ cs) s o
unfolding IsOrder
order_begins app n cs s o h = h

pub order_behind : (app : Application) (c : Command) (cs : List Command) (s : State) → IsNoRun c → (o : List ℕ) → IsOrder app cs (command_of app s c).after o → IsOrder app (c ∷ cs) s o
unfolding IsOrder
order_behind app (Run turns) cs s plain o h = absurd plain
order_behind app (Input pterm text) cs s plain o h = h
order_behind app (Tick ticks) cs s plain o h = h
order_behind app (Turn task) cs s plain o h = h
order_behind app (Drop pterm) cs s plain o h = h
order_behind app (Print pterm) cs s plain o h = h
order_behind app (PrintLast pterm) cs s plain o h = h
order_behind app Restart cs s plain o h = h

nothing_more : (app : Application) (s : State) (w : List ℕ) → IsWalkFrom app (stand app [] s) w → OrderOf app [] s w
unfolding IsOrder worked
nothing_more app s [] walk = record { order = []; is_order = refl; is = refl }
nothing_more app s (t ∷ w) walk = absurd (subst (λ (p : Spot). CanBe app p t) (stand_ends app s []) (walk.can [] t w refl))

run_more : (app : Application) (n : ℕ) (cs : List Command) → ((s : State) (w : List ℕ) → IsWalkFrom app (stand app cs s) w → OrderOf app cs s w) → (s : State) (w : List ℕ) → IsWalkFrom app (stand app (Run n ∷ cs) s) w → OrderOf app (Run n ∷ cs) s w
run_more app n cs behind s w walk =
    let it = whole_run app cs behind n s w (walk_same app (stand app (Run n ∷ cs) s) (stand_run app n 0 (stand app cs) s) (λ o. sym (stand_begins app n cs s o)) w walk) in
    record { order = it.0; is_order = order_begins app n cs s it.0 it.1; is = worked_begins app n cs s it.0 ∙ it.2 }

command_more : (app : Application) (c : Command) (cs : List Command) → IsNoRun c → ((s : State) (w : List ℕ) → IsWalkFrom app (stand app cs s) w → OrderOf app cs s w) → (s : State) (w : List ℕ) → IsWalkFrom app (stand app (c ∷ cs) s) w → OrderOf app (c ∷ cs) s w
command_more app c cs plain behind s w walk =
    let it = behind (command_of app s c).after w (walk_same app (stand app (c ∷ cs) s) (stand app cs (command_of app s c).after) (λ o. sym (stand_behind app c cs s plain o)) w walk) in
    record { order = it.order; is_order = order_behind app c cs s plain it.order it.is_order; is = worked_behind app c cs s plain it.order ∙ it.is }

order_from : (app : Application) (cs : List Command) (s : State) (w : List ℕ) → IsWalkFrom app (stand app cs s) w → OrderOf app cs s w
order_from app [] s w walk = nothing_more app s w walk
order_from app (Run n ∷ cs) s w walk = run_more app n cs (λ u v. order_from app cs u v) s w walk
order_from app (Input pterm text ∷ cs) s w walk = command_more app (Input pterm text) cs tt (λ u v. order_from app cs u v) s w walk
order_from app (Tick ticks ∷ cs) s w walk = command_more app (Tick ticks) cs tt (λ u v. order_from app cs u v) s w walk
order_from app (Turn task ∷ cs) s w walk = command_more app (Turn task) cs tt (λ u v. order_from app cs u v) s w walk
order_from app (Drop pterm ∷ cs) s w walk = command_more app (Drop pterm) cs tt (λ u v. order_from app cs u v) s w walk
order_from app (Print pterm ∷ cs) s w walk = command_more app (Print pterm) cs tt (λ u v. order_from app cs u v) s w walk
order_from app (PrintLast pterm ∷ cs) s w walk = command_more app (PrintLast pterm) cs tt (λ u v. order_from app cs u v) s w walk
order_from app (Restart ∷ cs) s w walk = command_more app Restart cs tt (λ u v. order_from app cs u v) s w walk

pub walks_are_orders : WalksAreOrders
walks_are_orders app cs s w walk =
    let it = order_from app cs s w (record { can = walk.can; end = walk.end }) in
    record { order = it.order; is_order = it.is_order; is = it.is }
