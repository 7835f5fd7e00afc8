-- What can be next, and the walks one after another.
use Rattle.std.proofs.Common.{◌≡◌, ℕ, zero, suc, ◌+◌, ◌-◌, ◌<◌, ◌≤◌, List, [], ◌∷◌, ◌++◌, inl, inr, refl, sym, ap, subst, ◌∙◌, arith, get_or, drop, take, length}
use Rattle.std.specs.Prelude.{◌⊎◌, Bool, true, false, not, ◌||◌, ◌==◌, IsTrue, All, cond}
use Rattle.std.proofs.lemmas.Bool.{eq-eqb, eqb-true, true≢false}
use Rattle.std.proofs.lemmas.List.{drop_more, length-append, take-append-drop}
use Rattle.std.proofs.lemmas.List.Elements.{All-append}
use Rattle.application_types.specs.Statements.{IsWithin}
use Rattle.abstract_monitor.specs.declared.command.Command.{Command}
use Rattle.abstract_monitor.specs.State.{Application, State}
use Rattle.laws_of_states.specs.ItemsLaws.{IsIn}
use Rattle.laws_of_states.specs.Keeping.{HasFacts}
use Rattle.monitor_core.specs.CoreValue.{CoreValue}
use Rattle.lab_walks.specs.declared.frame.Frame.{Frame}
use Rattle.lab_orders.specs.Finding.{AreTried, IsSame}
use Rattle.lab_walks.specs.Frames.{IsAhead, IsFrame, IsLeft, IsWay, others, turn_in, turns_in}
use Rattle.lab_walks.specs.FramesLaws.{first_or_later}
use Rattle.lab_walks.specs.Lists.{AreOnce}
use Rattle.lab_walks.specs.Orders.{IsAtRest, IsTurn, has_effect, is_in}
use Rattle.lab_orders.specs.Trying.{TriedEffect}
use Rattle.lab_walks.specs.Walks.{AtEnd, CanBe, InRun, IsEnd, IsWalk, Spot, idle_count, idle_from, stand}
use Rattle.lab_walks.specs.ListsLaws.{head_of, not_none, tail_of}

-- ---- lists of turns

pub in_front : (t : ℕ) (xs ys : List ℕ) → IsTrue (is_in t xs) → IsTrue (is_in t (xs ++ ys))
in_front t [] ys h = absurd (true≢false (sym h))
in_front t (x ∷ xs) ys h = by (x == t) (in_front t xs ys) h
  where
    by : (b : Bool) → (IsTrue (is_in t xs) → IsTrue (is_in t (xs ++ ys))) → IsTrue (b || is_in t xs) → IsTrue (b || is_in t (xs ++ ys))
    by true rest h = refl
    by false rest h = rest h

pub in_last : (t : ℕ) (xs : List ℕ) → IsTrue (is_in t (xs ++ t ∷ []))
in_last t [] = subst (λ b. IsTrue (b || false)) (sym (eq-eqb t t refl)) refl
in_last t (x ∷ xs) = by (x == t) (in_last t xs)
  where
    by : (b : Bool) → IsTrue (is_in t (xs ++ t ∷ [])) → IsTrue (b || is_in t (xs ++ t ∷ []))
    by true rest = refl
    by false rest = rest

-- what is told by the test is there
pub is_in_there : (t : ℕ) (xs : List ℕ) → IsTrue (is_in t xs) → IsIn t xs
is_in_there t [] h = absurd (true≢false (sym h))
is_in_there t (x ∷ xs) h = by (x == t) refl (is_in_there t xs) h
  where
    by : (b : Bool) → (x == t) ≡ b → (IsTrue (is_in t xs) → IsIn t xs) → IsTrue (b || is_in t xs) → IsIn t (x ∷ xs)
    by true e rest h = inl (eqb-true x t e)
    by false e rest h = inr (rest h)

in_all : (P : ℕ → Type 0) (t : ℕ) (xs : List ℕ) → All P xs → IsIn t xs → P t
in_all P t [] all h = absurd h
in_all P t (x ∷ xs) all (inl same) = subst P same (all 0 0 (omega arith))
in_all P t (x ∷ xs) all (inr later) = in_all P t xs (λ k d less. all (suc k) d (omega (arith, less))) later

in_one_more : (t last : ℕ) (xs : List ℕ) → IsIn t (xs ++ last ∷ []) → IsIn t xs ⊎ (last ≡ t)
in_one_more t last [] (inl same) = inr same
in_one_more t last [] (inr later) = absurd later
in_one_more t last (x ∷ xs) (inl same) = inl (inl same)
in_one_more t last (x ∷ xs) (inr later) = elim (in_one_more t last xs later) [ inl there ↦ inl (inr there) | inr here ↦ inr here ]

once_more : (xs : List ℕ) (last : ℕ) → AreOnce xs → (IsIn last xs → ⊥) → AreOnce (xs ++ last ∷ [])
once_more [] last once new = (λ none. none, tt)
once_more (x ∷ xs) last once new = (
  λ there. elim (in_one_more x last xs there) [ inl in_xs ↦ once.0 in_xs | inr same ↦ new (inl (sym same)) ],
  once_more xs last once.1 (λ there. new (inr there)),
)

-- a choice is not among those behind it
pub not_behind : (xs : List ℕ) (at : ℕ) → at < length xs → AreOnce xs → IsTrue (is_in (get_or xs at 0) (drop (at + 1) xs)) → ⊥
not_behind [] at lt once h = omega (arith, lt)
not_behind (x ∷ xs) zero lt once h = once.0 (is_in_there x xs h)
not_behind (x ∷ xs) (suc at) lt once h =
    let more : suc at + 1 ≡ suc (at + 1) = omega arith in
    not_behind xs at (omega (arith, lt)) once.1 (subst (λ n. IsTrue (is_in (get_or xs at 0) (drop n (x ∷ xs)))) more h)

all_one : (P : ℕ → Type 0) (t : ℕ) → P t → All P (t ∷ [])
all_one P t h zero d less = h
all_one P t h (suc k) d less = absurd (omega (arith, less))

-- ---- each task is tried

-- the tasks up to this one were tried
pub record Trying (c d : CoreValue) (steps at : ℕ) (choices : List ℕ) (idle : ℕ) : Type 0 where
  pub same : IsSame c d
  pub steps_are : d.steps ≤ steps + at
  pub few : idle ≤ at
  pub idle_is : idle + idle_from c.application c.state (at + 1) (c.application.generation.limits.tasks - at) ≡ idle_count c.application c.state
  pub can : All (IsTurn c.application c.state) choices
  pub whole : (t : ℕ) → t ≤ at → IsTurn c.application c.state t → IsTrue (is_in t choices)
  pub low : (t : ℕ) → IsIn t choices → t ≤ at
  pub once : AreOnce choices

pub trying_start : (c : CoreValue) (steps : ℕ) (choices : List ℕ) → choices ≡ [] → HasFacts c.application c.state → c.steps ≤ steps → Trying c c steps 0 choices 0
trying_start c steps choices none facts few = record {
  same = record { application = refl; state = refl; facts = facts };
  steps_are = omega (arith, few);
  few = omega arith;
  idle_is =
      let all : c.application.generation.limits.tasks - 0 ≡ c.application.generation.limits.tasks = omega arith in
      let front : idle_from c.application c.state 1 (c.application.generation.limits.tasks - 0) ≡ idle_count c.application c.state = ap (idle_from c.application c.state 1) all in
      omega (arith, front);
  can = subst (All (IsTurn c.application c.state)) (sym none) (λ k d less. absurd (omega (arith, less)));
  whole = λ t low turn. let within : 1 ≤ t = turn.within.0 in absurd (omega (arith, low, within));
  low = λ t h. absurd (subst (IsIn t) none h);
  once = subst AreOnce (sym none) tt;
}

pub idle_one : (app : Application) (s : State) (task n : ℕ) → has_effect app s task ≡ false → idle_from app s task (suc n) ≡ 1 + idle_from app s (task + 1) n
idle_one app s task n e = ap (λ b. cond b 0 1 + idle_from app s (task + 1) n) e

pub idle_none : (app : Application) (s : State) (task n : ℕ) → has_effect app s task ≡ true → idle_from app s task (suc n) ≡ idle_from app s (task + 1) n
idle_none app s task n e = let one : idle_from app s task (suc n) ≡ 0 + idle_from app s (task + 1) n = ap (λ b. cond b 0 1 + idle_from app s (task + 1) n) e in omega (arith, one)

module _ (c d : CoreValue) (steps at : ℕ) (choices : List ℕ) (idle : ℕ) (trying : Trying c d steps at choices idle) (lt : at < c.application.generation.limits.tasks) where
  effect_here : has_effect d.application d.state (at + 1) ≡ has_effect c.application c.state (at + 1)
  effect_here = λ i. has_effect (trying.same.application i) (trying.same.state i) (at + 1)

  one_less : c.application.generation.limits.tasks - at ≡ suc (c.application.generation.limits.tasks - (at + 1))
  one_less = omega (arith, lt)

  pub trying_within : IsWithin 1 d.application.generation.limits.tasks (at + 1)
  trying_within = subst (λ (a : Application). IsWithin 1 a.generation.limits.tasks (at + 1)) (sym trying.same.application) (omega arith, omega (arith, lt))

  -- it has none
  pub trying_idle : (next : CoreValue) (moved : Bool) → TriedEffect d (at + 1) next moved → moved ≡ false → next.steps ≡ d.steps + 1 → Trying c next steps (at + 1) choices (idle + 1)
  trying_idle next moved tried none_is one = record {
    same = record { application = tried.application ∙ trying.same.application; state = tried.stays none_is ∙ trying.same.state; facts = tried.facts };
    steps_are = omega (arith, one, trying.steps_are);
    few = omega (arith, trying.few);
    idle_is =
        let none : has_effect c.application c.state (at + 1) ≡ false = sym effect_here ∙ tried.effect ∙ none_is in
        let front : idle_from c.application c.state (at + 1) (c.application.generation.limits.tasks - at) ≡ 1 + idle_from c.application c.state (at + 1 + 1) (c.application.generation.limits.tasks - (at + 1)) =
        ap (idle_from c.application c.state (at + 1)) one_less ∙ idle_one c.application c.state (at + 1) (c.application.generation.limits.tasks - (at + 1)) none in
        omega (arith, front, trying.idle_is);
    can = trying.can;
    whole = whole;
    low = λ t h. let before : t ≤ at = trying.low t h in omega (arith, before);
    once = trying.once;
  }
    where
      whole : (t : ℕ) → t ≤ at + 1 → IsTurn c.application c.state t → IsTrue (is_in t choices)
      whole t low turn = by (t == at + 1) refl
        where
          by : (b : Bool) → (t == at + 1) ≡ b → IsTrue (is_in t choices)
          by true e = absurd (true≢false (sym turn.effect ∙ ap (has_effect c.application c.state) (eqb-true t (at + 1) e) ∙ sym effect_here ∙ tried.effect ∙ none_is))
          by false e = trying.whole t (grind (arith, low, e)) turn

  -- it has one
  pub trying_effect : (later next : CoreValue) (moved : Bool) → TriedEffect d (at + 1) later moved → moved ≡ true → IsSame c next → next.steps ≤ steps → Trying c next steps (at + 1) (choices ++ (at + 1) ∷ []) idle
  trying_effect later next moved tried some_is same few = record {
    same = same;
    steps_are = omega (arith, few);
    few = omega (arith, trying.few);
    idle_is =
        let front : idle_from c.application c.state (at + 1) (c.application.generation.limits.tasks - at) ≡ idle_from c.application c.state (at + 1 + 1) (c.application.generation.limits.tasks - (at + 1)) =
        ap (idle_from c.application c.state (at + 1)) one_less ∙ idle_none c.application c.state (at + 1) (c.application.generation.limits.tasks - (at + 1)) (sym effect_here ∙ tried.effect ∙ some_is) in
        omega (arith, front, trying.idle_is);
    can = can;
    whole = whole;
    low = λ t h. elim (in_one_more t (at + 1) choices h) [ inl there ↦ (let before : t ≤ at = trying.low t there in omega (arith, before)) | inr here ↦ omega (arith, here) ];
    once = once_more choices (at + 1) trying.once (λ there. let before : at + 1 ≤ at = trying.low (at + 1) there in omega (arith, before));
  }
    where
      turn : IsTurn c.application c.state (at + 1)
      turn = record { within = (omega arith, omega (arith, lt)); effect = sym effect_here ∙ tried.effect ∙ some_is }

      can : All (IsTurn c.application c.state) (choices ++ (at + 1) ∷ [])
      can = All-append (IsTurn c.application c.state) choices ((at + 1) ∷ []) trying.can (all_one (IsTurn c.application c.state) (at + 1) turn)

      whole : (t : ℕ) → t ≤ at + 1 → IsTurn c.application c.state t → IsTrue (is_in t (choices ++ (at + 1) ∷ []))
      whole t low can_be = by (t == at + 1) refl
        where
          by : (b : Bool) → (t == at + 1) ≡ b → IsTrue (is_in t (choices ++ (at + 1) ∷ []))
          by true e = subst (λ u. IsTrue (is_in u (choices ++ (at + 1) ∷ []))) (sym (eqb-true t (at + 1) e)) (in_last (at + 1) choices)
          by false e = in_front t choices ((at + 1) ∷ []) (trying.whole t (grind (arith, low, e)) can_be)

pub trying_over : (c d : CoreValue) (steps at : ℕ) (choices : List ℕ) (idle : ℕ) → Trying c d steps at choices idle → c.application.generation.limits.tasks ≤ at → AreTried c.application c.state choices idle
trying_over c d steps at choices idle trying over = record {
  idle_is =
      let none : c.application.generation.limits.tasks - at ≡ 0 = omega (arith, over) in
      let front : idle_from c.application c.state (at + 1) (c.application.generation.limits.tasks - at) ≡ 0 = ap (idle_from c.application c.state (at + 1)) none in
      omega (arith, front, trying.idle_is);
  can = trying.can;
  whole = λ t turn. let within : t ≤ c.application.generation.limits.tasks = turn.within.1 in trying.whole t (omega (arith, within, over)) turn;
  once = trying.once;
}

-- ---- what can be next

module _ (app : Application) (s : State) (choices : List ℕ) (idle left room : ℕ) (tried : AreTried app s choices idle) where
  turn_can : (t : ℕ) → IsTurn app s t → CanBe app (InRun left room s) t
  turn_can zero turn = let within : 1 ≤ 0 = turn.within.0 in absurd (omega (arith, within))
  turn_can (suc t) turn = turn

  turns_can : All (CanBe app (InRun left room s)) choices
  turns_can k d less = turn_can (get_or choices k d) (tried.can k d less)

  pub none_rests : choices ≡ [] → IsAtRest app s
  none_rests none t turn = true≢false (sym (subst (λ (l : List ℕ). IsTrue (is_in t l)) none (tried.whole t turn)))

  module _ (f : Frame) (idle_is : f.idle ≡ idle) (at : f.at ≡ 0) where
    -- 0 is one of it
    pub opens_zero : f.choices ≡ choices ++ 0 ∷ [] → (choices ≡ []) ⊎ (left + 1 ≤ room + idle) → IsFrame app (InRun left room s) f
    opens_zero are why = record {
      idle = idle_is ∙ tried.idle_is;
      can = subst (All (CanBe app (InRun left room s))) (sym are) can;
      whole = λ t can. subst (λ (l : List ℕ). IsTrue (is_in t l)) (sym are) (whole t can);
      once = subst AreOnce (sym are) (once_more choices 0 tried.once (λ there. let turn : IsTurn app s 0 = in_all (IsTurn app s) 0 choices tried.can there in let within : 1 ≤ 0 = turn.within.0 in omega (arith, within)));
      at = let some : length f.choices ≡ length choices + 1 = ap length are ∙ length-append choices (0 ∷ []) in omega (arith, at, some);
    }
      where
        zero_can : CanBe app (InRun left room s) 0
        zero_can = elim why [ inl none ↦ inl (none_rests none) | inr spent ↦ inr (omega (arith, spent, tried.idle_is)) ]

        can : All (CanBe app (InRun left room s)) (choices ++ 0 ∷ [])
        can = All-append (CanBe app (InRun left room s)) choices (0 ∷ []) turns_can (all_one (CanBe app (InRun left room s)) 0 zero_can)

        whole : (t : ℕ) → CanBe app (InRun left room s) t → IsTrue (is_in t (choices ++ 0 ∷ []))
        whole zero can = in_last 0 choices
        whole (suc t) can = in_front (suc t) choices (0 ∷ []) (tried.whole (suc t) can)

    -- 0 is none of it
    pub opens_turns : f.choices ≡ choices → (choices ≡ [] → ⊥) → room + idle ≤ left → IsFrame app (InRun left room s) f
    opens_turns are some more = record {
      idle = idle_is ∙ tried.idle_is;
      can = subst (All (CanBe app (InRun left room s))) (sym are) turns_can;
      whole = λ t can. subst (λ (l : List ℕ). IsTrue (is_in t l)) (sym are) (whole t can);
      once = subst AreOnce (sym are) tried.once;
      at = subst (λ n. n < length f.choices) (sym at) (subst (λ (l : List ℕ). 0 < length l) (sym are) (filled choices some));
    }
      where
        filled : (xs : List ℕ) → (xs ≡ [] → ⊥) → 0 < length xs
        filled [] not = absurd (not refl)
        filled (x ∷ xs) not = omega arith

        whole : (t : ℕ) → CanBe app (InRun left room s) t → IsTrue (is_in t choices)
        whole zero (inl rest) = absurd (rest_not rest)
          where
            rest_not : IsAtRest app s → ⊥
            rest_not rest = let first = tried.can 0 0 (filled choices some) in rest (get_or choices 0 0) first
        whole zero (inr spent) = absurd (omega (arith, spent, more, tried.idle_is))
        whole (suc t) can = tried.whole (suc t) can

-- ---- one frame more

module _ (app : Application) (cs : List Command) (s : State) where
  pub way_none : (frames : List Frame) → frames ≡ [] → IsWay app cs s frames
  way_none frames none before f behind e = absurd (not_none before f behind (sym none ∙ e))

  -- each turn of a way can be where it is; where they lead to an end, they are a walk
  frames_split : (frames : List Frame) (before : List ℕ) (t : ℕ) (behind : List ℕ) → turns_in frames ≡ before ++ t ∷ behind
      → (b : List Frame) × (f : Frame) × (l : List Frame) × (frames ≡ b ++ f ∷ l) × (turns_in b ≡ before) × (turn_in f ≡ t)
  unfolding head_of tail_of
  frames_split [] before t behind e = absurd (not_none before t behind e)
  frames_split (f ∷ frames) [] t behind e = ([], f, frames, refl, refl, ap (head_of 0) e)
  frames_split (f ∷ frames) (x ∷ before) t behind e =
      let rest = frames_split frames before t behind (ap tail_of e) in
      (f ∷ rest.0, rest.1, rest.2, ap (λ (l : List Frame). f ∷ l) rest.3, (λ i. ap (head_of 0) e i ∷ rest.4 i), rest.5)

  taken_can : (p : Spot) (f : Frame) → IsFrame app p f → CanBe app p (turn_in f)
  taken_can (AtEnd u) f h = absurd h
  taken_can (InRun left room u) f h = h.can f.at 0 h.at

  pub way_can : (frames : List Frame) → IsWay app cs s frames → (before : List ℕ) (t : ℕ) (behind : List ℕ) → turns_in frames ≡ before ++ t ∷ behind → CanBe app (stand app cs s before) t
  way_can frames way before t behind e =
      let it = frames_split frames before t behind e in
      subst (λ (x : List ℕ × ℕ). CanBe app (stand app cs s x.0) x.1) (λ i. (it.4 i, it.5 i)) (taken_can (stand app cs s (turns_in it.0)) it.1 (way it.0 it.1 it.2 it.3))

  pub way_walks : (frames : List Frame) → IsWay app cs s frames → IsEnd (stand app cs s (turns_in frames)) → IsWalk app cs s (turns_in frames)
  way_walks frames way end = record { can = way_can frames way; end = end }

  -- ---- what is ahead

  -- a walk that begins with these turns goes on with what can be next
  pub goes_on : (p : Spot) (f : Frame) → IsFrame app p f → (t : ℕ) → CanBe app p t → IsTrue (is_in t f.choices)
  goes_on (AtEnd u) f h t can = absurd h
  goes_on (InRun left room u) f h t can = h.whole t can

  pub no_stop : (p : Spot) (f : Frame) → IsFrame app p f → IsEnd p → ⊥
  no_stop (AtEnd u) f h end = h
  no_stop (InRun left room u) f h end = end

  -- the turns of these frames, and then those of it
  ahead_by : (front : List ℕ) (frames : List Frame) (last : Frame) (rest : List ℕ)
      → ((t : ℕ) (behind : List ℕ) → rest ≡ turns_in frames ++ t ∷ behind → (t ≡ turn_in last) ⊎ IsTrue (is_in t (others last)))
      → (rest ≡ turns_in frames → ⊥)
      → IsAhead frames rest → IsAhead (frames ++ last ∷ []) rest
  ahead_by front [] last [] next some h = absurd (some refl)
  ahead_by front [] last (t ∷ rest) next some h = elim (next t rest refl) [ inl same ↦ inl (same, tt) | inr other ↦ inr other ]
  ahead_by front (f ∷ frames) last [] next some h = absurd h
  ahead_by front (f ∷ frames) last (t ∷ rest) next some (inr other) = inr other
  ahead_by front (f ∷ frames) last (t ∷ rest) next some (inl both) =
      inl (both.0, ahead_by (front ++ t ∷ []) frames last rest (λ u behind e. next u behind (λ i. both.0 i ∷ e i)) (λ e. some (λ i. both.0 i ∷ e i)) both.1)

  pub ahead_more : (frames : List Frame) (last : Frame) → IsFrame app (stand app cs s (turns_in frames)) last → last.at ≡ 0 → (w : List ℕ) → IsWalk app cs s w → IsAhead frames w → IsAhead (frames ++ last ∷ []) w
  ahead_more frames last here first w walk ahead = ahead_by [] frames last w next some ahead
    where
      p : Spot
      p = stand app cs s (turns_in frames)

      at_ok : (q : Spot) → IsFrame app q last → last.at < length last.choices
      at_ok (AtEnd u) h = absurd h
      at_ok (InRun left room u) h = h.at

      next : (t : ℕ) (behind : List ℕ) → w ≡ turns_in frames ++ t ∷ behind → (t ≡ turn_in last) ⊎ IsTrue (is_in t (others last))
      next t behind e =
          first_or_later t last.choices last.at (at_ok p here)
          (subst (λ n. IsTrue (is_in t (drop n last.choices))) (sym first) (goes_on p last here t (walk.can (turns_in frames) t behind e)))

      some : w ≡ turns_in frames → ⊥
      some e = no_stop p last here (subst (λ (l : List ℕ). IsEnd (stand app cs s l)) e walk.end)

-- ---- and nothing else is

pub ahead_back : (frames : List Frame) (last : Frame) (w : List ℕ) → IsAhead (frames ++ last ∷ []) w → IsAhead frames w
ahead_back [] last w h = tt
ahead_back (f ∷ frames) last [] h = absurd h
ahead_back (f ∷ frames) last (t ∷ w) (inl both) = inl (both.0, ahead_back frames last w both.1)
ahead_back (f ∷ frames) last (t ∷ w) (inr other) = inr other

pub left_ahead : (frames : List Frame) (w : List ℕ) → IsLeft frames w → IsAhead frames w
left_ahead [] w h = absurd h
left_ahead (f ∷ frames) [] h = absurd h
left_ahead (f ∷ frames) (t ∷ w) (inl both) = inl (both.0, left_ahead frames w both.1)
left_ahead (f ∷ frames) (t ∷ w) (inr other) = inr other

pub turns_ahead : (frames : List Frame) → IsAhead frames (turns_in frames)
turns_ahead [] = tt
turns_ahead (f ∷ frames) = inl (refl, turns_ahead frames)

-- what can be next, none twice
abbrev AreOpen : Frame → Type 0
AreOpen f = AreOnce f.choices × (f.at < length f.choices)

-- the turns of frames are not left
pub turns_not_left : (frames : List Frame) → All AreOpen frames → IsLeft frames (turns_in frames) → ⊥
turns_not_left [] opened h = h
turns_not_left (f ∷ frames) opened (inl both) = turns_not_left frames (λ k d less. opened (suc k) d (omega (arith, less))) both.1
turns_not_left (f ∷ frames) opened (inr other) = let here = opened 0 f (omega arith) in not_behind f.choices f.at here.1 here.0 other

open_at : (app : Application) (p : Spot) (f : Frame) → IsFrame app p f → AreOpen f
open_at app (AtEnd s) f h = absurd h
open_at app (InRun left room s) f h = (h.once, h.at)

pub way_open : (app : Application) (cs : List Command) (s : State) (frames : List Frame) → IsWay app cs s frames → All AreOpen frames
way_open app cs s frames way k d less =
    open_at app (stand app cs s (turns_in (take k frames))) (get_or frames k d)
    (way (take k frames) (get_or frames k d) (drop (k + 1) frames) (sym (take-append-drop k frames) ∙ ap (λ (l : List Frame). take k frames ++ l) (drop_more frames k d less)))

-- at an end
pub ahead_end : (app : Application) (cs : List Command) (s : State) (frames : List Frame) → IsEnd (stand app cs s (turns_in frames)) → (w : List ℕ) → IsWalk app cs s w → IsAhead frames w → (w ≡ turns_in frames) ⊎ IsLeft frames w
ahead_end app cs s frames end w walk ahead = by frames w (λ t behind e. closed (stand app cs s (turns_in frames)) end t (walk.can (turns_in frames) t behind e)) ahead
  where
    closed : (p : Spot) → IsEnd p → (t : ℕ) → CanBe app p t → ⊥
    closed (AtEnd u) e t can = can
    closed (InRun left room u) e t can = e

    by : (frames : List Frame) (w : List ℕ) → ((t : ℕ) (behind : List ℕ) → w ≡ turns_in frames ++ t ∷ behind → ⊥) → IsAhead frames w → (w ≡ turns_in frames) ⊎ IsLeft frames w
    by [] [] none h = inl refl
    by [] (t ∷ w) none h = absurd (none t w refl)
    by (f ∷ frames) [] none h = absurd h
    by (f ∷ frames) (t ∷ w) none (inr other) = inr (inr other)
    by (f ∷ frames) (t ∷ w) none (inl both) =
        elim (by frames w (λ u behind e. none u behind (λ i. both.0 i ∷ e i)) both.1) [ inl same ↦ inl (λ i. both.0 i ∷ same i) | inr left ↦ inr (inl (both.0, left)) ]
