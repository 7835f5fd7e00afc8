-- What is told of the walks that were tried, with one walk more.
use Rattle.std.proofs.Common.{◌≡◌, inl, inr, ℕ, ◌+◌, ◌≤◌, ◌<◌, List, [], ◌∷◌, refl, sym, ap, subst, ◌∙◌, arith}
use Rattle.std.specs.Prelude.{Bool, true, false, ◌&&◌, bytes_eq, cond, count_by, nat_lt}
use Rattle.std.specs.Bool.{Decides}
use Rattle.std.specs.Cmp.Lexicographic.{pointwise}
use Rattle.std.proofs.lemmas.Bool.{ltb-true, true≢false}
use Rattle.std.proofs.lemmas.List.Sums.{sum_by-cons}
use Rattle.std.proofs.lemmas.Slice.Eq.{bytes_eq-Decides, slice_eq-Decides}
use Rattle.kd_base.specs.ToolsLaws.{both_true}
use Rattle.kdcs_types.specs.Tables.{TableRows}
use Rattle.abstract_monitor.specs.declared.command.Command.{Command}
use Rattle.abstract_monitor.specs.Commands.{started}
use Rattle.abstract_monitor.specs.State.{Application, State}
use Rattle.laws_of_states.specs.ItemsLaws.{IsIn}
use Rattle.lab_walks.specs.declared.signs.Signs.{Signs}
use Rattle.lab_walks.specs.Serial.{is_serial}
use Rattle.lab_walks.specs.Outcomes.{Result, alike, result_of, same_result, same_signs}
use Rattle.lab_orders.specs.declared.explored.Outcome.{Outcome}
use Rattle.lab_orders.specs.declared.performed.Found.{Found}
use Rattle.lab_orders.specs.Exploring.{AreDistinct, IsAdded, IsCounted, IsFirst, IsOther, IsShown, IsThatOf, is_shorter}
use Rattle.lab_orders.specs.Finding.{found_result}
use Rattle.lab_orders.specs.Told.{AreTold, ComesTo, IsOneOf, IsTold, comes_serially, comes_to, outcome_result, turns_of}

abbrev one_if : Bool → ℕ
one_if b = cond b 1 0

-- ---- when two results are the same

alike_decides : (a b : Bool) → Decides (alike a b) (a ≡ b)
alike_decides true true = (λ e. refl, λ e. refl)
alike_decides true false = (λ e. absurd (true≢false (sym e)), λ e. absurd (true≢false e))
alike_decides false true = (λ e. absurd (true≢false (sym e)), λ e. absurd (true≢false (sym e)))
alike_decides false false = (λ e. refl, λ e. refl)

both : (a b : Bool) → a ≡ true → b ≡ true → (a && b) ≡ true
both a b one other i = one i && other i

same_signs_is : (x y : Signs) → same_signs x y ≡ true → x ≡ y
same_signs_is x y e =
    let a = both_true _ _ e in
    let b = both_true _ _ a.0 in
    let c = both_true _ _ b.0 in
    let d = both_true _ _ c.0 in
    let k04 = (alike_decides x.k04 y.k04).0 d.0 in
    let k05 = (alike_decides x.k05 y.k05).0 d.1 in
    let dump = (alike_decides x.dump y.dump).0 c.1 in
    let standstill = (alike_decides x.standstill y.standstill).0 b.1 in
    let spent = (alike_decides x.spent y.spent).0 a.1 in
    λ i. record { k04 = k04 i; k05 = k05 i; dump = dump i; standstill = standstill i; spent = spent i }

alike_itself : (a : Bool) → alike a a ≡ true
alike_itself a = (alike_decides a a).1 refl

result_itself : (x : Result) → same_result x x ≡ true
result_itself x =
    both _ _ (both _ _ ((lines_decides x.lines x.lines).1 refl) ((bytes_eq-Decides x.tables x.tables).1 refl))
    (both _ _ (both _ _ (both _ _ (both _ _ (alike_itself x.signs.k04) (alike_itself x.signs.k05)) (alike_itself x.signs.dump)) (alike_itself x.signs.standstill)) (alike_itself x.signs.spent))
  where
    lines_decides : (a b : List (List ℕ)) → Decides (pointwise bytes_eq a b) (a ≡ b)
    lines_decides a b = slice_eq-Decides bytes_eq-Decides a b (pointwise bytes_eq a b) refl

same_result_is : (x y : Result) → same_result x y ≡ true → x ≡ y
same_result_is x y e =
    let a = both_true _ _ e in
    let b = both_true _ _ a.0 in
    let lines = (slice_eq-Decides bytes_eq-Decides x.lines y.lines (pointwise bytes_eq x.lines y.lines) refl).0 b.0 in
    let tables = (bytes_eq-Decides x.tables y.tables).0 b.1 in
    let signs = same_signs_is x.signs y.signs a.1 in
    λ i. record { lines = lines i; tables = tables i; signs = signs i }

module _ (app : Application) (cs : List Command) (s : State) where
  abbrev Comes : List ℕ → Outcome → Type 0
  Comes w x = ComesTo app cs s x w

  count_walks : (x : Outcome) (w : List ℕ) (walks : List (List ℕ)) → count_by (comes_to app cs s x) (w ∷ walks) ≡ one_if (comes_to app cs s x w) + count_by (comes_to app cs s x) walks
  count_walks x w walks = sum_by-cons (λ v. one_if (comes_to app cs s x v)) w walks

  count_serial : (x : Outcome) (w : List ℕ) (walks : List (List ℕ)) → count_by (comes_serially app cs s x) (w ∷ walks) ≡ one_if (comes_serially app cs s x w) + count_by (comes_serially app cs s x) walks
  count_serial x w walks = sum_by-cons (λ v. one_if (comes_serially app cs s x v)) w walks

  pub comes_true : (w : List ℕ) (x : Outcome) → Comes w x → comes_to app cs s x w ≡ true
  comes_true w x h = ap (same_result (outcome_result x)) (sym h) ∙ result_itself (outcome_result x)

  pub true_comes : (w : List ℕ) (x : Outcome) → comes_to app cs s x w ≡ true → Comes w x
  true_comes w x e = same_result_is (outcome_result x) (result_of app cs s w) e

  comes_false : (w : List ℕ) (x : Outcome) → (Comes w x → ⊥) → comes_to app cs s x w ≡ false
  comes_false w x not = by (comes_to app cs s x w) refl
    where
      by : (b : Bool) → comes_to app cs s x w ≡ b → comes_to app cs s x w ≡ false
      by true e = absurd (not (true_comes w x e))
      by false e = e

  -- a walk that comes to another outcome
  pub told_other : (w : List ℕ) (walks : List (List ℕ)) (x : Outcome) → (Comes w x → ⊥) → IsTold app cs s walks x → IsTold app cs s (w ∷ walks) x
  told_other w walks x not told = record {
    orders =
        let more = count_walks x w walks in
        let none : one_if (comes_to app cs s x w) ≡ 0 = ap one_if (comes_false w x not) in
        omega (arith, more, none, told.orders);
    serial =
        let more = count_serial x w walks in
        let none : one_if (comes_serially app cs s x w) ≡ 0 = ap (λ b. one_if (b && is_serial app cs s w)) (comes_false w x not) in
        omega (arith, more, none, told.serial);
    shown = record { among = inr told.shown.among; comes = told.shown.comes };
    shortest = shortest;
  }
    where
      shortest : (v : List ℕ) → IsOneOf app cs s (w ∷ walks) x v → turns_of x.turns ≤ turns_of v
      shortest v one = by one.among
        where
          by : IsIn v (w ∷ walks) → turns_of x.turns ≤ turns_of v
          by (inl same) = absurd (not (subst (λ (u : List ℕ). Comes u x) (sym same) one.comes))
          by (inr later) = told.shortest v (record { among = later; comes = one.comes })

  shorter_most : (v w : List ℕ) → (turns_of (cond (nat_lt (turns_of v) (turns_of w)) v w) ≤ turns_of v) × (turns_of (cond (nat_lt (turns_of v) (turns_of w)) v w) ≤ turns_of w)
  shorter_most v w = by (nat_lt (turns_of v) (turns_of w)) refl
    where
      by : (b : Bool) → nat_lt (turns_of v) (turns_of w) ≡ b → (turns_of (cond b v w) ≤ turns_of v) × (turns_of (cond b v w) ≤ turns_of w)
      by true e = let less : turns_of v < turns_of w = ltb-true (turns_of v) (turns_of w) e in (omega arith, omega (arith, less))
      by false e = (not_less e, omega arith)
        where
          not_less : nat_lt (turns_of v) (turns_of w) ≡ false → turns_of w ≤ turns_of v
          not_less e = grind (arith, e)

  module _ (found : Found) (comes : found_result found ≡ result_of app cs s found.turns) (whole : found.serial ≡ is_serial app cs s found.turns) where
    found_comes : (x : Outcome) → IsThatOf x found → Comes found.turns x
    found_comes x same = same ∙ comes

    comes_found : (x : Outcome) → Comes found.turns x → IsThatOf x found
    comes_found x h = h ∙ sym comes

    -- it counts if each of its transactions runs in one go
    serial_one : (y : Outcome) → IsThatOf y found → one_if (comes_serially app cs s y found.turns) ≡ one_if found.serial
    serial_one y that = (λ i. one_if (comes_true found.turns y (found_comes y that) i && sym whole i))

    -- one walk more that comes to it
    told_counted : (walks : List (List ℕ)) (x y : Outcome) → IsCounted x y found → IsTold app cs s walks x → IsTold app cs s (found.turns ∷ walks) y
    told_counted walks x y counted told = record {
      orders =
          let more = count_walks y found.turns walks in
          let one : one_if (comes_to app cs s y found.turns) ≡ 1 = ap one_if (comes_true found.turns y (found_comes y that)) in
          let same : count_by (comes_to app cs s y) walks ≡ count_by (comes_to app cs s x) walks = ap (λ (p : List ℕ → Bool). count_by p walks) (λ i w. same_result (counted.result i) (result_of app cs s w)) in
          omega (arith, more, one, same, told.orders, counted.orders);
      serial =
          let more = count_serial y found.turns walks in
          let same : count_by (comes_serially app cs s y) walks ≡ count_by (comes_serially app cs s x) walks = ap (λ (p : List ℕ → Bool). count_by p walks) (λ i w. same_result (counted.result i) (result_of app cs s w) && is_serial app cs s w) in
          omega (arith, more, serial_one y that, same, told.serial, counted.serial);
      shown = record { among = subst (λ (u : List ℕ). IsIn u (found.turns ∷ walks)) (sym counted.turns) (there (is_shorter found x)); comes = subst (λ (u : List ℕ). Comes u y) (sym counted.turns) (one_comes (is_shorter found x)) };
      shortest = shortest;
    }
      where
        that : IsThatOf y found
        that = counted.result ∙ counted.same

        to_y : (v : List ℕ) → Comes v x → Comes v y
        to_y v h = counted.result ∙ h

        there : (b : Bool) → IsIn (cond b found.turns x.turns) (found.turns ∷ walks)
        there true = inl refl
        there false = inr told.shown.among

        one_comes : (b : Bool) → Comes (cond b found.turns x.turns) y
        one_comes true = found_comes y that
        one_comes false = to_y x.turns told.shown.comes

        least : (turns_of y.turns ≤ turns_of found.turns) × (turns_of y.turns ≤ turns_of x.turns)
        least = subst (λ (u : List ℕ). (turns_of u ≤ turns_of found.turns) × (turns_of u ≤ turns_of x.turns)) (sym counted.turns) (shorter_most found.turns x.turns)

        shortest : (v : List ℕ) → IsOneOf app cs s (found.turns ∷ walks) y v → turns_of y.turns ≤ turns_of v
        shortest v one = by one.among
          where
            by : IsIn v (found.turns ∷ walks) → turns_of y.turns ≤ turns_of v
            by (inl same) = subst (λ (u : List ℕ). turns_of y.turns ≤ turns_of u) same least.0
            by (inr later) =
                let h : turns_of x.turns ≤ turns_of v = told.shortest v (record { among = later; comes = sym counted.result ∙ one.comes }) in
                let low = least.1 in
                omega (arith, h, low)

    -- the first walk that comes to it
    told_first : (walks : List (List ℕ)) (y : Outcome) → IsFirst y found → ((w : List ℕ) → IsIn w walks → Comes w y → ⊥) → IsTold app cs s (found.turns ∷ walks) y
    told_first walks y first none = record {
      orders =
          let more = count_walks y found.turns walks in
          let one : one_if (comes_to app cs s y found.turns) ≡ 1 = ap one_if (comes_true found.turns y (found_comes y first.same)) in
          omega (arith, more, one, first.orders, no_others walks none);
      serial =
          let more = count_serial y found.turns walks in
          omega (arith, more, serial_one y first.same, first.serial, none_serial walks none);
      shown = record { among = inl (sym first.turns); comes = subst (λ (u : List ℕ). Comes u y) (sym first.turns) (found_comes y first.same) };
      shortest = shortest;
    }
      where
        no_others : (walks : List (List ℕ)) → ((w : List ℕ) → IsIn w walks → Comes w y → ⊥) → count_by (comes_to app cs s y) walks ≡ 0
        no_others [] none = refl
        no_others (w ∷ walks) none =
            let more = count_walks y w walks in
            let no : one_if (comes_to app cs s y w) ≡ 0 = ap one_if (comes_false w y (none w (inl refl))) in
            omega (arith, more, no, no_others walks (λ v there. none v (inr there)))

        none_serial : (walks : List (List ℕ)) → ((w : List ℕ) → IsIn w walks → Comes w y → ⊥) → count_by (comes_serially app cs s y) walks ≡ 0
        none_serial [] none = refl
        none_serial (w ∷ walks) none =
            let more = count_serial y w walks in
            let no : one_if (comes_serially app cs s y w) ≡ 0 = ap (λ b. one_if (b && is_serial app cs s w)) (comes_false w y (none w (inl refl))) in
            omega (arith, more, no, none_serial walks (λ v there. none v (inr there)))

        shortest : (v : List ℕ) → IsOneOf app cs s (found.turns ∷ walks) y v → turns_of y.turns ≤ turns_of v
        shortest v one = by one.among
          where
            by : IsIn v (found.turns ∷ walks) → turns_of y.turns ≤ turns_of v
            by (inl same) = let e : turns_of y.turns ≡ turns_of v = ap turns_of (first.turns ∙ same) in omega (arith, e)
            by (inr later) = absurd (none v later one.comes)

    -- outcomes other than that of the walk
    told_others : (walks : List (List ℕ)) (x : Outcome) (xs : List Outcome) → IsThatOf x found → IsOther x xs → AreTold app cs s walks xs → AreTold app cs s (found.turns ∷ walks) xs
    told_others walks x [] same other told = tt
    told_others walks x (z ∷ zs) same other told = (told_other found.turns walks z differs told.0, told_others walks x zs same other.1 told.1)
      where
        differs : Comes found.turns z → ⊥
        differs h = other.0 (same ∙ sym (comes_found z h))

    -- one walk more is told
    pub told_added : (t : TableRows) → s ≡ started app t → (walks : List (List ℕ)) (old new : List Outcome) → IsAdded old new found → AreDistinct old
        → ((w : List ℕ) → IsIn w walks → found_result found ≡ result_of app cs s w → IsShown app t cs old w)
        → AreTold app cs s walks old → AreTold app cs s (found.turns ∷ walks) new
    told_added t is walks [] [] h distinct shown told = absurd h
    told_added t is walks [] (y ∷ []) h distinct shown told = (
      told_first walks y h (λ w there comes. shown w there (sym h.same ∙ comes)),
      tt,
    )
    told_added t is walks [] (y ∷ z ∷ zs) h distinct shown told = absurd h
    told_added t is walks (x ∷ xs) [] h distinct shown told = absurd h
    told_added t is walks (x ∷ xs) (y ∷ ys) (inl h) distinct shown told = (
      told_counted walks x y h.0 told.0,
      subst (AreTold app cs s (found.turns ∷ walks)) (sym h.1) (told_others walks x xs h.0.same distinct.0 told.1),
    )
    told_added t is walks (x ∷ xs) (y ∷ ys) (inr h) distinct shown told = (
      subst (IsTold app cs s (found.turns ∷ walks)) (sym h.0) (told_other found.turns walks x (λ comes. h.1 (comes_found x comes)) told.0),
      told_added t is walks xs ys h.2 distinct.1 (λ w there comes. later w comes (shown w there comes)) told.1,
    )
      where
        later : (w : List ℕ) → found_result found ≡ result_of app cs s w → IsShown app t cs (x ∷ xs) w → IsShown app t cs xs w
        later w comes (inl here) = absurd (h.1 (subst (λ (u : State). ComesTo app cs u x w) (sym is) here ∙ sym comes))
        later w comes (inr there) = there
