-- Keys ascend where each is greater than the one in front of it.
use Rattle.std.specs.Prelude.{◌≡◌, refl, ℕ, ◌+◌, ◌-◌, ◌<◌, ◌≤◌, Bool, true, false, ◌&&◌, IsTrue, List, [], ◌∷◌, length, drop, get_or}
use Rattle.std.proofs.Common.{sym, ap, ◌∙◌, arith, true≢false, length-drop}
use Rattle.std.proofs.lemmas.List.{drop_more}
use Rattle.std.specs.Cmp.{IsTotalOrder}
use Rattle.std.specs.Ordering.{is_lt}
use Rattle.std.specs.declared.cmp.Ordering.{Ordering}
use Rattle.std.specs.FinMap.{is_sorted}
use Rattle.std.specs.FinMap.Entries.{below_all}
use Rattle.kd_base.specs.ToolsLaws.{both_true, true_both}
use Rattle.kd_base.specs.OrderLaws.{is_less}

joined : (a b c d : Bool) → (IsTrue a → IsTrue c → IsTrue b) → ((a && b) && (c && d)) ≡ (a && (c && d))
joined true true c d h = refl
joined true false true d h = absurd (true≢false (sym (h refl refl)))
joined true false false d h = refl
joined false b c d h = refl

-- each key is greater than the one in front of it
abbrev pub rises : {K V : Type 0} → (K → K → Ordering) → List (K × V) → Bool
rises R [] = true
rises R (e ∷ []) = true
rises R (e ∷ f ∷ es) = is_lt (R e.0 f.0) && rises R (f ∷ es)

module _ {K V : Type 0} (R : K → K → Ordering) (o : IsTotalOrder R) where
  still_below : (j k : K) (es : List (K × V)) → IsTrue (is_lt (R j k)) → IsTrue (below_all R k es) → IsTrue (below_all R j es)
  still_below j k [] h below = refl
  still_below j k (e ∷ es) h below =
      let parts = both_true (is_lt (R k e.0)) (below_all R k es) below in
      true_both (is_lt (R j e.0)) (below_all R j es) (ap is_lt (o.trans j k e.0 (is_less (R j k) h) (is_less (R k e.0) parts.0))) (still_below j k es h parts.1)

  pub rises_is : (es : List (K × V)) → is_sorted R es ≡ rises R es
  rises_is [] = refl
  rises_is (e ∷ []) = refl
  rises_is (e ∷ f ∷ es) =
      joined (is_lt (R e.0 f.0)) (below_all R e.0 es) (below_all R f.0 es) (is_sorted R es) (still_below e.0 f.0 es)
      ∙ ap (λ (b : Bool). is_lt (R e.0 f.0) && b) (rises_is (f ∷ es))

  one_left : (es : List (K × V)) → length es ≤ 1 → rises R es ≡ true
  one_left [] h = refl
  one_left (e ∷ []) h = refl
  one_left (e ∷ f ∷ es) h = absurd (omega (arith, h))

  -- at the place before i
  at_two : (es : List (K × V)) (i : ℕ) (a b : K × V) → 1 ≤ i → i < length es → a ≡ get_or es (i - 1) a → b ≡ get_or es i b → rises R (drop (i - 1) es) ≡ (is_lt (R a.0 b.0) && rises R (drop i es))
  at_two es i a b h k ea eb =
      let back : (i - 1) + 1 ≡ i = omega (arith, h) in
      let first : drop (i - 1) es ≡ a ∷ drop i es = drop_more es (i - 1) a (omega (arith, k)) ∙ (λ j. sym ea j ∷ drop (back j) es) in
      let second : drop i es ≡ b ∷ drop (i + 1) es = drop_more es i b k ∙ (λ j. sym eb j ∷ drop (i + 1) es) in
      ap (rises R) (first ∙ ap (λ (l : List (K × V)). a ∷ l) second)
      ∙ ap (λ (l : List (K × V)). is_lt (R a.0 b.0) && rises R l) (sym second)

  pub both_there : (es : List (K × V)) (i : ℕ) (a b : K × V) → 1 ≤ i → i < length es → a ≡ get_or es (i - 1) a → b ≡ get_or es i b → IsTrue (is_lt (R a.0 b.0)) → rises R (drop (i - 1) es) ≡ rises R es → rises R (drop i es) ≡ rises R es
  both_there es i a b h k ea eb less e = ap (λ (t : Bool). t && rises R (drop i es)) (sym less) ∙ sym (at_two es i a b h k ea eb) ∙ e

  pub falls : (es : List (K × V)) (i : ℕ) (a b : K × V) → 1 ≤ i → i < length es → a ≡ get_or es (i - 1) a → b ≡ get_or es i b → is_lt (R a.0 b.0) ≡ false → rises R (drop (i - 1) es) ≡ rises R es → is_sorted R es ≡ false
  falls es i a b h k ea eb more e = rises_is es ∙ sym e ∙ at_two es i a b h k ea eb ∙ ap (λ (t : Bool). t && rises R (drop i es)) more

  pub all_rise : (es : List (K × V)) (i : ℕ) → 1 ≤ i → length es ≤ i → rises R (drop (i - 1) es) ≡ rises R es → is_sorted R es ≡ true
  all_rise es i h k e = rises_is es ∙ sym e ∙ one_left (drop (i - 1) es) (omega (arith, length-drop (i - 1) es, h, k))
