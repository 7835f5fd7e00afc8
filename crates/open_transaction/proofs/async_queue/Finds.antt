-- What is found in a list of pairs in ascending order: told from its first pair, by a search for a pair that passes a test,
-- and among the pairs from a key on.
use Rattle.std.proofs.Common.{◌≡◌, ◌⊎◌, inl, inr, refl, Bool, true, false, cond, IsTrue, List, [], ◌∷◌, Option, Some, None, sym, ap, subst, ◌∙◌}
use Rattle.std.specs.Prelude.{not, find as find_first}
use Rattle.std.specs.Cmp.{IsTotalOrder, alike_right, tied_back, tied_itself}
use Rattle.std.specs.FinMap.{IsAntisymmetric, find, is_sorted}
use Rattle.std.specs.FinMap.Entries.{below_all, find-where_key, is_sorted-where_key}
use Rattle.std.specs.Ordering.{eq_by_cmp, is_eq, is_lt, ordering_reverse}
use Rattle.std.specs.declared.cmp.Ordering.{Ordering}
use Rattle.std.specs.declared.cmp.Ordering.TheVariants.{Less, Equal, Greater}
use Rattle.kd_base.specs.OrderLaws.{holds, is_less, is_true}
use Rattle.kd_base.specs.ToolsLaws.{both_true, some_is}
use Rattle.kd_base.specs.Places.{from_key, without}
use Rattle.kd_base.specs.PlacesLaws.{up_head, up_tail}

module _ {K X : Type 0} (R : K → K → Ordering) (o : IsTotalOrder R) where
  -- ---- the first pair

  -- a key that is found is above a bound of all
  found_above : (low k : K) (v : X) (es : List (K × X)) → IsTrue (below_all R low es) → find R k es ≡ Some v → R low k ≡ Less
  found_above low k v [] below h = absurd cc
  found_above low k v (e ∷ es) below h = by (R k e.0) refl (λ g. found_above low k v es (both_true (is_lt (R low e.0)) (below_all R low es) below).1 g)
    where
      later : is_eq (R k e.0) ≡ false → (find R k es ≡ Some v → R low k ≡ Less) → R low k ≡ Less
      later apart rest = rest (sym (ap (λ b. cond b (Some e.1) (find R k es)) apart) ∙ h)

      by : (r : Ordering) → R k e.0 ≡ r → (find R k es ≡ Some v → R low k ≡ Less) → R low k ≡ Less
      by Less is rest = later (ap is_eq is) rest
      by Equal is rest = alike_right o k e.0 low is ∙ is_less _ (both_true (is_lt (R low e.0)) (below_all R low es) below).0
      by Greater is rest = later (ap is_eq is) rest

  module _ (e : K × X) (es : List (K × X)) (up : IsTrue (is_sorted R (e ∷ es))) where
    -- what is found is in the first pair, or behind it
    pub found_cases : (k : K) (v : X) → find R k (e ∷ es) ≡ Some v → ((R e.0 k ≡ Equal) × (e.1 ≡ v)) ⊎ ((R e.0 k ≡ Less) × (find R k es ≡ Some v))
    found_cases k v h = by (R k e.0) refl
      where
        later : is_eq (R k e.0) ≡ false → ((R e.0 k ≡ Equal) × (e.1 ≡ v)) ⊎ ((R e.0 k ≡ Less) × (find R k es ≡ Some v))
        later apart = let rest = sym (ap (λ b. cond b (Some e.1) (find R k es)) apart) ∙ h in inr (found_above e.0 k v es (up_head R o e es up) rest, rest)

        by : (r : Ordering) → R k e.0 ≡ r → ((R e.0 k ≡ Equal) × (e.1 ≡ v)) ⊎ ((R e.0 k ≡ Less) × (find R k es ≡ Some v))
        by Less is = later (ap is_eq is)
        by Equal is = inl (tied_back o k e.0 is, some_is e.1 v (sym (ap (λ r. cond (is_eq r) (Some e.1) (find R k es)) is) ∙ h))
        by Greater is = later (ap is_eq is)

    pub found_later : (k : K) (v : X) → find R k es ≡ Some v → find R k (e ∷ es) ≡ Some v
    found_later k v h = ap (λ r. cond (is_eq r) (Some e.1) (find R k es)) (o.antisymm k e.0 ∙ ap ordering_reverse (found_above e.0 k v es (up_head R o e es up) h)) ∙ h

    pub none_behind : (k : K) → R e.0 k ≡ Equal → find R k es ≡ None
    none_behind k tied = by (find R k es) refl
      where
        less_not_equal : (r : Ordering) → r ≡ Less → r ≡ Equal → ⊥
        less_not_equal r l e = cc

        by : (o : Option X) → find R k es ≡ o → o ≡ None
        by None is = refl
        by (Some v) is = absurd (less_not_equal (R e.0 k) (found_above e.0 k v es (up_head R o e es up) is) tied)

  pub found_here : (e : K × X) (es : List (K × X)) → find R e.0 (e ∷ es) ≡ Some e.1
  found_here e es = ap (λ r. cond (is_eq r) (Some e.1) (find R e.0 es)) (tied_itself o e.0)

  module _ (same : IsAntisymmetric R) (p : K × X → Bool) where
    -- ---- the first pair that passes a test

    pub none_passes : (es : List (K × X)) → IsTrue (is_sorted R es) → find_first p es ≡ None → (k : K) (v : X) → find R k es ≡ Some v → p (k, v) ≡ false
    none_passes [] up h k v there = absurd cc
    none_passes (e ∷ es) up h k v there = by (p e) refl h (λ g f. none_passes es (up_tail R o e es up) g k v f)
      where
        by : (b : Bool) → p e ≡ b → cond b (Some e) (find_first p es) ≡ None → (find_first p es ≡ None → find R k es ≡ Some v → p (k, v) ≡ false) → p (k, v) ≡ false
        by true is g rest = absurd cc
        by false is g rest =
            elim (found_cases e es up k v there) [
              | inl here ↦ ap p (λ i. (sym (same e.0 k here.0) i, sym here.1 i)) ∙ is
              | inr later ↦ rest g later.1
            ]

    -- it passes, and each other pair does not pass or is behind it
    pub record FirstPasses (es : List (K × X)) (e : K × X) : Type 0 where
      pub passes : p e ≡ true
      pub there : find R e.0 es ≡ Some e.1
      pub others : (k : K) (v : X) → find R k es ≡ Some v → (p (k, v) ≡ false) ⊎ ((e.0 ≡ k) × (e.1 ≡ v)) ⊎ (R e.0 k ≡ Less)

    pub first_passes : (es : List (K × X)) (e : K × X) → IsTrue (is_sorted R es) → find_first p es ≡ Some e → FirstPasses es e
    first_passes [] e up h = absurd cc
    first_passes (f ∷ es) e up h = by (p f) refl h (λ g. first_passes es e (up_tail R o f es up) g)
      where
        by : (b : Bool) → p f ≡ b → cond b (Some f) (find_first p es) ≡ Some e → (find_first p es ≡ Some e → FirstPasses es e) → FirstPasses (f ∷ es) e
        by true is g rest =
            subst (FirstPasses (f ∷ es)) (some_is f e g) record {
              passes = is;
              there = found_here f es;
              others = λ k v there. elim (found_cases f es up k v there) [ inl here ↦ inr (inl (same f.0 k here.0, here.1)) | inr later ↦ inr (inr later.0) ];
            }
        by false is g rest =
            let behind = rest g in
            record {
              passes = behind.passes;
              there = found_later f es up e.0 e.1 behind.there;
              others = λ k v there. elim (found_cases f es up k v there) [
                | inl here ↦ inl (ap p (λ i. (sym (same f.0 k here.0) i, sym here.1 i)) ∙ is)
                | inr later ↦ behind.others k v later.1
              ];
            }

  -- ---- the pairs from a key on

  module _ (same : IsAntisymmetric R) (low : K) (es : List (K × X)) where
    from_found : (k : K) → find R k (from_key R low es) ≡ cond (not (is_lt (R k low))) (find R k es) None
    from_found k = find-where_key R (λ x. not (is_lt (R x low))) k (λ x e. ap (λ y. not (is_lt (R y low))) (sym (same k x e))) es

    pub from_up : IsTrue (is_sorted R es) → IsTrue (is_sorted R (from_key R low es))
    from_up up = is_true _ (is_sorted-where_key R (λ x. not (is_lt (R x low))) es (holds _ up))

    pub found_from : (k : K) (v : X) → is_lt (R k low) ≡ false → find R k es ≡ Some v → find R k (from_key R low es) ≡ Some v
    found_from k v h there = from_found k ∙ ap (λ b. cond (not b) (find R k es) None) h ∙ there

    pub from_there : (k : K) (v : X) → find R k (from_key R low es) ≡ Some v → (is_lt (R k low) ≡ false) × (find R k es ≡ Some v)
    from_there k v h = by (is_lt (R k low)) (sym (from_found k) ∙ h)
      where
        by : (b : Bool) → cond (not b) (find R k es) None ≡ Some v → (b ≡ false) × (find R k es ≡ Some v)
        by true e = absurd cc
        by false e = (refl, e)

  -- ---- without a key

  pub found_without : IsAntisymmetric R → (key k : K) (es : List (K × X)) → find R k (without R key es) ≡ cond (not (eq_by_cmp R key k)) (find R k es) None
  found_without same key k es = find-where_key R (λ x. not (eq_by_cmp R key x)) k (λ x e. ap (λ y. not (eq_by_cmp R key y)) (sym (same k x e))) es
