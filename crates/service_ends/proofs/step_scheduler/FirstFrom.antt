-- The first of the pairs from a key on.
use Rattle.std.specs.Prelude.{◌≡◌, refl, Bool, true, false, cond, not, IsTrue, List, [], ◌∷◌, None, Some}
use Rattle.std.proofs.Common.{ap, sym, subst, ◌∙◌, true≢false}
use Rattle.std.specs.Ordering.{is_eq, is_lt, eq_by_cmp}
use Rattle.std.specs.declared.cmp.Ordering.{Ordering}
use Rattle.std.specs.declared.cmp.Ordering.TheVariants.{Less}
use Rattle.std.specs.Cmp.{IsTotalOrder, tied_itself, Equal-is}
use Rattle.std.specs.FinMap.{find, is_sorted}
use Rattle.std.specs.FinMap.Entries.{below_all}
use Rattle.kd_base.specs.ToolsLaws.{both_true}
use Rattle.kd_base.specs.OrderLaws.{is_less}
use Rattle.kd_base.specs.Places.{from_key}
use Rattle.kd_base.specs.TreeLaws.{none_before}

module _ {K : Type 0} (R : K → K → Ordering) (o : IsTotalOrder R) where
  -- a key that is not below q is no key that is
  apart : (q k x : K) → is_lt (R k q) ≡ false → is_lt (R x q) ≡ true → eq_by_cmp R k x ≡ false
  apart q k x from below = by (eq_by_cmp R k x) refl
    where
      by : (b : Bool) → eq_by_cmp R k x ≡ b → eq_by_cmp R k x ≡ false
      by false e = e
      by true e = absurd (true≢false (sym below ∙ ap is_lt (sym (o.congr k x q ((Equal-is (R k x)).0 e))) ∙ from))

module _ {K X : Type 0} (R : K → K → Ordering) (o : IsTotalOrder R) where
  -- a key below the first one is nowhere
  pub none_ahead : (k : K) (e : K × X) (es : List (K × X)) → R k e.0 ≡ Less → IsTrue (below_all R e.0 es) → find R k (e ∷ es) ≡ None
  none_ahead k e es less below = ap (λ r. cond (is_eq r) (Some e.1) (find R k es)) less ∙ none_before R k e es o less below

  module _ (q : K) where
    skip : (k : K) (e : K × X) (es : List (K × X)) → is_lt (R k q) ≡ false → is_lt (R e.0 q) ≡ true → find R k (e ∷ es) ≡ find R k es
    skip k e es from below = ap (λ b. cond b (Some e.1) (find R k es)) (apart R o q k e.0 from below)

    pub none_from : (k : K) (es : List (K × X)) → from_key R q es ≡ [] → is_lt (R k q) ≡ false → find R k es ≡ None
    none_from k [] none from = refl
    none_from k (e ∷ es) none from = by (is_lt (R e.0 q)) refl none (none_from k es)
      where
        by : (b : Bool) → is_lt (R e.0 q) ≡ b → cond (not b) (e ∷ from_key R q es) (from_key R q es) ≡ []
            → (from_key R q es ≡ [] → is_lt (R k q) ≡ false → find R k es ≡ None) → find R k (e ∷ es) ≡ None
        by true below none rest = skip k e es from below ∙ rest none from
        by false below none rest = absurd cc

    -- it is there, it is not below q, and nothing from q on is below it
    pub record IsFirstFrom (es : List (K × X)) (first : K × X) : Type 0 where
      pub there : find R first.0 es ≡ Some first.1
      pub from : is_lt (R first.0 q) ≡ false
      pub least : (k : K) → is_lt (R k q) ≡ false → is_lt (R k first.0) ≡ true → find R k es ≡ None

    abbrev head_or : K × X → List (K × X) → K × X
    head_or x [] = x
    head_or x (y ∷ ys) = y

    first_here : (e : K × X) (es : List (K × X)) → IsTrue (below_all R e.0 es) → is_lt (R e.0 q) ≡ false → IsFirstFrom (e ∷ es) e
    first_here e es below from = record {
      there = ap (λ r. cond (is_eq r) (Some e.1) (find R e.0 es)) (tied_itself o e.0);
      from = from;
      least = λ k _ less. none_ahead k e es (is_less _ less) below;
    }

    pub first_from : (first : K × X) (rest es : List (K × X)) → from_key R q es ≡ first ∷ rest → IsTrue (is_sorted R es) → IsFirstFrom es first
    first_from first rest [] is up = absurd cc
    first_from first rest (e ∷ es) is up = by (is_lt (R e.0 q)) refl is (λ h. first_from first rest es h parts.1)
      where
        parts : IsTrue (below_all R e.0 es) × IsTrue (is_sorted R es)
        parts = both_true (below_all R e.0 es) (is_sorted R es) up

        by : (b : Bool) → is_lt (R e.0 q) ≡ b → cond (not b) (e ∷ from_key R q es) (from_key R q es) ≡ first ∷ rest → (from_key R q es ≡ first ∷ rest → IsFirstFrom es first) → IsFirstFrom (e ∷ es) first
        by true below is later =
            let h = later is in record {
              there = skip first.0 e es h.from below ∙ h.there;
              from = h.from;
              least = λ k from less. skip k e es from below ∙ h.least k from less;
            }
        by false from is later = subst (IsFirstFrom (e ∷ es)) (ap (head_or first) is) (first_here e es parts.0 from)
