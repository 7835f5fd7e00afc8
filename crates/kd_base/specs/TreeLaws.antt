-- Laws: the changes of a tree are those of pairs in ascending order.
use Rattle.std.specs.Prelude.{◌≡◌, refl, cond, not, IsTrue, List, [], ◌∷◌, Some, None, IsSome}
use Rattle.std.proofs.Common.{ap, subst, sym, ◌∙◌}
use Rattle.std.specs.Ordering.{is_eq, is_lt, eq_by_cmp, match_ordering}
use Rattle.std.specs.declared.cmp.Ordering.{Ordering}
use Rattle.std.specs.declared.cmp.Ordering.TheVariants.{Less, Equal, Greater}
use Rattle.std.specs.Cmp.{IsTotalOrder}
use Rattle.std.specs.FinMap.{find, put, is_sorted}
use Rattle.std.specs.FinMap.Entries.{by_order, below_all}
use Rattle.std.specs.BTreeMap.{insert_entry, is_at}
use Rattle.std.specs.Map.{lookup, remove_entry, set_value}
use Rattle.kd_base.specs.ToolsLaws.{both_true}
use Rattle.kd_base.specs.OrderLaws.{is_less}
use Rattle.kd_base.specs.Places.{without}

none_there : (X : Type 0) {Y : Type 0} → IsSome {T = X} None → Y
none_there X there = absurd cc

module _ {K X : Type 0} (R : K → K → Ordering) where
  pub same_find : (k : K) (es : List (K × X)) → lookup (is_at (R k)) es ≡ find R k es
  same_find k [] = refl
  same_find k (e ∷ es) = ap (cond (eq_by_cmp R k e.0) (Some e.1)) (same_find k es)

  pub same_put : (k : K) (v : X) (es : List (K × X)) → insert_entry R es k v ≡ put R k v es
  same_put k v [] = refl
  same_put k v (e ∷ es) = by (R k e.0) (same_put k v es)
    where
      by : (r : Ordering) → insert_entry R es k v ≡ put R k v es → match_ordering r ((k, v) ∷ e ∷ es) ((e.0, v) ∷ es) (e ∷ insert_entry R es k v) ≡ by_order r ((k, v) ∷ e ∷ es) ((e.0, v) ∷ es) (e ∷ put R k v es)
      by Less rest = refl
      by Equal rest = refl
      by Greater rest = ap (λ (l : List (K × X)). e ∷ l) rest

  absent_after : (k : K) (e : K × X) (es : List (K × X)) → IsTotalOrder R → R k e.0 ≡ Equal → IsTrue (below_all R e.0 es) → without R k es ≡ es
  absent_after k e [] o tied below = refl
  absent_after k e (f ∷ es) o tied below =
      let parts = both_true (is_lt (R e.0 f.0)) (below_all R e.0 es) below in
      ap (λ r. cond (not (is_eq r)) (f ∷ without R k es) (without R k es)) (o.congr k e.0 f.0 tied ∙ is_less _ parts.0)
      ∙ ap (λ (l : List (K × X)). f ∷ l) (absent_after k e es o tied parts.1)

  -- where the keys rise, the entry that goes is the one of this key
  pub same_left : (k : K) (es : List (K × X)) → IsTotalOrder R → IsTrue (is_sorted R es) → remove_entry (is_at (R k)) es ≡ without R k es
  same_left k [] o up = refl
  same_left k (e ∷ es) o up = by (R k e.0) refl (same_left k es o (both_true (below_all R e.0 es) (is_sorted R es) up).1)
    where
      parts : IsTrue (below_all R e.0 es) × IsTrue (is_sorted R es)
      parts = both_true (below_all R e.0 es) (is_sorted R es) up

      by : (r : Ordering) → R k e.0 ≡ r → remove_entry (is_at (R k)) es ≡ without R k es → cond (is_eq r) es (e ∷ remove_entry (is_at (R k)) es) ≡ cond (not (is_eq r)) (e ∷ without R k es) (without R k es)
      by Less is rest = ap (λ (l : List (K × X)). e ∷ l) rest
      by Equal is rest = sym (absent_after k e es o is parts.0)
      by Greater is rest = ap (λ (l : List (K × X)). e ∷ l) rest

  -- a key below the first one is nowhere
  pub none_before : (k : K) (e : K × X) (es : List (K × X)) → IsTotalOrder R → R k e.0 ≡ Less → IsTrue (below_all R e.0 es) → find R k es ≡ None
  none_before k e [] o less below = refl
  none_before k e (f ∷ es) o less below =
      let parts = both_true (is_lt (R e.0 f.0)) (below_all R e.0 es) below in
      ap (λ r. cond (is_eq r) (Some f.1) (find R k es)) (o.trans k e.0 f.0 less (is_less _ parts.0))
      ∙ none_before k e es o less parts.1

  -- another value of a key that is there
  pub same_written : (k : K) (v : X) (es : List (K × X)) → IsTotalOrder R → IsTrue (is_sorted R es) → IsSome (find R k es) → set_value (is_at (R k)) es v ≡ put R k v es
  same_written k v [] o up there = absurd cc
  same_written k v (e ∷ es) o up there = by (R k e.0) refl there (same_written k v es o (both_true (below_all R e.0 es) (is_sorted R es) up).1)
    where
      parts : IsTrue (below_all R e.0 es) × IsTrue (is_sorted R es)
      parts = both_true (below_all R e.0 es) (is_sorted R es) up

      by : (r : Ordering) → R k e.0 ≡ r → IsSome (cond (is_eq r) (Some e.1) (find R k es)) → (IsSome (find R k es) → set_value (is_at (R k)) es v ≡ put R k v es) → cond (is_eq r) ((e.0, v) ∷ es) (e ∷ set_value (is_at (R k)) es v) ≡ by_order r ((k, v) ∷ e ∷ es) ((e.0, v) ∷ es) (e ∷ put R k v es)
      by Less is there rest = none_there X (subst IsSome (none_before k e es o is parts.0) there)
      by Equal is there rest = refl
      by Greater is there rest = ap (λ (l : List (K × X)). e ∷ l) (rest there)
