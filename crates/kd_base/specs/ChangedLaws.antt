-- Laws: what a change of one key makes of pairs in ascending order, and that what the key had before takes it back.
use Rattle.std.specs.Prelude.{◌≡◌, refl, Bool, true, false, cond, not, IsTrue, List, Option, None, Some}
use Rattle.std.proofs.Common.{ap, sym, ◌∙◌}
use Rattle.std.specs.Ordering.{eq_by_cmp}
use Rattle.std.specs.declared.cmp.Ordering.{Ordering}
use Rattle.std.specs.Cmp.{IsTotalOrder, eq_by_cmp_equiv, Equal-is}
use Rattle.std.specs.FinMap.{find, put, is_sorted, IsAntisymmetric}
use Rattle.std.specs.FinMap.Entries.{find-put, find-where_key, same_entries}
use Rattle.kd_base.specs.OrderLaws.{holds, sorted_put}
use Rattle.kd_base.specs.ToolsLaws.{cond_not}
use Rattle.kd_base.specs.Places.{without}
use Rattle.kd_base.specs.PlacesLaws.{left_sorted}

-- the pairs after the key has this value, or none
abbrev pub with_value : {K X : Type 0} → (K → K → Ordering) → K → Option X → List (K × X) → List (K × X)
with_value R key (Some value) pairs = put R key value pairs
with_value R key None pairs = without R key pairs

module _ {K X : Type 0} (R : K → K → Ordering) (o : IsTotalOrder R) where
  pub with_sorted : (key : K) (value : Option X) (pairs : List (K × X)) → IsTrue (is_sorted R pairs) → IsTrue (is_sorted R (with_value R key value pairs))
  with_sorted key (Some value) pairs up = sorted_put o key value pairs up
  with_sorted key None pairs up = left_sorted R key pairs up

  module _ (same : IsAntisymmetric R) where
    pub find_with : (q key : K) (value : Option X) (pairs : List (K × X)) → find R q (with_value R key value pairs) ≡ cond (eq_by_cmp R q key) value (find R q pairs)
    find_with q key (Some value) pairs = find-put R o q key value pairs
    find_with q key None pairs =
        find-where_key R (λ x. not (eq_by_cmp R key x)) q (λ x e. ap (λ y. not (eq_by_cmp R key y)) (sym (same q x e))) pairs
        ∙ cond_not (eq_by_cmp R key q) (find R q pairs) None
        ∙ ap (λ b. cond b None (find R q pairs)) ((eq_by_cmp_equiv o).symm key q)

    pub changed_back : (key : K) (value : Option X) (pairs : List (K × X)) → IsTrue (is_sorted R pairs) → with_value R key (find R key pairs) (with_value R key value pairs) ≡ pairs
    changed_back key value pairs up =
        let was = find R key pairs in
        let after = with_value R key value pairs in
        let found : (q : K) → find R q (with_value R key was after) ≡ find R q pairs = λ q. find_with q key was after ∙ ap (cond (eq_by_cmp R q key) was) (find_with q key value pairs) ∙ by q (eq_by_cmp R q key) refl in
        same_entries R o same (with_value R key was after) pairs (holds _ (with_sorted key was after (with_sorted key value pairs up))) (holds _ up) found
      where
        by : (q : K) (b : Bool) → eq_by_cmp R q key ≡ b → cond b (find R key pairs) (cond b value (find R q pairs)) ≡ find R q pairs
        by q true e = ap (λ k. find R k pairs) (sym (same q key ((Equal-is (R q key)).0 e)))
        by q false e = refl
