-- What is found in entries in the order of their keys, after one was put in or taken out.
use Rattle.std.specs.Prelude.{◌≡◌, refl, true, false, cond, not, IsTrue, List, [], ◌∷◌, Some, None}
use Rattle.std.proofs.Common.{sym, ap, ◌∙◌}
use Rattle.std.specs.Cmp.{IsTotalOrder, eq_by_cmp_equiv}
use Rattle.std.specs.FinMap.{find, put, is_sorted}
use Rattle.std.specs.FinMap.Entries.{below_all, where_key, find-put, find-where_key, is_sorted-put, is_sorted-where_key}
use Rattle.std.specs.Ordering.{is_eq, is_lt}
use Rattle.std.specs.declared.cmp.Ordering.{Ordering}
use Rattle.std.specs.declared.cmp.Ordering.TheVariants.{Less}
use Rattle.kd_base.specs.ToolsLaws.{both_true}
use Rattle.kdcs_types.specs.declared.key.ServiceId.{ServiceId}
use Rattle.kdcs_types.specs.Keys.{id_cmp, id_eq}
use Rattle.kdcs_types.specs.KeyLaws.{id_total, same_id, id_eq_itself}
use Rattle.kd_base.specs.OrderLaws.{holds, is_true, is_less}

-- what is below all keys is not found
pub none_below : {K X : Type 0} (R : K → K → Ordering) (k : K) (es : List (K × X)) → below_all R k es ≡ true → find R k es ≡ None
none_below R k [] h = refl
none_below R k (e ∷ es) h =
    let parts = both_true (is_lt (R k e.0)) (below_all R k es) h in
    ap (λ r. cond (is_eq r) (Some e.1) (find R k es)) (is_less (R k e.0) parts.0) ∙ none_below R k es parts.1

pub none_before : {K X : Type 0} (R : K → K → Ordering) → IsTotalOrder R → (k x : K) (es : List (K × X)) → R k x ≡ Less → below_all R x es ≡ true → find R k es ≡ None
none_before R total k x [] p h = refl
none_before R total k x (e ∷ es) p h =
    let parts = both_true (is_lt (R x e.0)) (below_all R x es) h in
    let before = total.trans k x e.0 p (is_less (R x e.0) parts.0) in
    ap (λ r. cond (is_eq r) (Some e.1) (find R k es)) before ∙ none_before R total k x es p parts.1

-- ---- by services

module _ {X : Type 0} where
  pub found_put : (id : ServiceId) (x : X) (es : List (ServiceId × X)) → find id_cmp id (put id_cmp id x es) ≡ Some x
  found_put id x es = find-put id_cmp id_total id id x es ∙ ap (λ b. cond b (Some x) (find id_cmp id es)) (id_eq_itself id)

  pub other_put : (i id : ServiceId) (x : X) (es : List (ServiceId × X)) → id_eq i id ≡ false → find id_cmp i (put id_cmp id x es) ≡ find id_cmp i es
  other_put i id x es apart = find-put id_cmp id_total i id x es ∙ ap (λ b. cond b (Some x) (find id_cmp i es)) apart

  find_without : (i id : ServiceId) (es : List (ServiceId × X)) → find id_cmp i (where_key id_cmp (λ j. not (id_eq id j)) es) ≡ cond (not (id_eq id i)) (find id_cmp i es) None
  find_without i id es = find-where_key id_cmp (λ j. not (id_eq id j)) i (λ j e. ap (λ k. not (id_eq id k)) (sym (same_id i j e))) es

  pub found_without : (id : ServiceId) (es : List (ServiceId × X)) → find id_cmp id (where_key id_cmp (λ j. not (id_eq id j)) es) ≡ None
  found_without id es = find_without id id es ∙ ap (λ b. cond (not b) (find id_cmp id es) None) (id_eq_itself id)

  pub other_without : (i id : ServiceId) (es : List (ServiceId × X)) → id_eq i id ≡ false → find id_cmp i (where_key id_cmp (λ j. not (id_eq id j)) es) ≡ find id_cmp i es
  other_without i id es apart = find_without i id es ∙ ap (λ b. cond (not b) (find id_cmp i es) None) ((eq_by_cmp_equiv id_total).symm id i ∙ apart)

  pub sorted_put : (id : ServiceId) (x : X) (es : List (ServiceId × X)) → IsTrue (is_sorted id_cmp es) → IsTrue (is_sorted id_cmp (put id_cmp id x es))
  sorted_put id x es h = is_true _ (is_sorted-put id_cmp id_total id x es (holds _ h))

  pub sorted_without : (id : ServiceId) (es : List (ServiceId × X)) → IsTrue (is_sorted id_cmp es) → IsTrue (is_sorted id_cmp (where_key id_cmp (λ j. not (id_eq id j)) es))
  sorted_without id es h = is_true _ (is_sorted-where_key id_cmp (λ j. not (id_eq id j)) es (holds _ h))
