-- What is found at a key where pairs get one more, or lose those of a key.
use Rattle.std.proofs.Common.{◌≡◌, ap, sym, ◌∙◌, true, false, cond, not, List, Some, None, ◌⊎◌, inl, inr}
use Rattle.std.proofs.lemmas.Bool.{cases_Bool}
use Rattle.std.proofs.lemmas.Cmp.{nat_list_cmp_total, tied_itself}
use Rattle.std.proofs.lemmas.Option.{none-some}
use Rattle.std.proofs.lemmas.Map.Views.{tells_apart}
use Rattle.std.specs.Ordering.{eq_by_cmp, is_eq}
use Rattle.std.specs.FinMap.{find, put}
use Rattle.std.specs.FinMap.Entries.{find-put, find-where_key}
use Rattle.kd_base.specs.OrderLaws.{tied_is_same}
use Rattle.kd_base.specs.Places.{without}
use Rattle.abstract_monitor.specs.Bytes.{Bytes, bytes_cmp}

-- keys that tie are one
pub tied : (p q : Bytes) → eq_by_cmp bytes_cmp p q ≡ true → p ≡ q
tied = tells_apart tied_is_same

itself : (p : Bytes) → eq_by_cmp bytes_cmp p p ≡ true
itself p = ap is_eq (tied_itself nat_list_cmp_total p)

differs : (p q : Bytes) → (p ≡ q → ⊥) → eq_by_cmp bytes_cmp p q ≡ false
differs p q apart = elim (cases_Bool (eq_by_cmp bytes_cmp p q)) [ inl t ↦ absurd (apart (tied p q t)) | inr f ↦ f ]

pub one_or_other : (p q : Bytes) → (p ≡ q) ⊎ (p ≡ q → ⊥)
one_or_other p q = elim (cases_Bool (eq_by_cmp bytes_cmp p q)) [
  | inl t ↦ inl (tied p q t)
  | inr f ↦ inr (λ e. absurd (let here = sym (itself p) ∙ ap (eq_by_cmp bytes_cmp p) e ∙ f in cc))
]

module _ {X : Type 0} (key : Bytes) (es : List (Bytes × X)) where
  pub put_here : (v : X) → find bytes_cmp key (put bytes_cmp key v es) ≡ Some v
  put_here v = find-put bytes_cmp nat_list_cmp_total key key v es ∙ ap (λ b. cond b (Some v) (find bytes_cmp key es)) (itself key)

  pub put_there : (v : X) (q : Bytes) → (q ≡ key → ⊥) → find bytes_cmp q (put bytes_cmp key v es) ≡ find bytes_cmp q es
  put_there v q apart = find-put bytes_cmp nat_list_cmp_total q key v es ∙ ap (λ b. cond b (Some v) (find bytes_cmp q es)) (differs q key apart)

  left_by : (q : Bytes) → find bytes_cmp q (without bytes_cmp key es) ≡ cond (not (eq_by_cmp bytes_cmp key q)) (find bytes_cmp q es) None
  left_by q = find-where_key bytes_cmp _ q (λ x t. ap (λ k. not (eq_by_cmp bytes_cmp key k)) (sym (tied_is_same q x t))) es

  pub left_here : find bytes_cmp key (without bytes_cmp key es) ≡ None
  left_here = left_by key ∙ ap (λ b. cond (not b) (find bytes_cmp key es) None) (itself key)

  pub left_there : (q : Bytes) → (q ≡ key → ⊥) → find bytes_cmp q (without bytes_cmp key es) ≡ find bytes_cmp q es
  left_there q apart = left_by q ∙ ap (λ b. cond (not b) (find bytes_cmp q es) None) (differs key q (λ e. apart (sym e)))

  pub left_found : (q : Bytes) (v : X) → find bytes_cmp q (without bytes_cmp key es) ≡ Some v → (q ≡ key → ⊥) × (find bytes_cmp q es ≡ Some v)
  left_found q v is =
      elim (one_or_other q key) [
        | inl here ↦ absurd (none-some v (sym left_here ∙ ap (λ k. find bytes_cmp k (without bytes_cmp key es)) (sym here) ∙ is))
        | inr apart ↦ (apart, sym (left_there q apart) ∙ is)
      ]
