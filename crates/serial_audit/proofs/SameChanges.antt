-- Changes are the same where the test says so.
use Rattle.std.specs.Prelude.{◌≡◌, refl, ◌↔◌, Bool, true, IsTrue, List, [], ◌∷◌, Some}
use Rattle.std.specs.Cmp.Lexicographic.{pointwise}
use Rattle.std.proofs.Common.{sym, ap, ◌∙◌, true≢false}
use Rattle.kd_base.specs.ToolsLaws.{both_true, true_both, some_is}
use Rattle.kdcs_types.specs.declared.act.Change.{Change}
use Rattle.kdcs_types.specs.declared.act.Change.TheVariants.{Set, Remove}
use Rattle.kdcs_types.specs.declared.act.Changes.{Changes}
use Rattle.kdcs_types.specs.KeyLaws.{key_eq_itself, key_eq_same}
use Rattle.kdcs_types.specs.SameLaws.{row_same_itself, row_same_only}
use Rattle.serial_audit.specs.Same.{change_eq}

same_change : (a b : Change) → change_eq a b ≡ true → a ≡ b
same_change (Set a) (Set b) e = ap Set (some_is a b (row_same_only (Some a) (Some b) e))
same_change (Set a) (Remove b) e = absurd (true≢false (sym e))
same_change (Remove a) (Set b) e = absurd (true≢false (sym e))
same_change (Remove a) (Remove b) e = ap Remove (key_eq_same a b e)

change_itself : (a : Change) → change_eq a a ≡ true
change_itself (Set a) = row_same_itself (Some a)
change_itself (Remove a) = key_eq_itself a

same_items : (a b : List Change) → pointwise change_eq a b ≡ true → a ≡ b
same_items [] [] e = refl
same_items [] (y ∷ ys) e = absurd (true≢false (sym e))
same_items (x ∷ xs) [] e = absurd (true≢false (sym e))
same_items (x ∷ xs) (y ∷ ys) e =
    let parts = both_true (change_eq x y) (pointwise change_eq xs ys) e in
    λ i. same_change x y parts.0 i ∷ same_items xs ys parts.1 i

items_themselves : (a : List Change) → pointwise change_eq a a ≡ true
items_themselves [] = refl
items_themselves (x ∷ xs) = true_both _ _ (change_itself x) (items_themselves xs)

-- the same numbers, and items that the test finds the same
pub changes_iff : (a b : Changes) (r : Bool) → a.clock ≡ b.clock → a.next_job ≡ b.next_job → r ≡ pointwise change_eq a.items b.items → IsTrue r ↔ (a ≡ b)
changes_iff a b r clock next e = (only, λ same. e ∙ ap (λ (c : Changes). pointwise change_eq a.items c.items) (sym same) ∙ items_themselves a.items)
  where
    only : IsTrue r → a ≡ b
    only is i = record { clock = clock i; next_job = next i; items = same_items a.items b.items (sym e ∙ is) i }
