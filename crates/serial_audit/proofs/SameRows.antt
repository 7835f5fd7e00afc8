-- Rows of services are the same where the test says so.
use Rattle.std.specs.Prelude.{◌≡◌, ◌↔◌, Bool, true, IsTrue, Option, Some}
use Rattle.std.proofs.Common.{sym, ap, ◌∙◌}
use Rattle.kd_base.specs.ToolsLaws.{both_true, some_is, true_both}
use Rattle.kdcs_types.specs.declared.act.Row.TheVariants.{Service as ServiceRow}
use Rattle.kdcs_types.specs.declared.service.Service.{Service}
use Rattle.kdcs_types.specs.KeyLaws.{id_eq_itself}
use Rattle.kdcs_types.specs.Keys.{id_eq}
use Rattle.kdcs_types.specs.Same.{service_eq}
use Rattle.kdcs_types.specs.SameLaws.{row_same_itself, row_same_only}

same_only : (a b : Service) → service_eq a b ≡ true → a ≡ b
same_only a b e = in_row (some_is (ServiceRow a.id a) (ServiceRow a.id b) (row_same_only (Some (ServiceRow a.id a)) (Some (ServiceRow a.id b)) (true_both _ _ (id_eq_itself a.id) e)))
  where
    in_row : ServiceRow a.id a ≡ ServiceRow a.id b → a ≡ b
    in_row e = cc

same_itself : (a : Service) → service_eq a a ≡ true
same_itself a = (both_true (id_eq a.id a.id) (service_eq a a) (row_same_itself (Some (ServiceRow a.id a)))).1

-- what was found is what is asked for, where both rows are the same
pub row_iff : (a b : Service) (r : Bool) (found asked : Option Service) → r ≡ service_eq a b → found ≡ Some a → asked ≡ Some b → IsTrue r ↔ (found ≡ asked)
row_iff a b r found asked e is asks = (
  λ same. is ∙ ap (λ (s : Service). Some s) (same_only a b (sym e ∙ same)) ∙ sym asks,
  λ same. e ∙ ap (service_eq a) (sym (some_is a b (sym is ∙ same ∙ asks))) ∙ same_itself a,
)
