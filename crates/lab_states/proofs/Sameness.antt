-- What is found the same is the same.
use Rattle.std.specs.Prelude.{◌≡◌, true, Option, Some}
use Rattle.std.proofs.Common.{ap}
use Rattle.kd_base.specs.ToolsLaws.{true_both}
use Rattle.kdcs_types.specs.declared.service.Service.{Service}
use Rattle.kdcs_types.specs.declared.act.Row.{Row}
use Rattle.kdcs_types.specs.declared.act.Row.TheVariants as row
use Rattle.kdcs_types.specs.Keys.{id_eq}
use Rattle.kdcs_types.specs.KeyLaws.{id_eq_itself}
use Rattle.kdcs_types.specs.Same.{service_eq}
use Rattle.kdcs_types.specs.SameLaws.{row_same_only}

-- the service of a row of one
abbrev service_or : Service → Option Row → Service
service_or a (Some (row.Service id b)) = b
service_or a _ = a

pub service_same : (a b : Service) → service_eq a b ≡ true → a ≡ b
service_same a b same =
    ap (service_or a) (row_same_only (Some (row.Service a.id a)) (Some (row.Service a.id b)) (true_both (id_eq a.id a.id) (service_eq a b) (id_eq_itself a.id) same))
