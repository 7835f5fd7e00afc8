-- The own row of a service, as a change of the tables.
use Rattle.std.specs.Prelude.{◌≡◌, refl, Option, Some, None}
use Rattle.kdcs_types.specs.declared.key.Key.TheVariants as key
use Rattle.kdcs_types.specs.declared.key.ServiceId.{ServiceId}
use Rattle.kdcs_types.specs.declared.service.Service.{Service}
use Rattle.kdcs_types.specs.Tables.{change_key}
use Rattle.abstract_monitor.specs.Endings.{service_change}

-- the change has the key of the service
pub own_key : (id : ServiceId) (began : Option Service) → change_key (service_change id began) ≡ key.Service id
own_key id None = refl
own_key id (Some row) = refl
