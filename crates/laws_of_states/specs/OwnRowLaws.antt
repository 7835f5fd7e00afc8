-- Only the own service's row is set or removed, and the row of a service may be there.
use Rattle.std.specs.Prelude.{◌≡◌, refl, ℕ, false, cond, IsTrue, List, [], ◌∷◌, Option, Some, None, IfSome}
use Rattle.std.proofs.Common.{ap, ◌∙◌}
use Rattle.kd_base.specs.ToolsLaws.{true_both}
use Rattle.kdcs_types.specs.declared.key.Area.{Area}
use Rattle.kdcs_types.specs.declared.key.Area.TheVariants.{Gssb, Tls, Uls}
use Rattle.kdcs_types.specs.declared.key.Key.TheVariants.{Service as ServiceKey}
use Rattle.kdcs_types.specs.declared.key.ServiceId.{ServiceId}
use Rattle.kdcs_types.specs.declared.key.ServiceId.TheVariants.{Dialogue, Asynchronous}
use Rattle.kdcs_types.specs.declared.service.JobValue.{JobValue}
use Rattle.kdcs_types.specs.declared.service.Service.{Service}
use Rattle.kdcs_types.specs.Keys.{id_eq}
use Rattle.kdcs_types.specs.Keyed.{item_at}
use Rattle.kdcs_types.specs.KeyedLaws.{found_passes, item_at_with, item_at_without}
use Rattle.kdcs_types.specs.KeyLaws.{id_eq_itself}
use Rattle.kdcs_types.specs.RowLaws.{own_id}
use Rattle.kdcs_types.specs.Tables.{TableRows, IsSortedTables, change_fits, service_fits, service_key, service_of, with_change}
use Rattle.application_types.specs.Generation.{Generated}
use Rattle.abstract_monitor.specs.declared.outcome.Outcome.{Outcome}
use Rattle.abstract_monitor.specs.declared.outcome.Outcome.TheVariants.{Wait, Point, Follow}
use Rattle.abstract_monitor.specs.Bytes.{Bytes}
use Rattle.abstract_monitor.specs.State.{OpenTransaction}
use Rattle.abstract_monitor.specs.Endings.{area_change, service_change, with_areas, with_service, without_own_job, with_own_fate, job_change, with_drafts, row_after, synchronised, broken}
use Rattle.laws_of_states.specs.RowLaw.{PointsSetOwnRow, EndsRemoveOwnRow}

area_same : (t : TableRows) (area : Area) (o : Option Bytes) → (with_change t (area_change area o)).services ≡ t.services
area_same t (Gssb name) None = refl
area_same t (Gssb name) (Some bytes) = refl
area_same t (Tls block lterm) None = refl
area_same t (Tls block lterm) (Some []) = refl
area_same t (Tls block lterm) (Some (c ∷ cs)) = refl
area_same t (Uls block user) None = refl
area_same t (Uls block user) (Some []) = refl
area_same t (Uls block user) (Some (c ∷ cs)) = refl

areas_same : (ws : List (Area × Option Bytes)) (t : TableRows) → (with_areas t ws).services ≡ t.services
unfolding with_areas
areas_same [] t = refl
areas_same (w ∷ ws) t = areas_same ws (with_change t (area_change w.0 w.1)) ∙ area_same t w.0 w.1

own_job_same : (t : TableRows) (id : ServiceId) (began : Option Service) → (without_own_job t id began).services ≡ t.services
own_job_same t (Dialogue user) began = refl
own_job_same t (Asynchronous number) (Some row) = refl
own_job_same t (Asynchronous number) None = refl

fate_same : (t : TableRows) (number : ℕ) (o : Option JobValue) → (with_change t (job_change number o)).services ≡ t.services
fate_same t number None = refl
fate_same t number (Some v) = refl

own_fate_same : (g : Generated) (t : TableRows) (id : ServiceId) (began : Option Service) → (with_own_fate g t id began).services ≡ t.services
own_fate_same g t (Dialogue user) began = refl
own_fate_same g t (Asynchronous number) (Some row) = refl
own_fate_same g t (Asynchronous number) None = fate_same t number _

service_after : (t : TableRows) (id : ServiceId) (row : Option Service) → IfSome row (λ (r : Service). r.id ≡ id) → (other : ServiceId)
    → service_of (with_service t id row) other ≡ cond (id_eq other id) row (service_of t other)
service_after t id None own other = item_at_without service_key (ServiceKey other) (ServiceKey id) t.services
service_after t id (Some row) own other =
    item_at_with service_key (ServiceKey other) row t.services ∙ ap (λ (i : ServiceId). cond (id_eq other i) (Some row) (service_of t other)) own

row_own : (g : Generated) (id : ServiceId) (x : OpenTransaction) (o : Outcome) → IfSome (row_after g id x o) (λ (r : Service). r.id ≡ id)
unfolding row_after
row_own g id x (Wait tac) = refl
row_own g id x (Point tac) = refl
row_own g id x (Follow tac) = refl
row_own g id x _ = tt

abbrev row_in : ServiceId → List Service → Option Service
row_in id rows = item_at service_key (ServiceKey id) rows

pub points_set : PointsSetOwnRow
unfolding synchronised
points_set g t id x o other =
    let u = with_drafts (without_own_job (with_areas t x.written) id x.began) x in
    service_after u id (row_after g id x o) (row_own g id x o) other
    ∙ ap (λ (rows : List Service). cond (id_eq other id) (row_after g id x o) (row_in other rows)) (own_job_same (with_areas t x.written) id x.began ∙ areas_same x.written t)

pub ends_remove : EndsRemoveOwnRow
unfolding broken
ends_remove g t id x other =
    service_after (with_own_fate g t id x.began) id None tt other
    ∙ ap (λ (rows : List Service). cond (id_eq other id) None (row_in other rows)) (own_fate_same g t id x.began)

pub synchronised_other : (g : Generated) (t : TableRows) (id : ServiceId) (x : OpenTransaction) (o : Outcome) (i : ServiceId) → id_eq i id ≡ false
    → service_of (synchronised g t id x o) i ≡ service_of t i
synchronised_other g t id x o i apart = points_set g t id x o i ∙ ap (λ b. cond b (row_after g id x o) (service_of t i)) apart

pub synchronised_own : (g : Generated) (t : TableRows) (id : ServiceId) (x : OpenTransaction) (o : Outcome) → service_of (synchronised g t id x o) id ≡ row_after g id x o
synchronised_own g t id x o = points_set g t id x o id ∙ ap (λ b. cond b (row_after g id x o) (service_of t id)) (id_eq_itself id)

pub broken_other : (g : Generated) (t : TableRows) (id : ServiceId) (x : OpenTransaction) (i : ServiceId) → id_eq i id ≡ false → service_of (broken g t id x) i ≡ service_of t i
broken_other g t id x i apart = ends_remove g t id x i ∙ ap (λ b. cond b None (service_of t i)) apart

pub broken_own : (g : Generated) (t : TableRows) (id : ServiceId) (x : OpenTransaction) → service_of (broken g t id x) id ≡ None
broken_own g t id x = ends_remove g t id x id ∙ ap (λ b. cond b None (service_of t id)) (id_eq_itself id)

-- the row that is there fits, and so does its removal
pub row_there_fits : (t : TableRows) (id : ServiceId) (row : Option Service) → IsSortedTables t → service_of t id ≡ row → IsTrue (change_fits (service_change id row))
row_there_fits t id None sorted e = refl
row_there_fits t id (Some row) sorted e =
    true_both (id_eq row.id id) (service_fits row) (ap (λ i. id_eq i id) (own_id t id row e) ∙ id_eq_itself id)
    (found_passes service_key service_fits (ServiceKey id) t.services row sorted.services_fit e)
