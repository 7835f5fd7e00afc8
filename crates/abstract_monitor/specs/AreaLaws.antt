-- What a transaction writes makes changes that may be made, and leaves tables in order.
use Rattle.std.specs.Prelude.{◌≡◌, refl, ℕ, IsTrue, List, [], ◌∷◌, Option, Some, None}
use Rattle.kdcs_types.specs.declared.act.Change.TheVariants.{Remove}
use Rattle.kdcs_types.specs.declared.key.Area.{Area}
use Rattle.kdcs_types.specs.declared.key.Area.TheVariants.{Gssb, Tls, Uls}
use Rattle.kdcs_types.specs.declared.key.Key.TheVariants.{Job as JobKey}
use Rattle.kdcs_types.specs.declared.key.ServiceId.{ServiceId}
use Rattle.kdcs_types.specs.declared.key.ServiceId.TheVariants.{Dialogue, Asynchronous}
use Rattle.kdcs_types.specs.declared.service.JobValue.{JobValue}
use Rattle.kdcs_types.specs.declared.service.Service.{Service}
use Rattle.kdcs_types.specs.Keys.{area_key}
use Rattle.kdcs_types.specs.RowLaws.{sorted_with_change}
use Rattle.kdcs_types.specs.Tables.{TableRows, IsSortedTables, change_fits, change_key, with_change}
use Rattle.application_types.specs.Generation.{Generated}
use Rattle.abstract_monitor.specs.Bytes.{Bytes}
use Rattle.abstract_monitor.specs.Endings.{area_change, with_areas, without_own_job, job_change, with_own_fate}

-- the change of an area is one of its row, and may be made
pub record IsAreaChange (area : Area) (content : Option Bytes) : Type 0 where
  pub key : change_key (area_change area content) ≡ area_key area
  pub fits : IsTrue (change_fits (area_change area content))

pub area_changes : (area : Area) (content : Option Bytes) → IsAreaChange area content
area_changes (Gssb name) None = record { key = refl; fits = refl }
area_changes (Gssb name) (Some bytes) = record { key = refl; fits = refl }
area_changes (Tls block lterm) None = record { key = refl; fits = refl }
area_changes (Tls block lterm) (Some []) = record { key = refl; fits = refl }
area_changes (Tls block lterm) (Some (c ∷ cs)) = record { key = refl; fits = refl }
area_changes (Uls block user) None = record { key = refl; fits = refl }
area_changes (Uls block user) (Some []) = record { key = refl; fits = refl }
area_changes (Uls block user) (Some (c ∷ cs)) = record { key = refl; fits = refl }

pub areas_sorted : (ws : List (Area × Option Bytes)) (t : TableRows) → IsSortedTables t → IsSortedTables (with_areas t ws)
unfolding with_areas
areas_sorted [] t h = h
areas_sorted (w ∷ ws) t h = areas_sorted ws (with_change t (area_change w.0 w.1)) (sorted_with_change t (area_change w.0 w.1) h (area_changes w.0 w.1).fits)

pub own_job_sorted : (t : TableRows) (id : ServiceId) (began : Option Service) → IsSortedTables t → IsSortedTables (without_own_job t id began)
own_job_sorted t (Dialogue user) began h = h
own_job_sorted t (Asynchronous number) (Some row) h = h
own_job_sorted t (Asynchronous number) None h = sorted_with_change t (Remove (JobKey number)) h refl

pub job_change_fits : (number : ℕ) (o : Option JobValue) → IsTrue (change_fits (job_change number o))
job_change_fits number None = refl
job_change_fits number (Some v) = refl

job_sorted : (t : TableRows) (number : ℕ) (o : Option JobValue) → IsSortedTables t → IsSortedTables (with_change t (job_change number o))
job_sorted t number o h = sorted_with_change t (job_change number o) h (job_change_fits number o)

pub own_fate_sorted : (g : Generated) (t : TableRows) (id : ServiceId) (began : Option Service) → IsSortedTables t → IsSortedTables (with_own_fate g t id began)
own_fate_sorted g t (Dialogue user) began h = h
own_fate_sorted g t (Asynchronous number) (Some row) h = h
own_fate_sorted g t (Asynchronous number) None h = job_sorted t number _ h
