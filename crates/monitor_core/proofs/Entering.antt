-- A user who signs on: the row of the service is in order.
use Rattle.std.specs.Prelude.{◌≡◌, Some}
use Rattle.std.proofs.Common.{sym}
use Rattle.std.specs.FinMap.{is_sorted}
use Rattle.kd_base.specs.ToolsLaws.{both_true}
use Rattle.kdcs_types.specs.declared.key.Key.TheVariants as key
use Rattle.kdcs_types.specs.declared.key.ServiceId.{ServiceId}
use Rattle.kdcs_types.specs.declared.service.Service.{Service}
use Rattle.kdcs_types.specs.KeyedLaws.{found_passes}
use Rattle.kdcs_types.specs.Tables.{TableRows, IsSortedTables, lterm_fits, service_fits, service_key, service_of}
use Rattle.abstract_monitor.specs.Bytes.{bytes_cmp}
use Rattle.open_transaction.specs.Transactions.{HasOrder}

pub row_order : (t : TableRows) (id : ServiceId) (row : Service) → IsSortedTables t → Some row ≡ service_of t id → HasOrder (Some row)
row_order t id row h e = (both_true (lterm_fits row.id row.lterm) (is_sorted bytes_cmp row.lssbs) (found_passes service_key service_fits (key.Service id) t.services row h.services_fit (sym e))).1
