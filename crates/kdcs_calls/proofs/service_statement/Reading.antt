-- What an open transaction that can go on may read, of tables whose contents fit, is short.
use Rattle.std.specs.Prelude.{◌≡◌, refl, ℕ, ◌≤◌, IsTrue, Option, None, Some, IfSome, length}
use Rattle.std.proofs.Common.{arith}
use Rattle.std.proofs.lemmas.Bool.{leb-true}
use Rattle.std.proofs.lemmas.List.Sums.{get_or-le-sum_by}
use Rattle.std.specs.FinMap.{find}
use Rattle.kd_base.specs.ToolsLaws.{both_true}
use Rattle.kdcs_types.specs.declared.key.Area.{Area}
use Rattle.kdcs_types.specs.declared.key.ServiceId.{ServiceId}
use Rattle.kdcs_types.specs.Keys.{area_cmp}
use Rattle.kdcs_types.specs.Tables.{TableRows, content_of}
use Rattle.application_types.specs.Generation.{Generated}
use Rattle.kdcs_calls.specs.Calling.{CanRead, IsShort}
use Rattle.laws_of_states.specs.Suits.{fits_content}
use Rattle.laws_of_states.specs.Transactions.{CanGoOn, area_is_declared, fits_if_there, written_fits}
use Rattle.abstract_monitor.specs.Bytes.{Bytes, bytes_cmp}
use Rattle.abstract_monitor.specs.Calls.{shown_by}
use Rattle.abstract_monitor.specs.Locks.{Locks, told_now}
use Rattle.abstract_monitor.specs.State.{OpenTransaction as Transaction}
use Rattle.laws_of_states.specs.ListsLaws.{found_passes}
use Rattle.laws_of_states.specs.OpenLaws.{ToldFits}
use Rattle.kdcs_calls.specs.Stating.{ContentsFit}

short : (o : Option Bytes) → IsTrue (fits_if_there o) → IfSome o IsShort
short None h = tt
short (Some bytes) h = leb-true (length bytes) 32767 h

-- what a statement is told
pub told_short : (l : Locks) (reswait : ℕ) (t : TableRows) (id : ServiceId) (of : Option Area) → ContentsFit t → ToldFits (told_now l reswait t id of)
unfolding told_now
told_short l reswait t id None fits = refl
told_short l reswait t id (Some area) fits = fits area

module _ (g : Generated) (t : TableRows) (id : ServiceId) (x : Transaction) (nb : g.limits.nb ≤ 32767) (fits : ContentsFit t) (can : CanGoOn g id x) where
  area_short : (area : Area) (o : Option (Option Bytes)) → find area_cmp area x.written ≡ o → IfSome (shown_by o (content_of t area)) IsShort
  area_short area None e = short (content_of t area) (fits area)
  area_short area (Some own) e =
      let k = found_passes area_cmp (written_fits g) area x.written own can.written e in
      short own (both_true (area_is_declared g k.0) (fits_if_there own) k.1).1

  local_short : (name : Bytes) (o : Option Bytes) → find bytes_cmp name x.lssbs ≡ o → IfSome o IsShort
  local_short name None e = tt
  local_short name (Some bytes) e = leb-true (length bytes) 32767 (found_passes bytes_cmp (λ (l : Bytes × Bytes). fits_content l.1) name x.lssbs bytes can.lssbs e).1

  pub can_read : CanRead t x
  can_read = record {
    parts = λ k d lt. omega (arith, get_or-le-sum_by length x.unread k d lt, can.unread.bytes);
    areas = λ area. area_short area (find area_cmp area x.written) refl;
    lssbs = λ name. local_short name (find bytes_cmp name x.lssbs) refl;
  }
