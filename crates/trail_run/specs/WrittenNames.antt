-- What each state of a run keeps of names and lengths, beside its facts. Each condition is a test, so that all of a list are one.
use Rattle.std.specs.Prelude.{◌≡◌, IsTrue, Bool, ◌&&◌, length, nat_le, Option, Some}
use Rattle.std.specs.List.{list_all}
use Rattle.std.specs.FinMap.{find}
use Rattle.kd_base.specs.Text.{is_name_byte}
use Rattle.kdcs_types.specs.declared.key.Area.{Area}
use Rattle.kdcs_types.specs.declared.key.Area.TheVariants.{Gssb, Tls, Uls}
use Rattle.kdcs_types.specs.declared.key.ServiceId.{ServiceId}
use Rattle.kdcs_types.specs.declared.service.Job.{Job}
use Rattle.kdcs_types.specs.declared.service.JobValue.{JobValue}
use Rattle.kdcs_types.specs.declared.service.Note.{Note}
use Rattle.kdcs_types.specs.declared.service.Note.TheVariants.{Released, Refused}
use Rattle.kdcs_types.specs.declared.service.Service.{Service}
use Rattle.kdcs_types.specs.Keys.{id_cmp}
use Rattle.kdcs_types.specs.Tables.{TableRows}
use Rattle.abstract_monitor.specs.Bytes.{Bytes}
use Rattle.abstract_monitor.specs.Locks.{Active}
use Rattle.abstract_monitor.specs.State.{OpenTransaction, State}
use Rattle.laws_of_states.specs.Replay.{refuses}
use Rattle.laws_of_states.specs.Suits.{fits_content}
use Rattle.laws_of_states.specs.Transactions.{fits_if_there}

-- 1 to 8 bytes of names
abbrev pub is_name : Bytes → Bool
is_name bytes = nat_le 1 (length bytes) && nat_le (length bytes) 8 && list_all is_name_byte bytes

-- a GSSB or an LSSB, by its name and its content
abbrev pub has_name : Bytes × Bytes → Bool
has_name r = is_name r.0

-- a TLS or ULS block, by its names and its content
abbrev pub has_names : Bytes × Bytes × Bytes → Bool
has_names r = is_name r.0 && is_name r.1

-- the names of the LSSBs
abbrev pub has_named_lssbs : Service → Bool
has_named_lssbs s = list_all has_name s.lssbs

-- the number of deliveries has one byte
abbrev pub is_counted : JobValue → Bool
is_counted v = nat_le v.redelivered 255

abbrev pub is_counted_job : Job → Bool
is_counted_job j = is_counted j.value

abbrev pub is_counted_shown : Bytes × JobValue → Bool
is_counted_shown r = is_counted r.1

-- what the rows that suit do not say of themselves
abbrev pub RowsKeepNames : TableRows → Type 0
RowsKeepNames t =
    IsTrue (list_all has_name t.gssbs) × IsTrue (list_all has_names t.tlss) × IsTrue (list_all has_names t.ulss) × IsTrue (list_all has_named_lssbs t.services) × IsTrue (list_all is_counted_job t.jobs) × IsTrue (list_all is_counted_shown t.shown)

-- ---- open transactions

abbrev pub is_named_area : Area → Bool
is_named_area (Gssb name) = is_name name
is_named_area (Tls block lterm) = is_name block && is_name lterm
is_named_area (Uls block user) = is_name block && is_name user

-- an area written, with its last content
abbrev pub is_named_write : Area × Option Bytes → Bool
is_named_write w = is_named_area w.0

-- the area is named, what was seen in it is no longer than a content, and a request was refused with K04 or K05
abbrev pub is_kept_note : Note → Bool
is_kept_note (Released area content) = is_named_area area && fits_if_there content
is_kept_note (Refused area code) = is_named_area area && refuses code

-- areas written and LSSBs have names, and the inputs and what was seen are no longer than a content
abbrev pub KeepsNames : OpenTransaction → Type 0
KeepsNames x = IsTrue (list_all is_named_write x.written) × IsTrue (list_all has_name x.lssbs) × IsTrue (list_all fits_content x.inputs) × IsTrue (list_all is_kept_note x.notes)

abbrev pub AllKeepNames : Active → Type 0
AllKeepNames active = (id : ServiceId) (x : OpenTransaction) → find id_cmp id active ≡ Some x → KeepsNames x

-- ---- states

abbrev pub StateKeepsNames : State → Type 0
StateKeepsNames s = RowsKeepNames s.tables × AllKeepNames s.active
