-- What holds of each open transaction between two steps, so that its next statement can be done and its end is one that tables may keep.
use Rattle.std.specs.Prelude.{◌≡◌, ◌≤◌, ℕ, Bool, true, ◌&&◌, IsTrue, List, [], length, sum_by, count_by, nat_le, Option, Some, None, IsSome}
use Rattle.std.specs.List.{list_all}
use Rattle.std.specs.FinMap.{is_sorted}
use Rattle.kdcs_types.specs.declared.key.Area.{Area}
use Rattle.kdcs_types.specs.declared.key.Area.TheVariants.{Gssb, Tls, Uls}
use Rattle.kdcs_types.specs.declared.key.ServiceId.{ServiceId}
use Rattle.kdcs_types.specs.declared.key.ServiceId.TheVariants.{Dialogue, Asynchronous}
use Rattle.kdcs_types.specs.declared.service.Service.{Service}
use Rattle.kdcs_types.specs.Keys.{area_cmp, area_eq}
use Rattle.kdcs_types.specs.Tables.{TableRows, service_of, job_of}
use Rattle.application_types.specs.Generation.{Generated, has_tls, has_uls}
use Rattle.abstract_monitor.specs.declared.draft.Due.{Due}
use Rattle.abstract_monitor.specs.declared.draft.Due.TheVariants.{After, At}
use Rattle.abstract_monitor.specs.declared.draft.Draft.{Draft}
use Rattle.abstract_monitor.specs.Bytes.{Bytes, bytes_cmp}
use Rattle.abstract_monitor.specs.State.{OpenTransaction}
use Rattle.abstract_monitor.specs.Calls.{job_target, touches}
use Rattle.abstract_monitor.specs.Endings.{is_asynchronous, header_of}
use Rattle.laws_of_states.specs.Suits.{is_user, is_lterm, fits_content, fits_message, has_kind, target_suits, target_name}

-- ---- against the tables

-- an asynchronous service without a row is in its first transaction, and its job is in the tables until that ends
abbrev pub HasOwnJob : TableRows → ServiceId → Option Service → Type 0
HasOwnJob t (Dialogue user) began = Unit {0}
HasOwnJob t (Asynchronous number) None = IsSome (job_of t number)
HasOwnJob t (Asynchronous number) (Some row) = Unit {0}

-- the transaction began with its service's row, and the row is still that
pub record IsRooted (t : TableRows) (id : ServiceId) (x : OpenTransaction) : Type 0 where
  pub began : service_of t id ≡ x.began
  pub job : HasOwnJob t id x.began

-- ---- by itself

-- a message: at most 16 parts, of at most NB bytes together
pub record IsMessage (g : Generated) (parts : List Bytes) : Type 0 where
  pub count : length parts ≤ 16
  pub bytes : sum_by length parts ≤ g.limits.nb

-- block and owner of an area are declared
abbrev pub area_is_declared : Generated → Area → Bool
area_is_declared g (Gssb name) = true
area_is_declared g (Tls block lterm) = has_tls g block && is_lterm g lterm
area_is_declared g (Uls block user) = has_uls g block && is_user g user

-- a deleted area has no content
abbrev pub fits_if_there : Option Bytes → Bool
fits_if_there None = true
fits_if_there (Some bytes) = fits_content bytes

-- an area with its last content
abbrev pub written_fits : Generated → Area × Option Bytes → Bool
written_fits g w = area_is_declared g w.0 && fits_if_there w.1

-- the greatest number of ticks that a DPUT can say
abbrev pub last_moment : ℕ
last_moment = 863999999

-- so many ticks as a DPUT can say
abbrev pub due_fits : Due → Bool
due_fits (After ticks) = nat_le ticks last_moment
due_fits (At ticks) = nat_le ticks last_moment

-- a job that the tables may keep, once it is numbered
abbrev pub draft_fits : Generated → Draft → Bool
draft_fits g d = target_suits g d.to (job_target g (target_name d.to)) && fits_message g d.message && due_fits d.due

-- a dialogue service is of its user
abbrev pub IsOwner : ServiceId → Bytes → Type 0
IsOwner (Dialogue owner) user = owner ≡ user
IsOwner (Asynchronous number) user = Unit {0}

-- an asynchronous service puts no message
abbrev pub PutsNone : ServiceId → List Bytes → Type 0
PutsNone (Dialogue user) parts = Unit {0}
PutsNone (Asynchronous number) parts = parts ≡ []

-- the transaction can go on
pub record CanGoOn (g : Generated) (id : ServiceId) (x : OpenTransaction) : Type 0 where
  -- who and where
  pub owner : IsOwner id x.user
  pub user : IsTrue (is_user g x.user)
  pub lterm : IsTrue (is_lterm g x.lterm)
  pub first : IsTrue (has_kind g x.first (is_asynchronous id))
  pub current : IsTrue (has_kind g x.current (is_asynchronous id))
  -- the unit run
  pub header : x.run.header ≡ header_of x.user x.lterm x.first x.current
  pub place : 1 ≤ x.run.place
  pub read_length : x.run.length ≤ 99999
  pub time : x.run.count ≤ x.run.budget
  pub kb : length x.run.kb ≡ g.limits.kb
  pub spab : length x.run.spab ≡ g.limits.spab
  -- messages
  pub unread : IsMessage g x.unread
  pub parts : IsMessage g x.parts
  pub puts : PutsNone id x.parts
  -- areas
  pub written_order : IsTrue (is_sorted area_cmp x.written)
  pub written : IsTrue (list_all (written_fits g) x.written)
  pub written_held : IsTrue (list_all (λ (w : Area × Option Bytes). touches x w.0) x.written)
  pub held_once : (area : Area) → count_by (λ (held : Area). area_eq held area) x.touched ≤ 1
  pub lssbs_order : IsTrue (is_sorted bytes_cmp x.lssbs)
  pub lssbs_count : length x.lssbs ≤ g.limits.lssbs
  pub lssbs : IsTrue (list_all (λ (l : Bytes × Bytes). fits_content l.1) x.lssbs)
  -- jobs
  pub drafts : IsTrue (list_all (draft_fits g) x.drafts)
