-- Rows that suit have short values, and what they leave of a page pool.
use Rattle.std.specs.Prelude.{ℕ, ◌-◌, ◌^◌, ◌<◌, ◌≤◌, Bool, ◌&&◌, IsTrue, if◌then◌else◌, length, nat_le, Option, Some, None, All}
use Rattle.std.specs.List.{list_all}
use Rattle.kdcs_types.specs.declared.service.Job.{Job}
use Rattle.kdcs_types.specs.declared.service.JobValue.{JobValue}
use Rattle.kdcs_types.specs.declared.service.Service.{Service}
use Rattle.kdcs_types.specs.Tables.{TableRows}
use Rattle.application_types.specs.Generation.{Generated}
use Rattle.abstract_monitor.specs.Bytes.{Bytes}
use Rattle.abstract_monitor.specs.Charges.{job_length, service_length}
use Rattle.abstract_monitor.specs.Endings.{is_asynchronous, is_durable}
use Rattle.laws_of_states.specs.Suits.{gssb_suits, has_kind, is_user, job_suits, lterm_suits, owner_suits, service_suits, shown_suits, tls_suits, uls_suits}

-- the names of a service's row, which are tested first
abbrev pub names_suit : Generated → Service → Bool
names_suit g s = is_user g s.user && lterm_suits g s.lterm && owner_suits s.id s && has_kind g s.first (is_asynchronous s.id) && has_kind g s.next (is_asynchronous s.id)

-- each row by itself suits, and there are not too many GSSBs
pub record RowsSuit (g : Generated) (t : TableRows) : Type 0 where
  pub count : length t.gssbs ≤ g.limits.gssbs
  pub gssbs : IsTrue (list_all gssb_suits t.gssbs)
  pub tlss : IsTrue (list_all (tls_suits g) t.tlss)
  pub ulss : IsTrue (list_all (uls_suits g) t.ulss)
  pub services : IsTrue (list_all (service_suits g) t.services)
  pub durable : IsTrue (list_all (λ (s : Service). is_durable g s.id) t.services)
  pub jobs : IsTrue (list_all (job_suits g) t.jobs)
  pub shown : IsTrue (list_all (shown_suits g) t.shown)

-- the lengths of all values have four bytes
pub record AreShort (t : TableRows) : Type 0 where
  pub gssbs : All (λ (r : Bytes × Bytes). length r.1 < 2 ^ 32) t.gssbs
  pub tlss : All (λ (r : Bytes × Bytes × Bytes). length r.2 < 2 ^ 32) t.tlss
  pub ulss : All (λ (r : Bytes × Bytes × Bytes). length r.2 < 2 ^ 32) t.ulss
  pub services : All (λ (s : Service). service_length s < 2 ^ 32) t.services
  pub jobs : All (λ (j : Job). job_length j.value < 2 ^ 32) t.jobs
  pub shown : All (λ (r : Bytes × JobValue). job_length r.1 < 2 ^ 32) t.shown

-- as many as all pages of the greatest pool have
abbrev pub most_bytes : ℕ
most_bytes = 245760000

-- the message has no more
abbrev pub has_few_bytes : Bytes × JobValue → Bool
has_few_bytes r = nat_le (length r.1.message) most_bytes

-- ---- what is left of the pages

-- the pages that are left, or none where more are taken
abbrev pub left_after : Option ℕ → (taken : ℕ) → Option ℕ
left_after None taken = None
left_after (Some pages) taken = if nat_le taken pages then Some (pages - taken) else None
