-- Which tables suit a generation. Each condition is a test, so that all of them together are one.
use Rattle.std.specs.Prelude.{◌≡◌, ◌≤◌, IsTrue, ℕ, Bool, true, false, ◌&&◌, not, List, [], ◌∷◌, length, sum_by, nat_le, nat_lt, bytes_eq, is_some, Option, Some, None, ◌==◌}
use Rattle.std.specs.List.{list_all}
use Rattle.kdcs_types.specs.declared.key.ServiceId.{ServiceId}
use Rattle.kdcs_types.specs.declared.key.ServiceId.TheVariants.{Dialogue, Asynchronous}
use Rattle.kdcs_types.specs.declared.key.Target.{Target}
use Rattle.kdcs_types.specs.declared.key.Target.TheVariants.{Tac, Lterm}
use Rattle.kdcs_types.specs.declared.service.Job.{Job}
use Rattle.kdcs_types.specs.declared.service.JobValue.{JobValue}
use Rattle.kdcs_types.specs.declared.service.Service.{Service}
use Rattle.kd_base.specs.Limits.{last_clock, last_next_job}
use Rattle.kdcs_types.specs.Same.{target_eq}
use Rattle.kdcs_types.specs.Tables.{TableRows, service_of}
use Rattle.application_types.specs.declared.kdcdef_types.entry.TacEntry.{TacEntry}
use Rattle.application_types.specs.Generation.{Generated, tac_of, user_of, lterm_of, has_tls, has_uls}
use Rattle.std.specs.FinMap.{is_sorted}
use Rattle.kd_base.specs.Limits.{longest_content}
use Rattle.abstract_monitor.specs.Bytes.{Bytes, bytes_cmp}
use Rattle.abstract_monitor.specs.Outcomes.{same_kind}
use Rattle.abstract_monitor.specs.Calls.{job_target}
use Rattle.abstract_monitor.specs.Charges.{total_charge}
use Rattle.abstract_monitor.specs.Endings.{is_asynchronous, is_durable}

-- the user is declared
abbrev pub is_user : Generated → Bytes → Bool
is_user g user = is_some (user_of g user)

-- the LTERM is declared
abbrev pub is_lterm : Generated → Bytes → Bool
is_lterm g lterm = is_some (lterm_of g lterm)

-- no content of an area is longer
abbrev pub fits_content : Bytes → Bool
fits_content bytes = nat_le (length bytes) longest_content

-- a message has at most NB bytes
abbrev pub fits_message : Generated → Bytes → Bool
fits_message g bytes = nat_le (length bytes) g.limits.nb

-- ---- areas

-- a GSSB
abbrev pub gssb_suits : Bytes × Bytes → Bool
gssb_suits r = fits_content r.1

-- block and LTERM are declared
abbrev pub tls_suits : Generated → Bytes × Bytes × Bytes → Bool
tls_suits g r = has_tls g r.0 && is_lterm g r.1 && fits_content r.2

-- block and user are declared
abbrev pub uls_suits : Generated → Bytes × Bytes × Bytes → Bool
uls_suits g r = has_uls g r.0 && is_user g r.1 && fits_content r.2

-- ---- services

-- a TAC that is not declared has no kind
abbrev pub has_kind_by : Option TacEntry → (asynchronous : Bool) → Bool
has_kind_by None asynchronous = false
has_kind_by (Some t) asynchronous = same_kind asynchronous t.asynchronous

-- the TAC is one of this kind of service
abbrev pub has_kind : Generated → Bytes → (asynchronous : Bool) → Bool
has_kind g tac asynchronous = has_kind_by (tac_of g tac) asynchronous

-- no items
abbrev pub is_empty : {A : Type 0} → List A → Bool
is_empty [] = true
is_empty (x ∷ xs) = false

-- a last message, if there is one
abbrev pub last_fits : Generated → Option Bytes → Bool
last_fits g None = true
last_fits g (Some message) = fits_message g message

-- an awaiting service has a last message and no handed part
abbrev pub awaits_rightly : Service → (awaits : Bool) → Bool
awaits_rightly s true = is_some s.last && is_empty s.handed
awaits_rightly s false = true

-- the LTERM of an asynchronous service is declared
abbrev pub lterm_suits : Generated → Option Bytes → Bool
lterm_suits g None = true
lterm_suits g (Some lterm) = is_lterm g lterm

-- a dialogue service is of its user; an asynchronous one awaits nothing, and has no handed part and no last message
abbrev pub owner_suits : ServiceId → Service → Bool
owner_suits (Dialogue user) s = bytes_eq user s.user
owner_suits (Asynchronous number) s = not s.awaits && is_empty s.handed && not (is_some s.last)

-- every condition on a service's row but RESTART=YES; its LSSBs ascend without repeats
abbrev pub service_suits : Generated → Service → Bool
service_suits g s =
    is_user g s.user && lterm_suits g s.lterm && owner_suits s.id s
    && has_kind g s.first (is_asynchronous s.id) && has_kind g s.next (is_asynchronous s.id)
    && length s.kb == g.limits.kb && nat_le (length s.lssbs) g.limits.lssbs && is_sorted bytes_cmp s.lssbs && list_all (λ (l : Bytes × Bytes). fits_content l.1) s.lssbs
    && awaits_rightly s s.awaits && last_fits g s.last
    && nat_le (length s.handed) 16 && nat_le (sum_by length s.handed) g.limits.nb

-- ---- jobs

-- the greatest clock and the greatest relative time together
abbrev pub last_due : ℕ
last_due = 1000863999998

-- the target is one that a job may have
abbrev pub target_suits : Generated → Target → Option Target → Bool
target_suits g to None = false
target_suits g to (Some found) = target_eq to found

-- the name of a TAC or LTERM
abbrev pub target_name : Target → Bytes
target_name (Tac tac) = tac
target_name (Lterm lterm) = lterm

-- due, user and LTERM of a job or of a shown message
abbrev pub value_suits : Generated → JobValue → Bool
value_suits g v = nat_le v.due last_due && is_user g v.user && is_lterm g v.lterm

-- its target is an LTERM, or an asynchronous TAC with CALL other than NEXT and STATUS=ON
abbrev pub job_suits : Generated → Job → Bool
job_suits g j = value_suits g j.value && fits_message g j.value.message && target_suits g j.value.to (job_target g (target_name j.value.to))

-- its target is its LTERM
abbrev pub shown_suits : Generated → Bytes × JobValue → Bool
shown_suits g r = is_lterm g r.0 && value_suits g r.1 && target_eq r.1.to (Lterm r.0)

-- ---- numbers

-- the number of an asynchronous service is below the next job number
abbrev pub number_is_below : ℕ → ServiceId → Bool
number_is_below next (Dialogue user) = true
number_is_below next (Asynchronous number) = nat_lt number next

-- tables suit a generation
pub record Suits (g : Generated) (t : TableRows) : Type 0 where
  pub clock : t.clock ≤ last_clock
  pub next_job_from_one : 1 ≤ t.next_job
  pub next_job : t.next_job ≤ last_next_job
  pub charge : total_charge g.limits.blksize t ≤ g.limits.pgpool
  pub count : length t.gssbs ≤ g.limits.gssbs
  pub gssbs : IsTrue (list_all gssb_suits t.gssbs)
  pub tlss : IsTrue (list_all (tls_suits g) t.tlss)
  pub ulss : IsTrue (list_all (uls_suits g) t.ulss)
  pub services : IsTrue (list_all (service_suits g) t.services)
  -- a dialogue service is of a user with RESTART=YES
  pub durable : IsTrue (list_all (λ (s : Service). is_durable g s.id) t.services)
  pub jobs : IsTrue (list_all (job_suits g) t.jobs)
  pub shown : IsTrue (list_all (shown_suits g) t.shown)
  -- the numbers of jobs and of asynchronous services are below the next one, and none is both
  pub job_numbers : IsTrue (list_all (λ (j : Job). nat_lt j.number t.next_job) t.jobs)
  pub service_numbers : IsTrue (list_all (λ (s : Service). number_is_below t.next_job s.id) t.services)
  pub apart : IsTrue (list_all (λ (j : Job). not (is_some (service_of t (Asynchronous j.number)))) t.jobs)

-- tables from a file with these limits suit a generation
pub record SuitsFrom (g : Generated) (blksize pgpool : ℕ) (t : TableRows) : Type 0 where
  pub pages : blksize ≡ g.limits.blksize
  pub pool : pgpool ≡ g.limits.pgpool
  pub tables : Suits g t
