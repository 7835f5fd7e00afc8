-- What holds of all rows of sound tables, apart from the limits, and which changes of rows keep it.
use Rattle.std.specs.Prelude.{◌≡◌, refl, ℕ, ◌≤◌, Bool, true, false, cond, not, IsTrue, List, [], ◌∷◌, length, filter, sum_by, Option, is_some, nat_lt}
use Rattle.std.proofs.Common.{sym, subst, ◌∙◌, arith, true≢false}
use Rattle.std.proofs.lemmas.List.Sums.{sum_by-cons}
use Rattle.std.specs.List.{list_all}
use Rattle.kd_base.specs.ToolsLaws.{both_true, true_both}
use Rattle.kdcs_types.specs.declared.key.Key.{Key}
use Rattle.kdcs_types.specs.declared.key.Key.TheVariants.{Service as ServiceKey}
use Rattle.kdcs_types.specs.declared.key.ServiceId.{ServiceId}
use Rattle.kdcs_types.specs.declared.key.ServiceId.TheVariants.{Dialogue, Asynchronous}
use Rattle.kdcs_types.specs.declared.service.Job.{Job}
use Rattle.kdcs_types.specs.declared.service.JobValue.{JobValue}
use Rattle.kdcs_types.specs.declared.service.Service.{Service}
use Rattle.kdcs_types.specs.Keyed.{ascends, item_at, with_item}
use Rattle.kdcs_types.specs.KeyedLaws.{ascends_with, all_with}
use Rattle.kd_base.specs.Limits.{last_clock, last_next_job}
use Rattle.kdcs_types.specs.Tables.{TableRows, IsSortedTables, gssb_key, tls_key, uls_key, service_key, job_key, shown_key, is_filled, service_fits}
use Rattle.application_types.specs.Generation.{Generated}
use Rattle.abstract_monitor.specs.Bytes.{Bytes}
use Rattle.abstract_monitor.specs.Charges.{total_charge}
use Rattle.abstract_monitor.specs.Endings.{is_durable, durable}
use Rattle.laws_of_states.specs.Suits.{Suits, gssb_suits, tls_suits, uls_suits, service_suits, job_suits, shown_suits, number_is_below}
use Rattle.laws_of_states.specs.PointLaws.{AreSound}
use Rattle.laws_of_states.specs.ItemsLaws.{ascends_filter, none_filter}
use Rattle.laws_of_states.specs.ListsLaws.{all_imply, all_filter, filter_passes}
use Rattle.laws_of_states.specs.DurableLaws.{durable_service}

-- what holds of the rows of each kind

abbrev pub GssbRows : List (Bytes × Bytes) → Type 0
GssbRows l = IsTrue (ascends gssb_key l) × IsTrue (list_all gssb_suits l)

-- a block is not empty
abbrev pub BlockRows : (Bytes × Bytes × Bytes → Key) → (Bytes × Bytes × Bytes → Bool) → List (Bytes × Bytes × Bytes) → Type 0
BlockRows key_of suits l = IsTrue (ascends key_of l) × IsTrue (list_all (λ (r : Bytes × Bytes × Bytes). is_filled r.2) l) × IsTrue (list_all suits l)

abbrev pub TlsRows : Generated → List (Bytes × Bytes × Bytes) → Type 0
TlsRows g l = BlockRows tls_key (tls_suits g) l

abbrev pub UlsRows : Generated → List (Bytes × Bytes × Bytes) → Type 0
UlsRows g l = BlockRows uls_key (uls_suits g) l

abbrev pub ServiceRows : Generated → List Service → Type 0
ServiceRows g l = IsTrue (ascends service_key l) × IsTrue (list_all service_fits l) × IsTrue (list_all (service_suits g) l)

abbrev pub JobRows : Generated → List Job → Type 0
JobRows g l = IsTrue (ascends job_key l) × IsTrue (list_all (job_suits g) l)

abbrev pub ShownRows : Generated → List (Bytes × JobValue) → Type 0
ShownRows g l = IsTrue (ascends shown_key l) × IsTrue (list_all (shown_suits g) l)

-- no service has the number of a job
abbrev pub has_no_service : List Service → Job → Bool
has_no_service services j = not (is_some (item_at service_key (ServiceKey (Asynchronous j.number)) services))

-- the numbers of jobs and of asynchronous services are below the next one, and none is both
abbrev pub NumbersFit : ℕ → List Job → List Service → Type 0
NumbersFit next jobs services = IsTrue (list_all (λ (j : Job). nat_lt j.number next) jobs) × IsTrue (list_all (λ (s : Service). number_is_below next s.id) services) × IsTrue (list_all (has_no_service services) jobs)

-- every row suits, whether a stop keeps it or not
pub record GoodRows (g : Generated) (t : TableRows) : Type 0 where
  pub clock : t.clock ≤ last_clock
  pub next_job : 1 ≤ t.next_job
  pub gssbs : GssbRows t.gssbs
  pub tlss : TlsRows g t.tlss
  pub ulss : UlsRows g t.ulss
  pub services : ServiceRows g t.services
  pub jobs : JobRows g t.jobs
  pub shown : ShownRows g t.shown
  pub numbers : NumbersFit t.next_job t.jobs t.services

-- no more rows, jobs and pages than the generation allows
pub record IsWithinLimits (g : Generated) (t : TableRows) : Type 0 where
  pub next_job : t.next_job ≤ last_next_job
  pub charge : total_charge g.limits.blksize t ≤ g.limits.pgpool
  pub count : length t.gssbs ≤ g.limits.gssbs

-- ---- a list is another

module _ (g : Generated) (t : TableRows) (r : GoodRows g t) where
  pub with_gssbs : (l : List (Bytes × Bytes)) → GssbRows l → GoodRows g (record t { gssbs = l })
  with_gssbs l fit = record { clock = r.clock; next_job = r.next_job; gssbs = fit; tlss = r.tlss; ulss = r.ulss; services = r.services; jobs = r.jobs; shown = r.shown; numbers = r.numbers }

  pub with_tlss : (l : List (Bytes × Bytes × Bytes)) → TlsRows g l → GoodRows g (record t { tlss = l })
  with_tlss l fit = record { clock = r.clock; next_job = r.next_job; gssbs = r.gssbs; tlss = fit; ulss = r.ulss; services = r.services; jobs = r.jobs; shown = r.shown; numbers = r.numbers }

  pub with_ulss : (l : List (Bytes × Bytes × Bytes)) → UlsRows g l → GoodRows g (record t { ulss = l })
  with_ulss l fit = record { clock = r.clock; next_job = r.next_job; gssbs = r.gssbs; tlss = r.tlss; ulss = fit; services = r.services; jobs = r.jobs; shown = r.shown; numbers = r.numbers }

  pub with_shown : (l : List (Bytes × JobValue)) → ShownRows g l → GoodRows g (record t { shown = l })
  with_shown l fit = record { clock = r.clock; next_job = r.next_job; gssbs = r.gssbs; tlss = r.tlss; ulss = r.ulss; services = r.services; jobs = r.jobs; shown = fit; numbers = r.numbers }

  pub with_clock : (clock : ℕ) → clock ≤ last_clock → GoodRows g (record t { clock = clock })
  with_clock clock h = record { clock = h; next_job = r.next_job; gssbs = r.gssbs; tlss = r.tlss; ulss = r.ulss; services = r.services; jobs = r.jobs; shown = r.shown; numbers = r.numbers }

  pub some_jobs : (q : Job → Bool) → GoodRows g (record t { jobs = filter q t.jobs })
  some_jobs q =
      let jobs : JobRows g (filter q t.jobs) = (ascends_filter job_key q t.jobs r.jobs.0, all_filter (job_suits g) q t.jobs r.jobs.1) in
      let numbers : NumbersFit t.next_job (filter q t.jobs) t.services = (all_filter (λ (j : Job). nat_lt j.number t.next_job) q t.jobs r.numbers.0, r.numbers.1, all_filter (has_no_service t.services) q t.jobs r.numbers.2) in
      record { clock = r.clock; next_job = r.next_job; gssbs = r.gssbs; tlss = r.tlss; ulss = r.ulss; services = r.services; jobs = jobs; shown = r.shown; numbers = numbers }

  pub with_job : (job : Job) → IsTrue (job_suits g job) → IsTrue (nat_lt job.number t.next_job) → IsTrue (has_no_service t.services job) → GoodRows g (record t { jobs = with_item job_key job t.jobs })
  with_job job suits below apart =
      let jobs : JobRows g (with_item job_key job t.jobs) = (ascends_with job_key job t.jobs r.jobs.0, all_with job_key (job_suits g) job t.jobs suits r.jobs.1) in
      let numbers : NumbersFit t.next_job (with_item job_key job t.jobs) t.services =
      (all_with job_key (λ (j : Job). nat_lt j.number t.next_job) job t.jobs below r.numbers.0, r.numbers.1, all_with job_key (has_no_service t.services) job t.jobs apart r.numbers.2) in
      record { clock = r.clock; next_job = r.next_job; gssbs = r.gssbs; tlss = r.tlss; ulss = r.ulss; services = r.services; jobs = jobs; shown = r.shown; numbers = numbers }

  pub some_services : (q : Service → Bool) → GoodRows g (record t { services = filter q t.services })
  some_services q =
      let services : ServiceRows g (filter q t.services) = (ascends_filter service_key q t.services r.services.0, all_filter service_fits q t.services r.services.1, all_filter (service_suits g) q t.services r.services.2) in
      let apart = all_imply (has_no_service t.services) (has_no_service (filter q t.services)) (λ j h. none_filter service_key (ServiceKey (Asynchronous j.number)) q t.services h) t.jobs r.numbers.2 in
      let numbers : NumbersFit t.next_job t.jobs (filter q t.services) = (r.numbers.0, all_filter (λ (s : Service). number_is_below t.next_job s.id) q t.services r.numbers.1, apart) in
      record { clock = r.clock; next_job = r.next_job; gssbs = r.gssbs; tlss = r.tlss; ulss = r.ulss; services = services; jobs = r.jobs; shown = r.shown; numbers = numbers }

  -- the order of the tables
  pub rows_order : IsSortedTables t
  rows_order = record { gssbs = r.gssbs.0; tlss = r.tlss.0; ulss = r.ulss.0; services = r.services.0; jobs = r.jobs.0; shown = r.shown.0; tlss_filled = r.tlss.1; ulss_filled = r.ulss.1; services_fit = r.services.1 }

  -- good rows of durable services alone, within the limits, suit
  rows_suit : IsWithinLimits g t → IsTrue (list_all (λ (s : Service). is_durable g s.id) t.services) → Suits g t
  rows_suit within durable_all = record {
    clock = r.clock;
    next_job_from_one = r.next_job;
    next_job = within.next_job;
    charge = within.charge;
    count = within.count;
    gssbs = r.gssbs.1;
    tlss = r.tlss.2;
    ulss = r.ulss.2;
    services = r.services.2;
    durable = durable_all;
    jobs = r.jobs.1;
    shown = r.shown.1;
    job_numbers = r.numbers.0;
    service_numbers = r.numbers.1;
    apart = r.numbers.2;
  }

-- ---- sound tables

abbrev pub durable_row : Generated → Service → Bool
durable_row g s = is_durable g s.id

pub sound : (g : Generated) (t : TableRows) → GoodRows g t → IsWithinLimits g (durable g t) → AreSound g t
unfolding durable
sound g t r within = record {
  order = rows_order g t r;
  suits = rows_suit g (record t { services = filter (durable_row g) t.services }) (some_services g t r (durable_row g)) within (filter_passes (durable_row g) t.services);
  rows = r.services.2;
}

within_limits : (g : Generated) (t : TableRows) → Suits g t → IsWithinLimits g t
within_limits g t s = record { next_job = s.next_job; charge = s.charge; count = s.count }

pub sound_within : (g : Generated) (t : TableRows) → AreSound g t → IsWithinLimits g (durable g t)
sound_within g t s = within_limits g (durable g t) s.suits

-- asynchronous services are all durable
number_durable : (g : Generated) (next : ℕ) (id : ServiceId) → (IsTrue (is_durable g id) → IsTrue (number_is_below next id)) → IsTrue (number_is_below next id)
number_durable g next (Dialogue user) h = refl
number_durable g next (Asynchronous number) h = h refl

durable_numbers : (g : Generated) (next : ℕ) (ss : List Service) → IsTrue (list_all (λ (s : Service). number_is_below next s.id) (filter (durable_row g) ss)) → IsTrue (list_all (λ (s : Service). number_is_below next s.id) ss)
durable_numbers g next [] h = refl
durable_numbers g next (s ∷ ss) h = by (is_durable g s.id) refl h (durable_numbers g next ss)
  where
    by : (b : Bool) → is_durable g s.id ≡ b → IsTrue (list_all (λ (u : Service). number_is_below next u.id) (cond b (s ∷ filter (durable_row g) ss) (filter (durable_row g) ss)))
        → (IsTrue (list_all (λ (u : Service). number_is_below next u.id) (filter (durable_row g) ss)) → IsTrue (list_all (λ (u : Service). number_is_below next u.id) ss))
        → IsTrue (list_all (λ (u : Service). number_is_below next u.id) (s ∷ ss))
    by true e k rest =
        let parts = both_true (number_is_below next s.id) (list_all (λ (u : Service). number_is_below next u.id) (filter (durable_row g) ss)) k in
        true_both (number_is_below next s.id) (list_all (λ (u : Service). number_is_below next u.id) ss) parts.0 (rest parts.1)
    by false e k rest =
        true_both (number_is_below next s.id) (list_all (λ (u : Service). number_is_below next u.id) ss) (number_durable g next s.id (λ d. absurd (true≢false (sym d ∙ e)))) (rest k)

pub good : (g : Generated) (t : TableRows) → AreSound g t → GoodRows g t
unfolding durable
good g t s =
    let apart = all_imply (has_no_service (durable g t).services) (has_no_service t.services) (λ j h. subst (λ (o : Option Service). IsTrue (not (is_some o))) (durable_service g t j.number) h) t.jobs s.suits.apart in
    record {
      clock = s.suits.clock;
      next_job = s.suits.next_job_from_one;
      gssbs = (s.order.gssbs, s.suits.gssbs);
      tlss = (s.order.tlss, s.order.tlss_filled, s.suits.tlss);
      ulss = (s.order.ulss, s.order.ulss_filled, s.suits.ulss);
      services = (s.order.services, s.order.services_fit, s.rows);
      jobs = (s.order.jobs, s.suits.jobs);
      shown = (s.order.shown, s.suits.shown);
      numbers = (s.suits.job_numbers, durable_numbers g t.next_job t.services s.suits.service_numbers, apart);
    }

-- ---- charges

-- fewer services and jobs take no more pages
pub sum_filters : {X : Type 0} (f : X → ℕ) (d q : X → Bool) (xs : List X) → sum_by f (filter d (filter q xs)) ≤ sum_by f (filter d xs)
sum_filters f d q [] = omega arith
sum_filters {X} f d q (x ∷ xs) = by (q x) (d x) refl (sum_filters f d q xs)
  where
    by : (a b : Bool) → d x ≡ b → sum_by f (filter d (filter q xs)) ≤ sum_by f (filter d xs) → sum_by f (filter d (cond a (x ∷ filter q xs) (filter q xs))) ≤ sum_by f (cond b (x ∷ filter d xs) (filter d xs))
    by true true e h =
        subst (λ c. sum_by f (cond c (x ∷ filter d (filter q xs)) (filter d (filter q xs))) ≤ sum_by f (x ∷ filter d xs)) (sym e)
        (omega (arith, h, sum_by-cons f x (filter d (filter q xs)), sum_by-cons f x (filter d xs)))
    by true false e h = subst (λ c. sum_by f (cond c (x ∷ filter d (filter q xs)) (filter d (filter q xs))) ≤ sum_by f (filter d xs)) (sym e) h
    by false true e h = omega (arith, h, sum_by-cons f x (filter d xs))
    by false false e h = h
