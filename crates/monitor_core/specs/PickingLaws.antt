-- What a free task takes by the parts is what it takes in their state.
use Rattle.std.specs.Prelude.{◌≡◌, refl, ◌-◌, ℕ, Bool, true, false, cond, not, ◌&&◌, IsTrue, List, [], ◌∷◌, map, filter, find as find_first, IfSome, Option, Some, None, is_some, nat_le, option_map}
use Rattle.std.specs.Prelude.{if◌then◌else◌}
use Rattle.std.proofs.Common.{ap, sym, subst, ◌∙◌, true≢false}
use Rattle.std.specs.Cmp.{eq_by_cmp_equiv}
use Rattle.std.specs.FinMap.Entries.{below_all}
use Rattle.std.specs.Ordering.{is_eq, is_lt}
use Rattle.std.specs.declared.cmp.Ordering.{Ordering}
use Rattle.std.specs.declared.cmp.Ordering.TheVariants.{Less, Equal, Greater}
use Rattle.kd_base.specs.ToolsLaws.{both_true, some_is}
use Rattle.application_types.specs.Generation.{Generated}
use Rattle.kdcs_types.specs.declared.key.ServiceId.{ServiceId}
use Rattle.kdcs_types.specs.declared.key.Target.{Target}
use Rattle.kdcs_types.specs.declared.key.Target.TheVariants.{Tac, Lterm}
use Rattle.kdcs_types.specs.declared.service.Job.{Job}
use Rattle.kdcs_types.specs.Keyed.{ascends, item_at, keyed}
use Rattle.kdcs_types.specs.Keys.{id_eq, key_cmp, key_eq}
use Rattle.kdcs_types.specs.KeyLaws.{key_eq_itself, key_total}
use Rattle.kdcs_types.specs.Tables.{job_key, job_of}
use Rattle.open_transaction.specs.MarksLaws.{first_due_of}
use Rattle.open_transaction.specs.Queue.{first_due, untaken}
use Rattle.abstract_monitor.specs.declared.work.Work.{Work}
use Rattle.abstract_monitor.specs.declared.work.Work.TheVariants as work
use Rattle.abstract_monitor.specs.Bytes.{Bytes}
use Rattle.abstract_monitor.specs.Picks.{Classed, classed, due_job, earlier_of, free_jobs, is_earlier, is_free, least_job, pick, pick_by as state_pick_by, pick_work, service_is_allowed}
use Rattle.abstract_monitor.specs.Picks.{target_is_allowed}
use Rattle.abstract_monitor.specs.State.{Application, State}
use Rattle.abstract_monitor.specs.Turns.{with_task}
use Rattle.service_ends.specs.Schedule.{Schedule, pick_by, pick_queued, picked, picked_by, service_in, took_job, took_service}
use Rattle.service_ends.specs.declared.core_state.parts.MonitorParts.{MonitorParts}
use Rattle.service_ends.specs.ChangesLaws.{each_set, each_where, map_set, ready_without}
use Rattle.service_ends.specs.KeptLaws.{scheduled, with_schedule}
use Rattle.service_ends.specs.Standing.{Each, HasClass, IsIndexed, PlaceHasClass, active_of, id_of, state_of}
use Rattle.service_ends.specs.Whole.{app_of}

-- ---- the lists with classes

module _ (app : Application) (s : State) where
  ready_same : (es : List Classed) → Each (HasClass app.generation s.active) es → es ≡ map (classed app s) (map id_of es)
  ready_same [] h = refl
  ready_same (e ∷ es) h = λ i. (e.0, h.0 i) ∷ ready_same es h.1 i

  place_same : (place : Option Classed) → IfSome place (HasClass app.generation s.active) → place ≡ option_map (classed app s) (service_in place)
  place_same None h = refl
  place_same (Some e) h = λ i. Some (e.0, h i)

  places_same : (places : List (Option Classed)) → Each (PlaceHasClass app.generation s.active) places → places ≡ map (option_map (classed app s)) (map service_in places)
  places_same [] h = refl
  places_same (place ∷ places) h = λ i. place_same place h.0 i ∷ places_same places h.1 i

-- what the parts give a free task
abbrev pub pick_of : MonitorParts → Option Work
pick_of p = pick_queued p.generation p.scheduler.ready p.scheduler.places p.tables.clock p.jobs

-- the due job of those that no open service has taken
abbrev due_of : MonitorParts → (Target → Bool) → Option Job
due_of p allowed = due_job p.tables.clock allowed (free_jobs (active_of p.active) p.tables.jobs)

-- it is the first due one of the queue
pub first_same : (p : MonitorParts) (allowed : Target → Bool) → IsIndexed p → first_due p.tables.clock allowed p.jobs ≡ option_map untaken (due_of p allowed)
first_same p allowed h = ap (first_due p.tables.clock allowed) h.jobs ∙ first_due_of p.tables.clock allowed (active_of p.active) p.tables.jobs

queued_pick : (o : Option Classed) (q : Option Job) → pick_by o (option_map untaken q) ≡ state_pick_by o q
queued_pick (Some e) q = refl
queued_pick None (Some job) = refl
queued_pick None None = refl

pub picks : (p : MonitorParts) → IsIndexed p → pick_of p ≡ pick (app_of p) (state_of p)
unfolding pick
picks p h =
    let allowed = target_is_allowed p.generation p.scheduler.places in
    let ready = find_first (service_is_allowed p.generation p.scheduler.places) p.scheduler.ready in
    ap (pick_by ready) (first_same p allowed h)
    ∙ queued_pick ready (due_of p allowed)
    ∙ (λ i. pick_work p.generation (ready_same (app_of p) (state_of p) p.scheduler.ready h.ready i) (places_same (app_of p) (state_of p) p.scheduler.places h.places i) p.tables.clock (free_jobs (active_of p.active) p.tables.jobs))

-- ---- a job that is picked

least_each : (P : Job → Type 0) (js : List Job) (j : Job) → Each P js → least_job js ≡ Some j → P j
unfolding least_job
least_each P [] j h is = absurd (true≢false (sym (ap is_some is)))
least_each P (k ∷ ks) j h is = by (least_job ks) is (least_each P ks j h.1)
  where
    by : (o : Option Job) → earlier_of k o ≡ Some j → (o ≡ Some j → P j) → P j
    by None e rest = subst P (some_is k j e) h.0
    by (Some other) e rest = one (is_earlier other k) e
      where
        one : (b : Bool) → Some (if b then other else k) ≡ Some j → P j
        one true f = rest f
        one false f = subst P (some_is k j f) h.0

each_passes : {X : Type 0} (test : X → Bool) (xs : List X) → Each (λ (x : X). test x ≡ true) (filter test xs)
each_passes test [] = tt
each_passes {X} test (x ∷ xs) = by (test x) refl (each_passes test xs)
  where
    by : (b : Bool) → test x ≡ b → Each (λ (y : X). test y ≡ true) (filter test xs) → Each (λ (y : X). test y ≡ true) (cond b (x ∷ filter test xs) (filter test xs))
    by true e rest = (e, rest)
    by false e rest = rest

-- the job is found under its number
abbrev IsFound : List Job → Job → Type 0
IsFound jobs j = item_at job_key (job_key j) jobs ≡ Some j

less : (r : Ordering) → is_lt r ≡ true → is_eq r ≡ false
less Less e = refl
less Equal e = absurd (true≢false (sym e))
less Greater e = refl

later_found : (j : Job) (all ks : List Job) → below_all key_cmp (job_key j) (keyed job_key ks) ≡ true → Each (IsFound all) ks → Each (IsFound (j ∷ all)) ks
later_found j all [] below h = tt
later_found j all (k ∷ ks) below h =
    let parts = both_true (is_lt (key_cmp (job_key j) (job_key k))) (below_all key_cmp (job_key j) (keyed job_key ks)) below in
    let other : key_eq (job_key k) (job_key j) ≡ false = (eq_by_cmp_equiv key_total).symm (job_key k) (job_key j) ∙ less (key_cmp (job_key j) (job_key k)) parts.0 in
    (ap (λ b. cond b (Some j) (item_at job_key (job_key k) all)) other ∙ h.0, later_found j all ks parts.1 h.1)

each_found : (jobs : List Job) → IsTrue (ascends job_key jobs) → Each (IsFound jobs) jobs
each_found [] up = tt
each_found (j ∷ js) up =
    let parts = both_true (below_all key_cmp (job_key j) (keyed job_key js)) (ascends job_key js) up in
    (ap (λ b. cond b (Some j) (item_at job_key (job_key j) js)) (key_eq_itself (job_key j)), later_found j js js parts.0 (each_found js parts.1))

-- a job that a free task may take: no open service has it, and it is for a TAC
pub record IsTakeable (g : Generated) (s : State) (j : Job) : Type 0 where
  pub there : job_of s.tables j.number ≡ Some j.value
  pub free : is_free s.active j ≡ true
  pub tac : Bytes
  pub to : j.value.to ≡ Tac tac

for_tac : (g : Generated) (places : List (Option Classed)) (to : Target) → target_is_allowed g places to ≡ true → (tac : Bytes) × (to ≡ Tac tac)
for_tac g places (Tac tac) h = (tac, refl)
for_tac g places (Lterm lterm) h = absurd (true≢false (sym h))

due_takeable : (g : Generated) (places : List (Option Classed)) (s : State) (j : Job) → IsTrue (ascends job_key s.tables.jobs)
    → due_job s.tables.clock (target_is_allowed g places) (free_jobs s.active s.tables.jobs) ≡ Some j → IsTakeable g s j
due_takeable g places s j up is =
    let due : Job → Bool = λ (k : Job). nat_le k.value.due s.tables.clock && target_is_allowed g places k.value.to in
    let among = free_jobs s.active s.tables.jobs in
    let passes : due j ≡ true = least_each _ (filter due among) j (each_passes due among) is in
    let tac = for_tac g places j.value.to (both_true (nat_le j.value.due s.tables.clock) (target_is_allowed g places j.value.to) passes).1 in
    record {
      there = ap (option_map (λ (k : Job). k.value)) (least_each (IsFound s.tables.jobs) (filter due among) j (each_where _ due among (each_where _ (is_free s.active) s.tables.jobs (each_found s.tables.jobs up))) is);
      free = least_each _ (filter due among) j (each_where _ due among (each_passes (is_free s.active) s.tables.jobs)) is;
      tac = tac.0;
      to = tac.1;
    }

-- ---- what becomes of the places

-- the entry of the ready list has its class
first_each : {X : Type 0} (P : X → Type 0) (test : X → Bool) (xs : List X) (x : X) → Each P xs → find_first test xs ≡ Some x → P x
first_each P test [] x h is = absurd (true≢false (sym (ap is_some is)))
first_each {X} P test (y ∷ ys) x h is = by (test y) is (first_each P test ys x h.1)
  where
    by : (b : Bool) → cond b (Some y) (find_first test ys) ≡ Some x → (find_first test ys ≡ Some x → P x) → P x
    by true e rest = subst P (some_is y x e) h.0
    by false e rest = rest e

-- a ready service, with its class, or a job went to the task
abbrev pub Picked : MonitorParts → (task : ℕ) → Schedule → Option Work → Type 0
Picked p task schedule None = schedule ≡ p.scheduler
Picked p task schedule (Some (work.Service id)) = (class : ℕ) × HasClass p.generation (active_of p.active) (id, class) × (schedule ≡ took_service task (id, class) p.scheduler)
Picked p task schedule (Some (work.Job number)) = (j : Job) × (number ≡ j.number) × IsTakeable p.generation (state_of p) j × (schedule ≡ took_job p.generation task (untaken j) p.scheduler)

pub picked_so : (p : MonitorParts) (task : ℕ) (schedule : Schedule) → IsIndexed p → IsTrue (ascends job_key p.tables.jobs) → schedule ≡ picked p.generation task p.tables.clock p.jobs p.scheduler
    → Picked p task schedule (pick_of p)
picked_so p task schedule h up is =
    subst (λ q. Picked p task schedule (pick_by ready q)) (sym (first_same p allowed h))
    (by ready refl (due_of p allowed) refl (is ∙ ap (λ q. picked_by p.generation task ready q p.scheduler) (first_same p allowed h)))
  where
    allowed : Target → Bool
    allowed = target_is_allowed p.generation p.scheduler.places

    ready : Option Classed
    ready = find_first (service_is_allowed p.generation p.scheduler.places) p.scheduler.ready

    by : (o : Option Classed) → ready ≡ o → (q : Option Job) → due_of p allowed ≡ q → schedule ≡ picked_by p.generation task o (option_map untaken q) p.scheduler → Picked p task schedule (pick_by o (option_map untaken q))
    by (Some e) f q d t = (e.1, first_each (HasClass p.generation (active_of p.active)) (service_is_allowed p.generation p.scheduler.places) p.scheduler.ready e h.ready f, t)
    by None f (Some j) d t = (j, refl, due_takeable p.generation p.scheduler.places (state_of p) j up d, t)
    by None f None d t = t

module _ (p : MonitorParts) (task : ℕ) (schedule : Schedule) (e : Classed) (is : schedule ≡ took_service task e p.scheduler) where
  pub took_indexed : HasClass p.generation (active_of p.active) e → IsIndexed p → IsIndexed (with_schedule p schedule)
  took_indexed class h =
      subst (λ s. IsIndexed (with_schedule p s)) (sym is)
      (scheduled p (took_service task e p.scheduler) h (each_where _ _ p.scheduler.ready h.ready) (each_set _ p.scheduler.places (task - 1) (Some e) class h.places))

  pub took_state : state_of (with_schedule p schedule) ≡ record (with_task (state_of p) task (Some e.0)) { ready = filter (λ (i : ServiceId). not (id_eq e.0 i)) (state_of p).ready }
  took_state =
      ap (λ s. state_of (with_schedule p s)) is
      ∙ (λ i. record (state_of p) { ready = ready_without e.0 p.scheduler.ready i; tasks = map_set service_in p.scheduler.places (task - 1) (Some e) i })
