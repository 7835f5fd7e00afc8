-- Abnormal ends, signing off, shown messages, ticks and starts leave sound tables, which take no more pages.
use Rattle.std.specs.Prelude.{◌≡◌, refl, ℕ, ◌≤◌, Bool, true, false, cond, ◌&&◌, not, IsTrue, IsSome, List, [], ◌∷◌, length, filter, Option, None, Some, is_some, nat_le, nat_lt, option_map}
use Rattle.std.specs.Prelude.{option_and_then, if◌then◌else◌}
use Rattle.std.proofs.Common.{inl, inr, sym, ap, subst, ◌∙◌, arith, true≢false}
use Rattle.std.specs.List.{list_all}
use Rattle.kd_base.specs.ToolsLaws.{both_true, true_both, some_is}
use Rattle.kdcs_types.specs.declared.key.Key.TheVariants.{Service as ServiceKey, Job as JobKey}
use Rattle.kdcs_types.specs.declared.key.ServiceId.{ServiceId}
use Rattle.kdcs_types.specs.declared.key.ServiceId.TheVariants.{Dialogue, Asynchronous}
use Rattle.kdcs_types.specs.declared.key.Target.{Target}
use Rattle.kdcs_types.specs.declared.key.Target.TheVariants.{Tac, Lterm}
use Rattle.kdcs_types.specs.declared.service.Job.{Job}
use Rattle.kdcs_types.specs.declared.service.JobValue.{JobValue}
use Rattle.kdcs_types.specs.declared.service.Service.{Service}
use Rattle.kdcs_types.specs.Keys.{key_eq}
use Rattle.kdcs_types.specs.Keyed.{item_at, with_item}
use Rattle.kdcs_types.specs.KeyLaws.{key_eq_itself}
use Rattle.kdcs_types.specs.KeyedLaws.{ascends_with, all_with, found_passes}
use Rattle.kd_base.specs.Limits.{last_next_job}
use Rattle.kdcs_types.specs.Same.{target_eq}
use Rattle.kdcs_types.specs.Tables.{TableRows, service_key, job_key, shown_key, with_change}
use Rattle.application_types.specs.declared.kdcdef_types.entry.TacEntry.{TacEntry}
use Rattle.application_types.specs.declared.kdcdef_types.entry.LtermEntry.{LtermEntry}
use Rattle.application_types.specs.Generation.{Generated, tac_of, lterm_of}
use Rattle.abstract_monitor.specs.Bytes.{Bytes}
use Rattle.abstract_monitor.specs.Calls.{target_by, job_target}
use Rattle.abstract_monitor.specs.Charges.{charge_of, service_length, job_length, total_charge}
use Rattle.abstract_monitor.specs.Outcomes.{goes_first}
use Rattle.abstract_monitor.specs.Endings.{with_service, without_job, job_change, with_own_fate, broken, durable}
use Rattle.abstract_monitor.specs.Redelivery.{again, dead_letter_queue, has_dead_letter_queue, dead_letter, fate}
use Rattle.abstract_monitor.specs.Picks.{is_free, free_jobs, is_earlier, earlier_of, least_job}
use Rattle.abstract_monitor.specs.Commands.{is_for, due_for, shown_tables}
use Rattle.abstract_monitor.specs.State.{State}
use Rattle.laws_of_states.specs.JobLaw.{job_with}
use Rattle.laws_of_states.specs.JobLaws.{of_fate}
use Rattle.laws_of_states.specs.Suits.{Suits, is_lterm, value_suits, target_suits, target_name, job_suits, shown_suits}
use Rattle.laws_of_states.specs.PointLaws.{AreSound, TakesNoMore, EndSound, EndsStaySound, SignOffsStaySound, ShowsStaySound, TicksStaySound, StartsAreSound}
use Rattle.laws_of_states.specs.ItemsLaws.{IsIn, in_passes, in_filter, sum_with, sum_without, sum_changed, found_in, job_number}
use Rattle.laws_of_states.specs.ListsLaws.{bytes_eq_itself, sum_filter, filter_passes}
use Rattle.laws_of_states.specs.OpeningsLaws.{job_parts, job_whole}
use Rattle.laws_of_states.specs.SoundRowsLaws.{GoodRows, has_no_service, durable_row, with_shown, with_clock, with_job, some_jobs, some_services, sound, sound_within, good, sum_filters}
use Rattle.std.proofs.lemmas.Slice.Eq.{bytes_eq-Decides}

-- ---- fewer rows

-- the limits and the pages, where the pages are no more
record NoMore (g : Generated) (t u : TableRows) : Type 0 where
  next_job : u.next_job ≡ t.next_job
  gssbs : u.gssbs ≡ t.gssbs
  charge : TakesNoMore g t u

no_more_sound : (g : Generated) (t u : TableRows) → AreSound g t → GoodRows g u → NoMore g t u → EndSound g t u
unfolding durable
no_more_sound g t u s r n =
    let within = sound_within g t s in
    record {
      sound = sound g u r (record {
        next_job = subst (λ k. k ≤ last_next_job) (sym n.next_job) within.next_job;
        charge = omega (arith, n.charge, within.charge);
        count = subst (λ (l : List (Bytes × Bytes)). length l ≤ g.limits.gssbs) (sym n.gssbs) within.count;
      });
      charge = n.charge;
    }

no_more_joins : (g : Generated) (t u w : TableRows) → NoMore g t u → NoMore g u w → NoMore g t w
no_more_joins g t u w a b = record { next_job = b.next_job ∙ a.next_job; gssbs = b.gssbs ∙ a.gssbs; charge = omega (arith, a.charge, b.charge) }

same_no_more : (g : Generated) (t : TableRows) → NoMore g t t
same_no_more g t = record { next_job = refl; gssbs = refl; charge = omega arith }

fewer_services : (g : Generated) (t : TableRows) (q : Service → Bool) → NoMore g t (record t { services = filter q t.services })
unfolding durable total_charge
fewer_services g t q = record {
  next_job = refl;
  gssbs = refl;
  charge = omega (arith, sum_filters (λ (s : Service). charge_of g.limits.blksize (service_length s)) (durable_row g) q t.services);
}

fewer_jobs : (g : Generated) (t : TableRows) (q : Job → Bool) → NoMore g t (record t { jobs = filter q t.jobs })
unfolding durable total_charge
fewer_jobs g t q = record {
  next_job = refl;
  gssbs = refl;
  charge = omega (arith, sum_filter (λ (j : Job). charge_of g.limits.blksize (job_length j.value)) q t.jobs);
}

-- ---- abnormal ends and signing off

-- the dead letter queue is an LTERM of the generation
queue_by : (g : Generated) (l : Option LtermEntry) (t : Option TacEntry) → is_some l ≡ true → IsTrue (target_suits g (Lterm dead_letter_queue) (target_by dead_letter_queue l t))
queue_by g (Some l) t h = refl
queue_by g None t h = absurd (true≢false (sym h))

queue_suits : (g : Generated) → has_dead_letter_queue g ≡ true → IsTrue (target_suits g (Lterm dead_letter_queue) (job_target g dead_letter_queue))
unfolding job_target
queue_suits g h = queue_by g (lterm_of g dead_letter_queue) (tac_of g dead_letter_queue) h

dead_letter_suits : (g : Generated) (number : ℕ) (v : JobValue) → has_dead_letter_queue g ≡ true → IsTrue (job_suits g (job_with number v)) → IsTrue (job_suits g (job_with number (dead_letter v)))
dead_letter_suits g number v h suits =
    let parts = job_parts g (job_with number v) suits in
    job_whole g (job_with number (dead_letter v)) (record { due = parts.due; user = parts.user; lterm = parts.lterm; message = parts.message; target = queue_suits g h })

module _ (g : Generated) (t : TableRows) (r : GoodRows g t) (number : ℕ) where
  abbrev IsGood : TableRows → Type 0
  IsGood u = GoodRows g u × NoMore g t u

  gone_good : IsGood (without_job t number)
  gone_good = (some_jobs g t r (λ (j : Job). not (key_eq (JobKey number) (job_key j))), fewer_jobs g t (λ (j : Job). not (key_eq (JobKey number) (job_key j))))

  module _ (j : Job) (found : item_at job_key (JobKey number) t.jobs ≡ Some j) where
    passes : (p : Job → Bool) → IsTrue (list_all p t.jobs) → IsTrue (p (job_with number j.value))
    passes p all = subst (λ (n : ℕ). IsTrue (p (job_with n j.value))) (job_number number t.jobs j found) (found_passes job_key p (JobKey number) t.jobs j all found)

    -- a job of the same number with a message of the same length
    changed_good : (v : JobValue) → IsTrue (job_suits g (job_with number v)) → job_length v ≡ job_length j.value → IsGood (with_change t (job_change number (Some v)))
    unfolding durable total_charge
    changed_good v suits long = (
      with_job g t r (job_with number v) suits (passes (λ (k : Job). nat_lt k.number t.next_job) r.numbers.0) (passes (has_no_service t.services) r.numbers.2),
      record {
        next_job = refl;
        gssbs = refl;
        charge = omega (
          arith,
          sum_changed job_key (λ (k : Job). charge_of g.limits.blksize (job_length k.value)) (job_with number v) j t.jobs r.jobs.0
              (ap (λ n. key_eq (JobKey number) (JobKey n)) (job_number number t.jobs j found) ∙ key_eq_itself (JobKey number)) (found_in job_key (JobKey number) t.jobs j found) (ap (charge_of g.limits.blksize) long),
        );
      },
    )

    fate_good : IsGood (with_change t (job_change number (fate g j.value)))
    fate_good =
        let suits : IsTrue (job_suits g (job_with number j.value)) = passes (job_suits g) r.jobs.1 in
        of_fate g j.value (λ o. IsGood (with_change t (job_change number o)))
        (changed_good (again j.value) suits refl) (λ h. changed_good (dead_letter j.value) (dead_letter_suits g number j.value h suits) refl) gone_good

own_fate_good : (g : Generated) (t : TableRows) (id : ServiceId) (began : Option Service) → GoodRows g t → GoodRows g (with_own_fate g t id began) × NoMore g t (with_own_fate g t id began)
own_fate_good g t (Dialogue user) began r = (r, same_no_more g t)
own_fate_good g t (Asynchronous number) (Some row) r = (r, same_no_more g t)
own_fate_good g t (Asynchronous number) None r = by (item_at job_key (JobKey number) t.jobs) refl
  where
    by : (o : Option Job) → item_at job_key (JobKey number) t.jobs ≡ o → IsGood g t r number (with_change t (job_change number (option_and_then (fate g) (option_map (λ (j : Job). j.value) o))))
    by None e = gone_good g t r number
    by (Some j) e = fate_good g t r number j e

no_service_good : (g : Generated) (t : TableRows) (id : ServiceId) → GoodRows g t → GoodRows g (with_service t id None) × NoMore g t (with_service t id None)
no_service_good g t id r =
    (some_services g t r (λ (s : Service). not (key_eq (ServiceKey id) (service_key s))), fewer_services g t (λ (s : Service). not (key_eq (ServiceKey id) (service_key s))))

pub ends_stay_sound : EndsStaySound
unfolding broken
ends_stay_sound g t id x s =
    let u = with_own_fate g t id x.began in
    let a = own_fate_good g t id x.began (good g t s) in
    let b = no_service_good g u id a.0 in
    no_more_sound g t (with_service u id None) s b.0 (no_more_joins g t u (with_service u id None) a.1 b.1)

pub sign_offs_stay_sound : SignOffsStaySound
sign_offs_stay_sound g t user s =
    let a = no_service_good g t (Dialogue user) (good g t s) in
    no_more_sound g t (with_service t (Dialogue user) None) s a.0 a.1

-- ---- shown messages

least_job_in : (js : List Job) (job : Job) → least_job js ≡ Some job → IsIn job js
unfolding least_job
least_job_in [] job e = absurd cc
least_job_in (j ∷ js) job e = by (least_job js) refl e (least_job_in js)
  where
    by : (o : Option Job) → least_job js ≡ o → earlier_of j o ≡ Some job → ((k : Job) → least_job js ≡ Some k → IsIn k js) → IsIn job (j ∷ js)
    by None is e rest = inl (some_is j job e)
    by (Some other) is e rest = pick (is_earlier other j) e
      where
        pick : (b : Bool) → Some (if b then other else j) ≡ Some job → IsIn job (j ∷ js)
        pick true f = inr (rest job (is ∙ f))
        pick false f = inl (some_is j job f)

-- a due job of an LTERM is one of the tables', and goes to it
pub record IsJobFor (lterm : Bytes) (jobs : List Job) (job : Job) : Type 0 where
  pub there : IsIn job jobs
  pub target : IsTrue (is_for lterm job.value.to)

pub due_job_found : (s : State) (lterm : Bytes) (job : Job) → due_for s lterm ≡ Some job → IsJobFor lterm s.tables.jobs job
due_job_found s lterm job e =
    let free = free_jobs s.active s.tables.jobs in
    let due : Job → Bool = λ (j : Job). nat_le j.value.due s.tables.clock && is_for lterm j.value.to in
    let in_due = least_job_in (filter due free) job e in
    record {
      there = in_filter (is_free s.active) job s.tables.jobs (in_filter due job free in_due);
      target = (both_true (nat_le job.value.due s.tables.clock) (is_for lterm job.value.to) (in_passes due job (filter due free) (filter_passes due free) in_due)).1;
    }

pub for_lterm : (lterm : Bytes) (to : Target) → IsTrue (is_for lterm to) → to ≡ Lterm lterm
for_lterm lterm (Tac tac) h = absurd (true≢false (sym h))
for_lterm lterm (Lterm other) h = ap (λ (n : Bytes). Lterm n) (sym ((bytes_eq-Decides lterm other).0 h))

target_by_lterm : (g : Generated) (lterm : Bytes) (l : Option LtermEntry) (t : Option TacEntry) → IsTrue (target_suits g (Lterm lterm) (target_by lterm l t)) → IsSome l
target_by_lterm g lterm (Some l) t h = refl
target_by_lterm g lterm None None h = absurd (true≢false (sym h))
target_by_lterm g lterm None (Some t) h = by (t.asynchronous && goes_first t.call && t.on) h
  where
    by : (b : Bool) → IsTrue (target_suits g (Lterm lterm) (cond b (Some (Tac lterm)) None)) → false ≡ true
    by true k = absurd (true≢false (sym k))
    by false k = absurd (true≢false (sym k))

lterm_declared : (g : Generated) (lterm : Bytes) → IsTrue (target_suits g (Lterm lterm) (job_target g lterm)) → IsTrue (is_lterm g lterm)
unfolding job_target
lterm_declared g lterm h = target_by_lterm g lterm (lterm_of g lterm) (tac_of g lterm) h

shown_row_suits : (g : Generated) (lterm : Bytes) (job : Job) → IsTrue (job_suits g job) → job.value.to ≡ Lterm lterm → IsTrue (shown_suits g (lterm, job.value))
shown_row_suits g lterm job suits to =
    let parts = job_parts g job suits in
    let value : IsTrue (value_suits g job.value) = true_both _ _ (true_both _ _ parts.due parts.user) parts.lterm in
    let is : IsTrue (is_lterm g lterm) = lterm_declared g lterm (subst (λ (t : Target). IsTrue (target_suits g t (job_target g (target_name t)))) to parts.target) in
    true_both (is_lterm g lterm && value_suits g job.value) (target_eq job.value.to (Lterm lterm)) (true_both (is_lterm g lterm) (value_suits g job.value) is value)
    (ap (λ (t : Target). target_eq t (Lterm lterm)) to ∙ bytes_eq_itself lterm)

shown_charge : (g : Generated) (t : TableRows) (lterm : Bytes) (job : Job) → IsIn job t.jobs → NoMore g t (shown_tables t lterm job)
unfolding durable total_charge
shown_charge g t lterm job there = record {
  next_job = refl;
  gssbs = refl;
  charge = omega (
    arith,
    sum_with shown_key (λ (r : Bytes × JobValue). charge_of g.limits.blksize (job_length r.1)) (lterm, job.value) t.shown,
    sum_without job_key (λ (j : Job). charge_of g.limits.blksize (job_length j.value)) (JobKey job.number) job t.jobs (key_eq_itself (JobKey job.number)) there,
  );
}

pub shows_stay_sound : ShowsStaySound
shows_stay_sound g s lterm job sound_now e =
    let t = s.tables in
    let r = good g t sound_now in
    let is = due_job_found s lterm job e in
    let suits = in_passes (job_suits g) job t.jobs r.jobs.1 is.there in
    let shown = shown_row_suits g lterm job suits (for_lterm lterm job.value.to is.target) in
    let fewer = some_jobs g t r (λ (j : Job). not (key_eq (JobKey job.number) (job_key j))) in
    let rows =
    with_shown g (without_job t job.number) fewer (with_item shown_key (lterm, job.value) t.shown)
    (ascends_with shown_key (lterm, job.value) t.shown r.shown.0, all_with shown_key (shown_suits g) (lterm, job.value) t.shown shown r.shown.1) in
    no_more_sound g t (shown_tables t lterm job) sound_now rows (shown_charge g t lterm job is.there)

-- ---- ticks and starts

pub ticks_stay_sound : TicksStaySound
unfolding durable total_charge
ticks_stay_sound g t clock s h =
    no_more_sound g t (record t { clock = clock }) s (with_clock g t (good g t s) clock h) (record { next_job = refl; gssbs = refl; charge = omega arith })

warm_sound : (g : Generated) (t : TableRows) → AreSound g t → EndSound g t (durable g t)
unfolding durable
warm_sound g t s =
    no_more_sound g t (record t { services = filter (durable_row g) t.services }) s (some_services g t (good g t s) (durable_row g)) (fewer_services g t (durable_row g))

all_durable : (p : Service → Bool) (ss : List Service) → IsTrue (list_all p ss) → filter p ss ≡ ss
all_durable p [] h = refl
all_durable p (s ∷ ss) h =
    let parts = both_true (p s) (list_all p ss) h in
    ap (λ b. cond b (s ∷ filter p ss) (filter p ss)) parts.0 ∙ ap (λ (l : List Service). s ∷ l) (all_durable p ss parts.1)

pub durable_same : (g : Generated) (t : TableRows) → Suits g t → durable g t ≡ t
unfolding durable
durable_same g t s = ap (λ (l : List Service). record t { services = l }) (all_durable (durable_row g) t.services s.durable)

pub starts_are_sound : StartsAreSound
starts_are_sound = record {
  warm = warm_sound;
  suiting = λ g t order s. record { order = order; suits = subst (Suits g) (sym (durable_same g t s)) s; rows = s.services };
}
