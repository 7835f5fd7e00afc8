-- The due job of an LTERM, job by job from the last on.
use Rattle.std.specs.Prelude.{◌≡◌, refl, ℕ, ◌+◌, ◌-◌, ◌<◌, Bool, true, false, cond, List, ◌∷◌, drop, filter, get_or, length, Option, None}
use Rattle.std.proofs.Common.{arith, sym, ap, ◌∙◌}
use Rattle.serial_audit.proofs.Places.{all_dropped, at_place}
use Rattle.kdcs_types.specs.declared.service.Job.{Job}
use Rattle.abstract_monitor.specs.Picks.{least_job}
use Rattle.serial_audit.specs.Due.{earlier_if}

module _ (counts : Job → Bool) where
  least_more : (job : Job) (jobs : List Job) → least_job (filter counts (job ∷ jobs)) ≡ earlier_if (counts job) job (least_job (filter counts jobs))
  unfolding least_job
  least_more job jobs = by (counts job)
    where
      by : (b : Bool) → least_job (cond b (job ∷ filter counts jobs) (filter counts jobs)) ≡ earlier_if b job (least_job (filter counts jobs))
      by true = refl
      by false = refl

  -- no job is behind the last one
  pub none_behind : (jobs : List Job) → None ≡ least_job (filter counts (drop (length jobs - 0) jobs))
  unfolding least_job
  none_behind jobs = sym (ap (λ (l : List Job). least_job (filter counts l)) (all_dropped jobs (length jobs - 0) (omega arith)))

  -- the job before those that were looked at
  pub one_behind : (jobs : List Job) (k : ℕ) (job : Job) (first next : Option Job) → k < length jobs → job ≡ get_or jobs (length jobs - 1 - k) job
      → first ≡ least_job (filter counts (drop (length jobs - k) jobs)) → next ≡ earlier_if (counts job) job first → next ≡ least_job (filter counts (drop (length jobs - (k + 1)) jobs))
  one_behind jobs k job first next lt is before then =
      then ∙ ap (earlier_if (counts job) job) before ∙ sym (least_more job (drop (length jobs - k) jobs))
      ∙ ap (λ (l : List Job). least_job (filter counts l)) (sym behind)
    where
      behind : drop (length jobs - (k + 1)) jobs ≡ job ∷ drop (length jobs - k) jobs
      behind = at_place jobs (length jobs - (k + 1)) (length jobs - k) job (omega (arith, lt)) (omega (arith, lt)) (is ∙ ap (λ (n : ℕ). get_or jobs n job) (omega (arith, lt)))
