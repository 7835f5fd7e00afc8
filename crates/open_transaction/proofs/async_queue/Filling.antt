-- The jobs of tables are put into a queue one after another.
use Rattle.std.proofs.Common.{◌≡◌, refl, ℕ, zero, suc, ◌+◌, ◌<◌, cond, IsTrue, List, [], ◌∷◌, ◌++◌, length, map, take, get_or, None, Some, sym, ap, subst, ◌∙◌, arith}
use Rattle.std.specs.List.{insert}
use Rattle.std.specs.Ordering.{is_lt}
use Rattle.std.specs.FinMap.{is_sorted}
use Rattle.std.specs.FinMap.Entries.{below_all}
use Rattle.std.proofs.lemmas.Bool.{lt-ltb, ne_eqb}
use Rattle.std.proofs.lemmas.List.{map-append, take_more}
use Rattle.kd_base.specs.FrontsLaws.{one_add}
use Rattle.kd_base.specs.ToolsLaws.{both_true}
use Rattle.kdcs_types.specs.declared.key.Key.TheVariants as key
use Rattle.kdcs_types.specs.declared.service.Job.{Job}
use Rattle.kdcs_types.specs.Keyed.{ascends, keyed}
use Rattle.kdcs_types.specs.Keys.{key_cmp}
use Rattle.kdcs_types.specs.KeyLaws.{less_number}
use Rattle.kdcs_types.specs.Tables.{job_key}
use Rattle.open_transaction.specs.declared.async_queue.queue.QueuedJob.{QueuedJob}
use Rattle.open_transaction.specs.Queue.{lesser_count, queued_at, untaken, with_job}

-- all numbers are less
abbrev AreLess : ℕ → List QueuedJob → Type 0
AreLess n [] = Unit {0}
AreLess n (q ∷ qs) = (q.number < n) × AreLess n qs

less_absent : (n : ℕ) (qs : List QueuedJob) → AreLess n qs → queued_at n qs ≡ None
less_absent n [] h = refl
less_absent n (q ∷ qs) h = ap (λ b. cond b (Some q) (queued_at n qs)) (ne_eqb q.number n (λ e. omega (arith, h.0, e))) ∙ less_absent n qs h.1

less_last : (q : QueuedJob) (qs : List QueuedJob) → AreLess q.number qs → with_job q qs ≡ qs ++ q ∷ []
less_last q [] h = refl
less_last q (r ∷ rs) h =
    ap (λ i. insert (r ∷ rs) i q) (ap (λ b. cond b (1 + lesser_count q.number rs) 0) (lt-ltb r.number q.number h.0) ∙ one_add (lesser_count q.number rs))
    ∙ ap (λ (l : List QueuedJob). r ∷ l) (less_last q rs h.1)

-- ---- the jobs of tables

above_at : (n : ℕ) (jobs : List Job) (i : ℕ) (d : Job) → IsTrue (below_all key_cmp (key.Job n) (keyed job_key jobs)) → i < length jobs → n < (get_or jobs i d).number
above_at n [] i d h lt = absurd (omega arith)
above_at n (job ∷ jobs) zero d h lt = less_number n job.number (both_true (is_lt (key_cmp (key.Job n) (job_key job))) (below_all key_cmp (key.Job n) (keyed job_key jobs)) h).0
above_at n (job ∷ jobs) (suc i) d h lt = above_at n jobs i d (both_true (is_lt (key_cmp (key.Job n) (job_key job))) (below_all key_cmp (key.Job n) (keyed job_key jobs)) h).1 (omega arith)

front_less : (jobs : List Job) (i : ℕ) (d : Job) → IsTrue (ascends job_key jobs) → i < length jobs → AreLess ((get_or jobs i d).number) (map untaken (take i jobs))
front_less [] i d up lt = absurd (omega arith)
front_less (job ∷ jobs) zero d up lt = tt
front_less (job ∷ jobs) (suc i) d up lt =
    let parts = both_true (below_all key_cmp (job_key job) (keyed job_key jobs)) (is_sorted key_cmp (keyed job_key jobs)) up in
    (above_at job.number jobs i d parts.0 (omega arith), front_less jobs i d parts.1 (omega arith))

-- the next job of the tables
module _ (jobs : List Job) (i : ℕ) (job : Job) (queue : List QueuedJob) (up : IsTrue (ascends job_key jobs)) (lt : i < length jobs) (is : job ≡ get_or jobs i job) (so_far : queue ≡ map untaken (take i jobs)) where
  less : AreLess job.number queue
  less = subst (AreLess job.number) (sym so_far) (subst (λ (j : Job). AreLess j.number (map untaken (take i jobs))) (sym is) (front_less jobs i job up lt))

  pub next_absent : queued_at job.number queue ≡ None
  next_absent = less_absent job.number queue less

  pub next_last : with_job (untaken job) queue ≡ map untaken (take (i + 1) jobs)
  next_last =
      less_last (untaken job) queue less
      ∙ (λ k. so_far k ++ untaken (is k) ∷ [])
      ∙ sym (map-append untaken (take i jobs) (get_or jobs i job ∷ []))
      ∙ ap (map untaken) (sym (take_more jobs i job lt))
