-- The jobs that are kept by number: what is found under a number, and what a change there makes of them.
use Rattle.std.proofs.Common.{◌≡◌, inl, inr, refl, ℕ, ◌+◌, ◌<◌, Bool, true, false, cond, IsTrue, List, [], ◌∷◌, map, Some, None, sym, ap, ◌∙◌, arith}
use Rattle.std.specs.Prelude.{◌==◌, nat_lt, not, option_map}
use Rattle.std.specs.List.{insert}
use Rattle.std.proofs.lemmas.Bool.{eq-eqb, eqb-true, lt-ltb}
use Rattle.std.proofs.lemmas.Bool.Decides.{nat_tests}
use Rattle.std.proofs.lemmas.Cmp.{ranked}
use Rattle.std.specs.Cmp.{eq_by_cmp_equiv, nat_cmp_total, unsigned_ties}
use Rattle.std.specs.FinMap.{find, is_sorted, put}
use Rattle.std.specs.FinMap.Entries.{by_order}
use Rattle.std.specs.Ordering.{eq_by_cmp, is_eq, nat_cmp, ordering_reverse}
use Rattle.std.specs.declared.cmp.Ordering.{Ordering}
use Rattle.std.specs.declared.cmp.Ordering.TheVariants.{Less, Equal, Greater}
use Rattle.kd_base.specs.FrontsLaws.{one_add}
use Rattle.kd_base.specs.ToolsLaws.{map_none, some_of}
use Rattle.kd_base.specs.Places.{without}
use Rattle.open_transaction.specs.declared.async_queue.queue.QueuedJob.{QueuedJob}
use Rattle.open_transaction.specs.declared.async_queue.queue.Waiting.{Waiting}
use Rattle.open_transaction.specs.DueIndex.{queue_in, queued}
use Rattle.open_transaction.specs.Queue.{changed, lesser_count, queued_at, with_job, without_job}
use Rattle.kd_base.specs.PlacesLaws.{up_tail}
use Rattle.open_transaction.proofs.async_queue.Finds.{found_cases, none_behind}

abbrev pub Numbered : Type 0
Numbered = List (ℕ × Waiting)

-- the two tests of a number are the same
pub same_test : (a n : ℕ) → (a == n) ≡ eq_by_cmp nat_cmp n a
same_test a n = unsigned_ties a n ∙ (eq_by_cmp_equiv nat_cmp_total).symm a n

pub queued_found : (n : ℕ) (es : Numbered) → queued_at n (queue_in es) ≡ option_map (λ (w : Waiting). queued (n, w)) (find nat_cmp n es)
queued_found n [] = refl
queued_found n (e ∷ es) = by (eq_by_cmp nat_cmp n e.0) (same_test e.0 n) (queued_found n es)
  where
    by : (b : Bool) → (e.0 == n) ≡ b → queued_at n (queue_in es) ≡ option_map (λ (w : Waiting). queued (n, w)) (find nat_cmp n es)
        → queued_at n (queue_in (e ∷ es)) ≡ option_map (λ (w : Waiting). queued (n, w)) (cond b (Some e.1) (find nat_cmp n es))
    by true is rest = ap (λ b. cond b (Some (queued e)) (queued_at n (queue_in es))) is ∙ ap (λ m. Some (queued (m, e.1))) (eqb-true e.0 n is)
    by false is rest = ap (λ b. cond b (Some (queued e)) (queued_at n (queue_in es))) is ∙ rest

-- ---- a number that no job has

some_none : (w : Waiting) → some_of w ≡ None → ⊥
some_none w e = cc

not_below : (a n : ℕ) → n < a → nat_lt a n ≡ false
not_below a n h = grind (arith, nat_tests)

pub changed_none : (n : ℕ) (f : QueuedJob → QueuedJob) (es : Numbered) → find nat_cmp n es ≡ None → queue_in es ≡ map (changed n f) (queue_in es)
changed_none n f [] h = refl
changed_none n f (e ∷ es) h = by (eq_by_cmp nat_cmp n e.0) (same_test e.0 n) h (λ g. changed_none n f es g)
  where
    by : (b : Bool) → (e.0 == n) ≡ b → cond b (Some e.1) (find nat_cmp n es) ≡ None → (find nat_cmp n es ≡ None → queue_in es ≡ map (changed n f) (queue_in es)) → queue_in (e ∷ es) ≡ map (changed n f) (queue_in (e ∷ es))
    by true is g rest = absurd cc
    by false is g rest = sym (ap (λ b. cond b (f (queued e)) (queued e) ∷ map (changed n f) (queue_in es)) is ∙ ap (λ (l : List QueuedJob). queued e ∷ l) (sym (rest g)))

pub with_new : (n : ℕ) (w : Waiting) (es : Numbered) → find nat_cmp n es ≡ None → queue_in (put nat_cmp n w es) ≡ with_job (queued (n, w)) (queue_in es)
with_new n w [] h = refl
with_new n w (e ∷ es) h = by (nat_cmp n e.0) refl (λ g. with_new n w es g)
  where
    from : (b : Bool) → nat_lt e.0 n ≡ b → with_job (queued (n, w)) (queue_in (e ∷ es)) ≡ cond b (queued e ∷ with_job (queued (n, w)) (queue_in es)) (queued (n, w) ∷ queue_in (e ∷ es))
    from true is = ap (λ i. insert (queue_in (e ∷ es)) i (queued (n, w))) (ap (λ b. cond b (1 + lesser_count n (queue_in es)) 0) is ∙ one_add (lesser_count n (queue_in es)))
    from false is = ap (λ i. insert (queue_in (e ∷ es)) i (queued (n, w))) (ap (λ b. cond b (1 + lesser_count n (queue_in es)) 0) is)

    later : is_eq (nat_cmp n e.0) ≡ false → find nat_cmp n es ≡ None
    later apart = sym (ap (λ b. cond b (Some e.1) (find nat_cmp n es)) apart) ∙ h

    by : (r : Ordering) → nat_cmp n e.0 ≡ r → (find nat_cmp n es ≡ None → queue_in (put nat_cmp n w es) ≡ with_job (queued (n, w)) (queue_in es))
        → queue_in (by_order r ((n, w) ∷ e ∷ es) ((e.0, w) ∷ es) (e ∷ put nat_cmp n w es)) ≡ with_job (queued (n, w)) (queue_in (e ∷ es))
    by Less is rest = sym (from false (not_below e.0 n (ranked n e.0 Less (sym is))))
    by Equal is rest = absurd (some_none e.1 (sym (ap (λ r. cond (is_eq r) (Some e.1) (find nat_cmp n es)) is) ∙ h))
    by Greater is rest = ap (λ (l : List QueuedJob). queued e ∷ l) (rest (later (ap is_eq is))) ∙ sym (from true (lt-ltb e.0 n (ranked n e.0 Greater (sym is))))

-- ---- a number that a job has

module _ (n : ℕ) (f : QueuedJob → QueuedJob) (v w : Waiting) (made : f (queued (n, v)) ≡ queued (n, w)) where
  pub with_other : (es : Numbered) → IsTrue (is_sorted nat_cmp es) → find nat_cmp n es ≡ Some v → queue_in (put nat_cmp n w es) ≡ map (changed n f) (queue_in es)
  with_other [] up h = absurd cc
  with_other (e ∷ es) up h =
      elim (found_cases nat_cmp nat_cmp_total e es up n v h) [
        | inl here ↦ ap placed (nat_cmp_total.antisymm n e.0 ∙ ap ordering_reverse here.0) ∙ at_it here.0 here.1
        | inr later ↦ ap placed (nat_cmp_total.antisymm n e.0 ∙ ap ordering_reverse later.0) ∙ after_it later.0 (with_other es (up_tail nat_cmp nat_cmp_total e es up) later.1)
      ]
    where
      placed : Ordering → List QueuedJob
      placed r = queue_in (by_order r ((n, w) ∷ e ∷ es) ((e.0, w) ∷ es) (e ∷ put nat_cmp n w es))

      at_it : nat_cmp e.0 n ≡ Equal → e.1 ≡ v → queued (e.0, w) ∷ queue_in es ≡ map (changed n f) (queue_in (e ∷ es))
      at_it tied value =
          let same : e.0 ≡ n = ranked e.0 n Equal (sym tied) in
          let it : queued e ≡ queued (n, v) = λ i. queued (same i, value i) in
          let rest = changed_none n f es (none_behind nat_cmp nat_cmp_total e es up n tied) in
          (λ i. queued (same i, w) ∷ rest i)
          ∙ ap (λ (q : QueuedJob). q ∷ map (changed n f) (queue_in es)) (sym made ∙ ap f (sym it))
          ∙ ap (λ b. cond b (f (queued e)) (queued e) ∷ map (changed n f) (queue_in es)) (sym (eq-eqb e.0 n same))

      after_it : nat_cmp e.0 n ≡ Less → queue_in (put nat_cmp n w es) ≡ map (changed n f) (queue_in es) → queued e ∷ queue_in (put nat_cmp n w es) ≡ map (changed n f) (queue_in (e ∷ es))
      after_it less rest =
          ap (λ (l : List QueuedJob). queued e ∷ l) rest
          ∙ ap (λ b. cond b (f (queued e)) (queued e) ∷ map (changed n f) (queue_in es)) (sym (same_test e.0 n ∙ ap is_eq (nat_cmp_total.antisymm n e.0 ∙ ap ordering_reverse less)))

pub without_it : (n : ℕ) (es : Numbered) → queue_in (without nat_cmp n es) ≡ without_job n (queue_in es)
without_it n [] = refl
without_it n (e ∷ es) = by (eq_by_cmp nat_cmp n e.0) (same_test e.0 n) (without_it n es)
  where
    by : (b : Bool) → (e.0 == n) ≡ b → queue_in (without nat_cmp n es) ≡ without_job n (queue_in es) → queue_in (cond (not b) (e ∷ without nat_cmp n es) (without nat_cmp n es)) ≡ without_job n (queue_in (e ∷ es))
    by true is rest = rest ∙ ap (λ b. cond (not b) (queued e ∷ without_job n (queue_in es)) (without_job n (queue_in es))) (sym is)
    by false is rest = ap (λ (l : List QueuedJob). queued e ∷ l) rest ∙ ap (λ b. cond (not b) (queued e ∷ without_job n (queue_in es)) (without_job n (queue_in es))) (sym is)

-- ---- in the queue that they are seen as

module _ (n : ℕ) (es : Numbered) (queue : List QueuedJob) (seen : queue_in es ≡ queue) where
  pub job_there : (w : Waiting) → find nat_cmp n es ≡ Some w → queued_at n queue ≡ Some (queued (n, w))
  job_there w there = ap (queued_at n) (sym seen) ∙ queued_found n es ∙ ap (option_map (λ (v : Waiting). queued (n, v))) there

  pub job_absent : find nat_cmp n es ≡ None → queued_at n queue ≡ None
  job_absent none = ap (queued_at n) (sym seen) ∙ queued_found n es ∙ ap (option_map (λ (v : Waiting). queued (n, v))) none

  pub number_absent : queued_at n queue ≡ None → find nat_cmp n es ≡ None
  number_absent none = map_none (λ (v : Waiting). queued (n, v)) (find nat_cmp n es) (sym (queued_found n es) ∙ ap (queued_at n) seen ∙ none)

  pub none_changed : (f : QueuedJob → QueuedJob) → find nat_cmp n es ≡ None → queue_in es ≡ map (changed n f) queue
  none_changed f none = changed_none n f es none ∙ ap (map (changed n f)) seen

  pub job_changed : (f : QueuedJob → QueuedJob) (v w : Waiting) → f (queued (n, v)) ≡ queued (n, w) → IsTrue (is_sorted nat_cmp es) → find nat_cmp n es ≡ Some v → queue_in (put nat_cmp n w es) ≡ map (changed n f) queue
  job_changed f v w made up there = with_other n f v w made es up there ∙ ap (map (changed n f)) seen

  pub job_added : (w : Waiting) → find nat_cmp n es ≡ None → queue_in (put nat_cmp n w es) ≡ with_job (queued (n, w)) queue
  job_added w none = with_new n w es none ∙ ap (with_job (queued (n, w))) seen

  pub job_left : queue_in (without nat_cmp n es) ≡ without_job n queue
  job_left = without_it n es ∙ ap (without_job n) seen
