-- The first of the jobs that are kept by due is the first due one of the queue.
use Rattle.std.proofs.Common.{◌≡◌, ◌⊎◌, inl, inr, refl, ℕ, Bool, true, false, cond, IsTrue, [], ◌∷◌, filter, Option, Some, None, sym, ap, subst, ◌∙◌, arith, true≢false}
use Rattle.std.specs.Cmp.{nat_cmp_total}
use Rattle.std.proofs.lemmas.Cmp.{ranked}
use Rattle.std.specs.FinMap.{find, is_sorted}
use Rattle.std.specs.Ordering.{nat_cmp}
use Rattle.std.specs.declared.cmp.Ordering.TheVariants.{Equal}
use Rattle.kd_base.specs.ToolsLaws.{chosen, some_is}
use Rattle.open_transaction.specs.declared.async_queue.queue.QueuedJob.{QueuedJob}
use Rattle.open_transaction.specs.declared.async_queue.queue.Waiting.{Waiting}
use Rattle.open_transaction.specs.DueIndex.{AreIndexed, IsFirst, IsThere, due_key, key_of, mark_of, queue_in, queued}
use Rattle.open_transaction.specs.DueOrder.{due_eq}
use Rattle.open_transaction.specs.Queue.{is_earlier, least_queued}
use Rattle.kd_base.specs.PlacesLaws.{up_tail}
use Rattle.open_transaction.proofs.async_queue.Finds.{found_cases, found_here, found_later}
use Rattle.open_transaction.proofs.async_queue.Firsts.{Both, IsFrom, first_of_both, first_same, from_it, not_earlier}
use Rattle.open_transaction.proofs.async_queue.Index.{Marked, key_itself, same_key}
use Rattle.open_transaction.proofs.async_queue.Views.{Numbered}

-- a job without its number
abbrev waiting_of : QueuedJob → Waiting
waiting_of q = record { to = q.to; due = q.due; taken = q.taken }

-- it is kept under its number
abbrev IsNumbered : Numbered → QueuedJob → Type 0
IsNumbered es q = find nat_cmp q.number es ≡ Some (waiting_of q)

-- ---- a list of jobs

module _ (e : ℕ × Waiting) (es : Numbered) (up : IsTrue (is_sorted nat_cmp (e ∷ es))) where
  abbrev IsIt : QueuedJob → Type 0
  IsIt q = q ≡ queued e

  joined : (q : QueuedJob) → IsIt q ⊎ IsNumbered es q → IsNumbered (e ∷ es) q
  joined q (inl it) = subst (IsNumbered (e ∷ es)) (sym it) (found_here nat_cmp nat_cmp_total e es)
  joined q (inr later) = found_later nat_cmp nat_cmp_total e es up q.number (waiting_of q) later

  parted : (q : QueuedJob) → IsNumbered (e ∷ es) q → IsIt q ⊎ IsNumbered es q
  parted q h =
      elim (found_cases nat_cmp nat_cmp_total e es up q.number (waiting_of q) h) [
        | inl here ↦ inl (sym (λ i. queued (number here.0 i, here.1 i)))
        | inr later ↦ inr later.1
      ]
    where
      number : nat_cmp e.0 q.number ≡ Equal → e.0 ≡ q.number
      number tied = ranked e.0 q.number Equal (sym tied)

module _ (test : QueuedJob → Bool) where
  first_of_list : (es : Numbered) → IsTrue (is_sorted nat_cmp es) → IsFirst (IsNumbered es) test (least_queued (filter test (queue_in es)))
  first_of_list [] up = λ q there. absurd cc
  first_of_list (e ∷ es) up = by (test (queued e)) refl (first_of_list es (up_tail nat_cmp nat_cmp_total e es up))
    where
      by : (b : Bool) → test (queued e) ≡ b → IsFirst (IsNumbered es) test (least_queued (filter test (queue_in es)))
          → IsFirst (IsNumbered (e ∷ es)) test (least_queued (cond b (queued e ∷ filter test (queue_in es)) (filter test (queue_in es))))
      by true is rest =
          first_same test (Both test (IsIt e es up) (IsNumbered es)) (IsNumbered (e ∷ es)) _ (λ q t b. joined e es up q b) (λ q t n. parted e es up q n)
          (first_of_both test (IsIt e es up) (IsNumbered es) (Some (queued e)) (least_queued (filter test (queue_in es)))
          (refl, is, λ q it t. ap (λ (x : QueuedJob). is_earlier x (queued e)) it ∙ not_earlier (queued e) (queued e) (inr (refl, omega arith))) rest)
      by false is rest =
          first_same test (IsNumbered es) (IsNumbered (e ∷ es)) _ (λ q t n. joined e es up q (inr n))
          (λ q t n. elim (parted e es up q n) [ inl it ↦ absurd (true≢false (sym t ∙ ap test it ∙ is)) | inr later ↦ later ]) rest

  -- ---- there is one first job

  module _ (es : Numbered) where
    same_job : (a b : QueuedJob) → IsNumbered es a → IsNumbered es b → a.number ≡ b.number → a ≡ b
    same_job a b h k e =
        let value = some_is (waiting_of a) (waiting_of b) (sym h ∙ ap (λ n. find nat_cmp n es) e ∙ k) in
        λ i. queued (e i, value i)

    one_number : (a b : QueuedJob) → IsFrom a b → IsFrom b a → a.number ≡ b.number
    one_number a b (inl h) (inl k) = absurd (omega (arith, h, k))
    one_number a b (inl h) (inr k) = absurd (omega (arith, h, k.0))
    one_number a b (inr h) (inl k) = absurd (omega (arith, h.0, k))
    one_number a b (inr h) (inr k) = omega (arith, h.1, k.1)

    one_first : (r s : Option QueuedJob) → IsFirst (IsNumbered es) test r → IsFirst (IsNumbered es) test s → r ≡ s
    one_first None None h k = refl
    one_first None (Some g) h k = absurd (true≢false (sym k.1 ∙ h g k.0))
    one_first (Some f) None h k = absurd (true≢false (sym h.1 ∙ k f h.0))
    one_first (Some f) (Some g) h k =
        ap Some (same_job f g h.0 k.0 (one_number f g (from_it f g (h.2 g k.0 k.1)) (from_it g f (k.2 f h.0 h.1))))

  -- ---- by due and by number

  module _ (es : Numbered) (due : Marked) (h : AreIndexed es due) where
    of_there : (q : QueuedJob) → IsThere due q → IsNumbered es q
    of_there q there = by (find nat_cmp q.number es) refl (sym (h.same (due_key q)) ∙ there)
      where
        by : (o : Option Waiting) → find nat_cmp q.number es ≡ o → mark_of (due_key q) o ≡ Some q.taken → find nat_cmp q.number es ≡ Some (waiting_of q)
        by None is e = absurd cc
        by (Some w) is e = is ∙ elim (chosen (due_eq (due_key q) (key_of q.number w)) (Some w.taken) None (Some q.taken) e) [
          | inl same ↦ ap Some (it (same_key (due_key q) (key_of q.number w) same.0) (some_is w.taken q.taken same.1))
          | inr other ↦ absurd (nothing q.taken other.1)
        ]
          where
            nothing : (b : Bool) → None ≡ Some b → ⊥
            nothing b e = cc

            it : due_key q ≡ key_of q.number w → w.taken ≡ q.taken → w ≡ waiting_of q
            it key mark = λ i. record { to = (sym key i).to; due = (sym key i).due; taken = mark i }

    to_there : (q : QueuedJob) → IsNumbered es q → IsThere due q
    to_there q n = h.same (due_key q) ∙ ap (mark_of (due_key q)) n ∙ ap (λ b. cond b (Some q.taken) None) (key_itself (due_key q))

    pub first_is : (r : Option QueuedJob) → IsFirst (IsThere due) test r → r ≡ least_queued (filter test (queue_in es))
    first_is r first =
        one_first es r (least_queued (filter test (queue_in es)))
        (first_same test (IsThere due) (IsNumbered es) r (λ q t there. of_there q there) (λ q t n. to_there q n) first)
        (first_of_list es h.numbers)
