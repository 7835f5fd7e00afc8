-- The first of some jobs: which one it is, of two kinds of jobs together, and of a list.
use Rattle.std.proofs.Common.{◌≡◌, ◌⊎◌, inl, inr, refl, ℕ, ◌<◌, ◌≤◌, Bool, true, false, cond, Option, Some, None, sym, ◌∙◌, arith, true≢false}
use Rattle.std.specs.Prelude.{◌&&◌, ◌||◌, ◌==◌, nat_lt}
use Rattle.std.proofs.lemmas.Bool.Decides.{nat_tests}
use Rattle.std.proofs.lemmas.Bool.{eqb-true, eqb-false, false_from_ne_true, ltb-true, ltb-false}
use Rattle.open_transaction.specs.declared.async_queue.queue.QueuedJob.{QueuedJob}
use Rattle.open_transaction.specs.DueIndex.{IsFirst}
use Rattle.open_transaction.specs.Queue.{either_of, is_earlier}

-- ---- by due, then by number

-- b is not before a
abbrev pub IsFrom : (a b : QueuedJob) → Type 0
IsFrom a b = (a.due < b.due) ⊎ ((a.due ≡ b.due) × (a.number ≤ b.number))

not_sooner : (d m e n : ℕ) → (d < e) ⊎ ((d ≡ e) × (m ≤ n)) → (nat_lt e d || (e == d && nat_lt n m)) ≡ false
not_sooner d m e n (inl h) = grind (arith, nat_tests)
not_sooner d m e n (inr h) = grind (arith, nat_tests)

pub not_earlier : (a b : QueuedJob) → IsFrom a b → is_earlier b a ≡ false
not_earlier a b h = not_sooner a.due a.number b.due b.number h

from_not : (d m e n : ℕ) (s t u : Bool) → nat_lt e d ≡ s → (e == d) ≡ t → nat_lt n m ≡ u → (s || (t && u)) ≡ false → (d < e) ⊎ ((d ≡ e) × (m ≤ n))
from_not d m e n true t u p q r h = absurd cc
from_not d m e n false true true p q r h = absurd cc
from_not d m e n false true false p q r h = inr (sym (eqb-true e d q), ltb-false n m r)
from_not d m e n false false u p q r h = inl (omega (arith, ltb-false e d p, eqb-false e d q))

pub from_it : (a b : QueuedJob) → is_earlier b a ≡ false → IsFrom a b
from_it a b h = from_not a.due a.number b.due b.number (nat_lt b.due a.due) (b.due == a.due) (nat_lt b.number a.number) refl refl refl h

from_before : (d m e n : ℕ) (s t u : Bool) → nat_lt e d ≡ s → (e == d) ≡ t → nat_lt n m ≡ u → (s || (t && u)) ≡ true → (e < d) ⊎ ((e ≡ d) × (n ≤ m))
from_before d m e n true t u p q r h = inl (ltb-true e d p)
from_before d m e n false true true p q r h = inr (eqb-true e d q, omega (arith, ltb-true n m r))
from_before d m e n false true false p q r h = absurd cc
from_before d m e n false false u p q r h = absurd cc

-- the earlier one is before the other
pub before_it : (a b : QueuedJob) → is_earlier b a ≡ true → IsFrom b a
before_it a b h = from_before a.due a.number b.due b.number (nat_lt b.due a.due) (b.due == a.due) (nat_lt b.number a.number) refl refl refl h

pub from_chain : (a b c : QueuedJob) → IsFrom a b → IsFrom b c → IsFrom a c
from_chain a b c (inl p) (inl q) = inl (omega arith)
from_chain a b c (inl p) (inr q) = inl (omega (arith, p, q.0))
from_chain a b c (inr p) (inl q) = inl (omega (arith, p.0, q))
from_chain a b c (inr p) (inr q) = inr (p.0 ∙ q.0, omega (arith, p.1, q.1))

-- ---- the first of some jobs

module _ (test : QueuedJob → Bool) where
  -- the same jobs pass
  pub first_same : (Among Other : QueuedJob → Type 0) (r : Option QueuedJob) → ((q : QueuedJob) → test q ≡ true → Among q → Other q) → ((q : QueuedJob) → test q ≡ true → Other q → Among q) → IsFirst Among test r → IsFirst Other test r
  first_same Among Other None there back h = λ q o. false_from_ne_true (test q) (λ e. true≢false (sym e ∙ h q (back q e o)))
  first_same Among Other (Some f) there back h = (there f h.1 h.0, h.1, λ q o e. h.2 q (back q e o) e)

  module _ (Among Other : QueuedJob → Type 0) where
    abbrev pub Both : QueuedJob → Type 0
    Both q = Among q ⊎ Other q

    -- of two kinds of jobs
    pub first_of_both : (r s : Option QueuedJob) → IsFirst Among test r → IsFirst Other test s → IsFirst Both test (either_of r s)
    first_of_both None None h k = λ q b. elim b [ inl a ↦ h q a | inr o ↦ k q o ]
    first_of_both None (Some g) h k = (inr k.0, k.1, λ q b e. elim b [ inl a ↦ absurd (true≢false (sym e ∙ h q a)) | inr o ↦ k.2 q o e ])
    first_of_both (Some f) None h k = (inl h.0, h.1, λ q b e. elim b [ inl a ↦ h.2 q a e | inr o ↦ absurd (true≢false (sym e ∙ k q o)) ])
    first_of_both (Some f) (Some g) h k = by (is_earlier g f) refl
      where
        by : (b : Bool) → is_earlier g f ≡ b → IsFirst Both test (Some (cond b g f))
        by true is = (
          inr k.0,
          k.1,
          λ q b e. elim b [
            | inl a ↦ not_earlier g q (from_chain g f q (before_it f g is) (from_it f q (h.2 q a e)))
            | inr o ↦ k.2 q o e
          ],
        )
        by false is = (
          inl h.0,
          h.1,
          λ q b e. elim b [
            | inl a ↦ h.2 q a e
            | inr o ↦ not_earlier f q (from_chain f g q (from_it f g is) (from_it g q (k.2 q o e)))
          ],
        )
