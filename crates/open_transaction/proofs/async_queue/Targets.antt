-- Going over the targets that have jobs: which comes next, the first job of those so far, and how many are left.
use Rattle.std.proofs.Common.{◌≡◌, ◌⊎◌, inl, inr, refl, Bool, true, false, IsTrue, List, [], ◌∷◌, Option, Some, None, sym, ap, subst, ◌∙◌, true≢false}
use Rattle.std.specs.Prelude.{not, find as find_first}
use Rattle.std.specs.Cmp.{tied_itself}
use Rattle.std.specs.FinMap.{find, is_sorted}
use Rattle.std.specs.Ordering.{is_lt, ordering_reverse}
use Rattle.std.specs.declared.cmp.Ordering.{Ordering}
use Rattle.std.specs.declared.cmp.Ordering.TheVariants.{Less, Equal, Greater}
use Rattle.kd_base.specs.OrderLaws.{is_less}
use Rattle.kd_base.specs.ToolsLaws.{map_none, map_some, some_is}
use Rattle.kd_base.specs.Places.{from_key}
use Rattle.kdcs_types.specs.declared.key.Target.{Target}
use Rattle.kdcs_types.specs.Same.{target_eq}
use Rattle.open_transaction.specs.declared.async_queue.due.DueKey.{DueKey}
use Rattle.open_transaction.specs.declared.async_queue.queue.QueuedJob.{QueuedJob}
use Rattle.open_transaction.specs.DueIndex.{IsThere, due_key, first_target, target_after}
use Rattle.open_transaction.specs.DueOrder.{due_cmp, last_key, target_cmp}
use Rattle.open_transaction.specs.DueOrderLaws.{due_same, due_total, from_last, lesser_key, no_lesser_target, target_eq_itself, target_eq_same, target_same, target_total}
use Rattle.open_transaction.proofs.async_queue.Finds.{FirstPasses, first_passes, found_cases, found_from, found_here, from_there, from_up, none_passes}
use Rattle.std.proofs.lemmas.Bool.{false_from_ne_true}

-- ---- the order of targets

turned : (a b : Target) (r : Ordering) → target_cmp a b ≡ r → target_cmp b a ≡ ordering_reverse r
turned a b r e = target_total.antisymm b a ∙ ap ordering_reverse e

-- one that is not less is greater or the same
pub from_target : (a b : Target) → is_lt (target_cmp a b) ≡ false → (a ≡ b) ⊎ (target_cmp b a ≡ Less)
from_target a b h = by (target_cmp a b) refl
  where
    by : (r : Ordering) → target_cmp a b ≡ r → (a ≡ b) ⊎ (target_cmp b a ≡ Less)
    by Less is = absurd (true≢false (sym (ap is_lt is) ∙ h))
    by Equal is = inl (target_same a b is)
    by Greater is = inr (turned a b Greater is)

pub not_less : (a b : Target) → target_cmp a b ≡ Less → is_lt (target_cmp b a) ≡ false
not_less a b e = ap is_lt (turned a b Less e)

pub not_less_itself : (a : Target) → is_lt (target_cmp a a) ≡ false
not_less_itself a = ap is_lt (tied_itself target_total a)

-- ---- the next target

module _ (due : List (DueKey × Bool)) where
  -- a job of this target is there
  pub record HasJob (to : Target) : Type 0 where
    pub job : QueuedJob
    pub there : IsThere due job
    pub target : job.to ≡ to

  abbrev pub NextHasJob : Option Target → Type 0
  NextHasJob None = Unit {0}
  NextHasJob (Some next) = HasJob next

  -- the target is before the next one
  abbrev pub IsPassed : Option Target → Target → Type 0
  IsPassed None to = Unit {0}
  IsPassed (Some next) to = IsTrue (is_lt (target_cmp to next))

  pub record IsLeast (next : Option Target) : Type 0 where
    pub has : NextHasJob next
    pub none : (q : QueuedJob) → IsThere due q → IsPassed next q.to → ⊥

  -- it is greater than this one
  abbrev pub IsGreater : Target → Option Target → Type 0
  IsGreater to None = Unit {0}
  IsGreater to (Some next) = target_cmp to next ≡ Less

  pub record IsAfter (to : Target) (next : Option Target) : Type 0 where
    pub has : NextHasJob next
    pub greater : IsGreater to next
    pub none : (q : QueuedJob) → IsThere due q → IsPassed next q.to → is_lt (target_cmp to q.to) ≡ false

  job_of : DueKey × Bool → QueuedJob
  job_of e = record { number = e.0.number; to = e.0.to; due = e.0.due; taken = e.1 }

  has_it : (e : DueKey × Bool) → find due_cmp e.0 due ≡ Some e.1 → HasJob e.0.to
  unfolding job_of
  has_it e h = record { job = job_of e; there = h; target = refl }

  module _ (up : IsTrue (is_sorted due_cmp due)) (to : Target) where
    abbrev is_other : DueKey × Bool → Bool
    is_other e = not (target_eq to e.0.to)

    abbrev behind : List (DueKey × Bool)
    behind = from_key due_cmp (last_key to) due

    behind_up : IsTrue (is_sorted due_cmp behind)
    behind_up = from_up due_cmp due_total due_same (last_key to) due up

    -- a job of a greater target is there, and is another's
    there_behind : (q : QueuedJob) → target_cmp to q.to ≡ Less → IsThere due q → find due_cmp (due_key q) behind ≡ Some q.taken
    there_behind q e h = found_from due_cmp due_total due_same (last_key to) due (due_key q) q.taken (from_last to (due_key q) e) h

    not_other : (q : QueuedJob) → target_cmp to q.to ≡ Less → not (target_eq to q.to) ≡ false → ⊥
    not_other q less h = by (target_eq to q.to) refl h
      where
        by : (b : Bool) → target_eq to q.to ≡ b → not b ≡ false → ⊥
        by true is e = true≢false (sym (ap is_lt (ap (target_cmp to) (target_eq_same to q.to is) ∙ less)) ∙ not_less_itself to)
        by false is e = true≢false e

    after_none : target_after to due ≡ None → IsAfter to None
    after_none h = record {
      has = tt;
      greater = tt;
      none = λ q there p. false_from_ne_true (is_lt (target_cmp to q.to)) (λ t.
          let less = is_less (target_cmp to q.to) t in
          let none = map_none (λ (e : DueKey × Bool). e.0.to) (find_first is_other behind) h in
          not_other q less (none_passes due_cmp due_total due_same is_other behind behind_up none (due_key q) q.taken (there_behind q less there)));
    }

    module _ (e : DueKey × Bool) (is : find_first is_other behind ≡ Some e) where
      stop : FirstPasses due_cmp due_total due_same is_other behind e
      stop = first_passes due_cmp due_total due_same is_other behind e behind_up is

      stands : (is_lt (due_cmp e.0 (last_key to)) ≡ false) × (find due_cmp e.0 due ≡ Some e.1)
      stands = from_there due_cmp due_total due_same (last_key to) due e.0 e.1 stop.there

      greater : target_cmp to e.0.to ≡ Less
      greater = elim (from_target e.0.to to (no_lesser_target e.0 (last_key to) stands.0)) [
        | inl same ↦ absurd (true≢false (sym stop.passes ∙ ap (λ t. not (target_eq to t)) same ∙ ap not (target_eq_itself to)))
        | inr less ↦ less
      ]

      after_one : IsAfter to (Some e.0.to)
      after_one = record {
        has = has_it e stands.1;
        greater = greater;
        none = λ q there p. false_from_ne_true (is_lt (target_cmp to q.to)) (λ t.
            let less = is_less (target_cmp to q.to) t in
            elim (stop.others (due_key q) q.taken (there_behind q less there)) [
              | inl passed ↦ not_other q less passed
              | inr (inl here) ↦ true≢false (sym p ∙ ap (λ (k : DueKey). is_lt (target_cmp k.to e.0.to)) (sym here.0) ∙ not_less_itself e.0.to)
              | inr (inr later) ↦ elim (lesser_key e.0 (due_key q) later) [
                | inl more ↦ true≢false (sym p ∙ not_less e.0.to q.to more)
                | inr same ↦ true≢false (sym p ∙ ap (λ x. is_lt (target_cmp x e.0.to)) (sym same.0) ∙ not_less_itself e.0.to)
              ]
            ]);
      }

    pub after_is : (next : Option Target) → next ≡ target_after to due → IsAfter to next
    after_is None is = after_none (sym is)
    after_is (Some next) is =
        let found = map_some (λ (e : DueKey × Bool). e.0.to) (find_first is_other behind) next (sym is) in
        subst (λ t. IsAfter to (Some t)) found.2 (after_one found.0 found.1)

pub least_is : (due : List (DueKey × Bool)) → IsTrue (is_sorted due_cmp due) → (next : Option Target) → next ≡ first_target due → IsLeast due next
least_is [] up None is = record { has = tt; none = λ q there p. cc }
least_is [] up (Some next) is = absurd cc
least_is (e ∷ es) up None is = absurd cc
least_is (e ∷ es) up (Some next) is =
    subst (λ t. IsLeast (e ∷ es) (Some t)) (sym (some_is next e.0.to is)) record {
      has = has_it (e ∷ es) e (found_here due_cmp due_total e es);
      none = λ q there p. elim (found_cases due_cmp due_total e es up (due_key q) q.taken there) [
        | inl here ↦ true≢false (sym p ∙ ap (λ (k : DueKey). is_lt (target_cmp k.to e.0.to)) (sym (due_same e.0 (due_key q) here.0)) ∙ not_less_itself e.0.to)
        | inr later ↦ elim (lesser_key e.0 (due_key q) later.0) [
          | inl more ↦ true≢false (sym p ∙ not_less e.0.to q.to more)
          | inr same ↦ true≢false (sym p ∙ ap (λ x. is_lt (target_cmp x e.0.to)) (sym same.0) ∙ not_less_itself e.0.to)
        ]
      ];
    }
