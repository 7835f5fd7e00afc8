-- The first job of a target: what stands at the key where the search stops.
use Rattle.std.proofs.Common.{◌≡◌, ◌⊎◌, inl, inr, refl, ℕ, ◌<◌, ◌≤◌, Bool, true, false, IsTrue, List, Some, None, sym, ap, ◌∙◌, arith, true≢false}
use Rattle.std.specs.Prelude.{◌&&◌, ◌||◌, not, nat_le, find as find_first}
use Rattle.std.proofs.lemmas.Bool.{false_from_ne_true, le-leb, leb-true, not-true}
use Rattle.std.specs.FinMap.{find, is_sorted}
use Rattle.std.specs.Ordering.{is_lt}
use Rattle.kd_base.specs.ToolsLaws.{both_true, map_none, map_some, true_both}
use Rattle.kd_base.specs.Places.{from_key}
use Rattle.kdcs_types.specs.declared.key.Target.{Target}
use Rattle.kdcs_types.specs.Same.{target_eq}
use Rattle.open_transaction.specs.declared.async_queue.due.DueKey.{DueKey}
use Rattle.open_transaction.specs.declared.async_queue.queue.QueuedJob.{QueuedJob}
use Rattle.open_transaction.specs.DueIndex.{IsFirst, IsThere, due_key, key_for}
use Rattle.open_transaction.specs.DueOrder.{due_cmp, first_key, target_cmp}
use Rattle.open_transaction.specs.DueOrderLaws.{IsSooner, due_same, due_total, from_first, lesser_key, no_lesser_target, target_eq_itself, target_eq_same}
use Rattle.open_transaction.specs.Queue.{is_due}
use Rattle.open_transaction.proofs.async_queue.Finds.{FirstPasses, first_passes, found_from, from_there, from_up, none_passes}
use Rattle.open_transaction.proofs.async_queue.Firsts.{not_earlier}

-- a job that is free, due, and for this target
pub record IsDueFor (now : ℕ) (to : Target) (q : QueuedJob) : Type 0 where
  pub free : q.taken ≡ false
  pub due : q.due ≤ now
  pub target : q.to ≡ to

abbrev pub free_job : DueKey → QueuedJob
free_job k = record { number = k.number; to = k.to; due = k.due; taken = false }

pub due_for : (now : ℕ) (to : Target) (q : QueuedJob) → is_due now (target_eq to) q ≡ true → IsDueFor now to q
due_for now to q h =
    let outer = both_true (not q.taken) (nat_le q.due now && target_eq to q.to) h in
    let inner = both_true (nat_le q.due now) (target_eq to q.to) outer.1 in
    record { free = not-true q.taken outer.0; due = leb-true q.due now inner.0; target = sym (target_eq_same to q.to inner.1) }

module _ (due : List (DueKey × Bool)) (now : ℕ) (to : Target) (up : IsTrue (is_sorted due_cmp due)) where
  abbrev stops : DueKey × Bool → Bool
  stops e = not e.1 || not (target_eq to e.0.to)

  abbrev behind : List (DueKey × Bool)
  behind = from_key due_cmp (first_key to) due

  behind_up : IsTrue (is_sorted due_cmp behind)
  behind_up = from_up due_cmp due_total due_same (first_key to) due up

  there_behind : (q : QueuedJob) → q.to ≡ to → IsThere due q → find due_cmp (due_key q) behind ≡ Some q.taken
  there_behind q e h = found_from due_cmp due_total due_same (first_key to) due (due_key q) q.taken (from_first to (due_key q) e) h

  free_stops : (q : QueuedJob) → q.taken ≡ false → stops (due_key q, q.taken) ≡ true
  free_stops q e = ap (λ b. not b || not (target_eq to q.to)) e

  -- the search does not stop
  pub none_for : key_for to due ≡ None → IsFirst (IsThere due) (is_due now (target_eq to)) None
  none_for h q there =
      false_from_ne_true (is_due now (target_eq to) q) (λ t.
      let d = due_for now to q t in
      let none = map_none (λ (e : DueKey × Bool). e.0) (find_first stops behind) h in
      true≢false (sym (free_stops q d.free) ∙ none_passes due_cmp due_total due_same stops behind behind_up none (due_key q) q.taken (there_behind q d.target there)))

  -- it stops at a key
  module _ (k : DueKey) (is : key_for to due ≡ Some k) where
    found : (e : DueKey × Bool) × (find_first stops behind ≡ Some e) × (e.0 ≡ k)
    found = map_some (λ (e : DueKey × Bool). e.0) (find_first stops behind) k is

    stop : FirstPasses due_cmp due_total due_same stops behind found.0
    stop = first_passes due_cmp due_total due_same stops behind found.0 behind_up found.1

    stands : (is_lt (due_cmp found.0.0 (first_key to)) ≡ false) × (find due_cmp found.0.0 due ≡ Some found.0.1)
    stands = from_there due_cmp due_total due_same (first_key to) due found.0.0 found.0.1 stop.there

    no_less : is_lt (target_cmp k.to to) ≡ false
    no_less = no_lesser_target k (first_key to) (ap (λ (j : DueKey). is_lt (due_cmp j (first_key to))) (sym found.2) ∙ stands.0)

    -- a job that is due is at the key, or later
    at_or_later : (q : QueuedJob) → IsThere due q → IsDueFor now to q → (k ≡ due_key q) ⊎ ((k.to ≡ to) × IsSooner k (due_key q))
    at_or_later q there d =
        elim (stop.others (due_key q) q.taken (there_behind q d.target there)) [
          | inl passed ↦ absurd (true≢false (sym (free_stops q d.free) ∙ passed))
          | inr (inl here) ↦ inl (sym found.2 ∙ here.0)
          | inr (inr less) ↦ elim (lesser_key k (due_key q) (ap (λ (j : DueKey). due_cmp j (due_key q)) (sym found.2) ∙ less)) [
            | inl other ↦ absurd (true≢false (ap is_lt (sym other) ∙ ap (λ t. is_lt (target_cmp k.to t)) d.target ∙ no_less))
            | inr same ↦ inr (same.0 ∙ d.target, same.1)
          ]
        ]

    -- it is another target's, or not due yet
    pub nothing_for : (target_eq to k.to ≡ false) ⊎ (now < k.due) → IsFirst (IsThere due) (is_due now (target_eq to)) None
    nothing_for h q there =
        false_from_ne_true (is_due now (target_eq to) q) (λ t.
        let d = due_for now to q t in
        elim (at_or_later q there d) [
          | inl here ↦ never (ap (λ (j : DueKey). j.to) here ∙ d.target) (omega (arith, ap (λ (j : DueKey). j.due) here, d.due))
          | inr (same, inl sooner) ↦ never same (omega (arith, sooner, d.due))
          | inr (same, inr sooner) ↦ never same (omega (arith, sooner.0, d.due))
        ])
      where
        never : k.to ≡ to → k.due ≤ now → ⊥
        never e le = elim h [ inl other ↦ true≢false (sym (ap (target_eq to) e ∙ target_eq_itself to) ∙ other) | inr late ↦ omega (arith, late, le) ]

    -- it is this target's, and due
    pub first_for : target_eq to k.to ≡ true → k.due ≤ now → IsFirst (IsThere due) (is_due now (target_eq to)) (Some (free_job k))
    first_for same le = (
      ap (λ (j : DueKey). find due_cmp j due) (sym found.2) ∙ stands.1 ∙ ap Some (free found.0.1 (sym (ap (λ t. not found.0.1 || not t) (ap (λ (j : DueKey). target_eq to j.to) found.2 ∙ same)) ∙ stop.passes)),
      true_both (nat_le k.due now) (target_eq to k.to) (le-leb k.due now le) same,
      λ q there t. elim (at_or_later q there (due_for now to q t)) [
        | inl here ↦ not_earlier (free_job k) q (inr (ap (λ (j : DueKey). j.due) here, omega (arith, ap (λ (j : DueKey). j.number) here)))
        | inr (e, inl sooner) ↦ not_earlier (free_job k) q (inl sooner)
        | inr (e, inr sooner) ↦ not_earlier (free_job k) q (inr (sooner.0, omega (arith, sooner.1)))
      ],
    )
      where
        free : (b : Bool) → (not b || not true) ≡ true → b ≡ false
        free true e = absurd cc
        free false e = refl
