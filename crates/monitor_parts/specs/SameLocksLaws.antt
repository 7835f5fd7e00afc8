-- A request is answered by who holds an area, whatever the order in which the holders stand.
use Rattle.std.specs.Prelude.{◌≡◌, ◌+◌, refl, ℕ, zero, suc, Bool, true, false, ◌||◌, List, length, Option, Some, None, nat_le, option_and_then}
use Rattle.std.proofs.Common.{ap, ◌∙◌}
use Rattle.kdcs_types.specs.declared.key.Area.{Area}
use Rattle.kdcs_types.specs.declared.key.ServiceId.{ServiceId}
use Rattle.kdcs_types.specs.Keys.{id_eq}
use Rattle.abstract_monitor.specs.Locks.{Locks, Waiting, answer_by_holder, answer_of, answer_of_held, awaited, holder, is_deadlocked, reaches, refused_by, since, since_by, wait_of, waits_for}

-- each area has the same holder, and the same services wait
pub record HaveSameLocks (l m : Locks) : Type 0 where
  pub holders : (area : Area) → holder l area ≡ holder m area
  pub waits : l.waits ≡ m.waits

module _ (l m : Locks) (same : HaveSameLocks l m) where
  same_step : (o : Option Area) → option_and_then (holder l) o ≡ option_and_then (holder m) o
  same_step None = refl
  same_step (Some area) = same.holders area

  same_waits_for : (id : ServiceId) → waits_for l id ≡ waits_for m id
  same_waits_for id = same_step (awaited l id) ∙ ap (λ (w : List (ServiceId × Waiting)). option_and_then (holder m) (awaited (record { holders = m.holders; waits = w }) id)) same.waits

  same_reaches : (n : ℕ) (asker : ServiceId) (at : Option ServiceId) → reaches n l asker at ≡ reaches n m asker at
  unfolding reaches
  same_reaches zero asker None = refl
  same_reaches zero asker (Some id) = refl
  same_reaches (suc n) asker None = refl
  same_reaches (suc n) asker (Some id) =
      ap (λ b. id_eq id asker || b) (same_reaches n asker (waits_for l id) ∙ ap (reaches n m asker) (same_waits_for id))

  same_deadlock : (asker other : ServiceId) → is_deadlocked l asker other ≡ is_deadlocked m asker other
  same_deadlock asker other =
      same_reaches (length l.waits) asker (Some other) ∙ ap (λ (w : List (ServiceId × Waiting)). reaches (length w) m asker (Some other)) same.waits

  same_since : (id : ServiceId) (area : Area) (now : ℕ) → since l id area now ≡ since m id area now
  same_since id area now = ap (λ (w : List (ServiceId × Waiting)). since_by area now (wait_of (record { holders = m.holders; waits = w }) id)) same.waits

  module _ (reswait now : ℕ) (id : ServiceId) (area : Area) where
    same_for_held : (other : ServiceId) (own : Bool) → answer_of_held l reswait now id area other own ≡ answer_of_held m reswait now id area other own
    same_for_held other true = refl
    same_for_held other false =
        ap (λ b. refused_by b (nat_le (since l id area now + reswait) now)) (same_deadlock id other)
        ∙ ap (λ s. refused_by (is_deadlocked m id other) (nat_le (s + reswait) now)) (same_since id area now)

    same_by_holder : (o : Option ServiceId) → answer_by_holder l reswait now id area o ≡ answer_by_holder m reswait now id area o
    same_by_holder None = refl
    same_by_holder (Some other) = same_for_held other (id_eq other id)

    pub same_answer : answer_of l reswait now id area ≡ answer_of m reswait now id area
    unfolding answer_of
    same_answer = same_by_holder (holder l area) ∙ ap (answer_by_holder m reswait now id area) (same.holders area)
