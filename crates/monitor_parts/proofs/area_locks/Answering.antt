-- Steps of following the waits, and how a request is answered by the holder of the area.
use Rattle.std.specs.Prelude.{◌≡◌, ◌↔◌, ◌+◌, ◌-◌, ◌<◌, ◌≤◌, refl, ℕ, zero, suc, Bool, true, false, ◌||◌, IsTrue, Option, Some, None, nat_le}
use Rattle.std.proofs.Common.{sym, ap, ◌∙◌, true≢false, arith}
use Rattle.kdcs_types.specs.declared.key.Area.{Area}
use Rattle.kdcs_types.specs.declared.key.ServiceId.{ServiceId}
use Rattle.kdcs_types.specs.Keys.{id_eq}
use Rattle.abstract_monitor.specs.declared.answer.LockAnswer.{LockAnswer}
use Rattle.abstract_monitor.specs.declared.answer.LockAnswer.TheVariants.{Granted, Deadlock}
use Rattle.abstract_monitor.specs.Locks.{Locks, IsDeadlocked, answer_by_holder, answer_of, answer_of_held, holder, is_deadlocked, reaches, refused_by, since, waits_for}
use Rattle.abstract_monitor.specs.DeadlocksLaws.{deadlocks_found}
use Rattle.monitor_parts.specs.Index.{IsOpenTo}

module _ (l : Locks) (asker : ServiceId) where
  -- the asker is reached where one stands on it
  pub reached : (n : ℕ) (at : ServiceId) → id_eq at asker ≡ true → reaches n l asker (Some at) ≡ true
  unfolding reaches
  reached zero at e = e
  reached (suc n) at e = ap (λ b. b || reaches n l asker (waits_for l at)) e

  pub nowhere : (n : ℕ) → reaches n l asker None ≡ false
  unfolding reaches
  nowhere zero = refl
  nowhere (suc n) = refl

  go_on : (n : ℕ) (at : ServiceId) → id_eq at asker ≡ false → reaches (suc n) l asker (Some at) ≡ reaches n l asker (waits_for l at)
  unfolding reaches
  go_on n at e = ap (λ b. b || reaches n l asker (waits_for l at)) e

  -- else it is reached from the next one, in one step less
  pub next_reaches : (n i : ℕ) (at : ServiceId) (next : Option ServiceId) → i < n → id_eq at asker ≡ false → waits_for l at ≡ next → reaches (n - i) l asker (Some at) ≡ reaches (n - (i + 1)) l asker next
  next_reaches n i at next lt e w =
      let one_more : n - i ≡ suc (n - (i + 1)) = omega arith in
      ap (λ k. reaches k l asker (Some at)) one_more ∙ go_on (n - (i + 1)) at e ∙ ap (reaches (n - (i + 1)) l asker) w

  -- with no step left it is reached where one stands on it alone
  pub no_step : (n i : ℕ) (at : ServiceId) → n ≤ i → reaches (n - i) l asker (Some at) ≡ id_eq at asker
  unfolding reaches
  no_step n i at le =
      let none_left : n - i ≡ 0 = omega arith in
      ap (λ k. reaches k l asker (Some at)) none_left

module _ (l : Locks) (reswait now : ℕ) (id : ServiceId) (area : Area) where
  pub nobodys : holder l area ≡ None → Granted ≡ answer_of l reswait now id area
  unfolding answer_of
  nobodys e = sym (ap (answer_by_holder l reswait now id area) e)

  pub own : (other : ServiceId) → holder l area ≡ Some other → id_eq other id ≡ true → Granted ≡ answer_of l reswait now id area
  unfolding answer_of
  own other e same = sym (ap (answer_by_holder l reswait now id area) e ∙ ap (answer_of_held l reswait now id area other) same)

  pub anothers : (other : ServiceId) → holder l area ≡ Some other → id_eq other id ≡ false → refused_by (is_deadlocked l id other) (nat_le (since l id area now + reswait) now) ≡ answer_of l reswait now id area
  unfolding answer_of
  anothers other e different = sym (ap (answer_by_holder l reswait now id area) e ∙ ap (answer_of_held l reswait now id area other) different)

  refused_deadlock : (deadlock late : Bool) → refused_by deadlock late ≡ Deadlock ↔ IsTrue deadlock
  refused_deadlock true late = (λ e. refl, λ e. refl)
  refused_deadlock false true = (λ e. absurd cc, λ e. absurd (true≢false (sym e)))
  refused_deadlock false false = (λ e. absurd cc, λ e. absurd (true≢false (sym e)))

  refused_grants : (deadlock late : Bool) → refused_by deadlock late ≡ Granted → ⊥
  refused_grants true late e = absurd cc
  refused_grants false true e = absurd cc
  refused_grants false false e = absurd cc

  -- K05 is answered exactly where a chain of waits ends at the asker
  pub deadlock_answered : (answer : LockAnswer) → answer ≡ answer_of l reswait now id area → (other : ServiceId) → holder l area ≡ Some other → id_eq other id ≡ false → answer ≡ Deadlock ↔ IsDeadlocked l id area
  deadlock_answered answer is other e different =
      let refused = anothers other e different in
      let found = deadlocks_found l id other area e different in
      let both = refused_deadlock (is_deadlocked l id other) (nat_le (since l id area now + reswait) now) in (
        λ k. found.0 (both.0 (refused ∙ sym is ∙ k)),
        λ d. is ∙ sym refused ∙ both.1 (found.1 d),
      )

  -- what is granted, no other service holds
  pub granted_open : answer_of l reswait now id area ≡ Granted → IsOpenTo l id area
  granted_open granted other e = by (id_eq other id) refl
    where
      by : (b : Bool) → id_eq other id ≡ b → b ≡ true
      by true own = refl
      by false different =
          absurd (refused_grants (is_deadlocked l id other) (nat_le (since l id area now + reswait) now) (anothers other e different ∙ granted))
