-- One turn, tried.
use Rattle.std.proofs.Common.{◌≡◌, ℕ, sym, ap, ◌∙◌}
use Rattle.std.specs.Prelude.{true, false, not, ◌||◌, Bool, Option, Some, None, is_some}
use Rattle.std.proofs.lemmas.Bool.{true≢false}
use Rattle.abstract_monitor.specs.Locks.{Waiting}
use Rattle.abstract_monitor.specs.Turns.{Turned, turn_of}
use Rattle.laws_of_states.specs.Keeping.{HasFacts}
use Rattle.laws_of_runs.specs.Replays.{AllReplay}
use Rattle.monitor_core.specs.CoreValue.{CoreValue, OneStep}
use Rattle.service_ends.specs.declared.turned.Turned.{Turned as Did}
use Rattle.service_ends.specs.Ending.{turned_to}
use Rattle.lab_walks.specs.Orders.{has_effect, same_wait, wait_in}
use Rattle.lab_orders.specs.Trying.{Tried, TriedEffect}
use Rattle.lab_orders.proofs.Effects.{no_effect_no_change}

module _ (c d : CoreValue) (task : ℕ) (did : Did) (one : OneStep c d) (facts : HasFacts d.application d.state) (replays : AllReplay d.application d.state) (consistent : HasFacts c.application c.state) (exact : turned_to d.state did ≡ turn_of c.application c.state task)
    (before after : Option Waiting) (before_is : before ≡ wait_in c.state task) (after_is : after ≡ wait_in d.state task) where
  effect_is : (did.moved || not (same_wait before after)) ≡ has_effect c.application c.state task
  unfolding has_effect
  effect_is = (λ i. did.moved || not (same_wait (before_is i) (after_is i))) ∙ (λ i. (exact i).moved || not (same_wait (wait_in c.state task) (wait_in (exact i).after task)))

  pub tried_effect : (did.moved || not (same_wait before after)) ≡ true → Tried c task d (Some did)
  tried_effect e = record { application = one.application; facts = facts; replays = replays; exact = (sym effect_is ∙ e, exact) }

  pub tried_none : (did.moved || not (same_wait before after)) ≡ false → Tried c task d None
  tried_none e =
      let none = sym effect_is ∙ e in
      record { application = one.application; facts = facts; replays = replays; exact = (none, ap (λ (t : Turned). t.after) exact ∙ no_effect_no_change c.application c.state task consistent.0.waits none) }

-- whether it had an effect
pub tried_so : (c d : CoreValue) (task : ℕ) (did : Option Did) (moved : Bool) → moved ≡ is_some did → Tried c task d did → TriedEffect c task d moved
tried_so c d task None moved is tried = record { application = tried.application; facts = tried.facts; effect = tried.exact.0 ∙ sym is; stays = λ e. tried.exact.1 }
tried_so c d task (Some did) moved is tried = record { application = tried.application; facts = tried.facts; effect = tried.exact.0 ∙ sym is; stays = λ e. absurd (true≢false (sym is ∙ e)) }
