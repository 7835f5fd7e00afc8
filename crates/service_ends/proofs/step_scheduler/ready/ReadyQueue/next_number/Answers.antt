use Rattle.std.proofs.Common.{ℕ, None, Option, Some, subst, sym}
use Rattle.std.specs.Option.{IfSome, SomeIff}
use Rattle.service_ends.specs.Arrivals.{Arrivals, IsAfter}
use Rattle.service_ends.proofs.step_scheduler.Arrived.{after_last, after_none}
use Rattle.service_ends.proofs.step_scheduler.ready.ReadyQueue.next_number.Goals as goal

-- the number that fits
fitting : (number : Option ℕ) (P : Type 0) (n : ℕ) (arrivals : Arrivals) → SomeIff number P n → IsAfter n arrivals → IfSome number (λ k. IsAfter k arrivals)
fitting None P n arrivals is after = tt
fitting (Some k) P n arrivals is after = subst (λ m. IsAfter m arrivals) (sym is.1) after

pub returns-in-Some : goal.returns-in-Some
returns-in-Some c =
    let arrivals = c.self.inside.arrivals in
    rw (← c.self.view_is) (fitting c.checked_add.result _ _ arrivals c.checked_add.ensures (after_last (c.in-Some.last.now, c.in-Some.field-0-1.now) arrivals c.last.ensures.ascending (sym c.in-Some.ensures.pair)))

pub returns-in-None : goal.returns-in-None
returns-in-None c = subst (IsAfter 0) c.self.view_is (after_none c.self.inside.arrivals (sym c.in-None.ensures.pair))
