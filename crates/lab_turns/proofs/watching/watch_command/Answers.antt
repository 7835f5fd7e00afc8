use Rattle.std.proofs.Common.{◌≡◌, arith, subst, rules}
use Rattle.abstract_monitor.specs.Commands.{steps_of}
use Rattle.lab_turns.specs.Running.{IsBeside, ToldSteps}
use Rattle.lab_turns.proofs.watching.watch_command.Goals as goal

-- what was lent is given back
given : {A : Type 0} (P : A → Type 0) {x : A} → P x → (y : A) → x ≡ y → P y
given P h y is = subst P is h

pub returns-clause-told : goal.returns-clause-told
returns-clause-told g c =
    let took = c.in_ok-next.ensures.took in
    given (λ l. ToldSteps g.L.Listener.hears c.args.core (steps_of c.args.core.application c.args.core.state c.args.command.now) c.args.listener.now l c.in_ok-next.next) took.told _ (let same = took.same_place in search rules)

pub returns-clause-beside : goal.returns-clause-beside
returns-clause-beside g c =
    let took = c.in_ok-next.ensures.took in
    given (IsBeside c.in_ok-next.next) took.beside _ (let same = took.same_place in search rules)

pub returns-clause-counted : goal.returns-clause-counted
returns-clause-counted g c = let counted = c.in_ok-next.ensures.took.counted in omega (arith, counted)
