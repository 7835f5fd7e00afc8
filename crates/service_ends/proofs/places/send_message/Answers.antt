use Rattle.std.specs.Prelude.{Option, IsSome}
use Rattle.std.proofs.Common.{ap, refl, subst, sym, ◌∙◌}
use Rattle.std.proofs.lemmas.Result.{on_ok_weaker}
use Rattle.abstract_monitor.specs.Endings.{joined}
use Rattle.abstract_monitor.specs.State.{OpenTransaction}
use Rattle.open_transaction.specs.declared.open.OpenTransaction.{OpenTransaction as Transaction}
use Rattle.service_ends.specs.KeptLaws.{none_found}
use Rattle.service_ends.proofs.Ended.{sends_as, sends_acts}
use Rattle.service_ends.proofs.places.send_message.Goals as goal

pub returns-in-None-clause-state : goal.returns-in-None-clause-state
returns-in-None-clause-state c = λ x e. absurd (none_found c.args.parts.now c.args.id.now c.in-None.ensures.value (subst (λ (o : Option OpenTransaction). IsSome o) (sym e) refl))

pub returns-in-None-clause-acts : goal.returns-in-None-clause-acts
returns-in-None-clause-acts c = λ x e. absurd (none_found c.args.parts.now c.args.id.now c.in-None.ensures.value (subst (λ (o : Option OpenTransaction). IsSome o) (sym e) refl))

pub returns-in_ok-message-in-Some-clause-state : goal.returns-in_ok-message-in-Some-clause-state
returns-in_ok-message-in-Some-clause-state c =
    on_ok_weaker c.tell.result (λ e x f. sends_as c.args.parts.now c.tell.new.parts c.args.id.now _ _ c.in-Some.transaction.now x c.in-Dialogue.is (c.in_ok-message-in-Some.ensures ∙ ap (λ (w : Transaction). joined w.messages.parts) c.deref.ensures) c.in-Some.ensures.value f e) c.tell.ensures.state

pub returns-in_ok-message-in-Some-clause-acts : goal.returns-in_ok-message-in-Some-clause-acts
returns-in_ok-message-in-Some-clause-acts c =
    on_ok_weaker c.tell.result (λ e x f. sends_acts c.args.parts.now c.args.id.now _ _ c.in-Some.transaction.now x c.args.acts.now _ c.in-Dialogue.is (c.in_ok-message-in-Some.ensures ∙ ap (λ (w : Transaction). joined w.messages.parts) c.deref.ensures) c.in-Some.ensures.value f e) c.tell.ensures.acts
