use Rattle.std.proofs.Common.{ap, arith, refl, subst, sym, ◌∙◌}
use Rattle.std.specs.Prelude.{Err, IsTrue}
use Rattle.kd_base.specs.ToolsLaws.{error_same}
use Rattle.kd_device.specs.Device.{Rose}
use Rattle.device_acts.specs.ErrorsLaws.{no_error, other_error}
use Rattle.typed_lines.specs.Typing.{typed_of}
use Rattle.live_run.specs.Sessions.{auto_after}
use Rattle.live_run.specs.Talking.{Talked}
use Rattle.live_run.specs.declared.error.LiveError.TheVariants as live
use Rattle.live_run.proofs.SoFar.{end_of, handed, line_of, more_failed, more_other, more_refused, more_went, so_far_more, so_far_start, talked_failed, talked_out, talked_until}
use Rattle.live_run.proofs.talking.live_with.Goals as goal

pub loop-number-init : goal.loop-number-init
loop-number-init g c = record { so_far = so_far_start g.K.Keeper.stands g.K.Reopens.commit_most g.K.Keeper.fine g.met.K.Keeper.fine_goes c.args.fingerprint.now c.args.core (g.I.Typing.typing c.args.typing.now) (g.K.Keeper.identity c.args.keeper.now) (g.K.Keeper.kept c.args.keeper.now) (g.K.Keeper.file c.args.keeper.now) (g.K.Keeper.state c.args.keeper.now) (g.K.Keeper.leaves c.args.keeper.now) c.requires.running c.requires.kept; ready = c.requires.ready; heard = refl; place = refl }

pub returns-in_err-line-clause-talked : goal.returns-in_err-line-clause-talked
returns-in_err-line-clause-talked g c = handed (λ r. Talked g.K.Keeper.stands g.K.Reopens.commit_most c.args.fingerprint.now c.args.core (g.I.Typing.typing c.args.typing.now) (g.K.Keeper.identity c.loop-number.keeper) (g.K.Keeper.kept c.loop-number.keeper) (g.K.Keeper.file c.loop-number.keeper) (g.K.Keeper.state c.args.keeper.now) (g.K.Keeper.state c.loop-number.keeper) (g.K.Keeper.leaves c.args.keeper.now) (g.K.Keeper.leaves c.loop-number.keeper) r) c.from_residual.result c.in_err-line.field-0.0 c.from_residual.ensures.1 (talked_until g.K.Keeper.stands g.K.Reopens.commit_most g.K.Keeper.fine c.args.fingerprint.now c.args.core (g.I.Typing.typing c.args.typing.now) (g.I.Typing.typing c.loop-number.typing) c.loop-number.core c.loop-number.auto' c.loop-number.number (g.K.Keeper.identity c.loop-number.keeper) (g.K.Keeper.kept c.loop-number.keeper) (g.K.Keeper.file c.loop-number.keeper) (g.K.Keeper.state c.args.keeper.now) (g.K.Keeper.state c.loop-number.keeper) (g.K.Keeper.leaves c.args.keeper.now) (g.K.Keeper.leaves c.loop-number.keeper) c.loop-number.invariant.so_far (g.met.K.Keeper.file_stands c.loop-number.keeper) c.in_err-line.field-0.0 (λ is. c.in_err-line.ensures.failed (ap (λ z. Err z) is)))

pub returns-in_err-line-clause-typing : goal.returns-in_err-line-clause-typing
returns-in_err-line-clause-typing g c = record { told = c.next_line.ensures.same.told ∙ c.loop-number.invariant.so_far.typing.told; types = c.next_line.ensures.same.types ∙ c.loop-number.invariant.so_far.typing.types }

pub returns-in_err-line-clause-input : goal.returns-in_err-line-clause-input
returns-in_err-line-clause-input g c = λ is. subst (λ n. Rose n (g.I.Typing.typing c.next_line.new.typing).faults) c.loop-number.invariant.heard (c.in_err-line.ensures.input (error_same _ _ c.from_residual.result c.in_err-line.field-0.0 _ c.from_residual.ensures.1 is))

pub returns-in_err-line-clause-heard : goal.returns-in_err-line-clause-heard
returns-in_err-line-clause-heard g c = λ none. c.in_err-line.ensures.heard (other_error _ _ c.from_residual.result c.in_err-line.field-0.0 _ c.from_residual.ensures.1 none) ∙ c.loop-number.invariant.heard

pub returns-in_err-line-clause-fine : goal.returns-in_err-line-clause-fine
returns-in_err-line-clause-fine g c = λ none. c.loop-number.invariant.so_far.did.acts.calls

pub returns-in_err-line-clause-failed : goal.returns-in_err-line-clause-failed
returns-in_err-line-clause-failed g c = λ is. absurd (c.in_err-line.ensures.failed (error_same _ _ c.from_residual.result c.in_err-line.field-0.0 _ c.from_residual.ensures.1 is))

pub returns-in_err-line-clause-refused : goal.returns-in_err-line-clause-refused
returns-in_err-line-clause-refused g c = λ is told. c.in_err-line.ensures.refused (error_same _ _ c.from_residual.result c.in_err-line.field-0.0 _ c.from_residual.ensures.1 is)

pub returns-in_err-line-clause-other : goal.returns-in_err-line-clause-other
returns-in_err-line-clause-other g c = λ stored is told. c.in_err-line.ensures.other stored (error_same _ _ c.from_residual.result c.in_err-line.field-0.0 _ c.from_residual.ensures.1 is)

pub returns-in_err-line-clause-place : goal.returns-in_err-line-clause-place
returns-in_err-line-clause-place g c = c.loop-number.invariant.place

pub returns-in_default-clause-talked : goal.returns-in_default-clause-talked
returns-in_default-clause-talked g c = talked_out g.K.Keeper.stands g.K.Reopens.commit_most g.K.Keeper.fine c.args.fingerprint.now c.args.core (g.I.Typing.typing c.args.typing.now) (g.I.Typing.typing c.loop-number.typing) c.loop-number.core c.loop-number.auto' c.loop-number.number (g.K.Keeper.identity c.loop-number.keeper) (g.K.Keeper.kept c.loop-number.keeper) (g.K.Keeper.file c.loop-number.keeper) (g.K.Keeper.state c.args.keeper.now) (g.K.Keeper.state c.loop-number.keeper) (g.K.Keeper.leaves c.args.keeper.now) (g.K.Keeper.leaves c.loop-number.keeper) c.loop-number.invariant.so_far (g.met.K.Keeper.file_stands c.loop-number.keeper) (end_of (g.I.Typing.typing c.loop-number.typing) (g.I.Typing.typing c.next_line.new.typing) (g.K.Keeper.state c.loop-number.keeper) (λ v. v.items) _ c.in_ok-line.ensures.next (λ v is. c.in_default.not-Some v is))

pub returns-in_default-clause-ready : goal.returns-in_default-clause-ready
returns-in_default-clause-ready g c = c.loop-number.invariant.ready

pub returns-in_default-clause-typing : goal.returns-in_default-clause-typing
returns-in_default-clause-typing g c = record { told = c.next_line.ensures.same.told ∙ c.loop-number.invariant.so_far.typing.told; types = c.next_line.ensures.same.types ∙ c.loop-number.invariant.so_far.typing.types }

pub returns-in_default-clause-input : goal.returns-in_default-clause-input
returns-in_default-clause-input g c = λ is. absurd cc

pub returns-in_default-clause-heard : goal.returns-in_default-clause-heard
returns-in_default-clause-heard g c = λ none. c.in_ok-line.ensures.heard (no_error _ _) ∙ c.loop-number.invariant.heard

pub returns-in_default-clause-fine : goal.returns-in_default-clause-fine
returns-in_default-clause-fine g c = λ none. c.loop-number.invariant.so_far.did.acts.calls

pub returns-in_default-clause-failed : goal.returns-in_default-clause-failed
returns-in_default-clause-failed g c = λ is. absurd cc

pub returns-in_default-clause-refused : goal.returns-in_default-clause-refused
returns-in_default-clause-refused g c = λ is told. absurd cc

pub returns-in_default-clause-other : goal.returns-in_default-clause-other
returns-in_default-clause-other g c = λ stored is told. absurd cc

pub returns-in_default-clause-place : goal.returns-in_default-clause-place
returns-in_default-clause-place g c = c.loop-number.invariant.place

pub do_line-requires-clause-ready : goal.do_line-requires-clause-ready
do_line-requires-clause-ready g c = c.loop-number.invariant.ready

pub do_line-requires-clause-running : goal.do_line-requires-clause-running
do_line-requires-clause-running g c = c.loop-number.invariant.so_far.did.running

pub do_line-requires-clause-kept : goal.do_line-requires-clause-kept
do_line-requires-clause-kept g c = λ told. c.loop-number.invariant.so_far.did.acts.rest (subst IsTrue c.loop-number.invariant.so_far.within.frame.told told)

pub do_line-requires-clause-number : goal.do_line-requires-clause-number
do_line-requires-clause-number g c = omega (arith, c.loop-number-test.true)

pub do_line-requires-clause-asks : goal.do_line-requires-clause-asks
do_line-requires-clause-asks g c = c.typed_of-asks.ensures ∙ ap typed_of (c.deref.ensures.value ∙ sym c.deref-in-loop-number.ensures.value)

pub returns-in_err-core-clause-talked : goal.returns-in_err-core-clause-talked
returns-in_err-core-clause-talked g c = handed (λ r. Talked g.K.Keeper.stands g.K.Reopens.commit_most c.args.fingerprint.now c.args.core (g.I.Typing.typing c.args.typing.now) (g.K.Keeper.identity c.do_line.new.keeper) (g.K.Keeper.kept c.do_line.new.keeper) (g.K.Keeper.file c.do_line.new.keeper) (g.K.Keeper.state c.args.keeper.now) (g.K.Keeper.state c.do_line.new.keeper) (g.K.Keeper.leaves c.args.keeper.now) (g.K.Keeper.leaves c.do_line.new.keeper) r) c.from_residual-in_err-core.result c.in_err-core.field-0.0 c.from_residual-in_err-core.ensures.1 (talked_failed g.K.Keeper.stands g.K.Reopens.commit_most g.K.Keeper.fine g.met.K.Keeper.fine_goes c.args.fingerprint.now c.args.core (g.I.Typing.typing c.args.typing.now) (g.I.Typing.typing c.loop-number.typing) (g.I.Typing.typing c.next_line.new.typing) c.loop-number.core c.loop-number.auto' c.loop-number.number (g.K.Keeper.identity c.loop-number.keeper) (g.K.Keeper.kept c.loop-number.keeper) (g.K.Keeper.file c.loop-number.keeper) (g.K.Keeper.state c.args.keeper.now) (g.K.Keeper.state c.loop-number.keeper) (g.K.Keeper.leaves c.args.keeper.now) (g.K.Keeper.leaves c.loop-number.keeper) c.loop-number.invariant.so_far (g.met.K.Keeper.file_stands c.loop-number.keeper) (g.met.K.Keeper.sent_now c.loop-number.keeper) c.deref-in-loop-number.result.now c.next_line.ensures.same (line_of (g.I.Typing.typing c.loop-number.typing) (g.I.Typing.typing c.next_line.new.typing) (g.K.Keeper.state c.loop-number.keeper) (λ v. v.items) _ c.in_ok-line.ensures.next c.in-Some.line c.deref-in-loop-number.result.now c.in-Some.is c.deref-in-loop-number.ensures.value) (g.K.Keeper.identity c.do_line.new.keeper) (g.K.Keeper.kept c.do_line.new.keeper) (g.K.Keeper.file c.do_line.new.keeper) (g.K.Keeper.state c.do_line.new.keeper) (g.K.Keeper.leaves c.do_line.new.keeper) _ c.in_err-core.ensures.took (g.met.K.Keeper.earlier c.do_line.new.keeper) (g.met.K.Keeper.left_now c.do_line.new.keeper) c.in_err-core.field-0.0 refl (g.K.Keeper.identity c.do_line.new.keeper) (g.K.Keeper.kept c.do_line.new.keeper) (g.K.Keeper.file c.do_line.new.keeper))

pub returns-in_err-core-clause-typing : goal.returns-in_err-core-clause-typing
returns-in_err-core-clause-typing g c = record { told = c.next_line.ensures.same.told ∙ c.loop-number.invariant.so_far.typing.told; types = c.next_line.ensures.same.types ∙ c.loop-number.invariant.so_far.typing.types }

pub returns-in_err-core-clause-input : goal.returns-in_err-core-clause-input
returns-in_err-core-clause-input g c = λ is. absurd (c.in_err-core.ensures.took.took.no_input (error_same _ _ c.from_residual-in_err-core.result c.in_err-core.field-0.0 _ c.from_residual-in_err-core.ensures.1 is))

pub returns-in_err-core-clause-heard : goal.returns-in_err-core-clause-heard
returns-in_err-core-clause-heard g c = λ none. c.in_ok-line.ensures.heard (no_error _ _) ∙ c.loop-number.invariant.heard

pub returns-in_err-core-clause-fine : goal.returns-in_err-core-clause-fine
returns-in_err-core-clause-fine g c = λ none. more_went g.K.Keeper.stands g.K.Reopens.commit_most g.K.Keeper.fine g.met.K.Keeper.fine_goes c.args.fingerprint.now c.args.core (g.I.Typing.typing c.args.typing.now) (g.I.Typing.typing c.loop-number.typing) (g.I.Typing.typing c.next_line.new.typing) c.loop-number.core c.loop-number.auto' c.loop-number.number (g.K.Keeper.identity c.loop-number.keeper) (g.K.Keeper.kept c.loop-number.keeper) (g.K.Keeper.file c.loop-number.keeper) (g.K.Keeper.state c.args.keeper.now) (g.K.Keeper.state c.loop-number.keeper) (g.K.Keeper.leaves c.args.keeper.now) (g.K.Keeper.leaves c.loop-number.keeper) c.loop-number.invariant.so_far (g.met.K.Keeper.file_stands c.loop-number.keeper) (g.met.K.Keeper.sent_now c.loop-number.keeper) c.deref-in-loop-number.result.now c.next_line.ensures.same (line_of (g.I.Typing.typing c.loop-number.typing) (g.I.Typing.typing c.next_line.new.typing) (g.K.Keeper.state c.loop-number.keeper) (λ v. v.items) _ c.in_ok-line.ensures.next c.in-Some.line c.deref-in-loop-number.result.now c.in-Some.is c.deref-in-loop-number.ensures.value) (g.K.Keeper.identity c.do_line.new.keeper) (g.K.Keeper.kept c.do_line.new.keeper) (g.K.Keeper.file c.do_line.new.keeper) (g.K.Keeper.state c.do_line.new.keeper) (g.K.Keeper.leaves c.do_line.new.keeper) _ c.in_err-core.ensures.took (g.met.K.Keeper.earlier c.do_line.new.keeper) (g.met.K.Keeper.left_now c.do_line.new.keeper) (other_error _ _ c.from_residual-in_err-core.result c.in_err-core.field-0.0 _ c.from_residual-in_err-core.ensures.1 none)

pub returns-in_err-core-clause-failed : goal.returns-in_err-core-clause-failed
returns-in_err-core-clause-failed g c = λ is. more_failed g.K.Keeper.stands g.K.Reopens.commit_most g.K.Keeper.fine g.met.K.Keeper.fine_goes c.args.fingerprint.now c.args.core (g.I.Typing.typing c.args.typing.now) (g.I.Typing.typing c.loop-number.typing) (g.I.Typing.typing c.next_line.new.typing) c.loop-number.core c.loop-number.auto' c.loop-number.number (g.K.Keeper.identity c.loop-number.keeper) (g.K.Keeper.kept c.loop-number.keeper) (g.K.Keeper.file c.loop-number.keeper) (g.K.Keeper.state c.args.keeper.now) (g.K.Keeper.state c.loop-number.keeper) (g.K.Keeper.leaves c.args.keeper.now) (g.K.Keeper.leaves c.loop-number.keeper) c.loop-number.invariant.so_far (g.met.K.Keeper.file_stands c.loop-number.keeper) (g.met.K.Keeper.sent_now c.loop-number.keeper) c.deref-in-loop-number.result.now c.next_line.ensures.same (line_of (g.I.Typing.typing c.loop-number.typing) (g.I.Typing.typing c.next_line.new.typing) (g.K.Keeper.state c.loop-number.keeper) (λ v. v.items) _ c.in_ok-line.ensures.next c.in-Some.line c.deref-in-loop-number.result.now c.in-Some.is c.deref-in-loop-number.ensures.value) (g.K.Keeper.identity c.do_line.new.keeper) (g.K.Keeper.kept c.do_line.new.keeper) (g.K.Keeper.file c.do_line.new.keeper) (g.K.Keeper.state c.do_line.new.keeper) (g.K.Keeper.leaves c.do_line.new.keeper) _ c.in_err-core.ensures.took (g.met.K.Keeper.earlier c.do_line.new.keeper) (g.met.K.Keeper.left_now c.do_line.new.keeper) (error_same _ _ c.from_residual-in_err-core.result c.in_err-core.field-0.0 _ c.from_residual-in_err-core.ensures.1 is)

pub returns-in_err-core-clause-refused : goal.returns-in_err-core-clause-refused
returns-in_err-core-clause-refused g c = λ is. more_refused g.K.Keeper.stands g.K.Reopens.commit_most g.K.Keeper.fine g.met.K.Keeper.fine_goes c.args.fingerprint.now c.args.core (g.I.Typing.typing c.args.typing.now) (g.I.Typing.typing c.loop-number.typing) (g.I.Typing.typing c.next_line.new.typing) c.loop-number.core c.loop-number.auto' c.loop-number.number (g.K.Keeper.identity c.loop-number.keeper) (g.K.Keeper.kept c.loop-number.keeper) (g.K.Keeper.file c.loop-number.keeper) (g.K.Keeper.state c.args.keeper.now) (g.K.Keeper.state c.loop-number.keeper) (g.K.Keeper.leaves c.args.keeper.now) (g.K.Keeper.leaves c.loop-number.keeper) c.loop-number.invariant.so_far (g.met.K.Keeper.file_stands c.loop-number.keeper) (g.met.K.Keeper.sent_now c.loop-number.keeper) c.deref-in-loop-number.result.now c.next_line.ensures.same (line_of (g.I.Typing.typing c.loop-number.typing) (g.I.Typing.typing c.next_line.new.typing) (g.K.Keeper.state c.loop-number.keeper) (λ v. v.items) _ c.in_ok-line.ensures.next c.in-Some.line c.deref-in-loop-number.result.now c.in-Some.is c.deref-in-loop-number.ensures.value) (g.K.Keeper.identity c.do_line.new.keeper) (g.K.Keeper.kept c.do_line.new.keeper) (g.K.Keeper.file c.do_line.new.keeper) (g.K.Keeper.state c.do_line.new.keeper) (g.K.Keeper.leaves c.do_line.new.keeper) _ c.in_err-core.ensures.took (g.met.K.Keeper.earlier c.do_line.new.keeper) (g.met.K.Keeper.left_now c.do_line.new.keeper) (error_same _ _ c.from_residual-in_err-core.result c.in_err-core.field-0.0 _ c.from_residual-in_err-core.ensures.1 is)

pub returns-in_err-core-clause-other : goal.returns-in_err-core-clause-other
returns-in_err-core-clause-other g c = λ stored is. more_other g.K.Keeper.stands g.K.Reopens.commit_most g.K.Keeper.fine g.met.K.Keeper.fine_goes c.args.fingerprint.now c.args.core (g.I.Typing.typing c.args.typing.now) (g.I.Typing.typing c.loop-number.typing) (g.I.Typing.typing c.next_line.new.typing) c.loop-number.core c.loop-number.auto' c.loop-number.number (g.K.Keeper.identity c.loop-number.keeper) (g.K.Keeper.kept c.loop-number.keeper) (g.K.Keeper.file c.loop-number.keeper) (g.K.Keeper.state c.args.keeper.now) (g.K.Keeper.state c.loop-number.keeper) (g.K.Keeper.leaves c.args.keeper.now) (g.K.Keeper.leaves c.loop-number.keeper) c.loop-number.invariant.so_far (g.met.K.Keeper.file_stands c.loop-number.keeper) (g.met.K.Keeper.sent_now c.loop-number.keeper) c.deref-in-loop-number.result.now c.next_line.ensures.same (line_of (g.I.Typing.typing c.loop-number.typing) (g.I.Typing.typing c.next_line.new.typing) (g.K.Keeper.state c.loop-number.keeper) (λ v. v.items) _ c.in_ok-line.ensures.next c.in-Some.line c.deref-in-loop-number.result.now c.in-Some.is c.deref-in-loop-number.ensures.value) (g.K.Keeper.identity c.do_line.new.keeper) (g.K.Keeper.kept c.do_line.new.keeper) (g.K.Keeper.file c.do_line.new.keeper) (g.K.Keeper.state c.do_line.new.keeper) (g.K.Keeper.leaves c.do_line.new.keeper) _ c.in_err-core.ensures.took (g.met.K.Keeper.earlier c.do_line.new.keeper) (g.met.K.Keeper.left_now c.do_line.new.keeper) stored (error_same _ _ c.from_residual-in_err-core.result c.in_err-core.field-0.0 _ c.from_residual-in_err-core.ensures.1 is)

pub returns-in_err-core-clause-place : goal.returns-in_err-core-clause-place
returns-in_err-core-clause-place g c = c.do_line.ensures.place ∙ c.loop-number.invariant.place

pub loop-number-preserved : goal.loop-number-preserved
loop-number-preserved g c = record { so_far = so_far_more g.K.Keeper.stands g.K.Reopens.commit_most g.K.Keeper.fine g.met.K.Keeper.fine_goes c.args.fingerprint.now c.args.core (g.I.Typing.typing c.args.typing.now) (g.I.Typing.typing c.loop-number.typing) (g.I.Typing.typing c.next_line.new.typing) c.loop-number.core c.loop-number.auto' c.loop-number.number (g.K.Keeper.identity c.loop-number.keeper) (g.K.Keeper.kept c.loop-number.keeper) (g.K.Keeper.file c.loop-number.keeper) (g.K.Keeper.state c.args.keeper.now) (g.K.Keeper.state c.loop-number.keeper) (g.K.Keeper.leaves c.args.keeper.now) (g.K.Keeper.leaves c.loop-number.keeper) c.loop-number.invariant.so_far (g.met.K.Keeper.file_stands c.loop-number.keeper) (g.met.K.Keeper.sent_now c.loop-number.keeper) c.deref-in-loop-number.result.now c.next_line.ensures.same (line_of (g.I.Typing.typing c.loop-number.typing) (g.I.Typing.typing c.next_line.new.typing) (g.K.Keeper.state c.loop-number.keeper) (λ v. v.items) _ c.in_ok-line.ensures.next c.in-Some.line c.deref-in-loop-number.result.now c.in-Some.is c.deref-in-loop-number.ensures.value) (g.K.Keeper.identity c.do_line.new.keeper) (g.K.Keeper.kept c.do_line.new.keeper) (g.K.Keeper.file c.do_line.new.keeper) (g.K.Keeper.state c.do_line.new.keeper) (g.K.Keeper.leaves c.do_line.new.keeper) _ c.in_ok-core.ensures.took (g.met.K.Keeper.earlier c.do_line.new.keeper) (g.met.K.Keeper.left_now c.do_line.new.keeper) c.in_ok-core.core c.in_ok-core.ensures.took.took.done c.auto_after-auto.result (c.auto_after-auto.ensures ∙ ap (auto_after c.loop-number.auto') (c.typed_of-asks.ensures ∙ ap typed_of (c.deref.ensures.value ∙ sym c.deref-in-loop-number.ensures.value))); ready = c.in_ok-core.ensures.ready; heard = c.in_ok-line.ensures.heard (no_error _ _) ∙ c.loop-number.invariant.heard; place = c.do_line.ensures.place ∙ c.loop-number.invariant.place }

pub returns-clause-talked : goal.returns-clause-talked
returns-clause-talked g c = talked_until g.K.Keeper.stands g.K.Reopens.commit_most g.K.Keeper.fine c.args.fingerprint.now c.args.core (g.I.Typing.typing c.args.typing.now) (g.I.Typing.typing c.loop-number.typing) c.loop-number.core c.loop-number.auto' c.loop-number.number (g.K.Keeper.identity c.loop-number.keeper) (g.K.Keeper.kept c.loop-number.keeper) (g.K.Keeper.file c.loop-number.keeper) (g.K.Keeper.state c.args.keeper.now) (g.K.Keeper.state c.loop-number.keeper) (g.K.Keeper.leaves c.args.keeper.now) (g.K.Keeper.leaves c.loop-number.keeper) c.loop-number.invariant.so_far (g.met.K.Keeper.file_stands c.loop-number.keeper) live.Spent (λ is. cc)

pub returns-clause-typing : goal.returns-clause-typing
returns-clause-typing g c = c.loop-number.invariant.so_far.typing

pub returns-clause-input : goal.returns-clause-input
returns-clause-input g c = λ is. absurd cc

pub returns-clause-heard : goal.returns-clause-heard
returns-clause-heard g c = λ none. c.loop-number.invariant.heard

pub returns-clause-fine : goal.returns-clause-fine
returns-clause-fine g c = λ none. c.loop-number.invariant.so_far.did.acts.calls

pub returns-clause-failed : goal.returns-clause-failed
returns-clause-failed g c = λ is. absurd cc

pub returns-clause-refused : goal.returns-clause-refused
returns-clause-refused g c = λ is told. absurd cc

pub returns-clause-other : goal.returns-clause-other
returns-clause-other g c = λ stored is told. absurd cc

pub returns-clause-place : goal.returns-clause-place
returns-clause-place g c = c.loop-number.invariant.place
