use Rattle.std.proofs.Common.{◌∙◌, ap, subst, inl, List, [], ◌∷◌, ℕ, Err}
use Rattle.std.specs.Prelude.{IsTrue}
use Rattle.kd_device.specs.Rest.{Rests}
use Rattle.refusals.specs.declared.error.FileRefusal.{FileRefusal}
use Rattle.refusals.specs.Lines.{file_line}
use Rattle.refusals.specs.Statuses.{IsOneOf, status_of_file}
use Rattle.device_acts.specs.Said.{SaidPart}
use Rattle.call_parts.specs.declared.error.CallError.{CallError}
use Rattle.call_parts.specs.Asking.{errand_for, task_word}
use Rattle.utm_cli.specs.Doing.{Refuses}
use Rattle.utm_cli.specs.Promise.{MayHandOn, Tells}
use Rattle.call_parts.specs.Words.{file_name}
use Rattle.utm_cli.proofs.Answering.{tells_all}
use Rattle.utm_cli.proofs.ByWord.{may_then}
use Rattle.utm_cli.proofs.Refused.{not_both, one_reason}
use Rattle.utm_cli.proofs.Ran.{said_then, part_then, nothing_said}
use Rattle.utm_cli.proofs.run.run_task.Given.{Over}
use Rattle.utm_cli.proofs.run.run_task.Goals as goal

pub returns-in-Ok-run_over-clause-refused : goal.returns-in-Ok-run_over-clause-refused
returns-in-Ok-run_over-clause-refused g c = λ tells why refuses.
    let done = c.in-Ok-run_over.ensures.done tells in
    absurd (not_both c.verdicts_exclude_each_other.ensures (errand_for c.args.work c.args.task) _ done.0 why done.1 refuses)

pub returns-in-Ok-run_over-clause-refused_part : goal.returns-in-Ok-run_over-clause-refused_part
returns-in-Ok-run_over-clause-refused_part g c = λ told why refuses.
    let done = c.in-Ok-run_over.ensures.done (tells_all (task_word c.args.task) (g.D.Device.state c.args.device.now).told told) in
    absurd (not_both c.verdicts_exclude_each_other.ensures (errand_for c.args.work c.args.task) _ done.0 why done.1 refuses)

pub returns-in-Err-Failed-clause-refused_part : goal.returns-in-Err-Failed-clause-refused_part
returns-in-Err-Failed-clause-refused_part g c = λ told why refuses.
    nothing_said (file_line why) _ _ _ _ (c.run_over.ensures.still told (λ s starts. not_both c.verdicts_exclude_each_other.ensures (errand_for c.args.work c.args.task) _ s why starts refuses))

pub returns-in-Err-Memory-clause-refused_part : goal.returns-in-Err-Memory-clause-refused_part
returns-in-Err-Memory-clause-refused_part g c = λ told why refuses.
    nothing_said (file_line why) _ _ _ _ (c.run_over.ensures.still told (λ s starts. not_both c.verdicts_exclude_each_other.ensures (errand_for c.args.work c.args.task) _ s why starts refuses))

-- ---- the file is refused

refuses : (g : Over) (c : goal.After-drop-name-2 g) → Tells (task_word c.args.task) (g.D.Device.state c.args.device.now).told → Refuses (errand_for c.args.work c.args.task) (g.D.Device.state c.args.device.now).holds c.in-Err-Refused.why
refuses g c tells = c.in-Err-Refused.ensures.refused c.in-Err-Refused.why (ap (λ (e : CallError). Err e) c.in-Err-Refused.field-0-is) tells

refuses_told : (g : Over) (c : goal.After-drop-name-2 g) → IsTrue (g.D.Device.state c.args.device.now).told → Refuses (errand_for c.args.work c.args.task) (g.D.Device.state c.args.device.now).holds c.in-Err-Refused.why
refuses_told g c told = refuses g c (tells_all (task_word c.args.task) (g.D.Device.state c.args.device.now).told told)

rests : (g : Over) (c : goal.After-drop-name-2 g) → IsTrue (g.D.Device.state c.args.device.now).told → Rests (g.D.Device.state c.args.device.now) (g.D.Device.state c.run_over.new.device) (g.D.Device.leaves c.args.device.now) (g.D.Device.leaves c.run_over.new.device)
rests g c told = c.run_over.ensures.still told (λ s starts. not_both c.verdicts_exclude_each_other.ensures (errand_for c.args.work c.args.task) _ s c.in-Err-Refused.why starts (refuses_told g c told))

told_too : (g : Over) (c : goal.After-drop-name-2 g) → IsTrue (g.D.Device.state c.args.device.now).told → IsTrue (g.D.Device.state c.run_over.new.device).told
told_too g c told = rw c.run_over.ensures.frame.told told

pub returns-clause-refused_only : goal.returns-clause-refused_only
returns-clause-refused_only g c = λ code tells.
    let said = c.refuse_file.ensures.said code in
    (c.in-Err-Refused.why, refuses g c tells, said.0, λ told. said_then (file_line c.in-Err-Refused.why) _ _ _ _ _ (rests g c told) (said.1 (told_too g c told)))

pub returns-clause-refused : goal.returns-clause-refused
returns-clause-refused g c = λ tells why again.
    subst (λ (r : FileRefusal). IsOneOf (status_of_file r ∷ 5 ∷ 7 ∷ []) c.refuse_file.result.code) (one_reason c.verdicts_exclude_each_other.ensures (errand_for c.args.work c.args.task) _ c.in-Err-Refused.why why (refuses g c tells) again) c.refuse_file.ensures.code

pub returns-clause-refused_part : goal.returns-clause-refused_part
returns-clause-refused_part g c = λ told why again.
    subst (λ (r : FileRefusal). SaidPart (file_line r) (g.D.Device.state c.args.device.now) (g.D.Device.state c.refuse_file.new.device)) (one_reason c.verdicts_exclude_each_other.ensures (errand_for c.args.work c.args.task) _ c.in-Err-Refused.why why (refuses_told g c told) again)
    (part_then (file_line c.in-Err-Refused.why) _ _ _ _ _ (rests g c told) (c.refuse_file.ensures.part (told_too g c told)))

pub returns-clause-accepted : goal.returns-clause-accepted
returns-clause-accepted g c = λ tells s starts. absurd (not_both c.verdicts_exclude_each_other.ensures (errand_for c.args.work c.args.task) _ s c.in-Err-Refused.why starts (refuses g c tells))

pub returns-clause-any_moment : goal.returns-clause-any_moment
returns-clause-any_moment g c = λ told only s starts. absurd (not_both c.verdicts_exclude_each_other.ensures (errand_for c.args.work c.args.task) _ s c.in-Err-Refused.why starts (refuses_told g c told))

pub returns-clause-left : goal.returns-clause-left
returns-clause-left g c = λ told s starts. absurd (not_both c.verdicts_exclude_each_other.ensures (errand_for c.args.work c.args.task) _ s c.in-Err-Refused.why starts (refuses_told g c told))

pub returns-clause-names : goal.returns-clause-names
returns-clause-names g c = λ told.
    may_then (task_word c.args.task) (file_name c.args.base.now) (g.D.Device.state c.args.device.now) (g.D.Device.state c.run_over.new.device) (g.D.Device.state c.refuse_file.new.device)
    (subst (λ (name : List ℕ). MayHandOn (task_word c.args.task) name (g.D.Device.state c.args.device.now) (g.D.Device.state c.run_over.new.device)) (c.deref.ensures.value ∙ c.in-Ok.ensures) (c.run_over.ensures.names told)) c.refuse_file.ensures.names

pub returns-clause-written : goal.returns-clause-written
returns-clause-written g c = λ told. inl ((c.refuse_file.ensures.part (told_too g c told)).disk.put ∙ (rests g c told).put)

pub returns-clause-stopped : goal.returns-clause-stopped
returns-clause-stopped g c = λ code told s starts. absurd (not_both c.verdicts_exclude_each_other.ensures (errand_for c.args.work c.args.task) _ s c.in-Err-Refused.why starts (refuses_told g c told))

pub returns-clause-halted : goal.returns-clause-halted
returns-clause-halted g c = λ code told s starts. absurd (not_both c.verdicts_exclude_each_other.ensures (errand_for c.args.work c.args.task) _ s c.in-Err-Refused.why starts (refuses_told g c told))

pub returns-in-Err-Failed-clause-halted : goal.returns-in-Err-Failed-clause-halted
returns-in-Err-Failed-clause-halted g c = λ five. c.in-Err-Failed.ensures.halted (ap (λ (e : CallError). Err e) c.in-Err-Failed.field-0-is)
