use Rattle.std.proofs.Common.{ap, subst, [], ◌∷◌, Err}
use Rattle.std.specs.Prelude.{IsTrue}
use Rattle.refusals.specs.Lines.{file_line}
use Rattle.refusals.specs.Statuses.{IsOneOf, status_of_file}
use Rattle.refusals.specs.declared.error.FileRefusal.{FileRefusal}
use Rattle.call_parts.specs.Asking.{errand_for, task_word}
use Rattle.call_parts.specs.declared.error.CallError.{CallError}
use Rattle.utm_cli.specs.DoingTwo.{RefusesTwo}
use Rattle.call_parts.specs.LeavingTwo.{SaysPartTwo}
use Rattle.utm_cli.specs.PromiseTwo.{TellsTwo}
use Rattle.call_parts.proofs.HandedOn.{refused_not_failed}
use Rattle.call_ends.specs.SaidLaws.{fine_then, part_then, said_then}
use Rattle.utm_cli.proofs.twin.ByWord.{attached_then_none, tells_two}
use Rattle.utm_cli.proofs.twin.Refused.{file_status, not_both, one_reason}
use Rattle.call_ends.specs.OpenedLaws.{none_said}
use Rattle.utm_cli.proofs.twin.double.double.Given.{Over}
use Rattle.utm_cli.proofs.twin.double.double.Goals as goal

pub returns-in-Ok-clause-refused : goal.returns-in-Ok-clause-refused
returns-in-Ok-clause-refused g c = λ tells why refuses.
    let done = c.in-Ok.ensures.done tells in
    absurd (not_both c.verdicts_exclude_each_other.ensures (errand_for c.args.work c.args.task) _ done.0 why done.1 refuses)

pub returns-in-Ok-clause-refused_part : goal.returns-in-Ok-clause-refused_part
returns-in-Ok-clause-refused_part g c = λ told why refuses.
    let done = c.in-Ok.ensures.done (tells_two (task_word c.args.task) _ told) in
    absurd (not_both c.verdicts_exclude_each_other.ensures (errand_for c.args.work c.args.task) _ done.0 why done.1 refuses)

pub returns-in-Err-Failed-clause-refused_part : goal.returns-in-Err-Failed-clause-refused_part
returns-in-Err-Failed-clause-refused_part g c = λ told why refuses. none_said (file_line why) _ _ _ _ (c.over_copies.ensures.still told (λ t starts. not_both c.verdicts_exclude_each_other.ensures (errand_for c.args.work c.args.task) _ t why starts refuses))

pub returns-in-Err-Memory-clause-refused_part : goal.returns-in-Err-Memory-clause-refused_part
returns-in-Err-Memory-clause-refused_part g c = λ told why refuses. none_said (file_line why) _ _ _ _ (c.over_copies.ensures.still told (λ t starts. not_both c.verdicts_exclude_each_other.ensures (errand_for c.args.work c.args.task) _ t why starts refuses))

-- ---- the files are refused, or the trail

refuses : (g : Over) (c : goal.After-refuse_beside g) → TellsTwo (task_word c.args.task) (g.T.Twin.both c.args.twin.now).told → RefusesTwo (errand_for c.args.work c.args.task) (g.T.Twin.both c.args.twin.now) c.in-Err-Refused.why
refuses g c tells = c.in-Err-Refused.ensures.refused c.in-Err-Refused.why (ap (λ (e : CallError). Err e) c.in-Err-Refused.field-0-is) tells

refuses_told : (g : Over) (c : goal.After-refuse_beside g) → IsTrue (g.T.Twin.both c.args.twin.now).told → RefusesTwo (errand_for c.args.work c.args.task) (g.T.Twin.both c.args.twin.now) c.in-Err-Refused.why
refuses_told g c told = refuses g c (tells_two (task_word c.args.task) _ told)

pub returns-in-Err-Refused-clause-refused : goal.returns-in-Err-Refused-clause-refused
returns-in-Err-Refused-clause-refused g c = λ tells why again.
    subst (λ (r : FileRefusal). IsOneOf (status_of_file r ∷ 5 ∷ 7 ∷ []) c.refuse_beside.result.code) (one_reason c.verdicts_exclude_each_other.ensures (errand_for c.args.work c.args.task) _ c.in-Err-Refused.why why (refuses g c tells) again) c.refuse_beside.ensures.code

pub returns-in-Err-Refused-clause-refused_part : goal.returns-in-Err-Refused-clause-refused_part
returns-in-Err-Refused-clause-refused_part g c = λ told why again.
    let own = c.in-Err-Refused.why in
    let rests = c.over_copies.ensures.still told (λ t starts. not_both c.verdicts_exclude_each_other.ensures (errand_for c.args.work c.args.task) _ t own starts (refuses_told g c told)) in
    subst (λ (r : FileRefusal). SaysPartTwo (file_line r) (g.T.Twin.both c.args.twin.now) (g.T.Twin.both c.refuse_beside.new.twin)) (one_reason c.verdicts_exclude_each_other.ensures (errand_for c.args.work c.args.task) _ own why (refuses_told g c told) again)
    (part_then _ _ (g.T.Twin.both c.refuse_beside.new.twin) (file_line own) rests.files rests.sent (c.refuse_beside.ensures.part (rw c.over_copies.ensures.frame.told told)))

pub returns-in-Err-Refused-clause-refused_only : goal.returns-in-Err-Refused-clause-refused_only
returns-in-Err-Refused-clause-refused_only g c = λ code tells.
    let own = c.in-Err-Refused.why in
    let is = file_status own c.refuse_beside.result.code c.refuse_beside.ensures.code code in (
      own,
      refuses g c tells,
      is,
      λ told.
          let rests = c.over_copies.ensures.still told (λ t starts. not_both c.verdicts_exclude_each_other.ensures (errand_for c.args.work c.args.task) _ t own starts (refuses_told g c told)) in
          said_then _ _ _ (file_line own) rests.files rests.sent (c.refuse_beside.ensures.said is (rw c.over_copies.ensures.frame.told told)),
    )

pub returns-in-Err-Refused-clause-accepted : goal.returns-in-Err-Refused-clause-accepted
returns-in-Err-Refused-clause-accepted g c = λ tells t starts. absurd (not_both c.verdicts_exclude_each_other.ensures (errand_for c.args.work c.args.task) _ t c.in-Err-Refused.why starts (refuses g c tells))

pub returns-in-Err-Refused-clause-any_moment : goal.returns-in-Err-Refused-clause-any_moment
returns-in-Err-Refused-clause-any_moment g c = λ told t starts. absurd (not_both c.verdicts_exclude_each_other.ensures (errand_for c.args.work c.args.task) _ t c.in-Err-Refused.why starts (refuses_told g c told))

pub returns-in-Err-Refused-clause-names : goal.returns-in-Err-Refused-clause-names
returns-in-Err-Refused-clause-names g c = λ told. attached_then_none (task_word c.args.task) c.args.base.now _ _ _ (c.over_copies.ensures.names told) c.refuse_beside.ensures.names

pub returns-in-Err-Refused-clause-fine : goal.returns-in-Err-Refused-clause-fine
returns-in-Err-Refused-clause-fine g c = λ not. fine_then _ _ (g.T.Twin.both c.refuse_beside.new.twin) (c.in-Err-Refused.ensures.fine (λ failed. refused_not_failed _ _ c.in-Err-Refused.why c.in-Err-Refused.field-0-is failed)) (c.refuse_beside.ensures.fine not)
