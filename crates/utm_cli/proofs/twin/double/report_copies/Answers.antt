use Rattle.std.proofs.Common.{refl, ◌∙◌}
use Rattle.std.proofs.lemmas.Result.{on_ok_weaker}
use Rattle.kdcfile_double.specs.CommitTwoLaws.{fine_still}
use Rattle.call_parts.specs.Asking.{gen_errand}
use Rattle.call_ends.specs.StopsLaws.{nothing_within}
use Rattle.utm_cli.proofs.twin.Scripts.{report_ran, report_within}
use Rattle.utm_cli.proofs.twin.double.report_copies.Goals as goal

pub returns-clause-any : goal.returns-clause-any
returns-clause-any g c =
    report_within (gen_errand c.args.work.now) refl c.as_slice.result.now (c.as_slice.ensures ∙ c.in_ok-acts.ensures) c.args.store c.requires.identity (g.T.Twin.both c.args.twin.now) (g.T.Twin.both c.send_twice.new.twin) (g.T.Twin.leaves c.args.twin.now) (g.T.Twin.leaves c.send_twice.new.twin) c.send_twice.ensures.any

pub returns-clause-done : goal.returns-clause-done
returns-clause-done g c =
    on_ok_weaker c.send_twice.result
    (λ ran told. report_ran (gen_errand c.args.work.now) refl c.as_slice.result.now (c.as_slice.ensures ∙ c.in_ok-acts.ensures) c.args.store c.requires.identity (g.T.Twin.both c.args.twin.now) (g.T.Twin.both c.send_twice.new.twin) (g.T.Twin.leaves c.send_twice.new.twin) (ran told)) c.send_twice.ensures.done

pub returns-in_err-acts-clause-any : goal.returns-in_err-acts-clause-any
returns-in_err-acts-clause-any g c = λ t keeps. nothing_within _ c.args.store t _ (g.T.Twin.both c.args.twin.now) (g.T.Twin.leaves c.args.twin.now)

pub returns-in_err-acts-clause-fine : goal.returns-in_err-acts-clause-fine
returns-in_err-acts-clause-fine g c = λ none. fine_still c.args.store (g.T.Twin.both c.args.twin.now) c.requires.is_open
