use Rattle.std.proofs.Common.{refl}
use Rattle.std.proofs.lemmas.Result.{on_ok_weaker}
use Rattle.kdcfile_double.specs.CommitTwoLaws.{fine_still}
use Rattle.call_parts.specs.Asking.{run_errand}
use Rattle.call_ends.specs.OpenedLaws.{copies_made_for}
use Rattle.utm_cli.proofs.Doing.{parts_script}
use Rattle.call_ends.specs.StopsLaws.{nothing_within}
use Rattle.utm_cli.proofs.twin.Scripts.{core_runs, parts_ran, parts_turns, parts_within}
use Rattle.utm_cli.proofs.twin.double.script_copies.Goals as goal

pub run_twice-requires-clause-running : goal.run_twice-requires-clause-running
run_twice-requires-clause-running g c = core_runs (run_errand c.args.work c.args.commands.now) c.args.tables c.in_ok-core.core c.in_ok-core.ensures.application c.in_ok-core.ensures.state c.in_ok-core.ensures.steps c.requires.suits c.requires.can c.in_ok-core.ensures.facts c.in_ok-core.ensures.limits c.args.store c.requires.tables

pub run_twice-requires-clause-names : goal.run_twice-requires-clause-names
run_twice-requires-clause-names g c = parts_script (run_errand c.args.work c.args.commands.now) c.args.tables c.in_ok-core.core c.in_ok-core.ensures.application c.in_ok-core.ensures.state c.in_ok-core.ensures.steps c.as_slice.result.now c.as_slice.ensures c.requires.can

pub run_twice-requires-clause-steps : goal.run_twice-requires-clause-steps
run_twice-requires-clause-steps g c = parts_turns (run_errand c.args.work c.args.commands.now) c.args.tables c.in_ok-core.core c.in_ok-core.ensures.application c.in_ok-core.ensures.state c.in_ok-core.ensures.steps c.requires.suits c.as_slice.result.now c.as_slice.ensures c.requires.can

pub run_twice-requires-clause-identity : goal.run_twice-requires-clause-identity
run_twice-requires-clause-identity g c = copies_made_for (run_errand c.args.work c.args.commands.now) c.args.store c.args.tables c.requires.tables c.limits_of-limits.result c.limits_of-limits.ensures.limits

pub returns-in_err-core-clause-any : goal.returns-in_err-core-clause-any
returns-in_err-core-clause-any g c = nothing_within _ c.args.store c.args.tables _ (g.T.Twin.both c.args.twin.now) (g.T.Twin.leaves c.args.twin.now)

pub returns-in_err-core-clause-fine : goal.returns-in_err-core-clause-fine
returns-in_err-core-clause-fine g c = λ none. fine_still c.args.store (g.T.Twin.both c.args.twin.now) c.requires.is_open

pub returns-clause-any : goal.returns-clause-any
returns-clause-any g c =
    parts_within (run_errand c.args.work c.args.commands.now) c.args.tables c.in_ok-core.core c.in_ok-core.ensures.application c.in_ok-core.ensures.state c.in_ok-core.ensures.steps c.requires.suits c.as_slice.result.now c.as_slice.ensures refl c.args.store c.requires.tables (g.T.Twin.both c.args.twin.now) (g.T.Twin.both c.run_twice.new.twin) (g.T.Twin.leaves c.args.twin.now) (g.T.Twin.leaves c.run_twice.new.twin) c.run_twice.ensures.any

pub returns-clause-done : goal.returns-clause-done
returns-clause-done g c =
    on_ok_weaker c.run_twice.result
    (λ ran told. parts_ran (run_errand c.args.work c.args.commands.now) c.args.tables c.in_ok-core.core c.in_ok-core.ensures.application c.in_ok-core.ensures.state c.in_ok-core.ensures.steps c.requires.suits c.as_slice.result.now c.as_slice.ensures refl c.args.store c.requires.tables (g.T.Twin.both c.args.twin.now) (g.T.Twin.both c.run_twice.new.twin) (g.T.Twin.leaves c.run_twice.new.twin) (ran told)) c.run_twice.ensures.done
