use Rattle.std.proofs.Common.{inl}
use Rattle.kdcfile_carry.specs.WritingLaws.{none_of_same}
use Rattle.call_parts.specs.Asking.{update_errand}
use Rattle.carry_cli.proofs.Carried.{only_rested}
use Rattle.carry_cli.proofs.carrying.answer_over.Goals as goal

pub returns-then-options-clause-any_moment : goal.returns-then-options-clause-any_moment
returns-then-options-clause-any_moment g c = λ told rest f are.
    only_rested (update_errand c.args.work.now) (g.T.Twin.both c.args.twin.now) (g.T.Twin.both c.try_over.new.twin) (g.T.Twin.leaves c.args.twin.now) (g.T.Twin.leaves c.try_over.new.twin) f (c.try_over.ensures.rests told) rest are

pub returns-then-options-clause-written : goal.returns-then-options-clause-written
returns-then-options-clause-written g c = λ told. inl (none_of_same (g.T.Twin.both c.args.twin.now) (g.T.Twin.both c.try_over.new.twin) (c.try_over.ensures.rests told).files)
