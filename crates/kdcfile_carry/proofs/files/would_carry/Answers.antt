use Rattle.kdcfile_carry.specs.Keeping.{files_in}
use Rattle.kdcfile_carry.proofs.Found.{refusal, spent_are}
use Rattle.kdcfile_carry.proofs.files.would_carry.Goals as goal

pub returns-clause-refused : goal.returns-clause-refused
returns-clause-refused g c = λ why is told.
    refusal c.args.generation.now c.args.fingerprint.now (files_in c.in_ok-kept.kept) (g.T.Twin.both c.args.twin.now).first.holds (g.T.Twin.both c.args.twin.now).second.holds (c.in_ok-kept.ensures.is_in told).files why (c.would_be.ensures.refused why is)

pub returns-clause-spent : goal.returns-clause-spent
returns-clause-spent g c = λ n is told.
    spent_are c.args.generation.now c.args.fingerprint.now (files_in c.in_ok-kept.kept) (g.T.Twin.both c.args.twin.now).first.holds (g.T.Twin.both c.args.twin.now).second.holds (c.in_ok-kept.ensures.is_in told).files n (c.would_be.ensures.spent n is)
