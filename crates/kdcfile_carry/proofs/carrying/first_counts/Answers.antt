use Rattle.kdcfile_carry.specs.Keeping.{files_in}
use Rattle.kdcfile_carry.specs.WritingLaws.{mends_nothing}
use Rattle.kdcfile_carry.proofs.Changing.{first_is_on}
use Rattle.kdcfile_carry.proofs.carrying.first_counts.Goals as goal

pub returns-in-First-clause-on_first : goal.returns-in-First-clause-on_first
returns-in-First-clause-on_first g c = λ told. first_is_on c.args.kept.now (g.T.Twin.both c.args.twin.now) (c.requires.is_in told) c.in-First.is

pub returns-in-First-clause-written : goal.returns-in-First-clause-written
returns-in-First-clause-written g c = λ told. mends_nothing (files_in c.args.kept.now) (g.T.Twin.both c.args.twin.now)
