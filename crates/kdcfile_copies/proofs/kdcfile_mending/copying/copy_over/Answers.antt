use Rattle.kdcfile_copies.proofs.kdcfile_mending.Halves.{other_back, frame_of, names_of, source_rests}
use Rattle.kdcfile_copies.proofs.kdcfile_mending.copying.copy_over.Goals as goal

pub mend-requires-clause-source : goal.mend-requires-clause-source
mend-requires-clause-source g c = rw (other_back c.args.source c.other_half.result c.other_half.ensures) c.requires.open

pub returns-clause-failed_source : goal.returns-clause-failed_source
returns-clause-failed_source g c = rw (← other_back c.args.source c.other_half.result c.other_half.ensures) c.mend.ensures.failed_source

pub returns-clause-failed_target : goal.returns-clause-failed_target
returns-clause-failed_target g c = rw (← c.other_half.ensures) c.mend.ensures.failed_target

pub returns-clause-fine_source : goal.returns-clause-fine_source
returns-clause-fine_source g c = rw (← other_back c.args.source c.other_half.result c.other_half.ensures) c.mend.ensures.fine_source

pub returns-clause-fine_target : goal.returns-clause-fine_target
returns-clause-fine_target g c = rw (← c.other_half.ensures) c.mend.ensures.fine_target

pub returns-clause-line : goal.returns-clause-line
returns-clause-line g c = c.mend.ensures.goes.line

pub returns-clause-frame : goal.returns-clause-frame
returns-clause-frame g c = frame_of c.other_half.result _ _ c.mend.ensures.goes

pub returns-clause-names : goal.returns-clause-names
returns-clause-names g c = names_of c.other_half.result _ _ c.mend.ensures.goes

pub returns-clause-sent : goal.returns-clause-sent
returns-clause-sent g c = λ told. (c.mend.ensures.any_moment told).sent

pub returns-clause-source : goal.returns-clause-source
returns-clause-source g c =
    rw (← other_back c.args.source c.other_half.result c.other_half.ensures)
    (λ told. record { holds = (c.mend.ensures.any_moment told).source; put = (c.mend.ensures.any_moment told).source_put; names = c.mend.ensures.goes.source_names })

pub returns-clause-source_rests : goal.returns-clause-source_rests
returns-clause-source_rests g c =
    rw (← other_back c.args.source c.other_half.result c.other_half.ensures) (λ told. source_rests c.other_half.result _ _ _ _ _ (c.mend.ensures.any_moment told))

pub returns-clause-any_moment : goal.returns-clause-any_moment
returns-clause-any_moment g c =
    rw (← c.other_half.ensures, ← other_back c.args.source c.other_half.result c.other_half.ensures) (λ told. (c.mend.ensures.any_moment told).leaves)

pub returns-clause-copied : goal.returns-clause-copied
returns-clause-copied g c = rw (← c.other_half.ensures, ← other_back c.args.source c.other_half.result c.other_half.ensures) c.mend.ensures.copied

pub returns-clause-put_most : goal.returns-clause-put_most
returns-clause-put_most g c = rw (← c.other_half.ensures, ← other_back c.args.source c.other_half.result c.other_half.ensures) c.mend.ensures.put_most
