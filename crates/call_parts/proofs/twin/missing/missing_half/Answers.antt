use Rattle.std.proofs.Common.{sym, subst}
use Rattle.std.specs.Prelude.{IsTrue}
use Rattle.kdcfile_double.specs.MakingLaws.{rests_then}
use Rattle.call_parts.proofs.twin.missing.missing_half.Goals as goal

pub returns-then-branch-2-clause-rests : goal.returns-then-branch-2-clause-rests
returns-then-branch-2-clause-rests g c = λ told.
    let a = g.T.Twin.both c.args.twin.now in
    let b = g.T.Twin.both c.is_missing.new.twin in
    let told_b : IsTrue b.told = subst IsTrue (sym c.is_missing.ensures.frame.told) told in
    rests_then a b (g.T.Twin.leaves c.args.twin.now) (g.T.Twin.leaves c.is_missing.new.twin) (c.is_missing.ensures.rests told) (g.T.Twin.both c.is_missing-2.new.twin) (g.T.Twin.leaves c.is_missing-2.new.twin) (c.is_missing-2.ensures.rests told_b)
