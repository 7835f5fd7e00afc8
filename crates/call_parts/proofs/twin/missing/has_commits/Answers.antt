use Rattle.kdcfile_double.specs.CommitTwoLaws.{one_frame}
use Rattle.call_parts.proofs.Missing.{half_rests}
use Rattle.call_parts.proofs.twin.missing.has_commits.Goals as goal

pub returns-in_err-found-clause-rests : goal.returns-in_err-found-clause-rests
returns-in_err-found-clause-rests g c = λ told.
    half_rests c.args.half (g.T.Twin.both c.args.twin.now) (g.T.Twin.both c.load_half.new.twin) (g.T.Twin.leaves c.args.twin.now) (g.T.Twin.leaves c.load_half.new.twin) (λ x y out left. g.met.T.Twin.sent_now c.args.twin.now x y out told left) (c.load_half.ensures.rests told) (c.load_half.ensures.any_moment told) c.load_half.ensures.other_half (c.load_half.ensures.other_stays told)

pub returns-clause-rests : goal.returns-clause-rests
returns-clause-rests g c = λ told.
    half_rests c.args.half (g.T.Twin.both c.args.twin.now) (g.T.Twin.both c.load_half.new.twin) (g.T.Twin.leaves c.args.twin.now) (g.T.Twin.leaves c.load_half.new.twin) (λ x y out left. g.met.T.Twin.sent_now c.args.twin.now x y out told left) (c.load_half.ensures.rests told) (c.load_half.ensures.any_moment told) c.load_half.ensures.other_half (c.load_half.ensures.other_stays told)

pub returns-clause-frame : goal.returns-clause-frame
returns-clause-frame g c = one_frame c.args.half (g.T.Twin.both c.args.twin.now) (g.T.Twin.both c.load_half.new.twin) c.load_half.ensures.frame c.load_half.ensures.names c.load_half.ensures.other_half (λ told. (c.load_half.ensures.rests told).sent)
