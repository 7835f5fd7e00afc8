use Rattle.std.proofs.Common.{[]}
use Rattle.kdcfile_double.specs.CommitTwoLaws.{one_frame}
use Rattle.call_parts.proofs.twin.opening.Attached.{quiet_rests}
use Rattle.call_parts.proofs.twin.missing.is_empty.Goals as goal

pub returns-in_err-size-clause-rests : goal.returns-in_err-size-clause-rests
returns-in_err-size-clause-rests g c = λ told. quiet_rests c.args.half (g.T.Twin.both c.args.twin.now) (g.T.Twin.both c.size.new.self) (g.T.Twin.leaves c.args.twin.now) (g.T.Twin.leaves c.size.new.self) (c.size.ensures.content told) c.size.ensures.other_half

pub returns-in_err-size-clause-frame : goal.returns-in_err-size-clause-frame
returns-in_err-size-clause-frame g c = one_frame c.args.half (g.T.Twin.both c.args.twin.now) (g.T.Twin.both c.size.new.self) c.size.ensures.frame c.size.ensures.names c.size.ensures.other_half (λ told. (c.size.ensures.content told []).sent)

pub returns-clause-rests : goal.returns-clause-rests
returns-clause-rests g c = λ told. quiet_rests c.args.half (g.T.Twin.both c.args.twin.now) (g.T.Twin.both c.size.new.self) (g.T.Twin.leaves c.args.twin.now) (g.T.Twin.leaves c.size.new.self) (c.size.ensures.content told) c.size.ensures.other_half

pub returns-clause-frame : goal.returns-clause-frame
returns-clause-frame g c = one_frame c.args.half (g.T.Twin.both c.args.twin.now) (g.T.Twin.both c.size.new.self) c.size.ensures.frame c.size.ensures.names c.size.ensures.other_half (λ told. (c.size.ensures.content told []).sent)
