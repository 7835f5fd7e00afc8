use Rattle.kdcfile_double.specs.MendLaws.{both_rest, each_rests}
use Rattle.kdcfile_carry.proofs.Steps.{second_fine, second_frame}
use Rattle.kdcfile_carry.proofs.gate.shut_second.Goals as goal

pub shut_gate-requires : goal.shut_gate-requires
shut_gate-requires g c = record { at_rest = λ told. each_rests (g.T.Twin.both c.args.twin.now) (g.T.Twin.leaves c.args.twin.now) (c.requires.at_rest told) }

pub returns-in-Ok-clause-at_rest : goal.returns-in-Ok-clause-at_rest
returns-in-Ok-clause-at_rest g c = λ told. both_rest (g.T.Twin.both c.shut_gate.new.twin) (g.T.Twin.leaves c.shut_gate.new.twin) (c.in-Ok.ensures.rest told)

pub returns-in-Ok-clause-sent : goal.returns-in-Ok-clause-sent
returns-in-Ok-clause-sent g c = λ told. (c.shut_gate.ensures.any_moment told).sent

pub returns-in-Ok-clause-any_moment : goal.returns-in-Ok-clause-any_moment
returns-in-Ok-clause-any_moment g c = λ told. (c.shut_gate.ensures.any_moment told).leaves

pub returns-in-Ok-clause-fine : goal.returns-in-Ok-clause-fine
returns-in-Ok-clause-fine g c = λ none. second_fine (g.T.Twin.both c.args.twin.now) (g.T.Twin.both c.shut_gate.new.twin) c.shut_gate.ensures.goes c.shut_gate.ensures.other_half (c.in-Ok.ensures.fine (λ is. absurd cc))

pub returns-in-Ok-clause-frame : goal.returns-in-Ok-clause-frame
returns-in-Ok-clause-frame g c = second_frame (g.T.Twin.both c.args.twin.now) (g.T.Twin.both c.shut_gate.new.twin) c.shut_gate.ensures.goes (λ told. (c.shut_gate.ensures.any_moment told).sent)

pub returns-in-Err-Target-clause-sent : goal.returns-in-Err-Target-clause-sent
returns-in-Err-Target-clause-sent g c = λ told. (c.shut_gate.ensures.any_moment told).sent

pub returns-in-Err-Target-clause-any_moment : goal.returns-in-Err-Target-clause-any_moment
returns-in-Err-Target-clause-any_moment g c = λ told. (c.shut_gate.ensures.any_moment told).leaves

pub returns-in-Err-Target-clause-frame : goal.returns-in-Err-Target-clause-frame
returns-in-Err-Target-clause-frame g c = second_frame (g.T.Twin.both c.args.twin.now) (g.T.Twin.both c.shut_gate.new.twin) c.shut_gate.ensures.goes (λ told. (c.shut_gate.ensures.any_moment told).sent)

pub returns-in-Err-Memory-clause-sent : goal.returns-in-Err-Memory-clause-sent
returns-in-Err-Memory-clause-sent g c = λ told. (c.shut_gate.ensures.any_moment told).sent

pub returns-in-Err-Memory-clause-any_moment : goal.returns-in-Err-Memory-clause-any_moment
returns-in-Err-Memory-clause-any_moment g c = λ told. (c.shut_gate.ensures.any_moment told).leaves

pub returns-in-Err-Memory-clause-fine : goal.returns-in-Err-Memory-clause-fine
returns-in-Err-Memory-clause-fine g c = λ none.
    second_fine (g.T.Twin.both c.args.twin.now) (g.T.Twin.both c.shut_gate.new.twin) c.shut_gate.ensures.goes c.shut_gate.ensures.other_half (c.in-Err-Memory.ensures.fine (λ is. (let e = c.in-Err-Memory.field-0-is in absurd cc)))

pub returns-in-Err-Memory-clause-frame : goal.returns-in-Err-Memory-clause-frame
returns-in-Err-Memory-clause-frame g c = second_frame (g.T.Twin.both c.args.twin.now) (g.T.Twin.both c.shut_gate.new.twin) c.shut_gate.ensures.goes (λ told. (c.shut_gate.ensures.any_moment told).sent)
