use Rattle.kdcfile_layout.specs.Joined.{AreJoined}
use Rattle.kdcfile_layout.proofs.joining.joined.Given as goal

abbrev pub invariant-loop-write : goal.invariant-loop-write
invariant-loop-write l = AreJoined l.yielded l.out.items
