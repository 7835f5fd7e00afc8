use Rattle.kdcfile_layout.proofs.Several.{Writing}
use Rattle.kdcfile_layout.proofs.writes.write_all.Given as goal

abbrev pub invariant-loop-write : goal.invariant-loop-write
invariant-loop-write g l = Writing l.writes l.write-index (g.D.Device.state l.fn.device) (g.D.Device.state l.device) (g.D.Device.leaves l.fn.device) (g.D.Device.leaves l.device)
