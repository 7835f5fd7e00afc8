use Rattle.std.proofs.Common.{◌≡◌, ◌+◌, length, take}
use Rattle.kdcfile_layout.specs.Series.{together}
use Rattle.kdcfile_layout.proofs.PartByPart.{Laid}
use Rattle.kdcfile_layout.proofs.series.write_parts.Given as goal

abbrev pub invariant-loop-part : goal.invariant-loop-part
invariant-loop-part g l =
    let so_far = together (take l.part-index l.parts) in
    (l.place ≡ l.at + length so_far) × Laid l.at so_far l.part-index (g.D.Device.state l.fn.device) (g.D.Device.state l.device) (g.D.Device.leaves l.fn.device) (g.D.Device.leaves l.device)
