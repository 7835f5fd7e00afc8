use Rattle.std.proofs.Common.{ap, arith}
use Rattle.kd_device.specs.declared.half.Half.TheVariants.{First}
use Rattle.kd_host.specs.Silent.{TwinCounts}
use Rattle.kd_host.proofs.twin.FileTwinTwin.emit.Goals as goal

pub spend-requires-clause-calls : goal.spend-requires-clause-calls
spend-requires-clause-calls g c = omega (arith, (c.requires First).calls, ap (λ (t : TwinCounts). t.spare_calls) c.self.view_is)

pub spend-requires-clause-bytes : goal.spend-requires-clause-bytes
spend-requires-clause-bytes g c = omega (arith, (c.requires First).bytes, ap (λ (t : TwinCounts). t.spare_bytes) c.self.view_is)
