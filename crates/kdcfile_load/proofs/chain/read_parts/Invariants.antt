use Rattle.std.proofs.Common.{◌≡◌}
use Rattle.std.specs.Prelude.{IsTrue}
use Rattle.kdcfile_load.specs.Reads.{page_in}
use Rattle.kdcfile_load.proofs.SoFar.{Reading}
use Rattle.kdcfile_load.proofs.chain.read_parts.Given as goal

abbrev pub invariant-loop-part : goal.invariant-loop-part
invariant-loop-part g l = record {
  reading :
      Reading l.size l.count l.key l.whole l.pages l.first l.part l.room l.page l.found.pages l.found.value (g.D.Device.state l.fn.device) (g.D.Device.state l.device) (g.D.Device.leaves l.fn.device) (g.D.Device.leaves l.device);
  page : IsTrue (g.D.Device.state l.fn.device).told → l.bytes.items ≡ page_in l.size l.count (g.D.Device.state l.fn.device).holds l.page;
}
