use Rattle.std.proofs.Common.{◌≡◌, ◌*◌, ℕ, [], take, drop}
use Rattle.std.specs.Prelude.{IsTrue}
use Rattle.kdcfile_layout.specs.Layout.{slots_in_page}
use Rattle.kdcfile_layout.specs.Places.{At}
use Rattle.kdcfile_layout.specs.Fields.{AreBytes}
use Rattle.kdcfile_layout.specs.Chains.{page_at}
use Rattle.kdcfile_load.specs.Reads.{directory_from, AreFirsts}
use Rattle.kdcfile_load.proofs.Rested.{Rested}
use Rattle.kdcfile_load.proofs.directory.read_directory.Given as goal

abbrev pub invariant-loop-page : goal.invariant-loop-page
invariant-loop-page g l = record {
  rested : Rested (g.D.Device.state l.fn.device) (g.D.Device.state l.device) (g.D.Device.leaves l.fn.device) (g.D.Device.leaves l.device);
  are : AreFirsts (l.page-index * slots_in_page l.size) l.slots;
  bytes : IsTrue (g.D.Device.state l.fn.device).told → (k p : ℕ) → At (take l.page-index l.directory) k p → AreBytes (page_at l.size (g.D.Device.state l.fn.device).holds p);
  so_far : IsTrue (g.D.Device.state l.fn.device).told → directory_from l.size l.count (g.D.Device.state l.fn.device).holds l.slots (drop l.page-index l.directory) ≡ directory_from l.size l.count (g.D.Device.state l.fn.device).holds [] l.directory;
}
