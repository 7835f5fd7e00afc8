use Rattle.std.proofs.Common.{◌≡◌, ◌-◌}
use Rattle.kd_base.specs.Tools.{onto}
use Rattle.kdcfile_layout.specs.Slots.{slots_of}
use Rattle.kdcfile_layout.proofs.kdcfile_read.slot.slots_of.Given as goal

abbrev pub invariant-loop : goal.invariant-loop
invariant-loop l = onto l.slots (slots_of (l.fn.count - l.counter) l.left) ≡ slots_of l.fn.count l.fn.page
