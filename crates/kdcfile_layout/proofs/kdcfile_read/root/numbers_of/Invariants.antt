use Rattle.std.proofs.Common.{◌≡◌, ◌-◌}
use Rattle.kd_base.specs.Tools.{onto}
use Rattle.kdcfile_layout.specs.Reading.{numbers_of}
use Rattle.kdcfile_layout.proofs.kdcfile_read.root.numbers_of.Given as goal

abbrev pub invariant-loop : goal.invariant-loop
invariant-loop l = onto l.numbers (numbers_of (l.fn.count - l.counter) l.left) ≡ numbers_of l.fn.count l.fn.bytes
