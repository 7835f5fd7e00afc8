use Rattle.std.proofs.Common.{◌≡◌, ◌++◌, drop}
use Rattle.abstract_monitor.specs.Endings.{joined}
use Rattle.open_transaction.proofs.open.OpenTransaction.message.Given as goal

abbrev pub invariant-loop-part : goal.invariant-loop-part
invariant-loop-part l = l.message ++ joined (drop l.part-index l.part-items) ≡ joined l.self.messages.parts
