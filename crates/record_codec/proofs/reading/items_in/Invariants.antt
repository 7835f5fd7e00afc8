use Rattle.std.proofs.Common.{◌≡◌, ◌-◌}
use Rattle.kd_base.specs.Tools.{onto_first}
use Rattle.record_codec.specs.Fields.{items}
use Rattle.record_codec.proofs.reading.items_in.Given as goal

abbrev pub invariant-loop : goal.invariant-loop
invariant-loop g l = onto_first l.items (items g.T.Item.reading (l.fn.count - l.counter) l.reader) ≡ items g.T.Item.reading l.fn.count l.initial.reader
