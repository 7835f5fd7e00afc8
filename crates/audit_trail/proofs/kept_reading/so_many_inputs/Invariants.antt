use Rattle.std.proofs.Common.{◌≡◌, ◌-◌}
use Rattle.kd_base.specs.Tools.{onto_first}
use Rattle.record_codec.specs.Fields.{items, list_field}
use Rattle.audit_trail.proofs.kept_reading.so_many_inputs.Given as goal

abbrev pub invariant-loop : goal.invariant-loop
invariant-loop l = onto_first l.inputs (items list_field (l.fn.count - l.counter) l.reader) ≡ items list_field l.fn.count l.initial.reader
