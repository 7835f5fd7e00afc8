use Rattle.std.proofs.Common.{◌≡◌, ◌-◌}
use Rattle.kd_base.specs.Tools.{onto_first}
use Rattle.record_codec.specs.Fields.{items}
use Rattle.audit_trail.specs.KeptReadings.{note_reading}
use Rattle.audit_trail.proofs.kept_reading.so_many_notes.Given as goal

abbrev pub invariant-loop : goal.invariant-loop
invariant-loop l = onto_first l.notes (items note_reading (l.fn.count - l.counter) l.reader) ≡ items note_reading l.fn.count l.initial.reader
