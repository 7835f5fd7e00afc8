use Rattle.std.proofs.Common.{◌≡◌, ◌-◌, length, take}
use Rattle.std.specs.Int.{w8}
use Rattle.kd_base.specs.Tools.{onto_first}
use Rattle.record_codec.specs.Fields.{items, number_field}
use Rattle.audit_trail.specs.KeptReadings.{key_field}
use Rattle.audit_trail.proofs.kept_reading.key_bytes_in.Given as goal

abbrev pub invariant-loop-i : goal.invariant-loop-i
invariant-loop-i l = record {
  long : length l.bytes ≡ 24;
  so_far : onto_first (take l.i l.bytes) (items (number_field w8) (24 - l.i) l.reader) ≡ key_field l.initial.reader;
}
