-- How many calls of each kind were made on one side, how many of them failed, and which the next one to fail is.
use Rattle.std.specs.Prelude.{◌⊎◌, ℕ, Bool, if◌then◌else◌, List}
use Rattle.std.specs.List.{Contains}
use Rattle.kd_device.specs.Count.{raised}
use Rattle.kd_device.specs.declared.kind.CallKind.{CallKind}
use Rattle.kd_device.specs.declared.kind.CallKind.TheVariants.{Attach, Size, Read, Write, Sync, Emit}
use Rattle.kd_device.specs.declared.half.Half.{Half}
use Rattle.kd_device.specs.declared.half.Half.TheVariants.{First, Second}
use Rattle.kd_device.specs.declared.tally.Tally.{Tally}

abbrev pub none : Tally
none = record { attach = 0; size = 0; read = 0; write = 0; sync = 0; emit = 0; faults = 0 }

abbrev pub number_of : CallKind → Tally → ℕ
number_of Attach t = t.attach
number_of Size t = t.size
number_of Read t = t.read
number_of Write t = t.write
number_of Sync t = t.sync
number_of Emit t = t.emit

-- after one call more of this kind
abbrev pub with_call : CallKind → Tally → Tally
with_call Attach t = record t { attach = raised t.attach }
with_call Size t = record t { size = raised t.size }
with_call Read t = record t { read = raised t.read }
with_call Write t = record t { write = raised t.write }
with_call Sync t = record t { sync = raised t.sync }
with_call Emit t = record t { emit = raised t.emit }

-- after one call more of this kind, which may have failed
abbrev pub after_call : CallKind → Bool → Tally → Tally
after_call kind fails t = if fails then record (with_call kind t) { faults = raised t.faults } else with_call kind t

-- the next call of this kind on this half is among those that fail, which go by their numbers, counted from 1 for each
-- half and kind
abbrev pub FailsNext : List (Half × CallKind × ℕ) → Half → CallKind → Tally → Type 0
FailsNext failing half kind t = Contains failing (half, kind, raised (number_of kind t))

-- so is the next emit; the half beside it is not looked at
abbrev pub EmitFailsNext : List (Half × CallKind × ℕ) → Tally → Type 0
EmitFailsNext failing t = FailsNext failing First Emit t ⊎ FailsNext failing Second Emit t
