use Rattle.std.proofs.Common.{◌≡◌, take, fold}
use Rattle.application_types.specs.Hashing.{mixed}
use Rattle.application_types.proofs.generation.hashing.NameHasherHasher.write.Given as goal

abbrev pub invariant-loop-byte : goal.invariant-loop-byte
invariant-loop-byte l = l.self ≡ fold mixed l.fn.self (take l.byte-index l.bytes)
