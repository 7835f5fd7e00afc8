use Rattle.std.proofs.Common.{◌<◌, length, arith, length-set}
use Rattle.texts.specs.FirstsLaws.{first_is}
use Rattle.kdcdef_read.proofs.Passwords.{byte_more, byte_too_many}
use Rattle.kdcdef_read.proofs.password.Password.from_quoted.Goals as goal

pub returns-then-used-eq16 : goal.returns-then-used-eq16
returns-then-used-eq16 c =
    byte_too_many c.loop-byte.cells c.loop-byte.left c.in-Some.rest c.args.bytes.now c.in-Some.byte c.loop-byte.invariant.size (first_is c.loop-byte.left c.in-Some.rest c.in-Some.byte c.in-Some.ensures)
    (rw c.if-used-eq16.true at c.loop-byte.invariant.so_far)

pub loop-byte-preserved : goal.loop-byte-preserved
loop-byte-preserved c =
    let within : c.loop-byte.used < length c.loop-byte.cells = omega (arith, c.loop-byte.invariant.size, c.loop-byte.invariant.used, c.if-used-eq16.false) in
    record {
      so_far = byte_more c.loop-byte.cells c.loop-byte.left c.in-Some.rest c.args.bytes.now c.loop-byte.used c.in-Some.byte within (first_is c.loop-byte.left c.in-Some.rest c.in-Some.byte c.in-Some.ensures) c.loop-byte.invariant.so_far;
      used = omega (arith, within, c.loop-byte.invariant.size);
      size = omega (arith, length-set c.loop-byte.cells c.loop-byte.used c.in-Some.byte, c.loop-byte.invariant.size);
    }
