use Rattle.std.specs.Prelude.{refl}
use Rattle.serial_audit.proofs.Ends.{broken_are}
use Rattle.serial_audit.proofs.ending.end_broken.Goals as goal

pub returns : goal.returns
returns c = broken_are c.args.replay.now c.args.transaction c.requires.stands (record { changes = c.in_ok-changes.changes; ending = c.args.ending }) c.args.ending c.in_ok-changes.ensures.changes refl
