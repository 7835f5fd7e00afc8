use Rattle.serial_audit.proofs.NotesOn.{notes_differ, notes_iff}
use Rattle.serial_audit.proofs.notes.same_notes.Goals as goal

pub returns-then-same_on_each : goal.returns-then-same_on_each
returns-then-same_on_each c = notes_iff c.args.a.now c.args.b.now c.same_on_each.result c.same_on_each-then-same_on_each.result c.same_on_each.ensures c.if-same_on_each.true c.same_on_each-then-same_on_each.ensures

pub returns-else-same_on_each : goal.returns-else-same_on_each
returns-else-same_on_each c = notes_differ c.args.a.now c.args.b.now c.same_on_each.result c.same_on_each.ensures c.if-same_on_each.false
