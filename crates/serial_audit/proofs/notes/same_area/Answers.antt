use Rattle.serial_audit.proofs.NotesOn.{area_iff}
use Rattle.serial_audit.proofs.notes.same_area.Goals as goal

pub returns : goal.returns
returns c = area_iff c.args.a.now c.args.b.now c.eq.result c.eq.ensures
