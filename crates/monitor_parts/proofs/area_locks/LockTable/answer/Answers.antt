use Rattle.std.proofs.Common.{◌∙◌, sym}
use Rattle.monitor_parts.proofs.area_locks.Answering.{nobodys, own, anothers}
use Rattle.monitor_parts.proofs.area_locks.LockTable.answer.Goals as goal

pub returns-in-None : goal.returns-in-None
returns-in-None c = nobodys c.args.self.now c.args.reswait c.args.now c.args.who.now c.args.area.now (sym c.requires ∙ c.in-None.is)

pub returns-in-Some : goal.returns-in-Some
returns-in-Some c = own c.args.self.now c.args.reswait c.args.now c.args.who.now c.args.area.now c.in-Some.other (sym c.requires ∙ c.in-Some.is) (sym c.eq.ensures ∙ c.if-eq.true)

pub returns-in-Some-2 : goal.returns-in-Some-2
returns-in-Some-2 c =
    rw (c.refused.ensures, c.is_deadlocked.ensures, c.is_late.ensures)
    (anothers c.args.self.now c.args.reswait c.args.now c.args.who.now c.args.area.now c.in-Some.other (sym c.requires ∙ c.in-Some.is) (sym c.eq.ensures ∙ c.if-eq.false))
