use Rattle.std.specs.Prelude.{IfOk}
use Rattle.std.proofs.Common.{subst}
use Rattle.serial_audit.specs.Opening.{IsOpened}
use Rattle.serial_audit.proofs.Opens.{began_lterm, began_order, started}
use Rattle.serial_audit.proofs.opening.open.Goals as goal

pub open_dialogue-requires-clause-order : goal.open_dialogue-requires-clause-order
open_dialogue-requires-clause-order c = began_order c.args.replay.now c.in-Dialogue-Some.row c.requires.auditable c.requires.can c.in-Dialogue-Some.is-1

pub open_from_row-requires : goal.open_from_row-requires
open_from_row-requires c = began_order c.args.replay.now c.in-Asynchronous-Some.row c.requires.auditable c.requires.can c.in-Asynchronous-Some.is-1

pub unreachable-requires-in-None-lterm : goal.unreachable-requires-in-None-lterm
unreachable-requires-in-None-lterm c = began_lterm c.args.replay.now c.in-Asynchronous-Some.field-0-0 c.in-Asynchronous-Some.row c.requires.auditable c.requires.can c.in-Asynchronous-Some.is-0 c.in-Asynchronous-Some.is-1 c.in-None-lterm.is

pub returns-in-Dialogue-None : goal.returns-in-Dialogue-None
returns-in-Dialogue-None c = subst (λ x. IfOk c.open_with_input.result (IsOpened c.args.replay.now x)) (started c.args.replay.now c.in-Dialogue-None.user c.in-Dialogue-None.is-0 c.in-Dialogue-None.is-1 c.args.names.tac c.args.names.lterm c.requires.tac c.requires.lterm) c.open_with_input.ensures
