use Rattle.std.proofs.Common.{sym, ◌∙◌}
use Rattle.std.proofs.lemmas.Result.{on_ok_weaker}
use Rattle.kdcs_types.specs.declared.key.ServiceId.TheVariants.{Dialogue}
use Rattle.service_ends.specs.KeptLaws.{found_open}
use Rattle.service_ends.specs.Standing.{state_of}
use Rattle.service_ends.specs.Whole.{app_of}
use Rattle.monitor_core.proofs.Entering.{row_order}
use Rattle.monitor_core.proofs.Starts.{awaiting_closed, awaiting_row, next_kept, next_row}
use Rattle.monitor_core.proofs.starting.next_input.Goals as goal
use Rattle.laws_of_states.specs.CommandedLaws.{awaits_not_running}

pub follow_keep-requires-clause-rests : goal.follow_keep-requires-clause-rests
follow_keep-requires-clause-rests c = awaits_not_running (state_of c.args.parts.now) c.args.user.now c.requires.awaits

pub returns-then-contains_key-clause-state : goal.returns-then-contains_key-clause-state
returns-then-contains_key-clause-state c =
    on_ok_weaker c.follow_keep.result
    (next_kept (app_of c.args.parts.now) (state_of c.args.parts.now) c.args.user.now c.args.lterm.now c.args.text (state_of c.follow_keep.new.parts)
    (sym (found_open c.args.parts.now.active (Dialogue c.args.user.now)) ∙ sym c.contains_key.ensures ∙ c.if-contains_key.true))
    c.follow_keep.ensures.state

pub unreachable-requires : goal.unreachable-requires
unreachable-requires c =
    awaiting_row (state_of c.args.parts.now) c.args.user.now
    (awaiting_closed c.args.parts.now c.args.user.now c.contains_key.result c.contains_key.ensures c.if-contains_key.false c.requires.awaits)
    (sym c.in_default.is ∙ c.in_ok-row.ensures) c.requires.awaits

pub open_with-requires-clause-order : goal.open_with-requires-clause-order
open_with-requires-clause-order c = row_order c.args.parts.now.tables (Dialogue c.args.user.now) c.in-Some.row c.requires.whole.facts.1.order (sym c.in-Some.is ∙ c.in_ok-row.ensures)

pub open_with-requires-clause-rests : goal.open_with-requires-clause-rests
open_with-requires-clause-rests c =
    awaiting_closed c.args.parts.now c.args.user.now c.contains_key.result c.contains_key.ensures c.if-contains_key.false c.requires.awaits

pub returns-clause-state : goal.returns-clause-state
returns-clause-state c =
    on_ok_weaker c.open_with.result
    (next_row (app_of c.args.parts.now) (state_of c.args.parts.now) c.args.user.now c.args.lterm.now c.args.text
    (awaiting_closed c.args.parts.now c.args.user.now c.contains_key.result c.contains_key.ensures c.if-contains_key.false c.requires.awaits)
    c.in-Some.row (sym c.in-Some.is ∙ c.in_ok-row.ensures) _ c.header_of_row-header.ensures (state_of c.open_with.new.parts))
    c.open_with.ensures.state
