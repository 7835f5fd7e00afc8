use Rattle.std.proofs.Common.{ap, ◌∙◌}
use Rattle.std.specs.Prelude.{false, ◌&&◌, ◌||◌}
use Rattle.abstract_monitor.specs.Commands.{command_of}
use Rattle.lab_walks.specs.declared.signs.Signs.{Signs}
use Rattle.lab_walks.specs.Serial.{is_one_at_a_time}
use Rattle.lab_walks.specs.Signs.{is_k04, is_k05, is_refused_in}
use Rattle.lab_orders.proofs.Commands.{acts_are_kept, did_command, seen_command}
use Rattle.lab_orders.proofs.step.do_core_command.Goals as goal

pub keep-requires : goal.keep-requires
keep-requires c =
    let app = c.args.core.application in
    let s = c.args.core.state in
    let exact = c.in_ok-next.ensures.exact in
    acts_are_kept c.steps_commit_once.ensures.tables c.args.core c.in_ok-next.next (command_of app s c.args.command.now) c.requires.beside.facts c.in_ok-next.ensures.facts c.in_ok-next.ensures.one.application exact.state (c.steps_commit_once.ensures.commands app s c.args.command.now) c.in_ok-next.acts exact.acts

pub returns-clause-done : goal.returns-clause-done
returns-clause-done c =
    let app = c.args.core.application in
    let s = c.args.core.state in
    did_command c.steps_commit_once.ensures.tables c.args.core c.in_ok-next.next c.args.command.now c.args.path.now _ c.requires.beside c.in_ok-next.ensures.facts c.in_ok-next.ensures.replays c.in_ok-next.ensures.one.application (c.steps_commit_once.ensures.commands app s c.args.command.now) c.in_ok-next.acts c.in_ok-next.ensures.exact
    c.in_ok-keep.ensures.turns c.in_ok-keep.ensures.sent c.in_ok-keep.ensures.durable
    (seen_command c.args.path.now.signs c.seen-path.result c.in_ok-next.next.state (c.seen-path.ensures.k04 ∙ ap (λ (x : Signs). x.k04 || is_refused_in is_k04 c.in_ok-next.next.state) c.in_ok-keep.ensures.signs) (c.seen-path.ensures.k05 ∙ ap (λ (x : Signs). x.k05 || is_refused_in is_k05 c.in_ok-next.next.state) c.in_ok-keep.ensures.signs)
    app s c.args.command.now c.requires.core_command c.in_ok-next.ensures.exact.state (c.seen-path.ensures.dump ∙ ap (λ (x : Signs). x.dump || false) c.in_ok-keep.ensures.signs))
    (c.is_serial-path.ensures ∙ ap (λ b. b && is_one_at_a_time c.in_ok-next.next.state) c.in_ok-keep.ensures.serial)
