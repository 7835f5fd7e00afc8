use Rattle.abstract_monitor.specs.declared.command.Command.TheVariants.{Turn}
use Rattle.std.proofs.Common.{ap, ◌∙◌}
use Rattle.std.specs.Prelude.{◌&&◌, ◌||◌}
use Rattle.abstract_monitor.specs.Commands.{command_of, maker_of}
use Rattle.lab_walks.specs.declared.signs.Signs.{Signs}
use Rattle.lab_walks.specs.Serial.{is_one_at_a_time}
use Rattle.lab_walks.specs.Signs.{is_dump, is_k04, is_k05, is_refused_in}
use Rattle.lab_orders.proofs.Commands.{acts_are_kept, did_command, seen_turn, turn_comes, turn_commits}
use Rattle.lab_orders.proofs.step.do_turn.Goals as goal

pub keep-requires : goal.keep-requires
keep-requires c =
    let app = c.args.core.application in
    let s = c.args.core.state in
    let comes = turn_comes app s c.in_ok-next.next.state c.args.task c.in_ok-next.did c.in_ok-next.ensures.exact in
    acts_are_kept c.steps_commit_once.ensures.tables c.args.core c.in_ok-next.next (command_of app s (Turn c.args.task)) c.requires.beside.facts c.in_ok-next.ensures.facts c.in_ok-next.ensures.one.application comes.state (turn_commits app s c.args.task (c.steps_commit_once.ensures.turns app s c.args.task)) c.in_ok-next.did.acts comes.acts

pub returns-clause-done : goal.returns-clause-done
returns-clause-done c =
    let app = c.args.core.application in
    let s = c.args.core.state in
    let comes = turn_comes app s c.in_ok-next.next.state c.args.task c.in_ok-next.did c.in_ok-next.ensures.exact in
    did_command c.steps_commit_once.ensures.tables c.args.core c.in_ok-next.next (Turn c.args.task) c.args.path.now _ c.requires.beside c.in_ok-next.ensures.facts c.in_ok-next.ensures.replays c.in_ok-next.ensures.one.application (turn_commits app s c.args.task (c.steps_commit_once.ensures.turns app s c.args.task)) c.in_ok-next.did.acts comes
    c.in_ok-keep.ensures.turns c.in_ok-keep.ensures.sent c.in_ok-keep.ensures.durable
    (seen_turn c.args.path.now.signs c.seen-path.result c.in_ok-next.next.state (c.seen-path.ensures.k04 ∙ ap (λ (x : Signs). x.k04 || is_refused_in is_k04 c.in_ok-next.next.state) c.in_ok-keep.ensures.signs) (c.seen-path.ensures.k05 ∙ ap (λ (x : Signs). x.k05 || is_refused_in is_k05 c.in_ok-next.next.state) c.in_ok-keep.ensures.signs)
    app s c.args.task c.in_ok-next.did c.in_ok-next.ensures.exact (c.seen-path.ensures.dump ∙ ap (λ (x : Signs). x.dump || is_dump (maker_of c.in_ok-next.did.settled)) c.in_ok-keep.ensures.signs))
    (c.is_serial-path.ensures ∙ ap (λ b. b && is_one_at_a_time c.in_ok-next.next.state) c.in_ok-keep.ensures.serial)
