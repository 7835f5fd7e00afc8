use Rattle.laws_of_runs.proofs.Committed.{turns_commit, commands_commit, histories_are_serial}
use Rattle.abstract_monitor.specs.Commands.{started}
use Rattle.laws_of_runs.proofs.commits_are_serial.Goals as goal

pub returns : goal.returns
returns c =
    let keeps = c.replays_hold_along_every_script.ensures.steps in
    record {
      turns = turns_commit;
      commands = commands_commit;
      histories = histories_are_serial keeps;
      runs = λ app t script application fits order suits. histories_are_serial keeps app (started app t) script application fits (keeps.starts app t application order suits);
    }
