use Rattle.abstract_monitor.specs.Commands.{started}
use Rattle.abstract_monitor.specs.Trace.{history, trace}
use Rattle.laws_of_runs.specs.RunLaws.{HistoriesMakeTables}
use Rattle.laws_of_runs.proofs.Histories.{history_once, each_makes, tables_made}
use Rattle.laws_of_runs.proofs.commits_make_the_tables.Goals as goal

pub returns : goal.returns
unfolding started trace
returns c =
    let once = history_once c.steps_commit_once.ensures.turns c.steps_commit_once.ensures.commands in
    let each : HistoriesMakeTables = λ app s script application names facts.
    each_makes c.steps_commit_once.ensures.tables app s (history app s script) facts.1.order (once app s script) (c.facts_hold_along_every_script.ensures.steps app s script application names facts) in
    record {
      once = once;
      each = each;
      tables = λ app t script application names order suits.
          tables_made app (started app t) (history app (started app t) script)
          (each app (started app t) script application names (c.facts_hold_along_every_script.ensures.starts app t application order suits));
    }
