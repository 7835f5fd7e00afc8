use Rattle.abstract_monitor.specs.Commands.{started}
use Rattle.abstract_monitor.specs.Trace.{history}
use Rattle.laws_of_runs.specs.LawfulLaws.{all_lawful}
use Rattle.laws_of_runs.proofs.laws_of_jobs.runs_are_lawful.Goals as goal

pub returns : goal.returns
returns c =
    let facts = c.facts_hold_along_every_script.ensures in
    let tables = c.commits_make_the_tables.ensures in
    let queues = c.runs_keep_queues.ensures in
    record {
      histories = λ app s script application names has.
          all_lawful app s (history app s script) (tables.once app s script) (tables.each app s script application names has.0) (queues.laws app s script application names has.0)
          (c.commits_are_serial.ensures.histories app s script application names has) (queues.messages app s script application names has.0);
      runs = λ app t script application names order suits.
          let s = started app t in
          let starts = facts.starts app t application order suits in
          all_lawful app s (history app s script) (tables.once app s script) (tables.each app s script application names starts) (queues.laws app s script application names starts)
          (c.commits_are_serial.ensures.runs app t script application names order suits) (queues.messages app s script application names starts);
    }
