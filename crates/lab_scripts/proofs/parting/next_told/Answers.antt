use Rattle.std.proofs.Common.{◌∙◌}
use Rattle.laws_of_runs.specs.Applied.{applied}
use Rattle.lab_scripts.proofs.Next.{kept_all, next_names, next_tells}
use Rattle.lab_scripts.proofs.parting.next_told.Goals as goal

pub perform_all-requires-2 : goal.perform_all-requires-2
perform_all-requires-2 c = record {
  names = next_names (applied c.args.setting.generation c.args.setting.units) c.in_ok-bench-2.bench.application c.args.commands.now c.args.at c.split_at.result.1.now c.first_of.result.now (c.in_ok-bench-2.ensures.done.application ∙ c.in_ok-bench.ensures.application) c.split_at.ensures.back c.first_of.ensures c.requires.names;
}

pub returns-clause-told : goal.returns-clause-told
returns-clause-told c =
    let heard = c.in_ok-bench-3.ensures.heard in (
      heard.0,
      next_tells (applied c.args.setting.generation c.args.setting.units) c.args.tables.now c.in_ok-clone.field-0 c.args.commands.now c.args.at c.in_ok-bench.bench c.in_ok-bench-2.bench c.split_at.result.0.now c.split_at.result.1.now c.first_of.result.now heard.0 c.in_ok-clone.ensures.cases c.in_ok-bench.ensures.application c.in_ok-bench.ensures.state c.in_ok-bench-2.ensures.done c.split_at.ensures.front c.split_at.ensures.back c.first_of.ensures heard.1,
      kept_all c.new.result c.perform_all-2.new.listener.console _ c.new.ensures heard.2.passed,
    )
