use Rattle.std.proofs.Common.{[]}
use Rattle.laws_of_runs.specs.Applied.{applied}
use Rattle.lab_turns.specs.Consoles.{printed}
use Rattle.lab_cli.proofs.Outcomes.{are_scripts, scripts_back, suits_back, told_back}
use Rattle.lab_cli.proofs.exploring.explore_script.Goals as goal

pub print_explored-requires-clause-suits : goal.print_explored-requires-clause-suits
print_explored-requires-clause-suits g c =
    let again = c.in_ok-generation.ensures.again in
    suits_back (applied c.args.setting.generation c.args.setting.units) c.in_ok-generation.generation c.in_ok-generation.units again.application c.args.tables.now c.args.commands.now again.suits

pub print_explored-requires-clause-names : goal.print_explored-requires-clause-names
print_explored-requires-clause-names g c =
    let app = applied c.args.setting.generation c.args.setting.units in
    let h = c.in_ok-generation.ensures in
    scripts_back app c.in_ok-generation.generation c.in_ok-generation.units h.again.application c.args.tables.now c.args.commands.now c.in_ok-generation.explored.outcomes
    (are_scripts c.walks_are_scripts.ensures app c.args.tables.now c.args.commands.now c.requires.names c.in_ok-generation.explored.outcomes h.outcomes)

pub returns-clause-printed : goal.returns-clause-printed
returns-clause-printed g c =
    let h = c.in_ok-print_explored.ensures in (
      h.0,
      told_back (applied c.args.setting.generation c.args.setting.units) c.in_ok-generation.generation c.in_ok-generation.units c.in_ok-generation.ensures.again.application c.args.tables.now c.args.commands.now c.args.setting.source c.args.number c.in_ok-generation.explored h.0 h.1,
      g.met.C.Console.passes_both c.args.console.now c.tell_most.new.console c.print_explored.new.console [] (printed h.0) c.in_ok-tell_most.ensures h.2,
    )
