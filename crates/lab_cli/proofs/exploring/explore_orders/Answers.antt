use Rattle.std.proofs.Common.{◌≡◌, ◌∙◌, ℕ, true, List, subst}
use Rattle.abstract_monitor.specs.declared.command.Command.{Command}
use Rattle.abstract_monitor.specs.Commands.{started}
use Rattle.laws_of_runs.specs.Applied.{applied}
use Rattle.lab_orders.specs.Exploring.{AreToldSerial, IsTried}
use Rattle.lab_turns.specs.Consoles.{printed}
use Rattle.lab_turns.specs.PrintingLaws.{printed_both}
use Rattle.lab_cli.specs.ExploredText.{TellsExplored}
use Rattle.lab_cli.specs.Invariants.{all_breaks_text}
use Rattle.lab_cli.proofs.exploring.explore_orders.Goals as goal

pub returns-clause-tried : goal.returns-clause-tried
returns-clause-tried g c =
    subst (λ (commands : List Command). IsTried (applied c.args.place.application.generation c.args.place.application.units) c.args.place.tables commands c.in_ok-explored.explored) c.deref.ensures.value c.in_ok-explored.ensures.tried

pub returns-clause-printed : goal.returns-clause-printed
returns-clause-printed g c =
    let app = applied c.args.place.application.generation c.args.place.application.units in
    let h : (text : List ℕ) × TellsExplored app (started app c.args.place.tables) c.args.place.units c.args.place.commands.items c.args.number c.in_ok-explored.explored text × g.C.Console.passes c.args.console.now (printed text) c.explore_script.new.console =
    subst (λ (commands : List Command). (text : List ℕ) × TellsExplored app (started app c.args.place.tables) c.args.place.units commands c.args.number c.in_ok-explored.explored text × g.C.Console.passes c.args.console.now (printed text) c.explore_script.new.console) c.deref.ensures.value c.in_ok-explored.ensures.printed in (
      h.0,
      h.1,
      printed_both g.C.Console.passes g.met.C.Console.passes_both c.args.console.now c.explore_script.new.console c.put.new.self h.0 (all_breaks_text c.args.place.script.items 1 c.in_ok-explored.explored.outcomes) h.2
          (subst (λ (told : List ℕ). g.C.Console.passes c.explore_script.new.console (printed told) c.put.new.self) (c.as_slice.ensures ∙ c.in_ok-told.ensures ∙ (λ i. all_breaks_text (c.deref-2.ensures.value i) 1 (c.as_slice-outcomes.ensures i))) c.in_ok-put.ensures),
    )

pub returns-clause-serial : goal.returns-clause-serial
returns-clause-serial g c =
    subst (λ (commands : List Command). c.in_ok-explored.explored.all ≡ true → AreToldSerial (applied c.args.place.application.generation c.args.place.application.units) c.args.place.tables commands c.in_ok-explored.explored.outcomes) c.deref.ensures.value c.in_ok-explored.ensures.serial
