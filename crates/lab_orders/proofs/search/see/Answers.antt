use Rattle.std.specs.Prelude.{false}
use Rattle.std.proofs.Common.{◌≡◌, sym, subst, ◌∙◌}
use Rattle.abstract_monitor.specs.Commands.{started}
use Rattle.abstract_monitor.specs.State.{Application}
use Rattle.laws_of_runs.specs.Applied.{applied}
use Rattle.lab_orders.specs.Searching.{CanCount, CanGo, Reached, quest_of}
use Rattle.lab_walks.specs.Frames.{IsFrame, IsWay, turns_in}
use Rattle.lab_walks.specs.Walks.{InRun, IsWalk, Spot, stand}
use Rattle.lab_orders.specs.Finding.{CanStart, IsFound}
use Rattle.lab_orders.proofs.Finding.{start_from}
use Rattle.lab_orders.proofs.Found.{inside_stands, reached_walk}
use Rattle.lab_orders.proofs.Reaching.{way_taken}
use Rattle.lab_orders.proofs.search.see.Goals as goal

pub turns_of-requires : goal.turns_of-requires
turns_of-requires c k d less =
    let app = applied c.args.generation c.args.units in
    (way_taken app c.args.commands.now (started app c.args.tables.now) c.args.frames.now c.requires.way k d less).at

pub open-requires-clause-here : goal.open-requires-clause-here
open-requires-clause-here c =
    let app = applied c.args.generation c.args.units in
    subst (λ (a : Application). stand a c.args.commands.now (started a c.args.tables.now) (turns_in c.args.frames.now) ≡ InRun c.in-Inside.left c.in-Inside.room c.in_ok-core.core.state) (sym c.in_ok-core.ensures.application)
    (inside_stands (quest_of app c.args.commands.now c.args.tables.now c.args.frames.now false) c.in_ok-core.core c.in_ok-core.field-0-1 c.in-Inside.left c.in-Inside.room c.in-Inside.field-2 (subst (Reached (quest_of app c.args.commands.now c.args.tables.now c.args.frames.now false) c.in_ok-core.core c.in_ok-core.field-0-1) c.in-Inside.is c.in_ok-core.ensures.reached))

pub open-requires-clause-room : goal.open-requires-clause-room
open-requires-clause-room c = subst CanCount c.in-Inside.is c.in_ok-core.ensures.few

pub open-requires-clause-go : goal.open-requires-clause-go
open-requires-clause-go c =
    subst (λ (a : Application). CanGo a c.args.tables.now c.args.commands.now) (sym c.in_ok-core.ensures.application) (record { suits = c.requires.start.suits; names = c.requires.start.names; tries = c.requires.start.tries })

pub open-requires-clause-way : goal.open-requires-clause-way
open-requires-clause-way c = subst (λ (a : Application). IsWay a c.args.commands.now (started a c.args.tables.now) c.args.frames.now) (sym c.in_ok-core.ensures.application) c.requires.way

pub found_of-requires-clause-start : goal.found_of-requires-clause-start
found_of-requires-clause-start c =
    start_from (applied c.args.generation c.args.units) c.args.tables.now c.args.commands.now c.args.generation c.args.units c.requires.start c.in_ok-core.core c.in_ok-core.ensures.application c.into_application-generation.result.0 c.into_application-generation.result.1 c.into_application-generation.ensures.application c.into_application-generation.ensures.fit

pub found_of-requires-clause-walk : goal.found_of-requires-clause-walk
found_of-requires-clause-walk c =
    let app = applied c.args.generation c.args.units in
    let reached = subst (Reached (quest_of app c.args.commands.now c.args.tables.now c.args.frames.now false) c.in_ok-core.core c.in_ok-core.field-0-1) c.in-Ended.is c.in_ok-core.ensures.reached in
    subst (λ (a : Application). IsWalk a c.args.commands.now (started a c.args.tables.now) c.in_ok-turns-in-Ended.turns) (sym c.in_ok-core.ensures.application ∙ c.into_application-generation.ensures.application)
    (subst (IsWalk app c.args.commands.now (started app c.args.tables.now)) (sym c.in_ok-turns-in-Ended.ensures) (reached_walk app c.args.tables.now c.args.commands.now c.args.frames.now c.in_ok-core.core c.requires.way reached).1)

pub returns-in_ok-generation-in-Ended-clause-saw : goal.returns-in_ok-generation-in-Ended-clause-saw
returns-in_ok-generation-in-Ended-clause-saw c =
    let app = applied c.args.generation c.args.units in
    let reached = subst (Reached (quest_of app c.args.commands.now c.args.tables.now c.args.frames.now false) c.in_ok-core.core c.in_ok-core.field-0-1) c.in-Ended.is c.in_ok-core.ensures.reached in (
      (reached_walk app c.args.tables.now c.args.commands.now c.args.frames.now c.in_ok-core.core c.requires.way reached).0,
      c.in_ok-generation-in-Ended.ensures.turns ∙ c.in_ok-turns-in-Ended.ensures,
      subst (λ (a : Application). IsFound a c.args.tables.now c.args.commands.now c.in_ok-generation-in-Ended.found) (sym c.into_application-generation.ensures.application ∙ c.in_ok-core.ensures.application) c.in_ok-generation-in-Ended.ensures.found,
    )

pub returns-in_ok-generation-in-Ended-clause-again : goal.returns-in_ok-generation-in-Ended-clause-again
returns-in_ok-generation-in-Ended-clause-again c =
    subst (λ (a : Application). CanStart a c.args.tables.now c.args.commands.now c.in_ok-generation-in-Ended.generation c.in_ok-generation-in-Ended.units) (sym c.into_application-generation.ensures.application ∙ c.in_ok-core.ensures.application) c.in_ok-generation-in-Ended.ensures.again

pub returns-in_ok-core-in-Inside-clause-saw : goal.returns-in_ok-core-in-Inside-clause-saw
returns-in_ok-core-in-Inside-clause-saw c =
    let app = applied c.args.generation c.args.units in
    let spot = inside_stands (quest_of app c.args.commands.now c.args.tables.now c.args.frames.now false) c.in_ok-core.core c.in_ok-core.field-0-1 c.in-Inside.left c.in-Inside.room c.in-Inside.field-2 (subst (Reached (quest_of app c.args.commands.now c.args.tables.now c.args.frames.now false) c.in_ok-core.core c.in_ok-core.field-0-1) c.in-Inside.is c.in_ok-core.ensures.reached) in (
      subst (λ (x : Application × Spot). IsFrame x.0 x.1 c.in_ok-core-in-Inside.frame) (λ i. (c.in_ok-core.ensures.application i, sym spot i)) c.in_ok-core-in-Inside.ensures.frame,
      c.in_ok-core-in-Inside.ensures.first,
    )

pub returns-in_ok-core-in-Inside-clause-again : goal.returns-in_ok-core-in-Inside-clause-again
returns-in_ok-core-in-Inside-clause-again c = record {
  fit = c.into_application-generation-in-Inside.ensures.fit;
  application = sym c.into_application-generation-in-Inside.ensures.application ∙ c.in_ok-core-in-Inside.ensures.application ∙ c.in_ok-core.ensures.application;
  suits = c.requires.start.suits;
  names = c.requires.start.names;
  tries = c.requires.start.tries;
}
