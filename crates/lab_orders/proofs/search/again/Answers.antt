use Rattle.std.proofs.Common.{◌∙◌, refl, sym}
use Rattle.std.specs.Prelude.{false}
use Rattle.laws_of_runs.specs.Applied.{applied}
use Rattle.lab_orders.specs.Searching.{quest_of}
use Rattle.lab_orders.proofs.Found.{again_start, again_state, again_way, reached_facts}
use Rattle.lab_orders.proofs.search.again.Goals as goal

pub reach-requires-clause-start : goal.reach-requires-clause-start
reach-requires-clause-start c = again_start c.args.core.application c.args.tables.now c.args.commands.now c.into_application-generation.result.0 c.into_application-generation.result.1 c.into_application-generation.ensures.application c.requires.go c.into_application-generation.ensures.fit

pub reach-requires-clause-way : goal.reach-requires-clause-way
reach-requires-clause-way c = again_way c.args.core.application c.args.tables.now c.args.commands.now c.into_application-generation.result.0 c.into_application-generation.result.1 c.into_application-generation.ensures.application c.args.frames.now c.requires.way

pub returns-clause-application : goal.returns-clause-application
returns-clause-application c = c.in_ok-core.ensures.application ∙ sym c.into_application-generation.ensures.application

pub returns-clause-state : goal.returns-clause-state
returns-clause-state c = again_state c.args.core.application c.args.tables.now c.args.commands.now c.into_application-generation.result.0 c.into_application-generation.result.1 c.into_application-generation.ensures.application c.args.frames.now c.in_ok-core.core c.in_ok-core.field-0-1 c.in_ok-core._place c.in_ok-core.ensures.reached

pub returns-clause-facts : goal.returns-clause-facts
returns-clause-facts c =
    let app = applied c.into_application-generation.result.0 c.into_application-generation.result.1 in
    reached_facts (quest_of app c.args.commands.now c.args.tables.now c.args.frames.now false) refl c.in_ok-core.core c.in_ok-core.field-0-1 c.in_ok-core._place c.in_ok-core.ensures.beside c.in_ok-core.ensures.reached
