use Rattle.lab_orders.proofs.Serially.{told_serial}
use Rattle.std.proofs.Common.{sym, subst, ◌∙◌}
use Rattle.std.proofs.lemmas.Bool.{true≢false}
use Rattle.std.proofs.lemmas.Result.{IfOk-weaker}
use Rattle.abstract_monitor.specs.State.{Application}
use Rattle.laws_of_runs.specs.Applied.{applied}
use Rattle.lab_orders.specs.Finding.{CanStart}
use Rattle.lab_orders.specs.Exploring.{AllOrMore, IsDrawn}
use Rattle.lab_orders.proofs.Covering.{ordered, orders_shown, tried_drawn, tried_whole, whole_shown}
use Rattle.lab_orders.proofs.explored.explore.Goals as goal

pub returns-in-Some-clause-all : goal.returns-in-Some-clause-all
returns-in-Some-clause-all c all =
    let app = applied c.args.generation c.args.units in
    let whole = subst (AllOrMore app c.args.tables.now c.args.commands.now c.args.most) c.in-Some.is c.in_ok-generation.ensures.whole in
    orders_shown app c.args.tables.now c.args.commands.now c.orders_are_walked.ensures
    (record { application = c.fitted_units_make_an_application.ensures; order = c.clock-clock.ensures.sorted; suits = c.requires.suits; names = c.requires.names })
    c.in-Some.explored.outcomes (whole_shown app c.args.tables.now c.args.commands.now c.args.most c.in-Some.explored whole.0)

pub returns-in-Some-clause-tried : goal.returns-in-Some-clause-tried
returns-in-Some-clause-tried c =
    let app = applied c.args.generation c.args.units in
    tried_whole app c.args.tables.now c.args.commands.now c.args.most c.in-Some.explored (subst (AllOrMore app c.args.tables.now c.args.commands.now c.args.most) c.in-Some.is c.in_ok-generation.ensures.whole).0

pub returns-in-Some-clause-more : goal.returns-in-Some-clause-more
returns-in-Some-clause-more c some =
    let app = applied c.args.generation c.args.units in
    let whole = subst (AllOrMore app c.args.tables.now c.args.commands.now c.args.most) c.in-Some.is c.in_ok-generation.ensures.whole in
    whole.1 some

pub returns-in-Some-clause-orders : goal.returns-in-Some-clause-orders
returns-in-Some-clause-orders c =
    let app = applied c.args.generation c.args.units in
    let whole = subst (AllOrMore app c.args.tables.now c.args.commands.now c.args.most) c.in-Some.is c.in_ok-generation.ensures.whole in
    ordered c.walks_are_orders.ensures app c.args.tables.now c.args.commands.now c.in-Some.explored.outcomes whole.0.tally.each

pub returns-in-None-clause-orders : goal.returns-in-None-clause-orders
returns-in-None-clause-orders c =
    let app = applied c.args.generation c.args.units in
    IfOk-weaker c.drawn_orders.result _ _
    (λ r h. ordered c.walks_are_orders.ensures app c.args.tables.now c.args.commands.now r.2.outcomes
    (subst (λ (a : Application). IsDrawn a c.args.tables.now c.args.commands.now c.args.most r.2) c.in_ok-generation.ensures.again.application h).tally.each)
    c.drawn_orders.ensures.drawn

pub returns-in-None-clause-tried : goal.returns-in-None-clause-tried
returns-in-None-clause-tried c =
    let app = applied c.args.generation c.args.units in
    IfOk-weaker c.drawn_orders.result _ _
    (λ r h. tried_drawn app c.args.tables.now c.args.commands.now c.args.most r.2 (subst (λ (a : Application). IsDrawn a c.args.tables.now c.args.commands.now c.args.most r.2) c.in_ok-generation.ensures.again.application h))
    c.drawn_orders.ensures.drawn

pub returns-in-None-clause-more : goal.returns-in-None-clause-more
returns-in-None-clause-more c =
    let app = applied c.args.generation c.args.units in
    IfOk-weaker c.drawn_orders.result _ _
    (λ r h some. subst (AllOrMore app c.args.tables.now c.args.commands.now c.args.most) c.in-None.is c.in_ok-generation.ensures.whole)
    c.drawn_orders.ensures.drawn

pub returns-in-Some-clause-serial : goal.returns-in-Some-clause-serial
returns-in-Some-clause-serial c all =
    let app = applied c.args.generation c.args.units in
    told_serial app c.args.tables.now c.args.commands.now c.args.most c.in-Some.explored (subst (AllOrMore app c.args.tables.now c.args.commands.now c.args.most) c.in-Some.is c.in_ok-generation.ensures.whole).0

pub returns-in-None-clause-serial : goal.returns-in-None-clause-serial
returns-in-None-clause-serial c =
    let app = applied c.args.generation c.args.units in
    IfOk-weaker c.drawn_orders.result _ _
    (λ r h all. absurd (true≢false (sym all ∙ h.all)))
    c.drawn_orders.ensures.drawn

pub returns-in-Some-clause-each : goal.returns-in-Some-clause-each
returns-in-Some-clause-each c each =
    let app = applied c.args.generation c.args.units in
    (subst (AllOrMore app c.args.tables.now c.args.commands.now c.args.most) c.in-Some.is c.in_ok-generation.ensures.whole).0.all

pub returns-in-None-clause-each : goal.returns-in-None-clause-each
returns-in-None-clause-each c =
    let app = applied c.args.generation c.args.units in
    IfOk-weaker c.drawn_orders.result _ _
    (λ r h each. absurd (true≢false (sym each ∙ h.each)))
    c.drawn_orders.ensures.drawn

pub returns-in-None-clause-again : goal.returns-in-None-clause-again
returns-in-None-clause-again c =
    IfOk-weaker c.drawn_orders.result _ _
    (λ r can. subst (λ (a : Application). CanStart a c.args.tables.now c.args.commands.now r.0 r.1) c.in_ok-generation.ensures.again.application can)
    c.drawn_orders.ensures.again
