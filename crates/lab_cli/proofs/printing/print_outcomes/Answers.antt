use Rattle.std.proofs.Common.{◌∙◌, ap, sym}
use Rattle.lab_walks.specs.Orders.{turned_script}
use Rattle.lab_cli.proofs.Outcomes.{names_of_one, names_of_other, suits_again, up_to_first, up_to_last, up_to_next}
use Rattle.lab_cli.proofs.printing.print_outcomes.Goals as goal

pub loop-outcome-init : goal.loop-outcome-init
loop-outcome-init g c =
    up_to_first g.C.Console.passes g.met.C.Console.passes_both c.args.setting c.args.tables.now c.args.commands.now c.in_ok-one.one.items c.args.explored.now c.in-Some.others.now c.args.console.now
    c.requires.fit c.in-Some.first.now (c.in_ok-one.ensures ∙ ap (turned_script c.args.commands.now) c.as_slice-2.ensures) (sym c.as_slice.ensures ∙ c.in-Some.ensures.cases.0) c.print_outcome.new.console c.in_ok-print_outcome.ensures

pub tell_parting-requires-clause-fit : goal.tell_parting-requires-clause-fit
tell_parting-requires-clause-fit g c = c.loop-outcome.invariant.again.fit

pub tell_parting-requires-clause-suits : goal.tell_parting-requires-clause-suits
tell_parting-requires-clause-suits g c = suits_again c.args.setting c.loop-outcome.setting c.loop-outcome.invariant.again c.args.tables.now c.requires.suits

pub tell_parting-requires-clause-names : goal.tell_parting-requires-clause-names
tell_parting-requires-clause-names g c =
    names_of_one g.C.Console.passes g.met.C.Console.passes_both c.args.setting c.args.tables.now c.args.commands.now c.in_ok-one.one.items c.args.explored.now c.in-Some.others.now c.args.console.now
    c.loop-outcome.outcome-index c.loop-outcome.number c.loop-outcome.setting c.loop-outcome.console c.loop-outcome.invariant c.requires.names c.deref.result.now c.deref.ensures.value

pub tell_parting-requires-clause-names_too : goal.tell_parting-requires-clause-names_too
tell_parting-requires-clause-names_too g c =
    names_of_other g.C.Console.passes g.met.C.Console.passes_both c.args.setting c.args.tables.now c.args.commands.now c.in_ok-one.one.items c.args.explored.now c.in-Some.others.now c.args.console.now
    c.loop-outcome.outcome-index c.loop-outcome.number c.loop-outcome.setting c.loop-outcome.console c.loop-outcome.invariant c.requires.names c.loop-outcome-test.true c.outcome-item.result c.outcome-item.is
    c.deref-in-loop-outcome.result.now (c.deref-in-loop-outcome.ensures.value ∙ c.in_ok-other.ensures ∙ ap (turned_script c.args.commands.now) c.as_slice-in-loop-outcome.ensures)

pub loop-outcome-preserved : goal.loop-outcome-preserved
loop-outcome-preserved g c =
    let h = c.in_ok-setting.ensures in
    up_to_next g.C.Console.passes g.met.C.Console.passes_both c.args.setting c.args.tables.now c.args.commands.now c.in_ok-one.one.items c.args.explored.now c.in-Some.others.now c.args.console.now
    c.loop-outcome.outcome-index c.loop-outcome.number c.loop-outcome.setting c.loop-outcome.console c.loop-outcome.invariant c.loop-outcome-test.true c.outcome-item.result c.outcome-item.is
    c.print_outcome-in-loop-outcome.new.console c.in_ok-print_outcome-2.ensures c.deref.result.now c.deref-in-loop-outcome.result.now c.deref.ensures.value (c.deref-in-loop-outcome.ensures.value ∙ c.in_ok-other.ensures ∙ ap (turned_script c.args.commands.now) c.as_slice-in-loop-outcome.ensures)
    h.told.0 h.told.1 c.tell_parting.new.console h.told.2 c.in_ok-setting.setting h.again

pub returns : goal.returns
returns g c =
    up_to_last g.C.Console.passes g.met.C.Console.passes_both c.args.setting c.args.tables.now c.args.commands.now c.in_ok-one.one.items c.args.explored.now c.in-Some.others.now c.args.console.now
    c.loop-outcome.outcome-index c.loop-outcome.number c.loop-outcome.setting c.loop-outcome.console c.loop-outcome.invariant g.met.C.Console.passes_none c.loop-outcome-test.false
