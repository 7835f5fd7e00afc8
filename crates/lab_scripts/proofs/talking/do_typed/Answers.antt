use Rattle.std.proofs.Common.{ℕ, List, ap, subst, sym, ◌∙◌}
use Rattle.std.proofs.lemmas.Result.{IfOk-weaker}
use Rattle.abstract_monitor.specs.State.{State}
use Rattle.monitor_core.specs.CoreValue.{CoreValue}
use Rattle.lab_scripts.specs.Talking.{IsListed}
use Rattle.lab_scripts.proofs.Talks.{took_auto, took_listed, took_script, took_trace}
use Rattle.lab_scripts.proofs.talking.do_typed.Goals as goal

pub returns-in_ok-put-in-Lists : goal.returns-in_ok-put-in-Lists
returns-in_ok-put-in-Lists g c =
    let same = ap (λ (v : CoreValue). v.state) c.core.ensures.value in
    took_listed g.C.Console.passes c.args.bench c.args.auto.now c.args.printer.now.traces c.args.number c.args.printer.now.units c.args.line.now c.args.printer.now.console c.in-Lists.which c.as_slice.result.now c.put.new.self (sym c.ask_of.ensures ∙ c.in-Lists.is)
    (subst (λ (p : State × List ℕ). IsListed p.0 p.1 c.in-Lists.which) (λ i. (same i, sym c.as_slice.ensures i)) c.in_ok-lines-in-Lists.ensures) c.in_ok-put-in-Lists.ensures

pub returns-in-Auto : goal.returns-in-Auto
returns-in-Auto g c = took_auto g.C.Console.passes c.args.bench c.args.auto.now c.args.printer.now.traces c.args.number c.args.printer.now.units c.args.line.now c.args.printer.now.console c.in-Auto.on (sym c.ask_of.ensures ∙ c.in-Auto.is) (g.met.C.Console.passes_none c.args.printer.now.console)

pub returns-in-Trace : goal.returns-in-Trace
returns-in-Trace g c = took_trace g.C.Console.passes c.args.bench c.args.auto.now c.args.printer.now.traces c.args.number c.args.printer.now.units c.args.line.now c.args.printer.now.console c.in-Trace.on (sym c.ask_of.ensures ∙ c.in-Trace.is) (g.met.C.Console.passes_none c.args.printer.now.console)

pub returns-in-Script : goal.returns-in-Script
returns-in-Script g c =
    IfOk-weaker c.do_script_line.result _ _
    (λ next said. took_script g.C.Console.passes c.args.bench c.args.auto.now c.args.printer.now.traces c.args.number c.args.printer.now.units c.args.line.now c.args.printer.now.console next c.do_script_line.new.printer.traces c.do_script_line.new.printer.units c.do_script_line.new.printer.console (sym c.ask_of.ensures ∙ c.in-Script.is) said)
    c.do_script_line.ensures
