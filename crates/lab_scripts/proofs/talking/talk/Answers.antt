use Rattle.std.proofs.Common.{ℕ, ◌+◌, List, [], ◌∷◌, ◌++◌, refl, subst, sym}
use Rattle.std.specs.Prelude.{flat_map}
use Rattle.lab_turns.specs.Consoles.{Typed}
use Rattle.lab_scripts.specs.Talking.{exchanged, prompt}
use Rattle.lab_scripts.proofs.Talks.{talks_more, talks_none}
use Rattle.lab_scripts.proofs.talking.talk.Goals as goal

pub loop-number-init : goal.loop-number-init
loop-number-init g c = record {
  so_far = talks_none g.C.Console.passes (g.C.Console.prompted c.args.printer.now.console) c.args.bench c.args.printer.now.traces c.args.printer.now.units c.args.printer.now.console (g.met.C.Console.passes_none c.args.printer.now.console);
  prompted = refl;
}

pub loop-number-preserved : goal.loop-number-preserved
loop-number-preserved g c =
    let typed = rw c.in-Some.is at c.in_ok-line.ensures in
    let so_far =
    talks_more g.C.Console.passes (g.C.Console.prompted c.args.printer.now.console) c.args.bench c.args.printer.now.traces c.args.printer.now.units c.args.printer.now.console g.met.C.Console.passes_both c.loop-number.bench c.loop-number.auto' c.loop-number.printer.traces (c.loop-number.number + 1) c.loop-number.printer.units c.loop-number.printer.console
    c.loop-number.invariant.so_far (g.C.Console.prompted c.loop-number.printer.console) c.loop-number.invariant.prompted c.typed.new.console c.deref.result.now
    (subst (λ (line : List ℕ). g.C.Console.passes c.loop-number.printer.console (prompt (g.C.Console.prompted c.loop-number.printer.console) ++ Typed line ∷ []) c.typed.new.console) (sym c.deref.ensures.value) typed)
    c.in_ok-bench.bench c.do_typed.new.auto c.do_typed.new.printer.traces c.do_typed.new.printer.units c.do_typed.new.printer.console c.in_ok-bench.ensures in
    record {
      so_far = so_far;
      prompted = g.met.C.Console.same_prompt c.args.printer.now.console c.do_typed.new.printer.console (flat_map (exchanged (g.C.Console.prompted c.args.printer.now.console)) so_far.exchanges) so_far.passed;
    }
