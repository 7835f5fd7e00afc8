use Rattle.std.proofs.Common.{sym, subst}
use Rattle.abstract_monitor.specs.Endings.{durable}
use Rattle.laws_of_runs.specs.SerialRuns.{MakeInTurn, makers_of}
use Rattle.laws_of_runs.proofs.laws_of_jobs.cuts_are_serial.Goals as goal

pub returns : goal.returns
returns c = λ app t script application names order suits done left whole.
    let k = c.cuts_resume.ensures app t script application names order suits done left whole in
    record {
      steps = k.steps;
      run = subst (λ u. MakeInTurn app (durable app.generation t) u (makers_of k.steps.first)) (sym k.stored)
          (c.scripts_are_serial_runs.ensures.stops app t script application names order suits k.steps.first k.steps.rest k.steps.whole);
    }
