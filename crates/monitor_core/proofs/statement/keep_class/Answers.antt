use Rattle.std.proofs.Common.{◌≡◌, sym, ◌∙◌}
use Rattle.std.proofs.lemmas.Slice.Eq.{bytes_eq-Decides}
use Rattle.abstract_monitor.specs.Picks.{class_of}
use Rattle.monitor_core.specs.SteppingLaws.{class_stays}
use Rattle.monitor_core.proofs.statement.keep_class.Goals as goal

pub returns-then-eq : goal.returns-then-eq
returns-then-eq c =
    let same : c.args.before ≡ c.args.current = (bytes_eq-Decides c.args.before c.args.current).0 (sym c.eq.ensures ∙ c.if-eq.true) in
    sym (class_stays c.args.scheduler.now c.args.task (class_of c.args.generation.now c.args.current) c.requires.held (rw same at c.requires.class))
