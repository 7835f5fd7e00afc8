use Rattle.std.proofs.Common.{subst, sym}
use Rattle.service_ends.specs.Standing.{state_of}
use Rattle.service_ends.specs.Whole.{app_of}
use Rattle.monitor_core.specs.Commanding.{IsFor}
use Rattle.monitor_core.proofs.Uses.{use_for}
use Rattle.monitor_core.proofs.input.input.Goals as goal

pub use_it-requires-clause-meant : goal.use_it-requires-clause-meant
use_it-requires-clause-meant c =
    subst (IsFor (state_of c.args.parts.now) c.args.pterm.now) (sym c.in_ok-meaning.ensures) (use_for (app_of c.args.parts.now) (state_of c.args.parts.now) c.args.pterm.now c.args.text.now)
