-- The text of a trail, of an errand by its parts.
use Rattle.std.proofs.Common.{◌≡◌, ◌∙◌, ℕ, List, ap}
use Rattle.kdcs_types.specs.Tables.{TableRows}
use Rattle.abstract_monitor.specs.declared.command.Command.{Command}
use Rattle.trail_run.specs.Trailing.{text_of}
use Rattle.call_parts.specs.Asking.{Errand, app_of}
use Rattle.utm_cli.specs.Doing.{trail_of}

pub text_is : (e : Errand) (tables : TableRows) (commands : List Command) → commands ≡ e.commands → (text : List ℕ) → text ≡ text_of (app_of e) e.fingerprint tables commands → text ≡ trail_of e tables
unfolding trail_of
text_is e tables commands is text made = made ∙ ap (λ (l : List Command). text_of (app_of e) e.fingerprint tables l) is
