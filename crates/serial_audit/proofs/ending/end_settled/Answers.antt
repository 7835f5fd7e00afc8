use Rattle.std.specs.Prelude.{refl}
use Rattle.std.proofs.Common.{sym, ◌∙◌}
use Rattle.kdcs_types.specs.declared.service.Ending.TheVariants as ending
use Rattle.serial_audit.proofs.Ends.{synced_are}
use Rattle.serial_audit.proofs.ending.end_settled.Goals as goal

pub returns-in-Synced : goal.returns-in-Synced
returns-in-Synced c = synced_are c.args.replay.now c.args.transaction c.requires.stands c.args.outcome c.in-Synced.changes c.in-Synced._row c.in-Synced._kept (sym c.in-Synced.is ∙ c.in_ok-changes.ensures) c.requires.fits (record { changes = c.in-Synced.changes; ending = ending.Synced }) refl refl
