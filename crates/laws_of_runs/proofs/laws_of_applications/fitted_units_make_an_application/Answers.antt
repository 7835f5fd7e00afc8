use Rattle.laws_of_runs.proofs.laws_of_applications.Made.{application_made}
use Rattle.laws_of_runs.proofs.laws_of_applications.fitted_units_make_an_application.Goals as goal

pub returns : goal.returns
returns c = application_made c.args.generation.now c.args.units.now c.requires.fit c.all-units.ensures.fit c.max-limits.ensures.sound
