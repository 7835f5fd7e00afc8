use Rattle.std.proofs.Common.{ap}
use Rattle.std.specs.Option.{option_map}
use Rattle.kdcs_types.specs.declared.key.Key.TheVariants as key
use Rattle.kdcs_types.specs.declared.service.Job.{Job}
use Rattle.kdcs_types.specs.Tables.{job_key}
use Rattle.kdcs_types.proofs.AtPlaces.{found_in}
use Rattle.kdcs_types.proofs.tables.Tables.job.Goals as goal

pub returns-in-Some : goal.returns-in-Some
returns-in-Some c = rw (← c.self.view_is) (ap (option_map (λ (j : Job). j.value)) (found_in job_key (key.Job c.args.number) _ _ _ c.self.invariant.jobs c.deref-2.ensures.value c.deref.ensures.value _ c.job_place.ensures _ c.in-Some.ensures))

pub returns-in-None : goal.returns-in-None
returns-in-None c = rw (← c.self.view_is) (ap (option_map (λ (j : Job). j.value)) (found_in job_key (key.Job c.args.number) _ _ _ c.self.invariant.jobs c.deref-2.ensures.value c.deref.ensures.value _ c.job_place.ensures _ c.in-None.ensures))
