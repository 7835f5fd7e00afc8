use Rattle.std.specs.Prelude.{slice_get}
use Rattle.std.proofs.Common.{ap, ◌∙◌}
use Rattle.application_types.specs.PlacesLaws.{lent_at}
use Rattle.serial_audit.proofs.replay.input_at.Goals as goal

pub returns : goal.returns
returns c = lent_at c.accepted.result.now c.args.place c.get.result c.get.ensures.lookup ∙ ap (λ inputs. slice_get inputs c.args.place) c.accepted.ensures
