use Rattle.std.proofs.Common.{◌∙◌, ap}
use Rattle.kd_device.specs.Recording.{Recording, names_of, with_name}
use Rattle.kd_device.proofs.Grows.{named_one}
use Rattle.kd_device.proofs.sure.SureDeviceDevice.attach.Goals as goal

pub returns-clause-names : goal.returns-clause-names
returns-clause-names c =
    λ _. ap (λ (r : Recording). names_of 0 r.names) (c.named.ensures ∙ ap (λ (r : Recording). with_name r 0 c.args.name.now) c.self.view_is) ∙ named_one 0 c.args.self.now.names c.args.name.now
