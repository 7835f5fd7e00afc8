use Rattle.kd_device.proofs.lent.SameTwinTwin.size.Goals as goal

pub returns-clause-content : goal.returns-clause-content
returns-clause-content g c = rw (← c.self.view_is) c.size.ensures.content
