use Rattle.kd_device.proofs.lent.SameTwinTwin.sync.Goals as goal

pub returns-clause-content : goal.returns-clause-content
returns-clause-content g c = rw (← c.self.view_is) c.sync.ensures.content
