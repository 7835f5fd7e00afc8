use Rattle.kd_device.proofs.lent.SameTwinTwin.reserve.Goals as goal

pub returns-clause-frame : goal.returns-clause-frame
returns-clause-frame g c = rw (← c.self.view_is) c.reserve.ensures.frame

pub returns-clause-content : goal.returns-clause-content
returns-clause-content g c = rw (← c.self.view_is) c.reserve.ensures.content
