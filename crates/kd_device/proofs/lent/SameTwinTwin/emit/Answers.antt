use Rattle.kd_device.proofs.lent.SameTwinTwin.emit.Goals as goal

pub emit-requires : goal.emit-requires
emit-requires g c = rw c.self.view_is c.requires

pub returns-clause-frame : goal.returns-clause-frame
returns-clause-frame g c = rw (← c.self.view_is) c.emit.ensures.frame

pub returns-clause-spare : goal.returns-clause-spare
returns-clause-spare g c = rw (← c.self.view_is) c.emit.ensures.spare

pub returns-clause-content : goal.returns-clause-content
returns-clause-content g c = rw (← c.self.view_is) c.emit.ensures.content
