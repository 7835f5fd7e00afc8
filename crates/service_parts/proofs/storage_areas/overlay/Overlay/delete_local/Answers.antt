use Rattle.std.proofs.Common.{◌∙◌, sym}
use Rattle.service_parts.specs.Areas.{with_areas_of}
use Rattle.service_parts.proofs.storage_areas.Locals.{deleted_one}
use Rattle.service_parts.proofs.storage_areas.overlay.Overlay.delete_local.Goals as goal

pub returns-clause-exact : goal.returns-clause-exact
returns-clause-exact c x =
    rw (← c.self.view_is, c.remove.ensures.left)
    (deleted_one (with_areas_of x (record { written = c.self.inside.written; lssbs = c.self.inside.lssbs })) c.args.name (sym c.contains_key.ensures ∙ c.if-not-contains_key.false))
