use Rattle.std.proofs.Common.{◌≡◌, ◌++◌}
use Rattle.service_parts.specs.Areas.{changes_of}
use Rattle.service_parts.proofs.storage_areas.overlay.Overlay.changes.Given as goal

-- what is made and what is left to make are all changes
abbrev pub invariant-loop-area : goal.invariant-loop-area
invariant-loop-area l = l.changes ++ changes_of l.area-iterator ≡ changes_of l.fn.self.written
