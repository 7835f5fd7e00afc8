-- The durable tables beside a core.
use Rattle.std.specs.Prelude.{List, [], ◌∷◌}
use Rattle.kdcs_types.specs.declared.act.Act.{Act}
use Rattle.kdcs_types.specs.declared.act.Act.TheVariants.{Commit, Emit}
use Rattle.kdcs_types.specs.Tables.{AreChanges}

-- tables take each commit of these acts
abbrev pub AreKept : List Act → Type 0
AreKept [] = Unit {0}
AreKept (Commit changes ∷ acts) = AreChanges changes.items × AreKept acts
AreKept (Emit line ∷ acts) = AreKept acts
