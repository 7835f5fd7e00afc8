-- Whether changes are the same, as a test.
use Rattle.std.specs.Prelude.{Bool, false}
use Rattle.kdcs_types.specs.declared.act.Change.{Change}
use Rattle.kdcs_types.specs.declared.act.Change.TheVariants.{Set, Remove}
use Rattle.kdcs_types.specs.Keys.{key_eq}
use Rattle.kdcs_types.specs.Same.{row_eq}

abbrev pub change_eq : Change → Change → Bool
change_eq (Set a) (Set b) = row_eq a b
change_eq (Set a) (Remove b) = false
change_eq (Remove a) (Set b) = false
change_eq (Remove a) (Remove b) = key_eq a b
