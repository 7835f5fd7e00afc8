-- Maps that find the fields and labels of a unit by name.
use Rattle.std.specs.Prelude.{◌≡◌, ℕ, cond, List, Option, Some, None, bytes_eq}
use Rattle.std.specs.BTreeMap.{BTreeMap, get_by}
use Rattle.std.specs.Cmp.Lexicographic.{slice_cmp}
use Rattle.std.specs.Global.{Vec}
use Rattle.std.specs.List.{position_from}
use Rattle.std.specs.Map.{lookup}
use Rattle.std.specs.Option.{option_or}
use Rattle.std.specs.Ordering.{nat_cmp}
use Rattle.application_types.specs.declared.unit_types.unit.Field.{Field}

-- what a map has at a name
abbrev pub at_name : {P : Type 0} → BTreeMap (Vec ℕ) P → List ℕ → Option P
at_name places name = get_by (λ (k : Vec ℕ). slice_cmp nat_cmp name k.items) places

-- what is found, with this place after the others
abbrev pub or_first : {P : Type 0} → Option P → List ℕ → P → List ℕ → Option P
or_first found name place wanted = option_or found (cond (bytes_eq wanted name) (Some place) None)

-- the name has this place, unless it had one before, and other names have what they had
abbrev pub PutsFirst : {P : Type 0} → BTreeMap (Vec ℕ) P → BTreeMap (Vec ℕ) P → List ℕ → P → Type 0
PutsFirst old new name place = (wanted : List ℕ) → at_name new wanted ≡ or_first (at_name old wanted) name place wanted

-- a map has the place of the first field of each name, and no other name
abbrev pub AreFieldPlaces : BTreeMap (Vec ℕ) ℕ → List Field → Type 0
AreFieldPlaces places fields = (name : List ℕ) → at_name places name ≡ position_from (λ (f : Field). bytes_eq name f.name) 0 fields

-- a map has what stands with the first label of each name, and no other name
abbrev pub AreLabelPlaces : BTreeMap (Vec ℕ) ℕ → List (List ℕ × ℕ) → Type 0
AreLabelPlaces places labels = (name : List ℕ) → at_name places name ≡ lookup (bytes_eq name) labels
