-- Sets of names that hold those of a list.
use Rattle.std.specs.Prelude.{◌≡◌, ℕ, Bool, List, bytes_eq}
use Rattle.std.specs.BTreeSet.{BTreeSet, contains}
use Rattle.std.specs.Cmp.Lexicographic.{slice_cmp}
use Rattle.std.specs.List.{list_any}
use Rattle.std.specs.Ordering.{nat_cmp}
use Rattle.application_types.specs.declared.unit_types.unit.Field.{Field}
use Rattle.application_types.specs.UnitText.{UnitText}

-- whether a set holds a name
abbrev pub holds : BTreeSet (List ℕ) → List ℕ → Bool
holds names name = contains (slice_cmp nat_cmp) names name

-- whether a field, a label or a unit has the name
abbrev pub has_field : List Field → List ℕ → Bool
has_field fields name = list_any (λ (f : Field). bytes_eq f.name name) fields

abbrev pub has_label : List (List ℕ × ℕ) → List ℕ → Bool
has_label labels name = list_any (λ (l : List ℕ × ℕ). bytes_eq l.0 name) labels

abbrev pub has_unit : List UnitText → List ℕ → Bool
has_unit units name = list_any (λ (u : UnitText). bytes_eq u.name name) units

abbrev pub AreFieldNames : BTreeSet (List ℕ) → List Field → Type 0
AreFieldNames names fields = (q : List ℕ) → holds names q ≡ has_field fields q

abbrev pub AreLabelNames : BTreeSet (List ℕ) → List (List ℕ × ℕ) → Type 0
AreLabelNames names labels = (q : List ℕ) → holds names q ≡ has_label labels q

abbrev pub AreUnitNames : BTreeSet (List ℕ) → List UnitText → Type 0
AreUnitNames names units = (q : List ℕ) → holds names q ≡ has_unit units q
