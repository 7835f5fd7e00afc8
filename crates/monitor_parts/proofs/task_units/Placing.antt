-- The unit of a name is the first one of its own name.
use Rattle.std.proofs.Common.{◌≡◌, ℕ, List, sym, ap, ◌∙◌}
use Rattle.std.specs.Prelude.{Option, Some, None, bytes_eq, option_and_then, slice_get}
use Rattle.std.specs.List.{position_from}
use Rattle.std.proofs.lemmas.Slice.Eq.{bytes_eq-Decides}
use Rattle.kd_base.specs.ToolsLaws.{find_passes}
use Rattle.application_types.specs.PlacesLaws.{found_at}
use Rattle.application_types.specs.UnitText.{UnitText}
use Rattle.application_types.specs.declared.kdcdef_types.entry.TacEntry.{TacEntry}
use Rattle.application_types.specs.Generation.{entry_of}
use Rattle.application_types.specs.Fitted.{FittedUnits, unit_named, unit_of}

named_again : (units : List UnitText) (name : List ℕ) (u : UnitText) → unit_named units name ≡ Some u → unit_named units u.name ≡ Some u
named_again units name u e =
    let same : name ≡ u.name = (bytes_eq-Decides name u.name).0 (find_passes (λ (v : UnitText). bytes_eq name v.name) units u e) in
    ap (unit_named units) (sym same) ∙ e

-- the place of its name is the place of the unit of a TAC
pub unit_placed : (fitted : FittedUnits) (tac : List ℕ) (u : UnitText) (place : ℕ) → Some u ≡ unit_of fitted tac → Some place ≡ position_from (λ (v : UnitText). bytes_eq u.name v.name) 0 fitted.units → slice_get fitted.units place ≡ unit_of fitted tac
unit_placed fitted tac u place e at = there ∙ by (entry_of fitted.tacs tac) e
  where
    there : slice_get fitted.units place ≡ unit_named fitted.units u.name
    there = ap (option_and_then (slice_get fitted.units)) at ∙ found_at (λ (v : UnitText). bytes_eq u.name v.name) fitted.units

    by : (entry : Option TacEntry) → Some u ≡ option_and_then (λ (t : TacEntry). unit_named fitted.units t.program) entry
        → unit_named fitted.units u.name ≡ option_and_then (λ (t : TacEntry). unit_named fitted.units t.program) entry
    by None h = absurd cc
    by (Some t) h = named_again fitted.units t.program u (sym h) ∙ h
