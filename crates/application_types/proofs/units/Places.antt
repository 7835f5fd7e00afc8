-- What is found by an index of units.
use Rattle.std.proofs.Common.{◌≡◌, ℕ, List, refl, sym, ap, ◌∙◌, Bor}
use Rattle.std.specs.Prelude.{Option, Some, None, bytes_eq, is_some, slice_get, option_and_then, IsSome, IfSome, All}
use Rattle.std.specs.List.{position_from}
use Rattle.std.specs.Option.{option_copied}
use Rattle.std.proofs.lemmas.Map.Entries.{All-lookup}
use Rattle.application_types.specs.PlacesLaws.{found_at, found_passes}
use Rattle.application_types.specs.UnitText.{UnitText}
use Rattle.application_types.specs.declared.kdcdef_types.entry.TacEntry.{TacEntry}
use Rattle.application_types.specs.Generation.{entry_of}
use Rattle.application_types.specs.Fitted.{unit_named, unit_of, FittedUnits, IsFitted, AreFit}

-- what is at the place of a name is its unit
pub unit_at : (units : List UnitText) (name : List ℕ) (place : Option ℕ) → place ≡ position_from (λ (v : UnitText). bytes_eq name v.name) 0 units → option_and_then (slice_get units) place ≡ unit_named units name
unit_at units name place h = ap (option_and_then (slice_get units)) h ∙ found_at (λ (v : UnitText). bytes_eq name v.name) units

-- what `unit_of` says of the unit that it lends
pub record IsUnitOf (fitted : FittedUnits) (tac : List ℕ) (lent : Option (Bor UnitText)) : Type 0 where
  pub unit : option_copied lent ≡ unit_of fitted tac
  pub found : (IsSome lent → IsSome (entry_of fitted.tacs tac)) × (IsSome (entry_of fitted.tacs tac) → IsSome lent)
  pub fits : IfSome lent (λ u. IsFitted fitted.limits fitted.tacs u.now)

some_copied : {A : Type 0} (lent : Option (Bor A)) → is_some (option_copied lent) ≡ is_some lent
some_copied None = refl
some_copied (Some x) = refl

lent_fits : (fitted : FittedUnits) (name : List ℕ) (lent : Option (Bor UnitText)) → All (IsFitted fitted.limits fitted.tacs) fitted.units → option_copied lent ≡ unit_named fitted.units name → IfSome lent (λ u. IsFitted fitted.limits fitted.tacs u.now)
lent_fits fitted name None all e = tt
lent_fits fitted name (Some u) all e = found_passes (IsFitted fitted.limits fitted.tacs) (λ (v : UnitText). bytes_eq name v.name) fitted.units u.now all (sym e)

pub lent_unit : (fitted : FittedUnits) (tac : List ℕ) (t : TacEntry) (lent : Option (Bor UnitText)) → AreFit fitted.limits fitted.tacs fitted.units → entry_of fitted.tacs tac ≡ Some t → option_copied lent ≡ unit_named fitted.units t.program → IsUnitOf fitted tac lent
lent_unit fitted tac t lent fit at is =
    let named : IfSome (entry_of fitted.tacs tac) (λ (s : TacEntry). IsSome (unit_named fitted.units s.program)) = All-lookup (λ (s : TacEntry). IsSome (unit_named fitted.units s.program)) (bytes_eq tac) fitted.tacs fit.named in
    let has : IsSome (unit_named fitted.units t.program) = rw at at named in
    record {
      unit = rw at is;
      found = (λ h. rw at refl, λ h. sym (some_copied lent) ∙ ap (λ (o : Option UnitText). is_some o) is ∙ has);
      fits = lent_fits fitted t.program lent fit.fitted is;
    }
