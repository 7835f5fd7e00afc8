-- The three readers together.
use Rattle.std.proofs.Common.{◌≡◌, ◌≢◌, ℕ, Bool, true, List, Result, Ok, Err, refl, ap, subst, ◌∙◌}
use Rattle.std.specs.Prelude.{IsErrAnd, IfErr}
use Rattle.kd_base.specs.ToolsLaws.{ok_of, ok_is}
use Rattle.application_types.specs.Generation.{Generated}
use Rattle.application_read.specs.declared.definition_fault.DefinitionFault.{DefinitionFault}
use Rattle.application_read.specs.declared.definition_fault.DefinitionFault.TheVariants as faults
use Rattle.application_read.specs.Definition.{Generates, HasFault, is_memory as is_definition_memory, Gives as DefinitionGives}
use Rattle.application_read.specs.Handed.{handed_in}
use Rattle.application_read.specs.HandedLaws.{HandedOn, handed_on, stands, made_of, stands_in}
use Rattle.application_types.specs.UnitText.{UnitText}
use Rattle.unit_read.specs.declared.fault.UnitFault.{UnitFault}
use Rattle.unit_read.specs.declared.fault.UnitFault.TheVariants as unit_faults
use Rattle.unit_read.specs.Spelling.{SpellsUnits}
use Rattle.unit_read.specs.Faults.{HasTextFault}
use Rattle.unit_read.specs.Answers.{is_memory as is_units_memory, Gives as UnitsGive}
use Rattle.application_check.specs.declared.unit_check.fault.FitFault.{FitFault}
use Rattle.application_check.specs.declared.unit_check.fault.FitFault.TheVariants as fit_faults
use Rattle.application_types.specs.Fitted.{FittedUnits, AreFittedTo}
use Rattle.application_check.specs.FitFaults.{IsFirstFault, is_memory as is_fit_memory, Gives as FitGives}
use Rattle.application_read.specs.declared.application.Application.{Application}
use Rattle.application_read.specs.declared.fault.ApplicationFault.{ApplicationFault}
use Rattle.application_read.specs.declared.fault.ApplicationFault.TheVariants.{Definition, Units, Fit, Memory}
use Rattle.application_read.specs.Texts.{TextsGenerate, TextsHaveFault, is_memory, Gives}

abbrev pub Wanted : Type 0
Wanted = Result Application ApplicationFault

by_definition : HandedOn Memory is_memory Application Generated DefinitionFault is_definition_memory (λ x. Definition x)
by_definition = handed_on Memory is_definition_memory (λ x. Definition x) is_memory refl

by_units : HandedOn Memory is_memory Application (List UnitText) UnitFault is_units_memory (λ x. Units x)
by_units = handed_on Memory is_units_memory (λ x. Units x) is_memory refl

by_fit : HandedOn Memory is_memory Application FittedUnits FitFault is_fit_memory (λ x. Fit x)
by_fit = handed_on Memory is_fit_memory (λ x. Fit x) is_memory refl

-- the application of these
abbrev application : Generated → FittedUnits → Application
application g fitted = record { generation = g; units = fitted }

-- this is what the texts generate, or their fault
abbrev pub Stands : (definition units : List ℕ) → Wanted → Type 0
Stands definition units (Ok a) = TextsGenerate definition units a
Stands definition units (Err e) = TextsHaveFault definition units e

-- an error refuses the texts: what stands is given, and its fault is there
pub record IsRefused (definition units : List ℕ) (r : Wanted) : Type 0 where
  pub gives : (wanted : Wanted) → Stands definition units wanted → Gives r wanted
  pub fault : IfErr r (λ e. e ≢ Memory → TextsHaveFault definition units e)

module _ (definition units : List ℕ) where
  -- an error that is made of a fault refuses them, where the fault as it is handed on refuses what stands, and stands itself
  module _ {D : Type 0} (is_want : D → Bool) (variant : D → ApplicationFault) (want e : D) where
    refused_as : is_want want ≡ true → ((wanted : Wanted) → Stands definition units wanted → Gives (Err (handed_in Memory is_want variant e)) wanted) → (e ≢ want → TextsHaveFault definition units (variant e))
        → (r : Wanted) → IsErrAnd r (λ x. x ≡ handed_in Memory is_want variant e) → IsRefused definition units r
    refused_as known gives fault r is =
        let y = handed_in Memory is_want variant e in
        record {
          gives = λ wanted h. made_of is_memory r y wanted is (gives wanted h);
          fault = stands_in Memory (TextsHaveFault definition units) r y is (stands Memory is_want variant e (TextsHaveFault definition units) want known fault);
        }

  -- ---- the definition was refused

  module _ (e : DefinitionFault) (only : (g : Generated) → Generates definition g → DefinitionGives (Err e) (Ok g)) (refused : (f : DefinitionFault) → HasFault definition f → DefinitionGives (Err e) (Err f)) where
    without_definition : (wanted : Wanted) → Stands definition units wanted → Gives (Err (handed_in Memory is_definition_memory (λ x. Definition x) e)) wanted
    without_definition (Ok a) h = by_definition e (Ok a.generation) (Ok a) (only a.generation h.0) (λ x. cc)
    without_definition (Err (Definition f)) h = by_definition e (Err f) (Err (Definition f)) (refused f h) (λ x. cc)
    without_definition (Err (Units f)) h = by_definition e (Ok h.0.0) (Err (Units f)) (only h.0.0 h.0.1) (λ x. cc)
    without_definition (Err (Fit f)) h = by_definition e (Ok h.0) (Err (Fit f)) (only h.0 h.2) (λ x. cc)
    without_definition (Err Memory) h = absurd h

    pub definition_refused : (e ≢ faults.Memory → HasFault definition e) → (r : Wanted) → IsErrAnd r (λ x. x ≡ handed_in Memory is_definition_memory (λ x. Definition x) e) → IsRefused definition units r
    definition_refused fault = refused_as is_definition_memory (λ x. Definition x) faults.Memory e refl without_definition fault

  -- ---- the definition makes a generation

  module _ (g : Generated) (one : (x : Generated) → Generates definition x → DefinitionGives (Ok g) (Ok x)) (none : (f : DefinitionFault) → HasFault definition f → DefinitionGives (Ok g) (Err f)) where
    same_generation : (x : Generated) → Generates definition x → x ≡ g
    same_generation x h = ok_is DefinitionFault x g (one x h)

    -- the units were refused
    module _ (e : UnitFault) (only : (us : List UnitText) → SpellsUnits units us → UnitsGive {X = List UnitText} (Err e) (Ok us)) (refused : (f : UnitFault) → HasTextFault units f → UnitsGive {X = List UnitText} (Err e) (Err f)) where
      without_units : (wanted : Wanted) → Stands definition units wanted → Gives (Err (handed_in Memory is_units_memory (λ x. Units x) e)) wanted
      without_units (Ok a) h = by_units e (Ok h.1.0) (Ok a) (only h.1.0 h.1.1) (λ x. cc)
      without_units (Err (Definition f)) h = absurd (let x = none f h in cc)
      without_units (Err (Units f)) h = by_units e (Err f) (Err (Units f)) (refused f h.1) (λ x. cc)
      without_units (Err (Fit f)) h = by_units e (Ok h.1) (Err (Fit f)) (only h.1 h.3) (λ x. cc)
      without_units (Err Memory) h = absurd h

      pub units_refused : Generates definition g → (e ≢ unit_faults.Memory → HasTextFault units e) → (r : Wanted) → IsErrAnd r (λ x. x ≡ handed_in Memory is_units_memory (λ x. Units x) e) → IsRefused definition units r
      units_refused made fault = refused_as is_units_memory (λ x. Units x) unit_faults.Memory e refl without_units (λ some. ((g, made), fault some))

    -- the text spells units
    module _ (us : List UnitText) (one_text : (xs : List UnitText) → SpellsUnits units xs → UnitsGive {X = List UnitText} (Ok us) (Ok xs)) (no_text : (f : UnitFault) → HasTextFault units f → UnitsGive {X = List UnitText} (Ok us) (Err f)) where
      same_units : (xs : List UnitText) → SpellsUnits units xs → xs ≡ us
      same_units xs h = ok_is UnitFault xs us (one_text xs h)

      -- what holds of a generation and units of the texts holds of these
      these : (P : Generated → List UnitText → Type 0) (x : Generated) (xs : List UnitText) → Generates definition x → SpellsUnits units xs → P x xs → P g us
      these P x xs made spelled h = subst (P g) (same_units xs spelled) (subst (λ (y : Generated). P y xs) (same_generation x made) h)

      fitted_to : (a : Application) → TextsGenerate definition units a → AreFittedTo g us a.units
      fitted_to a h = these (λ x xs. AreFittedTo x xs a.units) a.generation h.1.0 h.0 h.1.1 h.1.2

      faulty : (f : FitFault) → TextsHaveFault definition units (Fit f) → IsFirstFault g us f
      faulty f h = these (λ x xs. IsFirstFault x xs f) h.0 h.1 h.2 h.3 h.4

      -- they do not fit
      module _ (e : FitFault) (only : (x : FittedUnits) → AreFittedTo g us x → FitGives (Err e) (Ok x)) (refused : (f : FitFault) → IsFirstFault g us f → FitGives (Err e) (Err f)) where
        without_fit : (wanted : Wanted) → Stands definition units wanted → Gives (Err (handed_in Memory is_fit_memory (λ x. Fit x) e)) wanted
        without_fit (Ok a) h = by_fit e (Ok a.units) (Ok a) (only a.units (fitted_to a h)) (λ x. cc)
        without_fit (Err (Definition f)) h = absurd (let x = none f h in cc)
        without_fit (Err (Units f)) h = absurd (let x = no_text f h.1 in cc)
        without_fit (Err (Fit f)) h = by_fit e (Err f) (Err (Fit f)) (refused f (faulty f h)) (λ x. cc)
        without_fit (Err Memory) h = absurd h

        pub fit_refused : Generates definition g → SpellsUnits units us → (e ≢ fit_faults.Memory → IsFirstFault g us e) → (r : Wanted) → IsErrAnd r (λ x. x ≡ handed_in Memory is_fit_memory (λ x. Fit x) e) → IsRefused definition units r
        fit_refused made spelled fault = refused_as is_fit_memory (λ x. Fit x) fit_faults.Memory e refl without_fit (λ some. (g, us, made, spelled, fault some))

      -- they fit
      module _ (made : FittedUnits) (one_fit : (x : FittedUnits) → AreFittedTo g us x → FitGives (Ok made) (Ok x)) (no_fit : (f : FitFault) → IsFirstFault g us f → FitGives (Ok made) (Err f)) where
        pub with_all : (wanted : Wanted) → Stands definition units wanted → Gives (Ok (application g made)) wanted
        with_all (Ok a) h =
            ap (λ (x : Generated). ok_of {E = ApplicationFault} (application x a.units)) (same_generation a.generation h.0)
            ∙ ap (λ (x : FittedUnits). ok_of {E = ApplicationFault} (application g x)) (ok_is FitFault a.units made (one_fit a.units (fitted_to a h)))
        with_all (Err (Definition f)) h = absurd (let x = none f h in cc)
        with_all (Err (Units f)) h = absurd (let x = no_text f h.1 in cc)
        with_all (Err (Fit f)) h = absurd (let x = no_fit f (faulty f h) in cc)
        with_all (Err Memory) h = absurd h
