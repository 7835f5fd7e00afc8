-- A generation with fitted units has all that is asked of an application.
use Rattle.std.specs.Prelude.{◌≡◌, refl, ℕ, Bool, true, false, cond, List, [], ◌∷◌, Option, Some, None, IsSome, IfSome, IsTrue, All, bytes_eq, find, is_some}
use Rattle.std.proofs.Common.{ap, ◌∙◌, subst}
use Rattle.std.proofs.lemmas.List.Elements.{All-head, All-tail, All-weaker}
use Rattle.std.proofs.lemmas.Map.Entries.{All-lookup}
use Rattle.std.proofs.lemmas.Map.Views.{IfSome-lookup_from_All}
use Rattle.application_types.specs.declared.kdcdef_types.entry.PtermEntry.{PtermEntry}
use Rattle.application_types.specs.declared.kdcdef_types.entry.TacEntry.{TacEntry}
use Rattle.application_types.specs.declared.kdcdef_types.limits.Limits.{Limits}
use Rattle.application_types.specs.Generation.{Generated, entry_of, tac_of, lterm_of}
use Rattle.application_types.specs.Soundness.{IsSound}
use Rattle.application_types.specs.UnitText.{UnitText}
use Rattle.application_types.specs.Fitted.{FittedUnits, IsFit, IsFitted, AreFit, unit_named}
use Rattle.abstract_monitor.specs.State.{unit_by, unit_of}
use Rattle.laws_of_states.specs.Applications.{IsFittedUnit, HasUnit, IsApplication}
use Rattle.laws_of_states.specs.KeptEntriesLaws.{short_names}
use Rattle.laws_of_runs.specs.Applied.{applied}

-- what is found of items that all have it has it
found_has : {A : Type 0} (P : A → Type 0) (test : A → Bool) (xs : List A) → All P xs → IsSome (find test xs) → (x : A) × (find test xs ≡ Some x) × P x
found_has P test [] all some = absurd cc
found_has {A} P test (x ∷ xs) all some = by (test x) some (found_has P test xs (All-tail P x xs all))
  where
    by : (b : Bool) → IsSome (cond b (Some x) (find test xs)) → (IsSome (find test xs) → (y : A) × (find test xs ≡ Some y) × P y) → (y : A) × (cond b (Some x) (find test xs) ≡ Some y) × P y
    by true some later = (x, refl, All-head P x xs all)
    by false some later = later some

fitted_unit : (m : Limits) (tacs : List (List ℕ × TacEntry)) (unit : UnitText) → IsFitted m tacs unit → IsFittedUnit m unit
fitted_unit m tacs unit is = record { fields = is.fields; labels = is.labels; labels_from_one = is.whole.labels; literals = is.whole.operands }

module _ (g : Generated) (fitted : FittedUnits) (fit : IsFit g fitted) (are : AreFit fitted.limits fitted.tacs fitted.units) where
  all_fitted : All (IsFittedUnit g.limits) fitted.units
  all_fitted = subst (λ (m : Limits). All (IsFittedUnit m) fitted.units) fit.limits (All-weaker (IsFitted fitted.limits fitted.tacs) (IsFittedUnit fitted.limits) (fitted_unit fitted.limits fitted.tacs) fitted.units are.fitted)

  named : (tac : List ℕ) → IfSome (tac_of g tac) (λ (t : TacEntry). IsSome (unit_named fitted.units t.program))
  named tac = subst (λ (tacs : List (List ℕ × TacEntry)). IfSome (entry_of tacs tac) (λ (t : TacEntry). IsSome (unit_named fitted.units t.program))) fit.tacs
      (All-lookup (λ (t : TacEntry). IsSome (unit_named fitted.units t.program)) (bytes_eq tac) fitted.tacs are.named)

  has_unit : (tac : List ℕ) → IfSome (tac_of g tac) (λ (t : TacEntry). HasUnit (applied g fitted) tac)
  unfolding unit_of
  has_unit tac = by (tac_of g tac) refl (named tac)
    where
      by : (o : Option TacEntry) → tac_of g tac ≡ o → IfSome o (λ (t : TacEntry). IsSome (unit_named fitted.units t.program)) → IfSome o (λ (t : TacEntry). HasUnit (applied g fitted) tac)
      by None at some = tt
      by (Some t) at some =
          let found = found_has (IsFittedUnit g.limits) (λ (u : UnitText). bytes_eq t.program u.name) fitted.units all_fitted some in
          (found.0, ap (unit_by (applied g fitted)) at ∙ found.1, found.2)

  pub application_made : IsSound g → IsApplication (applied g fitted)
  application_made sound = record {
    tasks = sound.limits.tasks.0;
    kb = sound.limits.kb;
    spab = sound.limits.spab;
    nb = sound.limits.nb.1;
    names = short_names g (λ k d lt. (sound.names.tacs k d lt).1) (λ k d lt. (sound.names.users k d lt).1) (λ k d lt. (sound.names.lterms k d lt).1);
    terminals = λ pterm. IfSome-lookup_from_All (λ (p : PtermEntry). IsTrue (is_some (lterm_of g p.lterm))) (bytes_eq pterm) g.pterms sound.terminals;
    units = has_unit;
  }
