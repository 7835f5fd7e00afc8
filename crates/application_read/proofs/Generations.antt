-- What texts generate is sound, and its units fit it.
use Rattle.std.proofs.Common.{ℕ, List, [], sym, subst}
use Rattle.application_types.specs.declared.kdcdef_types.entry.TacEntry.{TacEntry}
use Rattle.application_types.specs.declared.kdcdef_types.limits.Limits.{Limits}
use Rattle.application_types.specs.Generation.{Generated}
use Rattle.texts.proofs.kdcdef_lex.Bounds.{are_within_bounds}
use Rattle.kdcdef_read.proofs.Apart.{are_read}
use Rattle.application_types.specs.Soundness.{IsSound}
use Rattle.application_check.proofs.kdcdef_check.Sound.{sound}
use Rattle.application_types.specs.UnitText.{UnitText}
use Rattle.application_types.specs.Fitted.{IsFit, AreFit}
use Rattle.application_read.specs.Definition.{Generates}
use Rattle.application_read.specs.Texts.{TextsGenerate}
use Rattle.application_read.specs.declared.application.Application.{Application}
use Rattle.application_read.proofs.Named.{all_named}

pub generated_sound : (text : List ℕ) (g : Generated) → Generates text g → IsSound g
generated_sound text g h =
    let ss = h.0 in
    let raw = h.1.0 in
    let stand = h.1.2 in
    subst IsSound (sym h.3) (sound ss (are_read raw ss (are_within_bounds text raw h.1.1) stand) (all_named [] raw ss stand.0) h.2)

pub units_fitted : (definition units : List ℕ) (a : Application) → TextsGenerate definition units a → IsFit a.generation a.units × AreFit a.units.limits a.units.tacs a.units.units
units_fitted definition units a h =
    let g = a.generation in
    let u = a.units in
    let are = h.1.2 in (
      record { limits = are.limits; tacs = are.tacs },
      subst (λ (limits : Limits). AreFit limits u.tacs u.units) (sym are.limits)
          (subst (λ (tacs : List (List ℕ × TacEntry)). AreFit g.limits tacs u.units) (sym are.tacs) (subst (λ (all : List UnitText). AreFit g.limits g.tacs all) (sym are.units) are.fit)),
    )
