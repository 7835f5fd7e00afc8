-- Laws: what an audit finds, it finds alone.
use Rattle.std.proofs.Common.{◌≡◌, ◌∙◌, ℕ, length, refl, sym, ap, subst}
use Rattle.std.proofs.lemmas.Option.{same_Some}
use Rattle.audit_trail.specs.declared.entry.Trail.{Trail as Kept}
use Rattle.kdcfile_update.specs.Updating.{Stored}
use Rattle.kdcs_types.specs.Tables.{TableRows}
use Rattle.refusals.specs.declared.error.FileRefusal.{FileRefusal}
use Rattle.refusals.specs.declared.error.FileRefusal.TheVariants as why
use Rattle.trail_run.specs.Auditing.{IsJudged, TrailsAreJudgedOnce}
use Rattle.trail_run.specs.declared.trail_words.verdict.Verdict.{Verdict}
use Rattle.trail_run.specs.declared.trail_words.verdict.Verdict.TheVariants.{Holds, Differs}
use Rattle.call_parts.specs.Asking.{Errand, app_of}
use Rattle.utm_cli.specs.Doing.{HoldsAll, AuditRefuses, own, entry_count}
use Rattle.utm_cli.specs.Parts.{Finds}

-- what was found, where it is no entry that differs
pub holds_of : (e : Errand) (v : Verdict) → Finds e v → ((n : ℕ) → v ≡ Differs n → ⊥) → (t : TableRows) × HoldsAll e (own e t) × (v ≡ Holds (entry_count e.trail))
holds_of e (Holds k) found none = (
  found.0.start,
  record { trail = found.0; is = found.1; start = refl; holds = found.2.0 },
  ap (λ (n : ℕ). Holds n) (found.2.1 ∙ sym (ap entry_count found.1)),
)
holds_of e (Differs n) found none = absurd (none n refl)

module _ (once : TrailsAreJudgedOnce) (e : Errand) where
  found_once : (one other : Verdict) → Finds e one → Finds e other → one ≡ other
  found_once one other h k =
      let same : h.0 ≡ k.0 = same_Some h.0 k.0 (sym h.1 ∙ k.1) in
      once (app_of e) k.0 one other (subst (λ (t : Kept). IsJudged (app_of e) t one) same h.2) k.2

  pub holds_or_differs : (s : Stored) (r : FileRefusal) → HoldsAll e s → AuditRefuses e r → ⊥
  holds_or_differs s r h refuses =
      let no : Holds (length h.trail.entries) ≡ Differs refuses.0 = found_once (Holds (length h.trail.entries)) (Differs refuses.0) (h.trail, h.is, (h.holds, refl)) refuses.2 in
      cc

  pub differs_once : (r q : FileRefusal) → AuditRefuses e r → AuditRefuses e q → r ≡ q
  differs_once r q h k =
      let one : Differs h.0 ≡ Differs k.0 = found_once (Differs h.0) (Differs k.0) h.2 k.2 in
      let number : h.0 ≡ k.0 = cc in
      h.1 ∙ ap (λ (n : ℕ). why.Differs n) number ∙ sym k.1
