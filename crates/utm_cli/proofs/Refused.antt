-- A file is accepted, or refused for one reason; and how a reason is handed on.
use Rattle.std.proofs.Common.{◌≡◌, inl, inr, ⊎_elim, ℕ, List, refl, sym, ap, subst, ◌∙◌}
use Rattle.std.specs.Prelude.{Result, Err, IsErrAnd, IsErrOf}
use Rattle.kd_update.specs.declared.error.UpdateError.{UpdateError}
use Rattle.kd_update.specs.declared.error.UpdateError.TheVariants as cause
use Rattle.device_acts.specs.MeaningLaws.{answers_exclude_each_other}
use Rattle.device_acts.specs.Opening.{HasOneAnswer, IsRefused, IsOfOtherTexts}
use Rattle.device_acts.specs.declared.warm_start.error.OpenError.{OpenError}
use Rattle.device_acts.specs.declared.warm_start.error.OpenError.TheVariants as opening
use Rattle.kdcfile_update.specs.Updating.{Stored, RefusesAs, HasOneUpdate}
use Rattle.kdcfile_update.specs.UpdatingLaws.{update_answers_exclude_each_other}
use Rattle.kdcfile_update.specs.declared.error.CarryError.{CarryError}
use Rattle.kdcfile_update.specs.declared.error.CarryError.TheVariants as carrying
use Rattle.refusals.specs.declared.error.FileRefusal.{FileRefusal}
use Rattle.refusals.specs.declared.error.FileRefusal.TheVariants as why
use Rattle.call_parts.specs.declared.error.CallError.{CallError}
use Rattle.call_parts.specs.declared.error.CallError.TheVariants.{Refused}
use Rattle.call_parts.specs.declared.words.Word.{Word}
use Rattle.call_parts.specs.declared.words.Word.TheVariants.{Gen, Run, Show, Update, Trail, Audit, Make}
use Rattle.trail_run.specs.Auditing.{TrailsAreJudgedOnce}
use Rattle.call_parts.specs.Asking.{Errand}
use Rattle.utm_cli.specs.AuditLaws.{holds_or_differs, differs_once}
use Rattle.call_parts.specs.Causes.{of_open, of_carry}
use Rattle.call_parts.proofs.HandedOn.{handed, same_reason}
use Rattle.utm_cli.specs.Doing.{OpensWith, UpdateTakes, UpdateRefuses, StartsBy, Starts, RefusesBy, Refuses}
use Rattle.call_parts.specs.Opening.{OpeningRefuses}

-- ---- a file is answered in one way

-- the reason of an update, and back
abbrev cause_of : FileRefusal → UpdateError
cause_of why.NotKdcfile = cause.NotKdcfile
cause_of (why.OtherGeneration stored) = cause.Memory
cause_of (why.OtherBlksize n) = cause.OtherBlksize n
cause_of (why.SmallerPool n) = cause.SmallerPool n
cause_of (why.TooManyGssbs n) = cause.TooManyGssbs n
cause_of (why.TooLarge n) = cause.TooLarge n
cause_of why.SequenceSpent = cause.Memory
cause_of why.TwoCopies = cause.Memory
cause_of (why.Differs n) = cause.Memory

abbrev reason_of : UpdateError → FileRefusal
reason_of cause.NotKdcfile = why.NotKdcfile
reason_of (cause.OtherBlksize n) = why.OtherBlksize n
reason_of (cause.SmallerPool n) = why.SmallerPool n
reason_of (cause.TooManyGssbs n) = why.TooManyGssbs n
reason_of (cause.TooLarge n) = why.TooLarge n
reason_of cause.Memory = why.NotKdcfile

module _ (once : TrailsAreJudgedOnce) (e : Errand) (bytes : List ℕ) where
  answer : HasOneAnswer e.application.generation e.fingerprint bytes
  answer = answers_exclude_each_other e.application.generation e.fingerprint bytes

  judgement : HasOneUpdate e.application.generation e.fingerprint bytes
  judgement = update_answers_exclude_each_other e.application.generation e.fingerprint bytes

  opened_or_refused : (s : Stored) (r : FileRefusal) → OpensWith e bytes s → OpeningRefuses e bytes r → ⊥
  opened_or_refused s r opens refuses = ⊎_elim (λ none. answer.started_or_refused s.tables opens.opens none.1) (λ other. answer.started_or_other s.tables other.0 opens.opens other.2) refuses

  refused_once : (r q : FileRefusal) → OpeningRefuses e bytes r → OpeningRefuses e bytes q → r ≡ q
  refused_once r q (inl none) (inl again) = none.0 ∙ sym again.0
  refused_once r q (inl none) (inr other) = absurd (answer.refused_or_other other.0 none.1 other.2)
  refused_once r q (inr other) (inl none) = absurd (answer.refused_or_other other.0 none.1 other.2)
  refused_once r q (inr other) (inr again) = other.1 ∙ ap (λ (stored : List ℕ). why.OtherGeneration stored) (answer.other_once other.0 again.0 other.2 again.2) ∙ sym again.1

  -- a reason of an update is one of the judgement
  judged : (r : FileRefusal) → UpdateRefuses e bytes r → RefusesAs e.application.generation e.fingerprint bytes (cause_of r) × (reason_of (cause_of r) ≡ r)
  judged why.NotKdcfile h = (h, refl)
  judged (why.OtherGeneration stored) h = absurd h
  judged (why.OtherBlksize n) h = (h, refl)
  judged (why.SmallerPool n) h = (h, refl)
  judged (why.TooManyGssbs n) h = (h, refl)
  judged (why.TooLarge n) h = (h, refl)
  judged why.SequenceSpent h = absurd h
  judged why.TwoCopies h = absurd h
  judged (why.Differs n) h = absurd h

  taken_or_refused : (s : Stored) (r : FileRefusal) → UpdateTakes e bytes s → UpdateRefuses e bytes r → ⊥
  taken_or_refused s r takes refuses = judgement.taken_or_refused s (cause_of r) takes (judged r refuses).0

  judged_once : (r q : FileRefusal) → UpdateRefuses e bytes r → UpdateRefuses e bytes q → r ≡ q
  judged_once r q h k =
      let first = judged r h in
      let second = judged q k in
      sym first.1 ∙ ap reason_of (judgement.refused_once (cause_of r) (cause_of q) first.0 second.0) ∙ second.1

  not_both_by : (word : Word) (s : Stored) (r : FileRefusal) → StartsBy word e bytes s → RefusesBy word e bytes r → ⊥
  not_both_by Gen s r starts refuses = opened_or_refused s r starts refuses
  not_both_by Run s r starts refuses = opened_or_refused s r starts refuses
  not_both_by Show s r starts refuses = opened_or_refused s r starts refuses
  not_both_by Update s r starts refuses = taken_or_refused s r starts refuses
  not_both_by Trail s r starts refuses = opened_or_refused s r starts refuses
  not_both_by Audit s r starts refuses = holds_or_differs once e s r starts refuses
  not_both_by (Make n) s r starts refuses = refuses

  one_reason_by : (word : Word) (r q : FileRefusal) → RefusesBy word e bytes r → RefusesBy word e bytes q → r ≡ q
  one_reason_by Gen r q h k = refused_once r q h k
  one_reason_by Run r q h k = refused_once r q h k
  one_reason_by Show r q h k = refused_once r q h k
  one_reason_by Update r q h k = judged_once r q h k
  one_reason_by Trail r q h k = refused_once r q h k
  one_reason_by Audit r q h k = differs_once once e r q h k
  one_reason_by (Make n) r q h k = absurd h

  pub not_both : (s : Stored) (r : FileRefusal) → Starts e bytes s → Refuses e bytes r → ⊥
  not_both s r starts refuses = not_both_by e.word s r starts refuses

  pub one_reason : (r q : FileRefusal) → Refuses e bytes r → Refuses e bytes q → r ≡ q
  one_reason r q h k = one_reason_by e.word r q h k

-- ---- errors that are handed on

module _ (T U : Type 0) (given : Result T CallError) where
  -- those of an opening
  pub open_refused : (x : OpenError) (r : FileRefusal) → IsErrAnd given (λ y. y ≡ of_open x) → IsErrOf given (Refused r) → (e : Errand) (bytes : List ℕ) → (IsErrOf {T = U} (Err x) opening.NotKdcfile → IsRefused e.application.generation e.fingerprint bytes)
      → ((stored : List ℕ) → IsErrOf {T = U} (Err x) (opening.OtherGeneration stored) → IsOfOtherTexts stored e.fingerprint bytes) → OpeningRefuses e bytes r
  open_refused x r gives is e bytes none other = by x (handed given (of_open x) (Refused r) gives is) none other
    where
      by : (x : OpenError) → of_open x ≡ Refused r → (IsErrOf {T = U} (Err x) opening.NotKdcfile → IsRefused e.application.generation e.fingerprint bytes) → ((stored : List ℕ) → IsErrOf {T = U} (Err x) (opening.OtherGeneration stored) → IsOfOtherTexts stored e.fingerprint bytes)
          → OpeningRefuses e bytes r
      by opening.NotKdcfile is none other = inl (sym (same_reason why.NotKdcfile r is), none refl)
      by (opening.OtherGeneration stored) is none other = inr (stored, sym (same_reason (why.OtherGeneration stored) r is), other stored refl)
      by opening.Failed is none other = absurd cc
      by opening.Memory is none other = absurd cc

  -- those of an update
  pub carry_refused : (x : CarryError) (r : FileRefusal) → IsErrAnd given (λ y. y ≡ of_carry x) → IsErrOf given (Refused r) → (e : Errand) (bytes : List ℕ)
      → ((c : UpdateError) → IsErrOf {T = U} (Err x) (carrying.Refused c) → RefusesAs e.application.generation e.fingerprint bytes c) → UpdateRefuses e bytes r
  carry_refused x r gives is e bytes judged = by x (handed given (of_carry x) (Refused r) gives is) judged
    where
      by : (x : CarryError) → of_carry x ≡ Refused r → ((c : UpdateError) → IsErrOf {T = U} (Err x) (carrying.Refused c) → RefusesAs e.application.generation e.fingerprint bytes c) → UpdateRefuses e bytes r
      by (carrying.Refused cause.NotKdcfile) is judged = subst (UpdateRefuses e bytes) (same_reason why.NotKdcfile r is) (judged cause.NotKdcfile refl)
      by (carrying.Refused (cause.OtherBlksize n)) is judged = subst (UpdateRefuses e bytes) (same_reason (why.OtherBlksize n) r is) (judged (cause.OtherBlksize n) refl)
      by (carrying.Refused (cause.SmallerPool n)) is judged = subst (UpdateRefuses e bytes) (same_reason (why.SmallerPool n) r is) (judged (cause.SmallerPool n) refl)
      by (carrying.Refused (cause.TooManyGssbs n)) is judged = subst (UpdateRefuses e bytes) (same_reason (why.TooManyGssbs n) r is) (judged (cause.TooManyGssbs n) refl)
      by (carrying.Refused (cause.TooLarge n)) is judged = subst (UpdateRefuses e bytes) (same_reason (why.TooLarge n) r is) (judged (cause.TooLarge n) refl)
      by (carrying.Refused cause.Memory) is judged = absurd cc
      by carrying.Failed is judged = absurd cc
      by carrying.Memory is judged = absurd cc
