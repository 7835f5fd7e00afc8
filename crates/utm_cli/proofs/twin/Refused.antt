-- Two files are accepted, or refused for one reason.
use Rattle.std.proofs.Common.{◌≡◌, ℕ, [], ◌∷◌, refl, sym, ◌∙◌, arith}
use Rattle.std.proofs.lemmas.Bool.Decides.{nat_tests}
use Rattle.refusals.specs.Statuses.{IsOneOf, status_of_file}
use Rattle.kd_device.specs.Twin.{Both}
use Rattle.kdcs_types.specs.Tables.{TableRows}
use Rattle.refusals.specs.declared.error.FileRefusal.{FileRefusal}
use Rattle.refusals.specs.declared.error.FileRefusal.TheVariants as file
use Rattle.trail_run.specs.Auditing.{TrailsAreJudgedOnce}
use Rattle.call_parts.specs.Asking.{Errand}
use Rattle.utm_cli.specs.AuditLaws.{differs_once, holds_or_differs}
use Rattle.utm_cli.specs.Doing.{own}
use Rattle.call_parts.specs.declared.words.Word.{Word}
use Rattle.call_parts.specs.declared.words.Word.TheVariants.{Gen, Run, Show, Update, Trail, Audit, Make}
use Rattle.call_ends.specs.OpenedLaws.{opened_or_refused, refused_once}
use Rattle.utm_cli.specs.DoingTwo.{RefusesTwoBy, RefusesTwo, StartsTwoBy, StartsTwo}

module _ (once : TrailsAreJudgedOnce) (e : Errand) (a : Both) where
  not_both_by : (word : Word) (t : TableRows) (r : FileRefusal) → StartsTwoBy word e a t → RefusesTwoBy word e a r → ⊥
  not_both_by Gen t r starts refuses = opened_or_refused e a t r starts refuses
  not_both_by Run t r starts refuses = opened_or_refused e a t r starts refuses
  not_both_by Show t r starts refuses = opened_or_refused e a t r starts refuses
  not_both_by Update t r starts refuses = starts
  not_both_by Trail t r starts refuses = opened_or_refused e a t r starts refuses
  not_both_by Audit t r starts refuses = holds_or_differs once e (own e t) r starts refuses
  not_both_by (Make n) t r starts refuses = starts

  one_reason_by : (word : Word) (r q : FileRefusal) → RefusesTwoBy word e a r → RefusesTwoBy word e a q → r ≡ q
  one_reason_by Gen r q h k = refused_once e a r q h k
  one_reason_by Run r q h k = refused_once e a r q h k
  one_reason_by Show r q h k = refused_once e a r q h k
  one_reason_by Update r q h k = h ∙ sym k
  one_reason_by Trail r q h k = refused_once e a r q h k
  one_reason_by Audit r q h k = differs_once once e r q h k
  one_reason_by (Make n) r q h k = absurd h

  pub not_both : (t : TableRows) (r : FileRefusal) → StartsTwo e a t → RefusesTwo e a r → ⊥
  not_both t r starts refuses = not_both_by e.word t r starts refuses

  pub one_reason : (r q : FileRefusal) → RefusesTwo e a r → RefusesTwo e a q → r ≡ q
  one_reason r q h k = one_reason_by e.word r q h k

-- ---- its status

of_files : (r : FileRefusal) → IsOneOf (4 ∷ 8 ∷ []) (status_of_file r)
of_files file.NotKdcfile = refl
of_files (file.OtherGeneration stored) = refl
of_files (file.OtherBlksize n) = refl
of_files (file.SmallerPool n) = refl
of_files (file.TooManyGssbs n) = refl
of_files (file.TooLarge n) = refl
of_files file.SequenceSpent = refl
of_files file.TwoCopies = refl
of_files (file.Differs n) = refl

file_is : (k n : ℕ) → IsOneOf (4 ∷ 8 ∷ []) k → IsOneOf (k ∷ 5 ∷ 7 ∷ []) n → IsOneOf (4 ∷ 8 ∷ []) n → n ≡ k
file_is k n files h is = grind (arith, nat_tests)

pub file_status : (r : FileRefusal) (n : ℕ) → IsOneOf (status_of_file r ∷ 5 ∷ 7 ∷ []) n → IsOneOf (4 ∷ 8 ∷ []) n → n ≡ status_of_file r
file_status r n h is = file_is (status_of_file r) n (of_files r) h is
