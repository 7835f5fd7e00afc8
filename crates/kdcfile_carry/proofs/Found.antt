-- What was found in two files is what the files are.
use Rattle.std.specs.Prelude.{◌≡◌, ℕ, List}
use Rattle.std.proofs.Common.{inl, inr, sym, subst}
use Rattle.kd_device.specs.Twin.{Both}
use Rattle.application_types.specs.Generation.{Generated}
use Rattle.kdcfile_double.specs.MakingLaws.{RestsBoth}
use Rattle.kdcfile_double.specs.Mended.{BothRest}
use Rattle.kd_update.specs.declared.error.UpdateError.{UpdateError}
use Rattle.kdcfile_carry.specs.Doing.{AreEither}
use Rattle.kdcfile_carry.specs.Files.{AreFiles, Files}
use Rattle.kdcfile_carry.specs.FilesLaws.{one_meaning_of_files}
use Rattle.kdcfile_carry.specs.Leaving.{StaysWithin}
use Rattle.kdcfile_carry.specs.LeavingLaws.{rests_stay, stays_then}
use Rattle.kdcfile_carry.specs.Promise.{IsRefusal, IsSpent}
use Rattle.kdcfile_carry.specs.Ways.{AreOwn, AreRefusedAs, AreSpent, IsUpToDate, files_after}

-- only reading was done
pub reading_stays : (a b : Both) (la lb : ℕ → List ℕ → List ℕ → List ℕ → Type 0) (f h : Files) → BothRest a la → RestsBoth a b la lb → AreFiles f a.first.holds a.second.holds → StaysWithin (AreEither f h) a b la lb
reading_stays a b la lb f h rest rests are = rests_stay a b la lb (AreEither f h) rest (inl are) rests

module _ (g : Generated) (fingerprint : List ℕ) (f : Files) where
  module _ (a b : List ℕ) (are : AreFiles f a b) where
    same_as : (h : Files) → AreFiles h a b → f ≡ h
    same_as h too = one_meaning_of_files f h a b are too

    pub refusal : (why : UpdateError) → IsRefusal g fingerprint f why → AreRefusedAs g fingerprint a b why
    refusal why (inl own) =
        inl (
          own.0,
          record {
            own_texts = λ h too. subst (λ (u : Files). AreOwn g fingerprint u) (same_as h too) own.1;
            unsuited = λ h too up. own.2 (subst (λ (u : Files). IsUpToDate g fingerprint u) (sym (same_as h too)) up);
          },
        )
    refusal why (inr other) = inr (record { files = f; are = are; differs = other.0; judged = other.1 })

    pub spent_are : (n : ℕ) → IsSpent g fingerprint f n → AreSpent g fingerprint a b n
    spent_are n h = record { files = f; are = are; differs = h.differs; judged = h.judged; two = h.two; sequence = h.sequence; great = h.great }

-- files that were found, and then kept or carried
pub found_then : (g : Generated) (fingerprint : List ℕ) (k f : Files) (a b e : Both) (la lb le : ℕ → List ℕ → List ℕ → List ℕ → Type 0) → BothRest a la → RestsBoth a b la lb → AreFiles k a.first.holds a.second.holds → AreFiles f a.first.holds a.second.holds
    → StaysWithin (AreEither k (files_after g fingerprint k)) b e lb le → StaysWithin (AreEither f (files_after g fingerprint f)) a e la le
found_then g fingerprint k f a b e la lb le rest rests is are h =
    let same : k ≡ f = one_meaning_of_files k f a.first.holds a.second.holds is are in
    stays_then a b la lb (AreEither f (files_after g fingerprint f)) e le (reading_stays a b la lb f (files_after g fingerprint f) rest rests are)
    (subst (λ (u : Files). StaysWithin (AreEither u (files_after g fingerprint u)) b e lb le) same h)
