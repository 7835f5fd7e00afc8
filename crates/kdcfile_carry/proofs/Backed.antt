-- A content that is written to an empty file, and read back.
use Rattle.std.specs.Prelude.{◌≡◌, ℕ, List, Result, Ok, Err, OnOk, IsErrAnd, IsErrOf}
use Rattle.std.proofs.Common.{sym, ◌∙◌}
use Rattle.kd_device.specs.Device.{Only, State}
use Rattle.kd_device.specs.Rest.{Rests}
use Rattle.kdcfile_layout.specs.Layout.{IsNoImage}
use Rattle.kdcfile_layout.specs.ReadFilesLaws.{one_meaning}
use Rattle.kdcfile_store.specs.Paged.{HasFile, Paged}
use Rattle.kdcfile_carry.specs.declared.backing.BackUpError.{BackUpError}
use Rattle.kdcfile_carry.specs.declared.backing.BackUpError.TheVariants as errors
use Rattle.kdcfile_carry.specs.declared.error.FilesError.{FilesError}

-- what is read of a file is what was written to it
pub same_kept : (a b : Paged) (bytes : List ℕ) → HasFile a bytes → HasFile b bytes → (a.identity ≡ b.identity) × (a.content ≡ b.content)
same_kept a b bytes h k = one_meaning a.identity b.identity a.content b.content bytes (a.second, a.layout, h) (b.second, b.layout, k)

pub there_is_image : (a : Paged) (bytes : List ℕ) → HasFile a bytes → IsNoImage bytes → ⊥
there_is_image a bytes h none = none a.identity a.content (a.second, a.layout, h)

pub still_only : (a b : State) (la lb : ℕ → List ℕ → List ℕ → Type 0) → Only a.holds a la → Rests a b la lb → Only b.holds b lb
still_only a b la lb only rests = λ c left. only c (rests.stop c left) ∙ sym rests.holds

-- the cause that is handed on
pub files_cause : (T U : Type 0) (r : Result T BackUpError) (e w : FilesError) → IsErrAnd r (λ x. x ≡ errors.Files e) → IsErrOf r (errors.Files w) → IsErrOf {T = U} (Err e) w
files_cause T U (Ok x) e w gives is = absurd gives
files_cause T U (Err x) e w gives is = cc

pub on_ok_two : {A E : Type 0} (r : Result A E) (P Q R : Type 0) → (P → Q → R) → OnOk r P → OnOk r Q → OnOk r R
on_ok_two (Ok x) P Q R f p q = f p q
on_ok_two (Err e) P Q R f p q = tt
