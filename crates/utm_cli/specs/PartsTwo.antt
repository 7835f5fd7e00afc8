-- The words in which the parts of a call over two disks promise.
use Rattle.std.specs.Prelude.{◌≡◌, ◌∷◌, [], ℕ, IsTrue, List, Result, OnOk, IsErrOf}
use Rattle.kd_device.specs.Twin.{Both}
use Rattle.kdcs_types.specs.Tables.{TableRows}
use Rattle.kdcfile_double.specs.Opening.{SameFiles}
use Rattle.refusals.specs.Lines.{file_line}
use Rattle.refusals.specs.Statuses.{IsOneOf, status_of_file}
use Rattle.refusals.specs.declared.error.FileRefusal.{FileRefusal}
use Rattle.call_parts.specs.Asking.{Errand}
use Rattle.utm_cli.specs.Parts.{LooksBytes}
use Rattle.call_parts.specs.declared.error.CallError.{CallError}
use Rattle.call_parts.specs.declared.error.CallError.TheVariants.{Refused, Failed}
use Rattle.utm_cli.specs.DoingTwo.{KeepsTwo, RefusesTwo, StartsTwo}
use Rattle.call_parts.specs.OpeningTwo.{StaysAsItIs}
use Rattle.utm_cli.specs.PromiseTwo.{AttachesTwoBy, EndsTwo, MayAttachTwoBy, SaysWhyTwo, StopsTwo, TellsTwo}
use Rattle.call_parts.specs.LeavingTwo.{FailsTwo, FaultsTwo, FineTwo, FrameTwin, SaysPartTwo}

-- what an errand over the two files of a BASE did, and what it answered
pub record DoesTwo (e : Errand) (base : List ℕ) (result : Result Unit CallError) (a b : Both) (la lb : ℕ → List ℕ → List ℕ → List ℕ → Type 0) : Type 0 where
  pub done : OnOk result (TellsTwo e.word a.told → EndsTwo e a b lb)
  pub refused : (why : FileRefusal) → IsErrOf result (Refused why) → TellsTwo e.word a.told → RefusesTwo e a why
  pub failed : IsErrOf result Failed → FaultsTwo a b
  pub failed_told : IsErrOf result Failed → IsTrue a.told → FailsTwo a b
  pub fine : (IsErrOf result Failed → ⊥) → FineTwo a b
  -- files that it does not start from stay as they are
  pub still : IsTrue a.told → ((t : TableRows) → StartsTwo e a t → ⊥) → StaysAsItIs a b la lb
  pub left : IsTrue a.told → (KeepsTwo e.word → ⊥) → SameFiles a b
  pub any_moment : IsTrue a.told → (t : TableRows) → StartsTwo e a t → StopsTwo e t a b la lb
  pub bytes : OnOk result (IsTrue a.told → (t : TableRows) → StartsTwo e a t → LooksBytes e t)
  pub names : IsTrue a.told → MayAttachTwoBy e.word base a b
  pub named : OnOk result (IsTrue a.told → AttachesTwoBy e.word base a b)
  pub frame : FrameTwin a b

-- an errand over two copies ended with this status
pub record EndsErrandTwo (e : Errand) (base : List ℕ) (a b : Both) (la lb : ℕ → List ℕ → List ℕ → List ℕ → Type 0) (status : ℕ) : Type 0 where
  pub code : IsOneOf (0 ∷ 4 ∷ 5 ∷ 7 ∷ 8 ∷ []) status
  pub done : status ≡ 0 → TellsTwo e.word a.told → EndsTwo e a b lb
  pub refused : TellsTwo e.word a.told → (why : FileRefusal) → RefusesTwo e a why → IsOneOf (status_of_file why ∷ 5 ∷ 7 ∷ []) status
  pub refused_part : IsTrue a.told → (why : FileRefusal) → RefusesTwo e a why → SaysPartTwo (file_line why) a b
  pub refused_only : IsOneOf (4 ∷ 8 ∷ []) status → TellsTwo e.word a.told → SaysWhyTwo e status a b
  pub accepted : TellsTwo e.word a.told → (t : TableRows) → StartsTwo e a t → IsOneOf (0 ∷ 5 ∷ 7 ∷ []) status
  pub device : status ≡ 5 → FaultsTwo a b
  pub device_told : status ≡ 5 → IsTrue a.told → FailsTwo a b
  pub fine : (status ≡ 5 → ⊥) → FineTwo a b
  pub left : IsTrue a.told → (KeepsTwo e.word → ⊥) → SameFiles a b
  pub any_moment : IsTrue a.told → (t : TableRows) → StartsTwo e a t → StopsTwo e t a b la lb
  pub bytes : status ≡ 0 → IsTrue a.told → (t : TableRows) → StartsTwo e a t → LooksBytes e t
  pub names : IsTrue a.told → MayAttachTwoBy e.word base a b
  pub named : status ≡ 0 → IsTrue a.told → AttachesTwoBy e.word base a b
  pub frame : FrameTwin a b
