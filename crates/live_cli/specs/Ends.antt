-- How a call ends whose texts are read.
use Rattle.std.specs.Prelude.{◌≡◌, ◌⊎◌, ◌++◌, ◌∷◌, ℕ, IsTrue, List, []}
use Rattle.kd_device.specs.Device.{Frame, Only, Rose, SameFaults, State}
use Rattle.kdcs_types.specs.Tables.{TableRows}
use Rattle.device_acts.specs.Said.{Said, SaidPart}
use Rattle.refusals.specs.Lines.{file_line}
use Rattle.refusals.specs.Statuses.{IsOneOf}
use Rattle.refusals.specs.declared.error.FileRefusal.{FileRefusal}
use Rattle.call_parts.specs.Asking.{Errand}
use Rattle.call_parts.specs.Leaving.{CallFailed, MayAttach}
use Rattle.call_parts.specs.Opening.{OpeningRefuses, Opens}
use Rattle.call_parts.specs.Words.{file_name}
use Rattle.live_run.specs.Typing.{SameTyping, TypingState}
use Rattle.live_cli.specs.Living.{LivedWhole}

-- a call of the disk or of the line failed, or a read of the input
abbrev pub FailedLive : (a b : State) → (i j : TypingState) → Type 0
FailedLive a b i j = CallFailed a b ⊎ Rose i.faults j.faults

-- the file is refused, and the line that says why was sent
abbrev pub SaysWhyLive : Errand → (a b : State) → Type 0
SaysWhyLive e a b = (why : FileRefusal) × OpeningRefuses e a.holds why × Said (file_line why) a b

-- typed lines over the file of a BASE ended with this status
pub record EndsLive (e : Errand) (base : List ℕ) (i j : TypingState) (a b : State) (la lb : ℕ → List ℕ → List ℕ → Type 0) (status : ℕ) : Type 0 where
  pub code : IsOneOf (0 ∷ 4 ∷ 5 ∷ 7 ∷ []) status
  -- 4: the file is refused, for its bytes or for its other texts. Nothing is done but the line that says why
  pub refused : IsTrue a.told → (why : FileRefusal) → OpeningRefuses e a.holds why → IsOneOf (4 ∷ 5 ∷ 7 ∷ []) status × SaidPart (file_line why) a b
  pub refused_only : status ≡ 4 → IsTrue a.told → SaysWhyLive e a b
  -- a file that is accepted. The lines that were read, each answered, and each with all acts of the lines before it done when it was
  -- read; at a stop since the call, whatever its status, the bytes sent and the file are a cut of their acts; and at 0 the input
  -- is at its end, and all was done
  pub accepted : IsTrue a.told → (t : TableRows) → Opens e a.holds t → IsOneOf (0 ∷ 5 ∷ 7 ∷ []) status
  pub opened : status ≡ 0 → IsTrue a.told → (t : TableRows) × Opens e a.holds t
  -- as the call left them, the bytes sent and the file are such a cut, whatever the status; at 5 and 7 only the last line that was read may be undone; at 5 the input failed, the line, or the disk where an act asks for it
  pub lived : IsTrue a.told → Only a.holds a la → (t : TableRows) → Opens e a.holds t → LivedWhole (λ Done. status ≡ 0 → Done) (λ Stopped. IsOneOf (5 ∷ 7 ∷ []) status → Stopped) (λ Halted. status ≡ 5 → Rose i.faults j.faults ⊎ Halted) e t i a b lb
  -- the file BASE.KDCA, and no other, was attached
  pub names : IsTrue a.told → MayAttach (file_name base) a b
  pub attached : status ≡ 0 → IsTrue a.told → b.names ≡ a.names ++ file_name base ∷ []
  -- 5: a call of the disk, the line or the input failed; at any other status none did
  pub device : status ≡ 5 → FailedLive a b i j
  pub device_told : (status ≡ 5 → ⊥) → SameFaults a b × (j.faults ≡ i.faults)
  pub frame : Frame a b
  pub typing : SameTyping i j
