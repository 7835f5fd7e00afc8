-- How a call over two copies ends whose texts are read.
use Rattle.std.specs.Prelude.{◌≡◌, ◌⊎◌, ◌∷◌, ℕ, Bool, false, IsTrue, List, [], Result, OnOk, IsErrOf}
use Rattle.kd_device.specs.Device.{Rose}
use Rattle.kd_device.specs.Twin.{Both}
use Rattle.kd_device.specs.declared.half.Half.{Half}
use Rattle.kdcs_types.specs.Tables.{TableRows}
use Rattle.refusals.specs.Lines.{file_line}
use Rattle.refusals.specs.Statuses.{IsOneOf, status_of_file}
use Rattle.refusals.specs.declared.error.FileRefusal.{FileRefusal}
use Rattle.call_parts.specs.Asking.{Errand}
use Rattle.call_parts.specs.LeavingTwo.{AttachesBoth, FailsTwo, FaultsTwo, FineTwo, FrameTwin, MayAttachTwo, SaidTwo, SaysPartTwo}
use Rattle.call_parts.specs.Missing.{IsMissing, MayOpen, missing_line}
use Rattle.call_parts.specs.Opening.{OpeningRefusesTwo, OpensTwo}
use Rattle.call_parts.specs.OpeningTwo.{StaysAsItIs}
use Rattle.live_run.specs.Typing.{SameTyping, TypingState}
use Rattle.live_cli.specs.LivingTwo.{LivedWholeTwo}
use Rattle.live_cli.specs.declared.error.SessionError.{SessionError}
use Rattle.live_cli.specs.declared.error.SessionError.TheVariants.{Missing, Refused, Failed, Input}

-- a session begins with these tables: no file is missing, or a copy is taken alone; and the files are opened with them
abbrev pub BeginsTwo : (alone : Bool) → Errand → Both → TableRows → Type 0
BeginsTwo alone e a t = MayOpen alone a × OpensTwo e a t

-- it does not begin: this file is missing, and a copy is not taken alone
abbrev pub LacksCopy : (alone : Bool) → Both → Half → Type 0
LacksCopy alone a half = (alone ≡ false) × IsMissing half a.first.holds a.second.holds

-- nor here: no file is missing, or a copy is taken alone; and the files are refused
abbrev pub RefusesTwoLive : (alone : Bool) → Errand → Both → FileRefusal → Type 0
RefusesTwoLive alone e a why = MayOpen alone a × OpeningRefusesTwo e a why

-- it does not begin, and the line that says why was sent
abbrev pub SaysWhyLiveTwo : (alone : Bool) → Errand → (a b : Both) → Type 0
SaysWhyLiveTwo alone e a b =
    ((half : Half) × LacksCopy alone a half × SaidTwo (missing_line half) a b) ⊎ ((why : FileRefusal) × RefusesTwoLive alone e a why × SaidTwo (file_line why) a b)

-- what a session over the two files of a BASE did, and what it answered
pub record DoesLiveTwo (e : Errand) (base : List ℕ) (alone : Bool) (result : Result Unit SessionError) (i j : TypingState) (a b : Both) (la lb : ℕ → List ℕ → List ℕ → List ℕ → Type 0) : Type 0 where
  pub opened : OnOk result (IsTrue a.told → (t : TableRows) × BeginsTwo alone e a t)
  pub missing : (half : Half) → IsErrOf result (Missing half) → IsTrue a.told → LacksCopy alone a half
  pub refused : (why : FileRefusal) → IsErrOf result (Refused why) → IsTrue a.told → RefusesTwoLive alone e a why
  pub four : (why : FileRefusal) → IsErrOf result (Refused why) → status_of_file why ≡ 4
  pub failed : IsErrOf result Failed → FaultsTwo a b
  pub failed_told : IsErrOf result Failed → IsTrue a.told → FailsTwo a b
  pub fine : (IsErrOf result Failed → ⊥) → FineTwo a b
  pub input : IsErrOf result Input → Rose i.faults j.faults
  pub heard : (IsErrOf result Input → ⊥) → j.faults ≡ i.faults
  -- files from which nothing goes on, or may, stay as they are, and no line is read
  pub still : IsTrue a.told → ((t : TableRows) → BeginsTwo alone e a t → ⊥) → StaysAsItIs a b la lb × (j ≡ i)
  pub lived : IsTrue a.told → (t : TableRows) → BeginsTwo alone e a t → LivedWholeTwo (λ Done. OnOk result Done) e t i a b la lb
  pub names : IsTrue a.told → MayAttachTwo base a b
  pub named : OnOk result (IsTrue a.told → AttachesBoth base a b)
  pub frame : FrameTwin a b
  pub typing : SameTyping i j

-- typed lines over the two files of a BASE ended with this status
pub record EndsLiveTwo (e : Errand) (base : List ℕ) (alone : Bool) (i j : TypingState) (a b : Both) (la lb : ℕ → List ℕ → List ℕ → List ℕ → Type 0) (status : ℕ) : Type 0 where
  pub code : IsOneOf (0 ∷ 4 ∷ 5 ∷ 7 ∷ []) status
  -- 4: a file is missing, and a copy is not taken alone; or the files are refused, for their bytes, for their other texts, or
  -- for a sequence that is spent. Nothing is done but the line that says why: no byte is written, and no line is read
  pub missing : IsTrue a.told → (half : Half) → LacksCopy alone a half → IsOneOf (4 ∷ 5 ∷ 7 ∷ []) status × SaysPartTwo (missing_line half) a b × (j ≡ i)
  pub refused : IsTrue a.told → (why : FileRefusal) → RefusesTwoLive alone e a why → IsOneOf (4 ∷ 5 ∷ 7 ∷ []) status × SaysPartTwo (file_line why) a b × (j ≡ i)
  pub refused_only : status ≡ 4 → IsTrue a.told → SaysWhyLiveTwo alone e a b
  -- files that are accepted, whose half that was behind is mended and said first. The lines that were read, each answered, and
  -- each with all acts of the lines before it done when it was read; at a stop since the call, whatever its status, the bytes
  -- sent and the copy that counts are a cut of their acts, and so is each half by itself on which no call failed; and at 0 the
  -- input is at its end, all was done, and each half has the last copy or is lost, which is said last
  pub accepted : IsTrue a.told → (t : TableRows) → BeginsTwo alone e a t → IsOneOf (0 ∷ 5 ∷ 7 ∷ []) status
  pub opened : status ≡ 0 → IsTrue a.told → (t : TableRows) × BeginsTwo alone e a t
  pub lived : IsTrue a.told → (t : TableRows) → BeginsTwo alone e a t → LivedWholeTwo (λ Done. status ≡ 0 → Done) e t i a b la lb
  -- of each half no file was attached but its own, BASE.KDCA and BASE.KDCB
  pub names : IsTrue a.told → MayAttachTwo base a b
  pub attached : status ≡ 0 → IsTrue a.told → AttachesBoth base a b
  -- 5: the input failed, or a call of the line, or of both halves, or of one half before a byte was sent; at any other status no
  -- fault is told as another answer
  pub device : status ≡ 5 → FaultsTwo a b ⊎ Rose i.faults j.faults
  pub device_told : status ≡ 5 → IsTrue a.told → FailsTwo a b ⊎ Rose i.faults j.faults
  pub device_fine : (status ≡ 5 → ⊥) → FineTwo a b × (j.faults ≡ i.faults)
  pub frame : FrameTwin a b
  pub typing : SameTyping i j
