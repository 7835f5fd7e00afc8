-- How a call ends, from what its parts did.
use Rattle.std.proofs.Common.{◌≡◌, ◌++◌, ◌∙◌, inl, inr, ⊎_elim, refl, sym, ap, subst, arith, ℕ, List, Option, Some, None, Err, map, take}
use Rattle.std.specs.Prelude.{IsErrOf, IsTrue}
use Rattle.std.proofs.lemmas.Option.{same_Some}
use Rattle.kd_device.specs.Device.{Frame, Rose}
use Rattle.kd_device.specs.declared.error.DeviceError.{DeviceError}
use Rattle.kd_device.specs.declared.error.DeviceError.TheVariants as device
use Rattle.kd_device.specs.Room.{RoomState, SameRoom}
use Rattle.kd_device.specs.Twin.{Both, Disk, disk_of, half_state}
use Rattle.kd_device.specs.declared.half.Half.{Half}
use Rattle.kd_device.specs.declared.half.Half.TheVariants.{First, Second}
use Rattle.kdcfile_copies.specs.CopiesLaws.{some_none}
use Rattle.kdcfile_copies.specs.Beside.{SaidBoth, SaidPartBoth, SameDisk}
use Rattle.kdcfile_double.specs.MakingLaws.{RestsBoth}
use Rattle.kdcfile_double.specs.Opening.{SameFiles}
use Rattle.kdcfile_double.specs.Twice.{NoneRose}
use Rattle.call_parts.specs.LeavingTwo.{FrameTwin, MayAttachTwo}
use Rattle.carry_cli.specs.Promise.{AnswersCarry, AreLinesOf, EndsCarry, EndsState, EndsUsage}
use Rattle.carry_cli.specs.Words.{carry_of, carry_usage_line, state_of}
use Rattle.carry_cli.specs.declared.kinds.There.{There}
use Rattle.carry_cli.specs.declared.words.Options.{Options}

-- want of memory is no call that failed
pub memory_not_failed : (T : Type 0) (x : DeviceError) → x ≡ device.Memory → IsErrOf {T = T} (Err x) device.Failed → ⊥
memory_not_failed T device.Failed is failed = absurd cc
memory_not_failed T device.Memory is failed = absurd cc

-- ---- calls that leave both disks as they are

module _ (b e : Both) (disks : (half : Half) → SameDisk half b e) where
  pub same_files : SameFiles b e
  same_files = record {
    first_holds = ap (λ (d : Disk). d.holds) (disks First);
    second_holds = ap (λ (d : Disk). d.holds) (disks Second);
    first_put = ap (λ (d : Disk). d.put) (disks First);
    second_put = ap (λ (d : Disk). d.put) (disks Second);
  }

  pub said_frame : Frame (half_state First b) (half_state First e) → FrameTwin b e
  said_frame h = record {
    told = h.told;
    first_faults = h.disk_faults;
    second_faults = omega (arith, ap (λ (d : Disk). d.disk_faults) (disks Second));
    line_faults = h.line_faults;
    moment = h.moment;
  }

  pub none_said : e.line_faults ≡ b.line_faults → NoneRose b e
  none_said line = record { first_same = ap (λ (d : Disk). d.disk_faults) (disks First); second_same = ap (λ (d : Disk). d.disk_faults) (disks Second); line_same = line }

pub twin_then : (a b e : Both) → FrameTwin a b → FrameTwin b e → FrameTwin a e
twin_then a b e h k = record {
  told = k.told ∙ h.told;
  first_faults = omega (arith, h.first_faults, k.first_faults);
  second_faults = omega (arith, h.second_faults, k.second_faults);
  line_faults = omega (arith, h.line_faults, k.line_faults);
  moment = omega (arith, h.moment, k.moment);
}

-- names that were handed on before
module _ (base : List ℕ) (a b e : Both) (may : MayAttachTwo base a b) where
  pub names_then : ((half : Half) → (disk_of half e).names ≡ (disk_of half b).names) → MayAttachTwo base a e
  names_then same half = ⊎_elim (λ none. inl (same half ∙ none)) (λ attaches. inr (same half ∙ attaches)) (may half)

-- ---- the state of a BASE

module _ (base : List ℕ) (room : RoomState) (there : There) (a b : Both) (la lb : ℕ → List ℕ → List ℕ → List ℕ → Type 0) (rests : IsTrue a.told → RestsBoth a b la lb) (names : IsTrue a.told → MayAttachTwo base a b) (frame : FrameTwin a b) where
  -- these lines were to be sent
  module _ (none : NoneRose a b) (lines : List ℕ) (are : IsTrue room.told → IsTrue a.told → AreLinesOf base room there a.first.holds a.second.holds lines) (e : Both) (disks : (half : Half) → SameDisk half b e) (line_frame : Frame (half_state First b) (half_state First e)) (part : IsTrue b.told → SaidPartBoth lines b e) where
    told_then : IsTrue a.told → IsTrue b.told
    told_then told = subst IsTrue (sym frame.told) told

    files_now : IsTrue a.told → SameFiles a e
    files_now told =
        let before = (rests told).files in
        let said = same_files b e disks in
        record { first_holds = said.first_holds ∙ before.first_holds; second_holds = said.second_holds ∙ before.second_holds; first_put = said.first_put ∙ before.first_put; second_put = said.second_put ∙ before.second_put }

    front : (told : IsTrue a.told) → (n : ℕ) × (e.sent ≡ a.sent ++ take n lines)
    front told = let p = part (told_then told) in (p.0, subst (λ (s : List ℕ). e.sent ≡ s ++ take p.0 lines) (rests told).sent p.1)

    names_now : IsTrue a.told → MayAttachTwo base a e
    names_now told = names_then base a b e (names told) (λ half. ap (λ (d : Disk). d.names) (disks half))

    frame_now : FrameTwin a e
    frame_now = twin_then a b e frame (said_frame b e disks line_frame)

    none_now : e.line_faults ≡ b.line_faults → NoneRose a e
    none_now line = let said = none_said b e disks line in record { first_same = said.first_same ∙ none.first_same; second_same = said.second_same ∙ none.second_same; line_same = said.line_same ∙ none.line_same }

    pub all_sent : (IsTrue b.told → SaidBoth lines b e) → e.line_faults ≡ b.line_faults → EndsState base room there a e 0
    all_sent sent line = record {
      code = refl;
      done = λ is known told. (lines, are known told, record { files = files_now told; sent = subst (λ (s : List ℕ). e.sent ≡ s ++ lines) (rests told).sent (sent (told_then told)) });
      files = files_now;
      part = λ known told. inr (lines, are known told, front told);
      device = λ is. absurd cc;
      fine = λ not. none_now line;
      names = names_now;
      frame = frame_now;
    }

    pub line_failed : Rose b.line_faults e.line_faults → EndsState base room there a e 5
    line_failed rose = record {
      code = refl;
      done = λ is. absurd cc;
      files = files_now;
      part = λ known told. inr (lines, are known told, front told);
      device = λ is. inl (subst (λ (n : ℕ). Rose n e.line_faults) none.line_same rose);
      fine = λ not. absurd (not refl);
      names = names_now;
      frame = frame_now;
    }

    pub line_memory : e.line_faults ≡ b.line_faults → EndsState base room there a e 7
    line_memory line = record {
      code = refl;
      done = λ is. absurd cc;
      files = files_now;
      part = λ known told. inr (lines, are known told, front told);
      device = λ is. absurd cc;
      fine = λ not. none_now line;
      names = names_now;
      frame = frame_now;
    }

-- ---- other words

module _ (a e : Both) (disks : (half : Half) → SameDisk half a e) (line_frame : Frame (half_state First a) (half_state First e)) where
  pub usage_sent : (IsTrue a.told → SaidBoth carry_usage_line a e) → e.line_faults ≡ a.line_faults → EndsUsage a e 1
  usage_sent sent line = record {
    code = refl;
    said = λ is told. record { files = same_files a e disks; sent = sent told };
    files = λ told. same_files a e disks;
    device = λ is. absurd cc;
    fine = λ not. none_said a e disks line;
    frame = said_frame a e disks line_frame;
  }

  pub usage_failed : Rose a.line_faults e.line_faults → EndsUsage a e 5
  usage_failed rose = record {
    code = refl;
    said = λ is. absurd cc;
    files = λ told. same_files a e disks;
    device = λ is. rose;
    fine = λ not. absurd (not refl);
    frame = said_frame a e disks line_frame;
  }

  pub usage_memory : e.line_faults ≡ a.line_faults → EndsUsage a e 7
  usage_memory line = record {
    code = refl;
    said = λ is. absurd cc;
    files = λ told. same_files a e disks;
    device = λ is. absurd cc;
    fine = λ not. none_said a e disks line;
    frame = said_frame a e disks line_frame;
  }

-- ---- the call

module _ (words : List (List ℕ)) (there : There) (a : Both) (la : ℕ → List ℕ → List ℕ → List ℕ → Type 0) where
  pub state_call : (base : List ℕ) (r r' : RoomState) (b : Both) (lb : ℕ → List ℕ → List ℕ → List ℕ → Type 0) (status : ℕ) → state_of words ≡ Some base → EndsState base r there a b status → SameRoom r r' → AnswersCarry words r r' there a b la lb status
  state_call base r r' b lb status asked ends same = record {
    usage = λ none other. absurd (some_none (sym asked ∙ none));
    state = λ own is. subst (λ (l : List ℕ). EndsState l r there a b status) (same_Some base own (sym asked ∙ is)) ends;
    carries = λ own o none is. absurd (some_none (sym asked ∙ none));
    same_room = same;
  }

  pub carry_call : (base : List ℕ) (o : Options) (r r' : RoomState) (b : Both) (lb : ℕ → List ℕ → List ℕ → List ℕ → Type 0) (status : ℕ) → state_of words ≡ None → carry_of words ≡ Some (base, o) → EndsCarry base o r r' a b la lb status → SameRoom r r' → AnswersCarry words r r' there a b la lb status
  carry_call base o r r' b lb status none asked ends same = record {
    usage = λ no other. absurd (some_none (sym asked ∙ other));
    state = λ own is. absurd (some_none (sym is ∙ none));
    carries = λ own p no is. subst (λ (q : List ℕ × Options). EndsCarry q.0 q.1 r r' a b la lb status) (same_Some (base, o) (own, p) (sym asked ∙ is)) ends;
    same_room = same;
  }

  pub usage_call : (r : RoomState) (b : Both) (lb : ℕ → List ℕ → List ℕ → List ℕ → Type 0) (status : ℕ) → state_of words ≡ None → carry_of words ≡ None → EndsUsage a b status → AnswersCarry words r r there a b la lb status
  usage_call r b lb status none other ends = record {
    usage = λ is too. ends;
    state = λ base is. absurd (some_none (sym is ∙ none));
    carries = λ base o no is. absurd (some_none (sym is ∙ other));
    same_room = record { told = refl; texts = refl; sure = refl; faults = omega arith };
  }

-- the words, as they were handed on
pub asked_state : {S : Type 0} (bytes : S → List ℕ) (given own : List S) (base : List ℕ) → given ≡ own → state_of (map bytes given) ≡ Some base → state_of (map bytes own) ≡ Some base
asked_state {S} bytes given own base is asked = subst (λ (l : List S). state_of (map bytes l) ≡ Some base) is asked

pub asked_none : {S : Type 0} (bytes : S → List ℕ) (given own : List S) → given ≡ own → state_of (map bytes given) ≡ None → state_of (map bytes own) ≡ None
asked_none {S} bytes given own is none = subst (λ (l : List S). state_of (map bytes l) ≡ None) is none

pub asked_carry : {S : Type 0} (bytes : S → List ℕ) (given own : List S) (asked : Option (List ℕ × Options)) → given ≡ own → carry_of (map bytes given) ≡ asked → carry_of (map bytes own) ≡ asked
asked_carry {S} bytes given own asked is h = subst (λ (l : List S). carry_of (map bytes l) ≡ asked) is h
