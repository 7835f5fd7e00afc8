-- Typed lines over the file of a BASE, from what its parts did.
use Rattle.std.proofs.Common.{◌≡◌, ◌≤◌, ◌⊎◌, ◌∙◌, ◌++◌, ◌∷◌, inl, inr, ⊎_elim, refl, ℕ, List, [], Ok, Err, ap, subst, sym, take, arith}
use Rattle.std.specs.Prelude.{IsErrOf, IsTrue, ⊤}
use Rattle.std.proofs.lemmas.Bool.Decides.{nat_tests}
use Rattle.std.proofs.lemmas.List.{append-nil}
use Rattle.kd_device.specs.Device.{Frame, Only, Rose, SameFaults, SameNames, State}
use Rattle.kd_device.specs.Rest.{Rests}
use Rattle.kd_device.specs.TimeLaws.{faults_then, told_after}
use Rattle.kdcs_types.specs.Tables.{TableRows}
use Rattle.device_acts.specs.MeaningLaws.{answers_exclude_each_other}
use Rattle.device_acts.specs.Opening.{HasOneAnswer}
use Rattle.device_acts.specs.Said.{Said, SaidPart}
use Rattle.refusals.specs.Lines.{file_line}
use Rattle.refusals.specs.Statuses.{IsOneOf, status_of_file}
use Rattle.refusals.specs.declared.error.FileRefusal.{FileRefusal}
use Rattle.refusals.specs.declared.error.FileRefusal.TheVariants as why
use Rattle.call_parts.specs.Asking.{Errand}
use Rattle.call_parts.specs.Leaving.{MayAttach}
use Rattle.call_parts.specs.Opening.{OpeningRefuses, Opens}
use Rattle.call_parts.specs.Words.{file_name}
use Rattle.live_run.specs.Typing.{SameTyping, TypingState}
use Rattle.live_run.specs.declared.error.LiveError.{LiveError}
use Rattle.live_run.specs.declared.error.LiveError.TheVariants as live
use Rattle.live_cli.specs.Ends.{EndsLive, FailedLive}
use Rattle.live_cli.specs.Living.{LivedAnswering, LivedWhole}
use Rattle.live_cli.proofs.Opened.{not_opened}

-- ---- statuses

pub late_code : (n : ℕ) → IsOneOf (5 ∷ 7 ∷ []) n → IsOneOf (0 ∷ 4 ∷ 5 ∷ 7 ∷ []) n
late_code n late = grind (arith, nat_tests)

pub late_refusal : (k n : ℕ) → IsOneOf (5 ∷ 7 ∷ []) n → IsOneOf (k ∷ 5 ∷ 7 ∷ []) n
late_refusal k n late = grind (arith, nat_tests)

pub late_not : (n k : ℕ) → IsOneOf (5 ∷ 7 ∷ []) n → k ≤ 4 → n ≡ k → ⊥
late_not n k late small is = grind (arith, nat_tests)

pub four_code : (n : ℕ) → IsOneOf (4 ∷ 5 ∷ 7 ∷ []) n → IsOneOf (0 ∷ 4 ∷ 5 ∷ 7 ∷ []) n
four_code n h = grind (arith, nat_tests)

pub four_not : (n : ℕ) → IsOneOf (4 ∷ 5 ∷ 7 ∷ []) n → n ≡ 0 → ⊥
four_not n h is = grind (arith, nat_tests)

four_is : (n : ℕ) → n ≡ 4 → IsOneOf (4 ∷ 8 ∷ []) n
four_is n is = grind (arith, nat_tests)

-- ---- what was said

module _ (line : List ℕ) (a b d : State) (la lb : ℕ → List ℕ → List ℕ → Type 0) (rests : Rests a b la lb) where
  said_then : Said line b d → Said line a d
  said_then said = record {
    disk = record { holds = said.disk.holds ∙ rests.holds; put = said.disk.put ∙ rests.put };
    sent = said.sent ∙ ap (λ (s : List ℕ). s ++ line) rests.sent;
  }

  part_then : SaidPart line b d → SaidPart line a d
  part_then said = record {
    disk = record { holds = said.disk.holds ∙ rests.holds; put = said.disk.put ∙ rests.put };
    sent = (said.sent.0, said.sent.1 ∙ ap (λ (s : List ℕ). s ++ take said.sent.0 line) rests.sent);
  }

nothing_said : (line : List ℕ) (a b : State) (la lb : ℕ → List ℕ → List ℕ → Type 0) → Rests a b la lb → SaidPart line a b
nothing_said line a b la lb rests = record { disk = record { holds = rests.holds; put = rests.put }; sent = (0, rests.sent ∙ sym (append-nil a.sent)) }

-- nothing was done at all
rests_here : (a : State) (la : ℕ → List ℕ → List ℕ → Type 0) → Rests a a la la
rests_here a la = record { holds = refl; sent = refl; put = refl; stop = λ c left. left; leaves = record { later = omega arith; only = λ m c out le left. inl left } }

-- ---- a file is answered in one way

module _ (e : Errand) (bytes : List ℕ) where
  answer : HasOneAnswer e.application.generation e.fingerprint bytes
  answer = answers_exclude_each_other e.application.generation e.fingerprint bytes

  not_both : (t : TableRows) (r : FileRefusal) → Opens e bytes t → OpeningRefuses e bytes r → ⊥
  not_both t r opens refuses = ⊎_elim (λ none. answer.started_or_refused t opens none.1) (λ other. answer.started_or_other t other.0 opens other.2) refuses

  refused_once : (r q : FileRefusal) → OpeningRefuses e bytes r → OpeningRefuses e bytes q → r ≡ q
  refused_once r q (inl none) (inl again) = none.0 ∙ sym again.0
  refused_once r q (inl none) (inr other) = absurd (answer.refused_or_other other.0 none.1 other.2)
  refused_once r q (inr other) (inl none) = absurd (answer.refused_or_other other.0 none.1 other.2)
  refused_once r q (inr other) (inr again) = other.1 ∙ ap (λ (stored : List ℕ). why.OtherGeneration stored) (answer.other_once other.0 again.0 other.2 again.2) ∙ sym again.1

-- what is asked of the end alone, with this status
abbrev pub AtEnd : ℕ → Type 0 → Type 0
AtEnd status D = status ≡ 0 → D

-- of one that stopped, and of one that halted
abbrev AtStop : ℕ → Type 0 → Type 0
AtStop status S = IsOneOf (5 ∷ 7 ∷ []) status → S

abbrev AtHalt : ℕ → (i j : TypingState) → Type 0 → Type 0
AtHalt status i j H = status ≡ 5 → Rose i.faults j.faults ⊎ H

whole_weaker : (W V X Y M N : Type 0 → Type 0) → ((D : Type 0) → W D → V D) → ((S : Type 0) → X S → Y S) → ((H : Type 0) → M H → N H) → (e : Errand) (t : TableRows) (i : TypingState) (a b : State) (lb : ℕ → List ℕ → List ℕ → Type 0) → LivedWhole W X M e t i a b lb → LivedWhole V Y N e t i a b lb
whole_weaker W V X Y M N f g k e t i a b lb h = record {
  exchanges = h.exchanges;
  answered = h.answered;
  read = h.read;
  stops = h.stops;
  ends = record { ended = h.ends.ended; written = h.ends.written; done = f _ h.ends.done; stopped = g _ h.ends.stopped; halted = k _ h.ends.halted };
}

module _ (e : Errand) (base : List ℕ) (i j : TypingState) (same : SameTyping i j) (a : State) (la : ℕ → List ℕ → List ℕ → Type 0) where
  module _ (b : State) (lb : ℕ → List ℕ → List ℕ → Type 0) (frame : Frame a b) (names : IsTrue a.told → MayAttach (file_name base) a b) where
    -- all was done
    pub done_ends : (IsTrue a.told → Only a.holds a la → (t : TableRows) → Opens e a.holds t → LivedAnswering (Ok tt) e t i a b lb) → (IsTrue a.told → (t : TableRows) × Opens e a.holds t)
        → (IsTrue a.told → b.names ≡ a.names ++ file_name base ∷ []) → SameFaults a b → j.faults ≡ i.faults → EndsLive e base i j a b la lb 0
    done_ends lived opened named fine heard = record {
      code = refl;
      refused = λ told r refuses. let t = opened told in absurd (not_both e a.holds t.0 r t.1 refuses);
      refused_only = λ is. absurd cc;
      accepted = λ told t opens. refl;
      opened = λ is told. opened told;
      lived = λ told only t opens. whole_weaker (λ D. D) (AtEnd 0) (λ S. ⊤) (AtStop 0) (λ H. IsErrOf {T = Unit} (Ok tt) live.Failed → H) (AtHalt 0 i j) (λ D d is. d) (λ S s is. absurd (late_not 0 0 is (omega arith) refl)) (λ H h is. absurd cc) e t i a b lb (lived told only t opens);
      names = names;
      attached = λ is told. named told;
      device = λ is. absurd cc;
      device_told = λ not. (fine, heard);
      frame = frame;
      typing = same;
    }

    -- it ended early
    pub late_ends : (x : LiveError) (status : ℕ) → IsOneOf (5 ∷ 7 ∷ []) status → (status ≡ 5 → (x ≡ live.Failed) ⊎ Rose i.faults j.faults) → (IsTrue a.told → Only a.holds a la → (t : TableRows) → Opens e a.holds t → LivedAnswering (Err x) e t i a b lb) → (IsTrue a.told → ((t : TableRows) → Opens e a.holds t → ⊥) → Rests a b la lb)
        → (status ≡ 5 → FailedLive a b i j) → ((status ≡ 5 → ⊥) → SameFaults a b × (j.faults ≡ i.faults)) → EndsLive e base i j a b la lb status
    late_ends x status late five lived still device device_told = record {
      code = late_code status late;
      refused = λ told r refuses. (late_refusal 4 status late, nothing_said (file_line r) a b la lb (still told (λ t opens. not_both e a.holds t r opens refuses)));
      refused_only = λ is. absurd (late_not status 4 late (omega arith) is);
      accepted = λ told t opens. late_refusal 0 status late;
      opened = λ is. absurd (late_not status 0 late (omega arith) is);
      lived = λ told only t opens.
          whole_weaker (λ D. ⊤) (AtEnd status) (λ S. S) (AtStop status) (λ H. IsErrOf {T = Unit} (Err x) live.Failed → H) (AtHalt status i j) (λ D d is. absurd (late_not status 0 late (omega arith) is)) (λ S s is. s)
          (λ H h is. ⊎_elim (λ failed. inr (h (ap (λ (z : LiveError). Err z) failed))) (λ rose. inl rose) (five is)) e t i a b lb (lived told only t opens);
      names = names;
      attached = λ is. absurd (late_not status 0 late (omega arith) is);
      device = device;
      device_told = device_told;
      frame = frame;
      typing = same;
    }

  -- memory ran out before all
  pub nothing_ends : ((c out : List ℕ) → la a.moment c out → IsTrue a.told → out ≡ a.sent) → (IsTrue a.told → la a.moment a.holds a.sent) → i ≡ j → EndsLive e base i j a a la la 7
  nothing_ends silent now is =
      late_ends a la (record { told = refl; disk_faults = omega arith; line_faults = omega arith; moment = omega arith }) (λ told. inl refl) live.Memory 7 refl (λ five. absurd cc)
      (λ told only t opens. not_opened e t i a la only (λ c out left. silent c out left told) opens a la (Err live.Memory) (λ x. ⊤) tt (record { later = omega arith; only = λ m c out le left. inl left }) (now told) refl (omega arith))
      (λ told none. rests_here a la) (λ five. absurd cc) (λ not. (record { disk = refl; line = refl }, ap (λ (k : TypingState). k.faults) (sym is)))

  -- the file is refused, and that was said
  module _ (d : State) (ld : ℕ → List ℕ → List ℕ → Type 0) (frame : Frame a d) (names : IsTrue a.told → MayAttach (file_name base) a d) (r : FileRefusal) (four : status_of_file r ≡ 4) (refuses : IsTrue a.told → OpeningRefuses e a.holds r)
      (still : IsTrue a.told → ((t : TableRows) → Opens e a.holds t → ⊥) → Rests a d la ld) (fine : SameFaults a d) (heard : j.faults ≡ i.faults) where
    rests : IsTrue a.told → Rests a d la ld
    rests told = still told (λ t opens. not_both e a.holds t r opens (refuses told))

    may_then : (x y z : List (List ℕ)) → z ≡ y → (y ≡ x) ⊎ (y ≡ x ++ file_name base ∷ []) → (z ≡ x) ⊎ (z ≡ x ++ file_name base ∷ [])
    may_then x y z is may = ⊎_elim (λ none. inl (is ∙ none)) (λ named. inr (is ∙ named)) may

    pub refused_ends : (b : State) (lb : ℕ → List ℕ → List ℕ → Type 0) (status : ℕ) → IsOneOf (status_of_file r ∷ 5 ∷ 7 ∷ []) status → (IsOneOf (4 ∷ 8 ∷ []) status → (status ≡ status_of_file r) × (IsTrue d.told → Said (file_line r) d b)) → (IsTrue d.told → SaidPart (file_line r) d b)
        → (status ≡ 5 → Rose d.line_faults b.line_faults) → ((status ≡ 5 → ⊥) → SameFaults d b) → Frame d b → SameNames d b → EndsLive e base i j a b la lb status
    refused_ends b lb status code said part failed went on same_names =
        let four_ones : IsOneOf (4 ∷ 5 ∷ 7 ∷ []) status = subst (λ (k : ℕ). IsOneOf (k ∷ 5 ∷ 7 ∷ []) status) four code in
        record {
          code = four_code status four_ones;
          refused = λ told q again. (four_ones, subst (λ (x : FileRefusal). SaidPart (file_line x) a b) (refused_once e a.holds r q (refuses told) again) (part_then (file_line r) a d b la ld (rests told) (part (told_after a d frame told))));
          refused_only = λ is told. (r, refuses told, said_then (file_line r) a d b la ld (rests told) ((said (four_is status is)).1 (told_after a d frame told)));
          accepted = λ told t opens. absurd (not_both e a.holds t r opens (refuses told));
          opened = λ is. absurd (four_not status four_ones is);
          lived = λ told only t opens. absurd (not_both e a.holds t r opens (refuses told));
          names = λ told. may_then a.names d.names b.names same_names (names told);
          attached = λ is. absurd (four_not status four_ones is);
          device = λ is. inl (inr (rose_later (failed is)));
          device_told = λ not. (faults_then a d b fine (went not), heard);
          frame = record { told = on.told ∙ frame.told; disk_faults = omega (arith, frame.disk_faults, on.disk_faults); line_faults = omega (arith, frame.line_faults, on.line_faults); moment = omega (arith, frame.moment, on.moment) };
          typing = same;
        }
      where
        rose_later : Rose d.line_faults b.line_faults → Rose a.line_faults b.line_faults
        rose_later rose = omega (arith, frame.line_faults, rose)
