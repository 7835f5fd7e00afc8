-- How a call that carries files ends.
use Rattle.std.specs.Prelude.{◌≡◌, ℕ, true, IsTrue, List, [], ◌∷◌, ◌++◌}
use Rattle.std.proofs.Common.{inl, inr, refl, sym, ap, subst, ◌∙◌}
use Rattle.kd_device.specs.Device.{Frame, Rose}
use Rattle.kd_device.specs.Twin.{Both, Disk, half_state}
use Rattle.kd_device.specs.declared.half.Half.{Half}
use Rattle.kd_device.specs.declared.half.Half.TheVariants.{First}
use Rattle.kdcfile_copies.specs.Beside.{LeavesFrontBoth, LeavesSamePairs, SaidBoth, SameDisk}
use Rattle.kdcfile_double.specs.MakingLaws.{RestsBoth}
use Rattle.kdcfile_double.specs.Mended.{BothRest}
use Rattle.kdcfile_double.specs.Opening.{SameFiles}
use Rattle.kdcfile_carry.specs.Doing.{AreEither, RoseOnOne}
use Rattle.kdcfile_carry.specs.Files.{AreFiles, Files}
use Rattle.kdcfile_carry.specs.Leaving.{StaysWithin}
use Rattle.kdcfile_carry.specs.Ways.{IsTaken, files_after}
use Rattle.kdcfile_carry.specs.WritingLaws.{most_then}
use Rattle.refusals.specs.Statuses.{IsOneOf}
use Rattle.call_parts.specs.Asking.{Errand}
use Rattle.call_parts.specs.LeavingTwo.{FrameTwin, MayAttachTwo}
use Rattle.carry_cli.specs.Carrying.{IsStopOfCarry, LosesNone, generation_of}
use Rattle.carry_cli.specs.Doing.{IsNow}
use Rattle.carry_cli.specs.Promise.{EndsOver}
use Rattle.carry_cli.specs.Telling.{answer_status, answer_text}
use Rattle.carry_cli.specs.Writing.{CarryWrites}
use Rattle.carry_cli.specs.declared.answer.Answer.{Answer}
use Rattle.carry_cli.specs.declared.answer.Answer.TheVariants as answer
use Rattle.carry_cli.specs.declared.words.Options.{Options}
use Rattle.carry_cli.proofs.Carried.{done_said, stop_before, stop_said}
use Rattle.carry_cli.proofs.Ending.{names_then, said_frame, same_files, twin_then}

status_of_answer : (x : Answer) → IsOneOf (0 ∷ 4 ∷ 5 ∷ 7 ∷ 10 ∷ []) (answer_status x)
status_of_answer (answer.UpToDate lost) = refl
status_of_answer answer.WouldKeep = refl
status_of_answer (answer.Carried gone lost) = refl
status_of_answer (answer.WouldCarry gone rows) = refl
status_of_answer (answer.WouldDrop rows) = refl
status_of_answer (answer.Hindered why) = refl

-- it is no fault
no_fault : (x : Answer) → answer_status x ≡ 5 → ⊥
no_fault (answer.UpToDate lost) is = absurd cc
no_fault answer.WouldKeep is = absurd cc
no_fault (answer.Carried gone lost) is = absurd cc
no_fault (answer.WouldCarry gone rows) is = absurd cc
no_fault (answer.WouldDrop rows) is = absurd cc
no_fault (answer.Hindered why) is = absurd cc

pub rests_since : (a b s : Both) → SameFiles a b → SameFiles b s → SameFiles a s
rests_since a b s h k = record { first_holds = k.first_holds ∙ h.first_holds; second_holds = k.second_holds ∙ h.second_holds; first_put = k.first_put ∙ h.first_put; second_put = k.second_put ∙ h.second_put }

module _ (e : Errand) (base : List ℕ) (o : Options) (a b : Both) (la lb : ℕ → List ℕ → List ℕ → List ℕ → Type 0) (sent_now : IsTrue a.told → (c d out : List ℕ) → la a.moment c d out → out ≡ a.sent)
    (any_moment : IsTrue a.told → BothRest a la → (f : Files) → AreFiles f a.first.holds a.second.holds → StaysWithin (AreEither f (files_after (generation_of e) e.fingerprint f)) a b la lb)
    (still : IsTrue a.told → ((f : Files) → AreFiles f a.first.holds a.second.holds → IsTaken (generation_of e) e.fingerprint f → ⊥) → RestsBoth a b la lb)
    (tried : IsTrue a.told → o.only_tries ≡ true → RestsBoth a b la lb) (written : IsTrue a.told → CarryWrites e o a b) (names : IsTrue a.told → MayAttachTwo base a b) (frame : FrameTwin a b) where
  pub files_failed : RoseOnOne a b → EndsOver e base o a b la lb 5
  files_failed rose = record {
    code = refl;
    done = λ is. absurd cc;
    any_moment = λ told rest f are c d out left. stop_before e o a b la lb rest (sent_now told) f are (any_moment told rest f are) c d out left;
    still = λ told untaken. (still told untaken).files;
    tried = λ told only. (tried told only).files;
    written = written;
    device = λ is. inr rose;
    names = names;
    frame = frame;
  }

  pub files_memory : EndsOver e base o a b la lb 7
  files_memory = record {
    code = refl;
    done = λ is. absurd cc;
    any_moment = λ told rest f are c d out left. stop_before e o a b la lb rest (sent_now told) f are (any_moment told rest f are) c d out left;
    still = λ told untaken. (still told untaken).files;
    tried = λ told only. (tried told only).files;
    written = written;
    device = λ is. absurd cc;
    names = names;
    frame = frame;
  }

  -- and then this was to be said
  module _ (sent : IsTrue a.told → b.sent ≡ a.sent) (x : Answer) (now : IsTrue a.told → IsNow e o x a b la lb) (text : List ℕ) (is : text ≡ answer_text (generation_of e) x) (s : Both) (ls : ℕ → List ℕ → List ℕ → List ℕ → Type 0) (disks : (half : Half) → SameDisk half b s)
      (line_frame : Frame (half_state First b) (half_state First s)) (stop : IsTrue b.told → LeavesSamePairs b s lb ls) (front : IsTrue b.told → LeavesFrontBoth text b s lb ls) where
    told_then : IsTrue a.told → IsTrue b.told
    told_then told = subst IsTrue (sym frame.told) told

    moment_now : IsTrue a.told → BothRest a la → (f : Files) → AreFiles f a.first.holds a.second.holds → (c d out : List ℕ) → ls a.moment c d out → IsStopOfCarry e o f a c d out
    moment_now told rest f are c d out left =
        stop_said e o a b la lb rest (sent_now told) f are (any_moment told rest f are) x (now told) s ls (subst (λ (l : List ℕ). LeavesFrontBoth l b s lb ls) is (front (told_then told))) c d out left

    still_now : IsTrue a.told → ((f : Files) → AreFiles f a.first.holds a.second.holds → IsTaken (generation_of e) e.fingerprint f → ⊥) → SameFiles a s
    still_now told untaken = rests_since a b s (still told untaken).files (same_files b s disks)

    tried_now : IsTrue a.told → o.only_tries ≡ true → SameFiles a s
    tried_now told only = rests_since a b s (tried told only).files (same_files b s disks)

    written_now : IsTrue a.told → CarryWrites e o a s
    written_now told = most_then a b s (same_files b s disks) (generation_of e) e.fingerprint (λ f. LosesNone e o f) (written told)

    names_now : IsTrue a.told → MayAttachTwo base a s
    names_now told = names_then base a b s (names told) (λ half. ap (λ (d : Disk). d.names) (disks half))

    frame_now : FrameTwin a s
    frame_now = twin_then a b s frame (said_frame b s disks line_frame)

    pub all_said : (status : ℕ) → status ≡ answer_status x → (IsTrue b.told → SaidBoth text b s) → s.line_faults ≡ b.line_faults → EndsOver e base o a s la ls status
    all_said status ends said line = record {
      code = subst (λ (n : ℕ). IsOneOf (0 ∷ 4 ∷ 5 ∷ 7 ∷ 10 ∷ []) n) (sym ends) (status_of_answer x);
      done = λ one told. (
        x,
        done_said b s lb ls disks line (stop (told_then told)) a e o la x (now told),
        ends,
        said (told_then told) ∙ ap (λ (l : List ℕ). l ++ text) (sent told) ∙ ap (λ (l : List ℕ). a.sent ++ l) is,
      );
      any_moment = moment_now;
      still = still_now;
      tried = tried_now;
      written = written_now;
      device = λ five. absurd (no_fault x (sym ends ∙ five));
      names = names_now;
      frame = frame_now;
    }

    pub line_failed : Rose a.line_faults s.line_faults → EndsOver e base o a s la ls 5
    line_failed rose = record {
      code = refl;
      done = λ one. absurd cc;
      any_moment = moment_now;
      still = still_now;
      tried = tried_now;
      written = written_now;
      device = λ five. inl rose;
      names = names_now;
      frame = frame_now;
    }

    pub line_memory : EndsOver e base o a s la ls 7
    line_memory = record {
      code = refl;
      done = λ one. absurd cc;
      any_moment = moment_now;
      still = still_now;
      tried = tried_now;
      written = written_now;
      device = λ five. absurd cc;
      names = names_now;
      frame = frame_now;
    }
