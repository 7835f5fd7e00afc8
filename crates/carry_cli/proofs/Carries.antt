-- How a call on the files of a BASE ends, from what its texts ask for.
use Rattle.std.specs.Prelude.{◌≡◌, ℕ, IsTrue, List, [], ◌∷◌}
use Rattle.std.proofs.Common.{inl, inr, refl, sym, subst, ◌∙◌, arith}
use Rattle.std.proofs.lemmas.Bool.Decides.{nat_tests}
use Rattle.kd_device.specs.Device.{Rose}
use Rattle.kd_device.specs.Room.{RoomState}
use Rattle.kd_device.specs.Twin.{Both}
use Rattle.kdcfile_double.specs.Opening.{SameFiles}
use Rattle.kdcfile_carry.specs.WritingLaws.{none_here, none_of_same}
use Rattle.refusals.specs.Lines.{refusal_line}
use Rattle.refusals.specs.Statuses.{IsOneOf, status_of}
use Rattle.refusals.specs.declared.error.Refusal.{Refusal}
use Rattle.call_parts.specs.Asking.{AreThere, Errand}
use Rattle.call_parts.specs.Beside.{SendsRefusalTwo}
use Rattle.call_parts.specs.LeavingTwo.{FrameTwin}
use Rattle.call_parts.specs.declared.words.Word.TheVariants.{Update}
use Rattle.carry_cli.specs.Promise.{AsksToCarry, EndsCarry, EndsOver, RefusesTexts}
use Rattle.carry_cli.specs.declared.words.Options.{Options}

pub frame_none : (a : Both) → FrameTwin a a
frame_none a = record { told = refl; first_faults = omega arith; second_faults = omega arith; line_faults = omega arith; moment = omega arith }

pub same_none : (a : Both) → SameFiles a a
same_none a = record { first_holds = refl; second_holds = refl; first_put = refl; second_put = refl }

codes_over : (n : ℕ) → IsOneOf (0 ∷ 4 ∷ 5 ∷ 7 ∷ 10 ∷ []) n → IsOneOf (0 ∷ 2 ∷ 4 ∷ 5 ∷ 6 ∷ 7 ∷ 10 ∷ []) n
codes_over n h = grind (arith, nat_tests)

not_two : (n : ℕ) → IsOneOf (0 ∷ 4 ∷ 5 ∷ 7 ∷ 10 ∷ []) n → n ≡ 2 → ⊥
not_two n h is = grind (arith, nat_tests)

not_six : (n : ℕ) → IsOneOf (0 ∷ 4 ∷ 5 ∷ 7 ∷ 10 ∷ []) n → n ≡ 6 → ⊥
not_six n h is = grind (arith, nat_tests)

codes_refused : (n : ℕ) → IsOneOf (2 ∷ 5 ∷ 7 ∷ []) n → IsOneOf (0 ∷ 2 ∷ 4 ∷ 5 ∷ 6 ∷ 7 ∷ 10 ∷ []) n
codes_refused n h = grind (arith, nat_tests)

not_carried : (n : ℕ) → IsOneOf (2 ∷ 5 ∷ 7 ∷ []) n → IsOneOf (0 ∷ 4 ∷ 10 ∷ []) n → ⊥
not_carried n h k = grind (arith, nat_tests)

read_six : (n : ℕ) → IsOneOf (2 ∷ 5 ∷ 7 ∷ []) n → n ≡ 6 → ⊥
read_six n h is = grind (arith, nat_tests)

codes_idle : (n : ℕ) → IsOneOf (6 ∷ 7 ∷ []) n → IsOneOf (0 ∷ 2 ∷ 4 ∷ 5 ∷ 6 ∷ 7 ∷ 10 ∷ []) n
codes_idle n h = grind (arith, nat_tests)

idle_not : (n : ℕ) → IsOneOf (6 ∷ 7 ∷ []) n → IsOneOf (0 ∷ 2 ∷ 4 ∷ 5 ∷ 10 ∷ []) n → ⊥
idle_not n h k = grind (arith, nat_tests)

within_idle : (n : ℕ) → IsOneOf (0 ∷ 4 ∷ 10 ∷ []) n → IsOneOf (0 ∷ 2 ∷ 4 ∷ 5 ∷ 10 ∷ []) n
within_idle n h = grind (arith, nat_tests)

-- the line of a refusal was sent
pub said_files : (line : List ℕ) (status : ℕ) (a b : Both) (n : ℕ) → SendsRefusalTwo status line a b n → IsTrue a.told → SameFiles a b
said_files line status a b n sends told = (sends.part told).files

module _ (base : List ℕ) (o : Options) (r r' : RoomState) (a : Both) (la : ℕ → List ℕ → List ℕ → List ℕ → Type 0) where
  module _ (b : Both) (lb : ℕ → List ℕ → List ℕ → List ℕ → Type 0) where
    -- the texts ask for this, over which the call ended
    pub over_work : (e : Errand) (status : ℕ) → (IsTrue r.told → AsksToCarry base r e) → (IsTrue r.told → (h : Errand) → AsksToCarry base r h → h ≡ e) → EndsOver e base o a b la lb status → EndsCarry base o r r' a b la lb status
    over_work e status asks only ends = record {
      code = codes_over status ends.code;
      carries = λ told h asked. inr (subst (λ (k : Errand). EndsOver k base o a b la lb status) (sym (only told h asked)) ends);
      asked = λ one told. (e, asks told);
      refused = λ two. absurd (not_two status ends.code two);
      unread = λ six. absurd (not_six status ends.code six);
      sure = λ six. absurd (not_six status ends.code six);
      tried = ends.tried;
      written = λ told. inr (e, asks, ends.written told);
      device = ends.device;
      names = ends.names;
      frame = ends.frame;
    }

    -- they are refused
    pub over_refused : (why : Refusal) (status : ℕ) → status_of why ≡ 2 → (IsTrue r.told → RefusesTexts base r why) → (IsTrue r.told → (e : Errand) → AsksToCarry base r e → ⊥) → SendsRefusalTwo (status_of why) (refusal_line why) a b status → EndsCarry base o r r' a b la lb status
    over_refused why status two refuses none sends =
        let code : IsOneOf (2 ∷ 5 ∷ 7 ∷ []) status = subst (λ (n : ℕ). IsOneOf (n ∷ 5 ∷ 7 ∷ []) status) two sends.code in
        record {
          code = codes_refused status code;
          carries = λ told e asked. absurd (none told e asked);
          asked = λ one. absurd (not_carried status code one);
          refused = λ is told. (why, refuses told, λ known. sends.said (is ∙ sym two) known);
          unread = λ six. absurd (read_six status code six);
          sure = λ six. absurd (read_six status code six);
          tried = λ told only. said_files (refusal_line why) (status_of why) a b status sends told;
          written = λ told. inl (none_of_same a b (said_files (refusal_line why) (status_of why) a b status sends told));
          device = λ five. inl (sends.failed five);
          names = λ told half. inl (sends.names half);
          frame = sends.frame;
        }

  -- they were not read
  pub over_idle : (status : ℕ) → IsOneOf (6 ∷ 7 ∷ []) status → (status ≡ 6 → Rose r.faults r'.faults) → (status ≡ 6 → IsTrue r.sure → (d u s : List ℕ) → AreThere Update base r d u s → ⊥) → EndsCarry base o r r' a a la la status
  over_idle status code room sure = record {
    code = codes_idle status code;
    carries = λ told e asked. inl (record { code = code; same = refl });
    asked = λ one. absurd (idle_not status code (within_idle status one));
    refused = λ two. absurd (idle_not status code (subst (λ (n : ℕ). IsOneOf (0 ∷ 2 ∷ 4 ∷ 5 ∷ 10 ∷ []) n) (sym two) refl));
    unread = λ six. (room six, refl);
    sure = sure;
    tried = λ told only. same_none a;
    written = λ told. inl (none_here a);
    device = λ five. absurd (idle_not status code (subst (λ (n : ℕ). IsOneOf (0 ∷ 2 ∷ 4 ∷ 5 ∷ 10 ∷ []) n) (sym five) refl));
    names = λ told half. inl refl;
    frame = frame_none a;
  }
