-- Typed lines over the two files of a BASE, from what they did.
use Rattle.std.proofs.Common.{◌≡◌, ◌⊎◌, ◌∙◌, ◌∷◌, inl, inr, ⊎_elim, refl, ℕ, Bool, List, [], Ok, Err, ap, subst, sym, arith}
use Rattle.std.specs.Prelude.{IsTrue, OnOk}
use Rattle.kd_base.specs.ToolsLaws.{err_is}
use Rattle.kd_device.specs.Device.{Rose}
use Rattle.kd_device.specs.Twin.{Both}
use Rattle.kd_device.specs.declared.half.Half.{Half}
use Rattle.kd_device.specs.declared.half.Half.TheVariants.{First, Second}
use Rattle.kdcs_types.specs.Tables.{TableRows}
use Rattle.refusals.specs.Lines.{file_line}
use Rattle.refusals.specs.Statuses.{IsOneOf, status_of_file}
use Rattle.refusals.specs.declared.error.FileRefusal.{FileRefusal}
use Rattle.call_parts.specs.Asking.{Errand}
use Rattle.call_parts.specs.Beside.{SendsRefusalTwo}
use Rattle.call_parts.specs.LeavingTwo.{SaidTwo, SaysPartTwo}
use Rattle.call_parts.specs.Missing.{missing_line}
use Rattle.call_parts.proofs.Missing.{empty_no}
use Rattle.call_parts.specs.OpeningTwo.{StaysAsItIs}
use Rattle.call_ends.specs.OpenedLaws.{none_said, opened_or_refused, refused_once}
use Rattle.call_ends.specs.SaidLaws.{fine_then, names_then, part_then, said_then}
use Rattle.live_run.specs.Typing.{TypingState}
use Rattle.live_cli.specs.EndsTwo.{BeginsTwo, DoesLiveTwo, EndsLiveTwo, LacksCopy, RefusesTwoLive, SaysWhyLiveTwo}
use Rattle.live_cli.specs.LivingTwo.{LivedWholeTwo}
use Rattle.live_cli.proofs.Ending.{AtEnd, four_code, four_not, late_code, late_not, late_refusal}
use Rattle.live_cli.specs.declared.error.SessionError.{SessionError}
use Rattle.live_cli.specs.declared.error.SessionError.TheVariants.{Missing, Refused, Failed, Input}

whole_weaker : (W V : Type 0 → Type 0) → ((D : Type 0) → W D → V D) → (e : Errand) (t : TableRows) (i : TypingState) (a b : Both) (la lb : ℕ → List ℕ → List ℕ → List ℕ → Type 0) → LivedWholeTwo W e t i a b la lb → LivedWholeTwo V e t i a b la lb
whole_weaker W V f e t i a b la lb h = record { mended = h.mended; mended_was = h.mended_was; lived = record { exchanges = h.lived.exchanges; answered = h.lived.answered; read = h.lived.read; stops = h.lived.stops; ends = f _ h.lived.ends }; ended = h.ended }

-- ---- a session begins, or does not in one way

module _ (alone : Bool) (e : Errand) (a : Both) where
  begun_or_lacking : (t : TableRows) (half : Half) → BeginsTwo alone e a t → LacksCopy alone a half → ⊥
  begun_or_lacking t half begins lacks = let differ = sym lacks.0 ∙ begins.0 half lacks.1 in cc

  begun_or_refused : (t : TableRows) (r : FileRefusal) → BeginsTwo alone e a t → RefusesTwoLive alone e a r → ⊥
  begun_or_refused t r begins refuses = opened_or_refused e a t r begins.1 refuses.1

  lacking_or_refused : (half : Half) (r : FileRefusal) → LacksCopy alone a half → RefusesTwoLive alone e a r → ⊥
  lacking_or_refused half r lacks refuses = let differ = sym lacks.0 ∙ refuses.0 half lacks.1 in cc

  lacking_once : (half again : Half) → LacksCopy alone a half → LacksCopy alone a again → half ≡ again
  lacking_once First First lacks too = refl
  lacking_once First Second lacks too = absurd (empty_no a.first.holds lacks.1.empty too.1.copy)
  lacking_once Second First lacks too = absurd (empty_no a.second.holds lacks.1.empty too.1.copy)
  lacking_once Second Second lacks too = refl

module _ (e : Errand) (base : List ℕ) (alone : Bool) (i j : TypingState) (a b : Both) (la lb : ℕ → List ℕ → List ℕ → List ℕ → Type 0) where
  -- all was done
  pub done_two : DoesLiveTwo e base alone (Ok tt) i j a b la lb → EndsLiveTwo e base alone i j a b la lb 0
  done_two h = record {
    code = refl;
    missing = λ told half lacks. let t = h.opened told in absurd (begun_or_lacking alone e a t.0 half t.1 lacks);
    refused = λ told r refuses. let t = h.opened told in absurd (begun_or_refused alone e a t.0 r t.1 refuses);
    refused_only = λ is. absurd cc;
    accepted = λ told t begins. refl;
    opened = λ is told. h.opened told;
    lived = λ told t begins. whole_weaker (λ D. D) (AtEnd 0) (λ D d is. d) e t i a b la lb (h.lived told t begins);
    names = h.names;
    attached = λ is told. h.named told;
    device = λ is. absurd cc;
    device_told = λ is. absurd cc;
    device_fine = λ not. (h.fine (λ is. absurd cc), h.heard (λ is. absurd cc));
    frame = h.frame;
    typing = h.typing;
  }

  -- it ended early
  pub late_two : (x : SessionError) (status : ℕ) → IsOneOf (5 ∷ 7 ∷ []) status → DoesLiveTwo e base alone (Err x) i j a b la lb → (status ≡ 5 → (x ≡ Failed) ⊎ (x ≡ Input)) → ((status ≡ 5 → ⊥) → ((x ≡ Failed) ⊎ (x ≡ Input)) → ⊥) → EndsLiveTwo e base alone i j a b la lb status
  late_two x status late h five other = record {
    code = late_code status late;
    missing = λ told half lacks. let stays = h.still told (λ t begins. begun_or_lacking alone e a t half begins lacks) in (late_refusal 4 status late, none_said (missing_line half) a b la lb stays.0, stays.1);
    refused = λ told r refuses. let stays = h.still told (λ t begins. begun_or_refused alone e a t r begins refuses) in (late_refusal 4 status late, none_said (file_line r) a b la lb stays.0, stays.1);
    refused_only = λ is. absurd (late_not status 4 late (omega arith) is);
    accepted = λ told t begins. late_refusal 0 status late;
    opened = λ is. absurd (late_not status 0 late (omega arith) is);
    lived = λ told t begins. whole_weaker (λ D. OnOk {T = Unit} (Err x) D) (AtEnd status) (λ D d is. absurd (late_not status 0 late (omega arith) is)) e t i a b la lb (h.lived told t begins);
    names = h.names;
    attached = λ is. absurd (late_not status 0 late (omega arith) is);
    device = λ is. ⊎_elim (λ failed. inl (h.failed (ap (λ (z : SessionError). Err z) failed))) (λ input. inr (h.input (ap (λ (z : SessionError). Err z) input))) (five is);
    device_told = λ is told. ⊎_elim (λ failed. inl (h.failed_told (ap (λ (z : SessionError). Err z) failed) told)) (λ input. inr (h.input (ap (λ (z : SessionError). Err z) input))) (five is);
    device_fine = λ not. (h.fine (λ is. other not (inl (err_is Unit x Failed is))), h.heard (λ is. other not (inr (err_is Unit x Input is))));
    frame = h.frame;
    typing = h.typing;
  }

-- it did not begin, and the line that says why was sent
module _ (e : Errand) (base : List ℕ) (alone : Bool) (i j : TypingState) (a d b : Both) (la ld lb : ℕ → List ℕ → List ℕ → List ℕ → Type 0) (x : SessionError) (h : DoesLiveTwo e base alone (Err x) i j a d la ld) (calm : (x ≡ Failed) ⊎ (x ≡ Input) → ⊥) where
  told_d : IsTrue a.told → IsTrue d.told
  told_d told = subst IsTrue (sym h.frame.told) told

  line_later : Rose d.line_faults b.line_faults → Rose a.line_faults b.line_faults
  line_later rose = let frame = h.frame.line_faults in omega (arith, frame, rose)

  said_two : (line : List ℕ) (status : ℕ) → SendsRefusalTwo 4 line d b status → (IsTrue a.told → (t : TableRows) → BeginsTwo alone e a t → ⊥) → (IsTrue a.told → (half : Half) → LacksCopy alone a half → line ≡ missing_line half) → (IsTrue a.told → (r : FileRefusal) → RefusesTwoLive alone e a r → line ≡ file_line r)
      → (IsTrue a.told → SaidTwo line a b → SaysWhyLiveTwo alone e a b) → EndsLiveTwo e base alone i j a b la lb status
  said_two line status said none lacking refusing says =
      let stays : IsTrue a.told → StaysAsItIs a d la ld × (j ≡ i) = λ told. h.still told (none told) in
      let part : IsTrue a.told → SaysPartTwo line a b = λ told. part_then a d b line (stays told).0.files (stays told).0.sent (said.part (told_d told)) in
      record {
        code = four_code status said.code;
        missing = λ told half lacks. (said.code, subst (λ (l : List ℕ). SaysPartTwo l a b) (lacking told half lacks) (part told), (stays told).1);
        refused = λ told r refuses. (said.code, subst (λ (l : List ℕ). SaysPartTwo l a b) (refusing told r refuses) (part told), (stays told).1);
        refused_only = λ is told. says told (said_then a d b line (stays told).0.files (stays told).0.sent (said.said is (told_d told)));
        accepted = λ told t begins. absurd (none told t begins);
        opened = λ is. absurd (four_not status said.code is);
        lived = λ told t begins. absurd (none told t begins);
        names = λ told. names_then a d b base (h.names told) said.names;
        attached = λ is. absurd (four_not status said.code is);
        device = λ is. inl (inl (line_later (said.failed is)));
        device_told = λ is told. inl (inl (line_later (said.failed is)));
        device_fine = λ not. (fine_then a d b (h.fine (λ is. calm (inl (err_is Unit x Failed is)))) (said.fine not), h.heard (λ is. calm (inr (err_is Unit x Input is))));
        frame = record {
          told = said.frame.told ∙ h.frame.told;
          first_faults = let f = h.frame.first_faults in let k = said.frame.first_faults in omega (arith, f, k);
          second_faults = let f = h.frame.second_faults in let k = said.frame.second_faults in omega (arith, f, k);
          line_faults = let f = h.frame.line_faults in let k = said.frame.line_faults in omega (arith, f, k);
          moment = let f = h.frame.moment in let k = said.frame.moment in omega (arith, f, k);
        };
        typing = h.typing;
      }

module _ (e : Errand) (base : List ℕ) (alone : Bool) (i j : TypingState) (a d b : Both) (la ld lb : ℕ → List ℕ → List ℕ → List ℕ → Type 0) (status : ℕ) where
  -- a file is missing
  pub missing_two : (half : Half) → DoesLiveTwo e base alone (Err (Missing half)) i j a d la ld → SendsRefusalTwo 4 (missing_line half) d b status → EndsLiveTwo e base alone i j a b la lb status
  missing_two half h said =
      let lacks : IsTrue a.told → LacksCopy alone a half = h.missing half refl in
      said_two e base alone i j a d b la ld lb (Missing half) h (λ is. ⊎_elim (λ failed. cc) (λ input. cc) is) (missing_line half) status said (λ told t begins. begun_or_lacking alone e a t half begins (lacks told)) (λ told again too. ap missing_line (lacking_once alone e a half again (lacks told) too))
      (λ told r refuses. absurd (lacking_or_refused alone e a half r (lacks told) refuses)) (λ told line. inl (half, lacks told, line))

  -- the files are refused
  pub refused_two : (r : FileRefusal) → DoesLiveTwo e base alone (Err (Refused r)) i j a d la ld → SendsRefusalTwo (status_of_file r) (file_line r) d b status → EndsLiveTwo e base alone i j a b la lb status
  refused_two r h said =
      let refuses : IsTrue a.told → RefusesTwoLive alone e a r = h.refused r refl in
      said_two e base alone i j a d b la ld lb (Refused r) h (λ is. ⊎_elim (λ failed. cc) (λ input. cc) is) (file_line r) status (subst (λ (k : ℕ). SendsRefusalTwo k (file_line r) d b status) (h.four r refl) said) (λ told t begins. begun_or_refused alone e a t r begins (refuses told))
      (λ told half lacks. absurd (lacking_or_refused alone e a half r lacks (refuses told))) (λ told q again. ap file_line (refused_once e a r q (refuses told).1 again.1)) (λ told line. inr (r, refuses told, line))
