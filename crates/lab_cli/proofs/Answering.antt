-- What a call ended with, from what a word came to and what was said of it.
use Rattle.std.proofs.Common.{◌≡◌, ◌∙◌, ℕ, Bool, true, false, List, [], ◌∷◌, Option, Result, Ok, Err, refl, sym, subst}
use Rattle.std.specs.Prelude.{IsTrue, cond}
use Rattle.kd_device.specs.Room.{RoomState, SameRoom}
use Rattle.refusals.specs.Statuses.{IsOneOf, status_of}
use Rattle.refusals.specs.Texts.{NoReadFailed}
use Rattle.refusals.specs.declared.error.Refusal.{Refusal}
use Rattle.refusals.specs.declared.error.Refusal.TheVariants.{Application, Double, Script, Trail}
use Rattle.refusals.specs.declared.status.Status.{Status}
use Rattle.lab_turns.specs.Consoles.{Passed, printed}
use Rattle.lab_turns.specs.declared.error.LabError.{LabError}
use Rattle.lab_turns.specs.declared.error.LabError.TheVariants as labs
use Rattle.lab_cli.specs.Causes.{of_lab}
use Rattle.lab_cli.specs.Answers.{AnswersLab, Came, CheckCame, Ends, EndsBy, EndsCheck, EndsUsage, EndsWord, IsUntouched, WordCame, lab_usage_line, reads_script}
use Rattle.lab_cli.specs.Doing.{Does}
use Rattle.lab_cli.specs.Exploring.{do_differ}
use Rattle.lab_cli.specs.Places.{IsPlaceOf}
use Rattle.lab_cli.specs.Stops.{IsCauseAt, IsSilent, Says, SaysAll, StopsAt, stop_line, stop_status}
use Rattle.lab_cli.specs.Words.{request_of}
use Rattle.lab_cli.specs.declared.reading.Place.{Place}
use Rattle.lab_cli.specs.declared.stop.Stop.{Stop}
use Rattle.lab_cli.specs.declared.stop.Stop.TheVariants as stop
use Rattle.lab_cli.specs.declared.words.Word.{Word}
use Rattle.lab_cli.specs.declared.words.Word.TheVariants.{Check, Trace, Talk, Explore, Test}
use Rattle.lab_cli.proofs.Statuses.{all_codes, checked_codes, checked_not_unread, done_not_refused, done_not_unread, one_not_five, refusal_codes, refusal_not_done, refusal_not_unread, refusal_said}
use Rattle.lab_cli.proofs.Statuses.{broken_codes, broken_not_done, broken_not_refused, broken_not_unread, five_not_checked, seven_not_checked, six_not_checked, six_not_done, six_not_refused}

cond_code : (b : Bool) → IsOneOf (0 ∷ 1 ∷ []) (cond b 1 0)
cond_code true = refl
cond_code false = refl

cond_met : (b : Bool) → IsOneOf (0 ∷ 1 ∷ []) (cond b 0 1)
cond_met true = refl
cond_met false = refl

refusal_code : (why : Refusal) → IsOneOf (2 ∷ 3 ∷ 4 ∷ []) (status_of why)
refusal_code (Application fault) = refl
refusal_code (Double line) = refl
refusal_code (Script fault) = refl
refusal_code (Trail fault) = refl

module _ {C : Type 0} (passes : C → List Passed → C → Type 0) (prompted : Bool) where
  -- all that is done has the status 0 or 1
  does_code : (word : Word) (p : Place) (a b : C) (n : ℕ) → Does passes prompted word p a b n → IsOneOf (0 ∷ 1 ∷ []) n
  does_code Check p a b n h = absurd h
  does_code Trace p a b n h = subst (λ (k : ℕ). IsOneOf (0 ∷ 1 ∷ []) k) (sym h.0) refl
  does_code Talk p a b n h = subst (λ (k : ℕ). IsOneOf (0 ∷ 1 ∷ []) k) (sym h.0) refl
  does_code (Explore most number) p a b n h = subst (λ (k : ℕ). IsOneOf (0 ∷ 1 ∷ []) k) (sym h.2) (cond_code (do_differ p.script.items h.0.outcomes h.0.all))
  does_code Test p a b n h = subst (λ (k : ℕ). IsOneOf (0 ∷ 1 ∷ []) k) (sym h.1) (cond_met h.0)

  module _ (word : Word) (base : List ℕ) (r r' : RoomState) (a mid b : C) (status : ℕ) (sure_tells : IsTrue r.sure → IsTrue r.told) where
    done_ends : (n : ℕ) → NoReadFailed r r' → (p : Place) → (IsTrue r.told → IsPlaceOf (reads_script word) base r.texts p) → Does passes prompted word p a mid n → IsSilent n mid b status → EndsWord passes prompted word base r r' a b status
    done_ends n fine p place does silent =
        let now : Does passes prompted word p a b status = subst (λ (k : ℕ). Does passes prompted word p a b k) (sym silent.code_is) (subst (λ (x : C). Does passes prompted word p a x n) (sym silent.same) does) in
        let code = does_code word p a b status now in
        record {
          code = all_codes status code;
          done = λ is. (p, place, now);
          refused = λ is. absurd (done_not_refused status code is);
          unread = λ is. absurd (done_not_unread status code is);
          sure = λ is. absurd (done_not_unread status code is);
          fine = λ is. fine;
        }

    refused_ends : (why : Stop) → IsOneOf (2 ∷ 3 ∷ 4 ∷ []) (stop_status why) → NoReadFailed r r' × (IsTrue r.told → IsCauseAt (reads_script word) base r.texts why) → mid ≡ a → Says passes (stop_status why) (stop_line why) mid b status → EndsWord passes prompted word base r r' a b status
    refused_ends why own stops same says = record {
      code = refusal_codes (stop_status why) status own says.code_is;
      done = λ is. absurd (refusal_not_done (stop_status why) status own says.code_is is);
      refused = λ is.
          let code = refusal_said (stop_status why) status says.code_is is in
          (why, code, subst (λ (x : C). passes x (printed (stop_line why)) b) same (says.said code), stops.1);
      unread = λ is. absurd (refusal_not_unread (stop_status why) status own says.code_is is);
      sure = λ is. absurd (refusal_not_unread (stop_status why) status own says.code_is is);
      fine = λ is. stops.0;
    }

    -- the output failed, or memory ran out
    broken_ends : (n : ℕ) → IsOneOf (5 ∷ 7 ∷ []) n → status ≡ n → NoReadFailed r r' → EndsWord passes prompted word base r r' a b status
    broken_ends n own is fine =
        subst (λ (k : ℕ). EndsWord passes prompted word base r r' a b k) (sym is) (by n own)
      where
        by : (k : ℕ) → IsOneOf (5 ∷ 7 ∷ []) k → EndsWord passes prompted word base r r' a b k
        by k of_them = record {
          code = broken_codes k of_them;
          done = λ h. absurd (broken_not_done k of_them h);
          refused = λ h. absurd (broken_not_refused k of_them h);
          unread = λ h. absurd (broken_not_unread k of_them h);
          sure = λ h. absurd (broken_not_unread k of_them h);
          fine = λ h. fine;
        }

    unread_ends : StopsAt (reads_script word) base r r' stop.Room → mid ≡ a → IsSilent 6 mid b status → EndsWord passes prompted word base r r' a b status
    unread_ends stops same silent = subst (λ (k : ℕ). EndsWord passes prompted word base r r' a b k) (sym silent.code_is) (record {
      code = refl;
      done = λ h. absurd (six_not_done h);
      refused = λ h. absurd (six_not_refused h);
      unread = λ h. (stops.0, silent.same ∙ same);
      sure = λ h sure. stops.1 (sure_tells sure) sure;
      fine = λ h. absurd (h refl);
    })

    pub word_ends : (done : Result Status Stop) → WordCame passes prompted word base r r' a mid done → SaysAll passes done mid b status → EndsWord passes prompted word base r r' a b status
    word_ends (Ok s) came says = let what = came.1 in done_ends s.code came.0 what.0 what.1 what.2 says
    word_ends (Err (stop.Texts why)) came says = refused_ends (stop.Texts why) (refusal_code why) came.0 came.1 says
    word_ends (Err stop.NotKdcfile) came says = refused_ends stop.NotKdcfile refl came.0 came.1 says
    word_ends (Err (stop.OtherGeneration stored)) came says = refused_ends (stop.OtherGeneration stored) refl came.0 came.1 says
    word_ends (Err stop.Spent) came says = refused_ends stop.Spent refl came.0 came.1 says
    word_ends (Err stop.Room) came says = unread_ends came.0 came.1 says
    word_ends (Err stop.Output) came says = broken_ends 5 refl says.code_is came.0
    word_ends (Err stop.Memory) came says = broken_ends 7 refl says.code_is came.0

  module _ (base : List ℕ) (r r' : RoomState) (a mid b : C) (status : ℕ) where
    pub check_ends : (done : Result Status Stop) → CheckCame base r r' a mid done → SaysAll passes done mid b status → EndsCheck base r r' a b status
    check_ends (Ok s) came says = subst (λ (k : ℕ). EndsCheck base r r' a b k) (sym says.code_is) (record {
      code = checked_codes s.code came.0;
      checked = λ is told. came.1 told;
      unread = λ is. absurd (checked_not_unread s.code came.0 is);
      sure = λ is. absurd (checked_not_unread s.code came.0 is);
    })
    check_ends (Err (stop.Texts why)) came says = absurd came
    check_ends (Err stop.NotKdcfile) came says = absurd came
    check_ends (Err (stop.OtherGeneration stored)) came says = absurd came
    check_ends (Err stop.Spent) came says = absurd came
    check_ends (Err stop.Room) came says = subst (λ (k : ℕ). EndsCheck base r r' a b k) (sym says.code_is) (record {
      code = refl;
      checked = λ is. absurd (six_not_checked is);
      unread = λ is. (came.1, says.same ∙ came.0);
      sure = λ is. came.2;
    })
    check_ends (Err stop.Output) came says = subst (λ (k : ℕ). EndsCheck base r r' a b k) (sym says.code_is) (record { code = refl; checked = λ is. absurd (five_not_checked is); unread = λ is. absurd cc; sure = λ is. absurd cc })
    check_ends (Err stop.Memory) came says = subst (λ (k : ℕ). EndsCheck base r r' a b k) (sym says.code_is) (record { code = refl; checked = λ is. absurd (seven_not_checked is); unread = λ is. absurd cc; sure = λ is. absurd cc })

  pub usage_ends : (r : RoomState) (a b : C) (status : ℕ) → IsOneOf (1 ∷ 5 ∷ []) status → ((status ≡ 5 → ⊥) → passes a (printed lab_usage_line) b) → EndsUsage passes r r a b status
  usage_ends r a b status code said = record { code = code; said = λ one. said (λ five. one_not_five status one five); room = refl }

  module _ (words : List (List ℕ)) (r r' : RoomState) (a b : C) (status : ℕ) where
    pub answers : (asked : Option (Word × List ℕ)) → request_of words ≡ asked → Ends passes prompted asked r r' a b status → SameRoom r r' → AnswersLab passes prompted words r r' a b status
    answers asked is ends same = record { ends = subst (λ (o : Option (Word × List ℕ)). Ends passes prompted o r r' a b status) (sym is) ends; same_room = same }

  module _ (r r' : RoomState) (a b : C) (status : ℕ) where
    pub request_ends : (word : Word) (base : List ℕ) (mid : C) (sure_tells : IsTrue r.sure → IsTrue r.told) (done : Result Status Stop) → Came passes prompted word base r r' a mid done → SaysAll passes done mid b status → EndsBy passes prompted word base r r' a b status
    request_ends Check base mid sure_tells done came says = check_ends base r r' a mid b status done came says
    request_ends Trace base mid sure_tells done came says = word_ends Trace base r r' a mid b status sure_tells done came says
    request_ends Talk base mid sure_tells done came says = word_ends Talk base r r' a mid b status sure_tells done came says
    request_ends (Explore most number) base mid sure_tells done came says = word_ends (Explore most number) base r r' a mid b status sure_tells done came says
    request_ends Test base mid sure_tells done came says = word_ends Test base r r' a mid b status sure_tells done came says

-- a console that was not used
pub untouched : {C : Type 0} (a : C) (why : Stop) → IsUntouched why a a
untouched a (stop.Texts why) = refl
untouched a stop.NotKdcfile = refl
untouched a (stop.OtherGeneration stored) = refl
untouched a stop.Spent = refl
untouched a stop.Room = refl
untouched a stop.Output = tt
untouched a stop.Memory = tt

-- an error after the place was read
pub came_back : {C : Type 0} (passes : C → List Passed → C → Type 0) (prompted : Bool) (word : Word) (base : List ℕ) (r r' : RoomState) (a b : C) (e : LabError) → NoReadFailed r r' → WordCame passes prompted word base r r' a b (Err (of_lab e))
came_back passes prompted word base r r' a b labs.Memory fine = (fine, tt)
came_back passes prompted word base r r' a b labs.Output fine = (fine, tt)
came_back passes prompted word base r r' a b labs.Spent fine = (fine, tt)
