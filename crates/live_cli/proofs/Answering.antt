-- A call of typed lines, from what its parts did.
use Rattle.std.proofs.Common.{◌≡◌, ◌≤◌, ◌∙◌, inl, inr, ⊎_elim, refl, ℕ, Bool, List, [], ◌∷◌, Some, Ok, Err, map, subst, sym, arith}
use Rattle.std.specs.Prelude.{IsTrue}
use Rattle.std.proofs.lemmas.Bool.Decides.{nat_tests}
use Rattle.std.proofs.lemmas.Option.{same_Some}
use Rattle.kd_base.specs.ToolsLaws.{cases_option}
use Rattle.kd_device.specs.Device.{Rose, State}
use Rattle.kd_device.specs.Room.{RoomState, SameRoom, text_of}
use Rattle.application_types.specs.Fitted.{IsFit}
use Rattle.refusals.specs.Lines.{refusal_line}
use Rattle.refusals.specs.Statuses.{IsOneOf, status_of}
use Rattle.refusals.specs.Texts.{NoReadFailed}
use Rattle.refusals.specs.declared.error.Refusal.{Refusal}
use Rattle.call_parts.specs.Asking.{AreThere, CanRun, Errand, Reading, ReadsFor, gen_errand, one_errand, work_of}
use Rattle.call_parts.specs.Beside.{SendsRefusal}
use Rattle.call_parts.specs.Leaving.{MayAttach}
use Rattle.call_parts.specs.Requests.{Lacks}
use Rattle.call_parts.specs.Words.{definition_name, file_name, live_base_of, live_usage_line, takes_alone, units_name}
use Rattle.call_parts.specs.declared.errand.OneFile.{OneFile}
use Rattle.call_parts.specs.declared.errand.OneFile.TheVariants as file
use Rattle.call_parts.specs.declared.errand.Task.TheVariants as task
use Rattle.call_parts.specs.declared.errand.Storing.TheVariants as storing
use Rattle.call_parts.specs.declared.errand.Looking.TheVariants as looking
use Rattle.call_parts.specs.declared.words.Word.TheVariants.{Gen}
use Rattle.live_run.specs.Typing.{TypingState}
use Rattle.live_cli.specs.Answers.{AnswersLive}
use Rattle.live_cli.specs.Ends.{EndsLive}
use Rattle.live_cli.specs.Promise.{IsIdle, IsNoBase, LiveMisses, LiveReads, live_call}

-- ---- statuses

usage_code : (n : ℕ) → IsOneOf (1 ∷ 5 ∷ 7 ∷ []) n → IsOneOf (0 ∷ 1 ∷ 2 ∷ 4 ∷ 5 ∷ 6 ∷ 7 ∷ []) n
usage_code n h = grind (arith, nat_tests)

pub usage_not : (n k : ℕ) → IsOneOf (1 ∷ 5 ∷ 7 ∷ []) n → IsOneOf (0 ∷ 2 ∷ 4 ∷ 6 ∷ []) k → n ≡ k → ⊥
usage_not n k h other is = grind (arith, nat_tests)

usage_none : (n : ℕ) → IsOneOf (1 ∷ 5 ∷ 7 ∷ []) n → IsOneOf (0 ∷ 4 ∷ []) n → ⊥
usage_none n h is = grind (arith, nat_tests)

pub run_code : (n : ℕ) → IsOneOf (0 ∷ 4 ∷ 5 ∷ 7 ∷ []) n → IsOneOf (0 ∷ 1 ∷ 2 ∷ 4 ∷ 5 ∷ 6 ∷ 7 ∷ []) n
run_code n h = grind (arith, nat_tests)

pub run_not : (n k : ℕ) → IsOneOf (0 ∷ 4 ∷ 5 ∷ 7 ∷ []) n → IsOneOf (1 ∷ 2 ∷ 6 ∷ []) k → n ≡ k → ⊥
run_not n k h other is = grind (arith, nat_tests)

pub texts_code : (k n : ℕ) → k ≡ 2 → IsOneOf (k ∷ 5 ∷ 7 ∷ []) n → IsOneOf (2 ∷ 5 ∷ 7 ∷ []) n
texts_code k n is h = subst (λ (m : ℕ). IsOneOf (m ∷ 5 ∷ 7 ∷ []) n) is h

two_code : (n : ℕ) → IsOneOf (2 ∷ 5 ∷ 7 ∷ []) n → IsOneOf (0 ∷ 1 ∷ 2 ∷ 4 ∷ 5 ∷ 6 ∷ 7 ∷ []) n
two_code n h = grind (arith, nat_tests)

pub two_not : (n k : ℕ) → IsOneOf (2 ∷ 5 ∷ 7 ∷ []) n → IsOneOf (0 ∷ 1 ∷ 4 ∷ 6 ∷ []) k → n ≡ k → ⊥
two_not n k h other is = grind (arith, nat_tests)

two_none : (n : ℕ) → IsOneOf (2 ∷ 5 ∷ 7 ∷ []) n → IsOneOf (0 ∷ 4 ∷ []) n → ⊥
two_none n h is = grind (arith, nat_tests)

pub idle_code : (n : ℕ) → IsOneOf (6 ∷ 7 ∷ []) n → IsOneOf (0 ∷ 1 ∷ 2 ∷ 4 ∷ 5 ∷ 6 ∷ 7 ∷ []) n
idle_code n h = grind (arith, nat_tests)

pub idle_not : (n k : ℕ) → IsOneOf (6 ∷ 7 ∷ []) n → k ≤ 5 → n ≡ k → ⊥
idle_not n k h small is = grind (arith, nat_tests)

idle_none : (n : ℕ) → IsOneOf (6 ∷ 7 ∷ []) n → IsOneOf (0 ∷ 4 ∷ []) n → ⊥
idle_none n h is = grind (arith, nat_tests)

-- ---- the words

-- as they were handed on
pub asked_base : {S : Type 0} (bytes : S → List ℕ) (given own : List S) (base : List ℕ) → given ≡ own → live_base_of (map bytes given) ≡ Some base → live_base_of (map bytes own) ≡ Some base
asked_base {S} bytes given own base is asked = subst (λ (l : List S). live_base_of (map bytes l) ≡ Some base) is asked

pub asked_alone : {S : Type 0} (bytes : S → List ℕ) (given own : List S) (alone : Bool) → given ≡ own → takes_alone (map bytes given) ≡ alone → alone ≡ takes_alone (map bytes own)
asked_alone {S} bytes given own alone is asked = sym (subst (λ (l : List S). takes_alone (map bytes l) ≡ alone) is asked)

pub asked_none : {S : Type 0} (bytes : S → List ℕ) (given own : List S) → given ≡ own → IsNoBase (map bytes given) → IsNoBase (map bytes own)
asked_none {S} bytes given own is none = subst (λ (l : List S). IsNoBase (map bytes l)) is none

pub some_base : (words : List (List ℕ)) (base : List ℕ) → live_base_of words ≡ Some base → IsNoBase words → ⊥
some_base words base asked none = let differ = sym none ∙ asked in cc

-- what `gen` asks for over one file
pub gen_is : (f : OneFile) → (one_errand f).word ≡ Gen → one_errand f ≡ gen_errand (work_of f)
gen_is (file.Over w (task.Store storing.Report)) is = refl
gen_is (file.Over w (task.Store (storing.Script commands))) is = absurd cc
gen_is (file.Over w (task.Look looking.Listing)) is = absurd cc
gen_is (file.Over w (task.Look (looking.Trail commands))) is = absurd cc
gen_is (file.Over w task.Update) is = absurd cc
gen_is (file.Over w (task.Audit trail)) is = absurd cc
gen_is (file.Make n w commands) is = absurd cc

pub fit_of : (f : OneFile) → CanRun (one_errand f) → IsFit (work_of f).application.generation (work_of f).application.units
fit_of (file.Over w t) can = can.fit
fit_of (file.Make n w commands) can = can.fit

-- ---- the words are not one BASE

pub usage_call : (words : List (List ℕ)) (r : RoomState) (i : TypingState) → IsNoBase words → (a b : State) (la lb : ℕ → List ℕ → List ℕ → Type 0) (status : ℕ) → SendsRefusal 1 live_usage_line a b status → AnswersLive (live_call words r a i) r i b la lb status
usage_call words r i none a b la lb status h = record {
  code = usage_code status h.code;
  usage = λ is. h;
  usage_only = λ is. none;
  texts = λ told why said. absurd (some_base words said.base said.asked none);
  texts_only = λ is. absurd (usage_not status 2 h.code refl is);
  session = λ told e said. absurd (some_base words said.base said.asked none);
  session_only = λ is. absurd (usage_none status h.code is);
  device = λ is. inl (inr (h.failed is));
  device_told = λ not. (h.fine not, refl);
  room = λ is. absurd (usage_not status 6 h.code refl is);
  room_told = λ not. refl;
  room_sure = λ is. absurd (usage_not status 6 h.code refl is);
  room_idle = λ is. absurd (usage_not status 6 h.code refl is);
  missing = λ told misses. absurd (some_base words misses.base misses.asked none);
  names = λ told base is. absurd (some_base words base is none);
  frame = h.frame;
  same_room = record { told = refl; texts = refl; sure = refl; faults = omega arith };
  same_typing = record { told = refl; types = refl };
}

-- ---- they are one BASE

module _ (words : List (List ℕ)) (r r' : RoomState) (base : List ℕ) (asked : live_base_of words ≡ Some base) (same : SameRoom r r') where
  pub same_base : (b : List ℕ) → live_base_of words ≡ Some b → b ≡ base
  same_base b is = same_Some b base (sym is ∙ asked)

  reads_of : (said : Reading) → ReadsFor Gen base r said → LiveReads words r said
  reads_of said h = record { base = base; asked = asked; reads = h }

  one_reading : (answer : Reading) → ((said : Reading) → ReadsFor Gen base r said → said ≡ answer) → (said : Reading) → LiveReads words r said → said ≡ answer
  one_reading answer one said h = one said (subst (λ (b : List ℕ). ReadsFor Gen b r said) (same_base h.base h.asked) h.reads)

  pub not_missed : (said : Reading) → ReadsFor Gen base r said → LiveMisses words r → ⊥
  not_missed said h k = by (subst (λ (b : List ℕ). Lacks Gen b r) (same_base k.base k.asked) k.not_there)
    where
      by : Lacks Gen base r → ⊥
      by (inl none) = let differ = sym h.there.definition_is ∙ none in cc
      by (inr none) = let differ = sym h.there.units_is ∙ none in cc

  misses_of : ((d u s : List ℕ) → AreThere Gen base r d u s → ⊥) → LiveMisses words r
  misses_of none = record {
    base = base;
    asked = asked;
    not_there = ⊎_elim inl (λ d. ⊎_elim inr (λ u. absurd (none d.0 u.0 [] (record { definition_is = d.1; units_is = u.1; script_is = refl }))) (cases_option (text_of (units_name base) r.texts))) (cases_option (text_of (definition_name base) r.texts));
  }

  -- the texts make an application
  module _ (fine : NoReadFailed r r') (e : Errand) (found : IsTrue r.told → ReadsFor Gen base r (Ok e)) (only_one : IsTrue r.told → (said : Reading) → ReadsFor Gen base r said → said ≡ Ok e) (i j : TypingState) (a b : State) (la lb : ℕ → List ℕ → List ℕ → Type 0) (status : ℕ) (h : EndsLive e base i j a b la lb status) where
    one_said : IsTrue r.told → (said : Reading) → LiveReads words r said → said ≡ Ok e
    one_said told = one_reading (Ok e) (only_one told)

    ok_not : IsTrue r.told → (why : Refusal) → LiveReads words r (Err why) → ⊥
    ok_not told why said = let differ = one_said told (Err why) said in cc

    ends_said : IsTrue r.told → (f : Errand) → LiveReads words r (Ok f) → (b' : List ℕ) → live_base_of words ≡ Some b' → EndsLive f b' i j a b la lb status
    ends_said told f said b' is =
        let one = one_said told (Ok f) said in
        let own : e ≡ f = cc in
        subst (λ (x : Errand). EndsLive x b' i j a b la lb status) own (subst (λ (n : List ℕ). EndsLive e n i j a b la lb status) (sym (same_base b' is)) h)

    pub session_call : AnswersLive (live_call words r a i) r' j b la lb status
    session_call = record {
      code = run_code status h.code;
      usage = λ none. absurd (some_base words base asked none);
      usage_only = λ is. absurd (run_not status 1 h.code refl is);
      texts = λ told why said. absurd (ok_not told why said);
      texts_only = λ is. absurd (run_not status 2 h.code refl is);
      session = λ told f said b' is. inr (ends_said told f said b' is);
      session_only = λ is told. (e, reads_of (Ok e) (found told));
      device = h.device;
      device_told = h.device_told;
      room = λ is. absurd (run_not status 6 h.code refl is);
      room_told = λ not. fine;
      room_sure = λ is. absurd (run_not status 6 h.code refl is);
      room_idle = λ is. absurd (run_not status 6 h.code refl is);
      missing = λ told misses. absurd (not_missed (Ok e) (found told) misses);
      names = λ told b' is. subst (λ (n : List ℕ). MayAttach (file_name n) a b) (sym (same_base b' is)) (h.names told);
      frame = h.frame;
      same_room = same;
      same_typing = h.typing;
    }

  -- they are refused
  module _ (fine : NoReadFailed r r') (why : Refusal) (two : status_of why ≡ 2) (found : IsTrue r.told → ReadsFor Gen base r (Err why)) (only_one : IsTrue r.told → (said : Reading) → ReadsFor Gen base r said → said ≡ Err why) (i : TypingState) (a b : State) (la lb : ℕ → List ℕ → List ℕ → Type 0) (status : ℕ)
      (h : SendsRefusal (status_of why) (refusal_line why) a b status) where
    two_is : IsOneOf (2 ∷ 5 ∷ 7 ∷ []) status
    two_is = texts_code (status_of why) status two h.code

    err_not : IsTrue r.told → (e : Errand) → LiveReads words r (Ok e) → ⊥
    err_not told e said = let differ = one_reading (Err why) (only_one told) (Ok e) said in cc

    err_same : IsTrue r.told → (again : Refusal) → LiveReads words r (Err again) → why ≡ again
    err_same told again said = let same_one = one_reading (Err why) (only_one told) (Err again) said in cc

    pub refused_call : AnswersLive (live_call words r a i) r' i b la lb status
    refused_call = record {
      code = two_code status two_is;
      usage = λ none. absurd (some_base words base asked none);
      usage_only = λ is. absurd (two_not status 1 two_is refl is);
      texts = λ told again said. inr (subst (λ (x : Refusal). SendsRefusal (status_of x) (refusal_line x) a b status) (err_same told again said) h);
      texts_only = λ is told. (why, reads_of (Err why) (found told));
      session = λ told e said. absurd (err_not told e said);
      session_only = λ is. absurd (two_none status two_is is);
      device = λ is. inl (inr (h.failed is));
      device_told = λ not. (h.fine not, refl);
      room = λ is. absurd (two_not status 6 two_is refl is);
      room_told = λ not. fine;
      room_sure = λ is. absurd (two_not status 6 two_is refl is);
      room_idle = λ is. absurd (two_not status 6 two_is refl is);
      missing = λ told misses. absurd (not_missed (Err why) (found told) misses);
      names = λ told b' is. inl h.names;
      frame = h.frame;
      same_room = same;
      same_typing = record { told = refl; types = refl };
    }

  -- nothing was done
  module _ (i : TypingState) (a : State) (la : ℕ → List ℕ → List ℕ → Type 0) where
    nothing_call : (status : ℕ) → IsOneOf (6 ∷ 7 ∷ []) status → (status ≡ 6 → Rose r.faults r'.faults) → ((status ≡ 6 → ⊥) → NoReadFailed r r') → (status ≡ 6 → IsTrue r.sure → LiveMisses words r) → AnswersLive (live_call words r a i) r' i a la la status
    nothing_call status late room room_told room_sure =
        let idle : IsIdle status a a i i = record { code = late; device = refl; typing = refl } in
        record {
          code = idle_code status late;
          usage = λ none. absurd (some_base words base asked none);
          usage_only = λ is. absurd (idle_not status 1 late (omega arith) is);
          texts = λ told why said. inl idle;
          texts_only = λ is. absurd (idle_not status 2 late (omega arith) is);
          session = λ told e said b is. inl idle;
          session_only = λ is. absurd (idle_none status late is);
          device = λ is. absurd (idle_not status 5 late (omega arith) is);
          device_told = λ not. (record { disk = refl; line = refl }, refl);
          room = room;
          room_told = room_told;
          room_sure = room_sure;
          room_idle = λ is. idle;
          missing = λ told misses. idle;
          names = λ told b is. inl refl;
          frame = record { told = refl; disk_faults = omega arith; line_faults = omega arith; moment = omega arith };
          same_room = same;
          same_typing = record { told = refl; types = refl };
        }

    pub without_memory : NoReadFailed r r' → AnswersLive (live_call words r a i) r' i a la la 7
    without_memory fine = nothing_call 7 refl (λ is. absurd cc) (λ not. fine) (λ is. absurd cc)

    pub without_room : Rose r.faults r'.faults → (IsTrue r.sure → (d u s : List ℕ) → AreThere Gen base r d u s → ⊥) → AnswersLive (live_call words r a i) r' i a la la 6
    without_room rose missed = nothing_call 6 refl (λ is. rose) (λ not. absurd (not refl)) (λ is sure. misses_of (missed sure))
