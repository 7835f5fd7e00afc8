-- A call over one file, from what its parts did.
use Rattle.std.proofs.Common.{◌≡◌, ◌≤◌, inl, inr, ⊎_elim, ℕ, List, [], ◌∷◌, Ok, Err, refl, sym, subst, ◌∙◌, arith, map}
use Rattle.std.specs.Prelude.{IsTrue, Bool, None}
use Rattle.std.proofs.lemmas.Bool.Decides.{nat_tests}
use Rattle.std.proofs.lemmas.List.{append-nil}
use Rattle.kd_device.specs.Device.{State, Rose, Frame, Only}
use Rattle.kd_device.specs.Room.{RoomState, SameRoom}
use Rattle.device_acts.specs.Said.{Said, SaidPart}
use Rattle.kdcfile_update.specs.Updating.{Stored}
use Rattle.refusals.specs.Lines.{refusal_line, file_line}
use Rattle.refusals.specs.Statuses.{IsOneOf, status_of, status_of_file}
use Rattle.refusals.specs.Texts.{NoReadFailed}
use Rattle.refusals.specs.declared.error.Refusal.{Refusal}
use Rattle.refusals.specs.declared.error.Refusal.TheVariants.{Application, Double, Script, Trail as TrailRefused}
use Rattle.refusals.specs.declared.error.FileRefusal.{FileRefusal}
use Rattle.trail_run.specs.Auditing.{TrailsAreJudgedOnce}
use Rattle.trail_run.specs.OwnAudits.{OwnTrailsHold}
use Rattle.utm_cli.specs.Answers.{AnswersOne}
use Rattle.call_parts.specs.Asking.{Errand, AreThere, Reading, ReadsFor, TellsTexts, app_of}
use Rattle.call_parts.specs.AskingLaws.{misses_of, moved, not_missed, ok_not, one_reading, reads_of, err_not, err_same}
use Rattle.call_parts.specs.Beside.{SendsRefusal}
use Rattle.utm_cli.specs.CutsLaws.{cut_at_call, cut_since_call}
use Rattle.utm_cli.specs.Doing.{AuditRefuses, RefusesBy, Refuses, Starts, tables_of}
use Rattle.utm_cli.specs.EndsLaws.{ends}
use Rattle.utm_cli.specs.Parts.{EndsOne, HasTrailBytes}
use Rattle.call_parts.specs.Requests.{AsksNothing, Misses, Reads, Request}
use Rattle.call_ends.specs.LawfulRuns.{RunsLawfully}
use Rattle.utm_cli.specs.Promise.{AttachedBy, AuditsOwn, Completes, ForStart, HaltsRun, IsCutOfRun, LeavesFile, RoomTells, StopsRun, Tells, call}
use Rattle.call_parts.specs.Words.{usage_line}
use Rattle.call_parts.specs.declared.words.Word.{Word}
use Rattle.call_parts.specs.declared.words.Word.TheVariants.{Gen, Run, Show, Update, Trail, Audit, Make}
use Rattle.utm_cli.proofs.Audited.{own_errand, own_reading, own_not_refused}
use Rattle.utm_cli.proofs.Codes.{none_refused, not_device, not_refused, of_done, of_refused, of_run, with_room}
use Rattle.call_parts.proofs.MadeReading.{asked_make}

-- the words as they were handed on
pub asked_words : {S : Type 0} (bytes : S → List ℕ) (given own : List S) (word : Word) (base : List ℕ) → given ≡ own → Request (map bytes given) word base → Request (map bytes own) word base
asked_words {S} bytes given own word base is asked = subst (λ (l : List S). Request (map bytes l) word base) is asked

pub asked_nothing : {S : Type 0} (bytes : S → List ℕ) (given own : List S) → given ≡ own → AsksNothing (map bytes given) → AsksNothing (map bytes own)
asked_nothing {S} bytes given own is none = subst (λ (l : List S). AsksNothing (map bytes l)) is none

-- all that a script does is lawful, whichever texts say it
abbrev pub IsLawfulOver : List (List ℕ) → RoomState → Type 0
IsLawfulOver words r = (e : Errand) → Reads words r (Ok e) → (bytes : List ℕ) (s : Stored) → Starts e bytes s → RunsLawfully (app_of e) (tables_of e s) e.commands

-- at this device a stop leaves what it holds, with what was sent and nothing else
pub record StopsHere (a : State) (la : ℕ → List ℕ → List ℕ → Type 0) : Type 0 where
  pub holds_now : IsTrue a.told → la a.moment a.holds a.sent
  pub sent_now : IsTrue a.told → (c out : List ℕ) → la a.moment c out → out ≡ a.sent

pub same_frame : (a : State) → Frame a a
same_frame a = record { told = refl; disk_faults = omega arith; line_faults = omega arith; moment = omega arith }

pub said_nothing : (a : State) → Said [] a a
said_nothing a = record { disk = record { holds = refl; put = refl }; sent = sym (append-nil a.sent) }

pub said_none : (line : List ℕ) (a : State) → SaidPart line a a
said_none line a = record { disk = record { holds = refl; put = refl }; sent = (0, sym (append-nil a.sent)) }

-- ---- statuses

-- those of a call that did nothing, among others
late_code : (n : ℕ) → IsOneOf (6 ∷ 7 ∷ []) n → IsOneOf (0 ∷ 1 ∷ 2 ∷ 3 ∷ 4 ∷ 5 ∷ 6 ∷ 7 ∷ 8 ∷ []) n
late_code n late = grind (arith, nat_tests)

late_refusal : (k n : ℕ) → IsOneOf (6 ∷ 7 ∷ []) n → IsOneOf (k ∷ 6 ∷ 5 ∷ 7 ∷ []) n
late_refusal k n late = grind (arith, nat_tests)

late_trail : (n : ℕ) → IsOneOf (6 ∷ 7 ∷ []) n → IsOneOf (0 ∷ 5 ∷ 6 ∷ 7 ∷ []) n
late_trail n late = grind (arith, nat_tests)

pub not_early : (n k : ℕ) → IsOneOf (6 ∷ 7 ∷ []) n → k ≤ 5 → n ≡ k → ⊥
not_early n k late small is = grind (arith, nat_tests)

not_texts : (n : ℕ) → IsOneOf (6 ∷ 7 ∷ []) n → IsOneOf (2 ∷ 3 ∷ []) n → ⊥
not_texts n late is = grind (arith, nat_tests)

not_file : (n : ℕ) → IsOneOf (6 ∷ 7 ∷ []) n → IsOneOf (4 ∷ 8 ∷ []) n → ⊥
not_file n late is = grind (arith, nat_tests)

-- those of a refusal
usage_code : (n : ℕ) → IsOneOf (1 ∷ 5 ∷ 7 ∷ []) n → IsOneOf (0 ∷ 1 ∷ 2 ∷ 3 ∷ 4 ∷ 5 ∷ 6 ∷ 7 ∷ 8 ∷ []) n
usage_code n h = grind (arith, nat_tests)

usage_other : (n k : ℕ) → IsOneOf (1 ∷ 5 ∷ 7 ∷ []) n → IsOneOf (0 ∷ 2 ∷ 3 ∷ 4 ∷ 6 ∷ 8 ∷ []) k → n ≡ k → ⊥
usage_other n k h other is = grind (arith, nat_tests)

usage_texts : (n : ℕ) → IsOneOf (1 ∷ 5 ∷ 7 ∷ []) n → IsOneOf (2 ∷ 3 ∷ []) n → ⊥
usage_texts n h is = grind (arith, nat_tests)

usage_file : (n : ℕ) → IsOneOf (1 ∷ 5 ∷ 7 ∷ []) n → IsOneOf (4 ∷ 8 ∷ []) n → ⊥
usage_file n h is = grind (arith, nat_tests)

pub of_texts : (why : Refusal) → IsOneOf (2 ∷ 3 ∷ []) (status_of why)
of_texts (Application fault) = refl
of_texts (Double line) = refl
of_texts (Script fault) = refl
of_texts (TrailRefused fault) = refl

texts_code : (k n : ℕ) → IsOneOf (2 ∷ 3 ∷ []) k → IsOneOf (k ∷ 5 ∷ 7 ∷ []) n → IsOneOf (0 ∷ 1 ∷ 2 ∷ 3 ∷ 4 ∷ 5 ∷ 6 ∷ 7 ∷ 8 ∷ []) n
texts_code k n texts h = grind (arith, nat_tests)

pub texts_is : (k n : ℕ) → IsOneOf (2 ∷ 3 ∷ []) k → IsOneOf (k ∷ 5 ∷ 7 ∷ []) n → IsOneOf (2 ∷ 3 ∷ []) n → n ≡ k
texts_is k n texts h is = grind (arith, nat_tests)

pub texts_other : (k n m : ℕ) → IsOneOf (2 ∷ 3 ∷ []) k → IsOneOf (k ∷ 5 ∷ 7 ∷ []) n → IsOneOf (0 ∷ 1 ∷ 6 ∷ []) m → n ≡ m → ⊥
texts_other k n m texts h other is = grind (arith, nat_tests)

texts_file : (k n : ℕ) → IsOneOf (2 ∷ 3 ∷ []) k → IsOneOf (k ∷ 5 ∷ 7 ∷ []) n → IsOneOf (4 ∷ 8 ∷ []) n → ⊥
texts_file k n texts h is = grind (arith, nat_tests)

pub run_other : (n k : ℕ) → IsOneOf (0 ∷ 4 ∷ 5 ∷ 7 ∷ 8 ∷ []) n → IsOneOf (1 ∷ 6 ∷ []) k → n ≡ k → ⊥
run_other n k h other is = grind (arith, nat_tests)

-- ---- what the words ask for

-- the words are one of the forms
pub some_form : (words : List (List ℕ)) (word : Word) (base : List ℕ) → Request words word base → AsksNothing words → ⊥
some_form words word base asked none = let differ = sym none ∙ asked in cc

-- a room that tells, or `make`, tells the texts of the word
pub tells_texts : (words : List (List ℕ)) (r : RoomState) (a : State) (word : Word) (base : List ℕ) → Request words word base → RoomTells (call words r a) → TellsTexts word r
tells_texts words r a word base asked (inl told) = inl told
tells_texts words r a word base asked (inr make) = inr (make.0, asked_make words word base make.0 make.1.0 asked make.1.1)

-- what tells all tells what a word looks at
pub tells_all : (word : Word) (told : Bool) → IsTrue told → Tells word told
tells_all Gen told is = is
tells_all Run told is = is
tells_all Show told is = is
tells_all Update told is = is
tells_all Trail told is = is
tells_all Audit told is = tt
tells_all (Make n) told is = tt

-- ---- the words are none of the forms

module _ (words : List (List ℕ)) (r r' : RoomState) (none : AsksNothing words) (a b : State) (la lb : ℕ → List ℕ → List ℕ → Type 0) (status : ℕ) where
  unread : (said : Reading) → Reads words r said → ⊥
  unread said h = some_form words h.word h.base h.asked none

  none_missed : Misses words r → ⊥
  none_missed h = some_form words h.word h.base h.asked none

  pub usage_call : SameRoom r r' → NoReadFailed r r' → SendsRefusal 1 usage_line a b status → AnswersOne (call words r a) r' b la lb status
  usage_call same fine h = record {
    code = usage_code status h.code;
    usage = λ is. h.code;
    usage_only = λ is. none;
    usage_said = λ is told. h.said is told;
    usage_part = λ is told. h.part told;
    usage_names = λ is. h.names;
    texts = λ told why said. absurd (unread (Err why) said);
    texts_only = λ is. absurd (usage_texts status h.code is);
    texts_part = λ told why said. absurd (unread (Err why) said);
    texts_names = λ told why said. absurd (unread (Err why) said);
    file = λ told e said. absurd (unread (Ok e) said);
    file_only = λ is. absurd (usage_file status h.code is);
    file_part = λ told e said. absurd (unread (Ok e) said);
    device = λ is. inr (h.failed is);
    device_told = h.fine;
    stopped = λ told told_device e s said. absurd (unread (Ok e) said);
    halted = λ told told_device e s said. absurd (unread (Ok e) said);
    room = λ is. absurd (usage_other status 6 h.code refl is);
    room_told = λ not. fine;
    room_sure = λ is. absurd (usage_other status 6 h.code refl is);
    room_said = λ is. absurd (usage_other status 6 h.code refl is);
    room_names = λ is. absurd (usage_other status 6 h.code refl is);
    missing = λ told misses. absurd (none_missed misses);
    missing_said = λ told told_device misses. absurd (none_missed misses);
    missing_names = λ told misses. absurd (none_missed misses);
    done = λ is. absurd (usage_other status 0 h.code refl is);
    accepted = λ told e s said. absurd (unread (Ok e) said);
    complete = λ told e s said. absurd (unread (Ok e) said);
    cut = λ told told_device only e s said. absurd (unread (Ok e) said);
    ended = λ told told_device only e s said. absurd (unread (Ok e) said);
    left = λ told e s said. absurd (unread (Ok e) said);
    written = λ told told_device. inl (h.part told_device).disk.put;
    laws = λ told e said. absurd (unread (Ok e) said);
    trailed = λ told told_device e s said. absurd (unread (Ok e) said);
    own_trails = λ told own. absurd (some_form words Audit own.base own.asked none);
    names = λ told. inl h.names;
    attached = λ is. absurd (usage_other status 0 h.code refl is);
    frame = h.frame;
    same_room = same;
    make_accepted = λ n operand request. absurd (some_form words (Make n) operand request none);
  }

module _ (words : List (List ℕ)) (r r' : RoomState) (word : Word) (base : List ℕ) (asked : Request words word base) (same : SameRoom r r') (lawful : IsLawfulOver words r) (hold : OwnTrailsHold) where
  -- ---- they ask for something

  module _ (once : TrailsAreJudgedOnce) (fine : NoReadFailed r r') (e : Errand) (is_word : e.word ≡ word) (found : TellsTexts word r → ReadsFor word base r (Ok e)) (only_one : TellsTexts word r → (said : Reading) → ReadsFor word base r said → said ≡ Ok e)
      (a b : State) (la lb : ℕ → List ℕ → List ℕ → Type 0) (silent : IsTrue a.told → (c out : List ℕ) → la a.moment c out → out ≡ a.sent) (here : IsTrue a.told → lb a.moment b.holds b.sent) (status : ℕ) (h : EndsOne e base a b la lb status) where
    one_said : RoomTells (call words r a) → (said : Reading) → Reads words r said → said ≡ Ok e
    one_said told = one_reading words r word base asked (Ok e) (only_one (tells_texts words r a word base asked told))

    own_read : RoomTells (call words r a) → Reads words r (Ok e)
    own_read told = reads_of words r word base asked (Ok e) (found (tells_texts words r a word base asked told))

    -- what holds of the errand holds of what is said
    of_said : RoomTells (call words r a) → (P : Errand → Type 0) (f : Errand) → Reads words r (Ok f) → P e → P f
    of_said told P f said p = moved words r e (one_said told) P f said p

    unmissed : IsTrue r.told → Misses words r → ⊥
    unmissed told misses = not_missed words r word base asked (Ok e) (found (inl told)) misses

    run_cut : RoomTells (call words r a) → IsTrue a.told → Only a.holds a la → (f : Errand) (s : Stored) → Reads words r (Ok f) → Starts f a.holds s → (image out : List ℕ) → lb a.moment image out → IsCutOfRun f s a image out
    run_cut told told_device only f s said =
        of_said told (λ x. Starts x a.holds s → (image out : List ℕ) → lb a.moment image out → IsCutOfRun x s a image out) f said
        (λ starts image out left. cut_since_call e s a b la lb only starts (silent told_device) (h.any_moment told_device only s starts) image out left)

    no_make : (n : ℕ) (operand : List ℕ) → Request words (Make n) operand → e.word ≡ Make n
    no_make n operand request = is_word ∙ asked_make words word base n operand asked request

    -- `make` is told whatever the device, and refuses nothing
    made_code : (n : ℕ) → e.word ≡ Make n → IsOneOf (0 ∷ 5 ∷ 7 ∷ []) status
    made_code n is =
        none_refused status h.code
        (λ code.
        let said = h.refused_only code (subst (λ (w : Word). Tells w a.told) (sym is) tt) in
        subst (λ (w : Word). RefusesBy w e a.holds said.0) is said.1)

    -- no entry of a run's own trail differs
    own_code : IsTrue r.told → AuditsOwn (λ o. o ≡ None) words r → IsOneOf (0 ∷ 5 ∷ 6 ∷ 7 ∷ []) status
    own_code told own =
        with_room status
        (none_refused status h.code
        (λ code.
        let refused =
        of_said (inl told) (λ x. x.word ≡ Audit → (why : FileRefusal) × AuditRefuses x why) (own_errand hold (λ o. o ≡ None) words r own) (own_reading hold (λ o. o ≡ None) words r own own.copies)
        (λ is.
        let said = h.refused_only code (subst (λ (w : Word). Tells w a.told) (sym is) tt) in
        (said.0, subst (λ (w : Word). RefusesBy w e a.holds said.0) is said.1)) refl in
        own_not_refused hold (λ o. o ≡ None) words r own once refused.0 refused.1))

    pub run_call : AnswersOne (call words r a) r' b la lb status
    run_call = record {
      code = of_run status h.code;
      usage = λ none. absurd (some_form words word base asked none);
      usage_only = λ is. absurd (run_other status 1 h.code refl is);
      usage_said = λ is. absurd (run_other status 1 h.code refl is);
      usage_part = λ none. absurd (some_form words word base asked none);
      usage_names = λ none. absurd (some_form words word base asked none);
      texts = λ told why said. absurd (ok_not words r e (one_said told) why said);
      texts_only = λ is. absurd (not_refused status h.code is);
      texts_part = λ told why said. absurd (ok_not words r e (one_said told) why said);
      texts_names = λ told why said. absurd (ok_not words r e (one_said told) why said);
      file = λ told f said tells why.
          of_said told (λ x. Tells x.word a.told → Refuses x a.holds why → IsOneOf (status_of_file why ∷ 6 ∷ 5 ∷ 7 ∷ []) status) f said (λ own_tells refuses. of_refused (status_of_file why) status (h.refused own_tells why refuses)) tells;
      file_only = λ code. (e, own_read, λ tells. h.refused_only code tells);
      file_part = λ told f said tells why. of_said told (λ x. Refuses x a.holds why → IsTrue a.told → SaidPart (file_line why) a b) f said (λ refuses told_device. h.refused_part told_device why refuses);
      device = h.failed;
      device_told = h.fine;
      stopped = λ told told_device f s said starts is code. of_said told (λ x. Starts x a.holds s → x.word ≡ Run → StopsRun x s a b) f said (λ from run. h.stopped code told_device s from run) starts is;
      halted = λ told told_device f s said starts is five. of_said told (λ x. Starts x a.holds s → x.word ≡ Run → HaltsRun x s a b) f said (λ from run. h.halted five told_device s from run) starts is;
      room = λ is. absurd (run_other status 6 h.code refl is);
      room_told = λ not. fine;
      room_sure = λ is. absurd (run_other status 6 h.code refl is);
      room_said = λ is. absurd (run_other status 6 h.code refl is);
      room_names = λ is. absurd (run_other status 6 h.code refl is);
      missing = λ told misses. absurd (unmissed told misses);
      missing_said = λ told told_device misses. absurd (unmissed told misses);
      missing_names = λ told misses. absurd (unmissed told misses);
      done = λ zero told. (e, own_read told, λ tells. h.done zero tells);
      accepted = λ told f s said tells. of_said told (λ x. Tells x.word a.told → Starts x a.holds s → IsOneOf (0 ∷ 6 ∷ 5 ∷ 7 ∷ []) status) f said (λ own_tells starts. of_done status (h.accepted own_tells s starts)) tells;
      complete = λ told f s said tells starts disk line texts.
          not_device status (of_said told (λ x. Tells x.word a.told → Starts x a.holds s → IsOneOf (0 ∷ 5 ∷ 7 ∷ []) status) f said (λ own_tells from. h.accepted own_tells s from) tells starts) (λ five. ⊎_elim (λ rose. disk rose) (λ rose. line rose) (h.failed five));
      cut = λ told told_device only f s said starts. run_cut told told_device only f s said starts;
      ended = λ told told_device only f s said starts. ends f s a b (run_cut told told_device only f s said starts b.holds b.sent (here told_device));
      left = λ told f s said tells starts told_device. of_said told (λ x. Starts x a.holds s → LeavesFile x s a b) f said (λ from. h.left told_device s from) starts;
      written = λ told told_device. inr (e, own_read told, h.written told_device);
      laws = λ told. lawful;
      trailed = λ told told_device f s said starts trail zero. of_said told (λ x. Starts x a.holds s → HasTrailBytes x s) f said (λ from. h.bytes zero told_device s from) starts trail;
      own_trails = own_code;
      names = λ told_device. ⊎_elim (λ same. inl same) (λ named. inr (word, (base, asked, subst (λ (w : Word). AttachedBy w base a b) is_word named))) (h.names told_device);
      attached = λ zero told_device. (word, (base, asked, subst (λ (w : Word). AttachedBy w base a b) is_word (h.attached zero told_device)));
      frame = h.frame;
      same_room = same;
      make_accepted = λ n operand request. made_code n (no_make n operand request);
    }

  -- ---- the texts are refused

  module _ (fine : NoReadFailed r r') (why : Refusal) (found : TellsTexts word r → ReadsFor word base r (Err why)) (only_one : TellsTexts word r → (said : Reading) → ReadsFor word base r said → said ≡ Err why) (never : (n : ℕ) → word ≡ Make n → ⊥)
      (a b : State) (la lb : ℕ → List ℕ → List ℕ → Type 0) (status : ℕ) (h : SendsRefusal (status_of why) (refusal_line why) a b status) where
    one_refused : RoomTells (call words r a) → (said : Reading) → Reads words r said → said ≡ Err why
    one_refused told = one_reading words r word base asked (Err why) (only_one (tells_texts words r a word base asked told))

    no_errand : RoomTells (call words r a) → (e : Errand) → Reads words r (Ok e) → ⊥
    no_errand told e said = err_not words r why (one_refused told) e said

    missed_none : IsTrue r.told → Misses words r → ⊥
    missed_none told misses = not_missed words r word base asked (Err why) (found (inl told)) misses

    is_own : IsOneOf (2 ∷ 3 ∷ []) status → status ≡ status_of why
    is_own code = texts_is (status_of why) status (of_texts why) h.code code

    not_so : (m : ℕ) → IsOneOf (0 ∷ 1 ∷ 6 ∷ []) m → status ≡ m → ⊥
    not_so m other is = texts_other (status_of why) status m (of_texts why) h.code other is

    pub refused_call : AnswersOne (call words r a) r' b la lb status
    refused_call = record {
      code = texts_code (status_of why) status (of_texts why) h.code;
      usage = λ none. absurd (some_form words word base asked none);
      usage_only = λ is. absurd (not_so 1 refl is);
      usage_said = λ is. absurd (not_so 1 refl is);
      usage_part = λ none. absurd (some_form words word base asked none);
      usage_names = λ none. absurd (some_form words word base asked none);
      texts = λ told again said. subst (λ (x : Refusal). IsOneOf (status_of x ∷ 6 ∷ 5 ∷ 7 ∷ []) status) (sym (err_same words r why (one_refused told) again said)) (of_refused (status_of why) status h.code);
      texts_only = λ code told. (why, reads_of words r word base asked (Err why) (found (tells_texts words r a word base asked told)), is_own code, h.said (is_own code));
      texts_part = λ told again said told_device. subst (λ (x : Refusal). SaidPart (refusal_line x) a b) (sym (err_same words r why (one_refused told) again said)) (h.part told_device);
      texts_names = λ told again said. h.names;
      file = λ told e said. absurd (no_errand told e said);
      file_only = λ is. absurd (texts_file (status_of why) status (of_texts why) h.code is);
      file_part = λ told e said. absurd (no_errand told e said);
      device = λ is. inr (h.failed is);
      device_told = h.fine;
      stopped = λ told told_device e s said. absurd (no_errand told e said);
      halted = λ told told_device e s said. absurd (no_errand told e said);
      room = λ is. absurd (not_so 6 refl is);
      room_told = λ not. fine;
      room_sure = λ is. absurd (not_so 6 refl is);
      room_said = λ is. absurd (not_so 6 refl is);
      room_names = λ is. absurd (not_so 6 refl is);
      missing = λ told misses. absurd (missed_none told misses);
      missing_said = λ told told_device misses. absurd (missed_none told misses);
      missing_names = λ told misses. absurd (missed_none told misses);
      done = λ is. absurd (not_so 0 refl is);
      accepted = λ told e s said. absurd (no_errand told e said);
      complete = λ told e s said. absurd (no_errand told e said);
      cut = λ told told_device only e s said. absurd (no_errand told e said);
      ended = λ told told_device only e s said. absurd (no_errand told e said);
      left = λ told e s said. absurd (no_errand told e said);
      written = λ told told_device. inl (h.part told_device).disk.put;
      laws = λ told. lawful;
      trailed = λ told told_device e s said. absurd (no_errand told e said);
      own_trails = λ told own. absurd (no_errand (inl told) (own_errand hold (λ o. o ≡ None) words r own) (own_reading hold (λ o. o ≡ None) words r own own.copies));
      names = λ told. inl h.names;
      attached = λ is. absurd (not_so 0 refl is);
      frame = h.frame;
      same_room = same;
      make_accepted = λ n operand request. absurd (never n (asked_make words word base n operand asked request));
    }

  -- ---- nothing was done

  module _ (a : State) (la : ℕ → List ℕ → List ℕ → Type 0) (stops : StopsHere a la) where
    -- what a stop leaves is the cut before all acts
    cut_here : (e : Errand) (s : Stored) → IsTrue a.told → Only a.holds a la → Starts e a.holds s → (image out : List ℕ) → la a.moment image out → IsCutOfRun e s a image out
    cut_here e s told only starts = cut_at_call e s a a la la only starts (stops.sent_now told)

    -- for want of a text or of memory
    nothing_done : (status : ℕ) → IsOneOf (6 ∷ 7 ∷ []) status → (status ≡ 6 → Rose r.faults r'.faults) → ((status ≡ 6 → ⊥) → NoReadFailed r r') → (status ≡ 6 → IsTrue r.sure → Misses words r)
        → ForStart (call words r a) (λ e s. Completes status r r' a a) → ((n : ℕ) → word ≡ Make n → IsOneOf (0 ∷ 5 ∷ 7 ∷ []) status) → AnswersOne (call words r a) r' a la la status
    nothing_done status late room room_told room_sure complete made = record {
      code = late_code status late;
      usage = λ none. absurd (some_form words word base asked none);
      usage_only = λ is. absurd (not_early status 1 late (omega arith) is);
      usage_said = λ is. absurd (not_early status 1 late (omega arith) is);
      usage_part = λ none. absurd (some_form words word base asked none);
      usage_names = λ none. refl;
      texts = λ told why said. late_refusal (status_of why) status late;
      texts_only = λ is. absurd (not_texts status late is);
      texts_part = λ told why said told_device. said_none (refusal_line why) a;
      texts_names = λ told why said. refl;
      file = λ told e said tells why refuses. late_refusal (status_of_file why) status late;
      file_only = λ is. absurd (not_file status late is);
      file_part = λ told e said tells why refuses told_device. said_none (file_line why) a;
      device = λ is. absurd (not_early status 5 late (omega arith) is);
      device_told = λ not. record { disk = refl; line = refl };
      stopped = λ told told_device e s said starts is code. inl refl;
      halted = λ told told_device e s said starts is five. inr (inl refl);
      room = room;
      room_told = room_told;
      room_sure = room_sure;
      room_said = λ is told. said_nothing a;
      room_names = λ is. refl;
      missing = λ told misses. late;
      missing_said = λ told told_device misses. said_nothing a;
      missing_names = λ told misses. refl;
      done = λ is. absurd (not_early status 0 late (omega arith) is);
      accepted = λ told e s said tells starts. late_refusal 0 status late;
      complete = complete;
      cut = λ told told_device only e s said starts. cut_here e s told_device only starts;
      ended = λ told told_device only e s said starts. ends e s a a (cut_here e s told_device only starts a.holds a.sent (stops.holds_now told_device));
      left = λ told e s said tells starts told_device alone none. record { holds = refl; put = refl };
      written = λ told told_device. inl refl;
      laws = λ told. lawful;
      trailed = λ told told_device e s said starts trail is. absurd (not_early status 0 late (omega arith) is);
      own_trails = λ told own. late_trail status late;
      names = λ told. inl refl;
      attached = λ is. absurd (not_early status 0 late (omega arith) is);
      frame = same_frame a;
      same_room = same;
      make_accepted = λ n operand request. made n (asked_make words word base n operand asked request);
    }

    -- memory ran out
    pub without_memory : NoReadFailed r r' → AnswersOne (call words r a) r' a la la 7
    without_memory fine =
        nothing_done 7 refl (λ is. absurd (omega (arith, is))) (λ not. fine) (λ is. absurd (omega (arith, is))) (λ told e s said tells starts disk line texts. refl) (λ n is. refl)

    -- a text of the room could not be read, and over a sure room it is not there
    pub without_room : ((n : ℕ) → word ≡ Make n → ⊥) → Rose r.faults r'.faults → (IsTrue r.sure → (definition units text : List ℕ) → AreThere word base r definition units text → ⊥) → AnswersOne (call words r a) r' a la la 6
    without_room never rose missed =
        let misses : IsTrue r.sure → Misses words r = λ sure. misses_of words r word base asked (missed sure) in
        nothing_done 6 refl (λ is. rose) (λ not. absurd (not refl)) (λ is. misses)
        (λ told e s said tells starts disk line texts. absurd (⊎_elim (λ none. none rose) (λ sure. not_missed words r said.word said.base said.asked (Ok e) said.reads (misses sure)) texts))
        (λ n is. absurd (never n is))
