-- A call over two disks, from what its parts did.
use Rattle.std.proofs.Common.{◌≡◌, ◌≤◌, ◌⊎◌, inl, inr, ⊎_elim, ℕ, List, [], ◌∷◌, Ok, Err, refl, sym, ap, subst, ◌∙◌, arith}
use Rattle.std.specs.Prelude.{IsTrue, IsSome}
use Rattle.std.proofs.lemmas.Bool.Decides.{nat_tests}
use Rattle.std.proofs.lemmas.List.{append-nil}
use Rattle.std.proofs.lemmas.Option.{same_Some}
use Rattle.kd_device.specs.Device.{Rose}
use Rattle.kd_device.specs.Room.{RoomState, SameRoom}
use Rattle.kd_device.specs.Twin.{Both, disk_of, half_leaves, half_state}
use Rattle.kd_device.specs.declared.half.Half.TheVariants.{First, Second}
use Rattle.kdcfile_double.specs.Opening.{SameFiles}
use Rattle.kdcs_types.specs.Tables.{TableRows}
use Rattle.refusals.specs.Lines.{file_line, refusal_line}
use Rattle.refusals.specs.Statuses.{IsOneOf, status_of, status_of_file}
use Rattle.refusals.specs.Texts.{NoReadFailed}
use Rattle.refusals.specs.declared.error.FileRefusal.{FileRefusal}
use Rattle.refusals.specs.declared.error.Refusal.{Refusal}
use Rattle.trail_run.specs.Auditing.{TrailsAreJudgedOnce}
use Rattle.trail_run.specs.OwnAudits.{OwnTrailsHold}
use Rattle.utm_cli.specs.Answers.{AnswersOne, AnswersTwo}
use Rattle.call_parts.specs.Asking.{AreThere, Errand, Reading, ReadsForTwo, TellsTexts, app_of}
use Rattle.call_parts.specs.AskingLaws.{misses_of, there_not_missed}
use Rattle.call_parts.specs.Beside.{SendsRefusalTwo}
use Rattle.utm_cli.specs.Doing.{AuditRefuses}
use Rattle.utm_cli.specs.DoingTwo.{KeepsTwo, RefusesTwoBy, RefusesTwo, StartsTwo}
use Rattle.utm_cli.specs.Parts.{LooksBytes}
use Rattle.utm_cli.specs.PartsTwo.{EndsErrandTwo}
use Rattle.call_parts.specs.Requests.{AsksNothing, Misses, Request, IsSingleCall, ReadsTwo}
use Rattle.call_parts.specs.Leaving.{CallFailed}
use Rattle.call_ends.specs.LawfulRuns.{RunsLawfully}
use Rattle.utm_cli.specs.Promise.{call}
use Rattle.utm_cli.specs.PromiseTwo.{AttachesTwoBy, EndsTwo, MayAttachTwoBy}
use Rattle.call_parts.specs.LeavingTwo.{FaultsTwo, FrameTwin, SaidTwo, SaysPartTwo}
use Rattle.utm_cli.specs.PromiseTwo.{SaysWhyTwo, StopsTwo, TellsTwo, twin_call}
use Rattle.call_parts.specs.declared.words.Word.{Word}
use Rattle.call_parts.specs.declared.words.Word.TheVariants.{Audit, Make}
use Rattle.call_parts.specs.Words.{IsOfBase, usage_line}
use Rattle.utm_cli.proofs.Answering.{StopsHere, not_early, of_texts, run_other, some_form, texts_is, texts_other, usage_call}
use Rattle.utm_cli.proofs.Audited.{own_errand, own_not_refused, own_reading_two}
use Rattle.call_ends.specs.SaidLaws.{fine_then, none_failed, same_frame}
use Rattle.utm_cli.proofs.twin.ByWord.{none_attached}
use Rattle.call_ends.specs.OpenedLaws.{none_said}
use Rattle.utm_cli.proofs.twin.Stays.{stays_same, stays_stops}
use Rattle.call_parts.proofs.OneHalf.{files_two, first_refusal, names_two}

-- ---- statuses

of_double : (n : ℕ) → IsOneOf (0 ∷ 4 ∷ 5 ∷ 7 ∷ 8 ∷ []) n → IsOneOf (0 ∷ 1 ∷ 2 ∷ 3 ∷ 4 ∷ 5 ∷ 6 ∷ 7 ∷ 8 ∷ []) n
of_double n h = grind (arith, nat_tests)

with_room : (n : ℕ) → IsOneOf (0 ∷ 4 ∷ 5 ∷ 7 ∷ 8 ∷ []) n → IsOneOf (0 ∷ 4 ∷ 5 ∷ 6 ∷ 7 ∷ 8 ∷ []) n
with_room n h = grind (arith, nat_tests)

or_room : (k n : ℕ) → IsOneOf (k ∷ 5 ∷ 7 ∷ []) n → IsOneOf (k ∷ 5 ∷ 6 ∷ 7 ∷ []) n
or_room k n h = grind (arith, nat_tests)

none_refused : (n : ℕ) → IsOneOf (0 ∷ 4 ∷ 5 ∷ 7 ∷ 8 ∷ []) n → (IsOneOf (4 ∷ 8 ∷ []) n → ⊥) → IsOneOf (0 ∷ 5 ∷ 6 ∷ 7 ∷ []) n
none_refused n h none = grind (arith, nat_tests)

not_device : (n : ℕ) → IsOneOf (0 ∷ 5 ∷ 7 ∷ []) n → (n ≡ 5 → ⊥) → IsOneOf (0 ∷ 7 ∷ []) n
not_device n h none = grind (arith, nat_tests)

of_three : (k n : ℕ) → IsOneOf (2 ∷ 3 ∷ []) k → IsOneOf (k ∷ 5 ∷ 7 ∷ []) n → IsOneOf (0 ∷ 1 ∷ 2 ∷ 3 ∷ 4 ∷ 5 ∷ 6 ∷ 7 ∷ 8 ∷ []) n
of_three k n texts h = grind (arith, nat_tests)

late_of : (k n : ℕ) → IsOneOf (6 ∷ 7 ∷ []) n → IsOneOf (k ∷ 5 ∷ 6 ∷ 7 ∷ []) n
late_of k n late = grind (arith, nat_tests)

late_code : (n : ℕ) → IsOneOf (6 ∷ 7 ∷ []) n → IsOneOf (0 ∷ 1 ∷ 2 ∷ 3 ∷ 4 ∷ 5 ∷ 6 ∷ 7 ∷ 8 ∷ []) n
late_code n late = grind (arith, nat_tests)

late_errand : (n : ℕ) → IsOneOf (6 ∷ 7 ∷ []) n → IsOneOf (0 ∷ 4 ∷ 5 ∷ 6 ∷ 7 ∷ 8 ∷ []) n
late_errand n late = grind (arith, nat_tests)

late_refused : (n : ℕ) → IsOneOf (6 ∷ 7 ∷ []) n → IsOneOf (2 ∷ 3 ∷ []) n → ⊥
late_refused n late is = grind (arith, nat_tests)

late_file : (n : ℕ) → IsOneOf (6 ∷ 7 ∷ []) n → IsOneOf (4 ∷ 8 ∷ []) n → ⊥
late_file n late is = grind (arith, nat_tests)

not_six : (n : ℕ) → IsOneOf (6 ∷ 7 ∷ []) n → (n ≡ 6 → ⊥) → IsOneOf (0 ∷ 7 ∷ []) n
not_six n late none = grind (arith, nat_tests)

-- ---- what the words ask for

module _ (words : List (List ℕ)) (word : Word) (base : List ℕ) (asked : Request words word base) where
  same_asked : (w : Word) (b : List ℕ) → Request words w b → (w ≡ word) × (b ≡ base)
  same_asked w b h =
      let first : Word × List ℕ = (w, b) in
      let second : Word × List ℕ = (word, base) in
      let e : first ≡ second = same_Some first second (sym h ∙ asked) in
      (ap (λ (p : Word × List ℕ). p.0) e, ap (λ (p : Word × List ℕ). p.1) e)

  -- what the texts say over two copies
  pub read_two : (r : RoomState) (said : Reading) → ReadsTwo words r said → ReadsForTwo word base r said
  read_two r said h =
      let same = same_asked h.word h.base h.asked in
      subst (λ (b : List ℕ). ReadsForTwo word b r said) same.1 (subst (λ (w : Word). ReadsForTwo w h.base r said) same.0 h.reads)

  -- words of an errand over two copies, whose texts are told
  not_single : (r : RoomState) (said : Reading) → IsOfBase word → (TellsTexts word r → ReadsForTwo word base r said) → IsSingleCall words r → ⊥
  not_single r said of_base reads (inl none) = some_form words word base asked none
  not_single r said of_base reads (inr (inl make)) = subst IsOfBase (sym (same_asked (Make make.0) make.1.0 make.1.1).0) of_base
  not_single r said of_base reads (inr (inr single)) = single.1 said (record { word = word; base = base; asked = asked; reads = reads (inl single.0) })

-- ---- one file

-- the first half of a twin is a device, by the laws of the twin
pub stops_at_first : (b : Both) (l : ℕ → List ℕ → List ℕ → List ℕ → Type 0) → (IsTrue b.told → l b.moment b.first.holds b.second.holds b.sent) → ((c d out : List ℕ) → IsTrue b.told → l b.moment c d out → out ≡ b.sent) → StopsHere (half_state First b) (half_leaves First l)
stops_at_first b l holds sent = record { holds_now = λ told. (b.second.holds, holds told); sent_now = λ told c out left. sent c left.0 out told left.1 }

-- what it holds is what a stop may leave of it since the call
pub first_stays : {T : Type 0} (both : T → Both) (leaves : T → ℕ → List ℕ → List ℕ → List ℕ → Type 0) → ((x : T) → IsTrue (both x).told → leaves x (both x).moment (both x).first.holds (both x).second.holds (both x).sent)
    → ((x : T) (t u : ℕ) (c d out : List ℕ) → IsTrue (both x).told → t ≤ u → leaves x u c d out → leaves x t c d out) → (a : Both) (y : T) → FrameTwin a (both y) → IsTrue a.told → half_leaves First (leaves y) a.moment (both y).first.holds (both y).sent
first_stays both leaves holds earlier a y frame told =
    let told_y : IsTrue (both y).told = subst IsTrue (sym frame.told) told in
    ((both y).second.holds, earlier y a.moment (both y).moment (both y).first.holds (both y).second.holds (both y).sent told_y frame.moment (holds y told_y))

-- a call over the first half
faults_of : (a b : Both) → CallFailed (half_state First a) (half_state First b) → FaultsTwo a b
faults_of a b (inl disk) = inr (inl disk)
faults_of a b (inr line) = inl line

module _ (hold : OwnTrailsHold) (words : List (List ℕ)) (r r' : RoomState) (a b : Both) (la lb : ℕ → List ℕ → List ℕ → List ℕ → Type 0) (status : ℕ) where
  -- words and texts that ask for nothing over two copies
  pub single_call : AnswersOne (call words r (half_state First a)) r' (half_state First b) (half_leaves First la) (half_leaves First lb) status → disk_of Second b ≡ disk_of Second a → FrameTwin a b → (IsTrue r.told → (said : Reading) → ReadsTwo words r said → ⊥)
      → AnswersTwo (twin_call words r a) r' b la lb status
  single_call h second frame none = record {
    code = h.code;
    single = λ is. h;
    single_second = λ is. second;
    usage_only = h.usage_only;
    texts = λ told why said. absurd (none told (Err why) said);
    texts_said = λ told why said. absurd (none told (Err why) said);
    texts_names = λ told why said. absurd (none told (Err why) said);
    texts_only = λ told e said. absurd (none told (Ok e) said);
    file = λ told e said. absurd (none told (Ok e) said);
    file_only = λ told e said. absurd (none told (Ok e) said);
    done = λ told e said. absurd (none told (Ok e) said);
    accepted = λ told e t said. absurd (none told (Ok e) said);
    complete = λ told e t said. absurd (none told (Ok e) said);
    cut = λ told e t said. absurd (none told (Ok e) said);
    left = λ told e said. absurd (none told (Ok e) said);
    laws = λ told e said. absurd (none told (Ok e) said);
    trailed = λ told e t said. absurd (none told (Ok e) said);
    own_trails = λ told own. absurd (none told (Ok (own_errand hold IsSome words r own)) (own_reading_two hold IsSome words r own own.copies));
    device = λ is. faults_of a b (h.device is);
    device_told = λ told e said. absurd (none told (Ok e) said);
    device_fine = λ not. let same = h.device_told not in record { spared = (First, same.disk); line = inl same.line };
    room = h.room;
    room_told = h.room_told;
    room_sure = h.room_sure;
    room_said = λ is told. let said = h.room_said is told in record { files = files_two a b second said.disk; sent = said.sent };
    room_names = λ is. names_two a b second (h.room_names is);
    missing = h.missing;
    missing_said = λ told told_twin misses. let said = h.missing_said told told_twin misses in record { files = files_two a b second said.disk; sent = said.sent };
    missing_names = λ told misses. names_two a b second (h.missing_names told misses);
    names = λ told told_twin e said. absurd (none told (Ok e) said);
    attached = λ told told_twin e said. absurd (none told (Ok e) said);
    frame = frame;
    same_room = h.same_room;
  }

-- words that are none of the forms
pub usage_two_call : OwnTrailsHold → (words : List (List ℕ)) (r : RoomState) → AsksNothing words → (a b : Both) (la lb : ℕ → List ℕ → List ℕ → List ℕ → Type 0) (status : ℕ) → SendsRefusalTwo 1 usage_line a b status → AnswersTwo (twin_call words r a) r b la lb status
usage_two_call hold words r none a b la lb status h =
    single_call hold words r r a b la lb status
    (usage_call words r r none (half_state First a) (half_state First b) (half_leaves First la) (half_leaves First lb) status (record { told = refl; texts = refl; sure = refl; faults = omega arith }) refl (first_refusal a b 1 usage_line status h)) h.second h.frame
    (λ told said reads. some_form words reads.word reads.base reads.asked none)

-- ---- two copies

-- all that a script does is lawful, from whatever tables
abbrev pub IsLawfulTwo : List (List ℕ) → RoomState → Type 0
IsLawfulTwo words r = (e : Errand) → ReadsTwo words r (Ok e) → (x : Both) (t : TableRows) → StartsTwo e x t → RunsLawfully (app_of e) t e.commands

module _ (hold : OwnTrailsHold) (words : List (List ℕ)) (r r' : RoomState) (lawful : IsLawfulTwo words r) (word : Word) (base : List ℕ) (asked : Request words word base) (same : SameRoom r r') where
  module _ (once : TrailsAreJudgedOnce) (fine : NoReadFailed r r') (a b : Both) (la lb : ℕ → List ℕ → List ℕ → List ℕ → Type 0) (status : ℕ) where
    pub double_call : (e : Errand) → e.word ≡ word → IsOfBase word → (IsTrue r.told → Misses words r → ⊥) → (TellsTexts word r → ReadsForTwo word base r (Ok e)) → (TellsTexts word r → (said : Reading) → ReadsForTwo word base r said → said ≡ Ok e) → EndsErrandTwo e base a b la lb status
        → AnswersTwo (twin_call words r a) r' b la lb status
    double_call e is_word of_base unmissed found one h = record {
      code = of_double status h.code;
      single = λ is. absurd (not_single words word base asked r (Ok e) of_base found is);
      single_second = λ is. absurd (not_single words word base asked r (Ok e) of_base found is);
      usage_only = λ is. absurd (run_other status 1 h.code refl is);
      texts = λ told why said. let differ = only_one told (Err why) said in absurd cc;
      texts_said = λ told why said. let differ = only_one told (Err why) said in absurd cc;
      texts_names = λ told why said. let differ = only_one told (Err why) said in absurd cc;
      texts_only = λ told f said. with_room status h.code;
      file = λ told f said tells.
          moved told f said (λ x. TellsTwo x.word a.told → (why : FileRefusal) → RefusesTwo x a why → IsOneOf (status_of_file why ∷ 5 ∷ 6 ∷ 7 ∷ []) status × (IsTrue a.told → SaysPartTwo (file_line why) a b))
          (λ own why refuses. (or_room (status_of_file why) status (h.refused own why refuses), λ told_twin. h.refused_part told_twin why refuses)) tells;
      file_only = λ told f said tells. moved told f said (λ x. TellsTwo x.word a.told → IsOneOf (4 ∷ 8 ∷ []) status → SaysWhyTwo x status a b) (λ own code. h.refused_only code own) tells;
      done = λ told f said tells. moved told f said (λ x. TellsTwo x.word a.told → status ≡ 0 → EndsTwo x a b lb) (λ own zero. h.done zero own) tells;
      accepted = λ told f t said tells. moved told f said (λ x. TellsTwo x.word a.told → StartsTwo x a t → IsOneOf (0 ∷ 5 ∷ 6 ∷ 7 ∷ []) status) (λ own starts. or_room 0 status (h.accepted own t starts)) tells;
      complete = λ told f t said tells starts none texts.
          not_device status (moved told f said (λ x. TellsTwo x.word a.told → StartsTwo x a t → IsOneOf (0 ∷ 5 ∷ 7 ∷ []) status) (λ own from. h.accepted own t from) tells starts) (λ five. none (h.device five));
      cut = λ told f t said tells starts told_twin. moved told f said (λ x. StartsTwo x a t → StopsTwo x t a b la lb) (λ from. h.any_moment told_twin t from) starts;
      left = λ told f said told_twin. moved told f said (λ x. (KeepsTwo x.word → ⊥) → SameFiles a b) (h.left told_twin);
      laws = λ told. lawful;
      trailed = λ told f t said tells starts told_twin zero. moved told f said (λ x. StartsTwo x a t → LooksBytes x t) (λ from. h.bytes zero told_twin t from) starts;
      own_trails = λ told own.
          none_refused status h.code
          (λ code.
          let refused =
          moved told (own_errand hold IsSome words r own) (own_reading_two hold IsSome words r own own.copies) (λ x. x.word ≡ Audit → (why : FileRefusal) × AuditRefuses x why)
          (λ is.
          let said = h.refused_only code (subst (λ (w : Word). TellsTwo w a.told) (sym is) tt) in
          (said.0, subst (λ (w : Word). RefusesTwoBy w e a said.0) is said.1)) refl in
          own_not_refused hold IsSome words r own once refused.0 refused.1);
      device = h.device;
      device_told = λ told f said told_twin five. h.device_told five told_twin;
      device_fine = h.fine;
      room = λ six. absurd (run_other status 6 h.code refl six);
      room_told = λ not. fine;
      room_sure = λ six. absurd (run_other status 6 h.code refl six);
      room_said = λ six. absurd (run_other status 6 h.code refl six);
      room_names = λ six. absurd (run_other status 6 h.code refl six);
      missing = λ told misses. absurd (unmissed told misses);
      missing_said = λ told told_twin misses. absurd (unmissed told misses);
      missing_names = λ told misses. absurd (unmissed told misses);
      names = λ told told_twin f said at request. subst (λ (l : List ℕ). MayAttachTwoBy f.word l a b) (sym (same_asked words word base asked f.word at request).1) (moved told f said (λ x. MayAttachTwoBy x.word base a b) (h.names told_twin));
      attached = λ told told_twin f said at request zero.
          subst (λ (l : List ℕ). AttachesTwoBy f.word l a b) (sym (same_asked words word base asked f.word at request).1) (moved told f said (λ x. AttachesTwoBy x.word base a b) (h.named zero told_twin));
      frame = h.frame;
      same_room = same;
    }
      where
        only_one : IsTrue r.told → (said : Reading) → ReadsTwo words r said → said ≡ Ok e
        only_one told said reads = one (inl told) said (read_two words word base asked r said reads)

        -- what holds of what was read holds of what is said
        moved : IsTrue r.told → (f : Errand) → ReadsTwo words r (Ok f) → (P : Errand → Type 0) → P e → P f
        moved told f reads P p =
            let is_same = only_one told (Ok f) reads in
            let is : e ≡ f = cc in
            subst P is p

  -- the third text is refused
  module _ (fine : NoReadFailed r r') (a b : Both) (la lb : ℕ → List ℕ → List ℕ → List ℕ → Type 0) (status : ℕ) where
    pub refused_two_call : (why : Refusal) → IsOfBase word → (IsTrue r.told → Misses words r → ⊥) → (TellsTexts word r → ReadsForTwo word base r (Err why)) → (TellsTexts word r → (said : Reading) → ReadsForTwo word base r said → said ≡ Err why)
        → SendsRefusalTwo (status_of why) (refusal_line why) a b status → AnswersTwo (twin_call words r a) r' b la lb status
    refused_two_call why of_base unmissed found one h = record {
      code = of_three (status_of why) status (of_texts why) h.code;
      single = λ is. absurd (not_single words word base asked r (Err why) of_base found is);
      single_second = λ is. absurd (not_single words word base asked r (Err why) of_base found is);
      usage_only = λ is. absurd (not_so 1 refl is);
      texts = λ told again said. subst (λ (x : Refusal). IsOneOf (status_of x ∷ 5 ∷ 6 ∷ 7 ∷ []) status × (IsTrue a.told → SaysPartTwo (refusal_line x) a b)) (only_one told again said) (or_room (status_of why) status h.code, h.part);
      texts_said = λ told again said code.
          let own = texts_is (status_of why) status (of_texts why) h.code code in
          subst (λ (x : Refusal). (status ≡ status_of x) × (IsTrue a.told → SaidTwo (refusal_line x) a b)) (only_one told again said) (own, h.said own);
      texts_names = λ told again said. h.names;
      texts_only = λ told e said. absurd (none told e said);
      file = λ told e said. absurd (none told e said);
      file_only = λ told e said. absurd (none told e said);
      done = λ told e said. absurd (none told e said);
      accepted = λ told e t said. absurd (none told e said);
      complete = λ told e t said. absurd (none told e said);
      cut = λ told e t said. absurd (none told e said);
      left = λ told e said. absurd (none told e said);
      laws = λ told. lawful;
      trailed = λ told e t said. absurd (none told e said);
      own_trails = λ told own. absurd (none told (own_errand hold IsSome words r own) (own_reading_two hold IsSome words r own own.copies));
      device = λ five. inl (h.failed five);
      device_told = λ told e said. absurd (none told e said);
      device_fine = λ not. fine_then a a b (none_failed a) (h.fine not);
      room = λ six. absurd (not_so 6 refl six);
      room_told = λ not. fine;
      room_sure = λ six. absurd (not_so 6 refl six);
      room_said = λ six. absurd (not_so 6 refl six);
      room_names = λ six. absurd (not_so 6 refl six);
      missing = λ told misses. absurd (unmissed told misses);
      missing_said = λ told told_twin misses. absurd (unmissed told misses);
      missing_names = λ told misses. absurd (unmissed told misses);
      names = λ told told_twin e said. absurd (none told e said);
      attached = λ told told_twin e said. absurd (none told e said);
      frame = h.frame;
      same_room = same;
    }
      where
        not_so : (m : ℕ) → IsOneOf (0 ∷ 1 ∷ 6 ∷ []) m → status ≡ m → ⊥
        not_so m other is = texts_other (status_of why) status m (of_texts why) h.code other is

        none : IsTrue r.told → (e : Errand) → ReadsTwo words r (Ok e) → ⊥
        none told e reads = let differ = one (inl told) (Ok e) (read_two words word base asked r (Ok e) reads) in cc

        only_one : IsTrue r.told → (again : Refusal) → ReadsTwo words r (Err again) → why ≡ again
        only_one told again reads = let is = one (inl told) (Err again) (read_two words word base asked r (Err again) reads) in cc

  -- ---- nothing was done

  module _ (a : Both) (la : ℕ → List ℕ → List ℕ → List ℕ → Type 0) (silent : (c d out : List ℕ) → IsTrue a.told → la a.moment c d out → out ≡ a.sent) where
    late_call : (status : ℕ) → IsOneOf (6 ∷ 7 ∷ []) status → (status ≡ 6 → Rose r.faults r'.faults) → ((status ≡ 6 → ⊥) → NoReadFailed r r') → (status ≡ 6 → IsTrue r.sure → Misses words r)
        → AnswersOne (call words r (half_state First a)) r' (half_state First a) (half_leaves First la) (half_leaves First la) status → AnswersTwo (twin_call words r a) r' a la la status
    late_call status late room room_told room_sure h = record {
      code = late_code status late;
      single = λ is. h;
      single_second = λ is. refl;
      usage_only = λ is. absurd (not_early status 1 late (omega arith) is);
      texts = λ told why said. (late_of (status_of why) status late, λ told_twin. none_said (refusal_line why) a a la la (stays_same a la));
      texts_said = λ told why said is. absurd (late_refused status late is);
      texts_names = λ told why said half. refl;
      texts_only = λ told e said. late_errand status late;
      file = λ told e said tells why refuses. (late_of (status_of_file why) status late, λ told_twin. none_said (file_line why) a a la la (stays_same a la));
      file_only = λ told e said tells is. absurd (late_file status late is);
      done = λ told e said tells is. absurd (not_early status 0 late (omega arith) is);
      accepted = λ told e t said tells starts. late_of 0 status late;
      complete = λ told e t said tells starts none texts. late_complete status late room room_sure e said texts;
      cut = λ told e t said tells starts told_twin. stays_stops e t a a la la (stays_same a la) (λ c d out left. silent c d out told_twin left) starts;
      left = λ told e said told_twin keeps. (stays_same a la).files;
      laws = λ told. lawful;
      trailed = λ told e t said tells starts told_twin is. absurd (not_early status 0 late (omega arith) is);
      own_trails = λ told own. late_of 0 status late;
      device = λ is. absurd (not_early status 5 late (omega arith) is);
      device_told = λ told e said told_twin is. absurd (not_early status 5 late (omega arith) is);
      device_fine = λ not. none_failed a;
      room = room;
      room_told = room_told;
      room_sure = room_sure;
      room_said = λ is told. nothing_two;
      room_names = λ is half. refl;
      missing = λ told misses. late;
      missing_said = λ told told_twin misses. nothing_two;
      missing_names = λ told misses half. refl;
      names = λ told told_twin e said at request. none_attached e.word at a a (λ half. refl);
      attached = λ told told_twin e said at request is. absurd (not_early status 0 late (omega arith) is);
      frame = same_frame a;
      same_room = same;
    }
      where
        nothing_two : SaidTwo [] a a
        nothing_two = record { files = (stays_same a la).files; sent = sym (append-nil a.sent) }

        late_complete : (n : ℕ) → IsOneOf (6 ∷ 7 ∷ []) n → (n ≡ 6 → Rose r.faults r'.faults) → (n ≡ 6 → IsTrue r.sure → Misses words r) → (e : Errand) → ReadsTwo words r (Ok e) → (Rose r.faults r'.faults → ⊥) ⊎ IsTrue r.sure → IsOneOf (0 ∷ 7 ∷ []) n
        late_complete n is_late rose missed e said texts =
            not_six n is_late
            (λ six.
            let reads = read_two words word base asked r (Ok e) said in
            ⊎_elim (λ none. none (rose six)) (λ sure. there_not_missed words r word base asked reads.definition reads.units reads.text reads.there (missed six sure)) texts)

    -- a text could not be read, and over a sure room it is not there
    pub room_call : Rose r.faults r'.faults → (IsTrue r.sure → (definition units text : List ℕ) → AreThere word base r definition units text → ⊥) → AnswersOne (call words r (half_state First a)) r' (half_state First a) (half_leaves First la) (half_leaves First la) 6 → AnswersTwo (twin_call words r a) r' a la la 6
    room_call rose missed h = late_call 6 refl (λ is. rose) (λ not. absurd (not refl)) (λ is sure. misses_of words r word base asked (missed sure)) h

    -- memory ran out
    pub memory_call : NoReadFailed r r' → AnswersOne (call words r (half_state First a)) r' (half_state First a) (half_leaves First la) (half_leaves First la) 7 → AnswersTwo (twin_call words r a) r' a la la 7
    memory_call fine h = late_call 7 refl (λ is. absurd (omega (arith, is))) (λ not. fine) (λ is. absurd (omega (arith, is))) h
