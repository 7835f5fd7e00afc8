-- Typed lines over two copies, after the opening of both files: a is the twin at the call, m after the opening, and b at the end.
use Rattle.std.proofs.Common.{◌≡◌, ◌≤◌, ◌⊎◌, ◌∙◌, ◌++◌, inl, inr, ⊎_elim, refl, ℕ, Bool, false, List, [], Some, None, Err, ap, subst, sym, arith}
use Rattle.std.specs.Prelude.{IsErrAnd, IsErrOf, IsTrue, OnOk, Result, Ok}
use Rattle.kd_base.specs.ToolsLaws.{err_is}
use Rattle.application_types.specs.Soundness.{AreLimits}
use Rattle.kd_device.specs.Device.{Rose}
use Rattle.kd_device.specs.Twin.{Both}
use Rattle.kd_device.specs.declared.half.Half.{Half}
use Rattle.kd_device.specs.declared.half.Half.TheVariants.{First, Second}
use Rattle.kd_records.specs.Identity.{Identity}
use Rattle.kdcs_types.specs.Tables.{TableRows}
use Rattle.abstract_monitor.specs.Commands.{started}
use Rattle.abstract_monitor.specs.Trace.{bytes_of}
use Rattle.laws_of_states.specs.Applications.{IsApplication}
use Rattle.laws_of_states.specs.Keeping.{HasFacts}
use Rattle.laws_of_states.specs.Suits.{Suits}
use Rattle.kdcfile_double.specs.Mended.{BothRest}
use Rattle.kdcfile_double.specs.Opening.{IsRefusedTwo, IsSpent, IsTwoOfOtherTexts, KeepsTablesTwice, identity_twice}
use Rattle.kdcfile_double.specs.Twice.{FineTwice, IsInUse, IsOpen, RoseAt, SameFaultsAt, Twice, identity_of}
use Rattle.kdcfile_double.specs.declared.error.TwinOpenError.TheVariants as opening
use Rattle.monitor_core.specs.CoreSteps.{durable_of}
use Rattle.monitor_core.specs.CoreValue.{CoreValue}
use Rattle.twin_run.specs.Running.{CountsAs, FailsTwice, FrameTwice, IsCopyOfTables, IsRunningTwice, RanTwice, WithinTwice, lines_for, mended_line}
use Rattle.call_ends.specs.Stops.{IsStopOfRun}
use Rattle.call_ends.specs.StopsLaws.{attached_then, faults_of_run, fails_of_run, fine_of_run, frames_then, nothing_within, ran_from, rose_before, rose_later, silent_stop, stop_of_run}
use Rattle.refusals.specs.Statuses.{status_of_file}
use Rattle.refusals.specs.declared.error.FileRefusal.{FileRefusal}
use Rattle.refusals.specs.declared.error.FileRefusal.TheVariants as why
use Rattle.call_parts.specs.Asking.{Errand, app_of}
use Rattle.call_parts.specs.LeavingTwo.{AttachesBoth, FineTwo, FrameTwin, MayAttachTwo, WasBehind}
use Rattle.call_parts.specs.Missing.{IsMissing, MayOpen}
use Rattle.call_parts.specs.Opening.{OpensTwo, identity_of_two}
use Rattle.call_parts.specs.OpeningTwo.{LeavesOpeningTwo, StaysAsItIs}
use Rattle.call_parts.specs.TwoAnswersLaws.{started_two_once}
use Rattle.call_parts.specs.declared.error.CopiesError.{CopiesError}
use Rattle.call_parts.specs.declared.error.CopiesError.TheVariants as copies
use Rattle.call_parts.proofs.HandedOn.{given, handed}
use Rattle.live_run.specs.Sessions.{AreAnswered, Exchange}
use Rattle.live_run.specs.Talking.{EachInTurn, acts_of_session}
use Rattle.live_run.specs.TalkingLaws.{each_more}
use Rattle.live_run.specs.Typing.{SameTyping, TypingState}
use Rattle.live_run.specs.declared.error.LiveError.{LiveError}
use Rattle.live_run.specs.declared.error.LiveError.TheVariants as live
use Rattle.live_cli.specs.Causes.{of_live, of_opening}
use Rattle.live_cli.specs.EndsTwo.{DoesLiveTwo, RefusesTwoLive}
use Rattle.live_cli.specs.Living.{acts_lived, begun}
use Rattle.live_cli.specs.LivingTwo.{IsSparedSince, LivedTwice, LivedWholeTwo, MayLoseSince, ReadInTurnTwo, acts_since, tables_then}
use Rattle.live_cli.specs.declared.error.SessionError.{SessionError}
use Rattle.live_cli.specs.declared.error.SessionError.TheVariants.{Missing, Refused, Failed, Input}
use Rattle.live_cli.proofs.Begun.{core_is, durable_begun, none_ok}
use Rattle.live_cli.proofs.Bracketed.{may_lose_more}

-- ---- the monitor begins with the tables of the copies

module _ (e : Errand) (t : TableRows) (core : CoreValue) (application : core.application ≡ app_of e) (state : core.state ≡ started core.application t) (steps : core.steps ≡ 0) (suits : Suits e.application.generation t) where
  begun_is : core ≡ begun e t
  begun_is = core_is e t core application state steps suits

  durable_now : durable_of (begun e t) ≡ t
  durable_now = durable_begun e t suits

  pub copies_run : IsApplication core.application → HasFacts core.application core.state → AreLimits core.application.generation.limits → (s : Twice) → KeepsTablesTwice (identity_of_two e) s t → IsRunningTwice e.fingerprint core s
  copies_run applies facts limits s keeps = record {
    application = applies;
    limits = limits;
    facts = facts;
    keeps = subst (λ (c : CoreValue). KeepsTablesTwice (identity_twice c.application.generation e.fingerprint) s (durable_of c)) (sym begun_is) (subst (λ (u : TableRows). KeepsTablesTwice (identity_of_two e) s u) (sym durable_now) keeps);
  }

  -- what became of it, in words of the errand
  pub lived_begun : (s : Twice) → KeepsTablesTwice (identity_of_two e) s t → (j : TypingState) (a b : Both) (la lb : ℕ → List ℕ → List ℕ → List ℕ → Type 0) (result : Result Unit LiveError) → LivedTwice (identity_of s) s core j a b la lb result → LivedTwice (identity_of_two e) s (begun e t) j a b la lb result
  lived_begun s keeps j a b la lb result lived =
      subst (λ (i : Identity). LivedTwice i s (begun e t) j a b la lb result) keeps.identity_is (subst (λ (c : CoreValue). LivedTwice (identity_of s) s c j a b la lb result) begun_is lived)

-- no line was read
pub none_lived : (i : Identity) (s : Twice) (c : CoreValue) (j : TypingState) (a : Both) (la : ℕ → List ℕ → List ℕ → List ℕ → Type 0) (result : Result Unit LiveError) (P : LiveError → Type 0) → IsErrAnd result P → LivedTwice i s c j a a la la result
unfolding AreAnswered EachInTurn
none_lived i s c j a la result P error = record { exchanges = []; answered = tt; read = tt; stops = nothing_within i s (durable_of c) (acts_of_session c []) a la; ends = none_ok result P _ error }

pub same_typing : (j : TypingState) → SameTyping j j
same_typing j = record { told = refl; types = refl }

-- ---- errors

reason_is : (r q : FileRefusal) → Refused r ≡ Refused q → q ≡ r
reason_is r q same = cc

four_opening : (x : CopiesError) (q : FileRefusal) → of_opening x ≡ Refused q → status_of_file q ≡ 4
four_opening (copies.Missing half) q is = absurd cc
four_opening (copies.Files opening.NotKdcfile) q is = ap status_of_file (reason_is why.NotKdcfile q is)
four_opening (copies.Files (opening.OtherGeneration stored)) q is = ap status_of_file (reason_is (why.OtherGeneration stored) q is)
four_opening (copies.Files (opening.Spent n)) q is = ap status_of_file (reason_is why.SequenceSpent q is)
four_opening (copies.Files opening.Failed) q is = absurd cc
four_opening (copies.Files opening.Memory) q is = absurd cc

four_live : (x : LiveError) (q : FileRefusal) → of_live x ≡ Refused q → status_of_file q ≡ 4
four_live live.NotKdcfile q is = ap status_of_file (reason_is why.NotKdcfile q is)
four_live (live.OtherGeneration stored) q is = ap status_of_file (reason_is (why.OtherGeneration stored) q is)
four_live live.Failed q is = absurd cc
four_live live.Input q is = absurd cc
four_live live.Spent q is = absurd cc
four_live live.Memory q is = absurd cc

opening_failed : (U : Type 0) (x : CopiesError) → of_opening x ≡ Failed → IsErrOf {T = U} (Err x) (copies.Files opening.Failed)
opening_failed U (copies.Missing half) is = absurd cc
opening_failed U (copies.Files opening.NotKdcfile) is = absurd cc
opening_failed U (copies.Files (opening.OtherGeneration stored)) is = absurd cc
opening_failed U (copies.Files (opening.Spent n)) is = absurd cc
opening_failed U (copies.Files opening.Failed) is = refl
opening_failed U (copies.Files opening.Memory) is = absurd cc

opening_hears : (x : CopiesError) → of_opening x ≡ Input → ⊥
opening_hears (copies.Missing half) is = cc
opening_hears (copies.Files opening.NotKdcfile) is = cc
opening_hears (copies.Files (opening.OtherGeneration stored)) is = cc
opening_hears (copies.Files (opening.Spent n)) is = cc
opening_hears (copies.Files opening.Failed) is = cc
opening_hears (copies.Files opening.Memory) is = cc

opening_misses : (U : Type 0) (x : CopiesError) (half : Half) → of_opening x ≡ Missing half → IsErrOf {T = U} (Err x) (copies.Missing half)
opening_misses U (copies.Missing first) half is = let same : first ≡ half = cc in ap (λ (h : Half). Err (copies.Missing h)) same
opening_misses U (copies.Files opening.NotKdcfile) half is = absurd cc
opening_misses U (copies.Files (opening.OtherGeneration stored)) half is = absurd cc
opening_misses U (copies.Files (opening.Spent n)) half is = absurd cc
opening_misses U (copies.Files opening.Failed) half is = absurd cc
opening_misses U (copies.Files opening.Memory) half is = absurd cc

live_misses : (x : LiveError) (half : Half) → of_live x ≡ Missing half → ⊥
live_misses live.NotKdcfile half is = cc
live_misses (live.OtherGeneration stored) half is = cc
live_misses live.Failed half is = cc
live_misses live.Input half is = cc
live_misses live.Spent half is = cc
live_misses live.Memory half is = cc

live_failed : (U : Type 0) (x : LiveError) → of_live x ≡ Failed → IsErrOf {T = U} (Err x) live.Failed
live_failed U live.NotKdcfile is = absurd cc
live_failed U (live.OtherGeneration stored) is = absurd cc
live_failed U live.Failed is = refl
live_failed U live.Input is = absurd cc
live_failed U live.Spent is = absurd cc
live_failed U live.Memory is = absurd cc

live_input : (U : Type 0) (x : LiveError) → of_live x ≡ Input → IsErrOf {T = U} (Err x) live.Input
live_input U live.NotKdcfile is = absurd cc
live_input U (live.OtherGeneration stored) is = absurd cc
live_input U live.Failed is = absurd cc
live_input U live.Input is = refl
live_input U live.Spent is = absurd cc
live_input U live.Memory is = absurd cc

module _ (U : Type 0) (e : Errand) (alone : Bool) (a : Both) where
  why_not_opened : (x : CopiesError) → (IsErrOf {T = U} (Err x) (copies.Files opening.NotKdcfile) → IsTrue a.told → MayOpen alone a × IsRefusedTwo e.application.generation e.fingerprint a.first.holds a.second.holds)
      → ((stored : List ℕ) → IsErrOf {T = U} (Err x) (copies.Files (opening.OtherGeneration stored)) → IsTrue a.told → MayOpen alone a × IsTwoOfOtherTexts stored e.fingerprint a.first.holds a.second.holds)
      → ((n : ℕ) → IsErrOf {T = U} (Err x) (copies.Files (opening.Spent n)) → IsTrue a.told → MayOpen alone a × IsSpent e.application.generation e.fingerprint n a.first.holds a.second.holds)
      → (r : FileRefusal) → of_opening x ≡ Refused r → IsTrue a.told → RefusesTwoLive alone e a r
  why_not_opened (copies.Missing half) refused other spent r is told = absurd cc
  why_not_opened (copies.Files opening.NotKdcfile) refused other spent r is told = let h = refused refl told in (h.0, inl (reason_is why.NotKdcfile r is, h.1))
  why_not_opened (copies.Files (opening.OtherGeneration stored)) refused other spent r is told = let h = other stored refl told in (h.0, inr (inl (stored, reason_is (why.OtherGeneration stored) r is, h.1)))
  why_not_opened (copies.Files (opening.Spent n)) refused other spent r is told = let h = spent n refl told in (h.0, inr (inr (n, reason_is why.SequenceSpent r is, h.1)))
  why_not_opened (copies.Files opening.Failed) refused other spent r is told = absurd cc
  why_not_opened (copies.Files opening.Memory) refused other spent r is told = absurd cc

  no_reason : (x : LiveError) → (IsErrOf {T = U} (Err x) live.NotKdcfile → ⊥) → ((stored : List ℕ) → IsErrOf {T = U} (Err x) (live.OtherGeneration stored) → ⊥) → (r : FileRefusal) → of_live x ≡ Refused r → ⊥
  no_reason live.NotKdcfile refused other r is = refused refl
  no_reason (live.OtherGeneration stored) refused other r is = other stored refl
  no_reason live.Failed refused other r is = cc
  no_reason live.Input refused other r is = cc
  no_reason live.Spent refused other r is = cc
  no_reason live.Memory refused other r is = cc

-- ---- a stop at once

-- what a stop now may leave, one since the call may leave too
pub now_two : (a b : Both) (lb : ℕ → List ℕ → List ℕ → List ℕ → Type 0) → ((t u : ℕ) (c d out : List ℕ) → IsTrue b.told → t ≤ u → lb u c d out → lb t c d out) → (IsTrue b.told → lb b.moment b.first.holds b.second.holds b.sent) → b.told ≡ a.told → a.moment ≤ b.moment → IsTrue a.told → lb a.moment b.first.holds b.second.holds b.sent
now_two a b lb earlier here same le told = let told_b = subst IsTrue (sym same) told in earlier a.moment b.moment b.first.holds b.second.holds b.sent told_b le (here told_b)

-- ---- both files

module _ (e : Errand) (base : List ℕ) (alone : Bool) (j : TypingState) (a m : Both) (la lm : ℕ → List ℕ → List ℕ → List ℕ → Type 0) (frame : FrameTwin a m) (sent : IsTrue a.told → m.sent ≡ a.sent)
    (any : IsTrue a.told → BothRest a la → (t : TableRows) → OpensTwo e a t → LeavesOpeningTwo (identity_of_two e) t a m lm) where
  -- they are not opened
  pub unopened : (U : Type 0) (x : CopiesError) (r : Result Unit SessionError) → IsErrAnd r (λ z. z ≡ of_opening x) → ((half : Half) → IsErrOf {T = U} (Err x) (copies.Missing half) → (alone ≡ false) × (IsTrue a.told → IsMissing half a.first.holds a.second.holds))
      → (IsErrOf {T = U} (Err x) (copies.Files opening.NotKdcfile) → IsTrue a.told → MayOpen alone a × IsRefusedTwo e.application.generation e.fingerprint a.first.holds a.second.holds)
      → ((stored : List ℕ) → IsErrOf {T = U} (Err x) (copies.Files (opening.OtherGeneration stored)) → IsTrue a.told → MayOpen alone a × IsTwoOfOtherTexts stored e.fingerprint a.first.holds a.second.holds)
      → ((n : ℕ) → IsErrOf {T = U} (Err x) (copies.Files (opening.Spent n)) → IsTrue a.told → MayOpen alone a × IsSpent e.application.generation e.fingerprint n a.first.holds a.second.holds)
      → (IsErrOf {T = U} (Err x) (copies.Files opening.Failed) → RoseAt First a m ⊎ RoseAt Second a m) → ((IsErrOf {T = U} (Err x) (copies.Files opening.Failed) → ⊥) → FineTwo a m)
      → (IsTrue a.told → ((t : TableRows) → MayOpen alone a → OpensTwo e a t → ⊥) → StaysAsItIs a m la lm) → (IsTrue a.told → MayAttachTwo base a m) → (IsTrue a.told → lm a.moment m.first.holds m.second.holds m.sent) → DoesLiveTwo e base alone r j j a m la lm
  unfolding AreAnswered EachInTurn
  unopened U x r gives missing refused other spent failed went still names now =
      let stops : IsTrue a.told → (t : TableRows) → OpensTwo e a t → BothRest a la → (c d out : List ℕ) → lm a.moment c d out → IsStopOfRun (identity_of_two e) t (acts_lived e t []) a m c d out =
      λ told t opens rest c d out left. let o = any told rest t opens c d out left in silent_stop (identity_of_two e) t (acts_lived e t []) a m c d out o.0 o.1 in
      record {
        opened = none_ok r _ _ gives;
        missing = λ half is told. let h = missing half (opening_misses U x half (handed r (of_opening x) (Missing half) gives is)) in (h.0, h.1 told);
        refused = λ q is told. why_not_opened U e alone a x refused other spent q (handed r (of_opening x) (Refused q) gives is) told;
        four = λ q is. four_opening x q (handed r (of_opening x) (Refused q) gives is);
        failed = λ is. inr (failed (opening_failed U x (handed r (of_opening x) Failed gives is)));
        failed_told = λ is told. inr (inr (failed (opening_failed U x (handed r (of_opening x) Failed gives is)), sent told));
        fine = λ none. went (λ is. none (given r (of_opening x) Failed gives (ap of_opening (err_is U x (copies.Files opening.Failed) is))));
        input = λ is. absurd (opening_hears x (handed r (of_opening x) Input gives is));
        heard = λ none. refl;
        still = λ told none. (still told (λ t may opens. none t (may, opens)), refl);
        lived = λ told t begins. record {
          mended = None;
          mended_was = λ half is. absurd cc;
          lived = record { exchanges = []; answered = tt; read = tt; stops = stops told t begins.1; ends = none_ok r _ _ gives };
          ended = λ rest. stops told t begins.1 rest m.first.holds m.second.holds m.sent (now told);
        };
        names = names;
        named = none_ok r _ _ gives;
        frame = frame;
        typing = same_typing j;
      }

  -- they are opened, and lines are typed over them
  module _ (s : Twice) (t : TableRows) (some : IsOpen s) (suits : Suits e.application.generation t) (may_open : IsTrue a.told → MayOpen alone a) (opens : IsTrue a.told → OpensTwo e a t) (used : IsTrue a.told → (half : Half) → IsInUse half s ⊎ (s.lost ≡ Some half)) (went : FineTwo a m) (fine : (half : Half) → IsInUse half s → SameFaultsAt half a m)
      (lost : (half : Half) → s.lost ≡ Some half → RoseAt half a m) (mended : IsTrue a.told → (half : Half) → s.mended ≡ Some half → WasBehind half a) (mended_all : IsTrue a.told → (half : Half) → WasBehind half a → (s.mended ≡ Some half) ⊎ (s.lost ≡ Some half)) (attaches : IsTrue a.told → AttachesBoth base a m)
      (b : Both) (lb : ℕ → List ℕ → List ℕ → List ℕ → Type 0) (j' : TypingState) (typing : SameTyping j j') (on : FrameTwice m b) (durable : durable_of (begun e t) ≡ t) (now : IsTrue a.told → lb a.moment b.first.holds b.second.holds b.sent) where
    told_m : IsTrue a.told → IsTrue m.told
    told_m told = subst IsTrue (sym frame.told) told

    module _ (told : IsTrue a.told) where
      may : (half : Half) → MayLoseSince s m b half → RoseAt half a b
      may half h = ⊎_elim (λ is. rose_before half a m b on (lost half is)) (rose_later half a m b frame) h

      spared : (half : Half) → (RoseAt half a b → ⊥) → IsSparedSince s m b half
      spared half none = (⊎_elim (λ u. u) (λ is. absurd (none (rose_before half a m b on (lost half is)))) (used told half), λ rose. none (rose_later half a m b frame rose))

      turn : (before : List Exchange) (x : Exchange) (behind : List Exchange) → ReadInTurnTwo (IsSparedSince s m b) (MayLoseSince s m b) (identity_of_two e) (begun e t) j s.mended m b lb before x behind → ReadInTurnTwo (λ half. RoseAt half a b → ⊥) (λ half. RoseAt half a b) (identity_of_two e) (begun e t) j s.mended a b lb before x behind
      turn before x behind r = record {
        since = omega (arith, frame.moment, r.since);
        until = r.until;
        typed = r.typed;
        sent = r.sent ∙ ap (λ (l : List ℕ). l ++ bytes_of (lines_for mended_line s.mended ++ acts_of_session (begun e t) before)) (sent told);
        pair = λ first second out left.
            may_lose_more (λ u. CountsAs (identity_of_two e) u first second) (MayLoseSince s m b) (λ half. RoseAt half a b) may (tables_then (begun e t) before) (acts_since (begun e t) before x behind) x.seen.sent out (r.pair first second out left);
        alone = λ half none bytes out left.
            may_lose_more (λ u. IsCopyOfTables (identity_of_two e) u bytes) (MayLoseSince s m b) (λ half. RoseAt half a b) may (tables_then (begun e t) before) (acts_since (begun e t) before x behind) x.seen.sent out (r.alone half (spared half none) bytes out left);
      }

    lived_as : (result : Result Unit LiveError) → LivedTwice (identity_of_two e) s (begun e t) j m b lm lb result → (IsDone : Type 0 → Type 0) → ((P Q : Type 0) → (P → Q) → OnOk result P → IsDone Q) → IsTrue a.told → LivedWholeTwo IsDone e t j a b la lb
    lived_as result h IsDone done told =
        let stops : BothRest a la → (c d out : List ℕ) → lb a.moment c d out → IsStopOfRun (identity_of_two e) t (acts_lived e t h.exchanges) a b c d out = λ rest c d out left.
        stop_of_run (identity_of_two e) s t (acts_lived e t h.exchanges) a m b frame on lost (used told) (sent told) (mended told) la lm lb (told_m told) (any told rest t (opens told))
        (subst (λ (u : TableRows). WithinTwice (identity_of_two e) s u (acts_lived e t h.exchanges) m b lm lb) durable h.stops) c d out left in
        record {
          mended = s.mended;
          mended_was = mended told;
          lived = record {
            exchanges = h.exchanges;
            answered = h.answered;
            read = each_more _ _ h.exchanges (λ before x behind all r. turn told before x behind r) [] h.exchanges refl h.read;
            stops = stops;
            ends = done _ _ (λ end. (
              record { seen = end.0.seen; sent = end.0.sent ∙ ap (λ (l : List ℕ). l ++ bytes_of (lines_for mended_line s.mended ++ acts_of_session (begun e t) h.exchanges)) (sent told); none = end.0.none },
              ran_from (identity_of_two e) s t (acts_lived e t h.exchanges) a m b frame on lost (used told) (sent told) (mended told) lb fine (mended_all told) (subst (λ (u : TableRows). RanTwice (identity_of_two e) s u (acts_lived e t h.exchanges) m b lb) durable end.1),
            )) h.ends;
          };
          ended = λ rest. stops rest b.first.holds b.second.holds b.sent (now told);
        }

    opened_at : (r : Result Unit SessionError) (result : Result Unit LiveError) → LivedTwice (identity_of_two e) s (begun e t) j m b lm lb result → ((P Q : Type 0) → (P → Q) → OnOk result P → OnOk r Q) → IsTrue a.told → (u : TableRows) → OpensTwo e a u → LivedWholeTwo (λ Done. OnOk r Done) e u j a b la lb
    opened_at r result h done told u opens_u =
        subst (λ (v : TableRows). LivedWholeTwo (λ Done. OnOk r Done) e v j a b la lb) (started_two_once e.application.generation e.fingerprint a.first.holds a.second.holds t u (opens told) opens_u)
        (lived_as result h (λ Done. OnOk r Done) done told)

    attached : IsTrue a.told → AttachesBoth base a b
    attached told = attached_then base a m b on (told_m told) (attaches told)

    -- to the end of the input
    pub typed_out : (IsTrue m.told → LivedTwice (identity_of_two e) s (begun e t) j m b lm lb (Ok tt)) → FineTwice s m b → j'.faults ≡ j.faults → DoesLiveTwo e base alone (Ok tt) j j' a b la lb
    typed_out lived on_fine heard = record {
      opened = λ told. (t, (may_open told, opens told));
      missing = λ half is. absurd cc;
      refused = λ q is. absurd cc;
      four = λ q is. absurd cc;
      failed = λ is. absurd cc;
      failed_told = λ is. absurd cc;
      fine = λ none. fine_of_run (identity_of_two e) s t [] a m b frame on lost went fine on_fine;
      input = λ is. absurd cc;
      heard = λ none. heard;
      still = λ told none. absurd (none t (may_open told, opens told));
      lived = λ told u begins. opened_at (Ok tt) (Ok tt) (lived (told_m told)) (λ P Q f p. f p) told u begins.1;
      names = λ told half. inr (attached told half);
      named = λ told. attached told;
      frame = frames_then a m b frame on;
      typing = typing;
    }

    -- or not
    pub typed_until : (U : Type 0) (x : LiveError) (r : Result Unit SessionError) → IsErrAnd r (λ z. z ≡ of_live x) → (IsTrue m.told → LivedTwice (identity_of_two e) s (begun e t) j m b lm lb (Err x)) → (IsErrOf {T = U} (Err x) live.Failed → FailsTwice s m b) → ((IsErrOf {T = U} (Err x) live.Failed → ⊥) → FineTwice s m b)
        → (IsErrOf {T = U} (Err x) live.Input → Rose j.faults j'.faults) → ((IsErrOf {T = U} (Err x) live.Input → ⊥) → j'.faults ≡ j.faults) → (IsErrOf {T = U} (Err x) live.NotKdcfile → IsTrue m.told → ⊥) → ((stored : List ℕ) → IsErrOf {T = U} (Err x) (live.OtherGeneration stored) → IsTrue m.told → ⊥) → DoesLiveTwo e base alone r j j' a b la lb
    typed_until U x r gives lived failed on_fine input heard refused other = record {
      opened = none_ok r _ _ gives;
      missing = λ half is told. absurd (live_misses x half (handed r (of_live x) (Missing half) gives is));
      refused = λ q is told. absurd (no_reason U e alone a x (λ no. refused no (told_m told)) (λ stored no. other stored no (told_m told)) q (handed r (of_live x) (Refused q) gives is));
      four = λ q is. four_live x q (handed r (of_live x) (Refused q) gives is);
      failed = λ is. faults_of_run (identity_of_two e) s t [] a m b frame on lost some (failed (live_failed U x (handed r (of_live x) Failed gives is)));
      failed_told = λ is told. fails_of_run (identity_of_two e) s t [] a m b frame on lost (used told) (failed (live_failed U x (handed r (of_live x) Failed gives is)));
      fine = λ none. fine_of_run (identity_of_two e) s t [] a m b frame on lost went fine (on_fine (λ is. none (given r (of_live x) Failed gives (ap of_live (err_is U x live.Failed is)))));
      input = λ is. input (live_input U x (handed r (of_live x) Input gives is));
      heard = λ none. heard (λ is. none (given r (of_live x) Input gives (ap of_live (err_is U x live.Input is))));
      still = λ told none. absurd (none t (may_open told, opens told));
      lived = λ told u begins. opened_at r (Err x) (lived (told_m told)) (λ P Q f p. none_ok r _ Q gives) told u begins.1;
      names = λ told half. inr (attached told half);
      named = none_ok r _ _ gives;
      frame = frames_then a m b frame on;
      typing = typing;
    }
