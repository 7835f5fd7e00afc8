-- A session so far, and one line more.
use Rattle.std.proofs.Common.{◌≡◌, ◌≤◌, ◌⊎◌, inl, inr, ⊎_elim, ℕ, ◌+◌, List, [], ◌∷◌, ◌++◌, length, length-append, refl, sym, ap, subst, ◌∙◌, append_assoc, arith}
use Rattle.std.specs.Prelude.{Bool, true, IsTrue, Option, Some, None, Result, Ok, Err, MatchOption, IsErrAnd, IsErrOf}
use Rattle.std.proofs.lemmas.List.{append-nil}
use Rattle.kd_base.specs.Limits.{longest_text}
use Rattle.kd_device.specs.Device.{State, LeavesOnly, Rose}
use Rattle.kd_device.specs.TimeLaws.{leaves_weaker, rose_either, told_after}
use Rattle.kd_records.specs.Identity.{Identity}
use Rattle.kd_records.specs.declared.content.Content.{Content}
use Rattle.kd_records.specs.declared.content.Patch.{Patch}
use Rattle.kdcs_types.specs.declared.act.Act.{Act}
use Rattle.kdcs_types.specs.Tables.{TableRows}
use Rattle.abstract_monitor.specs.Bytes.{Bytes}
use Rattle.abstract_monitor.specs.State.{Application, State as MonitorState}
use Rattle.abstract_monitor.specs.Trace.{bytes_of, tables_after}
use Rattle.abstract_monitor.specs.declared.command.Command.TheVariants.{Restart}
use Rattle.laws_of_states.specs.Cut.{SentBy}
use Rattle.laws_of_runs.specs.ListsLaws.{tables_both}
use Rattle.monitor_core.specs.CoreSteps.{durable_of}
use Rattle.monitor_core.specs.CoreValue.{CoreValue}
use Rattle.device_acts.specs.Acting.{DidActs, IsCutOf, IsKeptBy, JoinsParts, WithinActs, WritesWithin}
use Rattle.device_acts.specs.ActingLaws.{bytes_joined, cut_none, cut_of_part, halts_within, running_start, running_within}
use Rattle.device_acts.specs.Stands.{identity_for}
use Rattle.device_acts.specs.WritingLaws.{all_begun, begun_within, writes_most}
use Rattle.device_run.specs.Running.{SaysNothing, commits_most_with, identity_of}
use Rattle.device_run.specs.Keeping.{IsRunningWith, KeepsRows, StandsForRows}
use Rattle.device_run.specs.SteppingLaws.{rows_stand}
use Rattle.device_run.specs.TablesLaws.{commits_add, most_of, tables_go}
use Rattle.typed_lines.specs.Typing.{typed_of}
use Rattle.live_run.specs.Answers.{IsAnswer}
use Rattle.live_run.specs.Performing.{DidSession, RestartsFirst, TookLine, session_at}
use Rattle.live_run.specs.Sessions.{AreAnswered, Exchange, Session, acts_of_line, auto_after, commands_of_line, session_acts, session_after, session_by, session_from}
use Rattle.live_run.specs.Talking.{AreReadInTurn, EachInTurn, EndsEarly, ReadInTurn, Talked, acts_of_session}
use Rattle.live_run.specs.Typing.{IsTyped, ReadsNext, SameTyping, TypingState}
use Rattle.live_run.specs.declared.error.LiveError.{LiveError}
use Rattle.live_run.specs.declared.error.LiveError.TheVariants as live
use Rattle.live_run.proofs.SessionLaws.{acts_both, acts_of_none, acts_of_one, answered_more, answered_none, by_both, by_none, by_one, number_by}

-- the lines that were read so far are done: a is the keeper at the start, and b the keeper now
pub record SoFar (stands : Identity → Content → List ℕ → Type 0) (most : Identity → Patch → ℕ) (fine : State → State → Type 0) (fingerprint : List ℕ) (c : CoreValue) (i i' : TypingState) (d : CoreValue) (auto : Bool) (number : ℕ) (j : Identity) (y : Content) (file : List ℕ → Type 0) (a b : State) (la lb : ℕ → List ℕ → List ℕ → Type 0) : Type 0 where
  pub exchanges : List Exchange
  pub answered : IsTrue a.told → AreAnswered c.application (session_from c.state) exchanges
  pub read : AreReadInTurn stands fingerprint c i a b lb [] exchanges
  pub within : WithinActs tables_after (StandsForRows stands (identity_of fingerprint c)) (durable_of c) (acts_of_session c exchanges) a b la lb
  pub did : DidSession fine fingerprint c (acts_of_session c exchanges) (session_by c.application (session_from c.state) exchanges).state d j y file a b lb
  pub put : IsTrue a.told → b.put ≤ a.put + commits_most_with most (identity_of fingerprint c) (acts_of_session c exchanges)
  pub auto_is : (session_by c.application (session_from c.state) exchanges).auto ≡ auto
  pub count : length exchanges ≡ number
  pub typing : SameTyping i i'
  pub typed : IsTrue i.told → i'.typed ≡ i.typed + number

-- ---- cuts of longer acts

sent_longer : (done left more : List Act) (since : Bytes) → SentBy done left since → SentBy done (left ++ more) since
sent_longer done left more since (inl all) = inl all
sent_longer done left more since (inr part) = inr (part.0, part.1 ++ more, ap (λ (l : List Act). l ++ more) part.2, part.3, part.4)

module _ (stands : TableRows → Bytes → Type 0) where
  -- acts come behind those that were cut
  pub cut_longer : (start : TableRows) (acts more : List Act) (sent image out : Bytes) → IsCutOf tables_after stands start acts sent image out → IsCutOf tables_after stands start (acts ++ more) sent image out
  cut_longer start acts more sent image out h = record {
    since = h.since;
    more = h.more;
    done = h.done;
    left = h.left ++ more;
    whole = ap (λ (l : List Act). l ++ more) h.whole ∙ append_assoc h.done h.left more;
    file = h.file;
    bytes = sent_longer h.done h.left more h.since h.bytes;
  }

  -- acts come before those that were cut
  pub cut_after_acts : (start : TableRows) (acts more : List Act) (sent image out : Bytes) → IsCutOf tables_after stands (tables_after start acts) more (sent ++ bytes_of acts) image out → IsCutOf tables_after stands start (acts ++ more) sent image out
  cut_after_acts start acts more sent image out h =
      subst (λ (l : List Act). IsCutOf tables_after stands start (acts ++ l) sent image out) (append-nil more)
      (cut_of_part tables_after tables_go stands start acts more [] sent image out h)

  -- whatever became of acts became of longer ones
  pub within_longer : (fine : State → State → Type 0) → JoinsParts fine → (start : TableRows) (acts more all : List Act) (a b : State) (la lb : ℕ → List ℕ → List ℕ → Type 0) → (IsTrue a.told → all ≡ acts ++ more) → WithinActs tables_after stands start acts a b la lb → WithinActs tables_after stands start all a b la lb
  within_longer fine on start acts more all a b la lb split within =
      let now = λ (image : List ℕ). la a.moment image a.sent in
      running_within fine on tables_after tables_go stands now start start all [] acts more a a b la la lb (λ told. sym (tables_go.none start)) split (running_start fine on tables_after tables_go stands now start all a la (λ told image left. left)) within

-- ---- at the start

module _ (stands : Identity → Content → List ℕ → Type 0) (most : Identity → Patch → ℕ) (fine : State → State → Type 0) (on : JoinsParts fine) (fingerprint : List ℕ) where
  pub so_far_start : (c : CoreValue) (i : TypingState) (j : Identity) (y : Content) (file : List ℕ → Type 0) (a : State) (la : ℕ → List ℕ → List ℕ → Type 0) → IsRunningWith fingerprint c j y → (IsTrue a.told → IsKeptBy file a la) → SoFar stands most fine fingerprint c i i c true 0 j y file a a la la
  unfolding EachInTurn
  so_far_start c i j y file a la running kept =
      let v = session_from c.state in
      let none = acts_of_none c.application v in
      let start = running_start fine on tables_after tables_go (StandsForRows stands (identity_of fingerprint c)) file (durable_of c) [] a la kept in
      record {
        exchanges = [];
        answered = λ told. answered_none c.application v;
        read = tt;
        within = subst (λ (l : List Act). WithinActs tables_after (StandsForRows stands (identity_of fingerprint c)) (durable_of c) l a a la la) (sym none) start.within;
        did = record {
          application = refl;
          running = running;
          state = λ told. sym (ap (λ (w : Session). w.state) (by_none c.application v));
          tables = λ told. sym (tables_go.none (durable_of c)) ∙ ap (λ (l : List Act). tables_after (durable_of c) l) (sym none);
          acts = subst (λ (l : List Act). DidActs fine file l a a la) (sym none) start.sent;
        };
        put = λ told. omega arith;
        auto_is = ap (λ (w : Session). w.auto) (by_none c.application v);
        count = refl;
        typing = record { told = refl; types = refl };
        typed = λ told. omega arith;
      }

-- ---- between two lines

module _ (stands : Identity → Content → List ℕ → Type 0) (most : Identity → Patch → ℕ) (fine : State → State → Type 0) (fingerprint : List ℕ) (c : CoreValue) (i i' : TypingState) (d : CoreValue) (auto : Bool) (number : ℕ) (j : Identity) (y : Content) (file : List ℕ → Type 0) (a b : State) (la lb : ℕ → List ℕ → List ℕ → Type 0) (so : SoFar stands most fine fingerprint c i i' d auto number j y file a b la lb)
    (means : (image : List ℕ) → file image → stands j y image) where
  abbrev done_rows : TableRows → Bytes → Type 0
  done_rows = StandsForRows stands (identity_of fingerprint c)

  abbrev done_acts : List Act
  done_acts = acts_of_session c so.exchanges

  -- what a stop leaves there
  pub rested : IsTrue a.told → (image : List ℕ) → lb b.moment image b.sent → done_rows (tables_after (durable_of c) done_acts) image
  rested told image left =
      subst (λ (t : TableRows). done_rows t image) (so.did.tables told)
      (subst (λ (z : Application). StandsForRows stands (identity_for z.generation fingerprint) (durable_of d) image) so.did.application
      (rows_stand fingerprint d j y so.did.running stands image (means image (so.did.acts.rest told image left))))

  pub all_written : WritesWithin tables_after done_rows (durable_of c) (commits_most_with most (identity_of fingerprint c)) done_acts a b lb
  all_written = λ told image left.
      all_begun tables_after tables_go done_rows (durable_of c) (commits_most_with most (identity_of fingerprint c)) done_acts a b image (so.did.acts.sent told) (so.put told) (rested told image left)

  pub ended_between : EndsEarly done_rows c so.exchanges a b lb
  ended_between = λ told image left. inl (record { sent = so.did.acts.sent told; file = rested told image left })

-- ---- one line more

auto_of_after : (app : Application) (v : Session) (line : List ℕ) → (session_after app v line).auto ≡ auto_after v.auto (typed_of line)
unfolding session_after
auto_of_after app v line = refl

module _ (stands : Identity → Content → List ℕ → Type 0) (most : Identity → Patch → ℕ) (fine : State → State → Type 0) (on : JoinsParts fine) (fingerprint : List ℕ) (c : CoreValue) (i i' i'' : TypingState) (d : CoreValue) (auto : Bool) (number : ℕ) (j : Identity) (y : Content) (file : List ℕ → Type 0) (a b : State) (la lb : ℕ → List ℕ → List ℕ → Type 0) (so : SoFar stands most fine fingerprint c i i' d auto number j y file a b la lb)
    (means : (image : List ℕ) → file image → stands j y image) (sent_now : (image out : List ℕ) → IsTrue b.told → lb b.moment image out → out ≡ b.sent) (line : List ℕ) (same : SameTyping i' i'') (reads : IsTrue i'.told → ReadsNext longest_text i' i'' b line)
    (j' : Identity) (y' : Content) (file' : List ℕ → Type 0) (e : State) (le : ℕ → List ℕ → List ℕ → Type 0) (result : Result CoreValue LiveError) (took : TookLine stands most fine fingerprint d auto number line j' y' file' b e lb le result) (earlier : (t u : ℕ) (image out : List ℕ) → IsTrue e.told → t ≤ u → le u image out → le t image out)
    (left_now : IsTrue e.told → (image : List ℕ) × le e.moment image e.sent) where
  abbrev app : Application
  app = c.application

  abbrev v : Session
  v = session_from c.state

  abbrev xs : List Exchange
  xs = so.exchanges

  abbrev now : Session
  now = session_by app v xs

  abbrev x : Exchange
  x = record { line = line; seen = b; answer = took.answer }

  abbrev acts : List Act
  acts = acts_of_session c xs

  abbrev here : List Act
  here = acts_of_line d.application (session_at d auto number) line took.answer

  abbrev all : List Act
  all = acts_of_session c (xs ++ x ∷ [])

  abbrev rows : TableRows → Bytes → Type 0
  rows = StandsForRows stands (identity_of fingerprint c)

  told_then : IsTrue a.told → IsTrue b.told
  told_then told = told_after a b so.within.frame told

  numbered : number ≡ now.number
  numbered = let by = number_by app v xs in omega (arith, by, so.count)

  at_now : IsTrue a.told → session_at d auto number ≡ now
  at_now told = λ k. record { state = so.did.state told k; auto = sym so.auto_is k; number = numbered k }

  here_is : IsTrue a.told → here ≡ session_acts app now (x ∷ [])
  here_is told = (λ k. acts_of_line (so.did.application k) (at_now told k) line took.answer) ∙ sym (acts_of_one app now x)

  all_is : IsTrue a.told → all ≡ acts ++ here
  all_is told = acts_both app v xs (x ∷ []) ∙ ap (λ (l : List Act). acts ++ l) (sym (here_is told))

  split : IsTrue a.told → all ≡ acts ++ (here ++ [])
  split told = all_is told ∙ ap (λ (l : List Act). acts ++ l) (sym (append-nil here))

  step : WithinActs tables_after rows (durable_of d) here b e lb le
  step = subst (λ (z : Application). WithinActs tables_after (StandsForRows stands (identity_for z.generation fingerprint)) (durable_of d) here b e lb le) so.did.application took.took.within

  more_within : WithinActs tables_after rows (durable_of c) all a e la le
  more_within =
      running_within fine on tables_after tables_go rows file (durable_of c) (durable_of d) all acts here [] a b e la lb le so.did.tables split
      (record { within = within_longer rows fine on (durable_of c) acts (here ++ []) all a b la lb split so.within; sent = so.did.acts }) step

  abbrev bound : TableRows → List Act → ℕ
  bound = most_of most (identity_of fingerprint c)

  step_written : WritesWithin tables_after rows (durable_of d) (bound (durable_of d)) here b e le
  step_written = subst (λ (z : Application). WritesWithin tables_after (StandsForRows stands (identity_for z.generation fingerprint)) (durable_of d) (commits_most_with most (identity_for z.generation fingerprint)) here b e le) so.did.application took.took.written

  more_written : WritesWithin tables_after rows (durable_of c) (bound (durable_of c)) all a e le
  more_written = λ told image left.
      begun_within tables_after tables_go rows bound (commits_add most (identity_of fingerprint c)) (durable_of c) (durable_of d) acts here a b e (so.did.tables told) (so.put told) all [] image (so.did.acts.sent told) (step_written (told_then told) image left) (split told)

  told_end : IsTrue a.told → IsTrue e.told
  told_end told = told_after a e more_within.frame told

  more_put : IsTrue a.told → e.put ≤ a.put + bound (durable_of c) all
  more_put told =
      let some = left_now (told_end told) in
      writes_most tables_after bound (commits_add most (identity_of fingerprint c)) (durable_of c) all a e (more_written told some.0 some.1).writes

  more_answered : IsTrue a.told → AreAnswered app v (xs ++ x ∷ [])
  more_answered told = answered_more app v xs x (so.answered told) (subst (λ (s : MonitorState). IsAnswer s line took.answer) (so.did.state told) took.answered)

  -- ---- what a stop leaves since a read

  step_cut : IsTrue a.told → LeavesOnly b e lb le (IsCutOf tables_after rows (tables_after (durable_of c) acts) (session_acts app now (x ∷ [])) b.sent)
  step_cut told =
      leaves_weaker b e lb le (IsCutOf tables_after rows (durable_of d) here b.sent) (IsCutOf tables_after rows (tables_after (durable_of c) acts) (session_acts app now (x ∷ [])) b.sent) (step.any_moment (told_then told)) (λ image out cut.
      subst (λ (l : List Act). IsCutOf tables_after rows (tables_after (durable_of c) acts) l b.sent image out) (here_is told)
      (subst (λ (t : TableRows). IsCutOf tables_after rows t here b.sent image out) (so.did.tables told) cut))

  read_cut : IsTrue a.told → (image out : List ℕ) → lb b.moment image out → IsCutOf tables_after rows (tables_after (durable_of c) acts) (session_acts app now (x ∷ [])) b.sent image out
  read_cut told image out left =
      let is = sent_now image out (told_then told) left in
      subst (λ (o : List ℕ). IsCutOf tables_after rows (tables_after (durable_of c) acts) (session_acts app now (x ∷ [])) b.sent image o) (sym is)
      (cut_none tables_after tables_go rows (tables_after (durable_of c) acts) (session_acts app now (x ∷ [])) b.sent image (rested stands most fine fingerprint c i i' d auto number j y file a b la lb so means told image (subst (λ (o : List ℕ). lb b.moment image o) is left)))

  read_typed : IsTrue i.told → IsTyped i longest_text (i.typed + length xs) b line
  read_typed told =
      let r = reads (subst IsTrue (sym so.typing.told) told) in
      let at : i.typed + length xs ≡ i'.typed = ap (λ n. i.typed + n) so.count ∙ sym (so.typed told) in
      record { whole = r.next.whole; typed = (λ k. (sym so.typing.types k) (at k) b) ∙ r.next.typed; shown = r.next.shown }

  read_now : ReadInTurn stands fingerprint c i a e le xs x []
  read_now = record {
    since = so.within.frame.moment;
    until = step.frame.moment;
    typed = read_typed;
    sent = λ told. so.did.acts.sent told;
    stored = λ told image out left. ⊎_elim (read_cut told image out) (λ cut. cut) ((step_cut told).only b.moment image out (omega arith) left);
  }

  -- a read before it
  module _ (before : List Exchange) (z : Exchange) (behind : List Exchange) (is : before ++ z ∷ behind ≡ xs) (r : ReadInTurn stands fingerprint c i a b lb before z behind) where
    abbrev mid : Session
    mid = session_by app v before

    abbrev acts_then : List Act
    acts_then = session_acts app mid (z ∷ behind)

    now_is : session_by app mid (z ∷ behind) ≡ now
    now_is = sym (by_both app v before (z ∷ behind)) ∙ ap (session_by app v) is

    acts_more : session_acts app mid ((z ∷ behind) ++ x ∷ []) ≡ acts_then ++ session_acts app now (x ∷ [])
    acts_more = acts_both app mid (z ∷ behind) (x ∷ []) ∙ ap (λ (w : Session). acts_then ++ session_acts app w (x ∷ [])) now_is

    acts_before : acts ≡ acts_of_session c before ++ acts_then
    acts_before = ap (session_acts app v) (sym is) ∙ acts_both app v before (z ∷ behind)

    tables_are : tables_after (durable_of c) acts ≡ tables_after (tables_after (durable_of c) (acts_of_session c before)) acts_then
    tables_are = ap (λ (l : List Act). tables_after (durable_of c) l) acts_before ∙ tables_both (durable_of c) (acts_of_session c before) acts_then

    sent_is : IsTrue a.told → b.sent ≡ z.seen.sent ++ bytes_of acts_then
    sent_is told =
        so.did.acts.sent told
        ∙ ap (λ (l : List Act). a.sent ++ bytes_of l) acts_before
        ∙ ap (λ (l : List ℕ). a.sent ++ l) (bytes_joined (acts_of_session c before) acts_then)
        ∙ sym (append_assoc a.sent (bytes_of (acts_of_session c before)) (bytes_of acts_then))
        ∙ ap (λ (l : List ℕ). l ++ bytes_of acts_then) (sym (r.sent told))

    abbrev CutSince : List Act → List ℕ → List ℕ → Type 0
    CutSince l image out = IsCutOf tables_after rows (tables_after (durable_of c) (acts_of_session c before)) l z.seen.sent image out

    cut_since : (told : IsTrue a.told) (image out : List ℕ) → IsCutOf tables_after rows (tables_after (durable_of c) acts) (session_acts app now (x ∷ [])) b.sent image out → CutSince (acts_then ++ session_acts app now (x ∷ [])) image out
    cut_since told image out cut =
        cut_after_acts rows (tables_after (durable_of c) (acts_of_session c before)) acts_then (session_acts app now (x ∷ [])) z.seen.sent image out
        (subst (λ (t : TableRows). IsCutOf tables_after rows t (session_acts app now (x ∷ [])) (z.seen.sent ++ bytes_of acts_then) image out) tables_are
        (subst (λ (s : List ℕ). IsCutOf tables_after rows (tables_after (durable_of c) acts) (session_acts app now (x ∷ [])) s image out) (sent_is told) cut))

    read_still : ReadInTurn stands fingerprint c i a e le before z (behind ++ x ∷ [])
    read_still = record {
      since = r.since;
      until = omega (arith, r.until, step.frame.moment);
      typed = r.typed;
      sent = r.sent;
      stored = λ told image out left.
          subst (λ (l : List Act). CutSince l image out) (sym acts_more)
          (⊎_elim (λ past. cut_longer rows (tables_after (durable_of c) (acts_of_session c before)) acts_then (session_acts app now (x ∷ [])) z.seen.sent image out (r.stored told image out past)) (cut_since told image out) ((step_cut told).only z.seen.moment image out r.until left));
    }

  read_more : (before behind : List Exchange) → before ++ behind ≡ xs → AreReadInTurn stands fingerprint c i a b lb before behind → AreReadInTurn stands fingerprint c i a e le before (behind ++ x ∷ [])
  unfolding EachInTurn
  read_more before [] is are = (subst (λ (l : List Exchange). ReadInTurn stands fingerprint c i a e le l x []) (sym is ∙ append-nil before) read_now, tt)
  read_more before (z ∷ behind) is are = (read_still before z behind is are.0, read_more (before ++ z ∷ []) behind (append_assoc before (z ∷ []) behind ∙ is) are.1)

  -- ---- the line was performed

  module _ (f : CoreValue) (did : DidSession fine fingerprint d here (session_after d.application (session_at d auto number) line).state f j' y' file' b e le) where
    more_did : DidSession fine fingerprint c all (session_by app v (xs ++ x ∷ [])).state f j' y' file' a e le
    more_did = record {
      application = did.application ∙ so.did.application;
      running = did.running;
      state = λ told. did.state (told_then told) ∙ (λ k. (session_after (so.did.application k) (at_now told k) line).state) ∙ sym (ap (λ (w : Session). w.state) (by_both app v xs (x ∷ []) ∙ by_one app now x));
      tables = λ told. did.tables (told_then told) ∙ ap (λ (t : TableRows). tables_after t here) (so.did.tables told) ∙ sym (tables_both (durable_of c) acts here) ∙ ap (λ (l : List Act). tables_after (durable_of c) l) (sym (all_is told));
      acts = record {
        rest = λ told. did.acts.rest (told_then told);
        sent = λ told.
            did.acts.sent (told_then told)
            ∙ ap (λ (s : List ℕ). s ++ bytes_of here) (so.did.acts.sent told)
            ∙ append_assoc a.sent (bytes_of acts) (bytes_of here)
            ∙ ap (λ (s : List ℕ). a.sent ++ s) (sym (bytes_joined acts here))
            ∙ ap (λ (l : List Act). a.sent ++ bytes_of l) (sym (all_is told));
        calls = on.after a b e so.did.acts.calls did.acts.calls;
      };
    }

    pub so_far_more : (next : Bool) → next ≡ auto_after auto (typed_of line) → SoFar stands most fine fingerprint c i i'' f next (number + 1) j' y' file' a e la le
    so_far_more next set = record {
      exchanges = xs ++ x ∷ [];
      answered = more_answered;
      read = read_more [] xs refl so.read;
      within = more_within;
      did = more_did;
      put = more_put;
      auto_is = ap (λ (w : Session). w.auto) (by_both app v xs (x ∷ []) ∙ by_one app now x) ∙ auto_of_after app now line ∙ ap (λ (on : Bool). auto_after on (typed_of line)) so.auto_is ∙ sym set;
      count = let sum = length-append xs (x ∷ []) in omega (arith, sum, so.count);
      typing = record { told = same.told ∙ so.typing.told; types = same.types ∙ so.typing.types };
      typed = λ told. let r = (reads (subst IsTrue (sym so.typing.told) told)).typed in let before = so.typed told in omega (arith, r, before);
    }

  -- ---- or it was not

  part_now : (told : IsTrue a.told) (image : List ℕ) → le e.moment image e.sent → IsCutOf tables_after rows (tables_after (durable_of c) acts) (acts_of_line app now line took.answer) (a.sent ++ bytes_of acts) image e.sent
  part_now told image left =
      subst (λ (l : List Act). IsCutOf tables_after rows (tables_after (durable_of c) acts) l (a.sent ++ bytes_of acts) image e.sent) (acts_of_one app now x)
      (subst (λ (s : List ℕ). IsCutOf tables_after rows (tables_after (durable_of c) acts) (session_acts app now (x ∷ [])) s image e.sent) (so.did.acts.sent told)
      (read_now.stored told image e.sent (earlier b.moment e.moment image e.sent (told_end told) step.frame.moment left)))

  module _ (why : LiveError) (failed : result ≡ Err why) where
    asks_restart : IsTrue b.told → commands_of_line d.application (session_at d auto number) line ≡ Restart ∷ [] → SaysNothing b e
    asks_restart = subst (λ (r : Result CoreValue LiveError). RestartsFirst (commands_of_line d.application (session_at d auto number) line) b e r) failed took.restart

    restart_now : IsTrue a.told → commands_of_line app now line ≡ Restart ∷ [] → (e.sent ≡ a.sent ++ bytes_of acts) ⊎ Rose a.line_faults e.line_faults
    restart_now told is = silent (asks_restart (told_then told) ((λ k. commands_of_line (so.did.application k) (at_now told k) line) ∙ is))
      where
        silent : SaysNothing b e → (e.sent ≡ a.sent ++ bytes_of acts) ⊎ Rose a.line_faults e.line_faults
        silent (inl same) = inl (same ∙ so.did.acts.sent told)
        silent (inr rose) = let frame = so.within.frame.line_faults in inr (omega (arith, frame, rose))

    ended_within : EndsEarly rows c (xs ++ x ∷ []) a e le
    ended_within = λ told image left. inr (record { before = xs; last = x; split = refl; part = part_now told image left; restart = restart_now told })

  pub talked_failed : (why : LiveError) → result ≡ Err why → (k : Identity) (w : Content) (file'' : List ℕ → Type 0) → Talked stands most fingerprint c i k w file'' a e la le (Err why)
  talked_failed why is k w file'' = record {
    exchanges = xs ++ x ∷ [];
    answered = more_answered;
    read = read_more [] xs refl so.read;
    within = more_within;
    written = more_written;
    stopped = ended_within why is;
    halted = λ failed. halts_within all acts here [] a b e so.within.frame so.did.acts.sent split (took.took.halted (is ∙ cc));
    done = tt;
  }

  pub more_went : (IsErrOf result live.Failed → ⊥) → fine a e
  more_went none = on.after a b e so.did.acts.calls (took.took.went none)

  pub more_failed : IsErrOf result live.Failed → Rose a.disk_faults e.disk_faults ⊎ Rose a.line_faults e.line_faults
  more_failed failed = rose_either a b e so.within.frame (took.took.failed failed)

  pub more_refused : IsErrOf result live.NotKdcfile → IsTrue a.told → ⊥
  more_refused refused told = took.took.refused refused (told_then told)

  pub more_other : (stored : List ℕ) → IsErrOf result (live.OtherGeneration stored) → IsTrue a.told → ⊥
  more_other stored other told = took.took.other stored other (told_then told)

-- ---- the ends

module _ (stands : Identity → Content → List ℕ → Type 0) (most : Identity → Patch → ℕ) (fine : State → State → Type 0) (fingerprint : List ℕ) (c : CoreValue) (i i' : TypingState) (d : CoreValue) (auto : Bool) (number : ℕ) (j : Identity) (y : Content) (file : List ℕ → Type 0) (a b : State) (la lb : ℕ → List ℕ → List ℕ → Type 0) (so : SoFar stands most fine fingerprint c i i' d auto number j y file a b la lb) (means : (image : List ℕ) → file image → stands j y image) where
  -- no line was read, for this error
  pub talked_until : (why : LiveError) → (why ≡ live.Failed → ⊥) → Talked stands most fingerprint c i j y file a b la lb (Err why)
  talked_until why none = record {
    exchanges = so.exchanges;
    answered = so.answered;
    read = so.read;
    within = so.within;
    written = all_written stands most fine fingerprint c i i' d auto number j y file a b la lb so means;
    stopped = ended_between stands most fine fingerprint c i i' d auto number j y file a b la lb so means;
    halted = λ is. absurd (none cc);
    done = tt;
  }

  -- the input is at its end
  pub talked_out : (IsTrue i'.told → i'.types i'.typed b ≡ None) → Talked stands most fingerprint c i j y file a b la lb (Ok tt)
  talked_out over = record {
    exchanges = so.exchanges;
    answered = so.answered;
    read = so.read;
    within = so.within;
    written = all_written stands most fine fingerprint c i i' d auto number j y file a b la lb so means;
    stopped = tt;
    halted = λ is. absurd cc;
    done = record {
      at_end = λ told.
          let at : i.typed + length so.exchanges ≡ i'.typed = ap (λ n. i.typed + n) so.count ∙ sym (so.typed told) in
          (λ k. (sym so.typing.types k) (at k) b) ∙ over (subst IsTrue (sym so.typing.told) told);
      sent = λ told. so.did.acts.sent told;
      keeps = λ told. subst (λ (t : TableRows). KeepsRows (identity_of fingerprint c) j y t) (so.did.tables told) (subst (λ (z : Application). KeepsRows (identity_for z.generation fingerprint) j y (durable_of d)) so.did.application so.did.running.keeps);
      at_rest = λ told. so.did.acts.rest told;
    };
  }

-- ---- what a read answered

pub handed : {T : Type 0} (P : Result T LiveError → Type 0) (r : Result T LiveError) (e : LiveError) → IsErrAnd r (λ x. x ≡ e) → P (Err e) → P r
handed P (Ok x) e is p = absurd is
handed P (Err x) e is p = subst (λ (z : LiveError). P (Err z)) (sym is) p

module _ {V : Type 0} (i i' : TypingState) (b : State) (items : V → List ℕ) (o : Option V) (next : IsTrue i.told → MatchOption o (i.types i.typed b ≡ None) (λ v. ReadsNext longest_text i i' b (items v))) where
  next_by : (p : Option V) → o ≡ p → IsTrue i.told → MatchOption p (i.types i.typed b ≡ None) (λ v. ReadsNext longest_text i i' b (items v))
  next_by p is told = subst (λ (q : Option V). MatchOption q (i.types i.typed b ≡ None) (λ v. ReadsNext longest_text i i' b (items v))) is (next told)

  -- a line
  pub line_of : (v : V) (line : List ℕ) → o ≡ Some v → line ≡ items v → IsTrue i.told → ReadsNext longest_text i i' b line
  line_of v line is same told = subst (λ (l : List ℕ). ReadsNext longest_text i i' b l) (sym same) (next_by (Some v) is told)

  over_by : (p : Option V) → o ≡ p → ((v : V) → o ≡ Some v → ⊥) → IsTrue i.told → i.types i.typed b ≡ None
  over_by None is none told = next_by None is told
  over_by (Some v) is none told = absurd (none v is)

  -- or the end
  pub end_of : ((v : V) → o ≡ Some v → ⊥) → IsTrue i.told → i.types i.typed b ≡ None
  end_of none told = over_by o refl none told
