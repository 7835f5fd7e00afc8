-- Typed lines after the opening of the KDCFILE.
use Rattle.std.proofs.Common.{◌≡◌, ◌≤◌, ◌⊎◌, ◌+◌, ◌∙◌, ◌++◌, ◌∷◌, inl, inr, ⊎_elim, refl, ℕ, List, [], Result, ap, subst, sym, arith}
use Rattle.std.specs.Prelude.{IsErrAnd, IsTrue}
use Rattle.std.proofs.lemmas.List.{append-nil}
use Rattle.std.proofs.lemmas.Result.{on_err_weaker, on_ok_weaker}
use Rattle.kd_device.specs.Device.{State, LeavesOnly, Only, Rose}
use Rattle.kd_device.specs.TimeLaws.{leaves_then, leaves_weaker}
use Rattle.kdcfile_layout.specs.Layout.{StandsFor}
use Rattle.kdcs_types.specs.declared.act.Act.{Act}
use Rattle.kdcs_types.specs.Tables.{TableRows, empty_tables}
use Rattle.abstract_monitor.specs.Trace.{bytes_of, tables_after}
use Rattle.device_acts.specs.Acting.{HaltsAt, IsCutOf}
use Rattle.device_acts.specs.MeaningLaws.{answers_exclude_each_other, nothing_stands}
use Rattle.device_acts.specs.Opening.{IsBeingMade, IsOpening, opening_most}
use Rattle.device_acts.specs.Stands.{StandsForTables}
use Rattle.device_acts.specs.WritingLaws.{begun_after}
use Rattle.device_run.specs.Running.{IsCutSince, commits_most}
use Rattle.device_run.specs.StoppingLaws.{halted_after}
use Rattle.kdcfile_double.specs.CommitTwoLaws.{on_err}
use Rattle.monitor_core.specs.CoreSteps.{durable_of}
use Rattle.monitor_core.specs.CoreValue.{CoreValue}
use Rattle.call_parts.specs.Asking.{Errand}
use Rattle.call_parts.specs.Opening.{Opens, identity_of}
use Rattle.live_run.specs.Sessions.{AreAnswered, Exchange, acts_of_line, session_by, session_from}
use Rattle.live_run.specs.Talking.{AreReadInTurn, EachInTurn, EndedBetween, EndedEarly, EndedWithin, ReadInTurn, acts_of_session}
use Rattle.live_run.specs.Typing.{TypingState}
use Rattle.live_run.specs.declared.error.LiveError.{LiveError}
use Rattle.live_cli.specs.Living.{HaltsLive, IsCutLived, LivedAnswering, LivedFrom, LivedOut, acts_lived, begun}
use Rattle.live_cli.proofs.Begun.{none_ok}

-- ---- a stop at once

-- what a stop now may leave, one since an earlier moment may leave too
pub left_at_once : (a b : State) (lb : ℕ → List ℕ → List ℕ → Type 0) → ((t u : ℕ) (image out : List ℕ) → IsTrue b.told → t ≤ u → lb u image out → lb t image out) → IsTrue b.told → a.moment ≤ b.moment → lb b.moment b.holds b.sent → lb a.moment b.holds b.sent
left_at_once a b lb earlier told le here = earlier a.moment b.moment b.holds b.sent told le here

pub later : {k m n : ℕ} → k ≤ m → m ≤ n → k ≤ n
later first second = omega (arith, first, second)

-- ---- cuts

module _ (stands : TableRows → List ℕ → Type 0) (start : TableRows) (all : List Act) (sent : List ℕ) where
  -- nothing was done
  cut_none : (image : List ℕ) → stands start image → IsCutSince stands start all sent image sent
  unfolding tables_after bytes_of
  cut_none image file = record { since = []; more = sym (append-nil sent); cut = record { done = []; left = all; whole = refl; file = file; bytes = inl refl } }

  cut_since : (image out : List ℕ) → IsCutOf tables_after stands start all sent image out → IsCutSince stands start all sent image out
  cut_since image out h = record { since = h.since; more = h.more; cut = record { done = h.done; left = h.left; whole = h.whole; file = h.file; bytes = h.bytes } }

module _ (e : Errand) (t : TableRows) (a : State) (starts : Opens e a.holds t) (exchanges : List Exchange) where
  as_it_was : (image out : List ℕ) → image ≡ a.holds → out ≡ a.sent → IsCutLived e t exchanges a image out
  as_it_was image out same silent = by starts
    where
      by : Opens e a.holds t → IsCutLived e t exchanges a image out
      by (inl (empty, is)) = inr (record { empty = empty; silent = silent; unmade = inl (same ∙ empty) })
      by (inr (stands, suits)) =
          inl (subst (λ (o : List ℕ). IsCutSince (StandsForTables (identity_of e)) t (acts_lived e t exchanges) a.sent image o) (sym silent)
          (cut_none (StandsForTables (identity_of e)) t (acts_lived e t exchanges) a.sent image (subst (λ (l : List ℕ). StandsForTables (identity_of e) t l) (sym same) stands)))

  new_file : (image out : List ℕ) → a.holds ≡ [] → out ≡ a.sent → StandsForTables (identity_of e) empty_tables image → IsCutLived e t exchanges a image out
  new_file image out none silent made = by starts
    where
      by : Opens e a.holds t → IsCutLived e t exchanges a image out
      by (inl (empty, is)) =
          inl (subst (λ (o : List ℕ). IsCutSince (StandsForTables (identity_of e)) t (acts_lived e t exchanges) a.sent image o) (sym silent)
          (cut_none (StandsForTables (identity_of e)) t (acts_lived e t exchanges) a.sent image (subst (λ (u : TableRows). StandsForTables (identity_of e) u image) (sym is) made)))
      by (inr (old, suits)) = absurd (nothing_stands (identity_of e) t (subst (λ (l : List ℕ). StandsForTables (identity_of e) t l) none old))

  module _ (la : ℕ → List ℕ → List ℕ → Type 0) (only : Only a.holds a la) where
    in_opening : (image out : List ℕ) → IsOpening (identity_of e) a la image out → IsCutLived e t exchanges a image out
    in_opening image out o = ⊎_elim (λ left. as_it_was image out (only image left) o.silent) (λ made. made_cut made) o.file
      where
        made_cut : IsBeingMade (identity_of e) a image → IsCutLived e t exchanges a image out
        made_cut made = ⊎_elim (λ none. inr (record { empty = made.empty; silent = o.silent; unmade = inr none })) (λ stands. new_file image out made.empty o.silent stands) made.image_is

    opening_cut : (b : State) (lb : ℕ → List ℕ → List ℕ → Type 0) → LeavesOnly a b la lb (IsOpening (identity_of e) a la) → LeavesOnly a b la lb (IsCutLived e t exchanges a)
    opening_cut b lb h = leaves_weaker a b la lb (IsOpening (identity_of e) a la) (IsCutLived e t exchanges a) h in_opening

    -- what a stop since the call leaves
    at_call : (silent : (c out : List ℕ) → la a.moment c out → out ≡ a.sent) (d : State) (ld : ℕ → List ℕ → List ℕ → Type 0) → LeavesOnly a d la ld (IsCutLived e t exchanges a) → (image out : List ℕ) → ld a.moment image out → IsCutLived e t exchanges a image out
    at_call silent d ld h image out left = ⊎_elim past (λ cut. cut) (h.only a.moment image out (omega arith) left)
      where
        past : la a.moment image out → IsCutLived e t exchanges a image out
        past was = let same = silent image out was in as_it_was image out (only image (subst (λ (o : List ℕ). la a.moment image o) same was)) same

-- ---- lines that were read, seen from before the file was opened

module _ (fingerprint : List ℕ) (c : CoreValue) (i : TypingState) (a b d : State) (told : IsTrue b.told) (later : a.moment ≤ b.moment) (sent : b.sent ≡ a.sent) (ld : ℕ → List ℕ → List ℕ → Type 0) where
  turn_before : (before : List Exchange) (x : Exchange) (behind : List Exchange) → ReadInTurn StandsFor fingerprint c i b d ld before x behind → ReadInTurn StandsFor fingerprint c i a d ld before x behind
  turn_before before x behind h = record {
    since = omega (arith, later, h.since);
    until = h.until;
    typed = h.typed;
    sent = λ now. h.sent told ∙ ap (λ (s : List ℕ). s ++ bytes_of (acts_of_session c before)) sent;
    stored = λ now. h.stored told;
  }

  pub read_before : (before behind : List Exchange) → AreReadInTurn StandsFor fingerprint c i b d ld before behind → AreReadInTurn StandsFor fingerprint c i a d ld before behind
  unfolding EachInTurn
  read_before before [] h = tt
  read_before before (x ∷ behind) h = (turn_before before x behind h.0, read_before (before ++ x ∷ []) behind h.1)

-- ---- its end, seen from before the file was opened

module _ (stands : TableRows → List ℕ → Type 0) (c : CoreValue) (exchanges : List Exchange) (a b d : State) (sent : b.sent ≡ a.sent) (lines : a.line_faults ≤ b.line_faults) (image : List ℕ) where
  between_before : EndedBetween stands c exchanges b d image → EndedBetween stands c exchanges a d image
  between_before h = record { sent = h.sent ∙ ap (λ (s : List ℕ). s ++ bytes_of (acts_of_session c exchanges)) sent; file = h.file }

  within_before : EndedWithin stands c exchanges b d image → EndedWithin stands c exchanges a d image
  within_before h = record {
    before = h.before;
    last = h.last;
    split = h.split;
    part = subst (λ (s : List ℕ). IsCutOf tables_after stands (tables_after (durable_of c) (acts_of_session c h.before)) (acts_of_line c.application (session_by c.application (session_from c.state) h.before) h.last.line h.last.answer) (s ++ bytes_of (acts_of_session c h.before)) image d.sent) sent h.part;
    restart = λ asks. said (h.restart asks);
  }
    where
      said : (d.sent ≡ b.sent ++ bytes_of (acts_of_session c h.before)) ⊎ Rose b.line_faults d.line_faults → (d.sent ≡ a.sent ++ bytes_of (acts_of_session c h.before)) ⊎ Rose a.line_faults d.line_faults
      said (inl same) = inl (same ∙ ap (λ (s : List ℕ). s ++ bytes_of (acts_of_session c h.before)) sent)
      said (inr rose) = inr (omega (arith, lines, rose))

  early_before : EndedEarly stands c exchanges b d image → EndedEarly stands c exchanges a d image
  early_before (inl h) = inl (between_before h)
  early_before (inr h) = inr (within_before h)

halts_before : (e : Errand) (t : TableRows) (exchanges : List Exchange) (a b d : State) → b.sent ≡ a.sent → a.line_faults ≤ b.line_faults → Rose b.line_faults d.line_faults ⊎ HaltsAt (acts_lived e t exchanges) b d → HaltsLive e t exchanges a d
halts_before e t exchanges a b d sent lines h = ⊎_elim (λ rose. inl rose) (λ at. inr (inr at)) (halted_after a b d sent lines (acts_lived e t exchanges) h)

-- ---- the whole

module _ (e : Errand) (t : TableRows) (i : TypingState) (a : State) (la : ℕ → List ℕ → List ℕ → Type 0) (only : Only a.holds a la) (silent : (c out : List ℕ) → la a.moment c out → out ≡ a.sent) (starts : Opens e a.holds t) where
  -- the opening answered an error
  pub not_opened : (b : State) (lb : ℕ → List ℕ → List ℕ → Type 0) (result : Result Unit LiveError) (P : LiveError → Type 0) → IsErrAnd result P → LeavesOnly a b la lb (IsOpening (identity_of e) a la) → lb a.moment b.holds b.sent → b.sent ≡ a.sent → b.put ≤ a.put + opening_most (identity_of e) a.holds → LivedAnswering result e t i a b lb
  unfolding AreAnswered EachInTurn
  not_opened b lb result P error first now same most =
      let stops = at_call e t a starts [] la only silent b lb (opening_cut e t a starts [] la only b lb first) in
      record {
        exchanges = [];
        answered = tt;
        read = tt;
        stops = stops;
        ends = record {
          ended = stops b.holds b.sent now;
          written = inl (same, most);
          done = none_ok result P _ error;
          stopped = on_err result _ (inl same);
          halted = λ failed. inr (inl same);
        };
      }

  -- it answered tables, and lines were typed then
  pub opened : (u : TableRows) (b d : State) (lb ld : ℕ → List ℕ → List ℕ → Type 0) (result : Result Unit LiveError) → Opens e a.holds u → LeavesOnly a b la lb (IsOpening (identity_of e) a la) → b.sent ≡ a.sent → b.put ≤ a.put + opening_most (identity_of e) a.holds → a.line_faults ≤ b.line_faults → IsTrue b.told → ld a.moment d.holds d.sent → LivedFrom e u i b d lb ld result
      → LivedAnswering result e t i a d ld
  opened u b d lb ld result from first same most lines told now lived =
      let h : LivedFrom e t i b d lb ld result = subst (λ (v : TableRows). LivedFrom e v i b d lb ld result) ((answers_exclude_each_other e.application.generation e.fingerprint a.holds).started_once u t from starts) lived in
      let stops = at_call e t a starts h.exchanges la only silent d ld
      (leaves_then a b la lb d ld (IsCutLived e t h.exchanges a) (opening_cut e t a starts h.exchanges la only b lb first)
      (leaves_weaker b d lb ld (IsCutOf tables_after (StandsForTables (identity_of e)) t (acts_lived e t h.exchanges) b.sent) (IsCutLived e t h.exchanges a) h.stops
      (λ c out cut. inl (subst (λ (s : List ℕ). IsCutSince (StandsForTables (identity_of e)) t (acts_lived e t h.exchanges) s c out) same (cut_since (StandsForTables (identity_of e)) t (acts_lived e t h.exchanges) b.sent c out cut))))) in
      record {
        exchanges = h.exchanges;
        answered = h.answered;
        read = read_before e.fingerprint (begun e t) i a b d told first.later same ld [] h.exchanges h.read;
        stops = stops;
        ends = record {
          ended = stops d.holds d.sent now;
          written = inr (begun_after (opening_most (identity_of e) a.holds) (commits_most (identity_of e)) (acts_lived e t h.exchanges) a b d same most tables_after (StandsForTables (identity_of e)) t d.holds h.ends.written);
          done = on_ok_weaker result (λ out. out_before h.exchanges out) h.ends.done;
          stopped = on_err_weaker result (λ early. inr (early_before (StandsForTables (identity_of e)) (begun e t) h.exchanges a b d same lines d.holds early)) h.ends.stopped;
          halted = λ failed. halts_before e t h.exchanges a b d same lines (h.ends.halted failed);
        };
      }
    where
      out_before : (exchanges : List Exchange) → LivedOut (StandsForTables (identity_of e)) t (acts_lived e t exchanges) i exchanges b d ld → LivedOut (StandsForTables (identity_of e)) t (acts_lived e t exchanges) i exchanges a d ld
      out_before exchanges out = record {
        at_end = out.at_end;
        sent = out.sent ∙ ap (λ (s : List ℕ). s ++ bytes_of (acts_lived e t exchanges)) same;
        holds = out.holds;
        at_rest = out.at_rest;
      }
