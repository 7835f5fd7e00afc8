-- Typed lines over two copies, with the lines of the copies: a is the twin at the start, b after the line of the half that was
-- mended, e after what is typed, and f after the line of the half that is lost.
use Rattle.std.proofs.Common.{◌≡◌, ◌∙◌, ◌++◌, ◌∷◌, inl, inr, ⊎_elim, refl, ℕ, List, [], ap, subst, sym, append_assoc, arith}
use Rattle.std.specs.Prelude.{IsTrue, None, Option, Result, Ok, IsErrAnd, OnOk, IfOk}
use Rattle.std.proofs.lemmas.Result.{on_ok_weaker}
use Rattle.kd_device.specs.Twin.{Both}
use Rattle.kd_device.specs.declared.half.Half.{Half}
use Rattle.kd_records.specs.Identity.{Identity}
use Rattle.kdcs_types.specs.declared.act.Act.{Act}
use Rattle.kdcs_types.specs.Tables.{TableRows}
use Rattle.abstract_monitor.specs.Trace.{bytes_of, tables_after}
use Rattle.laws_of_runs.specs.ListsLaws.{tables_both}
use Rattle.kdcfile_copies.specs.Beside.{file_of}
use Rattle.kdcfile_double.specs.Twice.{IsInUse, Twice}
use Rattle.device_acts.specs.ActingLaws.{bytes_joined}
use Rattle.device_run.specs.Running.{SendsPart}
use Rattle.monitor_core.specs.CoreSteps.{durable_of}
use Rattle.monitor_core.specs.CoreValue.{CoreValue}
use Rattle.twin_run.specs.Parts.{DidTwice, SaysTwice}
use Rattle.twin_run.specs.Running.{CountsAs, FrameTwice, IsCopyOfTables, MayBeLost, lines_for, lost_line, mended_line}
use Rattle.twin_run.proofs.Ending.{Begins, acts_sent, in_use_still, last_frame, lines_alone, may_be_lost, ran_twice, rests, told_b, told_e, within_first, within_second, within_third}
use Rattle.twin_run.proofs.Parting.{beside, cut_of_back, cut_of_lines, frame_of_lines, half_of_pairs, rose_before, rose_behind}
use Rattle.twin_run.proofs.Resting.{RestsTwice}
use Rattle.live_run.specs.Sessions.{AreAnswered, Exchange, session_from}
use Rattle.live_run.specs.Talking.{EachInTurn, acts_of_session}
use Rattle.live_run.specs.TalkingLaws.{each_more}
use Rattle.live_run.specs.Typing.{TypingState}
use Rattle.live_run.specs.declared.error.LiveError.{LiveError}
use Rattle.live_run.proofs.SessionLaws.{acts_both}
use Rattle.live_cli.specs.LivingTwo.{IsAtEnd, IsCutSinceRead, IsSparedSince, LivedPart, LivedTwice, MayLoseSince, ReadInTurnTwo, acts_since, tables_then}
use Rattle.live_cli.proofs.Begun.{none_ok}

-- the same cut, where more halves may be lost
pub may_lose_more : (keeps : TableRows → Type 0) (M N : Half → Type 0) → ((half : Half) → M half → N half) → (t : TableRows) (acts : List Act) (sent out : List ℕ) → IsCutSinceRead keeps M t acts sent out → IsCutSinceRead keeps N t acts sent out
may_lose_more keeps M N more t acts sent out h = record { lost = h.lost; lost_may = λ half is. more half (h.lost_may half is); cut = h.cut }

-- ---- the acts of the lines before a line, and of those from it on

module _ (c : CoreValue) (before : List Exchange) (x : Exchange) (behind all : List Exchange) (is : before ++ x ∷ behind ≡ all) where
  acts_split : acts_of_session c all ≡ acts_of_session c before ++ acts_since c before x behind
  acts_split = ap (acts_of_session c) (sym is) ∙ acts_both c.application (session_from c.state) before (x ∷ behind)

  tables_split : tables_after (durable_of c) (acts_of_session c all) ≡ tables_after (tables_then c before) (acts_since c before x behind)
  tables_split = ap (λ (l : List Act). tables_after (durable_of c) l) acts_split ∙ tables_both (durable_of c) (acts_of_session c before) (acts_since c before x behind)

  sent_split : (first : List Act) (start seen end : List ℕ) → seen ≡ start ++ bytes_of (first ++ acts_of_session c before) → end ≡ start ++ bytes_of (first ++ acts_of_session c all) → end ≡ seen ++ bytes_of (acts_since c before x behind)
  sent_split first start seen end at_read at_end =
      at_end
      ∙ ap (λ (l : List Act). start ++ bytes_of (first ++ l)) acts_split
      ∙ ap (λ (l : List Act). start ++ bytes_of l) (sym (append_assoc first (acts_of_session c before) (acts_since c before x behind)))
      ∙ ap (λ (l : List ℕ). start ++ l) (bytes_joined (first ++ acts_of_session c before) (acts_since c before x behind))
      ∙ sym (append_assoc start (bytes_of (first ++ acts_of_session c before)) (bytes_of (acts_since c before x behind)))
      ∙ ap (λ (l : List ℕ). l ++ bytes_of (acts_since c before x behind)) (sym at_read)

module _ (i : Identity) (s : Twice) (c : CoreValue) (j : TypingState) (a b : Both) (la lb : ℕ → List ℕ → List ℕ → List ℕ → Type 0) (begins : Begins i s (durable_of c) a la) (half : Option Half) (half_is : half ≡ s.mended) (said : SaysTwice (lines_for mended_line half) a b la lb) (told : IsTrue a.told) where
  -- ---- it ended within the first line

  pub lived_first : (result : Result Unit LiveError) (P : LiveError → Type 0) → IsErrAnd result P → LivedTwice i s c j a b la lb result
  unfolding AreAnswered EachInTurn
  lived_first result P error = record {
    exchanges = [];
    answered = tt;
    read = tt;
    stops = within_first i s (durable_of c) (acts_of_session c []) a b la lb begins half half_is said;
    ends = none_ok result P _ error;
  }

  -- ---- or among the lines that are typed

  module _ (line_sent : IsTrue a.told → b.sent ≡ a.sent ++ bytes_of (lines_for mended_line half)) (e : Both) (le : ℕ → List ℕ → List ℕ → List ℕ → Type 0) (frame : FrameTwice b e) (typed : Result (Option Half) LiveError) (second : LivedPart i s c j b e lb le typed) where
    abbrev acts : List Act
    acts = acts_of_session c second.exchanges

    first_frame : FrameTwice a b
    first_frame = frame_of_lines (lines_for mended_line half) a b la lb said

    line_then : (more : List Act) → b.sent ++ bytes_of more ≡ a.sent ++ bytes_of (lines_for mended_line s.mended ++ more)
    line_then more =
        ap (λ (l : List ℕ). l ++ bytes_of more) (subst (λ (o : Option Half). b.sent ≡ a.sent ++ bytes_of (lines_for mended_line o)) half_is (line_sent told))
        ∙ append_assoc a.sent (bytes_of (lines_for mended_line s.mended)) (bytes_of more)
        ∙ ap (λ (l : List ℕ). a.sent ++ l) (sym (bytes_joined (lines_for mended_line s.mended) more))

    turn_second : (before : List Exchange) (x : Exchange) (behind : List Exchange) → ReadInTurnTwo (IsSparedSince s b e) (λ side. ⊥) i c j None b e le before x behind → ReadInTurnTwo (IsSparedSince s a e) (MayLoseSince s a e) i c j s.mended a e le before x behind
    turn_second before x behind r = record {
      since = omega (arith, first_frame.moment, r.since);
      until = r.until;
      typed = r.typed;
      sent = r.sent ∙ line_then (acts_of_session c before);
      pair = λ first other out left.
          may_lose_more (λ u. CountsAs i u first other) (λ side. ⊥) (MayLoseSince s a e) (λ side no. absurd no) (tables_then c before) (acts_since c before x behind) x.seen.sent out (r.pair first other out left);
      alone = λ side fine bytes out left.
          may_lose_more (λ u. IsCopyOfTables i u bytes) (λ side. ⊥) (MayLoseSince s a e) (λ side no. absurd no) (tables_then c before) (acts_since c before x behind) x.seen.sent out
          (r.alone side (fine.0, λ rose. fine.1 (rose_before side a b e first_frame rose)) bytes out left);
    }

    read_second : EachInTurn (ReadInTurnTwo (IsSparedSince s a e) (MayLoseSince s a e) i c j s.mended a e le) [] second.exchanges
    read_second = each_more _ _ second.exchanges (λ before x behind all r. turn_second before x behind r) [] second.exchanges refl second.read

    pub lived_second : (result : Result Unit LiveError) (P : LiveError → Type 0) → IsErrAnd result P → LivedTwice i s c j a e la le result
    lived_second result P error = record {
      exchanges = second.exchanges;
      answered = second.answered;
      read = read_second;
      stops = within_second i s (durable_of c) acts a b la lb begins half half_is said line_sent e le second.stops;
      ends = none_ok result P _ error;
    }

    -- ---- or with the last line

    module _ (lost : Option Half) (typed_is : typed ≡ Ok lost) (f : Both) (lf : ℕ → List ℕ → List ℕ → List ℕ → Type 0) (last : SaysTwice (lines_for lost_line lost) e f le lf) where
      out : IsAtEnd c j None b second.exchanges × DidTwice i s (durable_of c) acts lost b e le
      out = subst (λ (r : Result (Option Half) LiveError). IfOk r (λ o. IsAtEnd c j None b second.exchanges × DidTwice i s (durable_of c) acts o b e le)) typed_is second.ends

      did : IsTrue b.told → DidTwice i s (durable_of c) acts lost b e le
      did now = out.1

      at_rest : RestsTwice i (did (told_b i s (durable_of c) acts a b la lb begins half half_is said line_sent e le second.stops lost did f lf last told)).now (tables_after (durable_of c) acts) e le
      at_rest = rests i s (durable_of c) acts a b la lb begins half half_is said line_sent e le second.stops lost did f lf last told

      told_there : IsTrue e.told
      told_there = told_e i s (durable_of c) acts a b la lb begins half half_is said line_sent e le second.stops lost did f lf last told

      end_frame : FrameTwice e f
      end_frame = last_frame i s (durable_of c) acts a b la lb begins half half_is said line_sent e le second.stops lost did f lf last

      all_sent : e.sent ≡ a.sent ++ bytes_of (lines_for mended_line s.mended ++ acts)
      all_sent = acts_sent i s (durable_of c) acts a b la lb begins half half_is said line_sent e le second.stops lost did f lf last told

      may : MayBeLost s a f lost
      may = may_be_lost i s (durable_of c) acts a b la lb begins half half_is said line_sent e le second.stops lost did f lf last told

      may_later : (side : Half) → MayLoseSince s a e side → MayLoseSince s a f side
      may_later side h = ⊎_elim (λ is. inl is) (λ rose. inr (rose_behind side a e f end_frame rose)) h

      turn_third : (before : List Exchange) (x : Exchange) (behind : List Exchange) → before ++ x ∷ behind ≡ second.exchanges → ReadInTurnTwo (IsSparedSince s a e) (MayLoseSince s a e) i c j s.mended a e le before x behind → ReadInTurnTwo (IsSparedSince s a f) (MayLoseSince s a f) i c j s.mended a f lf before x behind
      turn_third before x behind all r = record {
        since = r.since;
        until = omega (arith, r.until, end_frame.moment);
        typed = r.typed;
        sent = r.sent;
        pair = λ first other out left.
            ⊎_elim (λ past. later (λ u. CountsAs i u first other) out (r.pair first other out past)) (λ new. joined (λ u. CountsAs i u first other) out (at_rest.counts first other new.0) new.1)
            ((last.any_moment told_there).only x.seen.moment first other out r.until left);
        alone = λ side fine bytes out left.
            ⊎_elim (λ past. later (λ u. IsCopyOfTables i u bytes) out (r.alone side (fine.0, λ rose. fine.1 (rose_behind side a e f end_frame rose)) bytes out past)) (λ new. joined (λ u. IsCopyOfTables i u bytes) out (new.0 fine) new.1)
            ((half_of_pairs side e f le lf (λ first other out. le e.moment first other e.sent × SendsPart (lines_for lost_line lost) e.sent out) (λ bytes out. (IsSparedSince s a f side → IsCopyOfTables i (tables_after (durable_of c) acts) bytes) × SendsPart (lines_for lost_line lost) e.sent out) (last.any_moment told_there)
            (λ first other out new. (λ fine. (at_rest.alone side (used side fine) (file_of side first other) (beside side le e.moment first other e.sent new.0)).0, new.1))).only x.seen.moment bytes out r.until left);
      }
        where
          used : (side : Half) → IsSparedSince s a f side → IsInUse side (did (told_b i s (durable_of c) acts a b la lb begins half half_is said line_sent e le second.stops lost did f lf last told)).now
          used side fine = in_use_still i s (durable_of c) acts a b la lb begins half half_is said line_sent e le second.stops lost did f lf last told side fine.0 (λ rose. fine.1 (rose_behind side a e f end_frame rose))

          later : (keeps : TableRows → Type 0) (out : List ℕ) → IsCutSinceRead keeps (MayLoseSince s a e) (tables_then c before) (acts_since c before x behind) x.seen.sent out → IsCutSinceRead keeps (MayLoseSince s a f) (tables_then c before) (acts_since c before x behind) x.seen.sent out
          later keeps out h = may_lose_more keeps (MayLoseSince s a e) (MayLoseSince s a f) may_later (tables_then c before) (acts_since c before x behind) x.seen.sent out h

          joined : (keeps : TableRows → Type 0) (out : List ℕ) → keeps (tables_after (durable_of c) acts) → SendsPart (lines_for lost_line lost) e.sent out → IsCutSinceRead keeps (MayLoseSince s a f) (tables_then c before) (acts_since c before x behind) x.seen.sent out
          joined keeps out kept sends = record {
            lost = lost;
            lost_may = may;
            cut = cut_of_back keeps (tables_then c before) (acts_since c before x behind) (lines_for lost_line lost) (tables_after (durable_of c) acts) x.seen.sent e.sent out (tables_split c before x behind second.exchanges all)
                (sent_split c before x behind second.exchanges all (lines_for mended_line s.mended) a.sent x.seen.sent e.sent r.sent all_sent)
                (cut_of_lines keeps (tables_after (durable_of c) acts) (lines_for lost_line lost) (lines_alone lost_line lost) kept e.sent out sends);
          }

      pub lived_third : (result : Result Unit LiveError) → (IsTrue f.told → lf f.moment f.first.holds f.second.holds f.sent) → OnOk result (IsTrue e.told → f.sent ≡ e.sent ++ bytes_of (lines_for lost_line lost)) → LivedTwice i s c j a f la lf result
      lived_third result now more = record {
        exchanges = second.exchanges;
        answered = second.answered;
        read = each_more _ _ second.exchanges turn_third [] second.exchanges refl read_second;
        stops = within_third i s (durable_of c) acts a b la lb begins half half_is said line_sent e le second.stops lost did f lf last;
        ends = on_ok_weaker result (λ sent. (record { seen = out.0.seen; sent = out.0.sent ∙ line_then acts; none = out.0.none }, ran_twice i s (durable_of c) acts a b la lb begins half half_is said line_sent e le second.stops lost did f lf last told now sent)) more;
      }
