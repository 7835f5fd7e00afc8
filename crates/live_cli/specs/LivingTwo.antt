-- What becomes of typed lines over two copies of a KDCFILE.
use Rattle.std.specs.Prelude.{◌≡◌, ◌⊎◌, ◌≤◌, ◌+◌, ◌++◌, ◌∷◌, ℕ, IsTrue, List, [], length, Option, Some, None, Result, OnOk, IfOk}
use Rattle.kd_base.specs.Limits.{longest_text}
use Rattle.kd_device.specs.Device.{State}
use Rattle.kd_device.specs.Twin.{Both, half_leaves}
use Rattle.kd_device.specs.declared.half.Half.{Half}
use Rattle.kd_records.specs.Identity.{Identity}
use Rattle.kdcs_types.specs.declared.act.Act.{Act}
use Rattle.kdcs_types.specs.Tables.{TableRows}
use Rattle.abstract_monitor.specs.Trace.{bytes_of, tables_after}
use Rattle.kdcfile_double.specs.Mended.{BothRest}
use Rattle.kdcfile_double.specs.Twice.{IsInUse, RoseAt, Twice}
use Rattle.monitor_core.specs.CoreSteps.{durable_of}
use Rattle.monitor_core.specs.CoreValue.{CoreValue}
use Rattle.twin_run.specs.Parts.{DidTwice, IsCutOfTables, PartTwice}
use Rattle.twin_run.specs.Running.{CountsAs, IsCopyOfTables, RanTwice, WithinTwice, lines_for, lost_line, mended_line}
use Rattle.call_ends.specs.Stops.{IsStopOfRun, RanTwo}
use Rattle.call_parts.specs.Asking.{Errand}
use Rattle.call_parts.specs.LeavingTwo.{WasBehind}
use Rattle.call_parts.specs.Opening.{identity_of_two}
use Rattle.live_run.specs.Sessions.{Exchange, session_acts, session_by, session_from}
use Rattle.live_run.specs.Talking.{EachInTurn, acts_of_session}
use Rattle.live_run.specs.Typing.{IsTyped, TypingState}
use Rattle.live_run.specs.declared.error.LiveError.{LiveError}
use Rattle.live_cli.specs.Living.{Lived, acts_lived, begun}

-- ---- lines that were read

-- the acts of a line that was read after these, and of those behind it
abbrev pub acts_since : CoreValue → (before : List Exchange) → Exchange → (behind : List Exchange) → List Act
acts_since c before x behind = session_acts c.application (session_by c.application (session_from c.state) before) (x ∷ behind)

-- the durable tables after all acts of these
abbrev pub tables_then : CoreValue → List Exchange → TableRows
tables_then c before = tables_after (durable_of c) (acts_of_session c before)

-- a cut of these acts, with the line of a half that may be lost behind them
pub record IsCutSinceRead (keeps : TableRows → Type 0) (MayLose : Half → Type 0) (t : TableRows) (acts : List Act) (sent out : List ℕ) : Type 0 where
  pub lost : Option Half
  pub lost_may : (half : Half) → lost ≡ Some half → MayLose half
  pub cut : IsCutOfTables keeps t (acts ++ lines_for lost_line lost) sent out

-- a line was read in its turn: when it was read, the line of a half that was mended was sent, and all that the lines before it
-- send; and a stop since then leaves all that they make, with some first acts of this line and of those behind it, in the copy
-- that counts, and in each half by itself that is spared
pub record ReadInTurnTwo (Spared MayLose : Half → Type 0) (i : Identity) (c : CoreValue) (y : TypingState) (mended : Option Half) (a b : Both) (lb : ℕ → List ℕ → List ℕ → List ℕ → Type 0) (before : List Exchange) (x : Exchange) (behind : List Exchange) : Type 0 where
  pub since : a.moment ≤ x.seen.moment
  pub until : x.seen.moment ≤ b.moment
  pub typed : IsTrue y.told → IsTyped y longest_text (y.typed + length before) x.seen x.line
  pub sent : x.seen.sent ≡ a.sent ++ bytes_of (lines_for mended_line mended ++ acts_of_session c before)
  pub pair : (first second out : List ℕ) → lb x.seen.moment first second out → IsCutSinceRead (λ u. CountsAs i u first second) MayLose (tables_then c before) (acts_since c before x behind) x.seen.sent out
  pub alone : (half : Half) → Spared half → (bytes out : List ℕ) → half_leaves half lb x.seen.moment bytes out → IsCutSinceRead (λ u. IsCopyOfTables i u bytes) MayLose (tables_then c before) (acts_since c before x behind) x.seen.sent out

-- and so was each
abbrev pub AreReadTwo : (Spared MayLose : Half → Type 0) → Identity → CoreValue → TypingState → (mended : Option Half) → (a b : Both) → (lb : ℕ → List ℕ → List ℕ → List ℕ → Type 0) → List Exchange → Type 0
AreReadTwo Spared MayLose i c y mended a b lb exchanges = EachInTurn (ReadInTurnTwo Spared MayLose i c y mended a b lb) [] exchanges

-- the input is at its end, where all that these lines send was seen to be sent
pub record IsAtEnd (c : CoreValue) (y : TypingState) (mended : Option Half) (a : Both) (exchanges : List Exchange) : Type 0 where
  pub seen : State
  pub sent : seen.sent ≡ a.sent ++ bytes_of (lines_for mended_line mended ++ acts_of_session c exchanges)
  pub none : IsTrue y.told → y.types (y.typed + length exchanges) seen ≡ None

-- ---- copies that are in use

-- the half was in use, and no call on it failed since
abbrev pub IsSparedSince : Twice → Both → Both → Half → Type 0
IsSparedSince s a b half = IsInUse half s × (RoseAt half a b → ⊥)

-- it is lost, or a call on it failed since
abbrev pub MayLoseSince : Twice → Both → Both → Half → Type 0
MayLoseSince s a b half = (s.lost ≡ Some half) ⊎ RoseAt half a b

-- what became of lines that are typed over them, between the lines of the copies
abbrev pub LivedPart : Identity → Twice → CoreValue → TypingState → (a b : Both) → (la lb : ℕ → List ℕ → List ℕ → List ℕ → Type 0) → Result (Option Half) LiveError → Type 0
LivedPart i s c y a b la lb result =
    Lived c (AreReadTwo (IsSparedSince s a b) (λ half. ⊥) i c y None a b lb)
    (λ exchanges. PartTwice i s (durable_of c) (acts_of_session c exchanges) a b la lb)
    (λ exchanges. IfOk result (λ lost. IsAtEnd c y None a exchanges × DidTwice i s (durable_of c) (acts_of_session c exchanges) lost a b lb))

-- and with them
abbrev pub LivedTwice : Identity → Twice → CoreValue → TypingState → (a b : Both) → (la lb : ℕ → List ℕ → List ℕ → List ℕ → Type 0) → Result Unit LiveError → Type 0
LivedTwice i s c y a b la lb result =
    Lived c (AreReadTwo (IsSparedSince s a b) (MayLoseSince s a b) i c y s.mended a b lb)
    (λ exchanges. WithinTwice i s (durable_of c) (acts_of_session c exchanges) a b la lb)
    (λ exchanges. OnOk result (IsAtEnd c y s.mended a exchanges × RanTwice i s (durable_of c) (acts_of_session c exchanges) a b lb))

-- ---- the whole

-- with the opening of both files, and the half that was mended there: the lines that were read at this monitor, each answered
-- and each in its turn; at a stop since the call, where the files were at rest, what was sent and the copy that counts are a
-- cut of their acts, and where a byte was sent, so is each half by itself on which no call failed; and where all went well,
-- the input is at its end, and all was done
pub record LivedWholeTwo (IsDone : Type 0 → Type 0) (e : Errand) (t : TableRows) (y : TypingState) (a b : Both) (la lb : ℕ → List ℕ → List ℕ → List ℕ → Type 0) : Type 0 where
  pub mended : Option Half
  pub mended_was : (half : Half) → mended ≡ Some half → WasBehind half a
  pub lived : Lived (begun e t) (AreReadTwo (λ half. RoseAt half a b → ⊥) (λ half. RoseAt half a b) (identity_of_two e) (begun e t) y mended a b lb)
      (λ exchanges. BothRest a la → (first second out : List ℕ) → lb a.moment first second out → IsStopOfRun (identity_of_two e) t (acts_lived e t exchanges) a b first second out)
      (λ exchanges. IsDone (IsAtEnd (begun e t) y mended a exchanges × RanTwo (identity_of_two e) t (acts_lived e t exchanges) a b lb))
  -- as the call left them, what was sent and the two files are such a cut, whatever the status
  pub ended : BothRest a la → IsStopOfRun (identity_of_two e) t (acts_lived e t lived.exchanges) a b b.first.holds b.second.holds b.sent
