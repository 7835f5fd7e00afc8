-- What becomes of typed lines over one KDCFILE.
use Rattle.std.specs.Prelude.{◌≡◌, ◌⊎◌, ◌≤◌, ◌++◌, ◌+◌, ℕ, IsTrue, List, [], length, None, Result, OnErr, OnOk, IsErrOf}
use Rattle.kd_device.specs.Device.{State, LeavesOnly, Only, Rose}
use Rattle.kd_records.specs.Identity.{Identity}
use Rattle.kdcfile_layout.specs.Layout.{StandsFor}
use Rattle.kdcs_types.specs.declared.act.Act.{Act}
use Rattle.kdcs_types.specs.Tables.{TableRows}
use Rattle.abstract_monitor.specs.Commands.{started}
use Rattle.abstract_monitor.specs.State.{Application}
use Rattle.abstract_monitor.specs.Trace.{bytes_of, tables_after}
use Rattle.device_acts.specs.Acting.{HaltsAt, IsCutOf, WritesBegun}
use Rattle.device_acts.specs.Opening.{opening_most}
use Rattle.device_acts.specs.Stands.{StandsForTables}
use Rattle.device_run.specs.Running.{IsCutSince, commits_most, identity_of}
use Rattle.monitor_core.specs.CoreSteps.{durable_of}
use Rattle.monitor_core.specs.CoreValue.{CoreValue}
use Rattle.call_parts.specs.Asking.{Errand, app_of}
use Rattle.call_parts.specs.Leaving.{LeavesUnmade}
use Rattle.call_parts.specs.Opening.{identity_of as own_identity}
use Rattle.live_run.specs.Sessions.{AreAnswered, Exchange, session_from}
use Rattle.live_run.specs.Talking.{AreReadInTurn, EndedEarly, acts_of_session}
use Rattle.live_run.specs.Typing.{TypingState}
use Rattle.live_run.specs.declared.error.LiveError.{LiveError}
use Rattle.live_run.specs.declared.error.LiveError.TheVariants.{Failed}

-- a monitor that begins with these tables
abbrev pub begun_with : Application → TableRows → CoreValue
begun_with app t = record { application = app; state = started app t; steps = 0 }

-- the monitor of an errand, whatever its word
abbrev pub begun : Errand → TableRows → CoreValue
begun e t = begun_with (app_of e) t

-- the acts of lines that are typed at it
abbrev pub acts_lived : Errand → TableRows → List Exchange → List Act
acts_lived e t exchanges = acts_of_session (begun e t) exchanges

-- the input is at its end, and all acts were done: their lines were sent, the file stands for the tables after them, and a stop leaves just it
pub record LivedOut (stands : TableRows → List ℕ → Type 0) (t : TableRows) (acts : List Act) (i : TypingState) (exchanges : List Exchange) (a b : State) (lb : ℕ → List ℕ → List ℕ → Type 0) : Type 0 where
  pub at_end : IsTrue i.told → i.types (i.typed + length exchanges) b ≡ None
  pub sent : b.sent ≡ a.sent ++ bytes_of acts
  pub holds : stands (tables_after t acts) b.holds
  pub at_rest : Only b.holds b lb

-- whatever became of them: the lines that were read at this monitor, each answered, and each read in its turn; of their acts, this became at a stop, and where all went well, this at the end
pub record Lived (c : CoreValue) (Reads Stops Ends : List Exchange → Type 0) : Type 0 where
  pub exchanges : List Exchange
  pub answered : AreAnswered c.application (session_from c.state) exchanges
  pub read : Reads exchanges
  pub stops : Stops exchanges
  pub ends : Ends exchanges

-- what there is at its end over a store with these tables, as the session left it
--   written: the bytes written are at most those of the commits that the file has, and of one that was begun
--   done: where all went well, all was done
--   stopped: where an error ended it early, all acts of the lines before the last one were done
--   halted: where a call failed, it was one of the line, or just the lines before a commit or before that of a RESTART were sent
pub record EndsOver (i : Identity) (c : CoreValue) (t : TableRows) (y : TypingState) (exchanges : List Exchange) (a b : State) (lb : ℕ → List ℕ → List ℕ → Type 0) (result : Result Unit LiveError) : Type 0 where
  pub written : WritesBegun tables_after (StandsForTables i) t (commits_most i) (acts_of_session c exchanges) a b b.holds
  pub done : OnOk result (LivedOut (StandsForTables i) t (acts_of_session c exchanges) y exchanges a b lb)
  pub stopped : OnErr result (EndedEarly (StandsForTables i) c exchanges a b b.holds)
  pub halted : IsErrOf result Failed → Rose a.line_faults b.line_faults ⊎ HaltsAt (acts_of_session c exchanges) a b

-- over a store that keeps the durable tables of a monitor: at each moment what was sent and what a stop leaves are a cut of the acts
abbrev pub LivedOver : (fingerprint : List ℕ) → CoreValue → TypingState → (a b : State) → (la lb : ℕ → List ℕ → List ℕ → Type 0) → Result Unit LiveError → Type 0
LivedOver fingerprint c i a b la lb result =
    Lived c (AreReadInTurn StandsFor fingerprint c i a b lb [])
    (λ exchanges. LeavesOnly a b la lb (IsCutOf tables_after (StandsForTables (identity_of fingerprint c)) (durable_of c) (acts_of_session c exchanges) a.sent))
    (λ exchanges. EndsOver (identity_of fingerprint c) c (durable_of c) i exchanges a b lb result)

-- the same from tables with which the file of an errand was opened
abbrev pub LivedFrom : Errand → TableRows → TypingState → (a b : State) → (la lb : ℕ → List ℕ → List ℕ → Type 0) → Result Unit LiveError → Type 0
LivedFrom e t i a b la lb result =
    Lived (begun e t) (AreReadInTurn StandsFor e.fingerprint (begun e t) i a b lb [])
    (λ exchanges. LeavesOnly a b la lb (IsCutOf tables_after (StandsForTables (own_identity e)) t (acts_lived e t exchanges) a.sent))
    (λ exchanges. EndsOver (own_identity e) (begun e t) t i exchanges a b lb result)

-- what was sent and what a stop leaves are a cut of these acts over the store, from these tables; or the file was empty and is unmade
abbrev pub IsCutLived : Errand → TableRows → List Exchange → State → List ℕ → List ℕ → Type 0
IsCutLived e t exchanges a image out = IsCutSince (StandsForTables (own_identity e)) t (acts_lived e t exchanges) a.sent image out ⊎ LeavesUnmade a image out

-- the bytes written are at most those of the making of an empty file, and nothing was sent; or besides those of the commits that the file has, and of one that was begun
abbrev pub WritesLive : Errand → TableRows → List Exchange → (a b : State) → Type 0
WritesLive e t exchanges a b =
    ((b.sent ≡ a.sent) × (b.put ≤ a.put + opening_most (own_identity e) a.holds))
    ⊎ WritesBegun tables_after (StandsForTables (own_identity e)) t (λ (first : List Act). opening_most (own_identity e) a.holds + commits_most (own_identity e) first) (acts_lived e t exchanges) a b b.holds

-- nothing was sent; or an error ended the session early
abbrev pub StopsLive : Errand → TableRows → List Exchange → (a b : State) → Type 0
StopsLive e t exchanges a b = (b.sent ≡ a.sent) ⊎ EndedEarly (StandsForTables (own_identity e)) (begun e t) exchanges a b b.holds

-- a call of the line failed; or nothing was sent, or just the lines before a commit or before that of a RESTART
abbrev pub HaltsLive : Errand → TableRows → List Exchange → (a b : State) → Type 0
HaltsLive e t exchanges a b = Rose a.line_faults b.line_faults ⊎ (b.sent ≡ a.sent) ⊎ HaltsAt (acts_lived e t exchanges) a b

-- what there is at its end with the opening of the file, as the call left it; of a status it is asked where it says that all is done, that it stopped, and that a call failed
--   ended: what was sent and what the file has are such a cut, whatever the status
--   written: the bytes written are none, or at most those of the making of an empty file and of the commits that the file has, and of one that was begun
--   stopped: nothing was sent; or all acts of the lines before the last one were done, and of its own some first ones. Of a RESTART nothing was sent, unless the line failed: its line comes after the file was opened again
--   halted: the line failed, or the disk before anything was sent, at a commit, or where a RESTART opens the file again
pub record EndsWhole (IsDone IsStopped IsHalted : Type 0 → Type 0) (e : Errand) (t : TableRows) (i : TypingState) (exchanges : List Exchange) (a b : State) (lb : ℕ → List ℕ → List ℕ → Type 0) : Type 0 where
  pub ended : IsCutLived e t exchanges a b.holds b.sent
  pub written : WritesLive e t exchanges a b
  pub done : IsDone (LivedOut (StandsForTables (own_identity e)) t (acts_lived e t exchanges) i exchanges a b lb)
  pub stopped : IsStopped (StopsLive e t exchanges a b)
  pub halted : IsHalted (HaltsLive e t exchanges a b)

-- the same with the opening, where a stop before the call leaves just the file
abbrev pub LivedWhole : (IsDone IsStopped IsHalted : Type 0 → Type 0) → Errand → TableRows → TypingState → (a b : State) → (lb : ℕ → List ℕ → List ℕ → Type 0) → Type 0
LivedWhole IsDone IsStopped IsHalted e t i a b lb =
    Lived (begun e t) (AreReadInTurn StandsFor e.fingerprint (begun e t) i a b lb [])
    (λ exchanges. (image out : List ℕ) → lb a.moment image out → IsCutLived e t exchanges a image out)
    (λ exchanges. EndsWhole IsDone IsStopped IsHalted e t i exchanges a b lb)

-- of what a session over a file answered
abbrev pub LivedAnswering : Result Unit LiveError → Errand → TableRows → TypingState → (a b : State) → (lb : ℕ → List ℕ → List ℕ → Type 0) → Type 0
LivedAnswering result e t i a b lb = LivedWhole (λ Done. OnOk result Done) (λ Stopped. OnErr result Stopped) (λ Halted. IsErrOf result Failed → Halted) e t i a b lb
