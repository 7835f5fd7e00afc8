-- What became of a session whose lines are performed as they are read, over what keeps the tables.
use Rattle.std.specs.Prelude.{◌≡◌, ◌≤◌, ℕ, ◌+◌, IsTrue, ⊤, List, [], ◌∷◌, ◌++◌, length, ◌⊎◌, None, Result, OnErr, OnOk, IsErrOf}
use Rattle.kd_base.specs.Limits.{longest_text}
use Rattle.kd_device.specs.Device.{Rose, State}
use Rattle.kd_records.specs.Identity.{Identity}
use Rattle.kd_records.specs.declared.content.Content.{Content}
use Rattle.kd_records.specs.declared.content.Patch.{Patch}
use Rattle.kdcs_types.specs.declared.act.Act.{Act}
use Rattle.kdcs_types.specs.Tables.{TableRows}
use Rattle.abstract_monitor.specs.Trace.{bytes_of, tables_after}
use Rattle.abstract_monitor.specs.declared.command.Command.TheVariants.{Restart}
use Rattle.monitor_core.specs.CoreSteps.{durable_of}
use Rattle.monitor_core.specs.CoreValue.{CoreValue}
use Rattle.device_acts.specs.Acting.{IsCutOf, IsKeptBy, LineOrDisk, WithinActs, WritesWithin}
use Rattle.device_run.specs.Running.{commits_most_with, identity_of}
use Rattle.device_run.specs.Keeping.{KeepsRows, StandsForRows}
use Rattle.live_run.specs.declared.error.LiveError.{LiveError}
use Rattle.live_run.specs.declared.error.LiveError.TheVariants.{Failed}
use Rattle.live_run.specs.Typing.{IsTyped, TypingState}
use Rattle.live_run.specs.Sessions.{AreAnswered, Exchange, acts_of_line, commands_of_line, session_acts, session_by, session_from}

-- all acts of these exchanges, from the state of a core
abbrev pub acts_of_session : CoreValue → List Exchange → List Act
acts_of_session c xs = session_acts c.application (session_from c.state) xs

-- a line was read in its turn: when it was read, all that the lines before it send was sent; and a stop since then leaves all that they make, with some first acts of this line and of those behind it
pub record ReadInTurn (stands : Identity → Content → List ℕ → Type 0) (fingerprint : List ℕ) (c : CoreValue) (i : TypingState) (a b : State) (lb : ℕ → List ℕ → List ℕ → Type 0) (before : List Exchange) (x : Exchange) (behind : List Exchange) : Type 0 where
  pub since : a.moment ≤ x.seen.moment
  pub until : x.seen.moment ≤ b.moment
  pub typed : IsTrue i.told → IsTyped i longest_text (i.typed + length before) x.seen x.line
  pub sent : IsTrue a.told → x.seen.sent ≡ a.sent ++ bytes_of (acts_of_session c before)
  pub stored : IsTrue a.told → (image out : List ℕ) → lb x.seen.moment image out
      → IsCutOf tables_after (StandsForRows stands (identity_of fingerprint c)) (tables_after (durable_of c) (acts_of_session c before)) (session_acts c.application (session_by c.application (session_from c.state) before) (x ∷ behind)) x.seen.sent image out

-- this holds of each line, with those before it and those behind it
unfoldable pub EachInTurn : ((before : List Exchange) → Exchange → (behind : List Exchange) → Type 0) → (before behind : List Exchange) → Type 0
EachInTurn P before [] = ⊤
EachInTurn P before (x ∷ behind) = P before x behind × EachInTurn P (before ++ x ∷ []) behind

-- and so was each
abbrev pub AreReadInTurn : (stands : Identity → Content → List ℕ → Type 0) → (fingerprint : List ℕ) → CoreValue → TypingState → (a b : State) → (lb : ℕ → List ℕ → List ℕ → Type 0) → (before behind : List Exchange) → Type 0
AreReadInTurn stands fingerprint c i a b lb before behind = EachInTurn (ReadInTurn stands fingerprint c i a b lb) before behind

-- the input is at its end, and all acts of all its lines were done: they were sent, files that were made with j keep the durable tables after them, and a stop leaves no image but theirs
pub record TalkedOut (fingerprint : List ℕ) (c : CoreValue) (i : TypingState) (j : Identity) (y : Content) (file : List ℕ → Type 0) (exchanges : List Exchange) (a b : State) (lb : ℕ → List ℕ → List ℕ → Type 0) : Type 0 where
  pub at_end : IsTrue i.told → i.types (i.typed + length exchanges) b ≡ None
  pub sent : IsTrue a.told → b.sent ≡ a.sent ++ bytes_of (acts_of_session c exchanges)
  pub keeps : IsTrue a.told → KeepsRows (identity_of fingerprint c) j y (tables_after (durable_of c) (acts_of_session c exchanges))
  pub at_rest : IsTrue a.told → IsKeptBy file b lb

-- a session that ended before its input, between two lines: all acts of the lines that were read were done, and the image stands for the tables after them
pub record EndedBetween (stands : TableRows → List ℕ → Type 0) (c : CoreValue) (exchanges : List Exchange) (a b : State) (image : List ℕ) : Type 0 where
  pub sent : b.sent ≡ a.sent ++ bytes_of (acts_of_session c exchanges)
  pub file : stands (tables_after (durable_of c) (acts_of_session c exchanges)) image

-- or within the last line that was read: all acts of those before it were done, and of its own some first ones; a RESTART sent nothing, unless a call of the line failed
pub record EndedWithin (stands : TableRows → List ℕ → Type 0) (c : CoreValue) (exchanges : List Exchange) (a b : State) (image : List ℕ) : Type 0 where
  pub before : List Exchange
  pub last : Exchange
  pub split : exchanges ≡ before ++ last ∷ []
  pub part : IsCutOf tables_after stands (tables_after (durable_of c) (acts_of_session c before)) (acts_of_line c.application (session_by c.application (session_from c.state) before) last.line last.answer) (a.sent ++ bytes_of (acts_of_session c before)) image b.sent
  pub restart : commands_of_line c.application (session_by c.application (session_from c.state) before) last.line ≡ Restart ∷ [] → (b.sent ≡ a.sent ++ bytes_of (acts_of_session c before)) ⊎ Rose a.line_faults b.line_faults

-- so it is with this image
abbrev pub EndedEarly : (stands : TableRows → List ℕ → Type 0) → CoreValue → List Exchange → (a b : State) → (image : List ℕ) → Type 0
EndedEarly stands c exchanges a b image = EndedBetween stands c exchanges a b image ⊎ EndedWithin stands c exchanges a b image

-- and with each image that a stop now leaves
abbrev pub EndsEarly : (stands : TableRows → List ℕ → Type 0) → CoreValue → List Exchange → (a b : State) → (lb : ℕ → List ℕ → List ℕ → Type 0) → Type 0
EndsEarly stands c exchanges a b lb = IsTrue a.told → (image : List ℕ) → lb b.moment image b.sent → EndedEarly stands c exchanges a b image

-- whatever became of a session: the lines that were read, with their answers, each in its turn; at each moment, what was sent and what a stop leaves are a cut of their acts; the bytes written are at most those of the commits that the files have, and of one that was begun; an error left all acts of the lines before the last one done; where the keeper failed, the line did, or the acts halted at one that asks for the disk
pub record Talked (stands : Identity → Content → List ℕ → Type 0) (most : Identity → Patch → ℕ) (fingerprint : List ℕ) (c : CoreValue) (i : TypingState) (j : Identity) (y : Content) (file : List ℕ → Type 0) (a b : State) (la lb : ℕ → List ℕ → List ℕ → Type 0) (result : Result Unit LiveError) : Type 0 where
  pub exchanges : List Exchange
  pub answered : IsTrue a.told → AreAnswered c.application (session_from c.state) exchanges
  pub read : AreReadInTurn stands fingerprint c i a b lb [] exchanges
  pub within : WithinActs tables_after (StandsForRows stands (identity_of fingerprint c)) (durable_of c) (acts_of_session c exchanges) a b la lb
  pub written : WritesWithin tables_after (StandsForRows stands (identity_of fingerprint c)) (durable_of c) (commits_most_with most (identity_of fingerprint c)) (acts_of_session c exchanges) a b lb
  pub stopped : OnErr result (EndsEarly (StandsForRows stands (identity_of fingerprint c)) c exchanges a b lb)
  pub halted : IsErrOf result Failed → LineOrDisk (acts_of_session c exchanges) a b
  pub done : OnOk result (TalkedOut fingerprint c i j y file exchanges a b lb)
