-- What becomes of the files of a BASE that is carried.
use Rattle.std.specs.Prelude.{◌≡◌, ◌⊎◌, ℕ, true, false, List, [], ◌++◌, take}
use Rattle.kd_device.specs.Twin.{Both}
use Rattle.kdcs_types.specs.declared.act.Row.{Row}
use Rattle.application_types.specs.Generation.{Generated}
use Rattle.kdcfile_double.specs.Opening.{SameFiles}
use Rattle.kdcfile_double.specs.Twice.{NoneRose}
use Rattle.kd_update.specs.Carrying.{carried, dropped}
use Rattle.kdcfile_carry.specs.Doing.{AreEither, FailsAlone}
use Rattle.kdcfile_carry.specs.Files.{AreFiles, Files, HaveTwoMeanings}
use Rattle.kdcfile_carry.specs.Losing.{rows_gone}
use Rattle.kdcfile_carry.specs.Promise.{StandNow}
use Rattle.kdcfile_carry.specs.Ways.{AreRefusedAs, AreSpent, IsUpToDate, MayCarry, carried_files, files_after}
use Rattle.call_parts.specs.Asking.{Errand}
use Rattle.call_parts.specs.Missing.{IsMissing, NoneMissingUnless}
use Rattle.carry_cli.specs.Telling.{answer_text}
use Rattle.carry_cli.specs.declared.answer.Answer.{Answer}
use Rattle.carry_cli.specs.declared.answer.Answer.TheVariants as answer
use Rattle.carry_cli.specs.declared.answer.Hindrance.{Hindrance}
use Rattle.carry_cli.specs.declared.answer.Hindrance.TheVariants as hindrance
use Rattle.carry_cli.specs.declared.words.Options.{Options}

-- the generation that the texts make
abbrev pub generation_of : Errand → Generated
generation_of e = e.application.generation

-- no file is missing, unless a copy is taken alone
abbrev pub NoneIsMissing : Options → (p q : List ℕ) → Type 0
NoneIsMissing o p q = NoneMissingUnless o.alone p q

-- why two files are not carried: one is missing; or none is, and they are those of no application, or may not be carried
abbrev pub Hinders : Errand → Options → (p q : List ℕ) → Hindrance → Type 0
Hinders e o p q (hindrance.Missing half) = (o.alone ≡ false) × IsMissing half p q
Hinders e o p q hindrance.TwoMeanings = NoneIsMissing o p q × HaveTwoMeanings p q
Hinders e o p q (hindrance.Judged why) = NoneIsMissing o p q × AreRefusedAs (generation_of e) e.fingerprint p q why
Hinders e o p q hindrance.Spent = NoneIsMissing o p q × ((n : ℕ) × AreSpent (generation_of e) e.fingerprint p q n)

-- the rows that go when files are carried
abbrev pub rows_of_loss : Errand → Files → List Row
rows_of_loss e f = rows_gone f.tables (carried (generation_of e) f.tables)

-- no row goes that may not
abbrev pub LosesNone : Errand → Options → Files → Type 0
LosesNone e o f = o.may_drop ≡ false → rows_of_loss e f ≡ []

-- this becomes of two files that are those of an application, with these options
abbrev pub MayBecome : Errand → Options → Files → (p q : List ℕ) → Answer → Type 0
MayBecome e o f p q (answer.UpToDate lost) = (o.only_tries ≡ false) × IsUpToDate (generation_of e) e.fingerprint f
MayBecome e o f p q answer.WouldKeep = (o.only_tries ≡ true) × IsUpToDate (generation_of e) e.fingerprint f
MayBecome e o f p q (answer.Carried gone lost) =
    (o.only_tries ≡ false) × MayCarry (generation_of e) e.fingerprint f × (gone ≡ dropped f.tables (carried (generation_of e) f.tables)) × LosesNone e o f
MayBecome e o f p q (answer.WouldCarry gone rows) =
    (o.only_tries ≡ true) × MayCarry (generation_of e) e.fingerprint f × (gone ≡ dropped f.tables (carried (generation_of e) f.tables)) × (rows.items ≡ rows_of_loss e f) × LosesNone e o f
MayBecome e o f p q (answer.WouldDrop rows) = (o.may_drop ≡ false) × MayCarry (generation_of e) e.fingerprint f × (rows.items ≡ rows_of_loss e f) × (rows.items ≡ [] → ⊥)
MayBecome e o f p q (answer.Hindered why) = Hinders e o p q why

-- the files are those of an application, none is missing, and this becomes of them
pub record OfFiles (e : Errand) (o : Options) (x : Answer) (p q : List ℕ) (f : Files) : Type 0 where
  pub are : AreFiles f p q
  pub none_missing : NoneIsMissing o p q
  pub may : MayBecome e o f p q x

-- after it each half stands for the tables, but for one that is lost; or both files are as they were
abbrev pub IsDone : Errand → Options → Answer → (a b : Both) → (lb : ℕ → List ℕ → List ℕ → List ℕ → Type 0) → Type 0
IsDone e o (answer.UpToDate lost) a b lb =
    (f : Files) × OfFiles e o (answer.UpToDate lost) a.first.holds a.second.holds f × StandNow f lost b lb × FailsAlone lost a b
IsDone e o answer.WouldKeep a b lb = (f : Files) × OfFiles e o answer.WouldKeep a.first.holds a.second.holds f × SameFiles a b × NoneRose a b
IsDone e o (answer.Carried gone lost) a b lb =
    (f : Files) × OfFiles e o (answer.Carried gone lost) a.first.holds a.second.holds f × StandNow (carried_files (generation_of e) e.fingerprint f) lost b lb × FailsAlone lost a b
IsDone e o (answer.WouldCarry gone rows) a b lb = (f : Files) × OfFiles e o (answer.WouldCarry gone rows) a.first.holds a.second.holds f × SameFiles a b × NoneRose a b
IsDone e o (answer.WouldDrop rows) a b lb = (f : Files) × OfFiles e o (answer.WouldDrop rows) a.first.holds a.second.holds f × SameFiles a b × NoneRose a b
IsDone e o (answer.Hindered why) a b lb = Hinders e o a.first.holds a.second.holds why × SameFiles a b

-- what a stop leaves of two files while this is said
abbrev pub Keeps : Errand → Files → Answer → Both → (c d : List ℕ) → Type 0
Keeps e f (answer.UpToDate lost) a c d = AreFiles f c d
Keeps e f answer.WouldKeep a c d = (c ≡ a.first.holds) × (d ≡ a.second.holds)
Keeps e f (answer.Carried gone lost) a c d = AreFiles (carried_files (generation_of e) e.fingerprint f) c d
Keeps e f (answer.WouldCarry gone rows) a c d = (c ≡ a.first.holds) × (d ≡ a.second.holds)
Keeps e f (answer.WouldDrop rows) a c d = (c ≡ a.first.holds) × (d ≡ a.second.holds)
Keeps e f (answer.Hindered why) a c d = (c ≡ a.first.holds) × (d ≡ a.second.holds)

-- a front of what is said was sent, and the files are those of which it is said
pub record SaysFrontOf (e : Errand) (o : Options) (f : Files) (a : Both) (c d out : List ℕ) : Type 0 where
  pub answer : Answer
  pub may : MayBecome e o f a.first.holds a.second.holds answer
  pub keeps : Keeps e f answer a c d
  pub front : (n : ℕ) × (out ≡ a.sent ++ take n (answer_text (generation_of e) answer))

-- what a stop within the call leaves: nothing was sent, and the files are the old ones or those of the carried tables; or the call was at its end
abbrev pub IsStopOfCarry : Errand → Options → Files → Both → (c d out : List ℕ) → Type 0
IsStopOfCarry e o f a c d out = ((out ≡ a.sent) × AreEither f (files_after (generation_of e) e.fingerprint f) c d) ⊎ SaysFrontOf e o f a c d out
