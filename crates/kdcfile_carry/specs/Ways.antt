-- Which files are carried to a new generation, and what they are then.
use Rattle.std.specs.Prelude.{◌≡◌, ⊤, ◌⊎◌, ◌≤◌, ℕ, ◌-◌, Bool, true, false, ◌&&◌, List, Option, Some, None, IfSome, is_some, nat_le, Result, Ok, Err}
use Rattle.kd_records.specs.Identity.{Identity}
use Rattle.application_types.specs.Generation.{Generated}
use Rattle.laws_of_states.specs.Suits.{Suits}
use Rattle.device_acts.specs.Stands.{identity_for}
use Rattle.kdcfile_double.specs.Opening.{identity_twice, last_sequence}
use Rattle.kd_update.specs.Carrying.{carried}
use Rattle.kd_update.specs.Judging.{else_fault, judged}
use Rattle.kd_update.specs.declared.error.UpdateError.{UpdateError}
use Rattle.kd_update.specs.declared.error.UpdateError.TheVariants.{NotKdcfile, SmallerPool}
use Rattle.kdcfile_update.specs.Report.{is_same_print}
use Rattle.carry_steps.specs.Deciding.{is_asked, next_sequence}
use Rattle.kdcfile_carry.specs.Files.{AreFiles, Files}

-- ---- what files are made with

-- what a file by itself is made with, or each of two copies, which has a page more
abbrev pub made_by : (double : Bool) → Generated → (fingerprint : List ℕ) → Identity
made_by true g fingerprint = identity_twice g fingerprint
made_by false g fingerprint = identity_for g fingerprint

abbrev pub made_with : Generated → (fingerprint : List ℕ) → Identity
made_with g fingerprint = made_by (is_some g.double) g fingerprint

-- the files of the carried tables
abbrev pub carried_files : Generated → (fingerprint : List ℕ) → Files → Files
carried_files g fingerprint f = record { identity = made_with g fingerprint; tables = carried g f.tables; sequence = next_sequence (is_some g.double) f.sequence }

-- ---- which files are carried

-- the files are of these texts, and two copies or a file by itself as these ask
pub record AreOwn (g : Generated) (fingerprint : List ℕ) (f : Files) : Type 0 where
  pub print : f.identity.fingerprint ≡ fingerprint
  pub as_asked : is_some f.sequence ≡ is_some g.double

-- the files are of these texts, as these ask for them, and the tables suit: nothing is to be carried
pub record IsUpToDate (g : Generated) (fingerprint : List ℕ) (f : Files) : Type 0 where
  pub identity_is : f.identity ≡ made_with g fingerprint
  pub as_asked : is_some f.sequence ≡ is_some g.double
  pub suits : Suits g f.tables

-- PGPOOL of the generation that made the files: copies have a page more
abbrev pub pool_by : Option ℕ → (pages : ℕ) → ℕ
pool_by None pages = pages
pool_by (Some n) pages = pages - 1

-- what comes after, where there was no fault
abbrev pub then_judged : Result ⊤ UpdateError → Result ⊤ UpdateError → Result ⊤ UpdateError
then_judged (Ok v) after = after
then_judged (Err why) after = Err why

-- two copies become one file in their own place, whose page pool is no smaller
abbrev pub room_by : (double : Bool) → Option ℕ → (pages pgpool : ℕ) → Result ⊤ UpdateError
room_by false (Some n) pages pgpool = else_fault (nat_le pages pgpool) (SmallerPool pages) (Ok tt)
room_by false None pages pgpool = Ok tt
room_by true s pages pgpool = Ok tt

-- how files of other texts, or of another shape, are judged
abbrev pub judgement : Generated → Files → Result ⊤ UpdateError
judgement g f = then_judged (judged g f.identity.blksize (pool_by f.sequence f.identity.pages) f.tables (carried g f.tables)) (room_by (is_some g.double) f.sequence f.identity.pages g.limits.pgpool)

-- the files are of other texts or not of the shape that these ask for, and their tables may be carried
pub record MayCarry (g : Generated) (fingerprint : List ℕ) (f : Files) : Type 0 where
  pub differs : AreOwn g fingerprint f → ⊥
  pub judged : judgement g f ≡ Ok tt
  pub small : IfSome (next_sequence (is_some g.double) f.sequence) (λ n. n ≤ last_sequence)

-- nothing is to be carried, or the tables may be carried
abbrev pub IsTaken : Generated → (fingerprint : List ℕ) → Files → Type 0
IsTaken g fingerprint f = IsUpToDate g fingerprint f ⊎ MayCarry g fingerprint f

-- what the files are after the call: the same where they are of these texts and of their shape
abbrev pub files_by : (own : Bool) → Generated → (fingerprint : List ℕ) → Files → Files
files_by true g fingerprint f = f
files_by false g fingerprint f = carried_files g fingerprint f

abbrev pub files_after : Generated → (fingerprint : List ℕ) → Files → Files
files_after g fingerprint f = files_by (is_same_print f.identity.fingerprint fingerprint && is_asked (is_some g.double) (is_some f.sequence)) g fingerprint f

-- ---- which are refused

-- the two files are those of no application, or of these texts and of their shape, and not as these ask for them
pub record HaveNoFilesFor (g : Generated) (fingerprint a b : List ℕ) : Type 0 where
  pub own_texts : (f : Files) → AreFiles f a b → AreOwn g fingerprint f
  pub unsuited : (f : Files) → AreFiles f a b → IsUpToDate g fingerprint f → ⊥

-- they are those of other texts or of another shape, and judged so
pub record AreJudgedSo (g : Generated) (fingerprint a b : List ℕ) (why : UpdateError) : Type 0 where
  pub files : Files
  pub are : AreFiles files a b
  pub differs : AreOwn g fingerprint files → ⊥
  pub judged : judgement g files ≡ Err why

abbrev pub AreRefusedAs : Generated → (fingerprint a b : List ℕ) → UpdateError → Type 0
AreRefusedAs g fingerprint a b why = ((why ≡ NotKdcfile) × HaveNoFilesFor g fingerprint a b) ⊎ AreJudgedSo g fingerprint a b why

-- they could be carried to two copies, but this is their sequence, and there is no next one
pub record AreSpent (g : Generated) (fingerprint a b : List ℕ) (n : ℕ) : Type 0 where
  pub files : Files
  pub are : AreFiles files a b
  pub differs : AreOwn g fingerprint files → ⊥
  pub judged : judgement g files ≡ Ok tt
  pub two : is_some g.double ≡ true
  pub sequence : files.sequence ≡ Some n
  pub great : last_sequence ≤ n

-- ---- called again

-- whatever a stop leaves of files that are taken, the old ones or the new ones, is taken again, and the call comes to the same files
abbrev pub StopsAreTaken : Type 0
StopsAreTaken =
    (g : Generated) (fingerprint : List ℕ) (f : Files) (c d : List ℕ) → IsTaken g fingerprint f → AreFiles f c d ⊎ AreFiles (files_after g fingerprint f) c d
    → (h : Files) × AreFiles h c d × IsTaken g fingerprint h × (files_after g fingerprint h ≡ files_after g fingerprint f)
