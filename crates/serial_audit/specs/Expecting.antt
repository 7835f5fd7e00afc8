-- What a maker is to change in tables, if it can make a commit at all.
use Rattle.std.specs.Prelude.{◌≡◌, IsTrue, Option, Some, None}
use Rattle.kdcs_types.specs.declared.act.Changes.{Changes}
use Rattle.kdcs_types.specs.declared.service.Settled.{Settled}
use Rattle.kdcs_types.specs.Difference.{difference}
use Rattle.kdcs_types.specs.Tables.{TableRows, IsSortedTables}
use Rattle.application_types.specs.Generation.{Generated}
use Rattle.abstract_monitor.specs.Endings.{durable, is_durable}
use Rattle.abstract_monitor.specs.State.{Application}
use Rattle.abstract_monitor.specs.Statements.{kept_of}
use Rattle.laws_of_states.specs.Replay.{atomic}
use Rattle.laws_of_states.specs.Suits.{Suits}
use Rattle.laws_of_states.specs.PointLaws.{AreSound}
use Rattle.audit_trail.specs.declared.entry.By.{By}
use Rattle.audit_trail.specs.declared.entry.By.TheVariants.{Transaction}
use Rattle.serial_audit.specs.Audit.{BeganIn, BeginsRightly, Determines, HasDueJob, HasShortItems, Makes, has_user}

-- ---- each maker

-- the maker comes to tables in order that suit, and these are the changes to them
pub record Expected (app : Application) (before : TableRows) (by : By) (changes : Changes) : Type 0 where
  pub after : TableRows
  pub makes : Makes app before after by
  pub changes_are : changes ≡ difference before after
  pub sorted : IsSortedTables after
  pub suits : Suits app.generation after

abbrev pub Expects : Application → TableRows → By → Option Changes → Type 0
Expects app before by None = (after : TableRows) → Makes app before after by → ⊥
Expects app before by (Some changes) = Expected app before by changes

-- ---- a transaction

abbrev pub ExpectsReplay : Application → TableRows → Settled → Option Changes → Type 0
ExpectsReplay app before r o = Expects app before (Transaction r) o

-- what a record says by itself and of the tables before it is right
pub record IsReady (g : Generated) (before : TableRows) (r : Settled) : Type 0 where
  pub user : IsTrue (has_user g r.service)
  pub begins : BeginsRightly g (kept_of r)
  pub short : HasShortItems g (kept_of r)
  pub began : BeganIn g before r.service (is_durable g r.service) r.began
  pub job : HasDueJob before (kept_of r) r.service r.began

-- the record determines its replay and ends so, and these are the changes to what is durable of the tables then
pub record ReplayedTo (app : Application) (t : TableRows) (r : Settled) (changes : Changes) : Type 0 where
  pub determined : Determines app t (kept_of r)
  pub whole : TableRows
  pub result : atomic app t (kept_of r) ≡ Some (record { tables = whole; ending = r.ending })
  pub changes_are : changes ≡ difference (durable app.generation t) (durable app.generation whole)
  pub sound : AreSound app.generation whole

abbrev pub IsReplayed : Application → TableRows → Settled → Option Changes → Type 0
IsReplayed app t r None = (whole : TableRows) → Determines app t (kept_of r) → atomic app t (kept_of r) ≡ Some (record { tables = whole; ending = r.ending }) → ⊥
IsReplayed app t r (Some changes) = ReplayedTo app t r changes
