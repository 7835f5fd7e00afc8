-- What holds of changes and of differences, in the words of rows and keys.
use Rattle.std.specs.Prelude.{◌≡◌, ◌≢◌, Option, Some, None}
use Rattle.kdcs_types.specs.declared.key.Key.{Key}
use Rattle.kdcs_types.specs.declared.act.Row.{Row}
use Rattle.kdcs_types.specs.declared.act.Change.{Change}
use Rattle.kdcs_types.specs.declared.act.Change.TheVariants.{Set, Remove}
use Rattle.kdcs_types.specs.declared.act.Changes.{Changes}
use Rattle.kdcs_types.specs.Tables.{TableRows, row_at, change_at, changed, AreChanges, IsSortedTables}
use Rattle.kdcs_types.specs.Difference.{difference, change_to}

-- the row of a key after its change, if there is one
abbrev pub row_after : Option Change → Option Row → Option Row
row_after None before = before
row_after (Some (Set r)) before = Some r
row_after (Some (Remove k)) before = None

-- each key has the row that its change sets or none where it removes it, and every other key has the row that it had
abbrev pub RowsAreChanged : Type 0
RowsAreChanged = (t : TableRows) (c : Changes) → AreChanges c.items → (k : Key) → row_at (changed t c) k ≡ row_after (change_at k c.items) (row_at t k)

abbrev pub NumbersAreChanged : Type 0
NumbersAreChanged = (t : TableRows) (c : Changes) → ((changed t c).clock ≡ c.clock) × ((changed t c).next_job ≡ c.next_job)

abbrev pub ChangedAreSorted : Type 0
ChangedAreSorted = (t : TableRows) (c : Changes) → IsSortedTables t → AreChanges c.items → IsSortedTables (changed t c)

-- tables are known by their numbers and the rows of their keys
abbrev pub TablesAreTheirRows : Type 0
TablesAreTheirRows =
    (t u : TableRows) → IsSortedTables t → IsSortedTables u → t.clock ≡ u.clock → t.next_job ≡ u.next_job → ((k : Key) → row_at t k ≡ row_at u k) → t ≡ u

-- the difference has exactly the keys whose rows differ, each with its new row
abbrev pub DifferenceIsExact : Type 0
DifferenceIsExact =
    (old new : TableRows) (k : Key)
    → (row_at old k ≡ row_at new k → change_at k (difference old new).items ≡ None) × (row_at old k ≢ row_at new k → change_at k (difference old new).items ≡ Some (change_to k (row_at new k)))

-- it is what tables take, and makes the new tables of the old ones
abbrev pub DifferencesAreChanges : Type 0
DifferencesAreChanges = (old new : TableRows) → IsSortedTables new → AreChanges (difference old new).items

abbrev pub DifferenceMakesNew : Type 0
DifferenceMakesNew = (old new : TableRows) → IsSortedTables old → IsSortedTables new → changed old (difference old new) ≡ new

-- each change makes another row than is at its key
pub record AreRealChanges (t : TableRows) (c : Changes) : Type 0 where
  pub changes : AreChanges c.items
  pub real : (k : Key) (ch : Change) → change_at k c.items ≡ Some ch → row_after (Some ch) (row_at t k) ≢ row_at t k

-- the difference of tables and the same with changes is those changes
abbrev pub DifferenceIsTheChanges : Type 0
DifferenceIsTheChanges = (t : TableRows) (c : Changes) → IsSortedTables t → AreRealChanges t c → difference t (changed t c) ≡ c
