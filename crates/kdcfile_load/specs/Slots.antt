-- The slots that are read of a file that begins so.
use Rattle.std.specs.Prelude.{◌≡◌, ◌*◌, ℕ, List, [], length, Option, Some}
use Rattle.kdcfile_layout.specs.Places.{At}
use Rattle.kdcfile_layout.specs.Fields.{AreBytes}
use Rattle.kdcfile_layout.specs.Layout.{slots_in_page}
use Rattle.kdcfile_layout.specs.declared.kdcfile_read.slot.First.{First}
use Rattle.kdcfile_layout.specs.Chains.{page_at}
use Rattle.kdcfile_load.specs.Openings.{pages_of_file}
use Rattle.kdcfile_load.specs.Reads.{AreFirsts, directory_from, records_from, none_yet}
use Rattle.kdcfile_load.specs.declared.opening.Opening.{Opening}
use Rattle.kdcfile_load.specs.declared.records.Gathering.{Gathering}

-- the directory has some slots, and they have these records
pub record ReadsSlots (h : List ℕ) (p : Opening) (g : Gathering) : Type 0 where
  pub slots : List (Option First)
  pub are : AreFirsts (length p.directory * slots_in_page p.head.blksize) slots
  pub directory : directory_from p.head.blksize (pages_of_file p) h [] p.directory ≡ Some slots
  pub records : records_from p.head.blksize (pages_of_file p) h (none_yet (pages_of_file p)) slots ≡ Some g
  pub bytes : (k q : ℕ) → At p.directory k q → AreBytes (page_at p.head.blksize h q)
