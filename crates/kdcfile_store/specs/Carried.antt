-- A content that takes the place of another, in a file that is then made with something else.
use Rattle.std.specs.Prelude.{ℕ, ◌+◌, ◌*◌, List}
use Rattle.kd_device.specs.Device.{State, LeavesOnly}
use Rattle.kd_records.specs.declared.content.Content.{Content}
use Rattle.kd_records.specs.Charge.{total_charge}
use Rattle.kd_records.specs.Identity.{Identity}
use Rattle.kdcfile_layout.specs.Layout.{directory_pages}
use Rattle.kdcfile_layout.specs.Commit.{Either}

-- how many bytes are written at most: a page for each page of the content and of its directory, 64 bytes of the root with
-- the numbers of the directory's pages, and 1 of the selector
abbrev pub carry_most : Identity → Content → ℕ
carry_most i x = i.blksize * (total_charge i.blksize x.items + directory_pages i.blksize i.pages) + 64 + 4 * directory_pages i.blksize i.pages + 1

-- a stop leaves the old content as it was made, or the new one, and nothing more was sent
abbrev pub LeavesCarried : Identity → Content → Identity → Content → (a b : State) → (la lb : ℕ → List ℕ → List ℕ → Type 0) → Type 0
LeavesCarried i x j y a b la lb = LeavesOnly a b la lb (Either i x j y a.sent)
