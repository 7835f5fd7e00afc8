-- Which pages of a file that is made are used.
use Rattle.std.specs.Prelude.{ℕ, Bool, true, false, List, replicate}
use Rattle.kdcfile_layout.specs.Pools.{flagged}
use Rattle.kdcfile_layout.specs.Layout.{directory_pages, page_count}
use Rattle.kdcfile_layout.specs.Fresh.{numbers}

-- those of the directory, which are the first ones
abbrev pub fresh_used : (size pool : ℕ) → List Bool
fresh_used size pool = flagged true (replicate (page_count size pool) false) (numbers (directory_pages size pool))
