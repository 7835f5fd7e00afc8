-- Pages that become used, each once.
use Rattle.std.specs.Prelude.{ℕ, Bool, true, false, List, [], ◌∷◌, ◌++◌, Option, Some, None, replicate, set}
use Rattle.std.specs.List.{flat_map}
use Rattle.kdcfile_layout.specs.Places.{At}
use Rattle.kdcfile_layout.specs.declared.chain.Chain.{Chain}
use Rattle.kdcfile_layout.specs.Layout.{Layout}

-- the pages of a slot
abbrev pub pages_of : Option Chain → List ℕ
pages_of None = []
pages_of (Some c) = c.pages

-- the pages of all slots, in order
abbrev pub pages_in : List (Option Chain) → List ℕ
pages_in slots = flat_map pages_of slots

-- all pages that a layout names, in order
abbrev pub named_pages : Layout → List ℕ
named_pages l = l.directory ++ pages_in l.slots

-- these pages are there and not used, and none of them is named twice
abbrev pub AreClear : List Bool → List ℕ → Type 0
AreClear used [] = Unit {0}
AreClear used (p ∷ pages) = At used p false × AreClear (set used p true) pages

-- flags of so many pages that are free
abbrev pub all_free : ℕ → List Bool
all_free count = replicate count false
