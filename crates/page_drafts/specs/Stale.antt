-- Numbers of pages, and a flag for each page.
use Rattle.std.specs.Prelude.{ℕ, ◌<◌, Bool, List, map, is_some, IsTrue}
use Rattle.std.specs.List.{range_with_len}
use Rattle.std.specs.FinMap.{find}
use Rattle.std.specs.Ordering.{nat_cmp}

-- whether the page is among these
abbrev pub is_among : {X : Type 0} → List (ℕ × X) → ℕ → Bool
is_among pages k = is_some (find nat_cmp k pages)

-- the flags of so many pages: whether each is among these
abbrev pub flags_of : {X : Type 0} → ℕ → List (ℕ × X) → List Bool
flags_of count pages = map (λ k. is_among pages k) (range_with_len 0 count)

-- there are so many pages, and these are some of them
abbrev pub AllBelow : {X : Type 0} → ℕ → List (ℕ × X) → Type 0
AllBelow count pages = (k : ℕ) → IsTrue (is_among pages k) → k < count
