-- Where a key is in a list in ascending order, and what is read and changed there.
use Rattle.std.specs.Prelude.{ℕ, List, length, Option, None, Result, Ok, Err, slice_get, slice_set}
use Rattle.std.specs.List.{insert, remove}
use Rattle.std.specs.List.Sorted.{IsSearchInRange, IsBinarySearchResult}
use Rattle.kdcs_types.specs.declared.key.Key.{Key}
use Rattle.kdcs_types.specs.Keys.{key_cmp}

-- what a binary search for a key answers
pub record IsPlaceOf {E : Type 0} (key_of : E → Key) (k : Key) (items : List E) (place : Result ℕ ℕ) : Type 0 where
  pub range : IsSearchInRange place (length items)
  pub position : IsBinarySearchResult (λ e. key_cmp (key_of e) k) items place

-- the item at a place, if one is there
abbrev pub found_at : {E : Type 0} → Result ℕ ℕ → List E → Option E
found_at (Ok i) items = slice_get items i
found_at (Err i) items = None

-- with an item there
abbrev pub placed_at : {E : Type 0} → Result ℕ ℕ → E → List E → List E
placed_at (Ok i) e items = slice_set items i e
placed_at (Err i) e items = insert items i e

-- without the item there
abbrev pub removed_at : {E : Type 0} → Result ℕ ℕ → List E → List E
removed_at (Ok i) items = remove items i
removed_at (Err i) items = items
