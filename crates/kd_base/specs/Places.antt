-- Lists of pairs in ascending order of their keys: where a key stands, what is found there, and what a change there makes.
use Rattle.std.specs.Prelude.{ℕ, cond, not, List, length, sum_by, Result}
use Rattle.std.specs.Ordering.{eq_by_cmp, is_lt}
use Rattle.std.specs.declared.cmp.Ordering.{Ordering}
use Rattle.std.specs.FinMap.Entries.{where_key}
use Rattle.std.specs.List.Sorted.{IsSearchInRange, IsBinarySearchResult}

-- what a binary search for a key answers
pub record IsPlace {K X : Type 0} (R : K → K → Ordering) (key : K) (pairs : List (K × X)) (place : Result ℕ ℕ) : Type 0 where
  pub range : IsSearchInRange place (length pairs)
  pub position : IsBinarySearchResult (λ (e : K × X). R e.0 key) pairs place

-- the pairs whose keys are others
abbrev pub without : {K X : Type 0} → (K → K → Ordering) → K → List (K × X) → List (K × X)
without R key pairs = where_key R (λ k. not (eq_by_cmp R key k)) pairs

-- how often a key is there
abbrev pub times : {K X : Type 0} → (K → K → Ordering) → K → List (K × X) → ℕ
times {K} {X} R key pairs = sum_by (λ (e : K × X). cond (eq_by_cmp R key e.0) 1 0) pairs

-- the pairs whose keys are not less than this one
abbrev pub from_key : {K X : Type 0} → (K → K → Ordering) → K → List (K × X) → List (K × X)
from_key R key pairs = where_key R (λ k. not (is_lt (R k key))) pairs
