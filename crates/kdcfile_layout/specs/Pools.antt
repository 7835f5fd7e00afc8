-- Which pages are used: a flag for each, and the pages in an order with the free ones first.
use Rattle.std.proofs.Common.{◌+◌, [], ◌≡◌, ℕ, ◌-◌, ◌<◌, ◌≤◌, Bool, true, false, not, List, ◌∷◌, length}
use Rattle.std.specs.Prelude.{set}
use Rattle.std.specs.List.{count_by}
use Rattle.kdcfile_layout.specs.Places.{IsDistinct, At}

-- how many pages are free
abbrev pub free_count : List Bool → ℕ
free_count used = count_by (λ u. not u) used

-- each page has its place in the order, and the first so many places are those of the free pages
pub record IsPool (used : List Bool) (order place : List ℕ) (free : ℕ) : Type 0 where
  pub order_length : length order ≡ length used
  pub place_length : length place ≡ length used
  pub within : free ≤ length used
  pub there : (p j : ℕ) → At place p j → At order j p
  pub back : (j p : ℕ) → At order j p → At place p j
  pub front : (p j : ℕ) → At place p j → j < free → At used p false
  pub after : (p j : ℕ) → At place p j → free ≤ j → At used p true
  pub count : free_count used ≡ free

-- the flags after all of these pages were given this one
abbrev pub flagged : Bool → List Bool → List ℕ → List Bool
flagged flag used [] = used
flagged flag used (p ∷ pages) = flagged flag (set used p flag) pages

-- ---- two pages change places

-- page p, which is at place a, goes to place b, and q, which is there, to a
abbrev pub moved_order : List ℕ → ℕ → ℕ → ℕ → ℕ → List ℕ
moved_order order p a b q = set (set order a q) b p

abbrev pub moved_place : List ℕ → ℕ → ℕ → ℕ → ℕ → List ℕ
moved_place place p a b q = set (set place q a) p b

-- ---- a new pool

-- the first n of the numbers below count, from the highest on downward
pub record IsCountedDown (xs : List ℕ) (count n : ℕ) : Type 0 where
  pub long : length xs ≡ n
  pub own : (j p : ℕ) → At xs j p → j + p + 1 ≡ count
  pub all : (j : ℕ) → j < n → At xs j (count - 1 - j)

-- ---- a plan

-- the pages at the last n of the first so many places, from the last one downward
pub record AreLast (order : List ℕ) (free n : ℕ) (pages : List ℕ) : Type 0 where
  pub count : length pages ≡ n
  pub at : (j p : ℕ) → At pages j p → At order (free - 1 - j) p

-- pages that are not used, each once
pub record ArePlanned (used : List Bool) (needed : ℕ) (pages : List ℕ) : Type 0 where
  pub count : length pages ≡ needed
  pub distinct : IsDistinct pages
  pub clear : (n p : ℕ) → At pages n p → At used p false
