-- How values are read: readers of what is in front of some bytes, each with what was written for it to read.
use Rattle.std.specs.Prelude.{ℕ, zero, suc, ◌^◌, ◌<◌, List, [], ◌∷◌, length, get_or, Option, Some, None, option_and_then, ◌==◌, if◌then◌else◌}
use Rattle.std.specs.Int.{Width, w8, w32}
use Rattle.std.specs.List.{AllByRecursion as Each}
use Rattle.std.specs.Option.{option_map}
use Rattle.kd_base.specs.Field.{number_at, after_number, list_at, after_list, name_at, after_name}

-- each is a byte
abbrev pub AreBytes : List ℕ → Type 0
AreBytes bytes = (k : ℕ) → get_or bytes k 0 < 2 ^ 8

-- ---- fields

-- a field, as a reader finds it
abbrev pub field : {A : Type 0} → (List ℕ → Option A) → (List ℕ → List ℕ) → List ℕ → Option (A × List ℕ)
field at after bytes = option_map (λ x. (x, after bytes)) (at bytes)

abbrev pub name_field : List ℕ → Option (List ℕ × List ℕ)
name_field = field name_at after_name

abbrev pub number_field : Width → List ℕ → Option (ℕ × List ℕ)
number_field w = field (number_at w) (after_number w)

abbrev pub list_field : List ℕ → Option (List ℕ × List ℕ)
list_field = field list_at after_list

-- a list
abbrev pub IsShort : List ℕ → Type 0
IsShort bytes = length bytes < 2 ^ 32

-- ---- one after another

-- two, one after the other
abbrev pub both : {A B : Type 0} → (List ℕ → Option (A × List ℕ)) → (List ℕ → Option (B × List ℕ)) → List ℕ → Option ((A × B) × List ℕ)
both one two bytes = option_and_then (λ p. option_map (λ q. ((p.0, q.0), q.1)) (two p.1)) (one bytes)

-- so many items
unfoldable pub items : {A : Type 0} → (List ℕ → Option (A × List ℕ)) → ℕ → List ℕ → Option (List A × List ℕ)
items one zero bytes = Some ([], bytes)
items one (suc n) bytes = option_and_then (λ p. option_map (λ q. (p.0 ∷ q.0, q.1)) (items one n p.1)) (one bytes)

-- a number of four bytes, and so many items
abbrev pub counted_items : {A : Type 0} → (List ℕ → Option (A × List ℕ)) → List ℕ → Option (List A × List ℕ)
counted_items one bytes = option_and_then (λ p. items one p.0 p.1) (number_field w32 bytes)

abbrev pub FitAll : {A : Type 0} → (A → Type 0) → List A → Type 0
FitAll F xs = (length xs < 2 ^ 32) × Each F xs

-- ---- what a byte says

-- a letter or number in front, by which the rest is read
abbrev pub chosen_by : {A : Type 0} → (ℕ → List ℕ → Option (A × List ℕ)) → List ℕ → Option (A × List ℕ)
chosen_by by bytes = option_and_then (λ p. by p.0 p.1) (number_field w8 bytes)

-- read in one way after one byte, and in another after another
abbrev pub either : {A : Type 0} → ℕ → (List ℕ → Option (A × List ℕ)) → ℕ → (List ℕ → Option (A × List ℕ)) → ℕ → List ℕ → Option (A × List ℕ)
either a one b two n rest = if n == a then one rest else (if n == b then two rest else None)
