-- A patch in two passes: what it removes, and then what it puts.
use Rattle.std.proofs.Common.{ℕ, List, Option, Some, None}

-- what is found after the one pass and after the other, by what the patch says of the key
abbrev pub left_by : Option (Option (List ℕ)) → Option (List ℕ) → Option (List ℕ)
left_by None o = o
left_by (Some None) o = None
left_by (Some (Some v)) o = o

abbrev pub put_by : Option (Option (List ℕ)) → Option (List ℕ) → Option (List ℕ)
put_by None o = o
put_by (Some None) o = o
put_by (Some (Some v)) o = Some v

-- what a patch says of a key
abbrev pub Said : Type 0
Said = Option (Option (List ℕ))
