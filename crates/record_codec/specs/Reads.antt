-- What a function answers that reads from the front of some bytes.
use Rattle.std.specs.Prelude.{◌≡◌, ℕ, List, ⊤, Option, Some, None, Result, Ok, Err}
use Rattle.record_codec.specs.declared.reading.Unread.{Unread}
use Rattle.record_codec.specs.declared.reading.Unread.TheVariants.{NotThere, Memory}

-- it answers just what is there, unless memory ran out
abbrev pub Reads : {A : Type 0} → Result A Unread → List ℕ → Option (A × List ℕ) → Type 0
Reads (Ok x) left found = found ≡ Some (x, left)
Reads (Err NotThere) left found = found ≡ None
Reads (Err Memory) left found = ⊤

-- the same of a whole value
abbrev pub ReadsWhole : {A : Type 0} → Result A Unread → Option A → Type 0
ReadsWhole (Ok x) found = found ≡ Some x
ReadsWhole (Err NotThere) found = found ≡ None
ReadsWhole (Err Memory) found = ⊤

abbrev pub of_memory : Unread
of_memory = Memory
