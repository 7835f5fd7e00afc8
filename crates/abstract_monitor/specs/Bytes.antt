-- Bytes and names, as lists of numbers.
use Rattle.std.specs.Prelude.{ℕ, List}
use Rattle.std.specs.Ordering.{nat_cmp}
use Rattle.std.specs.declared.cmp.Ordering.{Ordering}
use Rattle.std.specs.Cmp.Lexicographic.{slice_cmp}

abbrev pub Bytes : Type 0
Bytes = List ℕ

-- byte by byte
abbrev pub bytes_cmp : Bytes → Bytes → Ordering
bytes_cmp = slice_cmp nat_cmp
