-- A line without blanks at its ends, as std cuts it.
use Rattle.std.proofs.Common.{◌≡◌, ℕ, List, refl}
use Rattle.std.specs.Str.{IsTrimAscii}
use Rattle.std.proofs.lemmas.Str.Ascii.{trim_ascii_is}
use Rattle.lab_turns.specs.Sources.{trimmed, without_front}

pub trimmed_is : (s r : List ℕ) → IsTrimAscii s r → r ≡ trimmed s
trimmed_is s r is = trim_ascii_is s r (without_front s) refl is
