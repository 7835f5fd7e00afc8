-- Bytes in several parts.
use Rattle.std.specs.Prelude.{ℕ, List}
use Rattle.std.specs.Borrow.{Bor}
use Rattle.std.specs.List.{flat_map}

-- the parts, one after another
abbrev pub together : List (Bor (List ℕ)) → List ℕ
together parts = flat_map (λ (p : Bor (List ℕ)). p.now) parts
