-- Bytes as parts, one after another, with blanks before, between and after them.
use Rattle.std.specs.Prelude.{◌≡◌, ℕ, zero, suc, IsTrue, List, [], ◌∷◌, ◌++◌, length, Option, Some, option_and_then}
use Rattle.std.specs.Option.{option_map}
use Rattle.std.specs.List.{list_all}
use Rattle.kd_base.specs.Tools.{onto}
use Rattle.texts.specs.Blanks.{is_blank, from_first}

-- the bytes are these parts: how each is written, what it may be, and what may follow it
abbrev pub AreParts : {P : Type 0} → (P → List ℕ) → (P → Type 0) → (P → List ℕ → Type 0) → List P → List ℕ → Type 0
AreParts written IsPart Ends [] bytes = IsTrue (list_all is_blank bytes)
AreParts written IsPart Ends (p ∷ ps) bytes =
    (gap rest : List ℕ) × (bytes ≡ gap ++ (written p ++ rest)) × IsTrue (list_all is_blank gap) × IsPart p × Ends p rest × AreParts written IsPart Ends ps rest

-- a part at the front of bytes that begin with no blank, and what follows it and the blanks after it
abbrev pub part_step : {P : Type 0} → (List ℕ → Option (P × List ℕ)) → List ℕ → Option (P × List ℕ)
part_step {P} part_at bytes = option_map (λ (p : P × List ℕ). (p.0, from_first p.1)) (part_at bytes)

-- the parts of bytes that begin with no blank, of which there are at most n
abbrev pub parts_within : {P : Type 0} → (List ℕ → Option (P × List ℕ)) → ℕ → List ℕ → Option (List P)
parts_within part_at zero bytes = Some []
parts_within part_at (suc n) [] = Some []
parts_within {P} part_at (suc n) (b ∷ bytes) =
    option_and_then (λ (p : P × List ℕ). onto (p.0 ∷ []) (parts_within part_at n p.1)) (part_step part_at (b ∷ bytes))

-- the parts of bytes; None where one has no end
abbrev pub parts_of : {P : Type 0} → (List ℕ → Option (P × List ℕ)) → List ℕ → Option (List P)
parts_of part_at bytes = parts_within part_at (length (from_first bytes)) (from_first bytes)
