-- Bytes between two quotes.
use Rattle.std.specs.Prelude.{◌≡◌, ℕ, ◌<◌, Bool, ◌==◌, List, [], ◌∷◌, length, Option, Some, None, if◌then◌else◌}
use Rattle.std.specs.Option.{option_map}
use Rattle.kd_base.specs.Tools.{onto_first}

abbrev pub is_quote : ℕ → Bool
is_quote b = b == 39

-- after a quote: the bytes up to its end, where two quotes stand for one, and what follows
abbrev pub quoted_at : List ℕ → Option (List ℕ × List ℕ)
quoted_at [] = None
quoted_at (b ∷ []) = if is_quote b then Some ([], []) else None
quoted_at (b ∷ c ∷ bytes) =
    if is_quote b
    then (if is_quote c then onto_first (39 ∷ []) (quoted_at bytes) else Some ([], c ∷ bytes))
    else onto_first (b ∷ []) (quoted_at (c ∷ bytes))

-- the bytes alone; none where they have no end
abbrev pub content_in : Option (List ℕ × List ℕ) → List ℕ
content_in None = []
content_in (Some found) = found.0

abbrev pub content_at : List ℕ → List ℕ
content_at bytes = content_in (quoted_at bytes)

-- what follows them
abbrev pub behind_quoted : List ℕ → Option (List ℕ)
behind_quoted bytes = option_map (λ (found : List ℕ × List ℕ). found.1) (quoted_at bytes)

-- the front of the bytes after a quote is this: nothing, or a byte that it stands for or their end, and what follows
abbrev pub IsFront : List ℕ → Option (Option ℕ × List ℕ) → Type 0
IsFront bytes None = quoted_at bytes ≡ None
IsFront bytes (Some (None, rest)) = quoted_at bytes ≡ Some ([], rest)
IsFront bytes (Some (Some b, rest)) = (quoted_at bytes ≡ onto_first (b ∷ []) (quoted_at rest)) × (length rest < length bytes)

-- each quote twice
abbrev pub doubled : List ℕ → List ℕ
doubled [] = []
doubled (b ∷ bytes) = if is_quote b then 39 ∷ 39 ∷ doubled bytes else b ∷ doubled bytes
