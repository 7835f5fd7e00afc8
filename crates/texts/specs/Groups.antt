-- The lines of a text, put together into those of each statement.
use Rattle.std.specs.Prelude.{ℕ, ◌+◌, ◌-◌, true, false, ◌&&◌, List, [], ◌∷◌, ◌++◌, Option, Some, None, is_none, if◌then◌else◌}
use Rattle.texts.specs.declared.kdcdef_lex.group.Group.{Group}
use Rattle.texts.specs.Lines.{is_passed, continued}

-- where a statement is open, the number of its first line and its bytes so far; else it begins here, at line n
abbrev pub first_of : Option (ℕ × List ℕ) → ℕ → ℕ
first_of None n = n
first_of (Some so_far) n = so_far.0

abbrev pub text_of : Option (ℕ × List ℕ) → List ℕ
text_of None = []
text_of (Some so_far) = so_far.1

-- the groups of lines from line n on
abbrev pub groups : Option (ℕ × List ℕ) → ℕ → List (List ℕ) → List Group
groups None n [] = []
groups (Some so_far) n [] = record { first = so_far.0; last = n - 1; text = so_far.1; dangling = true } ∷ []
groups so_far n (line ∷ lines) =
    if is_none so_far && is_passed line then groups None (n + 1) lines
    else elim (continued line) [
      | None ↦ record { first = first_of so_far n; last = n; text = text_of so_far ++ line; dangling = false } ∷ groups None (n + 1) lines
      | Some body ↦ groups (Some (first_of so_far n, text_of so_far ++ body)) (n + 1) lines
    ]
