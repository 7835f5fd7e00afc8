-- Lists of refusals.
use Rattle.std.specs.Prelude.{ℕ, List, [], ◌∷◌, ◌++◌, ◌≡◌, ◌⊎◌}
use Rattle.lab_check.specs.declared.lab_findings.refusal.Refusal.{Refusal}
use Rattle.lab_check.specs.declared.lab_findings.text_name.TextName.{TextName}

-- a refusal of this text, at this line, by this name
abbrev pub IsRefusal : TextName → ℕ → List ℕ → Refusal → Type 0
IsRefusal text line name r = (r.text ≡ text) × (r.line ≡ line) × (r.name.now ≡ name)

-- such a refusal was added at the end, or none
abbrev pub Refuses : (before after : List Refusal) → TextName → ℕ → List ℕ → Type 0
Refuses before after text line name = (after ≡ before) ⊎ ((r : Refusal) × IsRefusal text line name r × (after ≡ before ++ r ∷ []))
