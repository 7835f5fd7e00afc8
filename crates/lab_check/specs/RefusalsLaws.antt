-- What holds of each refusal holds after one more.
use Rattle.std.specs.Prelude.{ℕ, List, [], ◌∷◌}
use Rattle.std.specs.List.{All}
use Rattle.std.proofs.Common.{inl, inr, subst, sym}
use Rattle.std.proofs.lemmas.List.Elements.{All-append, All-cons, All-nil}
use Rattle.lab_check.specs.declared.lab_findings.refusal.Refusal.{Refusal}
use Rattle.lab_check.specs.declared.lab_findings.text_name.TextName.{TextName}
use Rattle.lab_check.specs.Refusals.{IsRefusal, Refuses}

pub all_refused : (P : Refusal → Type 0) (before after : List Refusal) (text : TextName) (line : ℕ) (name : List ℕ) → Refuses before after text line name → ((r : Refusal) → IsRefusal text line name r → P r) → All P before → All P after
all_refused P before after text line name (inl same) each held = subst (λ xs. All P xs) (sym same) held
all_refused P before after text line name (inr (r, is, more)) each held =
    subst (λ xs. All P xs) (sym more) (All-append P before (r ∷ []) held (All-cons P r [] (each r is) (All-nil P)))
