-- Refusals behind the units.
use Rattle.std.specs.Prelude.{ℕ, List, []}
use Rattle.std.specs.List.{All}
use Rattle.std.proofs.lemmas.List.Elements.{All-nil}
use Rattle.lab_check.specs.Refusals.{Refuses}
use Rattle.lab_check.specs.RefusalsLaws.{all_refused}
use Rattle.lab_check.specs.declared.lab_findings.refusal.Refusal.{Refusal}
use Rattle.lab_check.specs.declared.lab_findings.text_name.TextName.TheVariants as text
use Rattle.lab_check.specs.Verdicts.{AddsOfScript, IsOfScript}

pub later_script : (before after : List Refusal) (line : ℕ) (name : List ℕ) → Refuses before after text.Script line name → AddsOfScript before after
later_script before after line name refuses held =
    all_refused IsOfScript before after text.Script line name refuses (λ r is. is.0) held

pub none_later : All IsOfScript []
none_later = All-nil IsOfScript
