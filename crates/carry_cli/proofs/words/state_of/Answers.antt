use Rattle.std.proofs.Common.{◌≡◌, ◌∙◌, List, ℕ, Option, Some, None, true, sym, subst}
use Rattle.std.specs.Prelude.{MatchOption, codes}
use Rattle.std.specs.String.{string_bytes}
use Rattle.script_read.specs.Script.{same}
use Rattle.script_read.specs.SameLaws.{same_texts}
use Rattle.carry_cli.proofs.Asked.{state_then}
use Rattle.carry_cli.proofs.words.state_of.Goals as goal

pub returns-then-eq : goal.returns-then-eq
returns-then-eq c =
    let spelled = subst (λ (l : List ℕ). same l (codes "state") ≡ true) c.as_bytes.ensures.value (subst (λ (l : List ℕ). same c.as_bytes.result.now l ≡ true) c.as_slice.ensures (sym (same_texts c.as_bytes.result.now c.as_slice.result.now) ∙ sym c.if-eq.ensures)) in
    subst (λ (o : Option (List ℕ)). MatchOption c.base_of.result (o ≡ None) (λ base. o ≡ Some base.now)) (sym (state_then string_bytes c.args.words.now c.word-item.result c.in-len1-up.len_at_least c.word-item.is spelled)) c.base_of.ensures
