use Rattle.std.proofs.Common.{ap, ◌∙◌, Vec, ℕ, Global, append_assoc}
use Rattle.carry_cli.proofs.answer.dropped_line.Goals as goal

pub returns : goal.returns
returns c = c.from_vec.ensures ∙ ap (λ (v : Vec ℕ Global). v.items) c.into_bytes.ensures.value ∙ c.in_ok-line.ensures.ok ∙ simp append_assoc
