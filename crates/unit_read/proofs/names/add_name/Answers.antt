use Rattle.std.proofs.Common.{ap, ◌∙◌}
use Rattle.std.specs.Prelude.{bytes_eq}
use Rattle.std.proofs.lemmas.Map.Text.{is_eq-slice_cmp}
use Rattle.unit_read.proofs.Kept.{holds_more}
use Rattle.unit_read.proofs.names.add_name.Goals as goal

pub returns : goal.returns
returns c = λ q.
    holds_more c.args.names.now c.insert.new.self c.args.name.now q _ (is_eq-slice_cmp c.in_ok-clone.field-0 q ∙ ap (λ name. bytes_eq name q) c.in_ok-clone.ensures.cases) (c.in_ok-insert.ensures.updates.0 q)
