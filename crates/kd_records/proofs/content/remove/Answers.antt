use Rattle.std.proofs.Common.{not, rules}
use Rattle.std.specs.Ordering.{eq_by_cmp}
use Rattle.std.proofs.lemmas.Fn.{filter_same}
use Rattle.kd_records.specs.Contents.{Record}
use Rattle.kd_records.specs.Keys.{key_cmp}
use Rattle.kd_records.proofs.content.remove.Goals as goal

pub returns : goal.returns
returns c =
    filter_same _ (λ (r : Record). not (eq_by_cmp key_cmp c.args.key.now r.0)) _ (λ r b f' k. search rules) _ _ c.retain.ensures.filtered
