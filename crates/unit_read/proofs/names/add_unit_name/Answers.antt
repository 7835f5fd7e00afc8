use Rattle.std.proofs.lemmas.Map.Text.{is_eq-slice_cmp}
use Rattle.unit_read.proofs.Kept.{holds_more}
use Rattle.unit_read.proofs.names.add_unit_name.Goals as goal

pub returns : goal.returns
returns c = λ q. holds_more c.args.names.now c.insert.new.self c.args.name.now q _ (is_eq-slice_cmp c.args.name.now q) (c.in_ok-insert.ensures.updates.0 q)
