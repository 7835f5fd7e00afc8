use Rattle.std.proofs.Common.{sym, ◌∙◌}
use Rattle.kdcs_types.specs.KeyLaws.{area_eq_same}
use Rattle.lab_states.proofs.same.AreaSame.is_same.Goals as goal

pub returns : goal.returns
returns c = λ same. area_eq_same c.args.self.now c.args.other.now (sym c.eq.ensures ∙ same)
