use Rattle.std.proofs.Common.{◌∙◌}
use Rattle.std.specs.Prelude.{nat_eq}
use Rattle.std.specs.Cmp.Lexicographic.{pointwise}
use Rattle.kd_base.proofs.NameNumbers.{eq_by_number}
use Rattle.kd_base.proofs.name.NameOfPartialEq.eq.Goals as goal

pub returns-then-this-eq8 : goal.returns-then-this-eq8
returns-then-this-eq8 g c =
    eq_by_number g.row.N c.self.inside c.other.inside _ _ c.self.invariant c.other.invariant c.eight_as_number.ensures c.eight_as_number-then-this-eq8.ensures
    ∙ (λ i. pointwise nat_eq (c.self.view_is i) (c.other.view_is i))
