use Rattle.std.proofs.Common.{◌∙◌}
use Rattle.std.specs.Ordering.{nat_cmp}
use Rattle.std.specs.Cmp.Lexicographic.{slice_cmp}
use Rattle.kd_base.proofs.NameNumbers.{cmp_by_number}
use Rattle.kd_base.proofs.name.NameOfOrd.cmp.Goals as goal

pub returns-then-this-eq8 : goal.returns-then-this-eq8
returns-then-this-eq8 g c =
    cmp_by_number g.row.N c.self.inside c.other.inside _ _ _ c.self.invariant c.other.invariant c.eight_as_number.ensures c.eight_as_number-then-this-eq8.ensures c.cmp.ensures
    ∙ (λ i. slice_cmp nat_cmp (c.self.view_is i) (c.other.view_is i))
