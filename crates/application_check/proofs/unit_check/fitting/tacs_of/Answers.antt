use Rattle.std.proofs.Common.{◌∙◌}
use Rattle.std.proofs.lemmas.List.Elements.{same_from_all_zip}
use Rattle.application_check.proofs.unit_check.Laws.{pair_same}
use Rattle.application_check.proofs.unit_check.fitting.tacs_of.Goals as goal

pub returns : goal.returns
returns c = same_from_all_zip _ _ _ c.in_ok-clone.ensures.cases (λ x y r. pair_same x y r.0 r.1) ∙ c.tacs.ensures
