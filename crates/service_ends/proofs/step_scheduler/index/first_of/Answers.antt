use Rattle.std.proofs.Common.{sym, ◌∙◌}
use Rattle.std.specs.Cmp.{Equal-is}
use Rattle.std.specs.Map.Iter.{deref_pair}
use Rattle.std.proofs.lemmas.Map.Iter.{rest_all}
use Rattle.service_ends.proofs.step_scheduler.Least.{none_marked, first_marked, other_marked}
use Rattle.service_ends.proofs.step_scheduler.index.first_of.Goals as goal

pub returns-then-eq : goal.returns-then-eq
returns-then-eq g c =
    let tied = (Equal-is _).0 (sym (g.met.K.Ord.matches_eq c.in-Some.field-0-0.now.0 c.args.key.now) ∙ sym c.eq.ensures ∙ c.if-eq.true) in
    first_marked g.K.Ord.cmp g.met.K.Ord.total c.args.key.now c.args.index.now _ _ _ (sym c.from.ensures.pairs ∙ c.in-Some.ensures.steps) c.from.ensures.ascending tied

pub returns-else-eq : goal.returns-else-eq
returns-else-eq g c =
    let other = sym (g.met.K.Ord.matches_eq c.in-Some.field-0-0.now.0 c.args.key.now) ∙ sym c.eq.ensures ∙ c.if-eq.false in
    other_marked g.K.Ord.cmp g.met.K.Ord.total c.args.key.now c.args.index.now _ _ _ (sym c.from.ensures.pairs ∙ c.in-Some.ensures.steps) c.from.ensures.ascending other

pub returns-in_default : goal.returns-in_default
returns-in_default g c = none_marked g.K.Ord.cmp g.met.K.Ord.total c.args.key.now c.args.index.now (sym c.from.ensures.pairs ∙ rest_all deref_pair _ _ _ c.in_default.is c.next.ensures.steps)
