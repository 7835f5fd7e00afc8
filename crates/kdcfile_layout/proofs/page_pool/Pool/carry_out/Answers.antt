use Rattle.std.proofs.Common.{◌∙◌, ◌≡◌, ◌+◌, ap, sym, subst, true, false, length, List, ℕ, Bool, arith}
use Rattle.std.proofs.lemmas.Option.{slice_get_within}
use Rattle.kdcfile_layout.specs.Places.{At}
use Rattle.kdcfile_layout.specs.PoolsLaws.{length_flagged, flag_stays, count_settled}
use Rattle.kdcfile_layout.specs.Pools.{free_count, flagged}
use Rattle.kdcfile_layout.proofs.page_pool.Pool.carry_out.Goals as goal

pub mark_all-requires-clause-there : goal.mark_all-requires-clause-there
mark_all-requires-clause-there c = λ n p at. slice_get_within c.args.self.now p false (c.requires.planned.clear n p (subst (λ (l : List ℕ). At l n p) c.as_slice.ensures at))

pub release_all-requires-clause-few : goal.release_all-requires-clause-few
release_all-requires-clause-few c = omega (arith, c.requires.few, ap (λ (u : List Bool). length u) c.mark_all.ensures, length_flagged true c.as_slice.result.now c.args.self.now)

pub release_all-requires-clause-used : goal.release_all-requires-clause-used
release_all-requires-clause-used c = λ n p at.
    subst (λ (u : List Bool). At u p true) (sym c.mark_all.ensures) (flag_stays c.as_slice.result.now c.args.self.now p (c.requires.used n p (subst (λ (l : List ℕ). At l n p) c.as_slice-2.ensures at)))

pub returns-clause-count : goal.returns-clause-count
returns-clause-count c =
    let used : c.mark_all.new.self ≡ flagged true c.args.self.now c.args.plan.pages = c.mark_all.ensures ∙ ap (λ (l : List ℕ). flagged true c.args.self.now l) c.as_slice.ensures in
    let flags : c.release_all.new.self ≡ flagged false (flagged true c.args.self.now c.args.plan.pages) c.args.plan.freed =
    c.release_all.ensures
    ∙ ap (λ (l : List ℕ). flagged false c.mark_all.new.self l) c.as_slice-2.ensures
    ∙ ap (λ (u : List Bool). flagged false u c.args.plan.freed) used in
    subst (λ (u : List Bool). free_count u + length c.args.plan.pages ≡ free_count c.args.self.now + length c.args.plan.freed) (sym flags)
    (count_settled c.args.self.now c.args.plan.pages c.args.plan.freed c.requires.planned c.requires.distinct c.requires.used)
