use Rattle.std.proofs.Common.{arith, ℕ, ◌<◌, true, false, subst, refl, ◌∙◌}
use Rattle.kdcfile_layout.specs.Places.{At}
use Rattle.page_drafts.specs.Drafting.{Drafting, stale_pages}
use Rattle.page_drafts.specs.DraftRunsLaws.{page_left, freshens_none, freshens_next, fewer_stale}
use Rattle.page_drafts.proofs.draft.Draft.freshen_all.Goals as goal

pub loop-k-init : goal.loop-k-init
loop-k-init c = record { made = (0, omega arith, freshens_none c.args.size c.args.plan.now c.args.self.now c.requires.sized); before = refl }

pub put_directory_page-requires-clause-enough : goal.put_directory_page-requires-clause-enough
put_directory_page-requires-clause-enough c =
    page_left c.args.plan.now c.in-Some.k c.args.self.now c.loop-k.self c.loop-k.invariant.made.2.weight c.requires.enough
    (subst (λ (d : Drafting). At d.stale c.in-Some.k true) c.self.view_is c.in-Some.ensures.stale)

pub loop-k-smaller : goal.loop-k-smaller
loop-k-smaller c =
    let stale = subst (λ (d : Drafting). At d.stale c.in-Some.k true) c.self.view_is c.in-Some.ensures.stale in
    let less : stale_pages c.put_directory_page.new.self < stale_pages c.loop-k.self = omega (arith, fewer_stale c.args.size c.args.plan.now c.in-Some.k c.loop-k.self c.put_directory_page.new.self stale c.in_ok-put_directory_page.ensures.written) in
    less

pub loop-k-preserved : goal.loop-k-preserved
loop-k-preserved c = record {
  made =
      freshens_next c.args.size c.requires.size c.args.plan.now c.in-Some.k c.args.self.now c.loop-k.self c.put_directory_page.new.self c.loop-k.invariant.made
      (subst (λ (d : Drafting). At d.stale c.in-Some.k true) c.self.view_is c.in-Some.ensures.stale)
      (subst (λ (d : Drafting). (j : ℕ) → j < c.in-Some.k → At d.stale j false) c.self.view_is c.in-Some.ensures.first)
      c.in_ok-put_directory_page.ensures.written;
  before = c.put_directory_page.ensures.before ∙ c.loop-k.invariant.before;
}
