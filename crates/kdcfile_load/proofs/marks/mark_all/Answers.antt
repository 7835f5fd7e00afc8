use Rattle.std.proofs.Common.{◌∙◌, List, Bool, false, true, get_or, refl, ap, subst, sym}
use Rattle.std.specs.Prelude.{set, length}
use Rattle.std.proofs.lemmas.List.{length-set}
use Rattle.kdcfile_layout.specs.Places.{At}
use Rattle.kdcfile_load.proofs.MarksLaws.{one_clear, one_flagged, one_taken}
use Rattle.kdcfile_load.proofs.marks.mark_all.Goals as goal

pub returns-then-not-mark_one-clause-taken : goal.returns-then-not-mark_one-clause-taken
returns-then-not-mark_one-clause-taken c = λ e clear.
    one_taken c.args.pool.now c.args.pages.now c.loop-page.page-index (get_or c.args.pages.now c.loop-page.page-index 0) c.loop-page-test.true refl
    (λ here. c.mark_one.ensures.taken c.if-not-mark_one.true (subst (λ (u : List Bool). At u (get_or c.args.pages.now c.loop-page.page-index 0) false) (sym c.loop-page.invariant.used) here)) clear

pub loop-page-preserved : goal.loop-page-preserved
loop-page-preserved c = record {
  long = ap (λ (u : List Bool). length u) (c.mark_one.ensures.used c.if-not-mark_one.false) ∙ length-set c.loop-page.pool (get_or c.args.pages.now c.loop-page.page-index 0) true ∙ c.loop-page.invariant.long;
  clear =
      one_clear c.args.pool.now c.args.pages.now c.loop-page.page-index (get_or c.args.pages.now c.loop-page.page-index 0) c.loop-page-test.true refl c.loop-page.invariant.clear
      (subst (λ (u : List Bool). At u (get_or c.args.pages.now c.loop-page.page-index 0) false) c.loop-page.invariant.used (c.mark_one.ensures.clear c.if-not-mark_one.false));
  used =
      one_flagged c.args.pool.now c.args.pages.now c.loop-page.page-index (get_or c.args.pages.now c.loop-page.page-index 0) c.loop-page-test.true refl c.mark_one.new.pool
      (c.mark_one.ensures.used c.if-not-mark_one.false ∙ ap (λ (u : List Bool). set u (get_or c.args.pages.now c.loop-page.page-index 0) true) c.loop-page.invariant.used);
}
