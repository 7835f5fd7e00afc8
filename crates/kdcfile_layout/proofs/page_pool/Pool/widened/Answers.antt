use Rattle.std.proofs.Common.{◌<◌, ◌≤◌, ◌∙◌, Bool, List, arith, ap, sym, length, false, set, subst}
use Rattle.kdcfile_layout.proofs.page_pool.Widening.{copied, next_copied, next_is_free}
use Rattle.kdcfile_layout.specs.Places.{At}
use Rattle.kdcfile_layout.proofs.page_pool.Pool.widened.Goals as goal

pub copy_mark-requires-clause-free : goal.copy_mark-requires-clause-free
copy_mark-requires-clause-free c =
    let used = c.self.inside.used.items in
    let within : c.loop-page.page < length used = omega (arith, c.loop-page-test.true, c.len-page-end.ensures) in
    let wide : length used ≤ c.args.pages = omega (arith, c.requires.more, ap (λ (l : List Bool). length l) c.self.view_is) in
    subst (λ (l : List Bool). At l c.loop-page.page false) (sym c.loop-page.invariant) (next_is_free c.loop-page.page c.args.pages used within wide)

pub loop-page-preserved : goal.loop-page-preserved
loop-page-preserved c =
    let used = c.self.inside.used.items in
    let within : c.loop-page.page < length used = omega (arith, c.loop-page-test.true, c.len-page-end.ensures) in
    let wide : length used ≤ c.args.pages = omega (arith, c.requires.more, ap (λ (l : List Bool). length l) c.self.view_is) in
    c.copy_mark.ensures ∙ ap (λ (l : List Bool). set l c.loop-page.page c.index.result.now) c.loop-page.invariant
    ∙ ap (set (copied c.loop-page.page c.args.pages used) c.loop-page.page) c.index.ensures ∙ next_copied c.loop-page.page c.args.pages used c.index.result.now within wide
