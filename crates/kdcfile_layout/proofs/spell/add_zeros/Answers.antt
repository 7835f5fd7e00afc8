use Rattle.std.proofs.Common.{◌∙◌, List, ℕ, length, ap, arith, length-append}
use Rattle.std.specs.Vec.{vec_len}
use Rattle.kdcfile_layout.specs.Layout.{zeros}
use Rattle.kdcfile_layout.specs.FreshLaws.{filled}
use Rattle.kdcfile_layout.specs.PagesLaws.{length_zeros}
use Rattle.kdcfile_layout.proofs.spell.add_zeros.Goals as goal

pub returns-clause-bytes : goal.returns-clause-bytes
returns-clause-bytes c = c.in_ok-resize.ensures.items ∙ filled c.args.to.now.items c.args.count (vec_len c.args.to.now) c.len.result (c.args.to.now.ok.0) c.len.ensures

pub returns-clause-length : goal.returns-clause-length
returns-clause-length c =
    ap (λ (l : List ℕ). length l) (c.in_ok-resize.ensures.items ∙ filled c.args.to.now.items c.args.count (vec_len c.args.to.now) c.len.result (c.args.to.now.ok.0) c.len.ensures)
    ∙ omega (arith, length-append c.args.to.now.items (zeros c.args.count), length_zeros c.args.count)
