use Rattle.std.proofs.Common.{◌≡◌, ℕ, List, Option, ap, ◌∙◌}
use Rattle.std.specs.Option.{option_map}
use Rattle.kdcfile_layout.specs.declared.kdcfile_read.part.Part.{Part}
use Rattle.kdcfile_layout.specs.Chains.{Held, part_of, part_at}
use Rattle.kdcfile_load.specs.Reads.{page_in}
use Rattle.kdcfile_load.proofs.Choices.{ok_then}
use Rattle.kdcfile_load.proofs.SoFarLaws.{part_there}
use Rattle.kdcfile_load.proofs.part.part_on.Goals as goal

pub returns-clause-value : goal.returns-clause-value
returns-clause-value c =
    let held : Option Part → Option Held = λ o. option_map (λ (q : Part). (q.next, q.bytes)) o in
    ok_then (λ (o : Option Part). held o ≡ part_of c.args.size c.args.key.now c.args.whole c.args.part c.as_slice.result.now)
    (λ (o : Option Part). (count : ℕ) (p : ℕ) (h : List ℕ) → c.args.page.now.items ≡ page_in c.args.size count h p → held o ≡ part_at c.args.size count h c.args.key.now c.args.whole c.args.part p)
    c.part_of.result c.part_of.ensures.value
    (λ o is count p h page.
    is
    ∙ ap (λ (l : List ℕ). part_of c.args.size c.args.key.now c.args.whole c.args.part l) (c.as_slice.ensures.value ∙ page)
    ∙ part_there c.args.size count h c.args.key.now c.args.whole c.args.part p c.requires.size)
