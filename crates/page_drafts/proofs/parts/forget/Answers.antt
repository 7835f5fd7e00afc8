use Rattle.std.proofs.Common.{◌++◌, subst}
use Rattle.page_drafts.specs.declared.parts.Undo.{Undo}
use Rattle.page_drafts.specs.TablesLaws.{indexed_forgotten, indexed_there}
use Rattle.page_drafts.specs.Tables.{IsIndexed}
use Rattle.page_drafts.specs.Undoing.{parts_of, gone_by}
use Rattle.page_drafts.proofs.parts.forget.Goals as goal

pub returns-in-Some-clause-indexed : goal.returns-in-Some-clause-indexed
returns-in-Some-clause-indexed c = λ gone is.
    let own = subst (λ (u : Undo). IsIndexed (parts_of c.args.parts.now) (gone ++ gone_by u)) c.in-Removed.is is in
    indexed_there (parts_of c.args.parts.now) gone c.in-Removed.chain.key own c.in-Some.field-0 c.in-Some.ensures.found

pub returns-clause-indexed : goal.returns-clause-indexed
returns-clause-indexed c = λ gone is.
    let own = subst (λ (u : Undo). IsIndexed (parts_of c.args.parts.now) (gone ++ gone_by u)) c.in-Removed.is is in
    rw c.remove.ensures.left (indexed_forgotten (parts_of c.args.parts.now) gone c.in-Removed.chain.key own c.in-None.ensures.none)
