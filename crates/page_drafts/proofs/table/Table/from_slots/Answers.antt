use Rattle.std.proofs.Common.{List, [], Option, ℕ, length, subst, sym}
use Rattle.kdcfile_layout.specs.declared.chain.Chain.{Chain}
use Rattle.page_drafts.specs.Tables.{IsFreeFrom, IsIndexed, IsIndexedTo}
use Rattle.page_drafts.specs.TablesLaws.{indexed_whole}
use Rattle.page_drafts.proofs.table.Table.from_slots.Goals as goal

pub invariant_of-result : goal.invariant_of-result
invariant_of-result c =
    subst (λ (l : List (Option Chain)). IsIndexed (record { slots = l; index = c.in_ok-index.index; free = c.in_ok-free.free.items }) []) (sym c.into_vec.ensures)
    (indexed_whole c.args.slots c.in_ok-index.index c.in_ok-free.free.items
    (subst (λ (l : List (Option Chain)). IsIndexedTo l c.in_ok-index.index (length l)) c.as_slice.ensures c.in_ok-index.ensures)
    (subst (λ (l : List (Option Chain)). IsFreeFrom l c.in_ok-free.free.items 0) c.as_slice-2.ensures c.in_ok-free.ensures))
