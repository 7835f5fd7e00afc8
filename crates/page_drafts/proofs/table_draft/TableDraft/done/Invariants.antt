use Rattle.std.proofs.Common.{◌≡◌}
use Rattle.page_drafts.specs.Tables.{IsIndexed}
use Rattle.page_drafts.specs.Undoing.{parts_of, gone_keys}
use Rattle.page_drafts.proofs.table_draft.TableDraft.done.Given as goal

abbrev pub invariant-loop-last : goal.invariant-loop-last
invariant-loop-last l = record {
  slots : l.parts.slots.items ≡ l.initial.parts.slots.items;
  indexed : IsIndexed (parts_of l.parts) (gone_keys l.undo.items);
}

abbrev pub decreases-loop-last : goal.decreases-loop-last
decreases-loop-last l = goal.left-loop-last l
