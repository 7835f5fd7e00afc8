use Rattle.std.proofs.Common.{◌∙◌, subst}
use Rattle.page_drafts.specs.Tables.{IsIndexed}
use Rattle.page_drafts.specs.Undoing.{parts_of, gone_keys}
use Rattle.page_drafts.specs.UndoingLaws.{gone_less}
use Rattle.page_drafts.proofs.table_draft.TableDraft.done.Goals as goal

pub forget-requires : goal.forget-requires
forget-requires c = (gone_keys c.pop.new.self.items, subst (IsIndexed (parts_of c.loop-last.parts)) (gone_less c.loop-last.undo.items c.pop.new.self.items c.in-Some.last c.in-Some.ensures.items) c.loop-last.invariant.indexed)

pub loop-last-preserved : goal.loop-last-preserved
loop-last-preserved c = record {
  slots = c.forget.ensures.slots ∙ c.loop-last.invariant.slots;
  indexed =
      c.forget.ensures.indexed (gone_keys c.pop.new.self.items)
      (subst (IsIndexed (parts_of c.loop-last.parts)) (gone_less c.loop-last.undo.items c.pop.new.self.items c.in-Some.last c.in-Some.ensures.items) c.loop-last.invariant.indexed);
}
