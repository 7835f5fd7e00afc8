use Rattle.std.proofs.Common.{◌<◌, ◌∙◌, ap, arith, length, subst, sym}
use Rattle.std.specs.Prelude.{All}
use Rattle.page_drafts.specs.declared.parts.Undo.{Undo}
use Rattle.page_drafts.specs.Tables.{Parts}
use Rattle.page_drafts.specs.Undoing.{parts_of, place_of, undone_all}
use Rattle.page_drafts.specs.UndoingLaws.{undone_less, last_place, less_places}
use Rattle.page_drafts.proofs.table_draft.TableDraft.back.Goals as goal

pub take_back-requires-clause-place : goal.take_back-requires-clause-place
take_back-requires-clause-place c = last_place c.loop-last.undo.items c.pop.new.self.items c.in-Some.last c.in-Some.ensures.items (length c.loop-last.parts.slots.items) c.loop-last.invariant.places

pub loop-last-preserved : goal.loop-last-preserved
loop-last-preserved c = record {
  before =
      ap (undone_all c.pop.new.self.items) c.take_back.ensures.parts
      ∙ undone_less c.loop-last.undo.items c.pop.new.self.items c.in-Some.last c.in-Some.ensures.items (parts_of c.loop-last.parts)
      ∙ c.loop-last.invariant.before;
  places =
      subst (λ (p : Parts). All (λ (u : Undo). place_of u < length p.slots) c.pop.new.self.items) (sym c.take_back.ensures.parts)
      (less_places c.loop-last.undo.items c.pop.new.self.items c.in-Some.last c.in-Some.ensures.items (parts_of c.loop-last.parts) c.loop-last.invariant.places);
  room = omega (arith, c.loop-last.invariant.room, c.in-Some.ensures.len, c.take_back.ensures.len, c.take_back.ensures.capacity);
}
