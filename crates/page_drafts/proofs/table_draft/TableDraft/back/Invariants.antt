use Rattle.std.proofs.Common.{◌≡◌, ◌+◌, ◌<◌, ◌≤◌, length}
use Rattle.std.specs.Prelude.{All, vec_len, vec_capacity}
use Rattle.page_drafts.specs.declared.parts.Undo.{Undo}
use Rattle.page_drafts.specs.Undoing.{parts_of, place_of, undone_all}
use Rattle.page_drafts.proofs.table_draft.TableDraft.back.Given as goal

abbrev pub invariant-loop-last : goal.invariant-loop-last
invariant-loop-last l = record {
  before : undone_all l.undo.items (parts_of l.parts) ≡ undone_all l.initial.undo.items (parts_of l.initial.parts);
  places : All (λ (u : Undo). place_of u < length l.parts.slots.items) l.undo.items;
  room : vec_len l.parts.free + vec_len l.undo ≤ vec_capacity l.parts.free;
}

abbrev pub decreases-loop-last : goal.decreases-loop-last
decreases-loop-last l = goal.left-loop-last l
