use Rattle.std.proofs.Common.{◌∙◌, ap, arith, refl, sym, List}
use Rattle.kd_records.specs.Contents.{Change}
use Rattle.kd_records.specs.InPlace.{undone}
use Rattle.kd_records.proofs.Undone.{sorted_after, undone_last}
use Rattle.kd_records.proofs.in_place.PatchedContent.back.Goals as goal

pub loop-key-preserved-in-Some : goal.loop-key-preserved-in-Some
loop-key-preserved-in-Some c = record {
  ascending = sorted_after c.in-Some.key c.in-Some.value c.loop-key.records.items c.loop-key.records.items _ c.loop-key.invariant.ascending refl c.change_in_room.ensures.items;
  room = omega (arith, c.loop-key.invariant.room, c.in-Some.ensures.len);
  before =
      rw c.change_in_room.ensures.items
      (sym (undone_last c.pop.new.self.items (c.in-Some.key, c.in-Some.value) c.loop-key.records.items)
      ∙ ap (λ (l : List Change). undone l c.loop-key.records.items) (sym c.in-Some.ensures.items)
      ∙ c.loop-key.invariant.before);
}

pub loop-key-preserved : goal.loop-key-preserved
loop-key-preserved c = record {
  ascending = sorted_after c.in-Some.key c.in-Some.value c.loop-key.records.items c.loop-key.records.items _ c.loop-key.invariant.ascending refl c.change_in_room.ensures.items;
  room = omega (arith, c.loop-key.invariant.room, c.in-Some.ensures.len);
  before =
      rw c.change_in_room.ensures.items
      (sym (undone_last c.pop.new.self.items (c.in-Some.key, c.in-Some.value) c.loop-key.records.items)
      ∙ ap (λ (l : List Change). undone l c.loop-key.records.items) (sym c.in-Some.ensures.items)
      ∙ c.loop-key.invariant.before);
}
