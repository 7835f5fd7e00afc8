use Rattle.std.proofs.Common.{◌∙◌, ◌∷◌, [], ◌++◌, ap, arith, List}
use Rattle.kd_records.specs.Contents.{Record, Change}
use Rattle.kd_records.proofs.Undone.{sorted_after, undone_after}
use Rattle.kd_records.proofs.in_place.PatchedContent.change.Goals as goal

pub invariant_of-self-2 : goal.invariant_of-self-2
invariant_of-self-2 c = (
  sorted_after c.args.change.now.0 c.in_ok-value.value c.self.inside.records.items c.reserve-2.new.self.items _ c.self.invariant.0 c.reserve-2.ensures.items c.change_in_room-old.ensures.items,
  omega (arith, c.in_ok-reserve-2.ensures.ok),
)

pub returns-clause-before : goal.returns-clause-before
returns-clause-before c =
    rw (← c.self.view_is)
    (ap (λ (l : List Record). record { clock = c.self.inside.old_clock; next_job = c.self.inside.old_next_job; items = l })
    (undone_after c.self.inside.undo.items c.push_reserved.new.self.items c.args.change.now.0 c.in_ok-value.value c.change_in_room-old.result c.self.inside.records.items c.reserve-2.new.self.items c.change_in_room-old.new.records.items c.self.invariant.0 c.reserve-2.ensures.items c.change_in_room-old.ensures.value c.change_in_room-old.ensures.items
    (c.push_reserved.ensures.items ∙ ap (λ (l : List Change). l ++ (c.args.change.now.0, c.change_in_room-old.result) ∷ []) c.reserve.ensures.items)))
