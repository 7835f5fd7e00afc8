use Rattle.std.proofs.Common.{◌∙◌, Some, ap, sym, subst, arith}
use Rattle.kdcfile_layout.specs.declared.chain.Chain.{Chain}
use Rattle.kdcfile_layout.specs.Places.{At}
use Rattle.page_drafts.specs.Tables.{Parts}
use Rattle.page_drafts.specs.Undoing.{Changing, parts_of}
use Rattle.page_drafts.specs.UndoingLaws.{removed_on, not_free}
use Rattle.page_drafts.proofs.table_draft.TableDraft.free_place.Goals as goal

pub unreachable-requires : goal.unreachable-requires
unreachable-requires c =
    let has = subst (λ (v : Changing). (d : Chain) × At v.slots c.args.place (Some d)) (sym c.self.view_is) c.requires in
    not_free c.self.inside.parts.slots.items c.args.place c.index_mut.result.now has.0 has.1 c.index_mut.ensures.value c.in-None.ensures.value

pub invariant_of-self-in-Some : goal.invariant_of-self-in-Some
invariant_of-self-in-Some c =
    let has = subst (λ (v : Changing). (d : Chain) × At v.slots c.args.place (Some d)) (sym c.self.view_is) c.requires in
    let on = removed_on (parts_of c.self.inside.parts) c.self.inside.undo.items c.make_room.new.undo.items c.push_reserved-in-Some.new.self.items c.self.invariant.0 c.make_room.ensures.undo c.make_room.new.free.items c.push_reserved.new.self.items c.args.place c.in-Some.old c.index_mut.result.now c.replace-old.new.dest c.make_room.ensures.free c.push_reserved.ensures.items c.replace-old.ensures.after c.push_reserved-in-Some.ensures.items has c.index_mut.ensures.value c.in-Some.ensures.value in
    (on.changing, omega (arith, c.in_ok-make_room.ensures.ok))

pub returns-clause-before : goal.returns-clause-before
returns-clause-before c =
    let has = subst (λ (v : Changing). (d : Chain) × At v.slots c.args.place (Some d)) (sym c.self.view_is) c.requires in
    let on = removed_on (parts_of c.self.inside.parts) c.self.inside.undo.items c.make_room.new.undo.items c.push_reserved-in-Some.new.self.items c.self.invariant.0 c.make_room.ensures.undo c.make_room.new.free.items c.push_reserved.new.self.items c.args.place c.in-Some.old c.index_mut.result.now c.replace-old.new.dest c.make_room.ensures.free c.push_reserved.ensures.items c.replace-old.ensures.after c.push_reserved-in-Some.ensures.items has c.index_mut.ensures.value c.in-Some.ensures.value in
    ap (λ (p : Parts). p.slots) on.before ∙ ap (λ (v : Changing). v.before) c.self.view_is
