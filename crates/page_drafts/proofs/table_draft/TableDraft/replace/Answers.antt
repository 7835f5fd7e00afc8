use Rattle.std.proofs.Common.{◌∙◌, ap, sym, subst, arith}
use Rattle.page_drafts.specs.Tables.{Parts, HasKey}
use Rattle.page_drafts.specs.Undoing.{Changing, parts_of}
use Rattle.page_drafts.specs.UndoingLaws.{replaced_on, not_free}
use Rattle.page_drafts.proofs.table_draft.TableDraft.replace.Goals as goal

pub unreachable-requires : goal.unreachable-requires
unreachable-requires c =
    let has = subst (λ (v : Changing). HasKey v.slots c.args.place c.args.chain.key) (sym c.self.view_is) c.requires in
    not_free c.self.inside.parts.slots.items c.args.place c.index_mut.result.now has.0 has.1 c.index_mut.ensures.value c.in-None.ensures.value

pub invariant_of-self-in-Some : goal.invariant_of-self-in-Some
invariant_of-self-in-Some c =
    let has = subst (λ (v : Changing). HasKey v.slots c.args.place c.args.chain.key) (sym c.self.view_is) c.requires in
    let on = replaced_on (parts_of c.self.inside.parts) c.self.inside.undo.items c.make_room.new.undo.items c.push_reserved.new.self.items c.self.invariant.0 c.make_room.ensures.undo c.make_room.new.free.items c.args.place c.in-Some.old c.args.chain c.index_mut.result.now c.replace-old.new.dest c.make_room.ensures.free c.replace-old.ensures.after c.push_reserved.ensures.items has c.index_mut.ensures.value c.in-Some.ensures.value in
    (on.changing, omega (arith, c.in_ok-make_room.ensures.ok))

pub returns-clause-before : goal.returns-clause-before
returns-clause-before c =
    let has = subst (λ (v : Changing). HasKey v.slots c.args.place c.args.chain.key) (sym c.self.view_is) c.requires in
    let on = replaced_on (parts_of c.self.inside.parts) c.self.inside.undo.items c.make_room.new.undo.items c.push_reserved.new.self.items c.self.invariant.0 c.make_room.ensures.undo c.make_room.new.free.items c.args.place c.in-Some.old c.args.chain c.index_mut.result.now c.replace-old.new.dest c.make_room.ensures.free c.replace-old.ensures.after c.push_reserved.ensures.items has c.index_mut.ensures.value c.in-Some.ensures.value in
    ap (λ (p : Parts). p.slots) on.before ∙ ap (λ (v : Changing). v.before) c.self.view_is
