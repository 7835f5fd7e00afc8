use Rattle.std.proofs.Common.{◌<◌, ◌-◌, ◌∙◌, take, length, ap, sym, subst, arith}
use Rattle.std.specs.Prelude.{Option, None}
use Rattle.std.specs.Vec.{vec_len}
use Rattle.kdcfile_layout.specs.declared.chain.Chain.{Chain}
use Rattle.kdcfile_layout.specs.Layout.{used}
use Rattle.kdcfile_layout.specs.PlacesLaws.{at_within}
use Rattle.page_drafts.specs.Tables.{Parts, IsAbsent}
use Rattle.page_drafts.specs.TablesLaws.{last_free, place_from_free}
use Rattle.page_drafts.specs.Undoing.{Changing, parts_of}
use Rattle.page_drafts.specs.UndoingLaws.{added_on}
use Rattle.page_drafts.proofs.table_draft.TableDraft.add.Goals as goal

pub index_mut-requires : goal.index_mut-requires
index_mut-requires c =
    let room = subst (λ (v : Changing). used v.slots < length v.slots) (sym c.self.view_is) c.requires.room in
    let last = last_free (parts_of c.self.inside.parts) _ c.self.invariant.0.indexed room c.make_room.new.free.items c.len.result (vec_len c.make_room.new.free) c.index-place.result.now c.make_room.ensures.free c.len.ensures c.make_room.new.free.ok.0 c.index-place.ensures in
    let no_chain : Option Chain = None in
    let there : c.index-place.result.now < length c.self.inside.parts.slots.items = at_within c.self.inside.parts.slots.items c.index-place.result.now no_chain last.1 in
    omega (arith, there, c.self.inside.parts.slots.ok.0)

pub invariant_of-self-2 : goal.invariant_of-self-2
invariant_of-self-2 c =
    let room = subst (λ (v : Changing). used v.slots < length v.slots) (sym c.self.view_is) c.requires.room in
    let absent = subst (λ (v : Changing). IsAbsent c.args.chain.key v.slots) (sym c.self.view_is) c.requires.absent in
    let last = last_free (parts_of c.self.inside.parts) _ c.self.invariant.0.indexed room c.make_room.new.free.items c.len.result (vec_len c.make_room.new.free) c.index-place.result.now c.make_room.ensures.free c.len.ensures c.make_room.new.free.ok.0 c.index-place.ensures in
    let on = added_on (parts_of c.self.inside.parts) c.self.inside.undo.items c.make_room.new.undo.items c.push_reserved.new.self.items c.self.invariant.0 c.make_room.ensures.undo c.put.new.self c.pop.new.self.items (take (vec_len c.make_room.new.free - 1) c.make_room.new.free.items) c.index-place.result.now c.copied-was.result c.args.chain c.in_ok-put.ensures.ok c.pop.ensures.rest last.0 (c.copied-was.ensures ∙ c.get.ensures.value) c.push_reserved.ensures.items absent last.1 in
    (on.changing, omega (arith, c.in_ok-make_room.ensures.ok, c.pop.ensures.len))

pub returns-clause-place : goal.returns-clause-place
returns-clause-place c =
    let room = subst (λ (v : Changing). used v.slots < length v.slots) (sym c.self.view_is) c.requires.room in
    let absent = subst (λ (v : Changing). IsAbsent c.args.chain.key v.slots) (sym c.self.view_is) c.requires.absent in
    let last = last_free (parts_of c.self.inside.parts) _ c.self.invariant.0.indexed room c.make_room.new.free.items c.len.result (vec_len c.make_room.new.free) c.index-place.result.now c.make_room.ensures.free c.len.ensures c.make_room.new.free.ok.0 c.index-place.ensures in
    rw (← c.self.view_is) (place_from_free (parts_of c.self.inside.parts) _ c.self.invariant.0.indexed c.args.chain.key c.index-place.result.now absent last.1)

pub returns-clause-before : goal.returns-clause-before
returns-clause-before c =
    let room = subst (λ (v : Changing). used v.slots < length v.slots) (sym c.self.view_is) c.requires.room in
    let absent = subst (λ (v : Changing). IsAbsent c.args.chain.key v.slots) (sym c.self.view_is) c.requires.absent in
    let last = last_free (parts_of c.self.inside.parts) _ c.self.invariant.0.indexed room c.make_room.new.free.items c.len.result (vec_len c.make_room.new.free) c.index-place.result.now c.make_room.ensures.free c.len.ensures c.make_room.new.free.ok.0 c.index-place.ensures in
    let on = added_on (parts_of c.self.inside.parts) c.self.inside.undo.items c.make_room.new.undo.items c.push_reserved.new.self.items c.self.invariant.0 c.make_room.ensures.undo c.put.new.self c.pop.new.self.items (take (vec_len c.make_room.new.free - 1) c.make_room.new.free.items) c.index-place.result.now c.copied-was.result c.args.chain c.in_ok-put.ensures.ok c.pop.ensures.rest last.0 (c.copied-was.ensures ∙ c.get.ensures.value) c.push_reserved.ensures.items absent last.1 in
    ap (λ (p : Parts). p.slots) on.before ∙ ap (λ (v : Changing). v.before) c.self.view_is
