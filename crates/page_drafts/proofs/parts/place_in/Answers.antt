use Rattle.std.proofs.Common.{arith, sym}
use Rattle.page_drafts.specs.TablesLaws.{index_absent, slot_absent, key_place, key_read, no_key_read}
use Rattle.page_drafts.proofs.parts.place_in.Goals as goal

pub returns-in_default-clause-none : goal.returns-in_default-clause-none
returns-in_default-clause-none c = index_absent _ c.requires.0 c.requires.1 c.args.key.now (sym c.in_default.ensures.value)

pub index-requires : goal.index-requires
index-requires c =
    let there = c.requires.1.there c.args.key.now c.in-Some.place.now (sym c.in-Some.ensures.value) in
    omega (arith, there, c.args.parts.now.slots.ok.0)

pub returns-then-has_key-clause-found : goal.returns-then-has_key-clause-found
returns-then-has_key-clause-found c =
    let there = c.requires.1.there c.args.key.now c.in-Some.place.now (sym c.in-Some.ensures.value) in
    key_read c.args.parts.now.slots.items c.in-Some.place.now c.index.result.now c.args.key.now there c.index.ensures (c.has_key.ensures.found c.if-has_key.true)

pub returns-then-has_key-clause-place : goal.returns-then-has_key-clause-place
returns-then-has_key-clause-place c =
    let there = c.requires.1.there c.args.key.now c.in-Some.place.now (sym c.in-Some.ensures.value) in
    key_place _ c.requires.0 c.requires.1 c.args.key.now c.in-Some.place.now
    (key_read c.args.parts.now.slots.items c.in-Some.place.now c.index.result.now c.args.key.now there c.index.ensures (c.has_key.ensures.found c.if-has_key.true))

pub returns-else-has_key-clause-none : goal.returns-else-has_key-clause-none
returns-else-has_key-clause-none c =
    let there = c.requires.1.there c.args.key.now c.in-Some.place.now (sym c.in-Some.ensures.value) in
    slot_absent _ c.requires.0 c.requires.1 c.args.key.now c.in-Some.place.now (sym c.in-Some.ensures.value)
    (no_key_read c.args.parts.now.slots.items c.in-Some.place.now c.index.result.now c.args.key.now there c.index.ensures (c.has_key.ensures.none c.if-has_key.false))
