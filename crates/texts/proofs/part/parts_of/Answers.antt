use Rattle.std.proofs.Common.{◌≡◌, ◌-◌, ◌<◌, List, length, Some, sym, ap, ◌∙◌, arith, rules}
use Rattle.std.proofs.lemmas.Bool.{eqb-true}
use Rattle.std.proofs.lemmas.List.{append-nil}
use Rattle.texts.specs.PartedLaws.{parts_end, parts_fail, parts_more}
use Rattle.texts.proofs.part.parts_of.Goals as goal

pub returns-then-is_empty : goal.returns-then-is_empty
returns-then-is_empty g c =
    parts_end g.P.Part.part_at c.loop.parts.items _ c.loop.rest.now _ (eqb-true _ _ (sym c.is_empty.ensures ∙ c.if-is_empty.true)) c.loop.invariant

pub loop-preserved : goal.loop-preserved
loop-preserved g c =
    let found = rw c.in-Some.is at c.in_ok-part.ensures in
    let some : 0 < length c.loop.rest.now = search rules in
    rw c.in_ok-push.ensures.items (parts_more g.P.Part.part_at c.loop.parts.items _ c.loop.counter c.loop.rest.now c.in-Some.part c.in-Some.after.now _ c.loop-test.true some (sym found) c.loop.invariant)

pub returns-in_default : goal.returns-in_default
returns-in_default g c =
    let failed = rw c.in_default.is at c.in_ok-part.ensures in
    let some : 0 < length c.loop.rest.now = search rules in
    parts_fail g.P.Part.part_at c.loop.parts.items _ c.loop.counter c.loop.rest.now _ c.loop-test.true some (sym failed) c.loop.invariant

pub returns : goal.returns
returns g c =
    let none : length c.from_first-rest.result.now - c.loop.counter ≡ 0 = omega arith in
    ap (λ (ps : List g.row.P.Denot). Some ps) (sym (append-nil c.loop.parts.items)) ∙ (rw none at c.loop.invariant)
