use Rattle.std.proofs.Common.{◌≡◌, ◌+◌, ◌-◌, length, refl, subst, ℕ, arith}
use Rattle.std.proofs.lemmas.Option.{slice_get_read}
use Rattle.page_drafts.specs.Tables.{IsFreeFrom}
use Rattle.page_drafts.specs.TablesLaws.{free_more}
use Rattle.page_drafts.proofs.table.free_of.Goals as goal

pub loop-n-preserved : goal.loop-n-preserved
loop-n-preserved c =
    let place : ℕ = length c.args.slots.now - 1 - c.loop-n.n in
    let next : place ≡ length c.args.slots.now - (c.loop-n.n + 1) = omega arith in
    let before : length c.args.slots.now - c.loop-n.n ≡ place + 1 = omega (arith, c.loop-n-test.true) in
    subst (λ (m : ℕ). IsFreeFrom c.args.slots.now c.add_free.new.free.items m) next
    (free_more c.args.slots.now c.loop-n.free.items place (omega (arith, c.loop-n-test.true)) (subst (λ (m : ℕ). IsFreeFrom c.args.slots.now c.loop-n.free.items m) before c.loop-n.invariant) c.index-slots-place.result c.add_free.new.free.items
    (slice_get_read c.args.slots.now (length c.args.slots.now) place _ refl (omega (arith, c.loop-n-test.true)) c.index-slots-place.is)
    c.in_ok-add_free.ensures.none c.in_ok-add_free.ensures.some)
