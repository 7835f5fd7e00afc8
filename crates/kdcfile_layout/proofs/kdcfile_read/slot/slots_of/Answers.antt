use Rattle.std.proofs.Common.{ℕ, List, sym, ap, ◌∙◌, ◌+◌, ◌-◌, ◌∷◌, [], arith}
use Rattle.kd_base.specs.Tools.{onto}
use Rattle.kdcfile_layout.specs.Slots.{slots_of}
use Rattle.kdcfile_layout.proofs.kdcfile_read.SoFar.{at_first, ended, one_more, all_read}
use Rattle.kdcfile_layout.proofs.kdcfile_read.Turns.{no_slots, no_slot, a_slot}
use Rattle.kdcfile_layout.proofs.kdcfile_read.slot.slots_of.Goals as goal

pub loop-init : goal.loop-init
loop-init c = at_first slots_of c.new-slots.result c.args.count c.args.page.now c.new-slots.ensures

pub returns-in_default-clause-value : goal.returns-in_default-clause-value
returns-in_default-clause-value c =
    ended slots_of c.loop.slots c.args.count c.loop.counter c.loop.left.now (slots_of c.args.count c.args.page.now) c.loop.invariant c.loop-test.true
    (no_slot (c.args.count - (c.loop.counter + 1)) c.loop.left.now (sym c.slot_of.ensures.value ∙ c.in_default.is))

pub loop-preserved : goal.loop-preserved
loop-preserved c =
    one_more slots_of c.loop.slots c.args.count c.loop.counter c.loop.left.now (slots_of c.args.count c.args.page.now) c.loop.invariant c.loop-test.true c.in-Some.slot c.split_at.result.1.now
    (a_slot (c.args.count - (c.loop.counter + 1)) c.loop.left.now c.in-Some.slot (sym c.slot_of.ensures.value ∙ c.in-Some.is)
    ∙ ap (λ (l : List ℕ). onto (c.in-Some.slot ∷ []) (slots_of (c.args.count - (c.loop.counter + 1)) l)) (sym c.split_at.ensures.back))
    c.push.new.self c.in_ok-push.ensures.ok

pub returns-clause-value : goal.returns-clause-value
returns-clause-value c = all_read slots_of c.loop.slots c.args.count c.loop.counter c.loop.left.now (slots_of c.args.count c.args.page.now) c.loop.invariant (omega (arith, c.loop-test.false)) (no_slots c.loop.left.now)
