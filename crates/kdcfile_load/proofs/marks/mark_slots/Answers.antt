use Rattle.std.proofs.Common.{◌∙◌, List, Bool, true, ap, subst, sym}
use Rattle.kdcfile_layout.specs.Pools.{flagged}
use Rattle.kdcfile_load.specs.Marks.{AreClear, pages_of}
use Rattle.kdcfile_load.proofs.MarksLaws.{slot_clear, slot_flagged, slot_taken}
use Rattle.kdcfile_load.proofs.marks.mark_slots.Goals as goal

pub returns-then-not-mark_slot-clause-taken : goal.returns-then-not-mark_slot-clause-taken
returns-then-not-mark_slot-clause-taken c = λ e clear.
    slot_taken c.args.pool.now c.args.slots.now c.loop-slot.slot-index c.slot-item.result c.loop-slot-test.true c.slot-item.is
    (λ here. c.mark_slot.ensures.taken c.if-not-mark_slot.true (subst (λ (u : List Bool). AreClear u (pages_of c.slot-item.result)) (sym c.loop-slot.invariant.used) here)) clear

pub loop-slot-preserved : goal.loop-slot-preserved
loop-slot-preserved c = record {
  long = c.mark_slot.ensures.long c.if-not-mark_slot.false;
  clear =
      slot_clear c.args.pool.now c.args.slots.now c.loop-slot.slot-index c.slot-item.result c.loop-slot-test.true c.slot-item.is c.loop-slot.invariant.clear
      (subst (λ (u : List Bool). AreClear u (pages_of c.slot-item.result)) c.loop-slot.invariant.used (c.mark_slot.ensures.clear c.if-not-mark_slot.false));
  used =
      slot_flagged c.args.pool.now c.args.slots.now c.loop-slot.slot-index c.slot-item.result c.loop-slot-test.true c.slot-item.is c.mark_slot.new.pool
      (c.mark_slot.ensures.used c.if-not-mark_slot.false ∙ ap (λ (u : List Bool). flagged true u (pages_of c.slot-item.result)) c.loop-slot.invariant.used);
}
