use Rattle.std.proofs.Common.{◌≡◌, ◌∙◌, List, ℕ, Option, Some, None, get_or, refl, sym, ap}
use Rattle.kdcfile_layout.specs.declared.kdcfile_read.slot.First.{First}
use Rattle.kdcfile_load.specs.Reads.{after_slot}
use Rattle.kdcfile_load.specs.declared.records.Gathering.{Gathering}
use Rattle.kdcfile_load.proofs.RecordsLaws.{gathering_more}
use Rattle.kdcfile_load.proofs.RestedLaws.{rested_then}
use Rattle.kdcfile_load.proofs.Choices.{not_failed}
use Rattle.kdcfile_load.proofs.StepsLaws.{step_end, step_fails, step_goes}
use Rattle.kdcfile_load.proofs.records.read_records.Goals as goal

-- a slot that is read now is one of the file as it was
read_before : (size count : ℕ) (h now : List ℕ) (g : Gathering) (o : Option First) (q : Option Gathering) → now ≡ h → after_slot size count now g o ≡ q → after_slot size count h g o ≡ q
read_before size count h now g o q same is = ap (λ (l : List ℕ). after_slot size count l g o) (sym same) ∙ is

pub returns-then-not-branch-clause-value : goal.returns-then-not-branch-clause-value
returns-then-not-branch-clause-value g c = λ told.
    let before = c.loop-slot.invariant.rested in
    let o = get_or c.args.slots.now c.loop-slot.slot-index None in
    sym (step_fails (after_slot c.args.size c.args.count (g.D.Device.state c.args.device.now).holds) c.loop-slot.so_far c.args.slots.now c.loop-slot.slot-index o None c.loop-slot-test.true refl
    (read_before c.args.size c.args.count (g.D.Device.state c.args.device.now).holds (g.D.Device.state c.loop-slot.device).holds c.loop-slot.so_far o None (before.rests told).holds (c.in_ok-add_slot.ensures.none c.if-not-branch.true (before.frame.told ∙ told))))
    ∙ c.loop-slot.invariant.read told

pub loop-slot-preserved : goal.loop-slot-preserved
loop-slot-preserved g c = record {
  rested = rested_then _ _ _ _ c.loop-slot.invariant.rested _ _ c.add_slot.ensures.frame c.add_slot.ensures.names (c.in_ok-add_slot.ensures.fine (λ e. not_failed e)) c.add_slot.ensures.rests;
  gathered =
      let o : Option First = get_or c.args.slots.now c.loop-slot.slot-index None in
      gathering_more c.args.size c.loop-slot.slot-index c.loop-slot.so_far c.add_slot.new.so_far o c.loop-slot.invariant.gathered (c.requires.keys c.loop-slot.slot-index None c.loop-slot-test.true) (c.in_ok-add_slot.ensures.follows c.if-not-branch.false);
  read = λ told.
      let before = c.loop-slot.invariant.rested in
      let o = get_or c.args.slots.now c.loop-slot.slot-index None in
      sym (step_goes (after_slot c.args.size c.args.count (g.D.Device.state c.args.device.now).holds) c.loop-slot.so_far c.args.slots.now c.loop-slot.slot-index o None c.loop-slot-test.true refl c.add_slot.new.so_far
      (read_before c.args.size c.args.count (g.D.Device.state c.args.device.now).holds (g.D.Device.state c.loop-slot.device).holds c.loop-slot.so_far o (Some c.add_slot.new.so_far) (before.rests told).holds (c.in_ok-add_slot.ensures.value c.if-not-branch.false (before.frame.told ∙ told))))
      ∙ c.loop-slot.invariant.read told;
}

pub returns-clause-value : goal.returns-clause-value
returns-clause-value g c = λ told. sym (step_end (after_slot c.args.size c.args.count (g.D.Device.state c.args.device.now).holds) c.loop-slot.so_far c.args.slots.now c.loop-slot.slot-index c.loop-slot-test.false) ∙ c.loop-slot.invariant.read told
