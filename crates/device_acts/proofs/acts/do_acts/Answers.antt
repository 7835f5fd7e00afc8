use Rattle.std.proofs.Common.{List, ℕ, ◌≡◌, rules, subst}
use Rattle.std.specs.Prelude.{IsTrue}
use Rattle.kd_device.specs.Device.{State}
use Rattle.kd_device.specs.TimeLaws.{told_after}
use Rattle.kdcs_types.specs.declared.act.Act.{Act}
use Rattle.abstract_monitor.specs.Bytes.{Bytes}
use Rattle.device_acts.specs.Acting.{WritesUpTo, WritesWithin, acts_most, content_after}
use Rattle.device_acts.proofs.acts.do_acts.Goals as goal

-- the device of the keeper, given back
written_given : {T X : Type 0} (state : T → State) (leaves : T → ℕ → List ℕ → List ℕ → Type 0) (after : X → List Act → X) (stands : X → Bytes → Type 0) (start : X) (most : List Act → ℕ) (acts : List Act) (x : T) {y : T} → WritesWithin after stands start most acts (state x) (state y) (leaves y)
    → (IsTrue (state x).told → leaves y (state y).moment (state y).holds (state y).sent) → (z : T) → y ≡ z → IsTrue (state x).told → WritesUpTo most acts (state x) (state z)
written_given state leaves after stands start most acts x {y} within now z is told = subst (λ t. WritesUpTo most acts (state x) (state t)) is (within told (state y).holds (now told)).writes

pub returns-clause-put : goal.returns-clause-put
returns-clause-put g c =
    written_given g.D.Device.state g.D.Device.leaves content_after (g.S.Store.stands (g.S.Store.identity c.args.store.now)) (g.S.Store.kept c.args.store.now) (acts_most g.S.Store.most_written (g.S.Store.identity c.args.store.now) (g.S.Store.kept c.args.store.now)) c.args.acts.now c.args.device.now c.keep_acts.ensures.put
    (λ told. g.met.D.Device.holds_now _ (told_after (g.D.Device.state c.args.device.now) _ c.keep_acts.ensures.any.frame told)) _ (search rules)
