use Rattle.std.proofs.Common.{inl}
use Rattle.std.specs.Prelude.{IsTrue}
use Rattle.std.proofs.lemmas.Result.{on_ok_weaker}
use Rattle.kd_device.specs.TimeLaws.{faults_then, told_after}
use Rattle.device_acts.specs.MeaningLaws.{none_for}
use Rattle.device_acts.specs.ErrorsLaws.{no_error}
use Rattle.kdcfile_update.specs.Parts.{stored_in}
use Rattle.kdcfile_update.proofs.Errors.{opening_was}
use Rattle.kdcfile_update.proofs.Opened.{IsUpdateOf, refuses_as, then_is, then_updated}
use Rattle.kdcfile_update.proofs.updating.update.Given.{Over}
use Rattle.kdcfile_update.proofs.updating.update.Goals.{After-update_opened}
use Rattle.kdcfile_update.proofs.updating.update.Goals as goal

pub returns-in_err-store-clause-refused : goal.returns-in_err-store-clause-refused
returns-in_err-store-clause-refused g c = λ why is told.
    let was = opening_was _ _ c.from_residual.result c.in_err-store.field-0.0 c.from_residual.ensures.1 c.in_err-store.ensures.other why is in
    inl (was.0, none_for c.args.generation.now c.args.fingerprint.now (g.D.Device.state c.args.device.now).holds (c.in_err-store.ensures.refused was.1 told))

pub returns-clause-done : goal.returns-clause-done
returns-clause-done g c =
    let a = g.D.Device.state c.args.device.now in
    let b = g.D.Device.state c.open_any.new.device in
    on_ok_weaker c.update_opened.result (λ h told.
    then_updated c.args.generation.now c.args.fingerprint.now a b (g.D.Device.leaves c.args.device.now) (g.D.Device.leaves c.open_any.new.device) (c.open_any.ensures.rests told)
    (g.D.Device.state c.update_opened.new.device) (g.D.Device.leaves c.update_opened.new.device) (stored_in c.in_ok-store.store c.in_ok-store.tables) (c.in_ok-store.ensures.stands told) (h (told_after a b c.open_any.ensures.frame told)))
    c.update_opened.ensures.done

pub returns-clause-refused : goal.returns-clause-refused
returns-clause-refused g c = λ why is told.
    refuses_as c.args.generation.now c.args.fingerprint.now (g.D.Device.state c.args.device.now).holds (stored_in c.in_ok-store.store c.in_ok-store.tables) (c.in_ok-store.ensures.stands told) why (c.update_opened.ensures.refused why is)

-- what the update of the opened file did to the device
did : (g : Over) (c : After-update_opened g) → IsTrue (g.D.Device.state c.args.device.now).told
    → IsUpdateOf c.args.generation.now c.args.fingerprint.now (g.D.Device.state c.args.device.now) (g.D.Device.state c.update_opened.new.device) (g.D.Device.leaves c.args.device.now) (g.D.Device.leaves c.update_opened.new.device)
did g c told =
    let a = g.D.Device.state c.args.device.now in
    let b = g.D.Device.state c.open_any.new.device in
    then_is c.args.generation.now c.args.fingerprint.now a b (g.D.Device.leaves c.args.device.now) (g.D.Device.leaves c.open_any.new.device) (c.open_any.ensures.rests told)
    (g.D.Device.state c.update_opened.new.device) (g.D.Device.leaves c.update_opened.new.device) (stored_in c.in_ok-store.store c.in_ok-store.tables) (c.in_ok-store.ensures.stands told)
    c.update_opened.ensures.any (told_after a b c.open_any.ensures.frame told)

pub returns-clause-still : goal.returns-clause-still
returns-clause-still g c = λ told. (did g (goal.at.returns-clause-still g c).After-update_opened told).still

pub returns-clause-any_moment : goal.returns-clause-any_moment
returns-clause-any_moment g c = λ told. (did g (goal.at.returns-clause-any_moment g c).After-update_opened told).any_moment

pub returns-clause-written : goal.returns-clause-written
returns-clause-written g c = λ told. (did g (goal.at.returns-clause-written g c).After-update_opened told).written

pub returns-clause-left : goal.returns-clause-left
returns-clause-left g c = λ told. (did g (goal.at.returns-clause-left g c).After-update_opened told).left

pub returns-clause-fine : goal.returns-clause-fine
returns-clause-fine g c = λ none.
    faults_then (g.D.Device.state c.args.device.now) (g.D.Device.state c.open_any.new.device) (g.D.Device.state c.update_opened.new.device) (c.in_ok-store.ensures.fine (no_error _ _)) (c.update_opened.ensures.fine none)
