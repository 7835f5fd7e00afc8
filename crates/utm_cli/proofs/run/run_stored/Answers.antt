use Rattle.std.proofs.Common.{◌≡◌, ◌∙◌, ◌++◌, inl, inr, ap, subst, List, ℕ}
use Rattle.std.specs.Prelude.{IsTrue, true}
use Rattle.std.proofs.lemmas.Result.{on_ok_weaker}
use Rattle.kdcs_types.specs.Tables.{TableRows}
use Rattle.abstract_monitor.specs.Trace.{bytes_of}
use Rattle.call_parts.specs.Asking.{storing_errand}
use Rattle.call_parts.specs.Opening.{Opens}
use Rattle.utm_cli.specs.Doing.{own, acts_of}
use Rattle.device_acts.specs.Acting.{commits_nothing}
use Rattle.device_acts.specs.ErrorsLaws.{no_error}
use Rattle.utm_cli.proofs.Refused.{open_refused}
use Rattle.utm_cli.proofs.ByWord.{not_empty, opened_once}
use Rattle.utm_cli.proofs.Ran.{opening_cut, run_cut}
use Rattle.utm_cli.proofs.Stopping.{at_error, on_err_weaker, opened_halts, opened_stops}
use Rattle.utm_cli.proofs.Writing.{opening_written, store_written}
use Rattle.utm_cli.proofs.run.run_stored.Given.{Over}
use Rattle.utm_cli.proofs.run.run_stored.Goals as goal
use Rattle.kd_device.specs.TimeLaws.{faults_then, rose_either, told_after}

pub returns-in_err-store-clause-refused : goal.returns-in_err-store-clause-refused
returns-in_err-store-clause-refused g c = λ r is told.
    open_refused _ _ c.from_residual.result c.in_err-store.field-0.0 r c.from_residual.ensures.1 is (storing_errand c.args.work c.args.storing) (g.D.Device.state c.args.device.now).holds (λ none. c.in_err-store.ensures.refused none told) (λ stored other. c.in_err-store.ensures.other stored other told)

pub returns-in_err-store-clause-still : goal.returns-in_err-store-clause-still
returns-in_err-store-clause-still g c = λ told none. c.open.ensures.still told (not_empty (storing_errand c.args.work c.args.storing) (g.D.Device.state c.args.device.now).holds none)

pub returns-in_err-store-clause-any_moment : goal.returns-in_err-store-clause-any_moment
returns-in_err-store-clause-any_moment g c = λ told only t starts.
    let a = g.D.Device.state c.args.device.now in
    let b = g.D.Device.state c.open.new.device in
    let la = g.D.Device.leaves c.args.device.now in
    let lb = g.D.Device.leaves c.open.new.device in
    opening_cut (storing_errand c.args.work c.args.storing) t a la only starts b lb ((c.open.ensures.any_moment told))

-- ---- the file was opened

opens : (g : Over) (c : goal.After-do_storing g) → IsTrue (g.D.Device.state c.args.device.now).told → Opens (storing_errand c.args.work c.args.storing) (g.D.Device.state c.args.device.now).holds c.in_ok-store.tables
opens g c told = (c.in_ok-store.ensures.starts told)

pub returns-clause-done : goal.returns-clause-done
returns-clause-done g c = on_ok_weaker c.do_storing.result (λ ran told.
    let done = ran (told_after _ _ c.open.ensures.frame told) in
    (_, opens g c told, record { sent = done.sent ∙ ap (λ (s : List ℕ). s ++ bytes_of (acts_of (storing_errand c.args.work c.args.storing) (own (storing_errand c.args.work c.args.storing) c.in_ok-store.tables))) (c.open.ensures.sent told); holds = done.holds; at_rest = done.at_rest })) c.do_storing.ensures.done

pub returns-clause-refused : goal.returns-clause-refused
returns-clause-refused g c = λ r is told. absurd (c.do_storing.ensures.refused r is (told_after _ _ c.open.ensures.frame told))

pub returns-clause-still : goal.returns-clause-still
returns-clause-still g c = λ told none. absurd (none c.in_ok-store.tables (opens g c told))

pub returns-clause-any_moment : goal.returns-clause-any_moment
returns-clause-any_moment g c = λ told only t starts.
    let a = g.D.Device.state c.args.device.now in
    let b = g.D.Device.state c.open.new.device in
    let la = g.D.Device.leaves c.args.device.now in
    let lb = g.D.Device.leaves c.open.new.device in
    let first = (c.open.ensures.any_moment told) in
    run_cut (storing_errand c.args.work c.args.storing) t a la only starts c.in_ok-store.tables b (g.D.Device.state c.do_storing.new.device) lb (g.D.Device.leaves c.do_storing.new.device) (opens g c told) first
    (c.open.ensures.sent told) (c.do_storing.ensures.any.any_moment (told_after _ _ c.open.ensures.frame told))

pub returns-clause-left : goal.returns-clause-left
returns-clause-left g c = λ told t starts some lines.
    let same = opened_once (storing_errand c.args.work c.args.storing) _ t _ starts (opens g c told) in
    let rests = c.open.ensures.still told some in
    let quiet = c.do_storing.ensures.any.quiet (told_after _ _ c.open.ensures.frame told) (subst (λ (v : TableRows). commits_nothing (acts_of (storing_errand c.args.work c.args.storing) (own (storing_errand c.args.work c.args.storing) v)) ≡ true) same lines) in
    record { holds = quiet.holds ∙ rests.holds; put = quiet.put ∙ rests.put }

pub returns-clause-failed : goal.returns-clause-failed
returns-clause-failed g c = λ is. rose_either (g.D.Device.state c.args.device.now) (g.D.Device.state c.open.new.device) (g.D.Device.state c.do_storing.new.device) c.open.ensures.frame (c.do_storing.ensures.failed is)

pub returns-clause-fine : goal.returns-clause-fine
returns-clause-fine g c = λ none. faults_then _ _ _ (c.in_ok-store.ensures.fine (no_error _ _)) (c.do_storing.ensures.fine none)

pub returns-in_err-store-clause-written : goal.returns-in_err-store-clause-written
returns-in_err-store-clause-written g c = λ told.
    let a = g.D.Device.state c.args.device.now in
    let b = g.D.Device.state c.open.new.device in
    opening_written (storing_errand c.args.work c.args.storing) a b (g.D.Device.leaves c.args.device.now) (g.D.Device.leaves c.open.new.device) (c.open.ensures.sent told)
    ((c.open.ensures.put_most told)) (c.open.ensures.still told)

pub returns-clause-written : goal.returns-clause-written
returns-clause-written g c = λ told.
    let a = g.D.Device.state c.args.device.now in
    let b = g.D.Device.state c.open.new.device in
    store_written (storing_errand c.args.work c.args.storing) c.in_ok-store.tables a b (g.D.Device.state c.do_storing.new.device) (opens g c told) (c.open.ensures.sent told)
    ((c.open.ensures.put_most told)) (c.do_storing.ensures.put (told_after _ _ c.open.ensures.frame told))

pub returns-in_err-store-clause-stopped : goal.returns-in_err-store-clause-stopped
returns-in_err-store-clause-stopped g c = at_error _ c.from_residual.result (λ t starts told is. inl (c.open.ensures.sent told))

pub returns-in_err-store-clause-halted : goal.returns-in_err-store-clause-halted
returns-in_err-store-clause-halted g c = λ failed t starts told is. inr (inl (c.open.ensures.sent told))

pub returns-clause-stopped : goal.returns-clause-stopped
returns-clause-stopped g c =
    on_err_weaker c.do_storing.result
    (λ stops t starts told is.
    opened_stops (storing_errand c.args.work c.args.storing) c.in_ok-store.tables t (g.D.Device.state c.args.device.now) (g.D.Device.state c.open.new.device) (g.D.Device.state c.do_storing.new.device) (opens g c told) starts (c.open.ensures.sent told) c.open.ensures.frame.line_faults
    (stops (told_after _ _ c.open.ensures.frame told) is)) c.do_storing.ensures.stopped

pub returns-clause-halted : goal.returns-clause-halted
returns-clause-halted g c = λ failed t starts told is.
    opened_halts (storing_errand c.args.work c.args.storing) c.in_ok-store.tables t (g.D.Device.state c.args.device.now) (g.D.Device.state c.open.new.device) (g.D.Device.state c.do_storing.new.device) (opens g c told) starts (c.open.ensures.sent told) c.open.ensures.frame.line_faults
    (c.do_storing.ensures.halted failed (told_after _ _ c.open.ensures.frame told) is)
