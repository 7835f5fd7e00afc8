use Rattle.std.proofs.Common.{ℕ, List, inl, inr, arith, ap, refl, sym, subst, ◌∙◌, ◌∷◌, []}
use Rattle.std.specs.Prelude.{Err, IsTrue}
use Rattle.kd_device.specs.TimeLaws.{told_after}
use Rattle.kdcs_types.specs.declared.act.Act.{Act}
use Rattle.kdcs_types.specs.declared.act.Act.TheVariants.{Emit}
use Rattle.abstract_monitor.specs.Lines.{restart_line}
use Rattle.laws_of_states.specs.Cut.{commits_in}
use Rattle.device_acts.specs.Acting.{HaltsAt}
use Rattle.device_acts.specs.ActingLaws.{halts_at_once}
use Rattle.device_acts.specs.ErrorsLaws.{no_error}
use Rattle.monitor_core.specs.ResultsLaws.{handed_on}
use Rattle.device_run.specs.HandedOnLaws.{either_cause}
use Rattle.device_run.proofs.Acting.{device_failed, device_knows_no_other, device_refuses_nothing, device_went, nothing_written, ready_stands}
use Rattle.device_run.proofs.Restarting.{acts_again, again, did_restart, opening_within, restart_within}
use Rattle.device_run.proofs.storing.StoringSink.restart.Goals as goal

pub returns-in_err-next-clause-failed : goal.returns-in_err-next-clause-failed
returns-in_err-next-clause-failed g c =
    handed_on _ c.from_residual.result _ c.from_residual.ensures.1
    (let within = opening_within g.K.Keeper.stands c.args.self.now.fingerprint.now c.args.core (g.K.Keeper.state c.args.self.now.keeper.now) (g.K.Keeper.state c.start_again.new.keeper) (g.K.Keeper.leaves c.args.self.now.keeper.now) (g.K.Keeper.leaves c.start_again.new.keeper) c.start_again.ensures.frame c.start_again.ensures.names c.start_again.ensures.still in
    record {
      within = within;
      put = nothing_written g.K.Keeper.stands g.K.Reopens.commit_most c.args.self.now.fingerprint.now c.args.core (again c.args.core ∷ []) (g.K.Keeper.state c.args.self.now.keeper.now) (g.K.Keeper.leaves c.args.self.now.keeper.now)
          (ready_stands g.K.Keeper.stands c.args.self.now.fingerprint.now c.args.core (g.K.Keeper.identity c.args.self.now.keeper.now) (g.K.Keeper.kept c.args.self.now.keeper.now) (g.K.Keeper.file c.args.self.now.keeper.now) (g.K.Keeper.state c.args.self.now.keeper.now) (g.K.Keeper.leaves c.args.self.now.keeper.now) (g.met.K.Keeper.file_stands c.args.self.now.keeper.now) c.requires.ready.1)
          (g.K.Keeper.state c.start_again.new.keeper) (g.K.Keeper.leaves c.start_again.new.keeper) (g.met.K.Keeper.sent_now c.args.self.now.keeper.now) (g.met.K.Keeper.earlier c.start_again.new.keeper) within (λ told. (c.start_again.ensures.still told).disk.put);
      went = λ none. c.in_err-next.ensures.fine (λ is. none (cc is));
      failed = λ is. inl (c.in_err-next.ensures.failed (ap (λ z. Err z) is));
      halted = λ is told. inr (subst (λ (l : List Act). HaltsAt l (g.K.Keeper.state c.args.self.now.keeper.now) (g.K.Keeper.state c.start_again.new.keeper)) (sym (acts_again c.args.core)) (halts_at_once (Emit restart_line) [] (g.K.Keeper.state c.args.self.now.keeper.now) (g.K.Keeper.state c.start_again.new.keeper) refl (c.start_again.ensures.still told).sent));
      refused = λ is. c.in_err-next.ensures.refused (ap (λ z. Err z) is);
      other = λ stored is. c.in_err-next.ensures.other stored (ap (λ z. Err z) is);
      same_place = ap (λ (l : List ℕ). c.args.self.now.keeper.ghost_name ∷ l) c.start_again.ensures.place;
    })

pub returns-in_err-next-clause-unopened : goal.returns-in_err-next-clause-unopened
returns-in_err-next-clause-unopened g c = handed_on _ c.from_residual.result _ c.from_residual.ensures.1 (λ told. inl (c.start_again.ensures.still told).sent)

pub returns-in_err-say-clause-failed : goal.returns-in_err-say-clause-failed
returns-in_err-say-clause-failed g c =
    let e = c.in_err-say.field-0.0 in
    handed_on _ c.from_residual-in_err-say.result _ c.from_residual-in_err-say.ensures.1
    (let within = restart_within g.K.Keeper.stands c.args.self.now.fingerprint.now c.args.core (g.K.Keeper.state c.args.self.now.keeper.now) (g.K.Keeper.state c.start_again.new.keeper) (g.K.Keeper.leaves c.args.self.now.keeper.now) (g.K.Keeper.leaves c.start_again.new.keeper) c.start_again.ensures.frame c.start_again.ensures.names c.start_again.ensures.still g.K.Keeper.fine g.met.K.Keeper.fine_goes c.in_ok-next.next (g.K.Keeper.identity c.start_again.new.keeper) (g.K.Keeper.kept c.start_again.new.keeper) (g.K.Keeper.file c.start_again.new.keeper) c.in_ok-next.ensures.again (g.K.Keeper.state c.say.new.self) (g.K.Keeper.leaves c.say.new.self) (g.met.K.Keeper.file_stands c.start_again.new.keeper) c.say.ensures.frame c.say.ensures.names c.say.ensures.part c.say.ensures.any_moment in
    record {
      within = within;
      put = nothing_written g.K.Keeper.stands g.K.Reopens.commit_most c.args.self.now.fingerprint.now c.args.core (again c.args.core ∷ []) (g.K.Keeper.state c.args.self.now.keeper.now) (g.K.Keeper.leaves c.args.self.now.keeper.now)
          (ready_stands g.K.Keeper.stands c.args.self.now.fingerprint.now c.args.core (g.K.Keeper.identity c.args.self.now.keeper.now) (g.K.Keeper.kept c.args.self.now.keeper.now) (g.K.Keeper.file c.args.self.now.keeper.now) (g.K.Keeper.state c.args.self.now.keeper.now) (g.K.Keeper.leaves c.args.self.now.keeper.now) (g.met.K.Keeper.file_stands c.args.self.now.keeper.now) c.requires.ready.1)
          (g.K.Keeper.state c.say.new.self) (g.K.Keeper.leaves c.say.new.self) (g.met.K.Keeper.sent_now c.args.self.now.keeper.now) (g.met.K.Keeper.earlier c.say.new.self) within (λ told. (c.say.ensures.part (told_after (g.K.Keeper.state c.args.self.now.keeper.now) (g.K.Keeper.state c.start_again.new.keeper) c.start_again.ensures.frame told)).disk.put ∙ (c.start_again.ensures.still told).disk.put);
      went = device_went _ e (λ none. g.met.K.Keeper.fine_goes.after _ _ _ c.in_ok-next.ensures.again.calls (c.in_err-say.ensures.fine none));
      failed = device_failed _ e (λ is. let said = c.in_err-say.ensures.failed is in inr (omega (arith, c.start_again.ensures.frame.line_faults, said)));
      halted = device_failed _ e (λ is told. let said = c.in_err-say.ensures.failed is in inl (omega (arith, c.start_again.ensures.frame.line_faults, said)));
      refused = λ is told. device_refuses_nothing e is;
      other = λ stored is told. device_knows_no_other e stored is;
      same_place = ap (λ (l : List ℕ). c.args.self.now.keeper.ghost_name ∷ l) (c.say.ensures.place ∙ c.start_again.ensures.place);
    })

pub returns-in_err-say-clause-unopened : goal.returns-in_err-say-clause-unopened
returns-in_err-say-clause-unopened g c =
    handed_on _ c.from_residual-in_err-say.result _ c.from_residual-in_err-say.ensures.1 (λ told.
    either_cause _ _ _ c.in_err-say.field-0.0
    (λ is. c.in_err-say.ensures.unsaid is (subst IsTrue (sym c.start_again.ensures.frame.told) told) ∙ (c.start_again.ensures.still told).sent)
    (λ is. let said = c.in_err-say.ensures.failed is in omega (arith, c.start_again.ensures.frame.line_faults, said)))

pub returns-clause-took : goal.returns-clause-took
returns-clause-took g c = (
  c.say.ensures.ready c.in_ok-next.ensures.ready,
  record {
    within = restart_within g.K.Keeper.stands c.args.self.now.fingerprint.now c.args.core (g.K.Keeper.state c.args.self.now.keeper.now) (g.K.Keeper.state c.start_again.new.keeper) (g.K.Keeper.leaves c.args.self.now.keeper.now) (g.K.Keeper.leaves c.start_again.new.keeper) c.start_again.ensures.frame c.start_again.ensures.names c.start_again.ensures.still g.K.Keeper.fine g.met.K.Keeper.fine_goes c.in_ok-next.next (g.K.Keeper.identity c.start_again.new.keeper) (g.K.Keeper.kept c.start_again.new.keeper) (g.K.Keeper.file c.start_again.new.keeper) c.in_ok-next.ensures.again (g.K.Keeper.state c.say.new.self) (g.K.Keeper.leaves c.say.new.self) (g.met.K.Keeper.file_stands c.start_again.new.keeper) c.say.ensures.frame c.say.ensures.names c.say.ensures.part c.say.ensures.any_moment;
    did = did_restart g.K.Keeper.stands c.args.self.now.fingerprint.now c.args.core (g.K.Keeper.state c.args.self.now.keeper.now) (g.K.Keeper.state c.start_again.new.keeper) (g.K.Keeper.leaves c.args.self.now.keeper.now) (g.K.Keeper.leaves c.start_again.new.keeper) c.start_again.ensures.frame c.start_again.ensures.names c.start_again.ensures.still g.K.Keeper.fine g.met.K.Keeper.fine_goes c.in_ok-next.next (g.K.Keeper.identity c.start_again.new.keeper) (g.K.Keeper.kept c.start_again.new.keeper) (g.K.Keeper.file c.start_again.new.keeper) c.in_ok-next.ensures.again (g.K.Keeper.state c.say.new.self) (g.K.Keeper.leaves c.say.new.self) (g.K.Keeper.identity c.say.new.self) (g.K.Keeper.kept c.say.new.self) (g.K.Keeper.file c.say.new.self) c.say.ensures.identity c.say.ensures.content c.say.ensures.kept c.in_ok-say.ensures.sent (c.in_ok-say.ensures.fine (no_error _ _));
    put = λ told.
        let said = (c.say.ensures.part (told_after (g.K.Keeper.state c.args.self.now.keeper.now) (g.K.Keeper.state c.start_again.new.keeper) c.start_again.ensures.frame told)).disk.put in
        let opened = (c.start_again.ensures.still told).disk.put in
        omega (arith, said, opened);
    counted = λ told few. let none = ap commits_in (acts_again c.args.core) in omega (arith, none);
    same_fingerprint = refl;
    same_place = ap (λ (l : List ℕ). c.args.self.now.keeper.ghost_name ∷ l) (c.say.ensures.place ∙ c.start_again.ensures.place);
  },
)

pub returns-clause-steps : goal.returns-clause-steps
returns-clause-steps g c = c.in_ok-next.ensures.again.steps
