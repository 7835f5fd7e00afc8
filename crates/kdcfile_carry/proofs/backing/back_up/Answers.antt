use Rattle.std.proofs.Common.{inl, refl, subst}
use Rattle.std.specs.Prelude.{IfNone}
use Rattle.kdcfile_carry.specs.declared.error.FilesError.TheVariants as cause
use Rattle.kdcfile_carry.specs.Keeping.{files_in}
use Rattle.kdcfile_carry.specs.Ways.{IsUpToDate}
use Rattle.kdcfile_carry.proofs.Backed.{files_cause, on_ok_two}
use Rattle.kdcfile_carry.proofs.Found.{refusal, spent_are}
use Rattle.kdcfile_carry.proofs.Sizes.{of_files}
use Rattle.kdcfile_carry.proofs.backing.back_up.Goals as goal

pub returns-in_err-planned-clause-refused : goal.returns-in_err-planned-clause-refused
returns-in_err-planned-clause-refused g c = λ why is told.
    refusal c.args.generation.now c.args.fingerprint.now (files_in c.in_ok-kept.kept) (g.T.Twin.both c.args.twin.now).first.holds (g.T.Twin.both c.args.twin.now).second.holds (c.in_ok-kept.ensures.is_in told).files why
    (c.in_err-planned.ensures.refused why (files_cause _ _ c.from_residual-in_err-planned.result c.in_err-planned.field-0.0 (cause.Refused why) c.from_residual-in_err-planned.ensures.1 is))

pub returns-in_err-planned-clause-spent : goal.returns-in_err-planned-clause-spent
returns-in_err-planned-clause-spent g c = λ n is told.
    spent_are c.args.generation.now c.args.fingerprint.now (files_in c.in_ok-kept.kept) (g.T.Twin.both c.args.twin.now).first.holds (g.T.Twin.both c.args.twin.now).second.holds (c.in_ok-kept.ensures.is_in told).files n
    (c.in_err-planned.ensures.spent n (files_cause _ _ c.from_residual-in_err-planned.result c.in_err-planned.field-0.0 (cause.Spent n) c.from_residual-in_err-planned.ensures.1 is))

pub returns-clause-done : goal.returns-clause-done
returns-clause-done g c = on_ok_two c.write_down.result _ _ _
    (λ stands rest told told_to. (
      files_in c.in_ok-kept.kept,
      (c.in_ok-kept.ensures.is_in told).files,
      record {
        up_to_date = subst (λ o. IfNone o (IsUpToDate c.args.generation.now c.args.fingerprint.now (files_in c.in_ok-kept.kept))) c.in-None.is c.in_ok-planned.ensures.none;
        stands = stands told_to;
        at_rest = rest told_to;
      },
    ))
    c.write_down.ensures.stands c.write_down.ensures.at_rest

pub returns-in_err-kept-clause-written : goal.returns-in_err-kept-clause-written
returns-in_err-kept-clause-written g c = λ told told_to. inl refl

pub returns-in_err-planned-clause-written : goal.returns-in_err-planned-clause-written
returns-in_err-planned-clause-written g c = λ told told_to. inl refl

pub returns-in-Some-clause-written : goal.returns-in-Some-clause-written
returns-in-Some-clause-written g c = λ told told_to. inl refl

pub returns-clause-written : goal.returns-clause-written
returns-clause-written g c = λ told told_to.
    of_files c.args.generation.now c.args.fingerprint.now (g.T.Twin.both c.args.twin.now).first.holds (g.T.Twin.both c.args.twin.now).second.holds (files_in c.in_ok-kept.kept) (g.D.Device.state c.args.to.now) (g.D.Device.state c.write_down.new.to) (c.in_ok-kept.ensures.is_in told).files
    (subst (λ o. IfNone o (IsUpToDate c.args.generation.now c.args.fingerprint.now (files_in c.in_ok-kept.kept))) c.in-None.is c.in_ok-planned.ensures.none) (c.write_down.ensures.put_most told_to)
