use Rattle.call_parts.proofs.TextsSaid.{handed_err, read_fault}
use Rattle.call_parts.specs.Asking.{HasTrailFault}
use Rattle.audit_trail.specs.declared.fault.TrailFault.{TrailFault}
use Rattle.audit_trail.specs.declared.fault.TrailFault.TheVariants.{Memory}
use Rattle.std.proofs.Common.{◌≢◌}
use Rattle.call_parts.proofs.reading.trail_for.Goals as goal

pub returns-in_err-trail-clause-refused : goal.returns-in_err-trail-clause-refused
returns-in_err-trail-clause-refused c =
    let e = c.in_err-trail.field-0.0 in
    handed_err c.from_residual.result e (λ (f : TrailFault). f ≢ Memory → HasTrailFault c.args.work.now.application c.args.work.now.fingerprint c.args.text.now f) c.from_residual.ensures.1
    (λ some. read_fault c.faults_are_first.ensures.others c.args.work.now.application c.args.work.now.fingerprint c.args.text.now e some (c.in_err-trail.ensures.refused some))
