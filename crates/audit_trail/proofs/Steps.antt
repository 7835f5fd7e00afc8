-- One line more, or its fault.
use Rattle.std.specs.Prelude.{◌≡◌, ℕ, Bool, true, false, Option, Some, None, Result, Ok, Err}
use Rattle.std.specs.Result.{IsErr, IsErrAnd}
use Rattle.std.proofs.Common.{sym, subst, ◌∙◌}
use Rattle.kd_base.specs.FirstFaults.{Unless}
use Rattle.audit_trail.specs.declared.entry.Trail.{Trail}
use Rattle.audit_trail.specs.declared.fault.TrailFault.{TrailFault}
use Rattle.audit_trail.specs.declared.place.Place.{Place}
use Rattle.audit_trail.specs.Places.{then_from}
use Rattle.audit_trail.specs.Reading.{is_memory, at_line, Gives}

pub found_at : (n : ℕ) (o : Option Place) (p : Place) → at_line n o ≡ Ok p → o ≡ Some p
found_at n None p e = absurd (cc e)
found_at n (Some q) p e = cc

unless_too : (b : Bool) (P Q : Type 0) → (P → Q) → Unless b P → Unless b Q
unless_too true P Q to h = tt
unless_too false P Q to h = to h

abbrev trail_error : TrailFault → Result Trail TrailFault
trail_error fault = Err fault

abbrev place_error : TrailFault → Result Place TrailFault
place_error fault = Err fault

failed_at : (n : ℕ) (o : Option Place) (from : Place → Result Trail TrailFault) (fault : TrailFault) → at_line n o ≡ place_error fault → then_from n o from ≡ trail_error fault
failed_at n None from fault e = cc
failed_at n (Some q) from fault e = absurd (cc e)

-- a fault that is handed on is that of the line
pub fails : (n : ℕ) (o : Option Place) (from : Place → Result Trail TrailFault) (fault : TrailFault) (r whole : Result Trail TrailFault) → IsErr r × IsErrAnd r (λ x. x ≡ fault) → then_from n o from ≡ whole → Gives (place_error fault) (at_line n o) → Gives r whole
fails n o from fault (Ok trail) whole is e h = absurd (cc is.0)
fails n o from fault (Err x) whole is e h =
    subst (λ (y : TrailFault). Gives (trail_error y) whole) (sym is.1)
    (unless_too (is_memory fault) (at_line n o ≡ place_error fault) (whole ≡ trail_error fault) (λ f. sym e ∙ failed_at n o from fault f) h)
