-- Want of memory is no verdict.
use Rattle.std.specs.Prelude.{List, ℕ, refl}
use Rattle.application_read.specs.declared.fault.ApplicationFault.TheVariants.{Definition, Units, Fit, Memory}
use Rattle.lab_check.specs.declared.whole.Verdict.{Verdict}
use Rattle.lab_check.specs.declared.whole.Verdict.TheVariants.{Accepted, Refused}
use Rattle.lab_check.specs.Verdicts.{IsVerdict, IsNoMemory}

pub verdict_is_no_memory : (definition units : List ℕ) (v : Verdict) → IsVerdict definition units v → IsNoMemory v
verdict_is_no_memory definition units (Accepted a) is = tt
verdict_is_no_memory definition units (Refused (Definition fault)) is = refl
verdict_is_no_memory definition units (Refused (Units fault)) is = refl
verdict_is_no_memory definition units (Refused (Fit fault)) is = refl
verdict_is_no_memory definition units (Refused Memory) is = absurd is
