-- What an audit of one entry answers.
use Rattle.kdcs_types.specs.Tables.{TableRows}
use Rattle.serial_audit.specs.declared.audited.Audited.{Audited}
use Rattle.serial_audit.specs.declared.audited.Audited.TheVariants.{Holds, Differs}

-- what holds of the tables where the entry holds
abbrev pub IfHolds : Audited → (TableRows → Type 0) → Type 0
IfHolds (Holds after) P = P after
IfHolds (Differs before) P = Unit {0}

-- and where it does not
abbrev pub IfDiffers : Audited → (TableRows → Type 0) → Type 0
IfDiffers (Holds after) P = Unit {0}
IfDiffers (Differs before) P = P before
