-- What refuses a synchronisation point, by what the transaction wrote.
use Rattle.std.specs.Prelude.{ℕ}
use Rattle.kdcs_types.specs.declared.act.Row.{Row}
use Rattle.kdcs_types.specs.declared.act.Row.TheVariants.{Gssb as GssbRow}

-- a GSSB counts once, and no other row does
abbrev pub gssb_weight : Row → ℕ
gssb_weight (GssbRow name content) = 1
gssb_weight _ = 0
