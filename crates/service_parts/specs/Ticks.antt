-- How many ticks a moment names.
use Rattle.std.specs.Prelude.{ℕ}
use Rattle.abstract_monitor.specs.declared.draft.Due.{Due}
use Rattle.abstract_monitor.specs.declared.draft.Due.TheVariants.{After, At}

-- from now on, or of the clock
abbrev pub ticks_of : Due → ℕ
ticks_of (After ticks) = ticks
ticks_of (At ticks) = ticks

-- 9,999 days, 23 hours, 59 minutes and 59 seconds
abbrev pub last_ticks : ℕ
last_ticks = 863999999
