-- What made the commit of an entry.
use Rattle.abstract_monitor.specs.Commands.{Maker, ByTick, ByShow, ByTransaction}
use Rattle.audit_trail.specs.declared.entry.By.{By}
use Rattle.audit_trail.specs.declared.entry.By.TheVariants.{Tick, Shown, Transaction}

-- what made it, in the words of the abstract monitor
abbrev pub maker_of : By → Maker
maker_of (Tick ticks) = ByTick ticks
maker_of (Shown lterm) = ByShow lterm
maker_of (Transaction kept) = ByTransaction kept
