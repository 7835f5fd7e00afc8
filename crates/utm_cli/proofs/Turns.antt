-- How many turns and commands the commands of an errand make.
use Rattle.std.proofs.Common.{◌≡◌, ℕ, ◌+◌, ◌*◌, ◌≤◌, ◌^◌, List, length, subst, sym, arith}
use Rattle.std.specs.Prelude.{sum_by}
use Rattle.std.proofs.lemmas.List.Elements.{All-weaker}
use Rattle.std.proofs.lemmas.List.Sums.{sum_by-le}
use Rattle.abstract_monitor.specs.declared.command.Command.{Command}
use Rattle.abstract_monitor.specs.declared.command.Command.TheVariants.{Input, Tick, Run, Turn, Drop, Print, PrintLast, Restart}
use Rattle.monitor_core.specs.CoreSteps.{turns_of}
use Rattle.call_parts.specs.Asking.{CanRun, Errand, IsShort}

short_turns : (c : Command) → IsShort c → turns_of c ≤ 1000000
short_turns (Input pterm text) h = omega arith
short_turns (Tick ticks) h = omega arith
short_turns (Run turns) h = h
short_turns (Turn task) h = omega arith
short_turns (Drop pterm) h = omega arith
short_turns (Print pterm) h = omega arith
short_turns (PrintLast pterm) h = omega arith
short_turns Restart h = omega arith

-- a million commands, of a million turns each
product : (n m : ℕ) → n ≤ 1000000 → m ≤ n * 1000000 → m ≤ 10 ^ 18
product n m h k = omega (arith, h, k)

pub few_turns : (e : Errand) → CanRun e → sum_by turns_of e.commands ≤ 10 ^ 18
few_turns e can = product (length e.commands) (sum_by turns_of e.commands) can.few (sum_by-le turns_of 1000000 e.commands (All-weaker IsShort (λ c. turns_of c ≤ 1000000) short_turns e.commands can.short))

-- the same of the commands as they are handed on, from a core that made no steps
pub turns_as : (e : Errand) (commands : List Command) → commands ≡ e.commands → CanRun e → sum_by turns_of commands ≤ 10 ^ 18
turns_as e commands is can = subst (λ (l : List Command). sum_by turns_of l ≤ 10 ^ 18) (sym is) (few_turns e can)

pub turns_from : (e : Errand) (steps : ℕ) → steps ≡ 0 → (commands : List Command) → commands ≡ e.commands → CanRun e → steps + sum_by turns_of commands ≤ 10 ^ 18
turns_from e steps none commands is can = omega (arith, none, turns_as e commands is can)
