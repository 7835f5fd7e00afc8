-- Walks in which each transaction runs in one go.
use Rattle.std.specs.Prelude.{ℕ, Bool, nat_le, nat_lt, List, count_by}
use Rattle.std.specs.List.{list_all}
use Rattle.abstract_monitor.specs.declared.command.Command.{Command}
use Rattle.abstract_monitor.specs.Commands.{ScriptStep}
use Rattle.abstract_monitor.specs.State.{Application, OpenTransaction, State}
use Rattle.kdcs_types.specs.declared.key.ServiceId.{ServiceId}
use Rattle.lab_walks.specs.Orders.{order_steps}

-- the transaction has done a statement: one that an input opened stands in the ready list first, and has done none
abbrev pub has_begun : ServiceId × OpenTransaction → Bool
has_begun e = nat_lt 0 e.1.statements

-- at most one open transaction has begun
abbrev pub is_one_at_a_time : State → Bool
is_one_at_a_time s = nat_le (count_by has_begun s.active) 1

-- so it is after each of these steps
abbrev pub is_serial_along : List ScriptStep → Bool
is_serial_along steps = list_all (λ (d : ScriptStep). is_one_at_a_time d.after) steps

-- each transaction of a walk from this state runs in one go: none begins before the one that has begun is over
abbrev pub is_serial : Application → List Command → State → (walk : List ℕ) → Bool
is_serial app cs s walk = is_serial_along (order_steps app cs s walk)
