-- The signs of a walk: requests that were refused, dumps, a standstill at its end, and RUNs that ended before their work.
use Rattle.std.specs.Prelude.{ℕ, zero, suc, Bool, true, false, ◌&&◌, not, ◌==◌, nat_lt, List, [], ◌∷◌, length, Option, Some, None}
use Rattle.std.specs.List.{list_any}
use Rattle.kdcs_types.specs.declared.call.Code.{Code}
use Rattle.kdcs_types.specs.declared.call.Code.TheVariants.{Done, K01, K02, K03, K04, K05, K06, K07, K08, K09, K10, K11}
use Rattle.kdcs_types.specs.declared.key.ServiceId.{ServiceId}
use Rattle.kdcs_types.specs.declared.service.Ending.{Ending}
use Rattle.kdcs_types.specs.declared.service.Ending.TheVariants.{Synced, Broken, BrokenFr}
use Rattle.kdcs_types.specs.declared.service.Note.{Note}
use Rattle.kdcs_types.specs.declared.service.Note.TheVariants.{Released, Refused}
use Rattle.abstract_monitor.specs.declared.command.Command.{Command}
use Rattle.abstract_monitor.specs.declared.command.Command.TheVariants.{Input, Tick, Run, Turn, Drop, Print, PrintLast, Restart}
use Rattle.abstract_monitor.specs.Commands.{Maker, ByTick, ByShow, ByTransaction, ScriptStep, command_of, state_after}
use Rattle.abstract_monitor.specs.State.{Application, OpenTransaction, State}
use Rattle.abstract_monitor.specs.Turns.{turn_of}
use Rattle.lab_walks.specs.declared.signs.Signs.{Signs}
use Rattle.lab_walks.specs.Orders.{order_steps}
use Rattle.lab_walks.specs.Walks.{idle_count}

-- ---- requests that were refused

-- K04: the area was not free in time
abbrev pub is_k04 : Code → Bool
is_k04 Done = false
is_k04 K01 = false
is_k04 K02 = false
is_k04 K03 = false
is_k04 K04 = true
is_k04 K05 = false
is_k04 K06 = false
is_k04 K07 = false
is_k04 K08 = false
is_k04 K09 = false
is_k04 K10 = false
is_k04 K11 = false

-- K05: the wait would never end
abbrev pub is_k05 : Code → Bool
is_k05 Done = false
is_k05 K01 = false
is_k05 K02 = false
is_k05 K03 = false
is_k05 K04 = false
is_k05 K05 = true
is_k05 K06 = false
is_k05 K07 = false
is_k05 K08 = false
is_k05 K09 = false
is_k05 K10 = false
is_k05 K11 = false

-- the note says that a request was refused with such a code
abbrev pub refuses : (Code → Bool) → Note → Bool
refuses is (Released area content) = false
refuses is (Refused area code) = is code

-- an open transaction made such a request
abbrev pub was_refused : (Code → Bool) → ServiceId × OpenTransaction → Bool
was_refused is e = list_any (refuses is) e.1.notes

abbrev pub is_refused_in : (Code → Bool) → State → Bool
is_refused_in is s = list_any (was_refused is) s.active

-- ---- dumps

-- an abnormal end with a dump: PEND FR has none
abbrev pub dumps : Ending → Bool
dumps Synced = false
dumps (Broken cause) = true
dumps BrokenFr = false

-- the commit is that of a transaction that ended so
abbrev pub is_dump : Option Maker → Bool
is_dump None = false
is_dump (Some (ByTick ticks)) = false
is_dump (Some (ByShow lterm)) = false
is_dump (Some (ByTransaction kept)) = dumps kept.ending

-- ---- work that is left

-- no task's turn has an effect
abbrev pub is_at_rest : Application → State → Bool
is_at_rest app s = idle_count app s == app.generation.limits.tasks

-- a task's turn has an effect
abbrev pub has_work : Application → State → Bool
has_work app s = not (is_at_rest app s)

-- a service waits, and no task can go on
abbrev pub stands_still : Application → State → Bool
stands_still app s = nat_lt 0 (length s.waits) && is_at_rest app s

-- the states in which the RUNs of a walk end: of a RUN of so many turns, and then of what follows
unfoldable pub run_end : Application → (turns : ℕ) → (State → List ℕ → List State) → State → List ℕ → List State
run_end app zero follows s walk = s ∷ follows s walk
run_end app (suc n) follows s [] = s ∷ follows s []
run_end app (suc n) follows s (zero ∷ walk) = s ∷ follows s walk
run_end app (suc n) follows s (suc t ∷ walk) = run_end app n follows (turn_of app s (suc t)).after walk

-- of a script
unfoldable pub run_ends : Application → List Command → State → List ℕ → List State
run_ends app [] s walk = []
run_ends app (Run turns ∷ cs) s walk = run_end app turns (run_ends app cs) s walk
run_ends app (Input pterm text ∷ cs) s walk = run_ends app cs (command_of app s (Input pterm text)).after walk
run_ends app (Tick ticks ∷ cs) s walk = run_ends app cs (command_of app s (Tick ticks)).after walk
run_ends app (Turn task ∷ cs) s walk = run_ends app cs (command_of app s (Turn task)).after walk
run_ends app (Drop pterm ∷ cs) s walk = run_ends app cs (command_of app s (Drop pterm)).after walk
run_ends app (Print pterm ∷ cs) s walk = run_ends app cs (command_of app s (Print pterm)).after walk
run_ends app (PrintLast pterm ∷ cs) s walk = run_ends app cs (command_of app s (PrintLast pterm)).after walk
run_ends app (Restart ∷ cs) s walk = run_ends app cs (command_of app s Restart).after walk

-- ---- the signs

-- after one of these steps a request of an open transaction is refused so
abbrev pub is_refused_along : (Code → Bool) → List ScriptStep → Bool
is_refused_along is steps = list_any (λ (d : ScriptStep). is_refused_in is d.after) steps

-- one of them is a dump
abbrev pub is_dump_along : List ScriptStep → Bool
is_dump_along steps = list_any (λ (d : ScriptStep). is_dump d.by) steps

-- of a walk from this state
abbrev pub signs_of : Application → List Command → State → (walk : List ℕ) → Signs
signs_of app cs s walk = record {
  k04 = is_refused_along is_k04 (order_steps app cs s walk);
  k05 = is_refused_along is_k05 (order_steps app cs s walk);
  dump = is_dump_along (order_steps app cs s walk);
  standstill = stands_still app (state_after s (order_steps app cs s walk));
  spent = list_any (has_work app) (run_ends app cs s walk);
}
