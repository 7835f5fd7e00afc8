-- What came out of a walk that was performed to its end.
use Rattle.std.proofs.Common.{◌≡◌, ℕ, List, ◌++◌, refl, sym, ap, subst, ◌∙◌}
use Rattle.std.specs.Prelude.{Bool, true, false, ◌&&◌, ◌||◌, not}
use Rattle.std.specs.List.{list_any}
use Rattle.std.proofs.lemmas.List.{append-nil}
use Rattle.kdcs_types.specs.Tables.{TableRows}
use Rattle.abstract_monitor.specs.declared.command.Command.{Command}
use Rattle.abstract_monitor.specs.Commands.{ScriptStep, acts_of, started, state_after}
use Rattle.abstract_monitor.specs.Listing.{listing}
use Rattle.abstract_monitor.specs.State.{Application, State}
use Rattle.abstract_monitor.specs.Trace.{bytes_of}
use Rattle.monitor_core.specs.CoreValue.{CoreValue}
use Rattle.lab_walks.specs.Orders.{order_steps}
use Rattle.lab_walks.specs.Outcomes.{by_name, result_of, sent_by}
use Rattle.lab_walks.specs.Serial.{is_serial, is_serial_along}
use Rattle.lab_walks.specs.Signs.{has_work, is_dump_along, is_k04, is_k05, is_refused_along, run_ends, stands_still}
use Rattle.lab_walks.specs.Walks.{IsWalk}
use Rattle.lab_orders.specs.declared.path.Path.{Path}
use Rattle.lab_orders.specs.declared.performed.Found.{Found}
use Rattle.lab_orders.specs.Finding.{IsFound, found_result}
use Rattle.lab_orders.specs.Performing.{PerformedScript}
use Rattle.lab_orders.specs.Walking.{Begun}

module _ (app : Application) (t : TableRows) (cs : List Command) (c : CoreValue) (before : Path) (begun : Begun app t c before) (asks : Bool) (walk : List ℕ) (d : CoreValue) (after : Path) (script : PerformedScript asks c before cs walk d after) where
  abbrev all : List ScriptStep
  all = order_steps app cs (started app t) walk

  steps_are : script.goes.steps ≡ all
  steps_are = sym (append-nil script.goes.steps) ∙ sym script.goes.steps_are ∙ (λ i. order_steps (begun.application i) cs (begun.state i) walk)

  state_is : d.state ≡ state_after (started app t) all
  state_is = script.goes.state ∙ (λ i. state_after (begun.state i) (steps_are i))

  application_is : d.application ≡ app
  application_is = script.application ∙ begun.application

  sent_is : after.sent ≡ sent_by app cs (started app t) walk
  sent_is = script.goes.told.sent ∙ (λ i. begun.sent i ++ bytes_of (acts_of (steps_are i)))

  k04_is : after.signs.k04 ≡ is_refused_along is_k04 all
  k04_is = script.goes.told.k04 ∙ (λ i. begun.signs.k04 i || is_refused_along is_k04 (steps_are i))

  k05_is : after.signs.k05 ≡ is_refused_along is_k05 all
  k05_is = script.goes.told.k05 ∙ (λ i. begun.signs.k05 i || is_refused_along is_k05 (steps_are i))

  dump_is : after.signs.dump ≡ is_dump_along all
  dump_is = script.goes.told.dump ∙ (λ i. begun.signs.dump i || is_dump_along (steps_are i))

  serial_is : after.serial ≡ is_serial app cs (started app t) walk
  serial_is = script.goes.told.serial ∙ (λ i. begun.serial i && is_serial_along (steps_are i))

  ends_are : script.goes.ends ≡ run_ends app cs (started app t) walk
  ends_are = sym (append-nil script.goes.ends) ∙ sym script.goes.ends_are ∙ (λ i. run_ends (begun.application i) cs (begun.state i) walk)

  spent_is : (asks ≡ false → list_any (has_work app) (run_ends app cs (started app t) walk) ≡ true) → not asks ≡ list_any (has_work app) (run_ends app cs (started app t) walk)
  spent_is known = by asks refl
    where
      by : (b : Bool) → asks ≡ b → not b ≡ list_any (has_work app) (run_ends app cs (started app t) walk)
      by true is = sym (script.goes.rest is) ∙ (λ i. list_any (has_work (begun.application i)) (ends_are i))
      by false is = sym (known is)

  pub found_is : (asks ≡ false → list_any (has_work app) (run_ends app cs (started app t) walk) ≡ true) → IsWalk app cs (started app t) walk → (found : Found) → found.turns ≡ walk → found.sent ≡ after.sent → found.lines ≡ by_name after.sent → found.tables ≡ listing d.state.tables
      → found.signs.k04 ≡ after.signs.k04 → found.signs.k05 ≡ after.signs.k05 → found.signs.dump ≡ after.signs.dump → found.signs.standstill ≡ stands_still d.application d.state → found.signs.spent ≡ not asks → found.serial ≡ after.serial → IsFound app t cs found
  found_is known is found turns sent lines tables k04 k05 dump standstill spent serial = record {
    walk = subst (IsWalk app cs (started app t)) (sym turns) is;
    sent = sent ∙ sent_is ∙ ap (sent_by app cs (started app t)) (sym turns);
    result = here ∙ ap (result_of app cs (started app t)) (sym turns);
    serial = serial ∙ serial_is ∙ ap (is_serial app cs (started app t)) (sym turns);
  }
    where
      said_lines : found.lines ≡ by_name (sent_by app cs (started app t) walk)
      said_lines = lines ∙ ap by_name sent_is

      said_tables : found.tables ≡ listing (state_after (started app t) all).tables
      said_tables = tables ∙ ap (λ (s : State). listing s.tables) state_is

      said_standstill : found.signs.standstill ≡ stands_still app (state_after (started app t) all)
      said_standstill = standstill ∙ (λ i. stands_still (application_is i) (state_is i))

      said_spent : found.signs.spent ≡ list_any (has_work app) (run_ends app cs (started app t) walk)
      said_spent = spent ∙ spent_is known

      here : found_result found ≡ result_of app cs (started app t) walk
      here i = record {
        lines = said_lines i;
        tables = said_tables i;
        signs = record { k04 = (k04 ∙ k04_is) i; k05 = (k05 ∙ k05_is) i; dump = (dump ∙ dump_is) i; standstill = said_standstill i; spent = said_spent i };
      }
