-- Turns stand for others where no more is to come after these.
use Rattle.std.proofs.Common.{◌≡◌, ℕ, zero, suc, ◌+◌, ◌≤◌, List, [], ◌∷◌, ◌++◌, inl, inr, sym, ap, subst, ◌∙◌, append_assoc, arith}
use Rattle.std.specs.Prelude.{Bool, ◌&&◌, ◌||◌}
use Rattle.std.specs.List.{list_any}
use Rattle.std.specs.Str.Lines.{lines}
use Rattle.std.proofs.lemmas.List.Folds.{list_all-append, list_any-append}
use Rattle.kdcs_types.specs.declared.call.Code.{Code}
use Rattle.abstract_monitor.specs.declared.command.Command.{Command}
use Rattle.abstract_monitor.specs.Bytes.{Bytes}
use Rattle.abstract_monitor.specs.Commands.{ScriptStep, state_after}
use Rattle.abstract_monitor.specs.Listing.{listing}
use Rattle.abstract_monitor.specs.State.{Application, State}
use Rattle.abstract_monitor.specs.Turns.{turn_of}
use Rattle.lab_walks.specs.Ahead.{Arrived, ArrivedStandFor, IsWhole, ahead_in, sent_over}
use Rattle.lab_walks.specs.LinesLaws.{by_name_both}
use Rattle.lab_walks.specs.ListsLaws.{each_both}
use Rattle.lab_walks.specs.Outcomes.{Result, by_name, placed_all, result_of}
use Rattle.lab_walks.specs.Serial.{is_one_at_a_time, is_serial, is_serial_along}
use Rattle.lab_walks.specs.Signs.{has_work, is_dump, is_dump_along, is_k04, is_k05, is_refused_along, is_refused_in, stands_still}
use Rattle.lab_walks.specs.StepsLaws.{after_both, sent_both}
use Rattle.lab_walks.specs.Walks.{CanBe, InRun, IsEnd, Spot, idle_count, stand, stand_run}

-- what holds where turns lead holds after more turns without effect, if it does in one RUN
roomier : (app : Application) (P : Spot → Type 0) → ((left room more : ℕ) (s : State) → room ≤ more → P (InRun left room s) → P (InRun left more s)) → (turns room more : ℕ) → room ≤ more
    → (follows : State → List ℕ → Spot) (s : State) (o : List ℕ) → P (stand_run app turns room follows s o) → P (stand_run app turns more follows s o)
unfolding stand_run
roomier app P here zero room more le follows s o h = h
roomier app P here (suc n) room more le follows s [] h = here n room more s le h
roomier app P here (suc n) room more le follows s (zero ∷ o) h = h
roomier app P here (suc n) room more le follows s (suc t ∷ o) h = roomier app P here n (room + idle_count app s) (more + idle_count app s) (omega (arith, le)) follows (turn_of app s (suc t)).after o h

can_be_later : (app : Application) (t left room more : ℕ) (s : State) → room ≤ more → CanBe app (InRun left room s) t → CanBe app (InRun left more s) t
can_be_later app zero left room more s le (inl rests) = inl rests
can_be_later app zero left room more s le (inr spent) = inr (omega (arith, le, spent))
can_be_later app (suc t) left room more s le h = h

-- ---- turns so far, and more

module _ (app : Application) (turns : ℕ) (cs : List Command) (s : State) (o : List ℕ) where
  abbrev steps_ahead : List ScriptStep
  steps_ahead = (ahead_in app s turns cs o).0

  abbrev ends_ahead : List State
  ends_ahead = (ahead_in app s turns cs o).1

  -- what comes out, from what was seen so far and what is to come
  abbrev result_from : (sent : List Bytes) → (k04 k05 dump work : Bool) → Result
  result_from sent k04 k05 dump work = record {
    lines = placed_all sent (lines (sent_over steps_ahead));
    tables = listing (state_after s steps_ahead).tables;
    signs = record {
      k04 = k04 || is_refused_along is_k04 steps_ahead;
      k05 = k05 || is_refused_along is_k05 steps_ahead;
      dump = dump || is_dump_along steps_ahead;
      standstill = stands_still app (state_after s steps_ahead);
      spent = work || list_any (has_work app) ends_ahead;
    };
  }

  module _ (script : List Command) (start : State) (taken : List ℕ) (room : ℕ) (steps : List ScriptStep) (ends : List State) (arrived : Arrived app script start taken turns room cs s steps ends) where
    after_is : state_after start (steps ++ steps_ahead) ≡ state_after s steps_ahead
    after_is = after_both start steps steps_ahead ∙ ap (λ (u : State). state_after u steps_ahead) (sym arrived.state)

    refused_is : (is : Code → Bool) → is_refused_along is (steps ++ steps_ahead) ≡ (is_refused_along is steps || is_refused_along is steps_ahead)
    refused_is is = list_any-append (λ (d : ScriptStep). is_refused_in is d.after) steps steps_ahead

    result_is : IsWhole (sent_over steps) → result_of app script start (taken ++ o) ≡ result_from (by_name (sent_over steps)) (is_refused_along is_k04 steps) (is_refused_along is_k05 steps) (is_dump_along steps) (list_any (has_work app) ends)
    result_is whole = (λ i. of (arrived.steps_are o i) (arrived.ends_are o i)) ∙ split
      where
        of : List ScriptStep → List State → Result
        of all all_ends = record {
          lines = by_name (sent_over all);
          tables = listing (state_after start all).tables;
          signs = record { k04 = is_refused_along is_k04 all; k05 = is_refused_along is_k05 all; dump = is_dump_along all; standstill = stands_still app (state_after start all); spent = list_any (has_work app) all_ends };
        }

        split : of (steps ++ steps_ahead) (ends ++ ends_ahead) ≡ result_from (by_name (sent_over steps)) (is_refused_along is_k04 steps) (is_refused_along is_k05 steps) (is_dump_along steps) (list_any (has_work app) ends)
        split = λ i. record {
          lines = (ap by_name (sent_both steps steps_ahead) ∙ by_name_both (sent_over steps) (sent_over steps_ahead) whole) i;
          tables = listing (after_is i).tables;
          signs = record {
            k04 = refused_is is_k04 i;
            k05 = refused_is is_k05 i;
            dump = list_any-append (λ (d : ScriptStep). is_dump d.by) steps steps_ahead i;
            standstill = stands_still app (after_is i);
            spent = list_any-append (has_work app) ends ends_ahead i;
          };
        }

    serial_is : is_serial app script start (taken ++ o) ≡ (is_serial_along steps && is_serial_along steps_ahead)
    serial_is = ap is_serial_along (arrived.steps_are o) ∙ list_all-append (λ (d : ScriptStep). is_one_at_a_time d.after) steps steps_ahead

-- ---- the one stands for the other

pub arrived_stand_for : ArrivedStandFor
arrived_stand_for app script start p q turns room more cs s steps others ends other_ends one other le whole other_whole same o walk = record {
  walk_is = record {
    can = each_both (λ (before : List ℕ) (t : ℕ). CanBe app (stand app script start before) t) q o other.can next;
    end = moved IsEnd (λ left less greater u under h. h) o walk.end;
  };
  result =
      result_is app turns cs s o script start q more others other_ends other other_whole
      ∙ (λ i. result_from app turns cs s o (same.lines i) (same.k04 i) (same.k05 i) (same.dump i) (same.work i))
      ∙ sym (result_is app turns cs s o script start p room steps ends one whole);
  serial =
      serial_is app turns cs s o script start q more others other_ends other
      ∙ ap (λ b. b && is_serial_along (steps_ahead app turns cs s o)) same.serial
      ∙ sym (serial_is app turns cs s o script start p room steps ends one);
}
  where
    moved : (P : Spot → Type 0) → ((left less greater : ℕ) (u : State) → less ≤ greater → P (InRun left less u) → P (InRun left greater u)) → (b : List ℕ) → P (stand app script start (p ++ b)) → P (stand app script start (q ++ b))
    moved P here b h = subst P (sym (other.spot b)) (roomier app P here turns room more le (stand app cs) s b (subst P (one.spot b) h))

    next : (before : List ℕ) (t : ℕ) (behind : List ℕ) → o ≡ before ++ t ∷ behind → CanBe app (stand app script start (q ++ before)) t
    next before t behind e = moved (λ (spot : Spot). CanBe app spot t) (can_be_later app t) before (walk.can (p ++ before) t behind (ap (λ (l : List ℕ). p ++ l) e ∙ sym (append_assoc p before (t ∷ behind))))
