-- The key of some turns.
use Rattle.std.proofs.Common.{◌≡◌, ℕ, ◌+◌, List, [], ◌++◌, refl, ap, subst, ◌∙◌}
use Rattle.std.specs.Prelude.{true}
use Rattle.std.proofs.lemmas.List.{append-nil}
use Rattle.kdcs_types.specs.Tables.{TableRows}
use Rattle.abstract_monitor.specs.declared.command.Command.{Command}
use Rattle.abstract_monitor.specs.Commands.{started}
use Rattle.abstract_monitor.specs.State.{Application}
use Rattle.laws_of_runs.specs.Replays.{AllReplay}
use Rattle.laws_of_states.specs.Keeping.{HasFacts}
use Rattle.monitor_core.specs.CoreValue.{CoreValue}
use Rattle.lab_walks.specs.declared.frame.Frame.{Frame}
use Rattle.lab_walks.specs.declared.signs.Signs.{Signs}
use Rattle.lab_walks.specs.Ahead.{Ahead, IsWhole, ahead, ahead_in}
use Rattle.lab_walks.specs.Frames.{IsWay, turns_in}
use Rattle.lab_walks.specs.Outcomes.{by_name}
use Rattle.lab_walks.specs.Walks.{stand}
use Rattle.lab_orders.specs.declared.key.Key.{Key}
use Rattle.lab_orders.specs.declared.path.Path.{Path}
use Rattle.lab_orders.specs.declared.reach.Place.{Place}
use Rattle.lab_orders.specs.Alike.{IsKeyed, IsMadeOf}
use Rattle.lab_orders.specs.Searching.{GoesInRun, IsBesideAt, IsInside, Quest, Reached, done_and, quest_of}
use Rattle.lab_orders.specs.Walking.{IsBeside}
use Rattle.lab_orders.proofs.Searching.{way_can}

pub keyed : (app : Application) (t : TableRows) (script : List Command) (frames : List Frame) → IsWay app script (started app t) frames
    → (d : CoreValue) (p : Path) (place : Place) → d.application ≡ app → IsBesideAt d p place → Reached (quest_of app script t frames true) d p place
    → (key : Key) → IsMadeOf d p place key → IsKeyed app t script (turns_in frames) key
keyed app t script frames way d p place same at reached key made = record {
  front = inside.front;
  cs = inside.cs;
  split = inside.parts;
  behind = inside.stops.0;
  s = d.state;
  steps = g.steps;
  ends = g.ends;
  arrived = record {
    can = way_can app script (started app t) frames way;
    spot = λ o. ap (λ (l : List ℕ). stand app script (started app t) (l ++ o)) taken ∙ g.spot o;
    steps_are = λ o. ap (λ (l : Ahead). l.0) (all_ahead o);
    ends_are = λ o. ap (λ (l : Ahead). l.1) (all_ahead o);
    state = g.state;
  };
  facts = subst (λ (a : Application). HasFacts a d.state) same beside.facts;
  replays = subst (λ (a : Application). AllReplay a d.state) same beside.replays;
  outline = made.outline;
  lines = made.lines ∙ ap by_name g.told.sent;
  whole = subst IsWhole g.told.sent made.whole;
  k04 = ap (λ (x : Signs). x.k04) made.signs ∙ g.told.k04;
  k05 = ap (λ (x : Signs). x.k05) made.signs ∙ g.told.k05;
  dump = ap (λ (x : Signs). x.dump) made.signs ∙ g.told.dump;
  serial = made.serial ∙ g.told.serial;
  rest = g.no_work refl;
}
  where
    q : Quest
    q = quest_of app script t frames true

    beside : IsBeside d p
    beside = subst (IsBesideAt d p) made.place_is at

    inside : IsInside q d p key.left key.room key.behind
    inside = subst (Reached q d p) made.place_is reached

    g : GoesInRun q app d.state (key.left + 1) key.room inside.cs p []
    g = subst (λ (a : Application). GoesInRun q a d.state (key.left + 1) key.room inside.cs p []) same inside.stops.1

    taken : turns_in frames ≡ turns_in g.done
    taken = ap turns_in (g.split ∙ append-nil g.done)

    all_ahead : (o : List ℕ) → ahead app (started app t) script (turns_in frames ++ o) ≡ done_and g.steps g.ends (ahead_in app d.state (key.left + 1) inside.cs o)
    all_ahead o = ap (λ (l : List ℕ). ahead app (started app t) script (l ++ o)) taken ∙ g.ahead_is o
