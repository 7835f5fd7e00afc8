-- From the start to an end.
use Rattle.std.proofs.Common.{◌≡◌, ◌+◌, ◌≤◌, length, arith, ℕ, List, [], ◌∷◌, ◌++◌, refl, sym, ap, subst, ◌∙◌}
use Rattle.std.specs.Prelude.{false}
use Rattle.std.proofs.lemmas.Bool.{true≢false}
use Rattle.std.proofs.lemmas.List.{append-nil, length-append}
use Rattle.application_types.specs.Fitted.{FittedUnits, IsFit}
use Rattle.application_types.specs.Generation.{Generated}
use Rattle.kdcs_types.specs.Tables.{TableRows}
use Rattle.laws_of_runs.specs.Applied.{applied}
use Rattle.laws_of_states.specs.Keeping.{HasFacts, IsScriptOf}
use Rattle.laws_of_states.specs.Suits.{Suits}
use Rattle.abstract_monitor.specs.declared.command.Command.{Command}
use Rattle.abstract_monitor.specs.Commands.{started}
use Rattle.abstract_monitor.specs.State.{Application}
use Rattle.monitor_core.specs.CoreValue.{CoreValue}
use Rattle.lab_walks.specs.declared.frame.Frame.{Frame}
use Rattle.lab_orders.specs.declared.path.Path.{Path}
use Rattle.lab_orders.specs.declared.reach.Place.{Place}
use Rattle.lab_orders.specs.declared.reach.Place.TheVariants.{Inside, Ended, Worked}
use Rattle.lab_orders.specs.declared.performed.Found.{Found}
use Rattle.lab_orders.specs.declared.search.Seen.{Seen}
use Rattle.lab_orders.specs.declared.search.Seen.TheVariants as seen
use Rattle.lab_orders.specs.Drawing.{CameToCommands, Drew}
use Rattle.lab_orders.specs.Finding.{CanStart, Descended, SawIt}
use Rattle.lab_walks.specs.Frames.{IsAhead}
use Rattle.lab_orders.specs.Searching.{CanGo, IsBesideAt, Quest, Reached, place_of, quest_of, state_at}
use Rattle.lab_walks.specs.Frames.{IsWay, turns_in}
use Rattle.lab_orders.specs.Walking.{Begun}
use Rattle.lab_walks.specs.Walks.{AtEnd, InRun, IsEnd, IsWalk, stand}
use Rattle.lab_orders.proofs.Drawing.{came_start, ended_walk}
use Rattle.lab_orders.proofs.Reaching.{run_stands}
use Rattle.lab_orders.proofs.Searching.{ahead_back, ahead_more, way_walks}
use Rattle.lab_walks.specs.FramesLaws.{way_more}
use Rattle.lab_orders.proofs.Steps.{moved}

module _ (app : Application) (t : TableRows) (cs : List Command) (c : CoreValue) (before : Path) (begun : Begun app t c before) where
  -- a walk that was drawn
  pub drawn_is : (d : CoreValue) (after : Path) → Drew c before cs d after → IsWalk app cs (started app t) after.turns
  drawn_is d after drew = ended_walk (record { app = app; commands = cs; start = started app t }) d.application d.state after.turns (drew.came (record { app = app; commands = cs; start = started app t }) [] (sym begun.application) start)
    where
      start : CameToCommands (record { app = app; commands = cs; start = started app t }) c.application c.state (cs ++ []) before.turns
      start =
          subst (λ (l : List Command). CameToCommands (record { app = app; commands = cs; start = started app t }) c.application c.state l before.turns) (sym (append-nil cs))
          (moved (λ a u. CameToCommands (record { app = app; commands = cs; start = started app t }) a u cs before.turns) begun.application begun.state
          (subst (CameToCommands (record { app = app; commands = cs; start = started app t }) app (started app t) cs) (sym begun.turns) (came_start (record { app = app; commands = cs; start = started app t }))))

-- ---- again

-- the spot of a RUN that the turns lead into
pub inside_stands : (q : Quest) (d : CoreValue) (p : Path) (left room behind : ℕ) → Reached q d p (Inside left room behind) → place_of q ≡ InRun left room d.state
inside_stands q d p left room behind inside = run_stands q d.application left room inside.cs d.state p inside.stops.1

module _ (q : Quest) (not_asked : q.asks ≡ false) (d : CoreValue) (p : Path) where
  reached_state : (place : Place) → Reached q d p place → state_at (place_of q) ≡ d.state
  reached_state (Inside left room behind) reached = ap state_at (inside_stands q d p left room behind reached)
  reached_state Ended reached = ap state_at reached
  reached_state Worked asked = absurd (true≢false (sym asked ∙ not_asked))

  pub reached_facts : (place : Place) → IsBesideAt d p place → Reached q d p place → HasFacts d.application d.state
  reached_facts (Inside left room behind) beside reached = beside.facts
  reached_facts Ended beside reached = beside.facts
  reached_facts Worked beside asked = absurd (true≢false (sym asked ∙ not_asked))

module _ (app : Application) (t : TableRows) (cs : List Command) (g : Generated) (units : FittedUnits) (same : app ≡ applied g units) where
  pub again_start : CanGo app t cs → IsFit g units → CanStart (applied g units) t cs g units
  again_start go fit = record {
    fit = fit;
    application = refl;
    suits = subst (λ (a : Application). Suits a.generation t) same go.suits;
    names = subst (λ (a : Application). IsScriptOf a cs) same go.names;
    tries = go.tries;
  }

  pub again_way : (frames : List Frame) → IsWay app cs (started app t) frames → IsWay (applied g units) cs (started (applied g units) t) frames
  again_way frames way = subst (λ (a : Application). IsWay a cs (started a t) frames) same way

  pub again_state : (frames : List Frame) (d : CoreValue) (p : Path) (place : Place) → Reached (quest_of (applied g units) cs t frames false) d p place → state_at (stand app cs (started app t) (turns_in frames)) ≡ d.state
  again_state frames d p place reached = ap (λ (a : Application). state_at (stand a cs (started a t) (turns_in frames))) same ∙ reached_state (quest_of (applied g units) cs t frames false) refl d p place reached

-- ---- an end

-- the way to an end is a walk
pub reached_walk : (app : Application) (t : TableRows) (cs : List Command) (frames : List Frame) (d : CoreValue) → IsWay app cs (started app t) frames → place_of (quest_of app cs t frames false) ≡ AtEnd d.state → IsEnd (stand app cs (started app t) (turns_in frames)) × IsWalk app cs (started app t) (turns_in frames)
reached_walk app t cs frames d way reached = let end = subst IsEnd (sym reached) tt in (end, way_walks app cs (started app t) frames way end)

-- ---- down to an end

module _ (app : Application) (t : TableRows) (cs : List Command) (old frames : List Frame) (way : IsWay app cs (started app t) frames) (kept : (w : List ℕ) → IsWalk app cs (started app t) w → IsAhead old w → IsAhead frames w) (only : (w : List ℕ) → IsAhead frames w → IsAhead old w) where
  pub descended : (found : Found) → SawIt app cs t frames (seen.Ended found) → Descended app t cs old frames found
  descended found saw = record {
    way = way;
    end = saw.0;
    turns = saw.1;
    found_is = saw.2;
    kept = kept;
    only = only;
  }

  -- one frame deeper
  module _ (frame : Frame) (saw : SawIt app cs t frames (seen.Open frame)) (deeper : List Frame) (are : deeper ≡ frames ++ frame ∷ []) where
    pub deeper_way : IsWay app cs (started app t) deeper
    deeper_way = subst (IsWay app cs (started app t)) (sym are) (way_more app cs (started app t) frames frame way saw.0)

    pub deeper_kept : (w : List ℕ) → IsWalk app cs (started app t) w → IsAhead old w → IsAhead deeper w
    deeper_kept w walk h = subst (λ (l : List Frame). IsAhead l w) (sym are) (ahead_more app cs (started app t) frames frame saw.0 saw.1 w walk (kept w walk h))

    pub deeper_only : (w : List ℕ) → IsAhead deeper w → IsAhead old w
    deeper_only w h = only w (ahead_back frames frame w (subst (λ (l : List Frame). IsAhead l w) are h))

pub saw_next : (app later : Application) → later ≡ app → (t : TableRows) (cs : List Command) (slice frames : List Frame) → slice ≡ frames → (it : Seen) → SawIt later cs t slice it → SawIt app cs t frames it
saw_next app later same t cs slice frames are it saw = subst (λ (l : List Frame). SawIt app cs t l it) are (subst (λ (a : Application). SawIt a cs t slice it) same saw)

pub longer : (frames : List Frame) (frame : Frame) (deeper : List Frame) → deeper ≡ frames ++ frame ∷ [] → (n : ℕ) → n ≤ length frames → n + 1 ≤ length deeper
longer frames frame deeper are n long = let more : length deeper ≡ length frames + 1 = ap length are ∙ length-append frames (frame ∷ []) in omega (arith, more, long)
