-- The entries of a run can be written, and a trail of them is read again.
use Rattle.std.specs.Prelude.{◌≡◌, refl, List, [], ◌∷◌, IfSome, Option, Some, None, All}
use Rattle.std.proofs.Common.{sym, ap, subst, arith, inl, inr}
use Rattle.std.proofs.lemmas.List.Elements.{All-from_recursion, All-weaker}
use Rattle.std.specs.List.{cons_option, AllByRecursion as Each}
use Rattle.std.specs.Option.{option_map}
use Rattle.application_types.specs.Soundness.{AreLimits, AreNamed}
use Rattle.kdcs_types.specs.declared.act.Act.{Act}
use Rattle.kdcs_types.specs.declared.act.Act.TheVariants.{Commit, Emit}
use Rattle.kdcs_types.specs.declared.act.Changes.{Changes}
use Rattle.kdcs_types.specs.Difference.{difference}
use Rattle.kdcs_types.specs.DifferenceLaws.{difference_changes}
use Rattle.kdcs_types.specs.Tables.{TableRows, IsSortedTables}
use Rattle.abstract_monitor.specs.declared.command.Command.{Command}
use Rattle.abstract_monitor.specs.Commands.{Maker, ByTick, ByShow, ByTransaction, ScriptStep, started}
use Rattle.abstract_monitor.specs.Endings.{durable}
use Rattle.abstract_monitor.specs.State.{Application, State}
use Rattle.abstract_monitor.specs.Trace.{history}
use Rattle.laws_of_states.specs.Along.{StepLaw}
use Rattle.laws_of_states.specs.AlongLaws.{EachMeets, meets_along}
use Rattle.laws_of_runs.specs.RunLaws.{HistoriesCommitOnce}
use Rattle.laws_of_runs.specs.SerialLaws.{HasReplays, StepsKeepReplays}
use Rattle.laws_of_states.specs.DurableLaws.{durable_sorted}
use Rattle.laws_of_states.specs.EachStep.{EachStep}
use Rattle.laws_of_states.specs.Keeping.{HasFacts}
use Rattle.laws_of_states.specs.Steps.{AreLines, CommitsOnce}
use Rattle.laws_of_states.specs.Suits.{Suits}
use Rattle.record_codec.specs.TableReadings.{AreProperTables}
use Rattle.record_codec.specs.Values.{HasShortChange}
use Rattle.table_fit.specs.ShortLaws.{suiting_tables_are_short}
use Rattle.audit_trail.specs.declared.entry.TrailEntry.{TrailEntry}
use Rattle.audit_trail.specs.Facts.{IsProperChange}
use Rattle.audit_trail.specs.RoundTrip.{IsWritableMaker, IsWritable}
use Rattle.audit_trail.specs.Written.{HasShortMaker, HasShortEntry, AreEntryBytes}
use Rattle.trail_run.specs.Entries.{by_of, changes_among, entry_by, entry_in, entries_in}
use Rattle.trail_run.proofs.laws_of_trails.WrittenEntries.{IsGoodChange, difference_good}
use Rattle.trail_run.proofs.laws_of_trails.WrittenMakers.{IsWellMade, StepIsWellMade, turn_made, command_made}
use Rattle.trail_run.proofs.laws_of_trails.WrittenRows.{tables_proper, proper_keep}
use Rattle.trail_run.proofs.laws_of_trails.WrittenSteps.{start_keeps, turn_keeps, command_keeps}
use Rattle.trail_run.proofs.laws_of_trails.WrittenTables.{durable_keeps}
use Rattle.trail_run.specs.OwnTrails.{CanBeTrailed, entries_of, OwnEntriesAreShort, IsShortRun, HasShortRun, OwnTrailsAreWritable}
use Rattle.trail_run.specs.WrittenNames.{StateKeepsNames}

-- ---- the entry of a step

no_changes : (acts : List Act) → AreLines acts → changes_among acts ≡ None
no_changes [] lines = refl
no_changes (Emit line ∷ acts) lines = no_changes acts lines
no_changes (Commit changes ∷ acts) lines = absurd lines

-- it can be written, and where its parts are bytes and its statements few it is read again
abbrev IsWritten : TrailEntry → Type 0
IsWritten e = HasShortEntry e × (AreEntryBytes e → HasShortRun e → IsWritable e)

maker_short : (maker : Maker) → IsWellMade maker → HasShortMaker (by_of maker)
maker_short (ByTick ticks) is = tt
maker_short (ByShow lterm) is = tt
maker_short (ByTransaction kept) is = is.short

maker_writable : (maker : Maker) → IsWellMade maker → IsShortRun (by_of maker) → IsWritableMaker (by_of maker)
maker_writable (ByTick ticks) is few = is
maker_writable (ByShow lterm) is few = is
maker_writable (ByTransaction kept) is few = (record { service = is.service; began = is.began; notes = is.notes; statements = few }, is.short)

-- what holds of durable tables before and after a step
record AreFitTables (app : Application) (t : TableRows) : Type 0 where
  sorted : IsSortedTables t
  suits : Suits app.generation t
  proper : AreProperTables t

entry_written : (app : Application) → AreLimits app.generation.limits → (maker : Maker) (t u : TableRows) → IsWellMade maker → AreFitTables app t → AreFitTables app u → IsWritten (record { by = by_of maker; changes = difference t u })
entry_written app limits maker t u made before after =
    let good = difference_good t u before.proper after.proper (suiting_tables_are_short app.generation u limits after.suits after.proper) in
    let all : All IsGoodChange (difference t u).items = All-from_recursion IsGoodChange (difference t u).items good in
    let proper : All IsProperChange (difference t u).items = All-weaker IsGoodChange IsProperChange (λ c h. h.1) (difference t u).items all in (
      record { by = maker_short maker made; changes = All-weaker IsGoodChange HasShortChange (λ c h. h.0) (difference t u).items all },
      λ bytes few. record {
        by = maker_writable maker made few;
        by_bytes = bytes.by;
        clock = omega (arith, after.suits.clock);
        next_job = omega (arith, after.suits.next_job);
        changes = record { changes = difference_changes t u after.sorted; proper = proper };
        bytes = bytes.changes;
      },
    )

-- ---- along a script

-- the step keeps names, and what made its commit can be written
record StepKeeps (app : Application) (s : State) (d : ScriptStep) : Type 0 where
  before : HasFacts app s
  after : HasFacts app d.after
  keeps : StateKeepsNames d.after
  made : StepIsWellMade d

abbrev StepKeepsNames : StepLaw
StepKeepsNames app s d = AreLimits app.generation.limits → AreNamed app.generation → StateKeepsNames s → StepKeeps app s d

each_step : StepsKeepReplays → EachMeets HasReplays StepKeepsNames
each_step steps = record {
  turns = λ app s task is_app within facts limits names h. record {
    before = facts.0;
    after = (steps.turns app s task is_app within facts).0;
    keeps = turn_keeps app limits names s facts.0 h task;
    made = turn_made app is_app limits names s facts.0 h task;
  };
  commands = λ app s c is_app of facts limits names h. record {
    before = facts.0;
    after = (steps.commands app s c is_app of facts).0;
    keeps = command_keeps app limits names s facts.0 h c;
    made = command_made app is_app limits names s facts.0 h c of;
  };
}

module _ (app : Application) (limits : AreLimits app.generation.limits) (names : AreNamed app.generation) where
  durable_fit : (s : State) → HasFacts app s → StateKeepsNames s → AreFitTables app (durable app.generation s.tables)
  durable_fit s facts h =
      let sorted = durable_sorted app.generation s.tables facts.1.order in
      record { sorted = sorted; suits = facts.1.suits; proper = tables_proper app.generation limits names (durable app.generation s.tables) sorted facts.1.suits (durable_keeps app.generation s.tables h.0) }

  step_written : (s : State) (d : ScriptStep) → StateKeepsNames s → StepKeeps app s d → CommitsOnce app s d → IfSome (entry_in d) IsWritten
  step_written s d h step (inl none) = subst (λ (o : Option TrailEntry). IfSome o IsWritten) (sym (ap (λ (o : Option Changes). entry_by o (option_map by_of d.by)) (no_changes d.acts none.lines))) tt
  step_written s d h step (inr one) =
      let t = durable app.generation s.tables in
      let u = durable app.generation d.after.tables in
      let e : TrailEntry = record { by = by_of one.maker; changes = difference t u } in
      let made : IfSome (Some one.maker) IsWellMade = subst (λ (o : Option Maker). IfSome o IsWellMade) one.by step.made in
      let same : entry_in d ≡ Some e = λ i. entry_by (changes_among (one.acts i)) (option_map by_of (one.by i)) in
      subst (λ (o : Option TrailEntry). IfSome o IsWritten) (sym same) (entry_written app limits one.maker t u made (durable_fit s step.before h) (durable_fit d.after step.after step.keeps))

  more : (o : Option TrailEntry) (es : List TrailEntry) → IfSome o IsWritten → Each IsWritten es → Each IsWritten (cons_option o es)
  more None es h rest = rest
  more (Some e) es h rest = (h, rest)

  all_written : (s : State) (steps : List ScriptStep) → StateKeepsNames s → EachStep (StepKeepsNames app) s steps → EachStep (CommitsOnce app) s steps → Each IsWritten (entries_in steps)
  all_written s [] h each once = tt
  all_written s (d ∷ ds) h each once =
      let step = each.0 limits names h in
      more (entry_in d) (entries_in ds) (step_written s d h step once.0) (all_written d.after ds step.keeps each.1 once.1)

-- ---- the laws

trail_written : StepsKeepReplays → HistoriesCommitOnce → (app : Application) (t : TableRows) (script : List Command) → CanBeTrailed app t script → All IsWritten (entries_of app t script)
trail_written steps once app t script can =
    let s = started app t in
    All-from_recursion IsWritten (entries_of app t script)
    (all_written app can.limits can.names s (history app s script) (start_keeps app t (proper_keep t can.proper))
    (meets_along HasReplays steps StepKeepsNames (each_step steps) app s script can.application can.commands (steps.starts app t can.application can.order can.suits))
    (once app s script))

pub entries_are_short : StepsKeepReplays → HistoriesCommitOnce → OwnEntriesAreShort
entries_are_short steps once app t script can = All-weaker IsWritten HasShortEntry (λ e h. h.0) (entries_of app t script) (trail_written steps once app t script can)

pub trails_are_writable : StepsKeepReplays → HistoriesCommitOnce → OwnTrailsAreWritable
trails_are_writable steps once app fingerprint t script can long are rows bytes few =
    let all = trail_written steps once app t script can in
    record {
      fingerprint_length = long;
      fingerprint_bytes = are;
      clock = omega (arith, can.suits.clock);
      next_job = omega (arith, can.suits.next_job);
      sorted = can.order;
      proper = can.proper;
      bytes = rows;
      all = λ k d i. (all k d i).1 (bytes k d i) (few k d i);
    }
