-- The entries of steps are their commits.
use Rattle.std.proofs.Common.{◌≡◌, inl, inr, List, [], ◌∷◌, ◌++◌, refl, sym, ap, ◌∙◌}
use Rattle.std.specs.Prelude.{Option, Some, None, filter}
use Rattle.std.specs.List.{cons_option}
use Rattle.std.specs.Option.{option_map}
use Rattle.std.proofs.lemmas.List.Elements.{filter-append}
use Rattle.kdcs_types.specs.declared.act.Act.{Act}
use Rattle.kdcs_types.specs.declared.act.Act.TheVariants.{Commit, Emit}
use Rattle.kdcs_types.specs.declared.act.Changes.{Changes}
use Rattle.kdcs_types.specs.Difference.{difference}
use Rattle.abstract_monitor.specs.Commands.{Maker, ByTick, ByShow, ByTransaction, ScriptStep, acts_of}
use Rattle.abstract_monitor.specs.Endings.{durable}
use Rattle.abstract_monitor.specs.Made.{is_commit}
use Rattle.abstract_monitor.specs.State.{Application, State}
use Rattle.abstract_monitor.specs.Trace.{history}
use Rattle.laws_of_states.specs.EachStep.{EachStep}
use Rattle.laws_of_states.specs.Steps.{AreLines, CommitsOnce, MakesNoCommit, MakesOneCommit}
use Rattle.laws_of_runs.specs.RunLaws.{HistoriesCommitOnce}
use Rattle.laws_of_runs.specs.SerialRuns.{makers_of}
use Rattle.audit_trail.specs.Makers.{maker_of}
use Rattle.audit_trail.specs.declared.entry.TrailEntry.{TrailEntry}
use Rattle.trail_run.specs.Entries.{by_of, changes_among, entry_by, entry_in, entries_in}
use Rattle.trail_run.specs.Laws.{commits_of, makers_in, EntriesAreTheCommits}

lines_change_nothing : (acts : List Act) → AreLines acts → changes_among acts ≡ None
lines_change_nothing [] lines = refl
lines_change_nothing (Emit line ∷ acts) lines = lines_change_nothing acts lines
lines_change_nothing (Commit changes ∷ acts) lines = absurd lines

-- what made it, there and back
same_maker : (maker : Maker) → maker_of (by_of maker) ≡ maker
same_maker (ByTick ticks) = refl
same_maker (ByShow lterm) = refl
same_maker (ByTransaction kept) = refl

no_commits : (acts : List Act) → AreLines acts → filter is_commit acts ≡ []
no_commits [] lines = refl
no_commits (Emit line ∷ acts) lines = no_commits acts lines
no_commits (Commit changes ∷ acts) lines = absurd lines

module _ (app : Application) (s : State) (d : ScriptStep) where
  no_entry : MakesNoCommit app s d → entry_in d ≡ None
  no_entry none = ap (λ (o : Option Changes). entry_by o (option_map by_of d.by)) (lines_change_nothing d.acts none.lines)

  one_entry : (one : MakesOneCommit app s d) → entry_in d ≡ Some (record { by = by_of one.maker; changes = difference (durable app.generation s.tables) (durable app.generation d.after.tables) })
  one_entry one = λ i. entry_by (changes_among (one.acts i)) (option_map by_of (one.by i))

  -- the commits of a step, and of those after it
  commits_more : (ds : List ScriptStep) → filter is_commit (acts_of (d ∷ ds)) ≡ filter is_commit d.acts ++ filter is_commit (acts_of ds)
  commits_more ds = filter-append is_commit d.acts (acts_of ds)

  commits_here : (ds : List ScriptStep) → CommitsOnce app s d → commits_of (entries_in ds) ≡ filter is_commit (acts_of ds) → commits_of (entries_in (d ∷ ds)) ≡ filter is_commit (acts_of (d ∷ ds))
  commits_here ds (inl none) rest =
      ap (λ (o : Option TrailEntry). commits_of (cons_option o (entries_in ds))) (no_entry none)
      ∙ rest
      ∙ ap (λ (l : List Act). l ++ filter is_commit (acts_of ds)) (sym (no_commits d.acts none.lines))
      ∙ sym (commits_more ds)
  commits_here ds (inr one) rest =
      let commit = Commit (difference (durable app.generation s.tables) (durable app.generation d.after.tables)) in
      ap (λ (o : Option TrailEntry). commits_of (cons_option o (entries_in ds))) (one_entry one)
      ∙ ap (λ (l : List Act). commit ∷ l) rest
      ∙ ap (λ (l : List Act). (commit ∷ l) ++ filter is_commit (acts_of ds)) (sym (no_commits one.rest one.lines))
      ∙ ap (λ (l : List Act). filter is_commit l ++ filter is_commit (acts_of ds)) (sym one.acts)
      ∙ sym (commits_more ds)

  makers_here : (ds : List ScriptStep) → CommitsOnce app s d → makers_in (entries_in ds) ≡ makers_of ds → makers_in (entries_in (d ∷ ds)) ≡ makers_of (d ∷ ds)
  makers_here ds (inl none) rest =
      ap (λ (o : Option TrailEntry). makers_in (cons_option o (entries_in ds))) (no_entry none)
      ∙ rest
      ∙ ap (λ (o : Option Maker). cons_option o (makers_of ds)) (sym none.by)
  makers_here ds (inr one) rest =
      ap (λ (o : Option TrailEntry). makers_in (cons_option o (entries_in ds))) (one_entry one)
      ∙ (λ i. same_maker one.maker i ∷ rest i)
      ∙ ap (λ (o : Option Maker). cons_option o (makers_of ds)) (sym one.by)

commits_are : (app : Application) (s : State) (steps : List ScriptStep) → EachStep (CommitsOnce app) s steps → commits_of (entries_in steps) ≡ filter is_commit (acts_of steps)
commits_are app s [] once = refl
commits_are app s (d ∷ ds) once = commits_here app s d ds once.0 (commits_are app d.after ds once.1)

makers_are : (app : Application) (s : State) (steps : List ScriptStep) → EachStep (CommitsOnce app) s steps → makers_in (entries_in steps) ≡ makers_of steps
makers_are app s [] once = refl
makers_are app s (d ∷ ds) once = makers_here app s d ds once.0 (makers_are app d.after ds once.1)

pub entries_are_commits : HistoriesCommitOnce → EntriesAreTheCommits
entries_are_commits law app s script =
    let once = law app s script in
    record { commits = commits_are app s (history app s script) once; makers = makers_are app s (history app s script) once }
