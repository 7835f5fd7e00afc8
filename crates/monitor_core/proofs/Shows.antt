-- The message that an LTERM shows: which job is due, and what its commit changes.
use Rattle.std.specs.Prelude.{◌≡◌, refl, Bool, true, false, not, ◌++◌, ℕ, IsSome, List, [], ◌∷◌, Option, Some, None}
use Rattle.std.proofs.Common.{arith, sym, ap, subst, ◌∙◌}
use Rattle.std.specs.Option.{option_eq, option_map}
use Rattle.kd_base.specs.ToolsLaws.{map_some}
use Rattle.kdcs_types.specs.declared.act.Act.{Act}
use Rattle.kdcs_types.specs.declared.act.Act.TheVariants.{Commit, Emit}
use Rattle.kdcs_types.specs.declared.act.Change.{Change}
use Rattle.kdcs_types.specs.declared.act.Change.TheVariants.{Set}
use Rattle.kdcs_types.specs.declared.act.Changes.{Changes}
use Rattle.kdcs_types.specs.declared.act.Row.TheVariants.{Shown as ShownRow}
use Rattle.kdcs_types.specs.declared.key.Target.{Target}
use Rattle.kdcs_types.specs.declared.key.Target.TheVariants.{Tac, Lterm}
use Rattle.kdcs_types.specs.declared.service.Job.{Job}
use Rattle.kdcs_types.specs.declared.service.JobValue.{JobValue}
use Rattle.kdcs_types.specs.Same.{job_value_eq, target_eq}
use Rattle.kdcs_types.specs.Tables.{TableRows, IsSortedTables, changed, shown_of}
use Rattle.open_transaction.specs.declared.async_queue.queue.QueuedJob.{QueuedJob}
use Rattle.open_transaction.specs.Queue.{first_due, untaken}
use Rattle.abstract_monitor.specs.Bytes.{Bytes}
use Rattle.abstract_monitor.specs.Commands.{due_for, is_for, show_by, show_next, shown_tables}
use Rattle.abstract_monitor.specs.Picks.{due_job, free_jobs}
use Rattle.abstract_monitor.specs.State.{State}
use Rattle.laws_of_states.specs.CommitLaws.{ShownMade, shown_changes, shown_set}
use Rattle.laws_of_states.specs.ShowsLaws.{due_stands, shown_made}
use Rattle.laws_of_states.specs.EndsLaws.{shows_stay_sound}
use Rattle.laws_of_states.specs.PointLaws.{AreSound}
use Rattle.table_fit.specs.Pages.{FitPool}
use Rattle.sync_points.specs.PointChanges.{is_real}
use Rattle.sync_points.specs.RowsLaws.{same_shown}
use Rattle.service_ends.specs.declared.core_state.parts.MonitorParts.{MonitorParts}
use Rattle.service_ends.specs.Standing.{IsIndexed, active_of, state_of}
use Rattle.service_ends.specs.Whole.{app_of}
use Rattle.monitor_core.specs.Commanding.{Comes}
use Rattle.monitor_core.specs.PickingLaws.{first_same}
use Rattle.monitor_core.specs.Showing.{job_with}

module _ (t : TableRows) (lterm : Bytes) (value : JobValue) where
  -- the LTERM shows the message
  abbrev shows_it : Bool
  shows_it = option_eq job_value_eq (Some value) (shown_of t lterm)

  is_shown : (b : Bool) → is_real t (Set (ShownRow lterm value)) ≡ b → shows_it ≡ not b
  is_shown b e = by shows_it (sym (ap not (same_shown t lterm value)) ∙ e)
    where
      by : (same : Bool) → not same ≡ b → same ≡ not b
      by true h = ap not h
      by false h = ap not h

  none_behind : (items : List Change) → items ++ [] ≡ items
  none_behind [] = refl
  none_behind (c ∷ cs) = ap (λ (l : List Change). c ∷ l) (none_behind cs)

  -- it is not set again
  pub set_none : (items : List Change) → is_real t (Set (ShownRow lterm value)) ≡ false → items ≡ items ++ shown_set shows_it lterm value
  set_none items e = sym (ap (λ b. items ++ shown_set b lterm value) (is_shown false e) ∙ none_behind items)

  -- another one, or none
  pub set_one : (items : List Change) → is_real t (Set (ShownRow lterm value)) ≡ true → items ++ Set (ShownRow lterm value) ∷ [] ≡ items ++ shown_set shows_it lterm value
  set_one items e = sym (ap (λ b. items ++ shown_set b lterm value) (is_shown true e))

for_lterm : (lterm : Bytes) (to : Target) → target_eq (Lterm lterm) to ≡ is_for lterm to
for_lterm lterm (Tac tac) = refl
for_lterm lterm (Lterm other) = refl

-- the first due job of the queue is that of the state
pub first_is : (p : MonitorParts) (lterm : Bytes) (now : ℕ) → IsIndexed p → now ≡ p.tables.clock → first_due now (target_eq (Lterm lterm)) p.jobs ≡ option_map untaken (due_for (state_of p) lterm)
first_is p lterm now indexed clock =
    ap (λ (n : ℕ). first_due n (target_eq (Lterm lterm)) p.jobs) clock
    ∙ first_same p (target_eq (Lterm lterm)) indexed
    ∙ (λ i. option_map untaken (due_job p.tables.clock (λ (to : Target). for_lterm lterm to i) (free_jobs (active_of p.active) p.tables.jobs)))

-- and is in the tables
pub one_due : (p : MonitorParts) (lterm : Bytes) (q : QueuedJob) → IsSortedTables p.tables → Some q ≡ option_map untaken (due_for (state_of p) lterm) → job_with p.tables q.number ≡ due_for (state_of p) lterm
one_due p lterm q order is =
    let found = map_some untaken (due_for (state_of p) lterm) q (sym is) in
    ap (λ (n : ℕ). job_with p.tables n) (ap (λ (r : QueuedJob). r.number) (sym found.2))
    ∙ ap (option_map (λ (v : JobValue). record { number = found.0.number; value = v })) (due_stands (state_of p) lterm found.0 order found.1)
    ∙ sym found.1

some_stands : (o : Option JobValue) (v : JobValue) → o ≡ Some v → IsSome o
some_stands o v e = subst (λ (p : Option JobValue). IsSome p) (sym e) refl

module _ (p : MonitorParts) (lterm : Bytes) (job : Job) (order : IsSortedTables p.tables) (due : Some job ≡ due_for (state_of p) lterm) where
  made : ShownMade p.generation p.tables lterm job
  made = shown_made p.generation p.tables lterm job order (some_stands _ _ (due_stands (state_of p) lterm job order (sym due)))

  -- it takes no more pages there
  pub shown_fits : AreSound p.generation p.tables → (changes : Changes) → changes ≡ shown_changes p.tables lterm job → FitPool p.generation (changed p.tables changes)
  shown_fits sound changes is =
      let less = (shows_stay_sound p.generation (state_of p) lterm job sound (sym due)).charge in
      let fit : FitPool p.generation (shown_tables p.tables lterm job) = omega (arith, less, sound.suits.charge) in
      subst (FitPool p.generation) (sym (ap (changed p.tables) is ∙ made.tables)) fit

  -- the step of a job that is shown
  pub shown_comes : (no_message : Bytes) (line_of : Bytes → Bytes) (changes : Changes) (line : Bytes) (after : State)
      → changes ≡ shown_changes p.tables lterm job
      → line ≡ line_of job.value.message
      → after ≡ record (state_of p) { tables = changed p.tables changes }
      → (acts : List Act) → acts ≡ Commit changes ∷ Emit line ∷ []
      → Comes after acts (show_next (app_of p) (state_of p) lterm no_message line_of)
  unfolding show_next
  shown_comes no_message line_of changes line after is said came acts done =
      subst (λ (o : Option Job). Comes after acts (show_by (app_of p) (state_of p) lterm no_message line_of o)) due record {
        state = came ∙ ap (λ (t : TableRows). record (state_of p) { tables = t }) (ap (changed p.tables) is ∙ made.tables);
        acts = done ∙ (λ i. Commit ((is ∙ sym made.exact) i) ∷ Emit (said i) ∷ []);
      }

-- the step without a due job
pub nothing_comes : (p : MonitorParts) (lterm no_message : Bytes) (line_of : Bytes → Bytes) (line : Bytes) → None ≡ due_for (state_of p) lterm
    → line ≡ no_message
    → (acts : List Act) → acts ≡ Emit line ∷ []
    → Comes (state_of p) acts (show_next (app_of p) (state_of p) lterm no_message line_of)
unfolding show_next
nothing_comes p lterm no_message line_of line none said acts done =
    subst (λ (o : Option Job). Comes (state_of p) acts (show_by (app_of p) (state_of p) lterm no_message line_of o)) none
    record { state = refl; acts = done ∙ ap (λ (l : Bytes). Emit l ∷ []) said }
