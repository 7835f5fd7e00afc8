-- A free task that takes work keeps a state consistent; and so does each turn.
use Rattle.std.specs.Prelude.{◌≡◌, refl, ℕ, zero, suc, ◌+◌, ◌-◌, ◌≤◌, Bool, true, false, cond, not, ◌||◌, List, [], ◌∷◌, slice_get, slice_set, map, find as find_first, Option, Some, None, is_some}
use Rattle.std.proofs.Common.{sym, ap, ◌∙◌, subst, inl, true≢false, arith}
use Rattle.std.specs.FinMap.{find}
use Rattle.std.specs.List.{list_all, list_any}
use Rattle.kd_base.specs.ToolsLaws.{some_is}
use Rattle.kdcs_types.specs.declared.key.ServiceId.{ServiceId}
use Rattle.kdcs_types.specs.declared.key.ServiceId.TheVariants.{Asynchronous}
use Rattle.kdcs_types.specs.declared.key.Target.{Target}
use Rattle.kdcs_types.specs.declared.key.Target.TheVariants.{Tac, Lterm}
use Rattle.kdcs_types.specs.declared.service.Job.{Job}
use Rattle.kdcs_types.specs.declared.service.JobValue.{JobValue}
use Rattle.kdcs_types.specs.declared.service.Service.{Service}
use Rattle.kdcs_types.specs.Keys.{id_cmp, id_eq}
use Rattle.kdcs_types.specs.KeyLaws.{id_eq_itself}
use Rattle.kdcs_types.specs.Tables.{TableRows, service_of, job_of}
use Rattle.application_types.specs.Generation.{Generated}
use Rattle.abstract_monitor.specs.declared.work.Work.{Work}
use Rattle.abstract_monitor.specs.declared.work.Work.TheVariants as work
use Rattle.abstract_monitor.specs.Bytes.{Bytes}
use Rattle.abstract_monitor.specs.Endings.{opened, opened_by_job, durable}
use Rattle.abstract_monitor.specs.Locks.{Active}
use Rattle.abstract_monitor.specs.Picks.{Classed, classed, ready_classes, place_classes, service_is_allowed, target_is_allowed, job_work, pick_by, pick, due_job, free_jobs, is_free}
use Rattle.abstract_monitor.specs.Sessions.{in_place}
use Rattle.abstract_monitor.specs.State.{Application, OpenTransaction, State}
use Rattle.abstract_monitor.specs.Turns.{with_open, with_task, took_job_for, took_job, took, turn_by, turn_of}
use Rattle.laws_of_states.specs.Facts.{IsConsistent}
use Rattle.laws_of_states.specs.Keeping.{HasFacts}
use Rattle.laws_of_states.specs.Suits.{Suits}
use Rattle.laws_of_states.specs.CountsLaws.{times, times_set, times_without_itself, any_counted}
use Rattle.laws_of_states.specs.EntriesLaws.{found_put}
use Rattle.laws_of_states.specs.PlacesLaws.{still_signed, times_ready, times_held, IsPlaced, placed_of, placed_running}
use Rattle.laws_of_states.specs.ChangesLaws.{alters_then, without_ready, open_alters, taken_alters, unready_alters}
use Rattle.laws_of_states.specs.RowsLaws.{least_passes, all_filtered, filtered_pass}
use Rattle.laws_of_states.specs.AreasLaws.{new_holds}
use Rattle.laws_of_states.specs.AfterLaws.{consistent_after}
use Rattle.laws_of_states.proofs.laws_of_places.Turns.{served_consistent}
use Rattle.laws_of_states.specs.DurableLaws.{durable_service}

-- ---- what is picked

-- the job is one of those that no open service has
pub record IsFreeJob (s : State) (j : Job) : Type 0 where
  pub free : is_free s.active j ≡ true
  pub among : (p : Job → Bool) → list_all p s.tables.jobs ≡ true → p j ≡ true

pub due_free : (s : State) (now : ℕ) (allowed : Target → Bool) (j : Job) → due_job now allowed (free_jobs s.active s.tables.jobs) ≡ Some j → IsFreeJob s j
due_free s now allowed j is = record {
  free = least_passes (is_free s.active) _ j (all_filtered (is_free s.active) _ (free_jobs s.active s.tables.jobs) (filtered_pass (is_free s.active) s.tables.jobs)) is;
  among = λ p all. least_passes p _ j (all_filtered p _ (free_jobs s.active s.tables.jobs) (all_filtered p (is_free s.active) s.tables.jobs all)) is;
}

-- what a free task takes
abbrev IsWork : State → Work → Type 0
IsWork s (work.Service id) = list_any (id_eq id) s.ready ≡ true
IsWork s (work.Job number) = (j : Job) × (j.number ≡ number) × IsFreeJob s j

ready_found : (app : Application) (s : State) (test : Classed → Bool) (ids : List ServiceId) (e : Classed) → find_first test (map (classed app s) ids) ≡ Some e → list_any (id_eq e.0) ids ≡ true
ready_found app s test [] e is = absurd (true≢false (sym (ap is_some is)))
ready_found app s test (i ∷ ids) e is = by (test (classed app s i)) is (ready_found app s test ids e)
  where
    by : (b : Bool) → cond b (Some (classed app s i)) (find_first test (map (classed app s) ids)) ≡ Some e
        → (find_first test (map (classed app s) ids) ≡ Some e → list_any (id_eq e.0) ids ≡ true) → (id_eq e.0 i || list_any (id_eq e.0) ids) ≡ true
    by true t later = ap (λ b. b || list_any (id_eq e.0) ids) (ap (λ (k : Classed). id_eq k.0 i) (sym (some_is (classed app s i) e t)) ∙ id_eq_itself i)
    by false t later = either (id_eq e.0 i) (later t)
      where
        either : (b : Bool) → list_any (id_eq e.0) ids ≡ true → (b || list_any (id_eq e.0) ids) ≡ true
        either true h = refl
        either false h = h

picked : (app : Application) (s : State) (w : Work) → pick app s ≡ Some w → IsWork s w
unfolding pick
picked app s w is = by (find_first (service_is_allowed app.generation (place_classes app s)) (ready_classes app s)) refl is
  where
    job : (o : Option Job) → ((j : Job) → o ≡ Some j → IsFreeJob s j) → job_work o ≡ Some w → IsWork s w
    job None free t = absurd (true≢false (sym (ap is_some t)))
    job (Some j) free t = subst (IsWork s) (some_is (work.Job j.number) w t) (j, refl, free j refl)

    by : (o : Option Classed) → find_first (service_is_allowed app.generation (place_classes app s)) (ready_classes app s) ≡ o
        → pick_by o (due_job s.tables.clock (target_is_allowed app.generation (place_classes app s)) (free_jobs s.active s.tables.jobs)) ≡ Some w → IsWork s w
    by None q t =
        job
        (due_job s.tables.clock (target_is_allowed app.generation (place_classes app s)) (free_jobs s.active s.tables.jobs))
        (due_free s s.tables.clock (target_is_allowed app.generation (place_classes app s)))
        t
    by (Some e) q t = subst (IsWork s) (some_is (work.Service e.0) w t) (ready_found app s (service_is_allowed app.generation (place_classes app s)) s.ready e q)

-- ---- one more task

-- a free task that takes a service holds it once more
times_taken : (s : State) (task : ℕ) (id : ServiceId) → slice_get s.tasks (task - 1) ≡ Some None → times_held (with_task s task (Some id)) id ≡ times_held s id + 1
times_taken s task id at = by (id_eq id id) (id_eq_itself id) (times_set (in_place id) s.tasks (task - 1) None (Some id) at)
  where
    by : (b : Bool) → b ≡ true → times (in_place id) (slice_set s.tasks (task - 1) (Some id)) + 0 ≡ times (in_place id) s.tasks + cond b 1 0 → times (in_place id) (slice_set s.tasks (task - 1) (Some id)) ≡ times (in_place id) s.tasks + 1
    by true e h = omega arith
    by false e h = absurd (true≢false (sym e))

module _ (app : Application) (s : State) (task : ℕ) (c : IsConsistent app s) (at : slice_get s.tasks (task - 1) ≡ Some None) where
  -- a service of the ready list
  takes : (id : ServiceId) → list_any (id_eq id) s.ready ≡ true → IsConsistent app (without_ready (with_task s task (Some id)) id)
  takes id ready = by (find id_cmp id s.active) refl
    where
      p : IsPlaced app s id
      p = placed_of app s c id

      by : (o : Option OpenTransaction) → find id_cmp id s.active ≡ o → IsConsistent app (without_ready (with_task s task (Some id)) id)
      by None e =
          let a : 1 ≤ times_ready s id = any_counted (id_eq id) s.ready ready in
          absurd (true≢false (sym (p.opened (omega arith)) ∙ ap is_some e))
      by (Some x) e =
          let a : 1 ≤ times_ready s id = any_counted (id_eq id) s.ready ready in
          let b : times_ready s id + times_held s id ≤ 1 = p.once in
          let d : times_held (with_task s task (Some id)) id ≡ times_held s id + 1 = times_taken s task id at in
          let f : times_ready (without_ready (with_task s task (Some id)) id) id ≡ 0 = times_without_itself id s.ready in
          consistent_after app s (without_ready (with_task s task (Some id)) id) id c
          (alters_then s (with_task s task (Some id)) _ id (taken_alters s task id at) (unready_alters (with_task s task (Some id)) id))
          (placed_running app (without_ready (with_task s task (Some id)) id) id x (omega arith) e
          (still_signed s (without_ready (with_task s task (Some id)) id) id refl ∙ p.signed (ap is_some e))
          (p.rooted x e)
          (λ w h. let g : 1 ≤ times_held s id = (p.waiting w h).0 in absurd (omega arith)))
          (λ area h. inl h)

  -- a job, which is neither open nor has a row
  begins : (number : ℕ) (job : JobValue) (tac : Bytes) → find id_cmp (Asynchronous number) s.active ≡ None → service_of s.tables (Asynchronous number) ≡ None → job_of s.tables number ≡ Some job
      → IsConsistent app (with_open (with_task s task (Some (Asynchronous number))) (Asynchronous number) (opened_by_job app.generation job tac))
  unfolding opened
  begins number job tac closed none here =
      let id = Asynchronous number in
      let v = with_task s task (Some id) in
      let y = opened_by_job app.generation job tac in
      let u = with_open v id y in
      let f : times_ready s id + times_held s id ≡ 0 = rests in
      let d : times_held v id ≡ times_held s id + 1 = times_taken s task id at in
      consistent_after app s u id c
      (alters_then s v u id (taken_alters s task id at) (open_alters v id y))
      (placed_running app u id y (omega arith) (found_put id y s.active) refl
      (record { began = none; job = ap is_some here })
      (λ w h. let g : 1 ≤ times_held s id = (p.waiting w h).0 in absurd (omega arith)))
      (new_holds s.active u.active id y (found_put id y s.active) refl)
    where
      p : IsPlaced app s (Asynchronous number)
      p = placed_of app s c (Asynchronous number)

      rests : times_ready s (Asynchronous number) + times_held s (Asynchronous number) ≡ 0
      rests = zero_or (times_ready s (Asynchronous number) + times_held s (Asynchronous number)) (λ h. true≢false (sym (p.opened h) ∙ ap is_some closed))
        where
          zero_or : (n : ℕ) → (1 ≤ n → ⊥) → n ≡ 0
          zero_or zero h = refl
          zero_or (suc n) h = absurd (h (omega arith))

-- a job has no row of its number
no_row : (g : Generated) (t : TableRows) (j : Job) → Suits g (durable g t) → ((p : Job → Bool) → list_all p t.jobs ≡ true → p j ≡ true) → service_of t (Asynchronous j.number) ≡ None
unfolding durable
no_row g t j suits among = none _ (sym (ap (λ o. not (is_some o)) (durable_service g t j.number)) ∙ among (λ k. not (is_some (service_of (durable g t) (Asynchronous k.number)))) suits.apart)
  where
    none : (o : Option Service) → not (is_some o) ≡ true → o ≡ None
    none None h = refl
    none (Some row) h = absurd (true≢false (sym h))

not_open : (active : Active) (j : Job) → is_free active j ≡ true → find id_cmp (Asynchronous j.number) active ≡ None
not_open active j h = none (find id_cmp (Asynchronous j.number) active) h
  where
    none : (o : Option OpenTransaction) → not (is_some o) ≡ true → o ≡ None
    none None e = refl
    none (Some x) e = absurd (true≢false (sym e))

took_consistent : (app : Application) (s : State) (task : ℕ) → HasFacts app s → slice_get s.tasks (task - 1) ≡ Some None → (o : Option Work) → ((w : Work) → o ≡ Some w → IsWork s w) → IsConsistent app (took app s task o).after
took_consistent app s task c at None picks = c.0
took_consistent app s task c at (Some (work.Service id)) picks = takes app s task c.0 at id (picks (work.Service id) refl)
took_consistent app s task c at (Some (work.Job number)) picks = by (job_of s.tables number) refl
  where
    found : IsWork s (work.Job number)
    found = picks (work.Job number) refl

    for : (job : JobValue) → job_of s.tables number ≡ Some job → (to : Target) → IsConsistent app (took_job_for app s task number job to).after
    for job e (Tac tac) =
        begins app s task c.0 at number job tac
        (subst (λ n. find id_cmp (Asynchronous n) s.active ≡ None) found.1 (not_open s.active found.0 found.2.free))
        (subst (λ n. service_of s.tables (Asynchronous n) ≡ None) found.1 (no_row app.generation s.tables found.0 c.1.suits found.2.among))
        e
    for job e (Lterm lterm) = c.0

    by : (o : Option JobValue) → job_of s.tables number ≡ o → IsConsistent app (took_job app s task number o).after
    by None e = c.0
    by (Some job) e = for job e job.to

pub turns_consistent : (app : Application) (s : State) (task : ℕ) → HasFacts app s → IsConsistent app (turn_of app s task).after
unfolding turn_of
turns_consistent app s task c = by (slice_get s.tasks (task - 1)) refl
  where
    by : (o : Option (Option ServiceId)) → slice_get s.tasks (task - 1) ≡ o → IsConsistent app (turn_by app s task o).after
    by None e = c.0
    by (Some None) e = took_consistent app s task c e (pick app s) (picked app s)
    by (Some (Some id)) e = served_consistent app s task id c.0 e (find id_cmp id s.active) refl
