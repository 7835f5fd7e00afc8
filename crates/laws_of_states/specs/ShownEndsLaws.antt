-- Synchronisation points and abnormal ends: the changes of the durable tables and the service's row make the tables after them.
use Rattle.std.specs.Prelude.{◌≡◌, refl, ℕ, ◌+◌, ◌≤◌, Bool, true, false, cond, IsTrue, List, [], ◌∷◌, ◌++◌, length, nat_le, nat_lt, Option, Some, None}
use Rattle.std.proofs.Common.{arith, sym, ap, subst, ◌∙◌, true≢false}
use Rattle.std.proofs.lemmas.Bool.{le-leb}
use Rattle.std.specs.List.{list_all}
use Rattle.kd_base.specs.ToolsLaws.{true_both}
use Rattle.kdcs_types.specs.declared.act.Change.TheVariants.{Set, Remove}
use Rattle.kdcs_types.specs.declared.act.Row.TheVariants.{Service as ServiceRow}
use Rattle.kdcs_types.specs.declared.key.Key.TheVariants.{Job as JobKey, Service as ServiceKey}
use Rattle.kdcs_types.specs.declared.key.ServiceId.{ServiceId}
use Rattle.kdcs_types.specs.declared.key.ServiceId.TheVariants.{Dialogue, Asynchronous}
use Rattle.kdcs_types.specs.declared.service.Job.{Job}
use Rattle.kdcs_types.specs.declared.service.Service.{Service}
use Rattle.kdcs_types.specs.Keyed.{ascends}
use Rattle.kdcs_types.specs.KeyedLaws.{all_without, ascends_without}
use Rattle.kdcs_types.specs.KeyLaws.{id_eq_same}
use Rattle.kdcs_types.specs.Keys.{id_eq}
use Rattle.kdcs_types.specs.RowLaws.{sorted_with_change}
use Rattle.kdcs_types.specs.Tables.{TableRows, AreChanges, IsSortedTables, change_fits, changed, job_key, service_of}
use Rattle.application_types.specs.Generation.{Generated}
use Rattle.abstract_monitor.specs.declared.outcome.Outcome.{Outcome}
use Rattle.abstract_monitor.specs.AreaLaws.{areas_sorted, own_job_sorted, own_fate_sorted}
use Rattle.abstract_monitor.specs.Endings.{broken, durable, is_durable, row_after, service_change, synchronised, with_areas, with_drafts, with_service, without_own_job, with_own_fate}
use Rattle.abstract_monitor.specs.State.{OpenTransaction}
use Rattle.laws_of_states.specs.Commits.{AreNumberedFrom}
use Rattle.laws_of_states.specs.JobLaw.{jobs_left, new_jobs}
use Rattle.laws_of_states.specs.JobLaws.{points_number, service_jobs}
use Rattle.laws_of_states.specs.OwnRowLaws.{broken_own, ends_remove, points_set, synchronised_own}
use Rattle.laws_of_states.specs.ItemsLaws.{ascends_append, ascends_behind}
use Rattle.laws_of_states.specs.PointLaws.{IsSoundlyOpen}
use Rattle.laws_of_states.specs.CommitLaws.{durable_difference, KeepsVolatile, KeepsOtherVolatile, PointsMakeTables, EndsMakeTables}
use Rattle.laws_of_states.specs.MakingLaws.{are_changes, makes, makes_with_row}
use Rattle.laws_of_states.specs.PointsLaws.{point_row_fits}

-- a service that outlives a stop is none of the others
all_volatile : (g : Generated) (id : ServiceId) (t u : TableRows) → KeepsOtherVolatile g id t u → is_durable g id ≡ true → KeepsVolatile g t u
all_volatile g id t u keeps d other volatile = by (id_eq other id) refl
  where
    by : (b : Bool) → id_eq other id ≡ b → service_of u other ≡ service_of t other
    by true same = absurd (true≢false (sym d ∙ ap (is_durable g) (sym (id_eq_same other id same)) ∙ volatile))
    by false apart = keeps other volatile apart

-- the change of a service's row, where it may be there
pub row_change : (id : ServiceId) (row : Option Service) → IsTrue (change_fits (service_change id row)) → AreChanges (service_change id row ∷ [])
row_change id None fits = record { ascending = refl; fit = refl }
row_change id (Some r) fits = record { ascending = refl; fit = true_both _ _ fits refl }

row_sorted : (u : TableRows) (id : ServiceId) (row : Option Service) → IsSortedTables u → IsTrue (change_fits (service_change id row)) → IsSortedTables (with_service u id row)
row_sorted u id None h fits = sorted_with_change u (Remove (ServiceKey id)) h refl
row_sorted u id (Some r) h fits = sorted_with_change u (Set (ServiceRow id r)) h fits

-- ---- abnormal ends

module _ (g : Generated) (t : TableRows) (id : ServiceId) (x : OpenTransaction) (order : IsSortedTables t) where
  end_sorted : IsSortedTables (broken g t id x)
  unfolding broken
  end_sorted = row_sorted (with_own_fate g t id x.began) id None (own_fate_sorted g t id x.began order) refl

  end_others : KeepsOtherVolatile g id t (broken g t id x)
  end_others other volatile apart = ends_remove g t id x other ∙ ap (λ b. cond b None (service_of t other)) apart

pub end_made : EndsMakeTables
end_made g t id x order =
    let after = end_sorted g t id x order in
    let others = end_others g t id x order in
    record {
      changes = are_changes g t (broken g t id x) after;
      own = row_change id None refl;
      order = after;
      tables = ap (with_service (changed t (durable_difference g t (broken g t id x))) id) (sym (broken_own g t id x)) ∙ makes_with_row g t (broken g t id x) id order after others;
      alone = λ d. makes g t (broken g t id x) order after (all_volatile g id t (broken g t id x) others d);
    }

-- ---- the order after a synchronisation point

-- numbered one after another, from this one at least
numbered_high : (least n : ℕ) (js : List Job) → least ≤ n → AreNumberedFrom n js → IsTrue (list_all (λ (j : Job). nat_le least j.number) js)
numbered_high least n [] le from = refl
numbered_high least n (j ∷ js) le from = true_both _ _ (le-leb least j.number (omega (arith, le, from.0))) (numbered_high least (n + 1) js (omega (arith, le)) from.1)

numbered_up : (n : ℕ) (js : List Job) → AreNumberedFrom n js → IsTrue (ascends job_key js)
numbered_up n [] from = refl
numbered_up n (j ∷ js) from = ascends_behind j js (numbered_high (j.number + 1) (n + 1) js (omega (arith, from.0)) from.1) (numbered_up (n + 1) js from.1)

left_up : (id : ServiceId) (began : Option Service) (js : List Job) → IsTrue (ascends job_key js) → IsTrue (ascends job_key (jobs_left id began js))
left_up (Dialogue user) began js h = h
left_up (Asynchronous number) (Some r) js h = h
left_up (Asynchronous number) None js h = ascends_without job_key (JobKey number) js h

left_low : (p : Job → Bool) (id : ServiceId) (began : Option Service) (js : List Job) → IsTrue (list_all p js) → IsTrue (list_all p (jobs_left id began js))
left_low p (Dialogue user) began js h = h
left_low p (Asynchronous number) (Some r) js h = h
left_low p (Asynchronous number) None js h = all_without job_key p (JobKey number) js h

-- with jobs in order
with_jobs : (u : TableRows) (jobs : List Job) (next : ℕ) → IsSortedTables u → IsTrue (ascends job_key jobs) → IsSortedTables (record u { jobs = jobs; next_job = next })
with_jobs u jobs next h up = record { gssbs = h.gssbs; tlss = h.tlss; ulss = h.ulss; services = h.services; jobs = up; shown = h.shown; tlss_filled = h.tlss_filled; ulss_filled = h.ulss_filled; services_fit = h.services_fit }

-- ---- synchronisation points

module _ (g : Generated) (t : TableRows) (id : ServiceId) (x : OpenTransaction) (o : Outcome) (s : IsSoundlyOpen g t id x) where
  low : IsTrue (list_all (λ (j : Job). nat_lt j.number t.next_job) t.jobs)
  unfolding durable
  low = s.sound.suits.job_numbers

  jobs_up : IsTrue (ascends job_key (jobs_left id x.began t.jobs ++ new_jobs t x))
  jobs_up =
      let from : AreNumberedFrom t.next_job (new_jobs t x) = (points_number g t id x o).numbers in
      ascends_append t.next_job (jobs_left id x.began t.jobs) (new_jobs t x)
      (left_up id x.began t.jobs s.sound.order.jobs)
      (numbered_up t.next_job (new_jobs t x) from)
      (left_low (λ (j : Job). nat_lt j.number t.next_job) id x.began t.jobs low)
      (numbered_high t.next_job t.next_job (new_jobs t x) (omega arith) from)

  own_fits : IsTrue (change_fits (service_change id (row_after g id x o)))
  own_fits = point_row_fits g id x o s.can.lssbs_order

  point_sorted : IsSortedTables (synchronised g t id x o)
  unfolding synchronised
  point_sorted =
      let left = without_own_job (with_areas t x.written) id x.began in
      let jobs : (with_drafts left x).jobs ≡ jobs_left id x.began t.jobs ++ new_jobs t x = sym (service_jobs (with_drafts left x) id (row_after g id x o)) ∙ (points_number g t id x o).jobs in
      row_sorted (with_drafts left x) id (row_after g id x o)
      (with_jobs left (with_drafts left x).jobs (left.next_job + length x.drafts)
      (own_job_sorted (with_areas t x.written) id x.began (areas_sorted x.written t s.sound.order))
      (subst (λ (js : List Job). IsTrue (ascends job_key js)) (sym jobs) jobs_up))
      own_fits

  point_others : KeepsOtherVolatile g id t (synchronised g t id x o)
  point_others other volatile apart = points_set g t id x o other ∙ ap (λ b. cond b (row_after g id x o) (service_of t other)) apart

pub point_made : PointsMakeTables
point_made g t id x o s =
    let new = synchronised g t id x o in
    let after : IsSortedTables new = point_sorted g t id x o s in
    let others = point_others g t id x o s in
    record {
      changes = are_changes g t new after;
      own = row_change id (row_after g id x o) (own_fits g t id x o s);
      order = after;
      tables = ap (with_service (changed t (durable_difference g t new)) id) (sym (synchronised_own g t id x o)) ∙ makes_with_row g t new id s.sound.order after others;
      alone = λ d. makes g t new s.sound.order after (all_volatile g id t new others d);
    }
