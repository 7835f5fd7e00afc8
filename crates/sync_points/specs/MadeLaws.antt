-- What a transaction wrote makes of the durable tables those after its end.
use Rattle.std.specs.Prelude.{◌≡◌, refl, ℕ, ◌+◌, ◌<◌, Bool, true, false, cond, IsTrue, List, [], ◌∷◌, ◌++◌, length, Option, Some, None, nat_lt, is_some}
use Rattle.std.proofs.Common.{sym, ap, subst, ◌∙◌, arith, append_assoc}
use Rattle.std.proofs.lemmas.Bool.{ltb-true, lt-ltb}
use Rattle.std.specs.declared.cmp.Ordering.TheVariants.{Greater}
use Rattle.std.specs.List.{list_all}
use Rattle.std.specs.Option.{option_map}
use Rattle.std.specs.Ordering.{nat_cmp}
use Rattle.kd_base.specs.ToolsLaws.{both_true, true_both}
use Rattle.kdcs_types.specs.declared.act.Change.{Change}
use Rattle.kdcs_types.specs.declared.act.Changes.{Changes}
use Rattle.kdcs_types.specs.declared.key.Area.{Area}
use Rattle.kdcs_types.specs.declared.key.Area.TheVariants.{Gssb, Tls, Uls}
use Rattle.kdcs_types.specs.declared.key.Key.TheVariants.{Job as JobKey}
use Rattle.kdcs_types.specs.declared.key.ServiceId.{ServiceId}
use Rattle.kdcs_types.specs.declared.key.ServiceId.TheVariants.{Dialogue, Asynchronous}
use Rattle.kdcs_types.specs.declared.service.Job.{Job}
use Rattle.kdcs_types.specs.declared.service.JobValue.{JobValue}
use Rattle.kdcs_types.specs.declared.service.Service.{Service}
use Rattle.kdcs_types.specs.Difference.{difference}
use Rattle.kdcs_types.specs.DifferenceLaws.{difference_makes_new}
use Rattle.kdcs_types.specs.Keyed.{item_at, with_item}
use Rattle.kdcs_types.specs.KeyedLaws.{all_without, found_key, found_passes}
use Rattle.kdcs_types.specs.RowLaws.{changed_sorted, numbers_apart, sorted_with_change, sorted_with_changes}
use Rattle.kdcs_types.specs.Tables.{AreChanges, IsSortedTables, TableRows, change_fits, change_key, changed, job_key, with_change, with_changes}
use Rattle.application_types.specs.Generation.{Generated}
use Rattle.abstract_monitor.specs.declared.outcome.Outcome.{Outcome}
use Rattle.abstract_monitor.specs.Bytes.{Bytes}
use Rattle.abstract_monitor.specs.Endings.{area_change, broken, durable, is_durable, job_change, numbered, row_after, service_change, synchronised, with_areas, with_drafts, with_own_fate}
use Rattle.abstract_monitor.specs.Endings.{with_service, without_own_job}
use Rattle.abstract_monitor.specs.State.{OpenTransaction}
use Rattle.laws_of_states.specs.Commits.{AreNumberedFrom}
use Rattle.laws_of_states.specs.DurableKeys.{key_is_durable}
use Rattle.laws_of_states.specs.DurableLaws.{durable_changed, durable_sorted}
use Rattle.laws_of_states.specs.JobLaw.{new_jobs}
use Rattle.laws_of_states.specs.JobLaws.{areas_same, ends_draw_none, points_number, service_jobs}
use Rattle.laws_of_states.specs.Transactions.{HasOwnJob}
use Rattle.laws_of_states.specs.ItemsLaws.{ascends_filter}
use Rattle.laws_of_states.specs.ListsLaws.{all_append, all_filter, all_imply}
use Rattle.laws_of_states.specs.PointLaws.{IsSoundlyOpen}
use Rattle.service_parts.specs.Areas.{changes_of}
use Rattle.sync_points.specs.AscendingLaws.{OwnIsBelow, areas_fit, ends_ascend, ends_durable, fate_fits, new_fits, own_fits, points_ascend, points_durable}
use Rattle.sync_points.specs.Laws.{EndsChangeTheirOwnRows, PointsChangeWhatWasWritten}
use Rattle.sync_points.specs.PointChanges.{end_writes, fate_changes, is_real, job_changes, own_job_changes, point_changes, point_writes, service_changes}
use Rattle.sync_points.specs.RealChangesLaws.{difference_is_real, real_in_durable}
use Rattle.kd_base.specs.OrderLaws.{greater_is}
use Rattle.laws_of_states.specs.PointsLaws.{point_row_fits}

changes_append : (t : TableRows) (xs ys : List Change) → with_changes t (xs ++ ys) ≡ with_changes (with_changes t xs) ys
changes_append t [] ys = refl
changes_append t (x ∷ xs) ys = changes_append (with_change t x) xs ys

-- the durable part, with this next job number
abbrev durable_with : Generated → ℕ → TableRows → TableRows
durable_with g n u = record (durable g u) { next_job = n }

-- ---- areas

abbrev Written : Type 0
Written = List (Area × Option Bytes)

one_area : (g : Generated) (n : ℕ) (u : TableRows) (area : Area) (content : Option Bytes) → with_change (durable_with g n u) (area_change area content) ≡ durable_with g n (with_change u (area_change area content))
unfolding durable
one_area g n u (Gssb name) None = refl
one_area g n u (Gssb name) (Some bytes) = refl
one_area g n u (Tls block lterm) None = refl
one_area g n u (Tls block lterm) (Some []) = refl
one_area g n u (Tls block lterm) (Some (c ∷ cs)) = refl
one_area g n u (Uls block user) None = refl
one_area g n u (Uls block user) (Some []) = refl
one_area g n u (Uls block user) (Some (c ∷ cs)) = refl

areas_made : (g : Generated) (n : ℕ) (ws : Written) (u : TableRows) → with_changes (durable_with g n u) (changes_of ws) ≡ durable_with g n (with_areas u ws)
unfolding with_areas
areas_made g n [] u = refl
areas_made g n (w ∷ ws) u = ap (λ v. with_changes v (changes_of ws)) (one_area g n u w.0 w.1) ∙ areas_made g n ws (with_change u (area_change w.0 w.1))

pub written_made : (ws : Written) (u : TableRows) → with_changes u (changes_of ws) ≡ with_areas u ws
unfolding with_areas
written_made [] u = refl
written_made (w ∷ ws) u = written_made ws (with_change u (area_change w.0 w.1))

areas_sorted : (g : Generated) (ws : Written) (u : TableRows) → IsSortedTables u → IsSortedTables (with_areas u ws)
areas_sorted g ws u h = subst (λ v. IsSortedTables v) (written_made ws u) (sorted_with_changes u (changes_of ws) h (areas_fit g ws))

-- ---- the service's row

service_apart : (n : ℕ) (v : TableRows) (id : ServiceId) (row : Option Service) → with_service (record v { next_job = n }) id row ≡ record (with_service v id row) { next_job = n }
service_apart n v id None = refl
service_apart n v id (Some row) = refl

pub service_durable : (g : Generated) (u : TableRows) (id : ServiceId) (row : Option Service) → IsSortedTables u → IsTrue (change_fits (service_change id row)) → durable g (with_service u id row) ≡ cond (is_durable g id) (with_service (durable g u) id row) (durable g u)
service_durable g u id None h fits = durable_changed g u (service_change id None) h fits
service_durable g u id (Some row) h fits = durable_changed g u (service_change id (Some row)) h fits

service_made : (g : Generated) (n : ℕ) (u : TableRows) (id : ServiceId) (row : Option Service) → IsSortedTables u → IsTrue (change_fits (service_change id row)) → with_changes (durable_with g n u) (service_changes g id row) ≡ durable_with g n (with_service u id row)
service_made g n u id row h fits = by (is_durable g id) refl
  where
    by : (b : Bool) → is_durable g id ≡ b → with_changes (durable_with g n u) (cond b (service_change id row ∷ []) []) ≡ durable_with g n (with_service u id row)
    by true e =
        service_apart n (durable g u) id row
        ∙ ap (λ (v : TableRows). record v { next_job = n }) (sym (service_durable g u id row h fits ∙ ap (λ b. cond b (with_service (durable g u) id row) (durable g u)) e))
    by false e = ap (λ (v : TableRows). record v { next_job = n }) (sym (service_durable g u id row h fits ∙ ap (λ b. cond b (with_service (durable g u) id row) (durable g u)) e))

-- ---- jobs

own_made : (g : Generated) (n : ℕ) (u : TableRows) (id : ServiceId) (began : Option Service) → with_changes (durable_with g n u) (own_job_changes id began) ≡ durable_with g n (without_own_job u id began)
unfolding durable
own_made g n u (Dialogue user) began = refl
own_made g n u (Asynchronous number) (Some row) = refl
own_made g n u (Asynchronous number) None = refl

fate_made : (g : Generated) (n number : ℕ) (u : TableRows) (o : Option JobValue) → with_changes (durable_with g n u) (job_change number o ∷ []) ≡ durable_with g n (with_change u (job_change number o))
unfolding durable
fate_made g n number u None = refl
fate_made g n number u (Some v) = refl

-- after the service's row, which is no job's
own_fate_made : (g : Generated) (n : ℕ) (t : TableRows) (id : ServiceId) (began : Option Service)
    → with_changes (durable_with g n (with_service t id None)) (fate_changes g t id began) ≡ durable_with g n (with_own_fate g (with_service t id None) id began)
own_fate_made g n t (Dialogue user) began = refl
own_fate_made g n t (Asynchronous number) (Some row) = refl
own_fate_made g n t (Asynchronous number) None = fate_made g n number (with_service t (Asynchronous number) None) _

abbrev has_number_below : ℕ → Job → Bool
has_number_below n j = nat_lt j.number n

-- a job after all lesser ones
last_job : (j : Job) (es : List Job) → IsTrue (list_all (has_number_below j.number) es) → with_item job_key j es ≡ es ++ j ∷ []
last_job j [] h = refl
last_job j (e ∷ es) h =
    let parts = both_true (has_number_below j.number e) (list_all (has_number_below j.number) es) h in
    let greater : nat_cmp j.number e.number ≡ Greater = greater_is j.number e.number (ltb-true e.number j.number parts.0) in
    rw greater (ap (λ (l : List Job). e ∷ l) (last_job j es parts.1))

jobs_made : (n : ℕ) (js : List Job) (v : TableRows) → IsTrue (list_all (has_number_below n) v.jobs) → AreNumberedFrom n js → with_changes v (job_changes js) ≡ record v { jobs = v.jobs ++ js }
jobs_made n [] v h from = ap (λ (l : List Job). record v { jobs = l }) (sym (append-none v.jobs))
  where
    append-none : (l : List Job) → l ++ [] ≡ l
    append-none [] = refl
    append-none (x ∷ xs) = ap (λ (l : List Job). x ∷ l) (append-none xs)
jobs_made n (j ∷ js) v h from =
    let low : IsTrue (list_all (has_number_below j.number) v.jobs) = subst (λ m. IsTrue (list_all (has_number_below m) v.jobs)) (sym from.0) h in
    let last : with_item job_key j v.jobs ≡ v.jobs ++ j ∷ [] = last_job j v.jobs low in
    let more : IsTrue (list_all (has_number_below (n + 1)) (v.jobs ++ j ∷ [])) =
    all_append (has_number_below (n + 1)) v.jobs (j ∷ [])
    (all_imply (has_number_below n) (has_number_below (n + 1)) (λ k less. lt-ltb k.number (n + 1) (omega (arith, ltb-true k.number n less))) v.jobs h)
    (true_both _ _ (lt-ltb j.number (n + 1) (omega (arith, from.0))) refl) in
    ap (λ (l : List Job). with_changes (record v { jobs = l }) (job_changes js)) last
    ∙ jobs_made (n + 1) js (record v { jobs = v.jobs ++ j ∷ [] }) more from.1
    ∙ ap (λ (l : List Job). record v { jobs = l }) (append_assoc v.jobs (j ∷ []) js)

-- ---- what is assumed of the transaction

numbers_low : (g : Generated) (t : TableRows) (id : ServiceId) (x : OpenTransaction) → IsSoundlyOpen g t id x → IsTrue (list_all (has_number_below t.next_job) t.jobs)
unfolding durable
numbers_low g t id x s = s.sound.suits.job_numbers

own_below : (t : TableRows) (id : ServiceId) (began : Option Service) → HasOwnJob t id began → IsTrue (list_all (has_number_below t.next_job) t.jobs) → OwnIsBelow id began t.next_job
own_below t (Dialogue user) began h low = tt
own_below t (Asynchronous number) (Some row) h low = tt
own_below t (Asynchronous number) None h low = by (item_at job_key (JobKey number) t.jobs) refl h
  where
    same_number : (j : Job) → job_key j ≡ JobKey number → j.number ≡ number
    same_number j e = cc

    by : (o : Option Job) → item_at job_key (JobKey number) t.jobs ≡ o → IsTrue (is_some (option_map (λ (j : Job). j.value) o)) → number < t.next_job
    by None e is = absurd cc
    by (Some j) e is =
        let less = ltb-true j.number t.next_job (found_passes job_key (has_number_below t.next_job) (JobKey number) t.jobs j low e) in
        omega (arith, less, same_number j (found_key job_key (JobKey number) t.jobs j e))

left_low : (n : ℕ) (u : TableRows) (id : ServiceId) (began : Option Service) → IsTrue (list_all (has_number_below n) u.jobs) → IsTrue (list_all (has_number_below n) (without_own_job u id began).jobs)
left_low n u (Dialogue user) began h = h
left_low n u (Asynchronous number) (Some row) h = h
left_low n u (Asynchronous number) None h = all_without job_key (has_number_below n) (JobKey number) u.jobs h

-- ---- together

begun : (g : Generated) (t : TableRows) (c : Changes) → c.clock ≡ t.clock → changed (durable g t) c ≡ with_changes (durable_with g c.next_job t) c.items
unfolding durable
begun g t c e = ap (λ k. with_changes (record (durable g t) { clock = k; next_job = c.next_job }) c.items) e

-- an abnormal end
module _ (g : Generated) (t : TableRows) (id : ServiceId) (x : OpenTransaction) (order : IsSortedTables t) where
  end_fits : IsTrue (list_all change_fits (end_writes g t id x))
  end_fits = all_append change_fits (service_changes g id None) (fate_changes g t id x.began) (gone (is_durable g id)) (fate_fits g t id x.began)
    where
      gone : (b : Bool) → IsTrue (list_all change_fits (cond b (service_change id None ∷ []) []))
      gone true = refl
      gone false = refl

  end_are : AreChanges (end_writes g t id x)
  end_are = record { ascending = ends_ascend g t id None x.began; fit = end_fits }

  -- the row and the job in the other order
  end_order : with_own_fate g (with_service t id None) id x.began ≡ broken g t id x
  unfolding broken
  end_order = by id x.began
    where
      other : (i : ServiceId) (number : ℕ) (o : Option JobValue) → with_change (with_service t i None) (job_change number o) ≡ with_service (with_change t (job_change number o)) i None
      other i number None = refl
      other i number (Some v) = refl

      by : (i : ServiceId) (began : Option Service) → with_own_fate g (with_service t i None) i began ≡ with_service (with_own_fate g t i began) i None
      by (Dialogue user) began = refl
      by (Asynchronous number) (Some row) = refl
      by (Asynchronous number) None = other (Asynchronous number) number _

  next_same : (u : TableRows) → u.next_job ≡ t.next_job → durable_with g t.next_job u ≡ durable g u
  unfolding durable
  next_same u e = ap (λ n. record (durable g u) { next_job = n }) (sym e)

  abbrev end_written : Changes
  end_written = record { clock = t.clock; next_job = t.next_job; items = end_writes g t id x }

  end_made : changed (durable g t) end_written ≡ durable g (broken g t id x)
  end_made =
      begun g t end_written refl
      ∙ changes_append (durable_with g t.next_job t) (service_changes g id None) (fate_changes g t id x.began)
      ∙ ap (λ v. with_changes v (fate_changes g t id x.began)) (service_made g t.next_job t id None order refl)
      ∙ own_fate_made g t.next_job t id x.began
      ∙ ap (durable_with g t.next_job) end_order
      ∙ next_same (broken g t id x) (ends_draw_none g t id x).next

-- a synchronisation point
module _ (g : Generated) (t : TableRows) (id : ServiceId) (x : OpenTransaction) (s : IsSoundlyOpen g t id x) where
  module _ (o : Outcome) where
    abbrev row : Option Service
    row = row_after g id x o

    abbrev areas_in : TableRows
    areas_in = with_areas t x.written

    abbrev left : TableRows
    left = without_own_job (with_service areas_in id row) id x.began

    abbrev last : ℕ
    last = t.next_job + length x.drafts

    row_change_fits : IsTrue (change_fits (service_change id row))
    row_change_fits = point_row_fits g id x o s.can.lssbs_order

    from : AreNumberedFrom t.next_job (new_jobs t x)
    from = (points_number g t id x o).numbers

    service_fit : (b : Bool) → IsTrue (list_all change_fits (cond b (service_change id row ∷ []) []))
    service_fit true = true_both _ _ row_change_fits refl
    service_fit false = refl

    point_are : AreChanges (point_writes g t id x o)
    point_are = record {
      ascending = points_ascend g id row x.began x.written (new_jobs t x) t.next_job s.can.written_order from (own_below t id x.began s.rooted.job (numbers_low g t id x s));
      fit = all_append change_fits (changes_of x.written ++ service_changes g id row ++ own_job_changes id x.began) (job_changes (new_jobs t x))
          (all_append change_fits (changes_of x.written ++ service_changes g id row) (own_job_changes id x.began)
          (all_append change_fits (changes_of x.written) (service_changes g id row) (areas_fit g x.written) (service_fit (is_durable g id)))
          (own_fits g id x.began))
          (new_fits g (new_jobs t x));
    }

    low : IsTrue (list_all (has_number_below t.next_job) (durable_with g last left).jobs)
    unfolding durable
    low =
        left_low t.next_job (with_service areas_in id row) id x.began
        (subst (λ (l : List Job). IsTrue (list_all (has_number_below t.next_job) l)) (sym (service_jobs areas_in id row ∙ (areas_same x.written t).jobs)) (numbers_low g t id x s))

    abbrev point_written : Changes
    point_written = record { clock = t.clock; next_job = last; items = point_writes g t id x o }

    -- the service's row, the own job and the numbers are apart
    point_order : (u : TableRows) (i : ServiceId) (began r : Option Service)
        → durable g (with_service (with_drafts (without_own_job u i began) x) i r)
        ≡ record (durable g (without_own_job (with_service u i r) i began)) {
          jobs = (without_own_job (with_service u i r) i began).jobs ++ numbered u.next_job u.clock x.user x.lterm x.drafts;
          next_job = u.next_job + length x.drafts;
        }
    unfolding durable
    point_order u (Dialogue user) began None = refl
    point_order u (Dialogue user) began (Some r) = refl
    point_order u (Asynchronous number) (Some began) None = refl
    point_order u (Asynchronous number) (Some began) (Some r) = refl
    point_order u (Asynchronous number) None None = refl
    point_order u (Asynchronous number) None (Some r) = refl

    durable_jobs : (u : TableRows) → u.jobs ≡ (durable g u).jobs
    unfolding durable
    durable_jobs u = refl

    numbers_same : durable g (synchronised g t id x o) ≡ record (durable_with g last left) { jobs = (durable_with g last left).jobs ++ new_jobs t x }
    unfolding synchronised
    numbers_same =
        let queue = areas_same x.written t in
        point_order areas_in id x.began row
        ∙ (λ i. record (durable g left) { jobs = durable_jobs left i ++ numbered (queue.next i) (queue.clock i) x.user x.lterm x.drafts; next_job = queue.next i + length x.drafts })

    point_made : changed (durable g t) point_written ≡ durable g (synchronised g t id x o)
    point_made =
        begun g t point_written refl
        ∙ changes_append (durable_with g last t) (changes_of x.written ++ service_changes g id row ++ own_job_changes id x.began) (job_changes (new_jobs t x))
        ∙ ap (λ v. with_changes v (job_changes (new_jobs t x))) (
        changes_append (durable_with g last t) (changes_of x.written ++ service_changes g id row) (own_job_changes id x.began)
        ∙ ap (λ v. with_changes v (own_job_changes id x.began)) (
        changes_append (durable_with g last t) (changes_of x.written) (service_changes g id row)
        ∙ ap (λ v. with_changes v (service_changes g id row)) (areas_made g last x.written t)
        ∙ service_made g last areas_in id row (areas_sorted g x.written t s.sound.order) row_change_fits
        )
        ∙ own_made g last (with_service areas_in id row) id x.began
        )
        ∙ jobs_made t.next_job (new_jobs t x) (durable_with g last left) low from
        ∙ sym numbers_same

-- ---- the laws

pub points_change : PointsChangeWhatWasWritten
points_change g t id x o s =
    let written = point_written g t id x s o in
    ap (difference (durable g t)) (sym (point_made g t id x s o))
    ∙ difference_is_real (durable g t) written (durable_sorted g t s.sound.order) (point_are g t id x s o)
    ∙ ap (λ (cs : List Change). record written { items = cs }) (real_in_durable g t (point_writes g t id x o) (points_durable g id (row_after g id x o) x.began x.written (new_jobs t x) t.next_job))

pub ends_change : EndsChangeTheirOwnRows
ends_change g t id x order =
    let written = end_written g t id x order in
    ap (difference (durable g t)) (sym (end_made g t id x order))
    ∙ difference_is_real (durable g t) written (durable_sorted g t order) (end_are g t id x order)
    ∙ ap (λ (cs : List Change). record written { items = cs }) (real_in_durable g t (end_writes g t id x) (ends_durable g t id None x.began))

-- ---- what the changes are

-- the tables after a synchronisation point are the durable ones with its changes
pub points_make : (g : Generated) (t : TableRows) (id : ServiceId) (x : OpenTransaction) (o : Outcome) → IsSoundlyOpen g t id x → durable g (synchronised g t id x o) ≡ changed (durable g t) (point_changes g t id x o)
points_make g t id x o s =
    let order = durable_sorted g t s.sound.order in
    let after : IsSortedTables (durable g (synchronised g t id x o)) =
    subst (λ (u : TableRows). IsSortedTables u) (point_made g t id x s o) (changed_sorted (durable g t) (point_written g t id x s o) order (point_are g t id x s o)) in
    sym (difference_makes_new (durable g t) (durable g (synchronised g t id x o)) order after) ∙ ap (changed (durable g t)) (points_change g t id x o s)

pub points_are : (g : Generated) (t : TableRows) (id : ServiceId) (x : OpenTransaction) (o : Outcome) → IsSoundlyOpen g t id x → AreChanges (point_changes g t id x o).items
points_are g t id x o s =
    let are = point_are g t id x s o in
    record { ascending = ascends_filter change_key (is_real t) (point_writes g t id x o) are.ascending; fit = all_filter change_fits (is_real t) (point_writes g t id x o) are.fit }

pub points_kept : (g : Generated) (t : TableRows) (id : ServiceId) (x : OpenTransaction) (o : Outcome) → IsTrue (list_all (λ (c : Change). key_is_durable g (change_key c)) (point_changes g t id x o).items)
points_kept g t id x o =
    all_filter (λ (c : Change). key_is_durable g (change_key c)) (is_real t) (point_writes g t id x o)
    (points_durable g id (row_after g id x o) x.began x.written (new_jobs t x) t.next_job)

-- ---- the durable part of the tables with them

durable_with_changes : (g : Generated) (t : TableRows) (cs : List Change) → IsSortedTables t → IsTrue (list_all change_fits cs) → IsTrue (list_all (λ (c : Change). key_is_durable g (change_key c)) cs)
    → durable g (with_changes t cs) ≡ with_changes (durable g t) cs
durable_with_changes g t [] h fit kept = refl
durable_with_changes g t (c ∷ cs) h fit kept =
    let fits = both_true (change_fits c) (list_all change_fits cs) fit in
    let keeps = both_true (key_is_durable g (change_key c)) (list_all (λ (d : Change). key_is_durable g (change_key d)) cs) kept in
    durable_with_changes g (with_change t c) cs (sorted_with_change t c h fits.0) fits.1 keeps.1
    ∙ ap (λ (u : TableRows). with_changes u cs) (durable_changed g t c h fits.0 ∙ ap (λ (b : Bool). cond b (with_change (durable g t) c) (durable g t)) keeps.0)

numbers_outlive : (g : Generated) (t : TableRows) (clock next : ℕ) → durable g (record t { clock = clock; next_job = next }) ≡ record (durable g t) { clock = clock; next_job = next }
unfolding durable
numbers_outlive g t clock next = refl

-- it is that after the synchronisation point
pub points_after : (g : Generated) (t : TableRows) (id : ServiceId) (x : OpenTransaction) (o : Outcome) → IsSoundlyOpen g t id x → durable g (synchronised g t id x o) ≡ durable g (changed t (point_changes g t id x o))
points_after g t id x o s =
    let c = point_changes g t id x o in
    points_make g t id x o s
    ∙ ap (λ (u : TableRows). with_changes u c.items) (sym (numbers_outlive g t c.clock c.next_job))
    ∙ sym (durable_with_changes g (record t { clock = c.clock; next_job = c.next_job }) c.items (numbers_apart t c.clock c.next_job s.sound.order) (points_are g t id x o s).fit (points_kept g t id x o))
