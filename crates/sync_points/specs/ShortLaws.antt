-- Laws: what a synchronisation point writes is short.
use Rattle.std.specs.Prelude.{◌≡◌, refl, ℕ, ◌+◌, ◌≤◌, Bool, true, false, cond, ◌&&◌, IsTrue, List, [], ◌∷◌, ◌++◌, length, sum_by, Option, Some, None, nat_lt}
use Rattle.std.proofs.Common.{arith}
use Rattle.std.proofs.lemmas.Bool.{lt-ltb, leb-true}
use Rattle.std.proofs.lemmas.List.{length-replicate}
use Rattle.std.specs.List.{list_all}
use Rattle.kd_base.specs.ToolsLaws.{both_true, true_both}
use Rattle.kdcs_types.specs.declared.act.Change.{Change}
use Rattle.kdcs_types.specs.declared.key.Area.{Area}
use Rattle.kdcs_types.specs.declared.key.Area.TheVariants.{Gssb, Tls, Uls}
use Rattle.kdcs_types.specs.declared.key.Key.TheVariants.{Service as ServiceKey}
use Rattle.kdcs_types.specs.declared.key.ServiceId.{ServiceId}
use Rattle.kdcs_types.specs.declared.key.ServiceId.TheVariants.{Dialogue, Asynchronous}
use Rattle.kdcs_types.specs.declared.service.Service.{Service}
use Rattle.kdcs_types.specs.KeyedLaws.{found_passes}
use Rattle.kdcs_types.specs.Tables.{TableRows, change_key, service_key, service_of}
use Rattle.application_types.specs.Generation.{Generated}
use Rattle.application_types.specs.Soundness.{AreLimits}
use Rattle.abstract_monitor.specs.declared.draft.Draft.{Draft}
use Rattle.abstract_monitor.specs.declared.outcome.Outcome.{Outcome}
use Rattle.abstract_monitor.specs.declared.outcome.Outcome.TheVariants.{Wait, Point, Follow, Finish}
use Rattle.abstract_monitor.specs.Bytes.{Bytes}
use Rattle.abstract_monitor.specs.Calls.{job_target}
use Rattle.abstract_monitor.specs.Charges.{last_length, list_length, service_length}
use Rattle.abstract_monitor.specs.Endings.{area_change, is_durable, joined, last_of, new_row, numbered, point_row, row_after, service_change}
use Rattle.abstract_monitor.specs.State.{OpenTransaction}
use Rattle.laws_of_states.specs.DurableKeys.{key_is_durable}
use Rattle.laws_of_states.specs.JobLaw.{new_jobs}
use Rattle.laws_of_states.specs.Suits.{fits_content, fits_message, last_fits, service_suits, target_name, target_suits}
use Rattle.laws_of_states.specs.Transactions.{area_is_declared, draft_fits, due_fits, fits_if_there, written_fits}
use Rattle.laws_of_states.specs.ListsLaws.{all_append, all_filter, all_imply}
use Rattle.laws_of_states.specs.PointLaws.{IsSoundlyOpen}
use Rattle.laws_of_states.specs.RowPartsLaws.{row_parts}
use Rattle.table_fit.specs.SmallLaws.{IsSmall, small_short}
use Rattle.table_fit.specs.Pages.{is_short, leaves_short, longest}
use Rattle.table_fit.specs.Weights.{row_left}
use Rattle.service_parts.specs.Areas.{changes_of}
use Rattle.sync_points.specs.PointChanges.{is_real, job_changes, own_job_changes, point_changes, point_writes, service_changes}
use Rattle.laws_of_states.specs.PointsLaws.{length_joined}

-- the row that a change leaves is short, durable or not
abbrev row_is_short : Change → Bool
row_is_short c = is_short (row_left c)

short_if_durable : (g : Generated) (c : Change) → IsTrue (row_is_short c) → IsTrue (leaves_short g c)
short_if_durable g c h = by (key_is_durable g (change_key c))
  where
    by : (b : Bool) → IsTrue (cond b (row_is_short c) true)
    by true = h
    by false = refl

-- ---- areas

content_short : (content : Bytes) → IsTrue (fits_content content) → IsTrue (nat_lt (length content) longest)
content_short content h = lt-ltb (length content) longest (omega (arith, leb-true (length content) 32767 h))

area_short : (area : Area) (content : Option Bytes) → IsTrue (fits_if_there content) → IsTrue (row_is_short (area_change area content))
area_short (Gssb name) None h = refl
area_short (Gssb name) (Some bytes) h = content_short bytes h
area_short (Tls block lterm) None h = refl
area_short (Tls block lterm) (Some []) h = refl
area_short (Tls block lterm) (Some (c ∷ cs)) h = content_short (c ∷ cs) h
area_short (Uls block user) None h = refl
area_short (Uls block user) (Some []) h = refl
area_short (Uls block user) (Some (c ∷ cs)) h = content_short (c ∷ cs) h

areas_short : (g : Generated) (ws : List (Area × Option Bytes)) → IsTrue (list_all (written_fits g) ws) → IsTrue (list_all row_is_short (changes_of ws))
areas_short g [] h = refl
areas_short g (w ∷ ws) h =
    let parts = both_true (written_fits g w) (list_all (written_fits g) ws) h in
    true_both _ _ (area_short w.0 w.1 (both_true (area_is_declared g w.0) (fits_if_there w.1) parts.0).1) (areas_short g ws parts.1)

-- ---- the service's row

small : (s : Service) → IsSmall s → IsTrue (nat_lt (service_length s) longest)
small s h = lt-ltb (service_length s) longest (small_short s h)

module _ (g : Generated) (limits : AreLimits g.limits) (t : TableRows) (id : ServiceId) (x : OpenTransaction) (s : IsSoundlyOpen g t id x) where
  last_small : (message : Bytes) → length message ≤ g.limits.nb → last_length (Some message) ≤ 32705
  last_small message h = omega (arith, h, limits.nb)

  began_last : (began : Option Service) → service_of t id ≡ began → last_length (last_of began) ≤ 32705
  began_last None e = omega arith
  began_last (Some row) e = by row.last (row_parts g row (found_passes service_key (service_suits g) (ServiceKey id) t.services row s.sound.rows e)).last
    where
      by : (last : Option Bytes) → IsTrue (last_fits g last) → last_length last ≤ 32705
      by None h = omega arith
      by (Some message) h = last_small message (leb-true (length message) g.limits.nb h)

  kb_small : length x.run.kb ≤ 32767
  kb_small = omega (arith, s.can.kb, limits.kb)

  lssbs_few : length x.lssbs ≤ 1000
  lssbs_few = omega (arith, s.can.lssbs_count, limits.lssbs)

  handed_small : sum_by length x.parts ≤ 32700
  handed_small = omega (arith, s.can.parts.bytes, limits.nb)

  row_short : (o : Outcome) → IsTrue (row_is_short (service_change id (row_after g id x o)))
  unfolding row_after
  row_short (Wait tac) =
      small (point_row id x tac true [] (Some (joined x.parts))) (record { kb = kb_small; count = omega arith; handed = omega arith; last = last_small (joined x.parts) (omega (arith, length_joined x.parts, s.can.parts.bytes)); lssbs_count = lssbs_few; lssbs = s.can.lssbs })
  row_short (Point tac) =
      small (point_row id x tac false x.parts (last_of x.began)) (record { kb = kb_small; count = s.can.parts.count; handed = handed_small; last = began_last x.began s.rooted.began; lssbs_count = lssbs_few; lssbs = s.can.lssbs })
  row_short (Follow tac) =
      small (new_row g id x tac) (record { kb = omega (arith, length-replicate {A = ℕ} g.limits.kb 32, limits.kb); count = s.can.parts.count; handed = handed_small; last = omega arith; lssbs_count = omega arith; lssbs = refl })
  row_short Finish = refl
  row_short _ = refl

  service_short : (o : Outcome) → IsTrue (list_all row_is_short (service_changes g id (row_after g id x o)))
  service_short o = by (is_durable g id)
    where
      by : (b : Bool) → IsTrue (list_all row_is_short (cond b (service_change id (row_after g id x o) ∷ []) []))
      by true = true_both _ _ (row_short o) refl
      by false = refl

  -- ---- jobs

  own_short : (i : ServiceId) (began : Option Service) → IsTrue (list_all row_is_short (own_job_changes i began))
  own_short (Dialogue user) began = refl
  own_short (Asynchronous number) (Some row) = refl
  own_short (Asynchronous number) None = refl

  jobs_short : (ds : List Draft) (next clock : ℕ) → IsTrue (list_all (draft_fits g) ds) → IsTrue (list_all row_is_short (job_changes (numbered next clock x.user x.lterm ds)))
  unfolding numbered
  jobs_short [] next clock h = refl
  jobs_short (d ∷ ds) next clock h =
      let parts = both_true (draft_fits g d) (list_all (draft_fits g) ds) h in
      let message = (both_true (target_suits g d.to (job_target g (target_name d.to))) (fits_message g d.message) (both_true (target_suits g d.to (job_target g (target_name d.to)) && fits_message g d.message) (due_fits d.due) parts.0).0).1 in
      true_both _ _ (lt-ltb (33 + list_length d.message) longest (omega (arith, leb-true (length d.message) g.limits.nb message, limits.nb))) (jobs_short ds (next + 1) clock parts.1)

  -- ---- together

  pub points_short : (o : Outcome) → IsTrue (list_all (leaves_short g) (point_changes g t id x o).items)
  points_short o =
      all_imply row_is_short (leaves_short g) (short_if_durable g) (point_changes g t id x o).items
      (all_filter row_is_short (is_real t) (point_writes g t id x o)
      (all_append row_is_short (changes_of x.written ++ service_changes g id (row_after g id x o) ++ own_job_changes id x.began) (job_changes (new_jobs t x))
      (all_append row_is_short (changes_of x.written ++ service_changes g id (row_after g id x o)) (own_job_changes id x.began)
      (all_append row_is_short (changes_of x.written) (service_changes g id (row_after g id x o)) (areas_short g x.written s.can.written) (service_short o))
      (own_short id x.began))
      (jobs_short x.drafts t.next_job t.clock s.can.drafts)))
