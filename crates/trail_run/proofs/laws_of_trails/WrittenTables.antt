-- The rows of tables keep names at each end of a transaction and at each command.
use Rattle.std.specs.Prelude.{◌≡◌, refl, ℕ, ◌+◌, Bool, true, false, IsTrue, List, [], ◌∷◌, Option, Some, None, option_and_then}
use Rattle.std.proofs.Common.{subst, arith}
use Rattle.std.proofs.lemmas.Bool.{le-leb}
use Rattle.std.specs.List.{list_all}
use Rattle.kd_base.specs.ToolsLaws.{both_true, true_both, some_is}
use Rattle.kdcs_types.specs.declared.key.Area.{Area}
use Rattle.kdcs_types.specs.declared.key.Area.TheVariants.{Gssb, Tls, Uls}
use Rattle.kdcs_types.specs.declared.key.Key.TheVariants.{Gssb as GssbKey, Tls as TlsKey, Uls as UlsKey, Service as ServiceKey, Job as JobKey}
use Rattle.kdcs_types.specs.declared.key.ServiceId.{ServiceId}
use Rattle.kdcs_types.specs.declared.key.ServiceId.TheVariants.{Dialogue, Asynchronous}
use Rattle.kdcs_types.specs.declared.service.Job.{Job}
use Rattle.kdcs_types.specs.declared.service.JobValue.{JobValue}
use Rattle.kdcs_types.specs.declared.service.Service.{Service}
use Rattle.kdcs_types.specs.KeyedLaws.{all_with, all_without, found_passes}
use Rattle.kdcs_types.specs.Tables.{TableRows, gssb_key, tls_key, uls_key, service_key, job_key, shown_key, job_of, service_of, with_change}
use Rattle.application_types.specs.Generation.{Generated}
use Rattle.abstract_monitor.specs.declared.draft.Draft.{Draft}
use Rattle.abstract_monitor.specs.declared.outcome.Outcome.{Outcome}
use Rattle.abstract_monitor.specs.declared.outcome.Outcome.TheVariants.{Wait, Point, Follow}
use Rattle.abstract_monitor.specs.Bytes.{Bytes}
use Rattle.abstract_monitor.specs.Commands.{rolled_tables, shown_tables}
use Rattle.abstract_monitor.specs.Endings.{area_change, with_areas, with_service, without_own_job, numbered, with_drafts, row_after, synchronised, job_change, with_own_fate, broken, is_durable}
use Rattle.abstract_monitor.specs.Endings.{durable}
use Rattle.abstract_monitor.specs.Redelivery.{fate, fate_by, is_tried_again, has_dead_letter_queue, one_more}
use Rattle.abstract_monitor.specs.State.{Application, OpenTransaction}
use Rattle.laws_of_states.specs.ItemsLaws.{IsIn, in_passes}
use Rattle.laws_of_states.specs.ListsLaws.{all_append, all_filter}
use Rattle.trail_run.specs.WrittenNames.{has_name, has_names, has_named_lssbs, is_counted, is_counted_job, is_counted_shown, RowsKeepNames, is_named_area, is_named_write, KeepsNames}

-- ---- areas

area_keeps : (t : TableRows) (area : Area) (o : Option Bytes) → IsTrue (is_named_area area) → RowsKeepNames t → RowsKeepNames (with_change t (area_change area o))
area_keeps t (Gssb name) None is h = (all_without gssb_key has_name (GssbKey name) t.gssbs h.0, h.1, h.2, h.3, h.4, h.5)
area_keeps t (Gssb name) (Some bytes) is h = (all_with gssb_key has_name (name, bytes) t.gssbs is h.0, h.1, h.2, h.3, h.4, h.5)
area_keeps t (Tls block lterm) None is h = (h.0, all_without tls_key has_names (TlsKey block lterm) t.tlss h.1, h.2, h.3, h.4, h.5)
area_keeps t (Tls block lterm) (Some []) is h = (h.0, all_without tls_key has_names (TlsKey block lterm) t.tlss h.1, h.2, h.3, h.4, h.5)
area_keeps t (Tls block lterm) (Some (c ∷ cs)) is h = (h.0, all_with tls_key has_names (block, lterm, c ∷ cs) t.tlss is h.1, h.2, h.3, h.4, h.5)
area_keeps t (Uls block user) None is h = (h.0, h.1, all_without uls_key has_names (UlsKey block user) t.ulss h.2, h.3, h.4, h.5)
area_keeps t (Uls block user) (Some []) is h = (h.0, h.1, all_without uls_key has_names (UlsKey block user) t.ulss h.2, h.3, h.4, h.5)
area_keeps t (Uls block user) (Some (c ∷ cs)) is h = (h.0, h.1, all_with uls_key has_names (block, user, c ∷ cs) t.ulss is h.2, h.3, h.4, h.5)

areas_keep : (ws : List (Area × Option Bytes)) (t : TableRows) → IsTrue (list_all is_named_write ws) → RowsKeepNames t → RowsKeepNames (with_areas t ws)
unfolding with_areas
areas_keep [] t are h = h
areas_keep (w ∷ ws) t are h =
    let parts = both_true (is_named_write w) (list_all is_named_write ws) are in
    areas_keep ws (with_change t (area_change w.0 w.1)) parts.1 (area_keeps t w.0 w.1 parts.0 h)

-- ---- jobs

without_job_keeps : (t : TableRows) (id : ServiceId) (began : Option Service) → RowsKeepNames t → RowsKeepNames (without_own_job t id began)
without_job_keeps t (Dialogue user) began h = h
without_job_keeps t (Asynchronous number) (Some row) h = h
without_job_keeps t (Asynchronous number) None h = (h.0, h.1, h.2, h.3, all_without job_key is_counted_job (JobKey number) t.jobs h.4, h.5)

numbered_counted : (next clock : ℕ) (user lterm : Bytes) (ds : List Draft) → IsTrue (list_all is_counted_job (numbered next clock user lterm ds))
unfolding numbered
numbered_counted next clock user lterm [] = refl
numbered_counted next clock user lterm (d ∷ ds) = true_both true (list_all is_counted_job (numbered (next + 1) clock user lterm ds)) refl (numbered_counted (next + 1) clock user lterm ds)

drafts_keep : (t : TableRows) (x : OpenTransaction) → RowsKeepNames t → RowsKeepNames (with_drafts t x)
drafts_keep t x h = (h.0, h.1, h.2, h.3, all_append is_counted_job t.jobs (numbered t.next_job t.clock x.user x.lterm x.drafts) h.4 (numbered_counted t.next_job t.clock x.user x.lterm x.drafts), h.5)

-- ---- services

-- the names of the LSSBs of a row, if there is one
abbrev pub RowKeeps : Option Service → Type 0
RowKeeps None = Unit {0}
RowKeeps (Some row) = IsTrue (has_named_lssbs row)

pub service_keeps : (t : TableRows) (id : ServiceId) (row : Option Service) → RowKeeps row → RowsKeepNames t → RowsKeepNames (with_service t id row)
service_keeps t id None is h = (h.0, h.1, h.2, all_without service_key has_named_lssbs (ServiceKey id) t.services h.3, h.4, h.5)
service_keeps t id (Some row) is h = (h.0, h.1, h.2, all_with service_key has_named_lssbs row t.services is h.3, h.4, h.5)

pub row_after_keeps : (g : Generated) (id : ServiceId) (x : OpenTransaction) (o : Outcome) → KeepsNames x → RowKeeps (row_after g id x o)
unfolding row_after
row_after_keeps g id x (Wait tac) k = k.1
row_after_keeps g id x (Point tac) k = k.1
row_after_keeps g id x (Follow tac) k = refl
row_after_keeps g id x _ k = tt

pub row_keeps : (t : TableRows) (id : ServiceId) (row : Service) → RowsKeepNames t → service_of t id ≡ Some row → IsTrue (has_named_lssbs row)
row_keeps t id row h e = found_passes service_key has_named_lssbs (ServiceKey id) t.services row h.3 e

-- ---- ends

pub point_keeps : (g : Generated) (t : TableRows) (id : ServiceId) (x : OpenTransaction) (o : Outcome) → KeepsNames x → RowsKeepNames t → RowsKeepNames (synchronised g t id x o)
unfolding synchronised
point_keeps g t id x o k h =
    let a = areas_keep x.written t k.0 h in
    let b = without_job_keeps (with_areas t x.written) id x.began a in
    service_keeps _ id (row_after g id x o) (row_after_keeps g id x o k) (drafts_keep (without_own_job (with_areas t x.written) id x.began) x b)

-- a job is delivered again at most 255 times
fate_counted : (again queue : Bool) (v w : JobValue) → fate_by again queue v ≡ Some w → IsTrue (is_counted w)
fate_counted true queue v w e = subst (λ (u : JobValue). IsTrue (is_counted u)) (some_is _ w e) (le-leb (one_more v.redelivered) 255 (omega arith))
fate_counted false true v w e = subst (λ (u : JobValue). IsTrue (is_counted u)) (some_is _ w e) refl
fate_counted false false v w e = absurd cc

fate_keeps : (g : Generated) (t : TableRows) (number : ℕ) → RowsKeepNames t → RowsKeepNames (with_change t (job_change number (option_and_then (fate g) (job_of t number))))
unfolding fate
fate_keeps g t number h = by (job_of t number)
  where
    changed_job : (o : Option JobValue) → ((w : JobValue) → o ≡ Some w → IsTrue (is_counted w)) → RowsKeepNames (with_change t (job_change number o))
    changed_job None is = (h.0, h.1, h.2, h.3, all_without job_key is_counted_job (JobKey number) t.jobs h.4, h.5)
    changed_job (Some w) is = (h.0, h.1, h.2, h.3, all_with job_key is_counted_job (record { number = number; value = w }) t.jobs (is w refl) h.4, h.5)

    by : (o : Option JobValue) → RowsKeepNames (with_change t (job_change number (option_and_then (fate g) o)))
    by None = changed_job None (λ w e. absurd cc)
    by (Some v) = changed_job (fate_by (is_tried_again g.limits.redelivery v.redelivered) (has_dead_letter_queue g) v) (λ w e. fate_counted _ _ v w e)

own_fate_keeps : (g : Generated) (t : TableRows) (id : ServiceId) (began : Option Service) → RowsKeepNames t → RowsKeepNames (with_own_fate g t id began)
own_fate_keeps g t (Dialogue user) began h = h
own_fate_keeps g t (Asynchronous number) (Some row) h = h
own_fate_keeps g t (Asynchronous number) None h = fate_keeps g t number h

pub end_keeps : (g : Generated) (t : TableRows) (id : ServiceId) (x : OpenTransaction) → RowsKeepNames t → RowsKeepNames (broken g t id x)
unfolding broken
end_keeps g t id x h = service_keeps (with_own_fate g t id x.began) id None tt (own_fate_keeps g t id x.began h)

-- ---- commands

pub rolled_keeps : (app : Application) (t : TableRows) (user : Bytes) (b : Bool) → RowsKeepNames t → RowsKeepNames (rolled_tables app t user b)
rolled_keeps app t user true h = h
rolled_keeps app t user false h = service_keeps t (Dialogue user) None tt h

pub durable_keeps : (g : Generated) (t : TableRows) → RowsKeepNames t → RowsKeepNames (durable g t)
unfolding durable
durable_keeps g t h = (h.0, h.1, h.2, all_filter has_named_lssbs (λ (s : Service). is_durable g s.id) t.services h.3, h.4, h.5)

pub shown_keeps : (t : TableRows) (lterm : Bytes) (job : Job) → IsIn job t.jobs → RowsKeepNames t → RowsKeepNames (shown_tables t lterm job)
shown_keeps t lterm job there h =
    (h.0, h.1, h.2, h.3, all_without job_key is_counted_job (JobKey job.number) t.jobs h.4, all_with shown_key is_counted_shown (lterm, job.value) t.shown (in_passes is_counted_job job t.jobs h.4 there) h.5)
