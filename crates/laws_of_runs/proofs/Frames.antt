-- What others do to the tables is not seen by a transaction: they change no area that it holds, and not its job.
use Rattle.std.specs.Prelude.{◌≡◌, refl, ℕ, Bool, true, false, cond, not, IsTrue, List, [], ◌∷◌, ◌++◌, Option, Some, None, is_some, option_map}
use Rattle.std.proofs.Common.{sym, ap, ◌∙◌, true≢false}
use Rattle.std.specs.List.{list_all}
use Rattle.kd_base.specs.ToolsLaws.{both_true, true_both}
use Rattle.kdcs_types.specs.declared.key.Area.{Area}
use Rattle.kdcs_types.specs.declared.key.Area.TheVariants.{Gssb, Tls, Uls}
use Rattle.kdcs_types.specs.declared.key.Key.TheVariants.{Gssb as GssbKey, Tls as TlsKey, Uls as UlsKey, Job as JobKey}
use Rattle.kdcs_types.specs.declared.key.ServiceId.{ServiceId}
use Rattle.kdcs_types.specs.declared.key.ServiceId.TheVariants.{Dialogue, Asynchronous}
use Rattle.kdcs_types.specs.declared.service.Job.{Job}
use Rattle.kdcs_types.specs.declared.service.Service.{Service}
use Rattle.kdcs_types.specs.declared.service.JobValue.{JobValue}
use Rattle.kdcs_types.specs.Keyed.{item_at, without_item}
use Rattle.kdcs_types.specs.KeyedLaws.{item_at_with, item_at_without}
use Rattle.kdcs_types.specs.Keys.{area_eq, id_eq, key_eq}
use Rattle.kdcs_types.specs.KeyLaws.{area_eq_same, other_number}
use Rattle.kdcs_types.specs.Tables.{TableRows, gssb_key, tls_key, uls_key, job_key, content_of, with_change}
use Rattle.application_types.specs.Generation.{Generated}
use Rattle.abstract_monitor.specs.declared.answer.LockAnswer.TheVariants.{Granted}
use Rattle.abstract_monitor.specs.declared.outcome.Outcome.{Outcome}
use Rattle.abstract_monitor.specs.Bytes.{Bytes}
use Rattle.abstract_monitor.specs.State.{Application, OpenTransaction}
use Rattle.abstract_monitor.specs.Calls.{Told, touches}
use Rattle.abstract_monitor.specs.Endings.{area_change, with_areas, with_service, without_own_job, job_change, with_own_fate, with_drafts, row_after, synchronised, broken}
use Rattle.laws_of_states.specs.JobLaw.{jobs_left, new_jobs}
use Rattle.laws_of_states.specs.JobLaws.{points_number, ends_draw_none, others_at_end}
use Rattle.laws_of_states.specs.Transactions.{HasOwnJob}
use Rattle.laws_of_states.specs.RowsLaws.{has_job, job_there}
use Rattle.laws_of_runs.specs.Replays.{SeesTheSame, HasSameJob, ReplaysToItself}

then_same : (t u w : TableRows) (id : ServiceId) (began : Option Service) → HasSameJob t u id began → HasSameJob u w id began → HasSameJob t w id began
then_same t u w (Dialogue user) began a b = tt
then_same t u w (Asynchronous number) (Some row) a b = tt
then_same t u w (Asynchronous number) None a b = b ∙ a

-- and then it replays to itself over them too
pub still_replays : (app : Application) (t u : TableRows) (id : ServiceId) (x : OpenTransaction) → SeesTheSame t u id x → ReplaysToItself app t id x → ReplaysToItself app u id x
still_replays app t u id x same h other inputs notes alike = h other inputs notes (record {
  areas = λ area held. alike.areas area held ∙ ap granted (same.areas area held);
  job = then_same t u other id x.began same.job alike.job;
})
  where
    granted : Option Bytes → Told
    granted c = record { answer = Granted; content = c }

-- ---- areas

module _ (t : TableRows) where
  gssb_left : (n m : Bytes) → key_eq (GssbKey m) (GssbKey n) ≡ false → content_of (with_change t (area_change (Gssb n) None)) (Gssb m) ≡ content_of t (Gssb m)
  gssb_left n m e = ap (option_map (λ (r : Bytes × Bytes). r.1)) (item_at_without gssb_key (GssbKey m) (GssbKey n) t.gssbs ∙ ap (λ b. cond b None (item_at gssb_key (GssbKey m) t.gssbs)) e)

  gssb_kept : (n m bytes : Bytes) → key_eq (GssbKey m) (GssbKey n) ≡ false → content_of (with_change t (area_change (Gssb n) (Some bytes))) (Gssb m) ≡ content_of t (Gssb m)
  gssb_kept n m bytes e = ap (option_map (λ (r : Bytes × Bytes). r.1)) (item_at_with gssb_key (GssbKey m) (n, bytes) t.gssbs ∙ ap (λ b. cond b (Some (n, bytes)) (item_at gssb_key (GssbKey m) t.gssbs)) e)

  tls_left : (b l c m : Bytes) → key_eq (TlsKey c m) (TlsKey b l) ≡ false → content_of (with_change t (area_change (Tls b l) None)) (Tls c m) ≡ content_of t (Tls c m)
  tls_left b l c m e = ap (option_map (λ (r : Bytes × Bytes × Bytes). r.2)) (item_at_without tls_key (TlsKey c m) (TlsKey b l) t.tlss ∙ ap (λ k. cond k None (item_at tls_key (TlsKey c m) t.tlss)) e)

  tls_kept : (b l c m : Bytes) (x : ℕ) (xs : Bytes) → key_eq (TlsKey c m) (TlsKey b l) ≡ false → content_of (with_change t (area_change (Tls b l) (Some (x ∷ xs)))) (Tls c m) ≡ content_of t (Tls c m)
  tls_kept b l c m x xs e = ap (option_map (λ (r : Bytes × Bytes × Bytes). r.2)) (item_at_with tls_key (TlsKey c m) (b, l, x ∷ xs) t.tlss ∙ ap (λ k. cond k (Some (b, l, x ∷ xs)) (item_at tls_key (TlsKey c m) t.tlss)) e)

  uls_left : (b l c m : Bytes) → key_eq (UlsKey c m) (UlsKey b l) ≡ false → content_of (with_change t (area_change (Uls b l) None)) (Uls c m) ≡ content_of t (Uls c m)
  uls_left b l c m e = ap (option_map (λ (r : Bytes × Bytes × Bytes). r.2)) (item_at_without uls_key (UlsKey c m) (UlsKey b l) t.ulss ∙ ap (λ k. cond k None (item_at uls_key (UlsKey c m) t.ulss)) e)

  uls_kept : (b l c m : Bytes) (x : ℕ) (xs : Bytes) → key_eq (UlsKey c m) (UlsKey b l) ≡ false → content_of (with_change t (area_change (Uls b l) (Some (x ∷ xs)))) (Uls c m) ≡ content_of t (Uls c m)
  uls_kept b l c m x xs e = ap (option_map (λ (r : Bytes × Bytes × Bytes). r.2)) (item_at_with uls_key (UlsKey c m) (b, l, x ∷ xs) t.ulss ∙ ap (λ k. cond k (Some (b, l, x ∷ xs)) (item_at uls_key (UlsKey c m) t.ulss)) e)

  -- a change of one area keeps all others
  area_kept : (w : Area) (o : Option Bytes) (area : Area) → area_eq area w ≡ false → content_of (with_change t (area_change w o)) area ≡ content_of t area
  area_kept (Gssb n) None (Gssb m) e = gssb_left n m e
  area_kept (Gssb n) (Some bytes) (Gssb m) e = gssb_kept n m bytes e
  area_kept (Tls b l) None (Tls c m) e = tls_left b l c m e
  area_kept (Tls b l) (Some []) (Tls c m) e = tls_left b l c m e
  area_kept (Tls b l) (Some (x ∷ xs)) (Tls c m) e = tls_kept b l c m x xs e
  area_kept (Uls b l) None (Uls c m) e = uls_left b l c m e
  area_kept (Uls b l) (Some []) (Uls c m) e = uls_left b l c m e
  area_kept (Uls b l) (Some (x ∷ xs)) (Uls c m) e = uls_kept b l c m x xs e
  area_kept _ _ _ e = refl

-- the areas written keep those that are none of them
areas_kept : (ws : List (Area × Option Bytes)) (t : TableRows) (area : Area) → IsTrue (list_all (λ (w : Area × Option Bytes). not (area_eq area w.0)) ws) → content_of (with_areas t ws) area ≡ content_of t area
unfolding with_areas
areas_kept [] t area apart = refl
areas_kept (w ∷ ws) t area apart =
    let parts = both_true (not (area_eq area w.0)) (list_all (λ (v : Area × Option Bytes). not (area_eq area v.0)) ws) apart in
    areas_kept ws (with_change t (area_change w.0 w.1)) area parts.1 ∙ area_kept t w.0 w.1 area (is_other (area_eq area w.0) parts.0)
  where
    is_other : (b : Bool) → not b ≡ true → b ≡ false
    is_other false e = refl
    is_other true e = absurd (true≢false (sym e))

own_job_content : (t : TableRows) (id : ServiceId) (began : Option Service) (area : Area) → content_of (without_own_job t id began) area ≡ content_of t area
own_job_content t (Dialogue user) began (Gssb n) = refl
own_job_content t (Dialogue user) began (Tls b l) = refl
own_job_content t (Dialogue user) began (Uls b u) = refl
own_job_content t (Asynchronous number) (Some row) (Gssb n) = refl
own_job_content t (Asynchronous number) (Some row) (Tls b l) = refl
own_job_content t (Asynchronous number) (Some row) (Uls b u) = refl
own_job_content t (Asynchronous number) None (Gssb n) = refl
own_job_content t (Asynchronous number) None (Tls b l) = refl
own_job_content t (Asynchronous number) None (Uls b u) = refl

pub service_content : (t : TableRows) (id : ServiceId) (row : Option Service) (area : Area) → content_of (with_service t id row) area ≡ content_of t area
service_content t id None (Gssb n) = refl
service_content t id None (Tls b l) = refl
service_content t id None (Uls b u) = refl
service_content t id (Some row) (Gssb n) = refl
service_content t id (Some row) (Tls b l) = refl
service_content t id (Some row) (Uls b u) = refl

drafts_content : (t : TableRows) (x : OpenTransaction) (area : Area) → content_of (with_drafts t x) area ≡ content_of t area
drafts_content t x (Gssb n) = refl
drafts_content t x (Tls b l) = refl
drafts_content t x (Uls b u) = refl

fate_content : (t : TableRows) (number : ℕ) (o : Option JobValue) (area : Area) → content_of (with_change t (job_change number o)) area ≡ content_of t area
fate_content t number None (Gssb n) = refl
fate_content t number None (Tls b l) = refl
fate_content t number None (Uls b u) = refl
fate_content t number (Some v) (Gssb n) = refl
fate_content t number (Some v) (Tls b l) = refl
fate_content t number (Some v) (Uls b u) = refl

own_fate_content : (g : Generated) (t : TableRows) (id : ServiceId) (began : Option Service) (area : Area) → content_of (with_own_fate g t id began) area ≡ content_of t area
own_fate_content g t (Dialogue user) began area = refl
own_fate_content g t (Asynchronous number) (Some row) area = refl
own_fate_content g t (Asynchronous number) None area = fate_content t number _ area

broken_content : (g : Generated) (t : TableRows) (id : ServiceId) (x : OpenTransaction) (area : Area) → content_of (broken g t id x) area ≡ content_of t area
unfolding broken
broken_content g t id x area = service_content (with_own_fate g t id x.began) id None area ∙ own_fate_content g t id x.began area

-- a point changes what its transaction wrote alone
synchronised_content : (g : Generated) (t : TableRows) (id : ServiceId) (x : OpenTransaction) (o : Outcome) (area : Area)
    → IsTrue (list_all (λ (w : Area × Option Bytes). not (area_eq area w.0)) x.written) → content_of (synchronised g t id x o) area ≡ content_of t area
unfolding synchronised
synchronised_content g t id x o area apart =
    let u = with_areas t x.written in
    let v = without_own_job u id x.began in
    service_content (with_drafts v x) id (row_after g id x o) area ∙ drafts_content v x area ∙ own_job_content u id x.began area ∙ areas_kept x.written t area apart

-- ---- jobs

pub job_kept : (n m : ℕ) (js : List Job) → id_eq (Asynchronous n) (Asynchronous m) ≡ false → item_at job_key (JobKey n) (without_item job_key (JobKey m) js) ≡ item_at job_key (JobKey n) js
job_kept n m js apart = item_at_without job_key (JobKey n) (JobKey m) js ∙ ap (λ b. cond b None (item_at job_key (JobKey n) js)) (other_number n m apart)

left_kept : (id : ServiceId) (began : Option Service) (n : ℕ) (js : List Job) → id_eq (Asynchronous n) id ≡ false → item_at job_key (JobKey n) (jobs_left id began js) ≡ item_at job_key (JobKey n) js
left_kept (Dialogue user) began n js apart = refl
left_kept (Asynchronous m) (Some row) n js apart = refl
left_kept (Asynchronous m) None n js apart = job_kept n m js apart

before_kept : (n : ℕ) (js ks : List Job) → has_job js n ≡ true → item_at job_key (JobKey n) (js ++ ks) ≡ item_at job_key (JobKey n) js
before_kept n [] ks h = absurd (true≢false (sym h))
before_kept n (j ∷ js) ks h = by (key_eq (JobKey n) (job_key j)) h (before_kept n js ks)
  where
    by : (b : Bool) → is_some (cond b (Some j) (item_at job_key (JobKey n) js)) ≡ true → (has_job js n ≡ true → item_at job_key (JobKey n) (js ++ ks) ≡ item_at job_key (JobKey n) js)
        → cond b (Some j) (item_at job_key (JobKey n) (js ++ ks)) ≡ cond b (Some j) (item_at job_key (JobKey n) js)
    by true e later = refl
    by false e later = later e

-- where the tables keep the jobs of others, others have the same job
pub same_jobs : (t u : TableRows) (id : ServiceId) → ((n : ℕ) → id_eq (Asynchronous n) id ≡ false → has_job t.jobs n ≡ true → item_at job_key (JobKey n) u.jobs ≡ item_at job_key (JobKey n) t.jobs)
    → (i : ServiceId) (began : Option Service) → id_eq i id ≡ false → HasOwnJob t i began → HasSameJob t u i began
same_jobs t u id stay (Dialogue user) began apart h = tt
same_jobs t u id stay (Asynchronous n) (Some row) apart h = tt
same_jobs t u id stay (Asynchronous n) None apart h = ap (option_map (λ (j : Job). j.value)) (stay n apart (sym (job_there t n) ∙ h))

synchronised_job : (g : Generated) (t : TableRows) (id : ServiceId) (x : OpenTransaction) (o : Outcome) (i : ServiceId) (began : Option Service) → id_eq i id ≡ false → HasOwnJob t i began → HasSameJob t (synchronised g t id x o) i began
synchronised_job g t id x o = same_jobs t (synchronised g t id x o) id (λ n apart h.
    ap (item_at job_key (JobKey n)) (points_number g t id x o).jobs
    ∙ before_kept n (jobs_left id x.began t.jobs) (new_jobs t x) (ap is_some (left_kept id x.began n t.jobs apart) ∙ h)
    ∙ left_kept id x.began n t.jobs apart)

broken_job : (g : Generated) (t : TableRows) (id : ServiceId) (x : OpenTransaction) (i : ServiceId) (began : Option Service) → id_eq i id ≡ false → HasOwnJob t i began → HasSameJob t (broken g t id x) i began
broken_job g t id x = same_jobs t (broken g t id x) id (λ n apart h. ap (item_at job_key (JobKey n)) (ends_draw_none g t id x).jobs ∙ others_at_end g id x.began n t.jobs apart)

-- ---- ends of others

-- what is held by one of two is not written by the other, which holds what it wrote
held_apart : (x y : OpenTransaction) → ((area : Area) → IsTrue (touches x area) → IsTrue (touches y area) → ⊥) → IsTrue (list_all (λ (w : Area × Option Bytes). touches x w.0) x.written)
    → (area : Area) → IsTrue (touches y area) → IsTrue (list_all (λ (w : Area × Option Bytes). not (area_eq area w.0)) x.written)
held_apart x y apart written area held = by x.written written
  where
    other : (w : Area) → IsTrue (touches x w) → (b : Bool) → area_eq area w ≡ b → not b ≡ true
    other w has false e = refl
    other w has true e = absurd (apart area (ap (touches x) (area_eq_same area w e) ∙ has) held)

    by : (ws : List (Area × Option Bytes)) → IsTrue (list_all (λ (w : Area × Option Bytes). touches x w.0) ws) → IsTrue (list_all (λ (w : Area × Option Bytes). not (area_eq area w.0)) ws)
    by [] h = refl
    by (w ∷ ws) h =
        let parts = both_true (touches x w.0) (list_all (λ (v : Area × Option Bytes). touches x v.0) ws) h in
        true_both (not (area_eq area w.0)) _ (other w.0 parts.0 (area_eq area w.0) refl) (by ws parts.1)

pub synchronised_seen : (g : Generated) (t : TableRows) (id : ServiceId) (x : OpenTransaction) (o : Outcome) (i : ServiceId) (y : OpenTransaction) → id_eq i id ≡ false
    → ((area : Area) → IsTrue (touches x area) → IsTrue (touches y area) → ⊥) → IsTrue (list_all (λ (w : Area × Option Bytes). touches x w.0) x.written)
    → HasOwnJob t i y.began → SeesTheSame t (synchronised g t id x o) i y
synchronised_seen g t id x o i y other apart written job = record {
  areas = λ area held. synchronised_content g t id x o area (held_apart x y apart written area held);
  job = synchronised_job g t id x o i y.began other job;
}

pub broken_seen : (g : Generated) (t : TableRows) (id : ServiceId) (x : OpenTransaction) (i : ServiceId) (y : OpenTransaction) → id_eq i id ≡ false → HasOwnJob t i y.began → SeesTheSame t (broken g t id x) i y
broken_seen g t id x i y other job = record { areas = λ area held. broken_content g t id x area; job = broken_job g t id x i y.began other job }
