-- Ends over the durable tables: what a stop leaves of the tables after one is what it makes of the durable tables, with the row of a service that is not durable put back.
use Rattle.std.specs.Prelude.{◌≡◌, refl, ℕ, Bool, true, false, cond, IsTrue, List, [], ◌∷◌, Option, Some, None, option_and_then}
use Rattle.std.proofs.Common.{sym, ap, ◌∙◌}
use Rattle.std.specs.FinMap.{is_sorted}
use Rattle.kdcs_types.specs.declared.act.Change.{Change}
use Rattle.kdcs_types.specs.declared.act.Change.TheVariants.{Remove}
use Rattle.kdcs_types.specs.declared.key.Area.{Area}
use Rattle.kdcs_types.specs.declared.key.Area.TheVariants.{Gssb, Tls, Uls}
use Rattle.kdcs_types.specs.declared.key.Key.TheVariants.{Service as ServiceKey, Job as JobKey}
use Rattle.kdcs_types.specs.declared.key.ServiceId.{ServiceId}
use Rattle.kdcs_types.specs.declared.key.ServiceId.TheVariants.{Dialogue, Asynchronous}
use Rattle.kdcs_types.specs.declared.service.Note.{Note}
use Rattle.kdcs_types.specs.declared.service.Service.{Service}
use Rattle.kdcs_types.specs.declared.service.JobValue.{JobValue}
use Rattle.kdcs_types.specs.KeyedLaws.{item_at_with, item_at_without}
use Rattle.kdcs_types.specs.Keys.{id_eq}
use Rattle.kdcs_types.specs.KeyLaws.{id_eq_itself}
use Rattle.kdcs_types.specs.RowLaws.{own_id, sorted_with_change}
use Rattle.kdcs_types.specs.Tables.{TableRows, IsSortedTables, service_key, content_of, job_of, service_of, with_change, change_fits, change_key}
use Rattle.application_types.specs.Generation.{Generated}
use Rattle.abstract_monitor.specs.declared.outcome.Outcome.{Outcome}
use Rattle.abstract_monitor.specs.AreaLaws.{area_changes, areas_sorted, own_job_sorted, job_change_fits, own_fate_sorted}
use Rattle.abstract_monitor.specs.Redelivery.{fate}
use Rattle.abstract_monitor.specs.Bytes.{Bytes, bytes_cmp}
use Rattle.abstract_monitor.specs.Endings.{is_durable, durable, area_change, with_areas, service_change, with_service, without_own_job, job_change, with_own_fate, with_drafts, row_after, synchronised}
use Rattle.abstract_monitor.specs.Endings.{broken}
use Rattle.abstract_monitor.specs.State.{OpenTransaction}
use Rattle.abstract_monitor.specs.Statements.{Kept}
use Rattle.laws_of_states.specs.DurableKeys.{key_is_durable}
use Rattle.laws_of_states.specs.DurableLaws.{durable_sorted, durable_again, durable_changed, kept_at}
use Rattle.laws_of_states.specs.OwnRowLaws.{row_there_fits}
use Rattle.laws_of_states.specs.Replay.{with_began}
use Rattle.laws_of_runs.specs.OwnRowsLaws.{own_key}
use Rattle.laws_of_runs.specs.Replays.{HasSameJob}
use Rattle.laws_of_runs.proofs.Frames.{service_content}
use Rattle.laws_of_states.specs.PointsLaws.{point_row_fits}

-- ---- the durable tables with the row at the beginning

module _ (g : Generated) (t : TableRows) (sorted : IsSortedTables t) (inputs : List Bytes) (notes : List Note) (n : ℕ) where
  abbrev pub record_of : ServiceId → Option Service → Kept
  record_of id began = record { service = id; began = began; inputs = inputs; notes = notes; statements = n }

  -- the tables before a commit, as its record takes them
  abbrev pub base : ServiceId → Option Service → TableRows
  base id began = with_began g (durable g t) (record_of id began)

  pub base_sorted : (id : ServiceId) (began : Option Service) → service_of t id ≡ began → IsSortedTables (base id began)
  base_sorted id began e = by (is_durable g id)
    where
      by : (b : Bool) → IsSortedTables (cond b (durable g t) (with_service (durable g t) id began))
      by true = durable_sorted g t sorted
      by false = sorted_with_change (durable g t) (service_change id began) (durable_sorted g t sorted) (row_there_fits t id began sorted e)

  pub base_durable : (id : ServiceId) (began : Option Service) → service_of t id ≡ began → durable g (base id began) ≡ durable g t
  base_durable id began e = by (is_durable g id) refl
    where
      by : (b : Bool) → is_durable g id ≡ b → durable g (cond b (durable g t) (with_service (durable g t) id began)) ≡ durable g t
      by true k = durable_again g t
      by false k =
          durable_changed g (durable g t) (service_change id began) (durable_sorted g t sorted) (row_there_fits t id began sorted e)
          ∙ ap (λ b. cond b (with_service (durable g (durable g t)) id began) (durable g (durable g t))) (ap (key_is_durable g) (own_key id began) ∙ k) ∙ durable_again g t

  pub base_service : (id : ServiceId) (began : Option Service) → service_of t id ≡ began → service_of (base id began) id ≡ began
  unfolding durable
  base_service id began e = by (is_durable g id) refl
    where
      set : (o : Option Service) → service_of t id ≡ o → service_of (with_service (durable g t) id o) id ≡ o
      set None k =
          item_at_without service_key (ServiceKey id) (ServiceKey id) (durable g t).services
          ∙ ap (λ b. cond b None (service_of (durable g t) id)) (id_eq_itself id)
      set (Some row) k =
          item_at_with service_key (ServiceKey id) row (durable g t).services
          ∙ ap (λ b. cond b (Some row) (service_of (durable g t) id)) (ap (λ i. id_eq id i) (own_id t id row k) ∙ id_eq_itself id)

      by : (b : Bool) → is_durable g id ≡ b → service_of (cond b (durable g t) (with_service (durable g t) id began)) id ≡ began
      by true k = kept_at (is_durable g) id t.services ∙ ap (λ b. cond b (service_of t id) None) k ∙ e
      by false k = set began e

  durable_content : (area : Area) → content_of (durable g t) area ≡ content_of t area
  unfolding durable
  durable_content (Gssb name) = refl
  durable_content (Tls block lterm) = refl
  durable_content (Uls block user) = refl

  pub base_content : (id : ServiceId) (began : Option Service) (area : Area) → content_of (base id began) area ≡ content_of t area
  base_content id began area = by (is_durable g id)
    where
      by : (b : Bool) → content_of (cond b (durable g t) (with_service (durable g t) id began)) area ≡ content_of t area
      by true = durable_content area
      by false = service_content (durable g t) id began area ∙ durable_content area

  pub base_job : (id : ServiceId) (began : Option Service) → HasSameJob t (base id began) id began
  unfolding durable
  base_job (Dialogue user) began = tt
  base_job (Asynchronous number) None = refl
  base_job (Asynchronous number) (Some row) = tt

-- ---- ends over tables with the same durable part

module _ (g : Generated) where
  change_alike : (t u : TableRows) (c : Change) → IsSortedTables t → IsSortedTables u → IsTrue (change_fits c) → durable g t ≡ durable g u → durable g (with_change t c) ≡ durable g (with_change u c)
  change_alike t u c st su fits same =
      durable_changed g t c st fits ∙ ap (λ w. cond (key_is_durable g (change_key c)) (with_change w c) w) same ∙ sym (durable_changed g u c su fits)

  areas_alike : (ws : List (Area × Option Bytes)) (t u : TableRows) → IsSortedTables t → IsSortedTables u → durable g t ≡ durable g u → durable g (with_areas t ws) ≡ durable g (with_areas u ws)
  unfolding with_areas
  areas_alike [] t u st su same = same
  areas_alike (w ∷ ws) t u st su same =
      let c = area_change w.0 w.1 in
      let fits = (area_changes w.0 w.1).fits in
      areas_alike ws (with_change t c) (with_change u c) (sorted_with_change t c st fits) (sorted_with_change u c su fits) (change_alike t u c st su fits same)

  own_alike : (t u : TableRows) (id : ServiceId) (began : Option Service) → IsSortedTables t → IsSortedTables u → durable g t ≡ durable g u → durable g (without_own_job t id began) ≡ durable g (without_own_job u id began)
  own_alike t u (Dialogue user) began st su same = same
  own_alike t u (Asynchronous number) (Some row) st su same = same
  own_alike t u (Asynchronous number) None st su same = change_alike t u (Remove (JobKey number)) st su refl same

  -- the row and the drafts in the other order
  drafts_last : (t : TableRows) (x : OpenTransaction) (id : ServiceId) (row : Option Service) → with_service (with_drafts t x) id row ≡ with_drafts (with_service t id row) x
  drafts_last t x id None = refl
  drafts_last t x id (Some row) = refl

  drafts_durable : (t : TableRows) (x : OpenTransaction) → durable g (with_drafts t x) ≡ with_drafts (durable g t) x
  unfolding durable
  drafts_durable t x = refl

  pub synchronised_alike : (t u : TableRows) (id : ServiceId) (x : OpenTransaction) (o : Outcome) → IsSortedTables t → IsSortedTables u → IsTrue (is_sorted bytes_cmp x.lssbs) → durable g t ≡ durable g u
      → durable g (synchronised g t id x o) ≡ durable g (synchronised g u id x o)
  unfolding synchronised
  synchronised_alike t u id x o st su lssbs same =
      let row = row_after g id x o in
      let a = without_own_job (with_areas t x.written) id x.began in
      let b = without_own_job (with_areas u x.written) id x.began in
      let sa = own_job_sorted (with_areas t x.written) id x.began (areas_sorted x.written t st) in
      let sb = own_job_sorted (with_areas u x.written) id x.began (areas_sorted x.written u su) in
      let left = own_alike (with_areas t x.written) (with_areas u x.written) id x.began (areas_sorted x.written t st) (areas_sorted x.written u su) (areas_alike x.written t u st su same) in
      ap (durable g) (drafts_last a x id row) ∙ drafts_durable (with_service a id row) x
      ∙ ap (λ w. with_drafts w x) (change_alike a b (service_change id row) sa sb (point_row_fits g id x o lssbs) left)
      ∙ sym (ap (durable g) (drafts_last b x id row) ∙ drafts_durable (with_service b id row) x)

  -- jobs are the same there
  job_alike : (t u : TableRows) → durable g t ≡ durable g u → (number : ℕ) → job_of t number ≡ job_of u number
  unfolding durable
  job_alike t u same number = ap (λ (w : TableRows). job_of w number) same

  fate_alike : (t u : TableRows) (number : ℕ) (o p : Option JobValue) → o ≡ p → IsSortedTables t → IsSortedTables u → durable g t ≡ durable g u → durable g (with_change t (job_change number o)) ≡ durable g (with_change u (job_change number p))
  fate_alike t u number o p e st su same =
      change_alike t u (job_change number o) st su (job_change_fits number o) same ∙ ap (λ (w : Option JobValue). durable g (with_change u (job_change number w))) e

  own_fate_alike : (t u : TableRows) (id : ServiceId) (began : Option Service) → IsSortedTables t → IsSortedTables u → durable g t ≡ durable g u → durable g (with_own_fate g t id began) ≡ durable g (with_own_fate g u id began)
  own_fate_alike t u (Dialogue user) began st su same = same
  own_fate_alike t u (Asynchronous number) (Some row) st su same = same
  own_fate_alike t u (Asynchronous number) None st su same = fate_alike t u number _ _ (ap (option_and_then (fate g)) (job_alike t u same number)) st su same

  pub broken_alike : (t u : TableRows) (id : ServiceId) (x : OpenTransaction) → IsSortedTables t → IsSortedTables u → durable g t ≡ durable g u → durable g (broken g t id x) ≡ durable g (broken g u id x)
  unfolding broken
  broken_alike t u id x st su same =
      change_alike (with_own_fate g t id x.began) (with_own_fate g u id x.began) (service_change id None) (own_fate_sorted g t id x.began st) (own_fate_sorted g u id x.began su) refl (own_fate_alike t u id x.began st su same)
