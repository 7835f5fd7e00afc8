-- What a synchronisation point writes is in ascending order of the keys.
use Rattle.std.specs.Prelude.{◌≡◌, refl, ℕ, ◌+◌, ◌<◌, Bool, true, false, cond, IsTrue, List, [], ◌∷◌, ◌++◌, Option, Some, None, nat_lt, nat_le, ◌==◌}
use Rattle.std.proofs.Common.{sym, ap, subst, ◌∙◌, arith}
use Rattle.std.proofs.lemmas.Bool.{lt-ltb, ltb-true, leb-true}
use Rattle.std.specs.declared.cmp.Ordering.TheVariants.{Less, Equal, Greater}
use Rattle.std.specs.FinMap.{is_sorted}
use Rattle.std.specs.FinMap.Entries.{below_all}
use Rattle.std.specs.List.{list_all}
use Rattle.std.specs.Ordering.{is_lt, ordering_then}
use Rattle.kd_base.specs.ToolsLaws.{both_true, true_both}
use Rattle.kdcs_types.specs.declared.act.Change.{Change}
use Rattle.kdcs_types.specs.declared.key.Area.{Area}
use Rattle.kdcs_types.specs.declared.key.Area.TheVariants.{Gssb, Tls, Uls}
use Rattle.kdcs_types.specs.declared.key.Key.{Key}
use Rattle.kdcs_types.specs.declared.key.Key.TheVariants.{Job as JobKey}
use Rattle.kdcs_types.specs.declared.key.ServiceId.{ServiceId}
use Rattle.kdcs_types.specs.declared.key.ServiceId.TheVariants.{Dialogue, Asynchronous}
use Rattle.kdcs_types.specs.declared.service.Job.{Job}
use Rattle.kdcs_types.specs.declared.service.JobValue.{JobValue}
use Rattle.kdcs_types.specs.declared.service.Service.{Service}
use Rattle.kdcs_types.specs.Keyed.{ascends, keyed}
use Rattle.kdcs_types.specs.Keys.{area_cmp, area_key, key_cmp, key_kind, texts_behind, texts_cmp}
use Rattle.kdcs_types.specs.Tables.{TableRows, change_fits, change_key}
use Rattle.application_types.specs.Generation.{Generated}
use Rattle.abstract_monitor.specs.Bytes.{Bytes}
use Rattle.abstract_monitor.specs.Endings.{area_change, is_durable, job_change, service_change}
use Rattle.laws_of_states.specs.Commits.{AreNumberedFrom}
use Rattle.laws_of_states.specs.DurableKeys.{key_is_durable}
use Rattle.laws_of_states.specs.ItemsLaws.{job_less}
use Rattle.laws_of_states.specs.ListsLaws.{all_append, all_imply}
use Rattle.service_parts.specs.Areas.{changes_of}
use Rattle.sync_points.specs.PointChanges.{fate_changes, job_changes, own_job_changes, service_changes}

-- ---- one list after another

-- each key of the first is below all keys of the second
abbrev are_below : List Change → List Change → Bool
are_below xs ys = list_all (λ (x : Change). below_all key_cmp (change_key x) (keyed change_key ys)) xs

below_append : (k : Key) (xs ys : List Change) → IsTrue (below_all key_cmp k (keyed change_key xs)) → IsTrue (below_all key_cmp k (keyed change_key ys)) → IsTrue (below_all key_cmp k (keyed change_key (xs ++ ys)))
below_append k [] ys h more = more
below_append k (x ∷ xs) ys h more =
    let parts = both_true (is_lt (key_cmp k (change_key x))) (below_all key_cmp k (keyed change_key xs)) h in
    true_both (is_lt (key_cmp k (change_key x))) (below_all key_cmp k (keyed change_key (xs ++ ys))) parts.0 (below_append k xs ys parts.1 more)

ascends_join : (xs ys : List Change) → IsTrue (ascends change_key xs) → IsTrue (ascends change_key ys) → IsTrue (are_below xs ys) → IsTrue (ascends change_key (xs ++ ys))
ascends_join [] ys h more below = more
ascends_join (x ∷ xs) ys h more below =
    let a = both_true (below_all key_cmp (change_key x) (keyed change_key xs)) (ascends change_key xs) h in
    let b = both_true (below_all key_cmp (change_key x) (keyed change_key ys)) (are_below xs ys) below in
    true_both (below_all key_cmp (change_key x) (keyed change_key (xs ++ ys))) (ascends change_key (xs ++ ys)) (below_append (change_key x) xs ys a.0 b.0) (ascends_join xs ys a.1 more b.1)

-- ---- by kind

abbrev has_kind_below : ℕ → Change → Bool
has_kind_below n c = nat_lt (key_kind (change_key c)) n

abbrev has_kind_from : ℕ → Change → Bool
has_kind_from n c = nat_le n (key_kind (change_key c))

kind_less : (a b : Key) → key_kind a < key_kind b → IsTrue (is_lt (key_cmp a b))
kind_less a b h = ap (λ c. is_lt (ordering_then (ordering_then (cond c Less (cond (key_kind a == key_kind b) Equal Greater)) Equal) (texts_cmp (texts_behind a) (texts_behind b)))) (lt-ltb (key_kind a) (key_kind b) h)

below_kind : (n : ℕ) (k : Key) → key_kind k < n → (ys : List Change) → IsTrue (list_all (has_kind_from n) ys) → IsTrue (below_all key_cmp k (keyed change_key ys))
below_kind n k lt [] h = refl
below_kind n k lt (y ∷ ys) h =
    let parts = both_true (has_kind_from n y) (list_all (has_kind_from n) ys) h in
    true_both (is_lt (key_cmp k (change_key y))) (below_all key_cmp k (keyed change_key ys))
    (kind_less k (change_key y) (omega (arith, lt, leb-true n (key_kind (change_key y)) parts.0))) (below_kind n k lt ys parts.1)

below_by_kind : (n : ℕ) (xs ys : List Change) → IsTrue (list_all (has_kind_below n) xs) → IsTrue (list_all (has_kind_from n) ys) → IsTrue (are_below xs ys)
below_by_kind n xs ys h k = all_imply (has_kind_below n) (λ (x : Change). below_all key_cmp (change_key x) (keyed change_key ys)) (λ x lt. below_kind n (change_key x) (ltb-true (key_kind (change_key x)) n lt) ys k) xs h

-- ---- areas

abbrev Written : Type 0
Written = List (Area × Option Bytes)

-- what holds of the change of each area
record IsOfArea (g : Generated) (area : Area) (c : Change) : Type 0 where
  key : change_key c ≡ area_key area
  fits : IsTrue (change_fits c)
  kind4 : IsTrue (has_kind_below 4 c)
  kind5 : IsTrue (has_kind_below 5 c)
  is_durable : IsTrue (key_is_durable g (change_key c))

of_area : (g : Generated) (area : Area) (content : Option Bytes) → IsOfArea g area (area_change area content)
of_area g (Gssb name) None = record { key = refl; fits = refl; kind4 = refl; kind5 = refl; is_durable = refl }
of_area g (Gssb name) (Some bytes) = record { key = refl; fits = refl; kind4 = refl; kind5 = refl; is_durable = refl }
of_area g (Tls block lterm) None = record { key = refl; fits = refl; kind4 = refl; kind5 = refl; is_durable = refl }
of_area g (Tls block lterm) (Some []) = record { key = refl; fits = refl; kind4 = refl; kind5 = refl; is_durable = refl }
of_area g (Tls block lterm) (Some (c ∷ cs)) = record { key = refl; fits = refl; kind4 = refl; kind5 = refl; is_durable = refl }
of_area g (Uls block user) None = record { key = refl; fits = refl; kind4 = refl; kind5 = refl; is_durable = refl }
of_area g (Uls block user) (Some []) = record { key = refl; fits = refl; kind4 = refl; kind5 = refl; is_durable = refl }
of_area g (Uls block user) (Some (c ∷ cs)) = record { key = refl; fits = refl; kind4 = refl; kind5 = refl; is_durable = refl }

areas_below : (g : Generated) (area : Area) (ws : Written) → IsTrue (below_all area_cmp area ws) → IsTrue (below_all key_cmp (area_key area) (keyed change_key (changes_of ws)))
areas_below g area [] h = refl
areas_below g area (w ∷ ws) h =
    let parts = both_true (is_lt (area_cmp area w.0)) (below_all area_cmp area ws) h in
    true_both _ _ (ap (λ k. is_lt (key_cmp (area_key area) k)) (of_area g w.0 w.1).key ∙ parts.0) (areas_below g area ws parts.1)

areas_ascend : (g : Generated) (ws : Written) → IsTrue (is_sorted area_cmp ws) → IsTrue (ascends change_key (changes_of ws))
areas_ascend g [] up = refl
areas_ascend g (w ∷ ws) up =
    let parts = both_true (below_all area_cmp w.0 ws) (is_sorted area_cmp ws) up in
    true_both _ _ (subst (λ k. IsTrue (below_all key_cmp k (keyed change_key (changes_of ws)))) (sym (of_area g w.0 w.1).key) (areas_below g w.0 ws parts.0)) (areas_ascend g ws parts.1)

-- what holds of the change of each area holds of all
all_of_areas : (g : Generated) (p : Change → Bool) → ((area : Area) (c : Change) → IsOfArea g area c → IsTrue (p c)) → (ws : Written) → IsTrue (list_all p (changes_of ws))
all_of_areas g p holds [] = refl
all_of_areas g p holds (w ∷ ws) = true_both _ _ (holds w.0 (area_change w.0 w.1) (of_area g w.0 w.1)) (all_of_areas g p holds ws)

pub areas_fit : (g : Generated) (ws : Written) → IsTrue (list_all change_fits (changes_of ws))
areas_fit g ws = all_of_areas g change_fits (λ area c h. h.fits) ws

-- ---- the service's row

record IsOfService (g : Generated) (cs : List Change) : Type 0 where
  up : IsTrue (ascends change_key cs)
  from : IsTrue (list_all (has_kind_from 4) cs)
  below : IsTrue (list_all (has_kind_below 5) cs)
  is_durable : IsTrue (list_all (λ (c : Change). key_is_durable g (change_key c)) cs)

of_service : (g : Generated) (id : ServiceId) (row : Option Service) → IsOfService g (service_changes g id row)
of_service g id row = by row (is_durable g id) refl
  where
    by : (o : Option Service) (b : Bool) → is_durable g id ≡ b → IsOfService g (cond b (service_change id o ∷ []) [])
    by None true e = record { up = refl; from = refl; below = refl; is_durable = true_both _ _ e refl }
    by (Some row) true e = record { up = refl; from = refl; below = refl; is_durable = true_both _ _ e refl }
    by o false e = record { up = refl; from = refl; below = refl; is_durable = refl }

-- ---- jobs

below_new : (k n : ℕ) → k < n → (ys : List Job) → AreNumberedFrom n ys → IsTrue (below_all key_cmp (JobKey k) (keyed change_key (job_changes ys)))
below_new k n lt [] h = refl
below_new k n lt (y ∷ ys) h =
    true_both _ _ (job_less k y.number (omega (arith, lt, h.0))) (below_new k (n + 1) (omega (arith, lt)) ys h.1)

new_ascend : (n : ℕ) (ys : List Job) → AreNumberedFrom n ys → IsTrue (ascends change_key (job_changes ys))
new_ascend n [] h = refl
new_ascend n (y ∷ ys) h = true_both _ _ (below_new y.number (n + 1) (omega (arith, h.0)) ys h.1) (new_ascend (n + 1) ys h.1)

new_all : (g : Generated) (ys : List Job) → IsTrue (list_all change_fits (job_changes ys)) × IsTrue (list_all (has_kind_from 5) (job_changes ys)) × IsTrue (list_all (λ (c : Change). key_is_durable g (change_key c)) (job_changes ys))
new_all g [] = (refl, refl, refl)
new_all g (y ∷ ys) = new_all g ys

-- the own job's number is below those of new jobs
abbrev pub OwnIsBelow : ServiceId → Option Service → ℕ → Type 0
OwnIsBelow (Dialogue user) began next = Unit {0}
OwnIsBelow (Asynchronous number) (Some row) next = Unit {0}
OwnIsBelow (Asynchronous number) None next = number < next

record IsOfOwnJob (g : Generated) (cs : List Change) : Type 0 where
  up : IsTrue (ascends change_key cs)
  fits : IsTrue (list_all change_fits cs)
  from : IsTrue (list_all (has_kind_from 5) cs)
  is_durable : IsTrue (list_all (λ (c : Change). key_is_durable g (change_key c)) cs)

of_own_job : (g : Generated) (id : ServiceId) (began : Option Service) → IsOfOwnJob g (own_job_changes id began)
of_own_job g (Dialogue user) began = record { up = refl; fits = refl; from = refl; is_durable = refl }
of_own_job g (Asynchronous number) (Some row) = record { up = refl; fits = refl; from = refl; is_durable = refl }
of_own_job g (Asynchronous number) None = record { up = refl; fits = refl; from = refl; is_durable = refl }

of_fate : (g : Generated) (number : ℕ) (o : Option JobValue) → IsOfOwnJob g (job_change number o ∷ [])
of_fate g number None = record { up = refl; fits = refl; from = refl; is_durable = refl }
of_fate g number (Some v) = record { up = refl; fits = refl; from = refl; is_durable = refl }

of_own_fate : (g : Generated) (t : TableRows) (id : ServiceId) (began : Option Service) → IsOfOwnJob g (fate_changes g t id began)
of_own_fate g t (Dialogue user) began = record { up = refl; fits = refl; from = refl; is_durable = refl }
of_own_fate g t (Asynchronous number) (Some row) = record { up = refl; fits = refl; from = refl; is_durable = refl }
of_own_fate g t (Asynchronous number) None = of_fate g number _

own_below_new : (id : ServiceId) (began : Option Service) (n : ℕ) → OwnIsBelow id began n → (ys : List Job) → AreNumberedFrom n ys → IsTrue (are_below (own_job_changes id began) (job_changes ys))
own_below_new (Dialogue user) began n h ys from = refl
own_below_new (Asynchronous number) (Some row) n h ys from = refl
own_below_new (Asynchronous number) None n h ys from = true_both _ _ (below_new number n h ys from) refl

-- ---- together

-- the service's row and the own job
pub ends_ascend : (g : Generated) (t : TableRows) (id : ServiceId) (row began : Option Service) → IsTrue (ascends change_key (service_changes g id row ++ fate_changes g t id began))
ends_ascend g t id row began =
    let s = of_service g id row in
    let j = of_own_fate g t id began in
    ascends_join (service_changes g id row) (fate_changes g t id began) s.up j.up (below_by_kind 5 (service_changes g id row) (fate_changes g t id began) s.below j.from)

pub ends_durable : (g : Generated) (t : TableRows) (id : ServiceId) (row began : Option Service) → IsTrue (list_all (λ (c : Change). key_is_durable g (change_key c)) (service_changes g id row ++ fate_changes g t id began))
ends_durable g t id row began = all_append _ (service_changes g id row) (fate_changes g t id began) (of_service g id row).is_durable (of_own_fate g t id began).is_durable

pub fate_fits : (g : Generated) (t : TableRows) (id : ServiceId) (began : Option Service) → IsTrue (list_all change_fits (fate_changes g t id began))
fate_fits g t id began = (of_own_fate g t id began).fits

pub own_fits : (g : Generated) (id : ServiceId) (began : Option Service) → IsTrue (list_all change_fits (own_job_changes id began))
own_fits g id began = (of_own_job g id began).fits

pub new_fits : (g : Generated) (js : List Job) → IsTrue (list_all change_fits (job_changes js))
new_fits g js = (new_all g js).0

module _ (g : Generated) (id : ServiceId) (row began : Option Service) (ws : Written) (js : List Job) (n : ℕ) where
  abbrev areas : List Change
  areas = changes_of ws

  abbrev service : List Change
  service = service_changes g id row

  abbrev own : List Change
  own = own_job_changes id began

  kinds : IsTrue (list_all (has_kind_below 5) (areas ++ service))
  kinds = all_append (has_kind_below 5) areas service (all_of_areas g (has_kind_below 5) (λ area c h. h.kind5) ws) (of_service g id row).below

  front : IsTrue (is_sorted area_cmp ws) → IsTrue (ascends change_key (areas ++ service))
  front up =
      let s = of_service g id row in
      ascends_join areas service (areas_ascend g ws up) s.up (below_by_kind 4 areas service (all_of_areas g (has_kind_below 4) (λ area c h. h.kind4) ws) s.from)

  middle : IsTrue (is_sorted area_cmp ws) → IsTrue (ascends change_key (areas ++ service ++ own))
  middle up = ascends_join (areas ++ service) own (front up) (of_own_job g id began).up (below_by_kind 5 (areas ++ service) own kinds (of_own_job g id began).from)

  -- areas, the service's row, the own job and new jobs
  pub points_ascend : IsTrue (is_sorted area_cmp ws) → AreNumberedFrom n js → OwnIsBelow id began n → IsTrue (ascends change_key (areas ++ service ++ own ++ job_changes js))
  points_ascend up from below =
      ascends_join (areas ++ service ++ own) (job_changes js) (middle up) (new_ascend n js from)
      (all_append _ (areas ++ service) own (below_by_kind 5 (areas ++ service) (job_changes js) kinds (new_all g js).1) (own_below_new id began n below js from))

  pub points_durable : IsTrue (list_all (λ (c : Change). key_is_durable g (change_key c)) (areas ++ service ++ own ++ job_changes js))
  points_durable =
      all_append _ (areas ++ service ++ own) (job_changes js)
      (all_append _ (areas ++ service) own (all_append _ areas service (all_of_areas g _ (λ area c h. h.is_durable) ws) (of_service g id row).is_durable) (of_own_job g id began).is_durable)
      (new_all g js).2
