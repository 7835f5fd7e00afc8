-- Laws: what outlives a stop: the rows of durable tables, and what a change makes of them.
use Rattle.std.specs.Prelude.{◌≡◌, refl, Bool, true, false, cond, IsTrue, List, [], ◌∷◌, filter, not, Option, Some, None, ℕ}
use Rattle.std.proofs.Common.{sym, ap, ◌∙◌}
use Rattle.std.specs.FinMap.{find, is_sorted}
use Rattle.std.specs.List.{list_all}
use Rattle.std.specs.Option.{option_map}
use Rattle.kd_base.specs.ToolsLaws.{both_true, true_both}
use Rattle.std.specs.FinMap.Entries.{where_key, find-where_key, is_sorted-where_key}
use Rattle.kdcs_types.specs.declared.key.Key.{Key}
use Rattle.kdcs_types.specs.declared.key.Key.TheVariants as key
use Rattle.kdcs_types.specs.declared.key.ServiceId.{ServiceId}
use Rattle.kdcs_types.specs.declared.service.Service.{Service}
use Rattle.kdcs_types.specs.declared.act.Change.{Change}
use Rattle.kdcs_types.specs.declared.act.Change.TheVariants.{Set, Remove}
use Rattle.kdcs_types.specs.Keys.{key_cmp, key_eq, id_eq}
use Rattle.kdcs_types.specs.Keyed.{keyed, item_at, without_item}
use Rattle.kdcs_types.specs.KeyLaws.{same_key, key_eq_same, id_eq_same}
use Rattle.kdcs_types.specs.Tables.{TableRows, service_key, service_row, service_fits, row_at, with_change, change_fits, change_key, IsSortedTables, service_of}
use Rattle.kdcs_types.specs.TableLaws.{row_after}
use Rattle.kdcs_types.specs.RowLaws.{numbers_with_change, row_at_with_change, sorted_with_change, same_tables}
use Rattle.application_types.specs.Generation.{Generated}
use Rattle.abstract_monitor.specs.Endings.{is_durable, durable, with_service}
use Rattle.laws_of_states.specs.DurableKeys.{key_is_durable, DurableIsChanged}
use Rattle.kd_base.specs.OrderLaws.{holds, is_true}
use Rattle.kdcs_types.specs.declared.key.ServiceId.TheVariants.{Asynchronous}

-- ---- the rows of durable tables

module _ (g : Generated) where
  keyed_durable : (es : List Service) → keyed service_key (filter (λ (s : Service). is_durable g s.id) es) ≡ where_key key_cmp (key_is_durable g) (keyed service_key es)
  keyed_durable [] = refl
  keyed_durable (x ∷ xs) =
      elim (is_durable g x.id) as (λ b. keyed service_key (cond b (x ∷ filter (λ (s : Service). is_durable g s.id) xs) (filter (λ (s : Service). is_durable g s.id) xs)) ≡ cond b ((service_key x, x) ∷ where_key key_cmp (key_is_durable g) (keyed service_key xs)) (where_key key_cmp (key_is_durable g) (keyed service_key xs))) [
        | true ↦ ap (λ (l : List (Key × Service)). (service_key x, x) ∷ l) (keyed_durable xs)
        | false ↦ keyed_durable xs
      ]

  mapped : {A B : Type 0} (f : A → B) (b : Bool) (o : Option A) → option_map f (cond b o None) ≡ cond b (option_map f o) None
  mapped f true o = refl
  mapped f false o = refl

  -- a row is there where it outlives a stop
  pub row_at_durable : (t : TableRows) (k : Key) → row_at (durable g t) k ≡ cond (key_is_durable g k) (row_at t k) None
  unfolding durable
  row_at_durable t (key.Gssb n) = refl
  row_at_durable t (key.Tls b l) = refl
  row_at_durable t (key.Uls b u) = refl
  row_at_durable t (key.Service i) =
      ap (λ es. option_map service_row (find key_cmp (key.Service i) es)) (keyed_durable t.services)
      ∙ ap (option_map service_row) (find-where_key key_cmp (key_is_durable g) (key.Service i) (λ x e. ap (key_is_durable g) (sym (same_key (key.Service i) x e))) (keyed service_key t.services))
      ∙ mapped service_row (is_durable g i) (item_at service_key (key.Service i) t.services)
  row_at_durable t (key.Job n) = refl
  row_at_durable t (key.Shown l) = refl

  kept_all : (p : Service → Bool) (es : List Service) → IsTrue (list_all p es) → IsTrue (list_all p (filter (λ (s : Service). is_durable g s.id) es))
  kept_all p [] h = refl
  kept_all p (x ∷ xs) h =
      let parts = both_true (p x) (list_all p xs) h in
      elim (is_durable g x.id) as (λ b. IsTrue (list_all p (cond b (x ∷ filter (λ (s : Service). is_durable g s.id) xs) (filter (λ (s : Service). is_durable g s.id) xs)))) [
        | true ↦ true_both _ _ parts.0 (kept_all p xs parts.1)
        | false ↦ kept_all p xs parts.1
      ]

  pub durable_sorted : (t : TableRows) → IsSortedTables t → IsSortedTables (durable g t)
  unfolding durable
  durable_sorted t h = record {
    gssbs = h.gssbs;
    tlss = h.tlss;
    ulss = h.ulss;
    services = ap (is_sorted key_cmp) (keyed_durable t.services) ∙ is_true _ (is_sorted-where_key key_cmp (key_is_durable g) (keyed service_key t.services) (holds _ h.services));
    jobs = h.jobs;
    shown = h.shown;
    tlss_filled = h.tlss_filled;
    ulss_filled = h.ulss_filled;
    services_fit = kept_all service_fits t.services h.services_fit;
  }

  -- the durable part of a durable part is itself
  pub durable_again : (t : TableRows) → durable g (durable g t) ≡ durable g t
  unfolding durable
  durable_again t i = record t { services = again t.services i }
    where
      again : (es : List Service) → filter (λ (s : Service). is_durable g s.id) (filter (λ (s : Service). is_durable g s.id) es) ≡ filter (λ (s : Service). is_durable g s.id) es
      again [] = refl
      again (x ∷ xs) =
          elim (is_durable g x.id) as (λ b. is_durable g x.id ≡ b → filter (λ (s : Service). is_durable g s.id) (cond b (x ∷ filter (λ (s : Service). is_durable g s.id) xs) (filter (λ (s : Service). is_durable g s.id) xs)) ≡ cond b (x ∷ filter (λ (s : Service). is_durable g s.id) xs) (filter (λ (s : Service). is_durable g s.id) xs)) [
            | true ↦ λ e. ap (λ b. cond b (x ∷ filter (λ (s : Service). is_durable g s.id) (filter (λ (s : Service). is_durable g s.id) xs)) (filter (λ (s : Service). is_durable g s.id) (filter (λ (s : Service). is_durable g s.id) xs))) e ∙ ap (λ (l : List Service). x ∷ l) (again xs)
            | false ↦ λ e. again xs
          ] refl

  -- ---- a change

  numbers_durable : (t : TableRows) → ((durable g t).clock ≡ t.clock) × ((durable g t).next_job ≡ t.next_job)
  unfolding durable
  numbers_durable t = (refl, refl)

  clock_after : (t : TableRows) (c : Change) → ((durable g (with_change t c)).clock ≡ t.clock) × ((durable g (with_change t c)).next_job ≡ t.next_job)
  clock_after t c = ((numbers_durable (with_change t c)).0 ∙ (numbers_with_change t c).0, (numbers_durable (with_change t c)).1 ∙ (numbers_with_change t c).1)

  module _ (t : TableRows) (c : Change) (sorted : IsSortedTables t) (fits : IsTrue (change_fits c)) where
    after_change : (q : Key) → row_at (durable g (with_change t c)) q ≡ cond (key_is_durable g q) (cond (key_eq q (change_key c)) (row_after (Some c) (row_at t q)) (row_at t q)) None
    after_change q = row_at_durable (with_change t c) q ∙ ap (λ o. cond (key_is_durable g q) o None) (row_at_with_change t c q fits)

    in_part : (b : Bool) → key_is_durable g (change_key c) ≡ b → durable g (with_change t c) ≡ cond b (with_change (durable g t) c) (durable g t)
    in_part true d =
        let kept = numbers_with_change (durable g t) c in
        same_tables (durable g (with_change t c)) (with_change (durable g t) c) (durable_sorted _ (sorted_with_change t c sorted fits)) (sorted_with_change _ c (durable_sorted t sorted) fits)
        ((clock_after t c).0 ∙ sym (kept.0 ∙ (numbers_durable t).0)) ((clock_after t c).1 ∙ sym (kept.1 ∙ (numbers_durable t).1))
        (λ q. after_change q ∙ moved q (key_eq q (change_key c)) refl ∙ sym (row_at_with_change (durable g t) c q fits))
      where
        moved : (q : Key) (e : Bool) → key_eq q (change_key c) ≡ e → cond (key_is_durable g q) (cond e (row_after (Some c) (row_at t q)) (row_at t q)) None ≡ cond e (row_after (Some c) (row_at (durable g t) q)) (row_at (durable g t) q)
        moved q true same = ap (λ b. cond b (row_after (Some c) (row_at t q)) None) (ap (key_is_durable g) (key_eq_same q (change_key c) same) ∙ d) ∙ after_same c
          where
            after_same : (ch : Change) → row_after (Some ch) (row_at t q) ≡ row_after (Some ch) (row_at (durable g t) q)
            after_same (Set r) = refl
            after_same (Remove k) = refl
        moved q false other = sym (row_at_durable t q)
    in_part false d =
        same_tables (durable g (with_change t c)) (durable g t) (durable_sorted _ (sorted_with_change t c sorted fits)) (durable_sorted t sorted)
        ((clock_after t c).0 ∙ sym (numbers_durable t).0) ((clock_after t c).1 ∙ sym (numbers_durable t).1)
        (λ q. after_change q ∙ unmoved q (key_eq q (change_key c)) refl ∙ sym (row_at_durable t q))
      where
        unmoved : (q : Key) (e : Bool) → key_eq q (change_key c) ≡ e → cond (key_is_durable g q) (cond e (row_after (Some c) (row_at t q)) (row_at t q)) None ≡ cond (key_is_durable g q) (row_at t q) None
        unmoved q true same =
            ap (λ b. cond b (row_after (Some c) (row_at t q)) None) (ap (key_is_durable g) (key_eq_same q (change_key c) same) ∙ d)
            ∙ sym (ap (λ b. cond b (row_at t q) None) (ap (key_is_durable g) (key_eq_same q (change_key c) same) ∙ d))
        unmoved q false other = refl

pub durable_changed : DurableIsChanged
durable_changed g t c sorted fits = in_part g t c sorted fits (key_is_durable g (change_key c)) refl

-- a service that does not outlive a stop goes without a trace
pub durable_without : (g : Generated) (t : TableRows) (id : ServiceId) → is_durable g id ≡ false → durable g (with_service t id None) ≡ durable g t
unfolding durable
durable_without g t id e i = record t { services = without t.services i }
  where
    without : (es : List Service) → filter (λ (s : Service). is_durable g s.id) (without_item service_key (key.Service id) es) ≡ filter (λ (s : Service). is_durable g s.id) es
    without [] = refl
    without (x ∷ xs) =
        elim (key_eq (key.Service id) (service_key x)) as (λ b. key_eq (key.Service id) (service_key x) ≡ b → filter (λ (s : Service). is_durable g s.id) (cond (not b) (x ∷ without_item service_key (key.Service id) xs) (without_item service_key (key.Service id) xs)) ≡ cond (is_durable g x.id) (x ∷ filter (λ (s : Service). is_durable g s.id) xs) (filter (λ (s : Service). is_durable g s.id) xs)) [
          | true ↦ λ same. without xs ∙ sym (ap (λ b. cond b (x ∷ filter (λ (s : Service). is_durable g s.id) xs) (filter (λ (s : Service). is_durable g s.id) xs)) (ap (key_is_durable g) (sym (key_eq_same (key.Service id) (service_key x) same)) ∙ e))
          | false ↦ λ other. ap (λ l. cond (is_durable g x.id) (x ∷ l) l) (without xs)
        ] refl

-- of the services that pass a test, a look-up finds those that passed
-- ---- the row of one service

abbrev no_service : Option Service
no_service = None

pub kept_at : (p : ServiceId → Bool) (id : ServiceId) (rows : List Service) → item_at service_key (key.Service id) (filter (λ (s : Service). p s.id) rows) ≡ cond (p id) (item_at service_key (key.Service id) rows) None
kept_at p id [] = by (p id)
  where
    by : (b : Bool) → no_service ≡ cond b no_service no_service
    by true = refl
    by false = refl
kept_at p id (r ∷ rs) = by (p r.id) refl (id_eq id r.id) refl (kept_at p id rs)
  where
    by : (b : Bool) → p r.id ≡ b → (c : Bool) → id_eq id r.id ≡ c
        → item_at service_key (key.Service id) (filter (λ (s : Service). p s.id) rs) ≡ cond (p id) (item_at service_key (key.Service id) rs) None
        → item_at service_key (key.Service id) (cond b (r ∷ filter (λ (s : Service). p s.id) rs) (filter (λ (s : Service). p s.id) rs))
        ≡ cond (p id) (cond (id_eq id r.id) (Some r) (item_at service_key (key.Service id) rs)) None
    by true d true e h =
        ap (λ b. cond b (Some r) (item_at service_key (key.Service id) (filter (λ (s : Service). p s.id) rs))) e
        ∙ sym (ap (λ b. cond b (cond (id_eq id r.id) (Some r) (item_at service_key (key.Service id) rs)) None) (ap p (id_eq_same id r.id e) ∙ d)
        ∙ ap (λ b. cond b (Some r) (item_at service_key (key.Service id) rs)) e)
    by true d false e h =
        ap (λ b. cond b (Some r) (item_at service_key (key.Service id) (filter (λ (s : Service). p s.id) rs))) e ∙ h
        ∙ ap (λ b. cond (p id) (cond b (Some r) (item_at service_key (key.Service id) rs)) None) (sym e)
    by false d true e h =
        h ∙ ap (λ b. cond b (item_at service_key (key.Service id) rs) None) (ap p (id_eq_same id r.id e) ∙ d)
        ∙ sym (ap (λ b. cond b (cond (id_eq id r.id) (Some r) (item_at service_key (key.Service id) rs)) None) (ap p (id_eq_same id r.id e) ∙ d))
    by false d false e h = h ∙ ap (λ b. cond (p id) (cond b (Some r) (item_at service_key (key.Service id) rs)) None) (sym e)

-- what a stop leaves has the same asynchronous services
pub durable_service : (g : Generated) (t : TableRows) (n : ℕ) → service_of (durable g t) (Asynchronous n) ≡ service_of t (Asynchronous n)
unfolding durable
durable_service g t n = kept_at (is_durable g) (Asynchronous n) t.services
