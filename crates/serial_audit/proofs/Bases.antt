-- The tables from which a replay starts: durable ones that suit, with the row of a service that no stop leaves.
use Rattle.std.specs.Prelude.{◌≡◌, refl, Bool, true, false, cond, IsTrue, Option, Some, None, option_map}
use Rattle.std.specs.List.{list_all}
use Rattle.std.proofs.Common.{sym, ap, subst, ◌∙◌, true≢false}
use Rattle.kd_base.specs.ToolsLaws.{both_true}
use Rattle.kdcs_types.specs.declared.act.Row.TheVariants.{Service as ServiceRow}
use Rattle.kdcs_types.specs.declared.key.Key.{Key}
use Rattle.kdcs_types.specs.declared.key.Key.TheVariants as key
use Rattle.kdcs_types.specs.declared.key.ServiceId.{ServiceId}
use Rattle.kdcs_types.specs.declared.key.ServiceId.TheVariants.{Dialogue, Asynchronous}
use Rattle.kdcs_types.specs.declared.service.Service.{Service}
use Rattle.kdcs_types.specs.KeyedLaws.{all_with, all_without, found_passes, item_at_with, item_at_without}
use Rattle.kdcs_types.specs.KeyLaws.{id_eq_itself, id_eq_same, key_eq_same}
use Rattle.kdcs_types.specs.Keys.{id_eq, key_eq}
use Rattle.kdcs_types.specs.RowLaws.{numbers_with_change, own_id, row_at_with_change, row_at_without, same_tables, sorted_with_change, sorted_without}
use Rattle.kdcs_types.specs.TableLaws.{row_after}
use Rattle.kdcs_types.specs.Tables.{TableRows, IsSortedTables, change_fits, row_at, row_fits, service_key, service_of, service_row}
use Rattle.application_types.specs.Generation.{Generated}
use Rattle.abstract_monitor.specs.Endings.{durable, is_durable, service_change, with_service}
use Rattle.abstract_monitor.specs.Statements.{Kept}
use Rattle.laws_of_states.specs.DurableKeys.{key_is_durable}
use Rattle.laws_of_states.specs.DurableLaws.{durable_changed}
use Rattle.laws_of_states.specs.Replay.{with_began}
use Rattle.laws_of_states.specs.Suits.{Suits, service_suits}
use Rattle.laws_of_runs.specs.OwnRowsLaws.{own_key}
use Rattle.laws_of_states.specs.EndsLaws.{durable_same, starts_are_sound}
use Rattle.laws_of_states.specs.PointLaws.{AreSound}
use Rattle.serial_audit.specs.Audit.{BeganIn, HasDueJob}

module _ (g : Generated) (t : TableRows) (sorted : IsSortedTables t) (suits : Suits g t) where
  pub sound : AreSound g t
  sound = starts_are_sound.suiting g t sorted suits

  -- a service that no stop leaves has no row
  no_row : (id : ServiceId) → is_durable g id ≡ false → service_of t id ≡ None
  no_row id volatile = by (service_of t id) refl
    where
      by : (o : Option Service) → service_of t id ≡ o → service_of t id ≡ None
      by None e = e
      by (Some row) e =
          absurd (true≢false
          (sym (found_passes service_key (λ (s : Service). is_durable g s.id) (key.Service id) t.services row suits.durable e)
          ∙ ap (is_durable g) (own_id t id row e) ∙ volatile))

  -- the row that is put in may be there, and is one change
  pub began_fits : (id : ServiceId) (began : Option Service) → BeganIn g t id false began → IsTrue (change_fits (service_change id began))
  began_fits id None is = refl
  began_fits id (Some row) is = (both_true (row_fits (ServiceRow id row)) (service_suits g row) is).0

  -- it leaves no trace in durable tables
  set_durable : (id : ServiceId) (began : Option Service) → is_durable g id ≡ false → BeganIn g t id false began → durable g (with_service t id began) ≡ t
  set_durable id began volatile is =
      durable_changed g t (service_change id began) sorted (began_fits id began is)
      ∙ ap (λ (b : Bool). cond b (with_service (durable g t) id began) (durable g t)) (ap (key_is_durable g) (own_key id began) ∙ volatile)
      ∙ durable_same g t suits

  set_rows : (id : ServiceId) (began : Option Service) → BeganIn g t id false began → IsTrue (list_all (service_suits g) (with_service t id began).services)
  set_rows id None is = all_without service_key (service_suits g) (key.Service id) t.services suits.services
  set_rows id (Some row) is = all_with service_key (service_suits g) row t.services (both_true (row_fits (ServiceRow id row)) (service_suits g row) is).1 suits.services

  set_sound : (id : ServiceId) (began : Option Service) → is_durable g id ≡ false → BeganIn g t id false began → AreSound g (with_service t id began)
  set_sound id began volatile is = record {
    order = sorted_with_change t (service_change id began) sorted (began_fits id began is);
    suits = subst (Suits g) (sym (set_durable id began volatile is)) suits;
    rows = set_rows id began is;
  }

  set_service : (id : ServiceId) (began : Option Service) → BeganIn g t id false began → service_of (with_service t id began) id ≡ began
  set_service id None is = item_at_without service_key (key.Service id) (key.Service id) t.services ∙ ap (λ (b : Bool). cond b None (service_of t id)) (id_eq_itself id)
  set_service id (Some row) is =
      item_at_with service_key (key.Service id) row t.services
      ∙ ap (λ (b : Bool). cond b (Some row) (service_of t id)) (ap (id_eq id) (id_eq_same row.id id (both_true (id_eq row.id id) _ (both_true (row_fits (ServiceRow id row)) (service_suits g row) is).0).0) ∙ id_eq_itself id)

  -- and once it is removed, the tables are as they were
  pub restored : (id : ServiceId) (began : Option Service) → is_durable g id ≡ false → BeganIn g t id false began → with_service (with_service t id began) id None ≡ t
  restored id began volatile is =
      same_tables (with_service u id None) t (sorted_without u (key.Service id) (set_sound id began volatile is).order) sorted numbers.0 numbers.1 rows
    where
      u : TableRows
      u = with_service t id began

      numbers : ((with_service (with_service t id began) id None).clock ≡ t.clock) × ((with_service (with_service t id began) id None).next_job ≡ t.next_job)
      numbers = numbers_with_change t (service_change id began)

      none_there : row_at t (key.Service id) ≡ None
      none_there = ap (option_map service_row) (no_row id volatile)

      rows : (q : Key) → row_at (with_service u id None) q ≡ row_at t q
      rows q = row_at_without u (key.Service id) q ∙ by (key_eq q (key.Service id)) refl
        where
          by : (b : Bool) → key_eq q (key.Service id) ≡ b → cond b None (row_at u q) ≡ row_at t q
          by true e = sym (ap (row_at t) (key_eq_same q (key.Service id) e) ∙ none_there)
          by false e =
              row_at_with_change t (service_change id began) q (began_fits id began is)
              ∙ ap (λ (b : Bool). cond b (row_after (Some (service_change id began)) (row_at t q)) (row_at t q)) (ap (key_eq q) (own_key id began) ∙ e)

  -- ---- both kinds of services

  module _ (r : Kept) (began : BeganIn g t r.service (is_durable g r.service) r.began) where
    abbrev start : TableRows
    start = with_began g t r

    -- what holds of the tables, with the row and without it
    over : (P : TableRows → Type 0) → (is_durable g r.service ≡ true → service_of t r.service ≡ r.began → P t)
        → (is_durable g r.service ≡ false → BeganIn g t r.service false r.began → P (with_service t r.service r.began)) → P start
    over P lasts not = by (is_durable g r.service) refl began
      where
        by : (b : Bool) → is_durable g r.service ≡ b → BeganIn g t r.service b r.began → P (cond b t (with_service t r.service r.began))
        by true e is = lasts e is
        by false e is = not e is

    pub start_sound : AreSound g start
    start_sound = over (AreSound g) (λ e is. sound) (λ e is. set_sound r.service r.began e is)

    pub start_durable : durable g start ≡ t
    start_durable = over (λ (u : TableRows). durable g u ≡ t) (λ e is. durable_same g t suits) (λ e is. set_durable r.service r.began e is)

    pub start_service : service_of start r.service ≡ r.began
    start_service = over (λ (u : TableRows). service_of u r.service ≡ r.began) (λ e is. is) (λ e is. set_service r.service r.began is)

    pub start_job : HasDueJob t r r.service r.began → HasDueJob start r r.service r.began
    start_job due = over (λ (u : TableRows). HasDueJob u r r.service r.began) (λ e is. due) (λ e is. with_row r.service r.began e due)
      where
        with_row : (id : ServiceId) (o : Option Service) → is_durable g id ≡ false → HasDueJob t r id o → HasDueJob (with_service t r.service r.began) r id o
        with_row (Dialogue user) o volatile d = tt
        with_row (Asynchronous number) o volatile d = absurd (true≢false volatile)
