-- A start comes to a consistent state.
use Rattle.std.specs.Prelude.{◌≡◌, refl, ℕ, zero, suc, ◌≤◌, Bool, true, false, cond, ◌&&◌, IsTrue, List, [], ◌∷◌, map, replicate, Option, Some, None, is_some}
use Rattle.std.proofs.Common.{sym, ap, ◌∙◌, true≢false, arith}
use Rattle.std.proofs.lemmas.List.{length-replicate}
use Rattle.std.specs.FinMap.{find, is_sorted}
use Rattle.std.specs.FinMap.Entries.{below_all, is_some-find}
use Rattle.std.specs.List.{list_any}
use Rattle.std.specs.Ordering.{is_lt}
use Rattle.kd_base.specs.ToolsLaws.{some_is, both_true}
use Rattle.kdcs_types.specs.declared.key.Area.{Area}
use Rattle.kdcs_types.specs.declared.key.Key.TheVariants.{Service as ServiceKey}
use Rattle.kdcs_types.specs.declared.key.ServiceId.{ServiceId}
use Rattle.kdcs_types.specs.declared.key.ServiceId.TheVariants.{Dialogue, Asynchronous}
use Rattle.kdcs_types.specs.declared.service.Service.{Service}
use Rattle.kdcs_types.specs.Keyed.{keyed, ascends, item_at}
use Rattle.kdcs_types.specs.Keys.{id_cmp, id_eq, key_cmp}
use Rattle.kdcs_types.specs.KeyLaws.{id_eq_same}
use Rattle.kdcs_types.specs.Tables.{TableRows, service_key, service_of}
use Rattle.abstract_monitor.specs.Commands.{asynchronous_rows, opened_row, started}
use Rattle.abstract_monitor.specs.Endings.{is_asynchronous, opened}
use Rattle.abstract_monitor.specs.Locks.{Active, holds, touched_by}
use Rattle.abstract_monitor.specs.Sessions.{in_place}
use Rattle.abstract_monitor.specs.State.{Application, OpenTransaction}
use Rattle.abstract_monitor.specs.Turns.{pterm_of_user}
use Rattle.laws_of_states.specs.Facts.{IsOpen, IsConsistent}
use Rattle.laws_of_states.specs.CountsLaws.{times, counted_any, any_counted}
use Rattle.laws_of_states.specs.EntriesLaws.{none_below}
use Rattle.laws_of_states.specs.PlacesLaws.{is_signed_for, consistent_from}
use Rattle.laws_of_states.specs.RowsLaws.{kept_ascends}
use Rattle.laws_of_states.specs.AfterLaws.{rooted_row}
use Rattle.laws_of_states.specs.DurableLaws.{kept_at}

abbrev ids_of : List Service → List ServiceId
ids_of rows = map (λ (s : Service). s.id) rows

none_held : (id : ServiceId) (n : ℕ) → times (in_place id) (replicate n None) ≡ 0
none_held id zero = refl
none_held id (suc n) = none_held id n

-- rows in order are services in order
module _ (app : Application) where
  abbrev opened_rows : List Service → Active
  opened_rows rows = map (opened_row app) rows

  below_rows : (id : ServiceId) (rows : List Service) → below_all key_cmp (ServiceKey id) (keyed service_key rows) ≡ below_all id_cmp id (opened_rows rows)
  below_rows id [] = refl
  below_rows id (r ∷ rs) = ap (λ b. is_lt (id_cmp id r.id) && b) (below_rows id rs)

  sorted_rows : (rows : List Service) → ascends service_key rows ≡ is_sorted id_cmp (opened_rows rows)
  sorted_rows [] = refl
  sorted_rows (r ∷ rs) = ap (λ b. b && is_sorted key_cmp (keyed service_key rs)) (below_rows r.id rs) ∙ ap (λ b. below_all id_cmp r.id (opened_rows rs) && b) (sorted_rows rs)

  ids_opened : (rows : List Service) → map (λ (e : ServiceId × OpenTransaction). e.0) (opened_rows rows) ≡ ids_of rows
  ids_opened [] = refl
  ids_opened (r ∷ rs) = ap (λ (l : List ServiceId). r.id ∷ l) (ids_opened rs)

  -- a service is ready exactly if it is open
  open_ready : (id : ServiceId) (rows : List Service) → is_some (find id_cmp id (opened_rows rows)) ≡ list_any (id_eq id) (ids_of rows)
  open_ready id rows = is_some-find id_cmp id (opened_rows rows) ∙ ap (list_any (id_eq id)) (ids_opened rows)

  ready_once : (id : ServiceId) (rows : List Service) → is_sorted id_cmp (opened_rows rows) ≡ true → times (id_eq id) (ids_of rows) ≤ 1
  ready_once id [] h = omega arith
  ready_once id (r ∷ rs) h = by (id_eq id r.id) refl (ready_once id rs parts.1)
    where
      parts : (below_all id_cmp r.id (opened_rows rs) ≡ true) × (is_sorted id_cmp (opened_rows rs) ≡ true)
      parts = both_true (below_all id_cmp r.id (opened_rows rs)) (is_sorted id_cmp (opened_rows rs)) h

      by : (b : Bool) → id_eq id r.id ≡ b → times (id_eq id) (ids_of rs) ≤ 1 → cond b (suc (times (id_eq id) (ids_of rs))) (times (id_eq id) (ids_of rs)) ≤ 1
      by true e k =
          let none : find id_cmp id (opened_rows rs) ≡ None = ap (λ i. find id_cmp i (opened_rows rs)) (id_eq_same id r.id e) ∙ none_below id_cmp r.id (opened_rows rs) parts.0 in
          rest (times (id_eq id) (ids_of rs)) (λ m. true≢false (sym (open_ready id rs ∙ counted_any (id_eq id) (ids_of rs) m) ∙ ap is_some none))
        where
          rest : (n : ℕ) → (1 ≤ n → ⊥) → suc n ≤ 1
          rest zero m = omega arith
          rest (suc n) m = absurd (m (omega arith))
      by false e k = k

  -- what is open began with its row
  began_row : (id : ServiceId) (rows : List Service) (x : OpenTransaction) → find id_cmp id (opened_rows rows) ≡ Some x → (row : Service) × (item_at service_key (ServiceKey id) rows ≡ Some row) × (x.began ≡ Some row)
  unfolding opened
  began_row id [] x is = absurd (true≢false (sym (ap is_some is)))
  began_row id (r ∷ rs) x is = by (id_eq id r.id) is (began_row id rs x)
    where
      by : (b : Bool) → cond b (Some (opened_row app r).1) (find id_cmp id (opened_rows rs)) ≡ Some x
          → (find id_cmp id (opened_rows rs) ≡ Some x → (row : Service) × (item_at service_key (ServiceKey id) rs ≡ Some row) × (x.began ≡ Some row))
          → (row : Service) × (cond b (Some r) (item_at service_key (ServiceKey id) rs) ≡ Some row) × (x.began ≡ Some row)
      by true t later = (r, refl, ap (λ (y : OpenTransaction). y.began) (sym (some_is (opened_row app r).1 x t)))
      by false t later = later t

  -- nothing is touched
  none_touched : (rows : List Service) (id : ServiceId) (area : Area) → holds (opened_rows rows) id area ≡ false
  unfolding opened
  none_touched [] id area = refl
  none_touched (r ∷ rs) id area = by (id_eq id r.id) (none_touched rs id area)
    where
      by : (b : Bool) → holds (opened_rows rs) id area ≡ false → touched_by (cond b (Some (opened_row app r).1) (find id_cmp id (opened_rows rs))) area ≡ false
      by true e = refl
      by false e = e

  pub started_consistent : (t : TableRows) → IsTrue (ascends service_key t.services) → IsConsistent app (started app t)
  unfolding started pterm_of_user
  started_consistent t order = consistent_from app (started app t) (record {
    tasks = length-replicate app.generation.limits.tasks None;
    sessions = refl;
    signed_once = λ user. omega arith;
    active = in_order;
    exclusive = λ i j area h k. absurd (true≢false (sym h ∙ none_touched (asynchronous_rows t) i area));
    waits = refl;
  }) (λ id. record {
    once = let a : times (in_place id) (replicate app.generation.limits.tasks None) ≡ 0 = none_held id app.generation.limits.tasks in let b : times (id_eq id) (ids_of (asynchronous_rows t)) ≤ 1 = ready_once id (asynchronous_rows t) in_order in omega arith;
    opened = λ h. open_ready id (asynchronous_rows t) ∙ counted_any (id_eq id) (ids_of (asynchronous_rows t)) (let a : times (in_place id) (replicate app.generation.limits.tasks None) ≡ 0 = none_held id app.generation.limits.tasks in omega arith);
    signed = signed id;
    goes_on = goes_on id;
    kept = λ x is h. absurd (let a : 1 ≤ times (id_eq id) (ids_of (asynchronous_rows t)) = any_counted (id_eq id) (ids_of (asynchronous_rows t)) (sym (open_ready id (asynchronous_rows t)) ∙ ap is_some is) in omega arith);
    rooted = λ x is. let r = began_row id (asynchronous_rows t) x is in rooted_row t id r.0 x (there id r.0 r.1) r.2;
    waiting = λ w is. absurd (true≢false (sym (ap is_some is)));
  })
    where
      in_order : is_sorted id_cmp (opened_rows (asynchronous_rows t)) ≡ true
      in_order = sym (sorted_rows (asynchronous_rows t)) ∙ kept_ascends is_asynchronous t.services order

      there : (id : ServiceId) (row : Service) → item_at service_key (ServiceKey id) (asynchronous_rows t) ≡ Some row → service_of t id ≡ Some row
      there (Asynchronous n) row e = sym (kept_at is_asynchronous (Asynchronous n) t.services) ∙ e
      there (Dialogue user) row e = absurd (true≢false (sym (ap is_some (sym (kept_at is_asynchronous (Dialogue user) t.services) ∙ e))))

      signed : (id : ServiceId) → IsOpen (started app t) id → is_signed_for (started app t) id ≡ true
      signed (Asynchronous n) h = refl
      signed (Dialogue user) h = by (find id_cmp (Dialogue user) (opened_rows (asynchronous_rows t))) refl h
        where
          by : (o : Option OpenTransaction) → find id_cmp (Dialogue user) (opened_rows (asynchronous_rows t)) ≡ o → is_some o ≡ true → is_signed_for (started app t) (Dialogue user) ≡ true
          by None e k = absurd (true≢false (sym k))
          by (Some x) e k =
              let r = began_row (Dialogue user) (asynchronous_rows t) x e in
              absurd (true≢false (sym (ap is_some (sym (kept_at is_asynchronous (Dialogue user) t.services) ∙ r.1))))

      goes_on : (id : ServiceId) (row : Service) → is_asynchronous id ≡ false → is_signed_for (started app t) id ≡ true → service_of t id ≡ Some row → row.awaits ≡ false → IsOpen (started app t) id
      goes_on (Asynchronous n) row d o r a = absurd (true≢false d)
      goes_on (Dialogue user) row d o r a = absurd (true≢false (sym o))
