-- Starts and sign-ons go on at the last point.
use Rattle.std.specs.Prelude.{◌≡◌, refl, IsTrue, IsSome, ℕ, Bool, true, false, cond, ◌||◌, List, [], ◌∷◌, ◌++◌, map, Option, Some, None, is_some}
use Rattle.std.specs.Option.{option_map}
use Rattle.std.specs.List.{list_any}
use Rattle.std.proofs.Common.{sym, ap, subst, ◌∙◌, true≢false}
use Rattle.std.specs.FinMap.{find}
use Rattle.kdcs_types.specs.declared.key.Key.TheVariants.{Service as ServiceKey}
use Rattle.kdcs_types.specs.declared.key.ServiceId.{ServiceId}
use Rattle.kdcs_types.specs.declared.key.ServiceId.TheVariants.{Dialogue, Asynchronous}
use Rattle.kdcs_types.specs.declared.service.Service.{Service}
use Rattle.kdcs_types.specs.Keyed.{item_at}
use Rattle.kdcs_types.specs.KeyedLaws.{found_key}
use Rattle.kdcs_types.specs.KeyLaws.{id_eq_itself}
use Rattle.kdcs_types.specs.Keys.{id_cmp, id_eq}
use Rattle.kdcs_types.specs.Tables.{TableRows, service_key, service_of}
use Rattle.abstract_monitor.specs.declared.input_use.ServiceState.TheVariants.{Awaits}
use Rattle.abstract_monitor.specs.Bytes.{Bytes}
use Rattle.abstract_monitor.specs.Endings.{is_asynchronous, lterm_of_row, opened_by_row, opened_by_input}
use Rattle.abstract_monitor.specs.Sessions.{is_running, is_awaiting, awaits_by, service_state, service_state_by}
use Rattle.abstract_monitor.specs.State.{Application, OpenTransaction, State}
use Rattle.abstract_monitor.specs.Turns.{queued}
use Rattle.abstract_monitor.specs.Commands.{asynchronous_rows, opened_row, started, lterm_at, with_session, resumed_by, signed_on_by, next_by, next_input}
use Rattle.laws_of_states.specs.Facts.{IsSignedOn}
use Rattle.laws_of_states.specs.Keeping.{HasFacts}
use Rattle.laws_of_states.specs.Suits.{is_empty, awaits_rightly}
use Rattle.laws_of_states.specs.EntriesLaws.{found_put}
use Rattle.laws_of_states.specs.RowPartsLaws.{row_parts}
use Rattle.laws_of_states.specs.StatesLaws.{parts_of, row_found}
use Rattle.kd_base.specs.ToolsLaws.{both_true}
use Rattle.laws_of_runs.specs.ResumeLaws.{IsReadyAt, StartsResume, AwaitsAt, SignOnResumes, SignOnsResume}
use Rattle.laws_of_states.specs.TablesStayLaws.{started_tables}
use Rattle.laws_of_states.specs.DurableLaws.{kept_at}

-- ---- starts

module _ (app : Application) where
  abbrev opens_of : Service → OpenTransaction
  opens_of row = (opened_row app row).1

  open_rows : (id : ServiceId) (rows : List Service) → find id_cmp id (map (opened_row app) rows) ≡ option_map opens_of (item_at service_key (ServiceKey id) rows)
  open_rows id [] = refl
  open_rows id (r ∷ rs) = by (id_eq id r.id) (open_rows id rs)
    where
      by : (b : Bool) → find id_cmp id (map (opened_row app) rs) ≡ option_map opens_of (item_at service_key (ServiceKey id) rs)
          → cond b (Some (opens_of r)) (find id_cmp id (map (opened_row app) rs)) ≡ option_map opens_of (cond b (Some r) (item_at service_key (ServiceKey id) rs))
      by true e = refl
      by false e = e

  ready_rows : (id : ServiceId) (rows : List Service) → list_any (id_eq id) (map (λ (r : Service). r.id) rows) ≡ is_some (item_at service_key (ServiceKey id) rows)
  ready_rows id [] = refl
  ready_rows id (r ∷ rs) = by (id_eq id r.id) (ready_rows id rs)
    where
      by : (b : Bool) → list_any (id_eq id) (map (λ (q : Service). q.id) rs) ≡ is_some (item_at service_key (ServiceKey id) rs)
          → (b || list_any (id_eq id) (map (λ (q : Service). q.id) rs)) ≡ is_some (cond b (Some r) (item_at service_key (ServiceKey id) rs))
      by true e = refl
      by false e = e

  module _ (t : TableRows) where
    abbrev row_in : ServiceId → Option Service
    row_in id = item_at service_key (ServiceKey id) (asynchronous_rows t)

    abbrev opened_as : OpenTransaction → Option OpenTransaction
    opened_as x = Some x

    same_id : (i j : ServiceId) → ServiceKey i ≡ ServiceKey j → i ≡ j
    same_id i j e = cc

    start_asynchronous : (number : ℕ) (row : Service) → service_of t (Asynchronous number) ≡ Some row → IsReadyAt app (started app t) (Asynchronous number) row (lterm_of_row row.lterm)
    unfolding started
    start_asynchronous number row e =
        let id = Asynchronous number in
        let found : row_in id ≡ Some row = kept_at is_asynchronous id t.services ∙ e in
        let own : row.id ≡ id = same_id row.id id (found_key service_key (ServiceKey id) t.services row e) in
        record {
          ready = ready_rows id (asynchronous_rows t) ∙ ap is_some found;
          opens = open_rows id (asynchronous_rows t) ∙ ap (option_map opens_of) found ∙ ap (λ (i : ServiceId). opened_as (opened_by_row app.generation i row (lterm_of_row row.lterm))) own;
        }

    is_row : (id : ServiceId) → IsTrue (is_some (row_in id)) → IsTrue (is_asynchronous id) × ((row : Service) × (service_of t id ≡ Some row))
    is_row id h = by (is_asynchronous id) refl (service_of t id) refl (ap is_some (sym (kept_at is_asynchronous id t.services)) ∙ h)
      where
        by : (b : Bool) → is_asynchronous id ≡ b → (o : Option Service) → service_of t id ≡ o → is_some (cond b o None) ≡ true → IsTrue (is_asynchronous id) × ((row : Service) × (service_of t id ≡ Some row))
        by true a (Some row) e h = (a, (row, e))
        by true a None e h = absurd (true≢false (sym h))
        by false a o e h = absurd (true≢false (sym h))

    start_others : (id : ServiceId) → IsTrue (list_any (id_eq id) (started app t).ready) → IsTrue (is_asynchronous id) × ((row : Service) × (service_of t id ≡ Some row))
    unfolding started
    start_others id h = is_row id (sym (ready_rows id (asynchronous_rows t)) ∙ h)

pub starts_resume : StartsResume
starts_resume app t = record { tables = started_tables app t; asynchronous = start_asynchronous app t; others = start_others app t }

-- ---- signing on

at_back : (id : ServiceId) (ids : List ServiceId) → list_any (id_eq id) (ids ++ id ∷ []) ≡ true
at_back id [] = ap (λ b. b || false) (id_eq_itself id)
at_back id (i ∷ is) = by (id_eq id i) (at_back id is)
  where
    by : (b : Bool) → list_any (id_eq id) (is ++ id ∷ []) ≡ true → (b || list_any (id_eq id) (is ++ id ∷ [])) ≡ true
    by true h = refl
    by false h = h

queued_ready : (app : Application) (s : State) (id : ServiceId) (row : Service) (lterm : Bytes) → IsReadyAt app (queued s id (opened_by_row app.generation id row lterm)) id row lterm
queued_ready app s id row lterm = record {
  ready = at_back id s.ready;
  opens = found_put id (opened_by_row app.generation id row lterm) s.active;
}

none_of : {A : Type 0} (o : Option A) → (IsSome o → ⊥) → o ≡ None
none_of None h = refl
none_of (Some x) h = absurd (h refl)

not_true : (b : Bool) → (b ≡ true → ⊥) → b ≡ false
not_true true h = absurd (h refl)
not_true false h = refl

module _ (app : Application) (s : State) (pterm user : Bytes) (row : Service) (facts : HasFacts app s) (off : IsSignedOn s user → ⊥) (e : service_of s.tables (Dialogue user) ≡ Some row) where
  abbrev id : ServiceId
  id = Dialogue user

  closed : find id_cmp id s.active ≡ None
  closed = none_of (find id_cmp id s.active) (λ h. off (facts.0.open_signed user h))

  rests : is_running s id ≡ false
  rests = not_true (is_running s id) (λ h. off (facts.0.open_signed user (facts.0.placed_open id h)))

  message_there : row.awaits ≡ true → (message : Bytes) × (row.last ≡ Some message)
  message_there a = by row.last refl
      (both_true (is_some row.last) (is_empty row.handed) (subst (λ b. IsTrue (awaits_rightly row b)) a (row_parts app.generation row (row_found app.generation s.tables id row (parts_of app s facts.1).tables e).suits).awaits)).0
    where
      by : (o : Option Bytes) → row.last ≡ o → is_some row.last ≡ true → (message : Bytes) × (row.last ≡ Some message)
      by (Some message) q h = (message, q)
      by None q h = absurd (true≢false (sym h ∙ ap is_some q))

  abbrev signed : State
  signed = with_session s pterm user row.last

  awaits_state : row.awaits ≡ true → service_state signed user ≡ Awaits
  unfolding service_state
  awaits_state a =
      ap (λ (b : Bool). service_state_by b (is_awaiting s id)) rests
      ∙ ap (λ (o : Option OpenTransaction). service_state_by false (is_some o || awaits_by (service_of s.tables id))) closed
      ∙ ap (λ (o : Option Service). service_state_by false (awaits_by o)) e
      ∙ ap (λ (b : Bool). service_state_by false b) a

  awaits_next : (lterm text : Bytes) → next_input app signed user lterm text ≡ queued signed id (opened_by_input app.generation id row lterm text)
  awaits_next lterm text =
      ap (λ (o : Option OpenTransaction). next_by app signed user lterm text o (service_of s.tables id)) closed
      ∙ ap (λ (o : Option Service). next_by app signed user lterm text None o) e

  awaits_at : row.awaits ≡ true → AwaitsAt app signed user row
  awaits_at a = let m = message_there a in record { message = m.0; last = m.1; state = awaits_state a; next = awaits_next }

  abbrev resumed : Bool → State
  resumed b = resumed_by app signed user (lterm_at app pterm) row b

  resumed_tables : (b : Bool) → (resumed b).tables ≡ s.tables
  resumed_tables true = refl
  resumed_tables false = refl

  resumes : SignOnResumes app s pterm user row (signed_on_by app s pterm user (lterm_at app pterm) (Some row))
  resumes = record {
    acts = refl;
    by = refl;
    tables = resumed_tables row.awaits;
    goes_on = λ a. subst (λ b. IsReadyAt app (resumed b) id row (lterm_at app pterm)) (sym a) (queued_ready app signed id row (lterm_at app pterm));
    awaits = λ a. subst (λ b. AwaitsAt app (resumed b) user row) (sym a) (awaits_at a);
  }

pub sign_ons_resume : SignOnsResume
sign_ons_resume app s pterm user row facts off e =
    subst (λ (o : Option Service). SignOnResumes app s pterm user row (signed_on_by app s pterm user (lterm_at app pterm) o)) (sym e) (resumes app s pterm user row facts off e)
