-- Sessions that end, and what a service does.
use Rattle.std.specs.Prelude.{◌≡◌, refl, Bool, true, false, cond, not, ◌||◌, List, [], ◌∷◌, map, filter, Option, Some, None, option_map, is_some}
use Rattle.std.proofs.Common.{arith, sym, ap, subst, ◌∙◌}
use Rattle.std.specs.FinMap.{find}
use Rattle.std.specs.List.{list_any}
use Rattle.kdcs_types.specs.declared.key.ServiceId.{ServiceId}
use Rattle.kdcs_types.specs.declared.key.ServiceId.TheVariants.{Dialogue}
use Rattle.kdcs_types.specs.Keys.{id_cmp, id_eq}
use Rattle.kdcs_types.specs.Tables.{TableRows, service_of}
use Rattle.application_types.specs.Generation.{Generated}
use Rattle.abstract_monitor.specs.declared.input_use.ServiceState.{ServiceState}
use Rattle.abstract_monitor.specs.Bytes.{Bytes, bytes_cmp}
use Rattle.abstract_monitor.specs.Commands.{lterm_at, no_place, rolled_tables, signed_off, use_now, user_at, user_by, withdrawn, without_session}
use Rattle.abstract_monitor.specs.Endings.{restarts, with_service}
use Rattle.abstract_monitor.specs.Picks.{Classed}
use Rattle.abstract_monitor.specs.Access.{denial_of}
use Rattle.abstract_monitor.specs.Sessions.{awaits_by, in_place, is_awaiting, is_running, service_state, use_by, use_under, use_of}
use Rattle.abstract_monitor.specs.State.{Application, Session, State}
use Rattle.abstract_monitor.specs.Turns.{without_open}
use Rattle.laws_of_states.specs.EndsLaws.{sign_offs_stay_sound}
use Rattle.laws_of_states.specs.PointLaws.{AreSound}
use Rattle.table_fit.specs.Pages.{FitPool}
use Rattle.service_ends.specs.Schedule as schedule
use Rattle.service_ends.specs.Schedule.{holds, service_in}
use Rattle.service_ends.specs.declared.core_state.parts.MonitorParts.{MonitorParts}
use Rattle.service_ends.specs.KeptLaws.{found_open}
use Rattle.service_ends.specs.Whole.{app_of}
use Rattle.service_ends.specs.Standing.{id_of, state_of}

-- ---- the service is ready or in a task

ready_is : (id : ServiceId) (es : List Classed) → list_any (λ (e : Classed). id_eq id e.0) es ≡ list_any (id_eq id) (map id_of es)
ready_is id [] = refl
ready_is id (e ∷ es) = ap (λ b. id_eq id e.0 || b) (ready_is id es)

place_is : (id : ServiceId) (place : Option Classed) → holds id place ≡ in_place id (service_in place)
place_is id None = refl
place_is id (Some e) = refl

places_are : (id : ServiceId) (places : List (Option Classed)) → list_any (holds id) places ≡ list_any (in_place id) (map service_in places)
places_are id [] = refl
places_are id (place ∷ places) = λ i. place_is id place i || places_are id places i

pub running_is : (p : MonitorParts) (id : ServiceId) → schedule.is_running id p.scheduler ≡ is_running (state_of p) id
running_is p id = λ i. ready_is id p.scheduler.ready i || places_are id p.scheduler.places i

-- ---- it is neither, once it is withdrawn

abbrev left_out : ServiceId → State → State
left_out id s = record s { ready = filter (λ (i : ServiceId). not (id_eq id i)) s.ready; tasks = map (no_place id) s.tasks }

not_ready : (id : ServiceId) (is : List ServiceId) → list_any (id_eq id) (filter (λ (i : ServiceId). not (id_eq id i)) is) ≡ false
not_ready id [] = refl
not_ready id (i ∷ is) = by (id_eq id i) refl (not_ready id is)
  where
    by : (b : Bool) → id_eq id i ≡ b → list_any (id_eq id) (filter (λ (j : ServiceId). not (id_eq id j)) is) ≡ false
        → list_any (id_eq id) (cond (not b) (i ∷ filter (λ (j : ServiceId). not (id_eq id j)) is) (filter (λ (j : ServiceId). not (id_eq id j)) is)) ≡ false
    by true e rest = rest
    by false e rest = (λ k. e k || rest k)

no_task : (id : ServiceId) (place : Option ServiceId) → in_place id (no_place id place) ≡ false
no_task id None = refl
no_task id (Some i) = by (id_eq id i) refl
  where
    by : (b : Bool) → id_eq id i ≡ b → in_place id (cond b None (Some i)) ≡ false
    by true e = refl
    by false e = e

not_held : (id : ServiceId) (places : List (Option ServiceId)) → list_any (in_place id) (map (no_place id) places) ≡ false
not_held id [] = refl
not_held id (place ∷ places) = λ k. no_task id place k || not_held id places k

pub rests : (s t : State) (id : ServiceId) → t ≡ left_out id s → is_running t id ≡ false
rests s t id e = ap (λ (u : State). is_running u id) e ∙ (λ k. not_ready id s.ready k || not_held id s.tasks k)

-- ---- a session ends

module _ (app : Application) (pterm user : Bytes) (s t u v : State) (withdraws : t ≡ left_out (Dialogue user) s) (closes : u ≡ without_open t (Dialogue user)) (leaves : v ≡ without_session u pterm) where
  without : v ≡ without_session (withdrawn s (Dialogue user)) pterm
  without = leaves ∙ ap (λ (w : State). without_session w pterm) (closes ∙ ap (λ (w : State). without_open w (Dialogue user)) withdraws)

  -- the rows are still there, and fit into the page pool, and so they do without one
  module _ (sound : AreSound app.generation s.tables) (g : Generated) (same : g ≡ app.generation) where
    same_rows : v.tables ≡ s.tables
    same_rows = ap (λ (w : State). w.tables) without

    pub still_fits : FitPool g v.tables
    still_fits = subst (λ (k : Generated). FitPool k v.tables) (sym same) (subst (FitPool app.generation) (sym same_rows) sound.suits.charge)

    pub over_fits : FitPool g (with_service v.tables (Dialogue user) None)
    over_fits =
        let less = (sign_offs_stay_sound app.generation s.tables user sound).charge in
        let fit : FitPool app.generation (with_service s.tables (Dialogue user) None) = omega (arith, less, sound.suits.charge) in
        subst (λ (k : Generated). FitPool k (with_service v.tables (Dialogue user) None)) (sym same)
        (subst (λ (t : TableRows). FitPool app.generation (with_service t (Dialogue user) None)) (sym same_rows) fit)

  abbrev rolled : Bool → State
  rolled b = record (without_session (withdrawn s (Dialogue user)) pterm) { tables = rolled_tables app s.tables user b }

  -- the service goes on from its row
  pub signs_off : (keeps : Bool) → keeps ≡ restarts app.generation user → keeps ≡ true → v ≡ signed_off app s pterm user
  unfolding signed_off
  signs_off keeps is so = without ∙ ap rolled (sym so ∙ is)

  -- the service is over
  pub signs_off_over : (keeps : Bool) → keeps ≡ restarts app.generation user → keeps ≡ false → (w : State) → w ≡ record v { tables = with_service v.tables (Dialogue user) None } → w ≡ signed_off app s pterm user
  unfolding signed_off
  signs_off_over keeps is so w e = e ∙ ap (λ (x : State). record x { tables = with_service x.tables (Dialogue user) None }) without ∙ ap rolled (sym so ∙ is)

-- ---- what an input means

-- an open transaction awaits one, or the row does
pub awaits_is : (p : MonitorParts) (id : ServiceId) (has b : Bool) → has ≡ is_some (find id_cmp id p.active) → has ≡ b → (b || awaits_by (service_of p.tables id)) ≡ is_awaiting (state_of p) id
awaits_is p id has b e so = ap (λ c. c || awaits_by (service_of p.tables id)) (sym so ∙ e ∙ found_open p.active id)

abbrev pub user_in : Session → Bytes
user_in v = v.user

pub user_is : (user : Bytes) (o : Option Session) → Some user ≡ option_map user_in o → user ≡ user_by o
user_is user None e = absurd cc
user_is user (Some v) e = cc

pub meant_signed : (p : MonitorParts) (pterm text user : Bytes) (state : ServiceState) → Some user ≡ option_map user_in (find bytes_cmp pterm (state_of p).signed) → state ≡ service_state (state_of p) user
    → use_of p.generation (state_of p).signed state pterm text ≡ use_now (app_of p) (state_of p) pterm text
unfolding use_now
meant_signed p pterm text user state e is =
    ap (λ (c : ServiceState). use_of p.generation (state_of p).signed c pterm text) (is ∙ ap (service_state (state_of p)) (user_is user (find bytes_cmp pterm (state_of p).signed) e))

-- without a session no service is asked
pub meant_unsigned : (p : MonitorParts) (pterm text : Bytes) (state : ServiceState) → None ≡ option_map user_in (find bytes_cmp pterm (state_of p).signed)
    → use_of p.generation (state_of p).signed state pterm text ≡ use_now (app_of p) (state_of p) pterm text
unfolding use_now use_of use_under
meant_unsigned p pterm text state e = by (find bytes_cmp pterm (state_of p).signed) e
  where
    by : (o : Option Session) → None ≡ option_map user_in o
        → use_by p.generation (denial_of p.generation) (state_of p).signed state (lterm_at (app_of p) pterm) text o
        ≡ use_by p.generation (denial_of p.generation) (state_of p).signed (service_state (state_of p) (user_at (state_of p) pterm)) (lterm_at (app_of p) pterm) text o
    by None h = refl
    by (Some v) h = absurd cc
