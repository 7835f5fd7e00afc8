-- A service goes on with an input: from its row, or after PEND KP.
use Rattle.std.specs.Prelude.{◌≡◌, refl, ◌+◌, ◌<◌, ◌≤◌, ◌^◌, ◌||◌, Bool, true, false, cond, not, List, [], ◌∷◌, ◌++◌, map, Option, Some, None, IfSome, is_some, if◌then◌else◌}
use Rattle.std.proofs.Common.{ap, sym, subst, ◌∙◌, true≢false, arith}
use Rattle.std.specs.List.{list_any}
use Rattle.std.specs.FinMap.{find, put}
use Rattle.std.specs.FinMap.Entries.{where_key}
use Rattle.kd_base.specs.ToolsLaws.{some_is, none_is}
use Rattle.kdcs_types.specs.declared.key.Area.{Area}
use Rattle.kdcs_types.specs.declared.key.ServiceId.{ServiceId}
use Rattle.kdcs_types.specs.declared.key.ServiceId.TheVariants.{Dialogue}
use Rattle.kdcs_types.specs.declared.run_state.Header.{Header}
use Rattle.kdcs_types.specs.declared.service.Service.{Service}
use Rattle.kdcs_types.specs.Keys.{area_eq, id_cmp, id_eq}
use Rattle.kdcs_types.specs.KeyLaws.{id_eq_same}
use Rattle.kdcs_types.specs.Tables.{service_of}
use Rattle.application_types.specs.Generation.{Generated}
use Rattle.kd_base.specs.MappedLaws.{put_mapped}
use Rattle.monitor_parts.specs.Asked.{is_holder, other_than}
use Rattle.open_transaction.specs.Marks.{queue_of}
use Rattle.kdcs_calls.specs.Calling.{HoldersMatch, HoldsJust}
use Rattle.service_ends.specs.Schedule.{service_in}
use Rattle.open_transaction.specs.Transactions.{Boxed, boxed_transaction}
use Rattle.abstract_monitor.specs.declared.answer.Happened.{Happened}
use Rattle.abstract_monitor.specs.declared.answer.Happened.TheVariants.{Held, Settles}
use Rattle.abstract_monitor.specs.declared.outcome.Outcome.{Outcome}
use Rattle.abstract_monitor.specs.declared.input_use.ServiceState.TheVariants.{Awaits, NoService}
use Rattle.abstract_monitor.specs.Bytes.{Bytes}
use Rattle.abstract_monitor.specs.Calls.{Told, nothing_told, touches}
use Rattle.abstract_monitor.specs.Commands.{follow_up_of, held_tac, next_by, next_input}
use Rattle.abstract_monitor.specs.Endings.{followed_by_input, header_of_row, is_asynchronous, opened}
use Rattle.abstract_monitor.specs.Locks.{Active, Locks, Waiting, holder, holds, touched_by}
use Rattle.abstract_monitor.specs.Sessions.{awaits_by, in_place, is_awaiting, is_running, service_state, service_state_by}
use Rattle.abstract_monitor.specs.State.{Application, OpenTransaction, State}
use Rattle.abstract_monitor.specs.Statements.{Stated, statement}
use Rattle.abstract_monitor.specs.Turns.{queued, with_open}
use Rattle.laws_of_states.specs.Facts.{IsConsistent, StandsAtKeep}
use Rattle.laws_of_states.specs.Transactions.{CanGoOn}
use Rattle.laws_of_states.specs.EntriesLaws.{found_put, other_put}
use Rattle.kdcs_calls.specs.Stating.{waits_after}
use Rattle.service_ends.specs.declared.core_state.parts.MonitorParts.{MonitorParts}
use Rattle.service_ends.specs.ChangesLaws.{SameHolds, each_found, each_put, places_stay, put_others, ready_stay, neither}
use Rattle.service_ends.specs.KeptLaws.{found_open, found_owned, found_transaction, opened_state}
use Rattle.service_ends.specs.Kept.{with_active}
use Rattle.service_ends.specs.QueueLaws.{kept_queue}
use Rattle.service_ends.specs.Standing.{Each, HasClass, IsIndexed, IsOwned, PlaceHasClass, active_of, id_of, state_of}
use Rattle.service_ends.specs.Whole.{IsWhole, app_of}
use Rattle.monitor_core.specs.Commanding.{Rests}
use Rattle.monitor_core.specs.Counted.{DidFewer, IsAhead}
use Rattle.laws_of_states.specs.CommandedLaws.{awaits_not_running}

-- ---- a service that awaits an input

-- and rests without an open transaction
pub awaiting_closed : (p : MonitorParts) (user : Bytes) (has : Bool) → has ≡ is_some (find id_cmp (Dialogue user) p.active) → has ≡ false → service_state (state_of p) user ≡ Awaits
    → Rests (state_of p) (Dialogue user)
awaiting_closed p user has e none awaits = record {
  closed = none_is (find id_cmp (Dialogue user) (state_of p).active) (sym (found_open p.active (Dialogue user)) ∙ sym e ∙ none);
  unplaced = awaits_not_running (state_of p) user awaits;
}

-- and then has a row
pub awaiting_row : (s : State) (user : Bytes) → Rests s (Dialogue user) → None ≡ service_of s.tables (Dialogue user) → service_state s user ≡ Awaits → ⊥
unfolding service_state
awaiting_row s user rests none awaits = apart (sym gone ∙ awaits)
  where
    gone : service_state_by (is_running s (Dialogue user)) (is_awaiting s (Dialogue user)) ≡ NoService
    gone =
        (λ i. service_state_by (rests.unplaced i) (is_some (rests.closed i) || awaits_by (service_of s.tables (Dialogue user))))
        ∙ sym (ap (λ (o : Option Service). service_state_by false (awaits_by o)) none)

    apart : NoService ≡ Awaits → ⊥
    apart e = cc

-- ---- what the input does, by where the service stands

module _ (app : Application) (s : State) (user lterm text : Bytes) where
  pub next_kept : (t : State) → is_some (find id_cmp (Dialogue user) s.active) ≡ true
      → ((x : OpenTransaction) → find id_cmp (Dialogue user) s.active ≡ Some x → t ≡ queued s (Dialogue user) (followed_by_input app.generation x (held_tac app x) text)) → t ≡ next_input app s user lterm text
  next_kept t is_open does = by (find id_cmp (Dialogue user) s.active) refl is_open
    where
      by : (o : Option OpenTransaction) → find id_cmp (Dialogue user) s.active ≡ o → is_some o ≡ true → t ≡ next_input app s user lterm text
      by None e there = absurd (true≢false (sym there))
      by (Some x) e there = does x e ∙ sym (ap (λ (o : Option OpenTransaction). next_by app s user lterm text o (service_of s.tables (Dialogue user))) e)

  next_closed : find id_cmp (Dialogue user) s.active ≡ None → (row : Option Service) → row ≡ service_of s.tables (Dialogue user) → next_by app s user lterm text None row ≡ next_input app s user lterm text
  next_closed closed row e =
      ap (next_by app s user lterm text None) e ∙ sym (ap (λ (o : Option OpenTransaction). next_by app s user lterm text o (service_of s.tables (Dialogue user))) closed)

  pub next_row : Rests s (Dialogue user) → (row : Service) → Some row ≡ service_of s.tables (Dialogue user) → (header : Header) → header ≡ header_of_row (Dialogue user) row lterm → (t : State)
      → t ≡ queued s (Dialogue user) (opened app.generation (Some row) header (text ∷ []) (text ∷ [])) → t ≡ next_input app s user lterm text
  next_row rests row e header is t came =
      came ∙ ap (λ (h : Header). queued s (Dialogue user) (opened app.generation (Some row) h (text ∷ []) (text ∷ []))) is ∙ next_closed rests.closed (Some row) e

-- a service that opened a transaction has it
pub opened_there : (s t : State) (id : ServiceId) (x : OpenTransaction) → t ≡ with_open s id x → is_some (find id_cmp id t.active) ≡ true
opened_there s t id x e = ap (λ (u : State). is_some (find id_cmp id u.active)) e ∙ ap is_some (found_put id x s.active)

-- ---- a service at rest waits for no area

absent : {X : Type 0} (id : ServiceId) (es : List (ServiceId × X)) → find id_cmp id es ≡ None → where_key id_cmp (λ i. not (id_eq id i)) es ≡ es
absent id [] e = refl
absent {X} id (x ∷ es) e = by (id_eq id x.0) e (absent id es)
  where
    by : (b : Bool) → cond b (Some x.1) (find id_cmp id es) ≡ None → (find id_cmp id es ≡ None → where_key id_cmp (λ i. not (id_eq id i)) es ≡ es)
        → cond (not b) (x ∷ where_key id_cmp (λ i. not (id_eq id i)) es) (where_key id_cmp (λ i. not (id_eq id i)) es) ≡ x ∷ es
    by true e rest = absurd (true≢false (ap is_some e))
    by false e rest = ap (λ (l : List (ServiceId × X)). x ∷ l) (rest e)

waits_none : (app : Application) (s : State) (id : ServiceId) → IsConsistent app s → is_running s id ≡ false → find id_cmp id s.waits ≡ None
waits_none app s id c rests = by (find id_cmp id s.waits) refl
  where
    by : (o : Option Waiting) → find id_cmp id s.waits ≡ o → find id_cmp id s.waits ≡ None
    by None e = e
    by (Some w) e = absurd (true≢false (sym (c.waiting id w e).placed ∙ (neither (list_any (id_eq id) s.ready) (list_any (in_place id) s.tasks) rests).1))

-- ---- the locks stay as they are, where the transaction does

same_holder : (l m : Locks) (id : ServiceId) (x : OpenTransaction) → HoldsJust l id x → HoldersMatch l m id x → (area : Area) → holder m area ≡ holder l area
same_holder l m id x just matching area = matching area ∙ by (holder l area) (touches x area) (just area)
  where
    by : (o : Option ServiceId) (b : Bool) → is_holder o id ≡ b → (if b then Some id else other_than id o) ≡ o
    by None true e = absurd (true≢false (sym e))
    by None false e = refl
    by (Some other) true e = ap (λ (i : ServiceId). Some i) (sym (id_eq_same other id e))
    by (Some other) false e = ap (λ (b : Bool). if b then None else Some other) e

-- and in a further unit run it holds what it held
same_holds : (l m : Locks) (active : Active) (id : ServiceId) (x y : OpenTransaction) → find id_cmp id active ≡ Some x → y.touched ≡ x.touched → ((area : Area) → holder m area ≡ holder l area)
    → SameHolds l active → SameHolds m (put id_cmp id y active)
same_holds l m active id x y is touched matching same i area = ap (λ (o : Option ServiceId). is_holder o i) (matching area) ∙ same i area ∙ by (id_eq i id) refl
  where
    by : (b : Bool) → id_eq i id ≡ b → holds active i area ≡ holds (put id_cmp id y active) i area
    by true e =
        let own : i ≡ id = id_eq_same i id e in
        ap (λ (k : ServiceId). holds active k area) own ∙ ap (λ (o : Option OpenTransaction). touched_by o area) is
        ∙ ap (list_any (λ (held : Area). area_eq held area)) (sym touched)
        ∙ sym (ap (λ (k : ServiceId). holds (put id_cmp id y active) k area) own ∙ ap (λ (o : Option OpenTransaction). touched_by o area) (found_put id y active))
    by false e = ap (λ (o : Option OpenTransaction). touched_by o area) (sym (other_put i id y active e))

-- a further unit run keeps the areas, and counts its statement
further : (g : Generated) (x : OpenTransaction) (tac input : Bytes) → ((followed_by_input g x tac input).touched ≡ x.touched) × ((followed_by_input g x tac input).statements ≡ x.statements + 1)
unfolding followed_by_input
further g x tac input = (refl, refl)

-- ---- the transaction that is at a PEND KP

module _ (p : MonitorParts) (user : Bytes) (transaction : Boxed) (whole : IsWhole p) (there : Some transaction ≡ find id_cmp (Dialogue user) p.active) where
  abbrev its : ServiceId
  its = Dialogue user

  abbrev x : OpenTransaction
  x = boxed_transaction transaction

  own : IsOwned p.generation p.steps (its, transaction)
  own = found_owned p its (Some transaction) there whole.indexed

  open_at : find id_cmp its (state_of p).active ≡ Some x
  open_at = sym (found_transaction p its (Some transaction) there)

  pub can_go_on : CanGoOn p.generation transaction.value.id x
  can_go_on = subst (λ (i : ServiceId). CanGoOn p.generation i x) (sym own.id) (whole.facts.1.transactions its x open_at)

  pub holds_just : HoldsJust p.locks transaction.value.id x
  holds_just = subst (λ (i : ServiceId). HoldsJust p.locks i x) (sym own.id) (λ area. whole.indexed.locks its area ∙ ap (λ (o : Option OpenTransaction). touched_by o area) open_at)

  pub has_nb : transaction.value.messages.nb ≡ p.generation.limits.nb
  has_nb = own.nb

  did_fewer : IsAhead p → transaction.value.statements + 1 ≤ p.steps
  did_fewer ahead = subst (λ (o : Option Boxed). IfSome o (λ (w : Boxed). DidFewer p.steps (its, w))) (sym there) (each_found (DidFewer p.steps) its p.active ahead)

  pub fits_count : IsAhead p → p.steps < 2 ^ 64 → transaction.value.statements + 1 < 2 ^ 64
  fits_count ahead le = let a : transaction.value.statements + 1 ≤ p.steps = did_fewer ahead in omega arith

  module _ (rests : is_running (state_of p) its ≡ false) (told : Told) (after : Boxed) (now : Happened)
      (does : (boxed_transaction after, now) ≡ statement (app_of p) told (is_asynchronous transaction.value.id) x) where
    stands : StandsAtKeep (app_of p) its x
    stands = whole.facts.0.kept its x open_at rests

    abbrev kept : Stated
    kept = (x, Held stands.0)

    comes_to : (boxed_transaction after, now) ≡ kept
    comes_to = does ∙ ap (λ (i : ServiceId). statement (app_of p) told (is_asynchronous i) x) own.id ∙ stands.1 told

    unchanged : boxed_transaction after ≡ x
    unchanged = ap (λ (r : Stated). r.0) comes_to

    is_held : now ≡ Held stands.0
    is_held = ap (λ (r : Stated). r.1) comes_to

    -- so it is no other
    pub no_point : (o : Outcome) → now ≡ Settles o → ⊥
    no_point o e = apart (sym e ∙ is_held)
      where
        apart : Settles o ≡ Held stands.0 → ⊥
        apart h = cc

    pub no_other : ((tac : Bytes) → now ≡ Held tac → ⊥) → ⊥
    no_other other = other stands.0 is_held

    pub still_fits : IsAhead p → p.steps < 2 ^ 64 → after.value.statements + 1 < 2 ^ 64
    still_fits ahead le =
        let a : transaction.value.statements + 1 ≤ p.steps = did_fewer ahead in
        let b : after.value.statements ≡ transaction.value.statements = ap (λ (y : OpenTransaction). y.statements) unchanged in
        omega arith

    module _ (tac text : Bytes) (held : now ≡ Held tac) (next : Boxed) (goes : boxed_transaction next ≡ followed_by_input p.generation (boxed_transaction after) tac text) (locks : Locks)
        (waits : locks.waits ≡ waits_after (app_of p) p.tables p.locks transaction.value.id x now) where
      -- the TAC is the follow-up that the statement names, whatever it is told
      tac_is : tac ≡ held_tac (app_of p) x
      tac_is =
          ap follow_up_of (sym held ∙ is_held) ∙ sym (ap (λ (r : Stated). follow_up_of r.1) (stands.1 nothing_told))

      further_run : boxed_transaction next ≡ followed_by_input p.generation x (held_tac (app_of p) x) text
      further_run = goes ∙ (λ i. followed_by_input p.generation (unchanged i) (tac_is i) text)

      -- no wait ends, as there is none
      same_waits : locks.waits ≡ p.locks.waits
      same_waits =
          waits ∙ ap (waits_after (app_of p) p.tables p.locks transaction.value.id x) is_held ∙ ap (λ (i : ServiceId). where_key id_cmp (λ j. not (id_eq i j)) p.locks.waits) own.id
          ∙ absent its p.locks.waits (waits_none (app_of p) (state_of p) its whole.facts.0 rests)

      -- the parts before the service is ready
      abbrev gone_on : MonitorParts
      gone_on = with_active p (put id_cmp its next p.active) locks p.jobs

      gone_state : state_of gone_on ≡ with_open (state_of p) its (followed_by_input p.generation x (held_tac (app_of p) x) text)
      gone_state = (λ i. record (state_of gone_on) { waits = same_waits i }) ∙ opened_state p its next _ (put id_cmp its next p.active) p.jobs refl further_run

      pub gone_open : is_some (find id_cmp its (state_of gone_on).active) ≡ true
      gone_open = opened_there (state_of p) (state_of gone_on) its _ gone_state

      pub gone_ready : (s : State) → s ≡ record (state_of gone_on) { ready = (state_of gone_on).ready ++ its ∷ [] } → (y : OpenTransaction) → find id_cmp its (state_of p).active ≡ Some y
          → s ≡ queued (state_of p) its (followed_by_input p.generation y (held_tac (app_of p) y) text)
      gone_ready s e y is =
          e ∙ ap (λ (t : State). record t { ready = t.ready ++ its ∷ [] }) gone_state
          ∙ ap (λ (z : OpenTransaction). queued (state_of p) its (followed_by_input p.generation z (held_tac (app_of p) z) text)) (some_is x y (sym open_at ∙ is))

      pub gone_indexed : IsAhead p → HoldersMatch p.locks locks transaction.value.id (boxed_transaction after) → next.value.id ≡ after.value.id → after.value.id ≡ transaction.value.id → next.value.messages.nb ≡ p.generation.limits.nb → IsIndexed gone_on
      gone_indexed ahead matching own_next own_after nb =
          let there_now = put_mapped id_cmp boxed_transaction its next p.active in
          let nowhere = neither (list_any (id_eq its) (map id_of p.scheduler.ready)) (list_any (in_place its) (map service_in p.scheduler.places)) rests in
          let others = put_others its (boxed_transaction next) (active_of p.active) in
          let runs = further p.generation (boxed_transaction after) tac text in
          let fewer : transaction.value.statements + 1 ≤ p.steps = did_fewer ahead in
          let count : next.value.statements ≡ after.value.statements + 1 = ap (λ (y : OpenTransaction). y.statements) goes ∙ runs.1 in
          let same : after.value.statements ≡ transaction.value.statements = ap (λ (y : OpenTransaction). y.statements) unchanged in
          let same_touched : (boxed_transaction next).touched ≡ x.touched = ap (λ (y : OpenTransaction). y.touched) goes ∙ runs.0 ∙ ap (λ (y : OpenTransaction). y.touched) unchanged in
          let matched : HoldersMatch p.locks locks its x =
          subst (λ (i : ServiceId). HoldersMatch p.locks locks i x) own.id (subst (HoldersMatch p.locks locks transaction.value.id) unchanged matching) in
          let just : HoldsJust p.locks its x = subst (λ (i : ServiceId). HoldsJust p.locks i x) own.id holds_just in
          record {
            owned = each_put (IsOwned p.generation p.steps) its next p.active (record { id = own_next ∙ own_after ∙ own.id; nb = nb; counted = omega arith }) whole.indexed.owned;
            ready = subst (λ a. Each (HasClass p.generation a) p.scheduler.ready) there_now (ready_stay p.generation (active_of p.active) _ its others p.scheduler.ready nowhere.0 whole.indexed.ready);
            places = subst (λ a. Each (PlaceHasClass p.generation a) p.scheduler.places) there_now (places_stay p.generation (active_of p.active) _ its others p.scheduler.places nowhere.1 whole.indexed.places);
            locks = subst (SameHolds locks) there_now
                (same_holds p.locks locks (active_of p.active) its x (boxed_transaction next) open_at same_touched (same_holder p.locks locks its x just matched) whole.indexed.locks);
            jobs = whole.indexed.jobs ∙ kept_queue its (boxed_transaction next) (active_of p.active) p.tables.jobs (ap is_some open_at) ∙ ap (λ a. queue_of a p.tables.jobs) there_now;
            charge = whole.indexed.charge;
          }
