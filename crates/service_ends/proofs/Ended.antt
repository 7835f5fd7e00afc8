-- What becomes of the state when a transaction is over, step by step.
use Rattle.std.specs.Prelude.{◌≡◌, refl, ℕ, List, ◌++◌, Option, Some, None, IfOk, IsTrue, option_map, IsSome, Result}
use Rattle.std.proofs.Common.{ap, sym, subst, ◌∙◌}
use Rattle.std.proofs.lemmas.Result.{IfOk-weaker}
use Rattle.std.specs.FinMap.{find}
use Rattle.kd_base.specs.ToolsLaws.{both_true}
use Rattle.kdcs_types.specs.declared.act.Act.{Act}
use Rattle.kdcs_types.specs.declared.act.Act.TheVariants.{Commit}
use Rattle.kdcs_types.specs.declared.act.Changes.{Changes}
use Rattle.kdcs_types.specs.declared.call.Cause.{Cause}
use Rattle.kdcs_types.specs.declared.key.Key.TheVariants as key
use Rattle.kdcs_types.specs.declared.key.ServiceId.{ServiceId}
use Rattle.kdcs_types.specs.declared.key.ServiceId.TheVariants.{Dialogue, Asynchronous}
use Rattle.kdcs_types.specs.declared.service.Ending.{Ending}
use Rattle.kdcs_types.specs.declared.service.Ending.TheVariants as ending
use Rattle.kdcs_types.specs.declared.service.Service.{Service}
use Rattle.kdcs_types.specs.declared.service.Settled.{Settled}
use Rattle.kdcs_types.specs.Keys.{id_cmp, id_eq}
use Rattle.kdcs_types.specs.KeyedLaws.{found_passes}
use Rattle.kdcs_types.specs.Tables.{TableRows, IsSortedTables, change_fits, changed, lterm_fits, service_fits, service_key, service_of}
use Rattle.application_types.specs.Generation.{Generated}
use Rattle.abstract_monitor.specs.declared.outcome.Outcome.{Outcome}
use Rattle.abstract_monitor.specs.declared.outcome.Outcome.TheVariants.{Hold, Stay, Queue, Wait, Point, Follow, Finish, Break, Back}
use Rattle.abstract_monitor.specs.Bytes.{Bytes, bytes_cmp}
use Rattle.std.specs.FinMap.{is_sorted}
use Rattle.abstract_monitor.specs.Endings.{broken, joined, row_after, service_change, synchronised, with_service}
use Rattle.abstract_monitor.specs.Sessions.{is_running}
use Rattle.abstract_monitor.specs.State.{Application, OpenTransaction, State}
use Rattle.abstract_monitor.specs.Statements.{kept_record}
use Rattle.abstract_monitor.specs.Turns.{Turned, abnormal, after_point, committed, dump_acts, ended_acts, message_acts, message_sent, moved_to, settled, settled_by, told_user, user_acts, with_open}
use Rattle.abstract_monitor.specs.Turns.{with_task, without_open, without_transaction}
use Rattle.laws_of_states.specs.EntriesLaws.{found_put, found_without}
use Rattle.laws_of_states.specs.PointLaws.{IsSoundlyOpen}
use Rattle.open_transaction.specs.Transactions.{Boxed, boxed_transaction, HasOrder}
use Rattle.service_ends.specs.declared.core_state.parts.MonitorParts.{MonitorParts}
use Rattle.service_ends.specs.KeptLaws.{found_transaction}
use Rattle.service_ends.specs.Standing.{IsOwned, SameApplication, state_of}
use Rattle.service_ends.specs.Whole.{app_of}
use Rattle.service_ends.specs.WholeLaws.{same_app, same_twice}
use Rattle.sync_points.specs.declared.points.SettleAnswer.TheVariants.{Refused, Synced}
use Rattle.sync_points.specs.Answers.{answer_by}
use Rattle.laws_of_states.specs.CommitLaws.{durable_difference}
use Rattle.laws_of_states.specs.ShownEndsLaws.{end_made, point_made}
use Rattle.service_ends.specs.declared.turned.Turned.{Turned as Did}
use Rattle.service_ends.specs.Ending.{CanGoOn, IsClosed, Serves, behind_end, behind_point, broken_to, emitted, pointed_to, settled_to, turned_to}

-- ---- the parts after a step

pub found_one : (o : Option Boxed) (transaction : Boxed) (found : Option OpenTransaction) (x : OpenTransaction) → o ≡ Some transaction → option_map boxed_transaction o ≡ found → found ≡ Some x → boxed_transaction transaction ≡ x
found_one o transaction found x is found_is x_is = under (sym (ap (option_map boxed_transaction) is) ∙ found_is ∙ x_is)
  where
    under : {A : Type 0} {a b : A} → Some a ≡ Some b → a ≡ b
    under e = cc

stands_as : (g h : Generated) (t u : TableRows) (i j : ServiceId) (x y : OpenTransaction) → h ≡ g → u ≡ t → j ≡ i → y ≡ x → IsSoundlyOpen g t i x → IsSoundlyOpen h u j y
stands_as g h t u i j x y a b c d s =
    subst (λ k. IsSoundlyOpen k u j y) (sym a) (subst (λ k. IsSoundlyOpen g k j y) (sym b) (subst (λ k. IsSoundlyOpen g t k y) (sym c) (subst (λ k. IsSoundlyOpen g t i k) (sym d) s)))

-- the transaction that was closed
pub closed_transaction : (p q : MonitorParts) (task : ℕ) (id : ServiceId) (x : OpenTransaction) (transaction : Boxed) → Serves p task id x → SameApplication p q
    → state_of q ≡ without_transaction (state_of p) task id → transaction.value.id ≡ id → boxed_transaction transaction ≡ x → IsClosed q transaction
closed_transaction p q task id x transaction serves same state own is = record {
  closed = (λ i. find id_cmp (own i) (state i).active) ∙ found_without id (state_of p).active;
  unplaced = (λ i. is_running (state i) (own i)) ∙ serves.alone;
  stands = stands_as p.generation q.generation p.tables q.tables id transaction.value.id x (boxed_transaction transaction) same.generation (ap (λ (s : State). s.tables) state) own is serves.stands;
}

-- it can go on from a row in order
pub goes_on : (p : MonitorParts) (transaction : Boxed) (id : ServiceId) (row : Option Service) → IsClosed p transaction → id ≡ transaction.value.id → HasOrder row → CanGoOn p id row
goes_on p transaction id row h own order = record { closed = (λ i. find id_cmp (own i) (state_of p).active) ∙ h.closed; unplaced = (λ i. is_running (state_of p) (own i)) ∙ h.unplaced; order = order }

pub closed_result : (p m q : MonitorParts) (task : ℕ) (id : ServiceId) (transaction : Boxed) → ((x : OpenTransaction) × Serves p task id x) → SameApplication p m → SameApplication m q
    → state_of m ≡ with_task (state_of p) task None → state_of q ≡ without_open (state_of m) id → Some (boxed_transaction transaction) ≡ find id_cmp id (state_of m).active
    → IsOwned m.generation m.steps (id, transaction) → IsClosed q transaction
closed_result p m q task id transaction serves a b s t found own =
    closed_transaction p q task id serves.0 transaction serves.1 (same_twice p m q a b) (t ∙ ap (λ (u : State). without_open u id) s) own.id
    (found_one (Some transaction) transaction _ serves.0 refl (found ∙ ap (λ (u : State). find id_cmp id u.active) s) serves.1.is_open)

-- there is one
pub none_closed : (p m : MonitorParts) (task : ℕ) (id : ServiceId) → ((x : OpenTransaction) × Serves p task id x) → state_of m ≡ with_task (state_of p) task None → None ≡ find id_cmp id (state_of m).active → ⊥
none_closed p m task id serves s none = apart serves.0 (none ∙ ap (λ (u : State). find id_cmp id u.active) s ∙ serves.1.is_open)
  where
    apart : (x : OpenTransaction) → None ≡ Some x → ⊥
    apart x e = cc

-- LSSBs of a row that is in the tables ascend
row_order : (t : TableRows) (id : ServiceId) (o : Option Service) → IsSortedTables t → service_of t id ≡ o → HasOrder o
row_order t id None h e = tt
row_order t id (Some row) h e = (both_true (lterm_fits row.id row.lterm) (is_sorted bytes_cmp row.lssbs) (found_passes service_key service_fits (key.Service id) t.services row h.services_fit e)).1

pub began_order : (p : MonitorParts) (transaction : Boxed) → IsClosed p transaction → HasOrder transaction.value.began
began_order p transaction h = row_order p.tables transaction.value.id transaction.value.began h.stands.sound.order h.stands.rooted.began

-- a service that opened a transaction has it
pub opened_open : (p q : MonitorParts) (id : ServiceId) (x : OpenTransaction) → state_of q ≡ with_open (state_of p) id x → IsSome (find id_cmp id (state_of q).active)
opened_open p q id x e = subst (λ (o : Option OpenTransaction). IsSome o) (sym (ap (λ (s : State). find id_cmp id s.active) e ∙ found_put id x (state_of p).active)) refl

-- ---- ends

-- what a transaction that was closed comes to, where that is the definition's
pub over_as : {E : Type 0} (r : Result Did E) (p m q : MonitorParts) (task : ℕ) (id : ServiceId) (transaction : Boxed) (f : Application → State → ServiceId → OpenTransaction → Turned) (g : OpenTransaction → Turned)
    → ((x : OpenTransaction) → f (app_of p) (without_transaction (state_of p) task id) id x ≡ g x) → SameApplication p m → state_of m ≡ without_transaction (state_of p) task id → transaction.value.id ≡ id
    → Some (boxed_transaction transaction) ≡ find id_cmp id (state_of p).active → IfOk r (λ (did : Did). turned_to (state_of q) did ≡ f (app_of m) (state_of m) transaction.value.id (boxed_transaction transaction))
    → IfOk r (λ (did : Did). (x : OpenTransaction) → find id_cmp id (state_of p).active ≡ Some x → turned_to (state_of q) did ≡ g x)
over_as r p m q task id transaction f g law same state own found =
    IfOk-weaker r _ _ (λ did e x is. e ∙ (λ k. f (same_app p m same.generation same.units k) (state k) (own k) (found_one (Some transaction) transaction _ x refl found is k)) ∙ law x)

-- an abnormal end of a transaction that was closed
pub breaks : (app : Application) (s : State) (task : ℕ) (id : ServiceId) (x : OpenTransaction) (e : Ending) → broken_to app (without_transaction s task id) id x e ≡ abnormal app s task id x e
unfolding abnormal
breaks app s task (Dialogue user) x e = refl
breaks app s task (Asynchronous number) x e = refl

-- a point of one
settles_by : (app : Application) (s : State) (task : ℕ) (id : ServiceId) (x : OpenTransaction) (o : Outcome) (r : Option Cause)
    → settled_to app (without_transaction s task id) id x o r ≡ settled_by app s task id x o (synchronised app.generation s.tables id x o) r
settles_by app s task id x o None = refl
settles_by app s task id x o (Some cause) = breaks app s task id x (ending.Broken cause)

pub settles : (app : Application) (s : State) (task : ℕ) (id : ServiceId) (x : OpenTransaction) (o : Outcome) → pointed_to app (without_transaction s task id) id x o ≡ settled app s task id x o
unfolding settled
settles app s task id x o = settles_by app s task id x o _

-- an abnormal end after its commit
pub breaks_as : (p : MonitorParts) (w : Boxed) (e : Ending) (id : ServiceId) (dump : Option (List ℕ)) (changes : Changes) (kept : Settled) → changes ≡ durable_difference p.generation p.tables (broken p.generation p.tables w.value.id (boxed_transaction w))
    → kept ≡ kept_record w.value.id (boxed_transaction w) e → emitted dump ≡ dump_acts w.value.id (boxed_transaction w) e → id ≡ w.value.id → IsSoundlyOpen p.generation p.tables w.value.id (boxed_transaction w)
    → behind_end (record (state_of p) { tables = with_service (changed p.tables changes) id None }) id dump (Commit changes) kept ≡ broken_to (app_of p) (state_of p) w.value.id (boxed_transaction w) e
breaks_as p w e id dump changes kept c k d i stands =
    (λ j. committed (record (state_of p) { tables = with_service (changed p.tables (c j)) (i j) None }) (Commit (c j)) (k j) (d j ++ ended_acts (record (state_of p) { tables = with_service (changed p.tables (c j)) (i j) None }) (i j)))
    ∙ ap (λ (t : TableRows). committed (record (state_of p) { tables = t }) (Commit (durable_difference p.generation p.tables (broken p.generation p.tables w.value.id (boxed_transaction w)))) (kept_record w.value.id (boxed_transaction w) e) (dump_acts w.value.id (boxed_transaction w) e ++ ended_acts (record (state_of p) { tables = t }) w.value.id))
    (end_made p.generation p.tables w.value.id (boxed_transaction w) stands.sound.order).tables
    ∙ by w.value.id
  where
    by : (id : ServiceId) → committed (record (state_of p) { tables = broken p.generation p.tables id (boxed_transaction w) }) (Commit (durable_difference p.generation p.tables (broken p.generation p.tables id (boxed_transaction w)))) (kept_record id (boxed_transaction w) e) (dump_acts id (boxed_transaction w) e ++ ended_acts (record (state_of p) { tables = broken p.generation p.tables id (boxed_transaction w) }) id) ≡ broken_to (app_of p) (state_of p) id (boxed_transaction w) e
    by (Dialogue user) = refl
    by (Asynchronous number) = refl

-- ---- points

-- what a point that passes answers
pub record IsPassed (g : Generated) (t : TableRows) (w : Boxed) (o : Outcome) (r : Option Cause) (changes : Changes) (row : Option Service) (kept : Settled) : Type 0 where
  pub none : r ≡ None
  pub changes_are : changes ≡ durable_difference g t (synchronised g t w.value.id (boxed_transaction w) o)
  pub row_is : row ≡ row_after g w.value.id (boxed_transaction w) o
  pub kept_is : kept ≡ kept_record w.value.id (boxed_transaction w) ending.Synced

pub passed_as : (g : Generated) (t : TableRows) (w : Boxed) (o : Outcome) (r : Option Cause) (changes : Changes) (row : Option Service) (kept : Settled)
    → Synced changes row kept ≡ answer_by g t w o r → IsPassed g t w o r changes row kept
passed_as g t w o None changes row kept e = record { none = refl; changes_are = first _ _ _ _ _ _ e; row_is = second _ _ _ _ _ _ e; kept_is = third _ _ _ _ _ _ e }
  where
    first : (a b : Changes) (c d : Option Service) (k l : Settled) → Synced a c k ≡ Synced b d l → a ≡ b
    first a b c d k l e = cc

    second : (a b : Changes) (c d : Option Service) (k l : Settled) → Synced a c k ≡ Synced b d l → c ≡ d
    second a b c d k l e = cc

    third : (a b : Changes) (c d : Option Service) (k l : Settled) → Synced a c k ≡ Synced b d l → k ≡ l
    third a b c d k l e = cc
passed_as g t w o (Some cause) changes row kept e = absurd (apart e)
  where
    apart : Synced changes row kept ≡ Refused cause w → ⊥
    apart e = cc

-- what a point that is refused answers
pub refused_as : (g : Generated) (t : TableRows) (w v : Boxed) (o : Outcome) (r : Option Cause) (cause : Cause) → Refused cause v ≡ answer_by g t w o r → (r ≡ Some cause) × (v ≡ w)
refused_as g t w v o None cause e = absurd (apart _ _ _ e)
  where
    apart : (a : Changes) (c : Option Service) (k : Settled) → Refused cause v ≡ Synced a c k → ⊥
    apart a c k e = cc
refused_as g t w v o (Some other) cause e = (ap Some (first other cause (sym e)), second other cause e)
  where
    first : (a b : Cause) → Refused a w ≡ Refused b v → a ≡ b
    first a b e = cc

    second : (a b : Cause) → Refused b v ≡ Refused a w → v ≡ w
    second a b e = cc

pub row_after_order : (id : ServiceId) (o : Option Service) → IsTrue (change_fits (service_change id o)) → HasOrder o
row_after_order id None h = tt
row_after_order id (Some row) h = (both_true (lterm_fits row.id row.lterm) (is_sorted bytes_cmp row.lssbs) (both_true (id_eq row.id id) (service_fits row) h).1).1

-- the abnormal end that refuses a point
pub refuses_as : (p : MonitorParts) (w v : Boxed) (o : Outcome) (r : Option Cause) (cause : Cause) → Refused cause v ≡ answer_by p.generation p.tables w o r
    → broken_to (app_of p) (state_of p) v.value.id (boxed_transaction v) (ending.Broken cause) ≡ settled_to (app_of p) (state_of p) w.value.id (boxed_transaction w) o r
refuses_as p w v o r cause e =
    let is = refused_as p.generation p.tables w v o r cause e in
    (λ k. broken_to (app_of p) (state_of p) (is.1 k).value.id (boxed_transaction (is.1 k)) (ending.Broken cause)) ∙ sym (ap (settled_to (app_of p) (state_of p) w.value.id (boxed_transaction w) o) is.0)

-- after its commit a point goes on as it does
goes_as : (app : Application) (s : State) (id : ServiceId) (x : OpenTransaction) (row : Option Service) (o : Outcome) (commit : Act) (kept : Settled)
    → behind_point app s id row o (joined x.parts) x.lterm commit kept ≡ after_point app s id x o row commit kept
goes_as app s (Dialogue user) x row (Wait tac) commit kept = refl
goes_as app s (Asynchronous number) x row (Wait tac) commit kept = refl
goes_as app s (Dialogue user) x row Finish commit kept = refl
goes_as app s (Asynchronous number) x row Finish commit kept = refl
goes_as app s id x None (Point tac) commit kept = refl
goes_as app s id x (Some row) (Point tac) commit kept = refl
goes_as app s id x None (Follow tac) commit kept = refl
goes_as app s id x (Some row) (Follow tac) commit kept = refl
goes_as app s id x row (Hold tac) commit kept = refl
goes_as app s id x row (Stay tac) commit kept = refl
goes_as app s id x row (Queue tac) commit kept = refl
goes_as app s id x row Break commit kept = refl
goes_as app s id x row Back commit kept = refl

-- a point that passes
pub points_as : (p : MonitorParts) (w : Boxed) (o : Outcome) (r : Option Cause) (id : ServiceId) (outcome : Outcome) (changes : Changes) (row : Option Service) (kept : Settled) (message lterm : Bytes)
    → IsPassed p.generation p.tables w o r changes row kept → IsSoundlyOpen p.generation p.tables w.value.id (boxed_transaction w) → id ≡ w.value.id → outcome ≡ o → message ≡ joined (boxed_transaction w).parts → lterm ≡ (boxed_transaction w).lterm
    → behind_point (app_of p) (record (state_of p) { tables = with_service (changed p.tables changes) id row }) id row outcome message lterm (Commit changes) kept
    ≡ settled_to (app_of p) (state_of p) w.value.id (boxed_transaction w) o r
points_as p w o r id outcome changes row kept message lterm passed stands i out m l =
    let new = synchronised p.generation p.tables w.value.id (boxed_transaction w) o in
    (λ k. behind_point (app_of p) (record (state_of p) { tables = with_service (changed p.tables (passed.changes_are k)) (i k) (passed.row_is k) }) (i k) (passed.row_is k) (out k) (m k) (l k) (Commit (passed.changes_are k)) (passed.kept_is k))
    ∙ ap (λ (t : TableRows). behind_point (app_of p) (record (state_of p) { tables = t }) w.value.id (row_after p.generation w.value.id (boxed_transaction w) o) o (joined (boxed_transaction w).parts) (boxed_transaction w).lterm (Commit (durable_difference p.generation p.tables new)) (kept_record w.value.id (boxed_transaction w) ending.Synced))
    (point_made p.generation p.tables w.value.id (boxed_transaction w) o stands).tables
    ∙ goes_as (app_of p) (record (state_of p) { tables = new }) w.value.id (boxed_transaction w) (row_after p.generation w.value.id (boxed_transaction w) o) o (Commit (durable_difference p.generation p.tables new)) (kept_record w.value.id (boxed_transaction w) ending.Synced)
    ∙ sym (ap (settled_to (app_of p) (state_of p) w.value.id (boxed_transaction w) o) passed.none)

-- ---- PEND KP

same_acts : (s : State) (task : ℕ) (id : ServiceId) (x : OpenTransaction) → message_acts (with_task s task None) id x ≡ message_acts s id x
same_acts s task (Dialogue user) x = refl
same_acts s task (Asynchronous number) x = refl

pub holds_as : (s q r : State) (task : ℕ) (id : ServiceId) (x : OpenTransaction) (acts : List Act) → q ≡ with_task s task None → r ≡ message_sent q id x → acts ≡ message_acts q id x
    → moved_to r acts ≡ moved_to (message_sent (with_task s task None) id x) (message_acts s id x)
holds_as s q r task id x acts e f a =
    (λ k. moved_to ((f ∙ ap (λ u. message_sent u id x) e) k) ((a ∙ ap (λ u. message_acts u id x) e ∙ same_acts s task id x) k))

-- the message of the transaction that is found
pub found_is : (p : MonitorParts) (id : ServiceId) (transaction : Boxed) (x : OpenTransaction) → Some transaction ≡ find id_cmp id p.active → find id_cmp id (state_of p).active ≡ Some x → boxed_transaction transaction ≡ x
found_is p id transaction x e f = found_one (Some transaction) transaction _ x refl (found_transaction p id (Some transaction) e) f

pub sends_as : (p q : MonitorParts) (id : ServiceId) (user message : Bytes) (transaction : Boxed) (x : OpenTransaction) → id ≡ Dialogue user → message ≡ joined transaction.value.messages.parts → Some transaction ≡ find id_cmp id p.active
    → find id_cmp id (state_of p).active ≡ Some x → state_of q ≡ told_user (state_of p) user message → state_of q ≡ message_sent (state_of p) id x
sends_as p q id user message transaction x is m found f e =
    e ∙ ap (told_user (state_of p) user) m ∙ sym (ap (λ i. message_sent (state_of p) i (boxed_transaction transaction)) is) ∙ ap (message_sent (state_of p) id) (found_is p id transaction x found f)

pub sends_acts : (p : MonitorParts) (id : ServiceId) (user message : Bytes) (transaction : Boxed) (x : OpenTransaction) (before after : List Act) → id ≡ Dialogue user → message ≡ joined transaction.value.messages.parts → Some transaction ≡ find id_cmp id p.active
    → find id_cmp id (state_of p).active ≡ Some x → after ≡ before ++ user_acts (state_of p) user message → after ≡ before ++ message_acts (state_of p) id x
sends_acts p id user message transaction x before after is m found f e =
    e ∙ ap (λ l. before ++ l) (ap (user_acts (state_of p) user) m ∙ sym (ap (λ i. message_acts (state_of p) i (boxed_transaction transaction)) is) ∙ ap (message_acts (state_of p) id) (found_is p id transaction x found f))
