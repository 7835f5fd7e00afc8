-- Which services are there after the changes of a state that a step is made of.
use Rattle.std.specs.Prelude.{◌≡◌, ◌⊎◌, refl, Bool, true, false, cond, not, List, [], ◌∷◌, map, filter, Option, Some, None}
use Rattle.std.proofs.Common.{ap, ◌∙◌, subst, inl, inr}
use Rattle.std.specs.FinMap.{find, put}
use Rattle.std.specs.FinMap.Entries.{where_key, find-put}
use Rattle.kdcs_types.specs.declared.key.Key.TheVariants.{Service as ServiceKey}
use Rattle.kdcs_types.specs.declared.key.ServiceId.{ServiceId}
use Rattle.kdcs_types.specs.declared.key.ServiceId.TheVariants.{Dialogue, Asynchronous}
use Rattle.kdcs_types.specs.declared.service.Service.{Service}
use Rattle.kdcs_types.specs.KeyedLaws.{item_at_without}
use Rattle.kdcs_types.specs.KeyLaws.{id_eq_same, id_total}
use Rattle.kdcs_types.specs.Keys.{id_cmp, id_eq}
use Rattle.kdcs_types.specs.Tables.{TableRows, service_key, service_of}
use Rattle.application_types.specs.Generation.{Generated}
use Rattle.abstract_monitor.specs.declared.outcome.Outcome.{Outcome}
use Rattle.abstract_monitor.specs.Bytes.{Bytes, bytes_cmp}
use Rattle.abstract_monitor.specs.Endings.{is_asynchronous, is_durable, durable, synchronised, broken, row_after}
use Rattle.abstract_monitor.specs.State.{Application, OpenTransaction, Session, State}
use Rattle.abstract_monitor.specs.Turns.{noted_last, last_told, message_sent, pterm_of_user}
use Rattle.abstract_monitor.specs.Commands.{opened_row, rolled_tables}
use Rattle.laws_of_states.specs.DurableLaws.{kept_at}
use Rattle.laws_of_states.specs.OwnRowLaws.{points_set, ends_remove}
use Rattle.laws_of_states.specs.EntriesLaws.{found_without, other_without}
use Rattle.laws_of_runs.specs.Access.{RowIsOf, OpenIsOf, IsThere}

-- ---- open transactions

abbrev Active : Type 0
Active = List (ServiceId × OpenTransaction)

-- what is put in is of its service, and all others were there
pub open_put : (k id : ServiceId) (y : OpenTransaction) (es : Active) (tac : Bytes) → OpenIsOf tac (find id_cmp k (put id_cmp id y es)) → ((k ≡ id) × (y.first ≡ tac)) ⊎ OpenIsOf tac (find id_cmp k es)
open_put k id y es tac h = by (id_eq k id) refl (subst (OpenIsOf tac) (find-put id_cmp id_total k id y es) h)
  where
    by : (b : Bool) → id_eq k id ≡ b → OpenIsOf tac (cond b (Some y) (find id_cmp k es)) → ((k ≡ id) × (y.first ≡ tac)) ⊎ OpenIsOf tac (find id_cmp k es)
    by true e there = inl (id_eq_same k id e, there)
    by false e there = inr there

-- where one is taken out, all that are left were there
pub open_without : (k id : ServiceId) (es : Active) (tac : Bytes) → OpenIsOf tac (find id_cmp k (where_key id_cmp (λ j. not (id_eq id j)) es)) → OpenIsOf tac (find id_cmp k es)
open_without k id es tac h = by (id_eq k id) refl
  where
    by : (b : Bool) → id_eq k id ≡ b → OpenIsOf tac (find id_cmp k es)
    by true e = absurd (subst (OpenIsOf tac) (ap (λ j. find id_cmp j (where_key id_cmp (λ i. not (id_eq id i)) es)) (id_eq_same k id e) ∙ found_without id es) h)
    by false e = subst (OpenIsOf tac) (other_without k id es e) h

-- no dialogue service is open after a start
pub started_open : (app : Application) (user tac : Bytes) (rows : List Service) → OpenIsOf tac (find id_cmp (Dialogue user) (map (opened_row app) (filter (λ (s : Service). is_asynchronous s.id) rows))) → ⊥
started_open app user tac [] h = h
started_open app user tac (row ∷ rows) h = by row.id refl (filter (λ (s : Service). is_asynchronous s.id) rows) (λ there. started_open app user tac rows there) h
  where
    by : (i : ServiceId) → row.id ≡ i → (rest : List Service) → (OpenIsOf tac (find id_cmp (Dialogue user) (map (opened_row app) rest)) → ⊥)
        → OpenIsOf tac (find id_cmp (Dialogue user) (map (opened_row app) (cond (is_asynchronous i) (row ∷ rest) rest))) → ⊥
    by (Dialogue other) e rest none there = none there
    by (Asynchronous number) e rest none there =
        none (subst (λ (i : ServiceId). OpenIsOf tac (cond (id_eq (Dialogue user) i) (Some (opened_row app row).1) (find id_cmp (Dialogue user) (map (opened_row app) rest)))) e there)

-- ---- rows

-- what stands in one table or is gone
kept_or_gone : (tac : Bytes) (b : Bool) (o : Option Service) → RowIsOf tac (cond b None o) → RowIsOf tac o
kept_or_gone tac true o h = absurd h
kept_or_gone tac false o h = h

-- the row of a synchronisation point is of its service, and all others were there
pub point_row_there : (g : Generated) (t : TableRows) (id : ServiceId) (x : OpenTransaction) (o : Outcome) (k : ServiceId) (tac : Bytes)
    → RowIsOf tac (service_of (synchronised g t id x o) k) → ((k ≡ id) × RowIsOf tac (row_after g id x o)) ⊎ RowIsOf tac (service_of t k)
point_row_there g t id x o k tac h = by (id_eq k id) refl (subst (RowIsOf tac) (points_set g t id x o k) h)
  where
    by : (b : Bool) → id_eq k id ≡ b → RowIsOf tac (cond b (row_after g id x o) (service_of t k)) → ((k ≡ id) × RowIsOf tac (row_after g id x o)) ⊎ RowIsOf tac (service_of t k)
    by true e there = inl (id_eq_same k id e, there)
    by false e there = inr there

-- an abnormal end and a sign-off bring no row
pub end_row_there : (g : Generated) (t : TableRows) (id : ServiceId) (x : OpenTransaction) (k : ServiceId) (tac : Bytes) → RowIsOf tac (service_of (broken g t id x) k) → RowIsOf tac (service_of t k)
end_row_there g t id x k tac h = kept_or_gone tac (id_eq k id) (service_of t k) (subst (RowIsOf tac) (ends_remove g t id x k) h)

pub rolled_row_there : (app : Application) (t : TableRows) (user : Bytes) (b : Bool) (k : ServiceId) (tac : Bytes) → RowIsOf tac (service_of (rolled_tables app t user b) k) → RowIsOf tac (service_of t k)
rolled_row_there app t user true k tac h = h
rolled_row_there app t user false k tac h = kept_or_gone tac (id_eq k (Dialogue user)) (service_of t k) (subst (RowIsOf tac) (item_at_without service_key (ServiceKey k) (ServiceKey (Dialogue user)) t.services) h)

-- nor does what a stop leaves
pub durable_row_there : (g : Generated) (t : TableRows) (k : ServiceId) (tac : Bytes) → RowIsOf tac (service_of (durable g t) k) → RowIsOf tac (service_of t k)
unfolding durable
durable_row_there g t k tac h = by (is_durable g k) (subst (RowIsOf tac) (kept_at (is_durable g) k t.services) h)
  where
    by : (b : Bool) → RowIsOf tac (cond b (service_of t k) None) → RowIsOf tac (service_of t k)
    by true there = there
    by false there = absurd there

-- ---- messages

-- two states with the same services
pub record SameServices (s u : State) : Type 0 where
  pub tables : u.tables ≡ s.tables
  pub active : u.active ≡ s.active

noted_same : (s : State) (pterm message : Bytes) (v : Option Session) → SameServices s (noted_last s pterm message v)
noted_same s pterm message None = record { tables = refl; active = refl }
noted_same s pterm message (Some v) = record { tables = refl; active = refl }

pub last_same : (s : State) (pterm : Option Bytes) (message : Bytes) → SameServices s (last_told s pterm message)
last_same s None message = record { tables = refl; active = refl }
last_same s (Some pterm) message = noted_same s pterm message (find bytes_cmp pterm s.signed)

pub sent_same : (s : State) (id : ServiceId) (x : OpenTransaction) → SameServices s (message_sent s id x)
sent_same s (Dialogue user) x = last_same s (pterm_of_user s.signed user) _
sent_same s (Asynchronous number) x = record { tables = refl; active = refl }

-- the same services are there
pub same_there : (s u : State) → SameServices s u → (user tac : Bytes) → IsThere u user tac → IsThere s user tac
same_there s u same user tac (inl row) = inl (subst (λ (t : TableRows). RowIsOf tac (service_of t (Dialogue user))) same.tables row)
same_there s u same user tac (inr transaction) = inr (subst (λ (es : Active). OpenIsOf tac (find id_cmp (Dialogue user) es)) same.active transaction)
