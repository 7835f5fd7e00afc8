-- Laws: a start, one service after another.
use Rattle.std.specs.Prelude.{◌≡◌, refl, ℕ, zero, suc, Bool, true, false, cond, ◌||◌, List, [], ◌∷◌, ◌++◌, map, filter, replicate, None, is_some}
use Rattle.std.proofs.Common.{ap, sym, ◌∙◌, true≢false, append_assoc}
use Rattle.std.proofs.lemmas.List.{append-nil}
use Rattle.std.specs.List.{list_all, list_any}
use Rattle.std.specs.Ordering.{is_lt, is_eq, ordering_reverse}
use Rattle.std.specs.declared.cmp.Ordering.TheVariants.{Less, Greater}
use Rattle.std.specs.FinMap.{put, is_sorted}
use Rattle.std.specs.FinMap.Entries.{below_all, by_order}
use Rattle.kd_base.specs.ToolsLaws.{both_true}
use Rattle.kdcs_types.specs.declared.key.ServiceId.{ServiceId}
use Rattle.kdcs_types.specs.declared.key.ServiceId.TheVariants.{Dialogue, Asynchronous}
use Rattle.kdcs_types.specs.declared.key.Key.TheVariants as key
use Rattle.kdcs_types.specs.declared.service.Service.{Service}
use Rattle.kdcs_types.specs.Keyed.{ascends, keyed}
use Rattle.kdcs_types.specs.Keys.{id_cmp, id_eq, key_cmp}
use Rattle.kdcs_types.specs.KeyLaws.{id_total}
use Rattle.kdcs_types.specs.Tables.{TableRows, IsSortedTables, lterm_fits, service_fits, service_key}
use Rattle.application_types.specs.Generation.{Generated}
use Rattle.abstract_monitor.specs.Bytes.{bytes_cmp}
use Rattle.abstract_monitor.specs.Commands.{asynchronous_rows, opened_row, started}
use Rattle.abstract_monitor.specs.Endings.{is_asynchronous, lterm_of_row, opened_by_row}
use Rattle.abstract_monitor.specs.Locks.{Active}
use Rattle.abstract_monitor.specs.Sessions.{in_place}
use Rattle.abstract_monitor.specs.State.{Application, OpenTransaction, State}
use Rattle.laws_of_states.specs.EntriesLaws.{other_put}
use Rattle.service_ends.specs.ChangesLaws.{each_push, each_where}
use Rattle.service_ends.specs.Standing.{Each}
use Rattle.monitor_core.specs.Starting.{idle, opened_then, all_opened, IsFresh, IsApart, AreFresh}
use Rattle.kd_base.specs.OrderLaws.{is_less}

-- ---- rows in the order of their services

-- the services come after this one
abbrev pub ComeBehind : ServiceId → List Service → Type 0
ComeBehind id = Each (λ (row : Service). id_cmp id row.id ≡ Less)

abbrev pub Rise : List Service → Type 0
Rise [] = Unit {0}
Rise (row ∷ rows) = ComeBehind row.id rows × Rise rows

-- rows of asynchronous services that tables may have
abbrev pub AreOfJobs : List Service → Type 0
AreOfJobs [] = Unit {0}
AreOfJobs (row ∷ rows) = (service_fits row ≡ true) × (is_asynchronous row.id ≡ true) × AreOfJobs rows

behind_of : (id : ServiceId) (rows : List Service) → below_all key_cmp (key.Service id) (keyed service_key rows) ≡ true → ComeBehind id rows
behind_of id [] h = tt
behind_of id (row ∷ rows) h =
    let parts = both_true (is_lt (id_cmp id row.id)) (below_all key_cmp (key.Service id) (keyed service_key rows)) h in
    (is_less (id_cmp id row.id) parts.0, behind_of id rows parts.1)

rise_of : (rows : List Service) → ascends service_key rows ≡ true → Rise rows
rise_of [] h = tt
rise_of (row ∷ rows) h =
    let parts = both_true (below_all key_cmp (service_key row) (keyed service_key rows)) (is_sorted key_cmp (keyed service_key rows)) h in
    (behind_of row.id rows parts.0, rise_of rows parts.1)

rise_filter : (test : Service → Bool) (rows : List Service) → Rise rows → Rise (filter test rows)
rise_filter test [] h = tt
rise_filter test (row ∷ rows) h = by (test row) (rise_filter test rows h.1)
  where
    by : (b : Bool) → Rise (filter test rows) → Rise (cond b (row ∷ filter test rows) (filter test rows))
    by true rest = (each_where _ test rows h.0, rest)
    by false rest = rest

jobs_filter : (rows : List Service) → list_all service_fits rows ≡ true → AreOfJobs (filter (λ (s : Service). is_asynchronous s.id) rows)
jobs_filter [] h = tt
jobs_filter (row ∷ rows) h = by (is_asynchronous row.id) refl (jobs_filter rows parts.1)
  where
    parts : (service_fits row ≡ true) × (list_all service_fits rows ≡ true)
    parts = both_true (service_fits row) (list_all service_fits rows) h

    by : (b : Bool) → is_asynchronous row.id ≡ b → AreOfJobs (filter (λ (s : Service). is_asynchronous s.id) rows)
        → AreOfJobs (cond b (row ∷ filter (λ (s : Service). is_asynchronous s.id) rows) (filter (λ (s : Service). is_asynchronous s.id) rows))
    by true e rest = (parts.0, e, rest)
    by false e rest = rest

-- ---- nobody is anywhere at a start

nowhere : (id : ServiceId) (n : ℕ) → list_any (in_place id) (replicate n None) ≡ false
nowhere id zero = refl
nowhere id (suc n) = nowhere id n

has_lterm : (row : Service) → service_fits row ≡ true → is_asynchronous row.id ≡ true → is_some row.lterm ≡ true
has_lterm row fits asynchronous = by row.id (both_true (lterm_fits row.id row.lterm) (is_sorted bytes_cmp row.lssbs) fits).0 asynchronous
  where
    by : (id : ServiceId) → lterm_fits id row.lterm ≡ true → is_asynchronous id ≡ true → is_some row.lterm ≡ true
    by (Dialogue user) h a = absurd (true≢false (sym a))
    by (Asynchronous number) h a = h

apart_of : (id : ServiceId) (rows : List Service) → ComeBehind id rows → IsApart id rows
apart_of id [] h = tt
apart_of id (row ∷ rows) h = (ap is_eq (id_total.antisymm row.id id ∙ ap ordering_reverse h.0), apart_of id rows h.1)

pub fresh_idle : (g : Generated) (t : TableRows) (rows : List Service) → Rise rows → AreOfJobs rows → AreFresh (idle g t) rows
fresh_idle g t [] rise jobs = tt
fresh_idle g t (row ∷ rows) rise jobs =
    let order = (both_true (lterm_fits row.id row.lterm) (is_sorted bytes_cmp row.lssbs) jobs.0).1 in (
      record { closed = refl; unplaced = nowhere row.id g.limits.tasks; lterm = has_lterm row jobs.0 jobs.1; order = order },
      apart_of row.id rows rise.0,
      fresh_idle g t rows rise.1 jobs.2,
    )

-- ---- the rest is fresh still

any_push : (id last : ServiceId) (ids : List ServiceId) → id_eq id last ≡ false → list_any (id_eq id) (ids ++ last ∷ []) ≡ list_any (id_eq id) ids
any_push id last [] e = ap (λ b. b || false) e
any_push id last (i ∷ ids) e = ap (λ b. id_eq id i || b) (any_push id last ids e)

fresh_one : (app : Application) (s : State) (first row : Service) → id_eq row.id first.id ≡ false → IsFresh s row → IsFresh (opened_then app s first) row
fresh_one app s first row apart h =
    record {
      closed = other_put row.id first.id (opened_by_row app.generation first.id first (lterm_of_row first.lterm)) s.active apart ∙ h.closed;
      unplaced = ap (λ b. b || list_any (in_place row.id) s.tasks) (any_push row.id first.id s.ready apart) ∙ h.unplaced;
      lterm = h.lterm;
      order = h.order;
    }

pub fresh_then : (app : Application) (s : State) (first : Service) (rows : List Service) → IsApart first.id rows → AreFresh s rows → AreFresh (opened_then app s first) rows
fresh_then app s first [] apart h = tt
fresh_then app s first (row ∷ rows) apart h = (fresh_one app s first row apart.0 h.0, h.1, fresh_then app s first rows apart.1 h.2)

-- ---- all together they are the start

-- the keys come before this one
abbrev AllBefore : ServiceId → Active → Type 0
AllBefore id = Each (λ (e : ServiceId × OpenTransaction). id_cmp id e.0 ≡ Greater)

put_last : (id : ServiceId) (x : OpenTransaction) (es : Active) → AllBefore id es → put id_cmp id x es ≡ es ++ (id, x) ∷ []
put_last id x [] h = refl
put_last id x (e ∷ es) h =
    ap (λ r. by_order r ((id, x) ∷ e ∷ es) ((e.0, x) ∷ es) (e ∷ put id_cmp id x es)) h.0 ∙ ap (λ (l : Active). e ∷ l) (put_last id x es h.1)

-- the open transactions come before all these rows
abbrev AllBehind : Active → List Service → Type 0
AllBehind es = Each (λ (row : Service). AllBefore row.id es)

behind_push : (e : ServiceId × OpenTransaction) (es : Active) (rows : List Service) → ComeBehind e.0 rows → AllBehind es rows → AllBehind (es ++ e ∷ []) rows
behind_push e es [] c h = tt
behind_push e es (row ∷ rows) c h = (each_push _ es e (id_total.antisymm row.id e.0 ∙ ap ordering_reverse c.0) h.0, behind_push e es rows c.1 h.1)

all_there : (app : Application) (s : State) (rows : List Service) → Rise rows → AllBehind s.active rows
    → all_opened app s rows ≡ record s { ready = s.ready ++ map (λ (r : Service). r.id) rows; active = s.active ++ map (opened_row app) rows }
all_there app s [] rise behind = λ i. record s { ready = sym (append-nil s.ready) i; active = sym (append-nil s.active) i }
all_there app s (row ∷ rows) rise behind =
    let x = opened_by_row app.generation row.id row (lterm_of_row row.lterm) in
    let last = put_last row.id x s.active behind.0 in
    ap (λ (l : Active). all_opened app (record s { ready = s.ready ++ row.id ∷ []; active = l }) rows) last
    ∙ all_there app (record s { ready = s.ready ++ row.id ∷ []; active = s.active ++ (row.id, x) ∷ [] }) rows rise.1 (behind_push (row.id, x) s.active rows rise.0 behind.1)
    ∙ (λ i. record s { ready = append_assoc s.ready (row.id ∷ []) (map (λ (r : Service). r.id) rows) i; active = append_assoc s.active ((row.id, x) ∷ []) (map (opened_row app) rows) i })

nothing_before : (rows : List Service) → AllBehind [] rows
nothing_before [] = tt
nothing_before (row ∷ rows) = (tt, nothing_before rows)

pub started_so : (app : Application) (t : TableRows) → IsSortedTables t → all_opened app (idle app.generation t) (asynchronous_rows t) ≡ started app t
unfolding started
started_so app t order =
    all_there app (idle app.generation t) (asynchronous_rows t) (rise_filter (λ (s : Service). is_asynchronous s.id) t.services (rise_of t.services order.services)) (nothing_before (asynchronous_rows t))

pub fresh_of : (g : Generated) (t : TableRows) → IsSortedTables t → AreFresh (idle g t) (asynchronous_rows t)
fresh_of g t order =
    fresh_idle g t (asynchronous_rows t) (rise_filter (λ (s : Service). is_asynchronous s.id) t.services (rise_of t.services order.services)) (jobs_filter t.services order.services_fit)
