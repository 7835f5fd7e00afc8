-- The tables as lists and numbers, their look-ups, and what changes make of them.
use Rattle.std.specs.Prelude.{ℕ, Bool, true, false, not, ◌&&◌, IsTrue, List, [], ◌∷◌, Option, is_some}
use Rattle.std.specs.Option.{option_map}
use Rattle.std.specs.Cmp.Lexicographic.{slice_cmp}
use Rattle.std.specs.FinMap.{is_sorted}
use Rattle.std.specs.List.{list_all}
use Rattle.std.specs.Ordering.{nat_cmp}
use Rattle.kdcs_types.specs.declared.key.Area.{Area}
use Rattle.kdcs_types.specs.declared.key.Area.TheVariants as area
use Rattle.kdcs_types.specs.declared.key.ServiceId.{ServiceId}
use Rattle.kdcs_types.specs.declared.key.ServiceId.TheVariants as id
use Rattle.kdcs_types.specs.declared.key.Key.{Key}
use Rattle.kdcs_types.specs.declared.key.Key.TheVariants as key
use Rattle.kdcs_types.specs.declared.service.Service.{Service}
use Rattle.kdcs_types.specs.declared.service.Job.{Job}
use Rattle.kdcs_types.specs.declared.service.JobValue.{JobValue}
use Rattle.kdcs_types.specs.declared.act.Row.{Row}
use Rattle.kdcs_types.specs.declared.act.Row.TheVariants as row
use Rattle.kdcs_types.specs.declared.act.Change.{Change}
use Rattle.kdcs_types.specs.declared.act.Change.TheVariants.{Set, Remove}
use Rattle.kdcs_types.specs.declared.act.Changes.{Changes}
use Rattle.kdcs_types.specs.Keys.{id_eq}
use Rattle.kdcs_types.specs.Keyed.{ascends, item_at, with_item, without_item}

-- what the monitor keeps over a warm start
pub record TableRows : Type 0 where
  pub clock : ℕ
  pub next_job : ℕ
  -- name, content
  pub gssbs : List (List ℕ × List ℕ)
  -- block, LTERM, content
  pub tlss : List (List ℕ × List ℕ × List ℕ)
  -- block, user, content
  pub ulss : List (List ℕ × List ℕ × List ℕ)
  pub services : List Service
  pub jobs : List Job
  -- LTERM, value
  pub shown : List (List ℕ × JobValue)

-- no rows, clock 0 and next job number 1
abbrev pub empty_tables : TableRows
empty_tables = record { clock = 0; next_job = 1; gssbs = []; tlss = []; ulss = []; services = []; jobs = []; shown = [] }

-- ---- the items of the lists: their keys, and their rows

abbrev pub gssb_key : (List ℕ × List ℕ) → Key
gssb_key r = key.Gssb r.0

abbrev pub tls_key : (List ℕ × List ℕ × List ℕ) → Key
tls_key r = key.Tls r.0 r.1

abbrev pub uls_key : (List ℕ × List ℕ × List ℕ) → Key
uls_key r = key.Uls r.0 r.1

abbrev pub service_key : Service → Key
service_key s = key.Service s.id

abbrev pub job_key : Job → Key
job_key j = key.Job j.number

abbrev pub shown_key : (List ℕ × JobValue) → Key
shown_key r = key.Shown r.0

abbrev pub gssb_row : (List ℕ × List ℕ) → Row
gssb_row r = row.Gssb r.0 r.1

abbrev pub tls_row : (List ℕ × List ℕ × List ℕ) → Row
tls_row r = row.Tls r.0 r.1 r.2

abbrev pub uls_row : (List ℕ × List ℕ × List ℕ) → Row
uls_row r = row.Uls r.0 r.1 r.2

abbrev pub service_row : Service → Row
service_row s = row.Service s.id s

abbrev pub job_row : Job → Row
job_row j = row.Job j.number j.value

abbrev pub shown_row : (List ℕ × JobValue) → Row
shown_row r = row.Shown r.0 r.1

abbrev pub row_key : Row → Key
row_key (row.Gssb name content) = key.Gssb name
row_key (row.Tls block lterm content) = key.Tls block lterm
row_key (row.Uls block user content) = key.Uls block user
row_key (row.Service id service) = key.Service id
row_key (row.Job number value) = key.Job number
row_key (row.Shown lterm value) = key.Shown lterm

-- ---- look-ups

-- the content of an area
abbrev pub content_of : TableRows → Area → Option (List ℕ)
content_of t (area.Gssb name) = option_map (λ r. r.1) (item_at gssb_key (key.Gssb name) t.gssbs)
content_of t (area.Tls block lterm) = option_map (λ r. r.2) (item_at tls_key (key.Tls block lterm) t.tlss)
content_of t (area.Uls block user) = option_map (λ r. r.2) (item_at uls_key (key.Uls block user) t.ulss)

abbrev pub service_of : TableRows → ServiceId → Option Service
service_of t id = item_at service_key (key.Service id) t.services

abbrev pub job_of : TableRows → ℕ → Option JobValue
job_of t number = option_map (λ (j : Job). j.value) (item_at job_key (key.Job number) t.jobs)

-- the message that an LTERM shows
abbrev pub shown_of : TableRows → List ℕ → Option JobValue
shown_of t lterm = option_map (λ r. r.1) (item_at shown_key (key.Shown lterm) t.shown)

-- the row of a key
abbrev pub row_at : TableRows → Key → Option Row
row_at t (key.Gssb name) = option_map gssb_row (item_at gssb_key (key.Gssb name) t.gssbs)
row_at t (key.Tls block lterm) = option_map tls_row (item_at tls_key (key.Tls block lterm) t.tlss)
row_at t (key.Uls block user) = option_map uls_row (item_at uls_key (key.Uls block user) t.ulss)
row_at t (key.Service id) = option_map service_row (item_at service_key (key.Service id) t.services)
row_at t (key.Job number) = option_map job_row (item_at job_key (key.Job number) t.jobs)
row_at t (key.Shown lterm) = option_map shown_row (item_at shown_key (key.Shown lterm) t.shown)

-- ---- changes

-- the tables with this row, in place of the one of its key
abbrev pub with_row : TableRows → Row → TableRows
with_row t (row.Gssb name content) = record t { gssbs = with_item gssb_key (name, content) t.gssbs }
with_row t (row.Tls block lterm content) = record t { tlss = with_item tls_key (block, lterm, content) t.tlss }
with_row t (row.Uls block user content) = record t { ulss = with_item uls_key (block, user, content) t.ulss }
with_row t (row.Service id service) = record t { services = with_item service_key service t.services }
with_row t (row.Job number value) = record t { jobs = with_item job_key (record { number = number; value = value }) t.jobs }
with_row t (row.Shown lterm value) = record t { shown = with_item shown_key (lterm, value) t.shown }

-- the tables without the row of this key
abbrev pub without_row : TableRows → Key → TableRows
without_row t (key.Gssb name) = record t { gssbs = without_item gssb_key (key.Gssb name) t.gssbs }
without_row t (key.Tls block lterm) = record t { tlss = without_item tls_key (key.Tls block lterm) t.tlss }
without_row t (key.Uls block user) = record t { ulss = without_item uls_key (key.Uls block user) t.ulss }
without_row t (key.Service id) = record t { services = without_item service_key (key.Service id) t.services }
without_row t (key.Job number) = record t { jobs = without_item job_key (key.Job number) t.jobs }
without_row t (key.Shown lterm) = record t { shown = without_item shown_key (key.Shown lterm) t.shown }

abbrev pub with_change : TableRows → Change → TableRows
with_change t (Set r) = with_row t r
with_change t (Remove k) = without_row t k

-- the changes one after another
abbrev pub with_changes : TableRows → List Change → TableRows
with_changes t [] = t
with_changes t (c ∷ cs) = with_changes (with_change t c) cs

-- the tables that a commit makes of others
abbrev pub changed : TableRows → Changes → TableRows
changed t c = with_changes (record t { clock = c.clock; next_job = c.next_job }) c.items

-- ---- which rows and changes there may be

abbrev pub is_filled : List ℕ → Bool
is_filled [] = false
is_filled (b ∷ bytes) = true

abbrev pub lterm_fits : ServiceId → Option (List ℕ) → Bool
lterm_fits (id.Dialogue user) lterm = not (is_some lterm)
lterm_fits (id.Asynchronous number) lterm = is_some lterm

-- the LTERM is None exactly for a dialogue service, and the LSSBs ascend without repeats
abbrev pub service_fits : Service → Bool
service_fits s = lterm_fits s.id s.lterm && is_sorted (slice_cmp nat_cmp) s.lssbs

-- a TLS or ULS block is not empty; a service is under its id, has an LTERM exactly where it is asynchronous, and LSSBs in ascending order
abbrev pub row_fits : Row → Bool
row_fits (row.Tls block lterm content) = is_filled content
row_fits (row.Uls block user content) = is_filled content
row_fits (row.Service id service) = id_eq service.id id && service_fits service
row_fits _ = true

abbrev pub change_fits : Change → Bool
change_fits (Set r) = row_fits r
change_fits (Remove k) = true

abbrev pub change_key : Change → Key
change_key (Set r) = row_key r
change_key (Remove k) = k

-- the change of a key
abbrev pub change_at : Key → List Change → Option Change
change_at k cs = item_at change_key k cs

-- the changes that tables take
pub record AreChanges (cs : List Change) : Type 0 where
  -- in ascending order of their keys, without repeats
  pub ascending : IsTrue (ascends change_key cs)
  pub fit : IsTrue (list_all change_fits cs)

-- each list is in ascending order of its keys, without repeats, and its rows may be there
pub record IsSortedTables (t : TableRows) : Type 0 where
  pub gssbs : IsTrue (ascends gssb_key t.gssbs)
  pub tlss : IsTrue (ascends tls_key t.tlss)
  pub ulss : IsTrue (ascends uls_key t.ulss)
  pub services : IsTrue (ascends service_key t.services)
  pub jobs : IsTrue (ascends job_key t.jobs)
  pub shown : IsTrue (ascends shown_key t.shown)
  pub tlss_filled : IsTrue (list_all (λ r. is_filled r.2) t.tlss)
  pub ulss_filled : IsTrue (list_all (λ r. is_filled r.2) t.ulss)
  pub services_fit : IsTrue (list_all service_fits t.services)
