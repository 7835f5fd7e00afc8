-- Whether the row of a key is this one, by what is found under it.
use Rattle.std.specs.Prelude.{◌≡◌, refl, ℕ, ◌&&◌, Bool, true, List, Option, Some, None, bytes_eq}
use Rattle.std.proofs.Common.{ap, ◌∙◌}
use Rattle.std.proofs.lemmas.Bool.{eq-eqb}
use Rattle.std.specs.Option.{option_eq, option_map}
use Rattle.kdcs_types.specs.declared.act.Row.{Row}
use Rattle.kdcs_types.specs.declared.act.Row.TheVariants.{Gssb as GssbRow, Tls as TlsRow, Uls as UlsRow, Service as ServiceRow, Job as JobRow, Shown as ShownRow}
use Rattle.kdcs_types.specs.declared.key.Area.TheVariants.{Gssb, Tls, Uls}
use Rattle.kdcs_types.specs.declared.key.Key.{Key}
use Rattle.kdcs_types.specs.declared.key.Key.TheVariants.{Gssb as GssbKey, Tls as TlsKey, Uls as UlsKey, Service as ServiceKey, Job as JobKey, Shown as ShownKey}
use Rattle.kdcs_types.specs.declared.key.ServiceId.{ServiceId}
use Rattle.kdcs_types.specs.declared.service.Job.{Job}
use Rattle.kdcs_types.specs.declared.service.JobValue.{JobValue}
use Rattle.kdcs_types.specs.declared.service.Service.{Service}
use Rattle.kdcs_types.specs.Keyed.{item_at}
use Rattle.kdcs_types.specs.KeyedLaws.{found_key}
use Rattle.kdcs_types.specs.Keys.{id_eq}
use Rattle.kdcs_types.specs.KeyLaws.{id_eq_itself}
use Rattle.kdcs_types.specs.Same.{job_value_eq, row_same, service_eq}
use Rattle.kdcs_types.specs.Tables.{TableRows, content_of, gssb_key, gssb_row, job_key, job_of, job_row, row_at, service_key, service_of, service_row, shown_key, shown_of, shown_row, tls_key, tls_row}
use Rattle.kdcs_types.specs.Tables.{uls_key, uls_row}
use Rattle.abstract_monitor.specs.Bytes.{Bytes}
use Rattle.laws_of_states.specs.ListsLaws.{bytes_eq_itself}

same_bytes : (a b : Bytes) → b ≡ a → bytes_eq a b ≡ true
same_bytes a b e = ap (bytes_eq a) e ∙ bytes_eq_itself a

-- what is found under a key: its row is this one where the value is
same_at : {A V : Type 0} (key_of : A → Key) (row_of : A → Row) (value_of : A → V) (equal : V → V → Bool) (k : Key) (row : Row) (v : V) (xs : List A)
    → ((x : A) → key_of x ≡ k → row_same (Some row) (Some (row_of x)) ≡ equal v (value_of x))
    → row_same (Some row) (option_map row_of (item_at key_of k xs)) ≡ option_eq equal (Some v) (option_map value_of (item_at key_of k xs))
same_at {A} key_of row_of value_of equal k row v xs under = by (item_at key_of k xs) refl
  where
    by : (o : Option A) → item_at key_of k xs ≡ o → row_same (Some row) (option_map row_of o) ≡ option_eq equal (Some v) (option_map value_of o)
    by None e = refl
    by (Some x) e = under x (found_key key_of k xs x e)

-- an area with a block and its owner
block_same : (a b content : Bytes) (r : Bytes × Bytes × Bytes) → r.0 ≡ a → r.1 ≡ b → (bytes_eq a r.0 && (bytes_eq b r.1 && bytes_eq content r.2)) ≡ bytes_eq content r.2
block_same a b content r e f = ap (λ c. c && (bytes_eq b r.1 && bytes_eq content r.2)) (same_bytes a r.0 e) ∙ ap (λ c. c && bytes_eq content r.2) (same_bytes b r.1 f)

pub same_gssb : (t : TableRows) (name content : Bytes) → row_same (Some (GssbRow name content)) (row_at t (GssbKey name)) ≡ option_eq bytes_eq (Some content) (content_of t (Gssb name))
same_gssb t name content = same_at gssb_key gssb_row (λ r. r.1) bytes_eq (GssbKey name) (GssbRow name content) content t.gssbs (λ r e. ap (λ b. b && bytes_eq content r.1) (same_bytes name r.0 cc))

pub same_tls : (t : TableRows) (block lterm content : Bytes) → row_same (Some (TlsRow block lterm content)) (row_at t (TlsKey block lterm)) ≡ option_eq bytes_eq (Some content) (content_of t (Tls block lterm))
same_tls t block lterm content = same_at tls_key tls_row (λ r. r.2) bytes_eq (TlsKey block lterm) (TlsRow block lterm content) content t.tlss (λ r e. let a : r.0 ≡ block = cc in let b : r.1 ≡ lterm = cc in block_same block lterm content r a b)

pub same_uls : (t : TableRows) (block user content : Bytes) → row_same (Some (UlsRow block user content)) (row_at t (UlsKey block user)) ≡ option_eq bytes_eq (Some content) (content_of t (Uls block user))
same_uls t block user content = same_at uls_key uls_row (λ r. r.2) bytes_eq (UlsKey block user) (UlsRow block user content) content t.ulss (λ r e. let a : r.0 ≡ block = cc in let b : r.1 ≡ user = cc in block_same block user content r a b)

pub same_service : (t : TableRows) (id : ServiceId) (row : Service) → row_same (Some (ServiceRow id row)) (row_at t (ServiceKey id)) ≡ option_eq service_eq (Some row) (service_of t id)
same_service t id row = by (item_at service_key (ServiceKey id) t.services) refl
  where
    under : (s : Service) → service_key s ≡ ServiceKey id → s.id ≡ id
    under s e = cc

    by : (o : Option Service) → item_at service_key (ServiceKey id) t.services ≡ o → row_same (Some (ServiceRow id row)) (option_map service_row o) ≡ option_eq service_eq (Some row) o
    by None e = refl
    by (Some s) e = ap (λ b. b && service_eq row s) (ap (id_eq id) (under s (found_key service_key (ServiceKey id) t.services s e)) ∙ id_eq_itself id)

pub same_job : (t : TableRows) (number : ℕ) (value : JobValue) → row_same (Some (JobRow number value)) (row_at t (JobKey number)) ≡ option_eq job_value_eq (Some value) (job_of t number)
same_job t number value = same_at job_key job_row (λ (j : Job). j.value) job_value_eq (JobKey number) (JobRow number value) value t.jobs (λ j e. ap (λ b. b && job_value_eq value j.value) (eq-eqb number j.number cc))

pub same_shown : (t : TableRows) (lterm : Bytes) (value : JobValue) → row_same (Some (ShownRow lterm value)) (row_at t (ShownKey lterm)) ≡ option_eq job_value_eq (Some value) (shown_of t lterm)
same_shown t lterm value = same_at shown_key shown_row (λ r. r.1) job_value_eq (ShownKey lterm) (ShownRow lterm value) value t.shown (λ r e. ap (λ b. b && job_value_eq value r.1) (same_bytes lterm r.0 cc))
