-- Laws: tables that suit a generation have values that are short enough for records.
use Rattle.std.specs.Prelude.{◌≡◌, refl, ◌≤◌, ◌<◌, ◌^◌, Bool, ◌&&◌, IsTrue, List, [], ◌∷◌, length, map, nat_le, All}
use Rattle.std.proofs.Common.{arith}
use Rattle.std.proofs.lemmas.Bool.{leb-true}
use Rattle.std.specs.List.{list_all, AllByRecursion as Each}
use Rattle.kd_base.specs.ToolsLaws.{both_true}
use Rattle.kdcs_types.specs.declared.act.Row.{Row}
use Rattle.kdcs_types.specs.declared.key.Target.TheVariants.{Lterm}
use Rattle.kdcs_types.specs.declared.service.Job.{Job}
use Rattle.kdcs_types.specs.declared.service.JobValue.{JobValue}
use Rattle.kdcs_types.specs.Same.{target_eq}
use Rattle.kdcs_types.specs.Tables.{TableRows, gssb_row, tls_row, uls_row, service_row, job_row, shown_row}
use Rattle.application_types.specs.Generation.{Generated}
use Rattle.abstract_monitor.specs.Bytes.{Bytes}
use Rattle.abstract_monitor.specs.Calls.{job_target}
use Rattle.laws_of_states.specs.Suits.{Suits, fits_message, is_lterm, is_user, job_suits, last_due, shown_suits, target_name, target_suits, value_suits}
use Rattle.std.proofs.lemmas.List.Elements.{All-from_recursion, recursion_from_All}
use Rattle.kd_records.specs.Charge.{total_charge}
use Rattle.kd_records.specs.ChargeLaws.{values_fit}
use Rattle.kd_records.specs.Contents.{Record}
use Rattle.record_codec.specs.PatchesLaws.{all_rows, each_unmapped}
use Rattle.record_codec.specs.Records.{rows_of}
use Rattle.record_codec.specs.Values.{due_in, record_of, value_bytes}
use Rattle.table_fit.specs.LengthsLaws.{charges_are_those_of_the_bytes}
use Rattle.table_fit.specs.Short.{SuitingTablesAreShort}

-- ---- dues are short

each_of : {E : Type 0} (P : E → Type 0) → ((e : E) → P e) → (es : List E) → Each P es
each_of P all [] = tt
each_of P all (e ∷ es) = (all e, each_of P all es)

each_by : {E : Type 0} (p : E → Bool) (P : E → Type 0) → ((e : E) → IsTrue (p e) → P e) → (es : List E) → IsTrue (list_all p es) → Each P es
each_by p P to [] h = tt
each_by p P to (e ∷ es) h = let parts = both_true (p e) (list_all p es) h in (to e parts.0, each_by p P to es parts.1)

value_due : (g : Generated) (v : JobValue) → IsTrue (value_suits g v) → v.due < 2 ^ 56
value_due g v h =
    let a = both_true (nat_le v.due last_due && is_user g v.user) (is_lterm g v.lterm) h in
    omega (arith, leb-true v.due last_due (both_true (nat_le v.due last_due) (is_user g v.user) a.0).0)

job_due : (g : Generated) (j : Job) → IsTrue (job_suits g j) → j.value.due < 2 ^ 56
job_due g j h =
    let a = both_true (value_suits g j.value && fits_message g j.value.message) (target_suits g j.value.to (job_target g (target_name j.value.to))) h in
    value_due g j.value (both_true (value_suits g j.value) (fits_message g j.value.message) a.0).0

shown_due : (g : Generated) (r : Bytes × JobValue) → IsTrue (shown_suits g r) → r.1.due < 2 ^ 56
shown_due g r h =
    let a = both_true (is_lterm g r.0 && value_suits g r.1) (target_eq r.1.to (Lterm r.0)) h in
    value_due g r.1 (both_true (is_lterm g r.0) (value_suits g r.1) a.0).1

abbrev HasShortLength : Row → Type 0
HasShortLength r = length (value_bytes r) < 2 ^ 32

abbrev pub IsDueShort : Row → Type 0
IsDueShort r = due_in r < 2 ^ 56

no_due : {E : Type 0} (row_of : E → Row) → ((e : E) → due_in (row_of e) ≡ 0) → (es : List E) → Each (λ e. IsDueShort (row_of e)) es
no_due row_of none es = each_of (λ e. IsDueShort (row_of e)) (λ e. omega (arith, none e)) es

pub suiting_dues : (g : Generated) (t : TableRows) → Suits g t → All IsDueShort (rows_of t)
suiting_dues g t s =
    all_rows IsDueShort t (record {
      gssbs = no_due gssb_row (λ r. refl) t.gssbs;
      tlss = no_due tls_row (λ r. refl) t.tlss;
      ulss = no_due uls_row (λ r. refl) t.ulss;
      services = no_due service_row (λ r. refl) t.services;
      jobs = each_by (job_suits g) (λ (j : Job). IsDueShort (job_row j)) (job_due g) t.jobs s.jobs;
      shown = each_by (shown_suits g) (λ (r : Bytes × JobValue). IsDueShort (shown_row r)) (shown_due g) t.shown s.shown;
    })

pub suiting_tables_are_short : SuitingTablesAreShort
suiting_tables_are_short g t limits s proper =
    let records = map record_of (rows_of t) in
    let within : total_charge g.limits.blksize records ≤ g.limits.pgpool = omega (arith, s.charge, charges_are_those_of_the_bytes g.limits.blksize t proper) in
    let short : All (λ (r : Record). length r.1 < 2 ^ 32) records = values_fit g.limits.blksize g.limits.pgpool records limits.blksize (omega (arith, limits.pgpool)) within in
    let lengths : All HasShortLength (rows_of t) =
    All-from_recursion HasShortLength (rows_of t)
    (each_unmapped (λ (r : Record). length r.1 < 2 ^ 32) record_of (rows_of t) (recursion_from_All (λ (r : Record). length r.1 < 2 ^ 32) records short)) in
    λ k d i. record { short = lengths k d i; due = suiting_dues g t s k d i }
