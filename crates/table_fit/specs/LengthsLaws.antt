-- Laws: how many bytes the value of a row has, and what tables are charged for their bytes.
use Rattle.std.specs.Prelude.{◌≡◌, refl, ℕ, ◌+◌, List, [], ◌∷◌, ◌++◌, map, flat_map, length, sum_by, Option, Some, None, Bool, true, false}
use Rattle.std.proofs.Common.{arith, ap, length-append}
use Rattle.std.proofs.lemmas.List.Sums.{sum_by-cons}
use Rattle.std.specs.Int.{w32, to_be_bytes}
use Rattle.std.specs.List.{AllByRecursion as Each}
use Rattle.kd_base.specs.Field.{list}
use Rattle.kd_base.specs.Text.{padded}
use Rattle.kd_base.specs.RoundTripsLaws.{padded_len}
use Rattle.kd_records.specs.Charge.{charge_of as charge_of_length}
use Rattle.kd_records.specs.Contents.{Record}
use Rattle.kdcs_types.specs.declared.act.Row.{Row}
use Rattle.kdcs_types.specs.declared.act.Row.TheVariants as row
use Rattle.kdcs_types.specs.declared.key.ServiceId.{ServiceId}
use Rattle.kdcs_types.specs.declared.key.ServiceId.TheVariants.{Dialogue, Asynchronous}
use Rattle.kdcs_types.specs.declared.key.Target.{Target}
use Rattle.kdcs_types.specs.declared.key.Target.TheVariants.{Tac, Lterm}
use Rattle.kdcs_types.specs.declared.service.JobValue.{JobValue}
use Rattle.kdcs_types.specs.declared.service.Service.{Service}
use Rattle.kdcs_types.specs.Tables.{gssb_row, tls_row, uls_row, service_row, job_row, shown_row}
use Rattle.abstract_monitor.specs.Bytes.{Bytes}
use Rattle.abstract_monitor.specs.Charges.{charge_of, job_length, last_length, list_length, service_length, total_charge}
use Rattle.record_codec.specs.Readings.{LtermFits, TargetFits}
use Rattle.record_codec.specs.WholeValues.{JobFits, LssbFits, ServiceFits}
use Rattle.record_codec.specs.WholeValuesLaws.{job_lengths, service_lengths}
use Rattle.record_codec.specs.Values.{counted, flag, job_bytes, last_bytes, lssb_bytes, lterm_bytes, record_of, service_bytes, target_bytes}
use Rattle.record_codec.specs.RowReadings.{IsProperRow}
use Rattle.record_codec.specs.PatchesLaws.{EachRow, each_row}
use Rattle.table_fit.specs.Lengths.{value_length, LengthsAreThoseOfTheBytes, ChargesAreThoseOfTheBytes}

-- ---- fields

list_long : (bytes : Bytes) → length (list bytes) ≡ list_length bytes
list_long bytes = omega (arith, length-append (to_be_bytes w32 (length bytes)) bytes)

flag_long : (b : Bool) → length (flag b) ≡ 1
flag_long true = refl
flag_long false = refl

last_long : (last : Option Bytes) → length (last_bytes last) ≡ last_length last
last_long None = refl
last_long (Some message) = omega (arith, list_long message)

lterm_long : (id : ServiceId) (lterm : Option Bytes) → LtermFits id lterm → length (lterm_bytes lterm) ≡ 8
lterm_long id None fits = refl
lterm_long (Dialogue user) (Some lterm) fits = absurd fits
lterm_long (Asynchronous number) (Some lterm) fits = padded_len lterm fits

lists_long : (parts : List Bytes) → length (flat_map list parts) ≡ sum_by list_length parts
lists_long [] = refl
lists_long (part ∷ parts) = omega (arith, length-append (list part) (flat_map list parts), list_long part, lists_long parts, sum_by-cons list_length part parts)

abbrev lssb_length : Bytes × Bytes → ℕ
lssb_length l = 8 + list_length l.1

lssbs_long : (lssbs : List (Bytes × Bytes)) → Each LssbFits lssbs → length (flat_map lssb_bytes lssbs) ≡ sum_by lssb_length lssbs
lssbs_long [] fit = refl
lssbs_long (l ∷ lssbs) fit =
    omega (arith, length-append (lssb_bytes l) (flat_map lssb_bytes lssbs), length-append (padded l.0) (list l.1), padded_len l.0 fit.0.0, list_long l.1, lssbs_long lssbs fit.1, sum_by-cons lssb_length l lssbs)

counted_long : {A : Type 0} (bytes_of : A → List ℕ) (xs : List A) → length (counted bytes_of xs) ≡ 4 + length (flat_map bytes_of xs)
counted_long bytes_of xs = omega (arith, length-append (to_be_bytes w32 (length xs)) (flat_map bytes_of xs))

target_long : (to : Target) → TargetFits to → length (target_bytes to) ≡ 9
target_long (Tac tac) fits = omega (arith, padded_len tac fits)
target_long (Lterm lterm) fits = omega (arith, padded_len lterm fits)

-- ---- values

pub job_parts : (v : JobValue) → length (job_bytes v) ≡ length (target_bytes v.to) + 8 + length (padded v.user) + length (padded v.lterm) + list_length v.message
job_parts v = omega (arith, job_lengths v, list_long v.message)

job_long : (v : JobValue) → JobFits v → job_length v ≡ length (job_bytes v)
job_long v fits = omega (arith, job_parts v, target_long v.to fits.to, padded_len v.user fits.user, padded_len v.lterm fits.lterm)

pub service_parts : (s : Service) → length (service_bytes s) ≡ length (padded s.first) + length (padded s.next) + 1 + length (padded s.user) + length (lterm_bytes s.lterm) + list_length s.kb + (4 + sum_by list_length s.handed) + last_length s.last + (4 + length (flat_map lssb_bytes s.lssbs))
service_parts s =
    omega (arith, service_lengths s, flag_long s.awaits, list_long s.kb, counted_long list s.handed, lists_long s.handed, last_long s.last, counted_long lssb_bytes s.lssbs)

service_long : (s : Service) → ServiceFits s → service_length s ≡ length (service_bytes s)
service_long s fits =
    omega (arith, service_parts s, padded_len s.first fits.first, padded_len s.next fits.next, padded_len s.user fits.user, lterm_long s.id s.lterm fits.lterm, lssbs_long s.lssbs fits.lssbs.1)

pub lengths_are_those_of_the_bytes : LengthsAreThoseOfTheBytes
lengths_are_those_of_the_bytes (row.Service id service) h = service_long service h.value
lengths_are_those_of_the_bytes (row.Job number value) h = job_long value h.value
lengths_are_those_of_the_bytes (row.Shown lterm value) h = job_long value h.value
lengths_are_those_of_the_bytes _ h = refl

-- ---- charges

abbrev record_charge : ℕ → Record → ℕ
record_charge blksize r = charge_of_length blksize (length r.1)

-- rows of one kind, before those of the kinds after
kind_charged : {E : Type 0} (blksize : ℕ) (row_of : E → Row) (es : List E) (rest : List Row) (more : ℕ) → Each (λ e. IsProperRow (row_of e)) es
    → sum_by (record_charge blksize) (map record_of rest) ≡ more
    → sum_by (record_charge blksize) (map record_of (map row_of es ++ rest)) ≡ sum_by (λ e. charge_of blksize (value_length (row_of e))) es + more
kind_charged blksize row_of [] rest more h is =
    let e : sum_by (record_charge blksize) (map record_of rest) ≡ 0 + more = omega (arith, is) in
    e
kind_charged blksize row_of (e ∷ es) rest more h is =
    omega (
      arith,
      sum_by-cons (record_charge blksize) (record_of (row_of e)) (map record_of (map row_of es ++ rest)),
      sum_by-cons (λ e. charge_of blksize (value_length (row_of e))) e es,
      ap (charge_of blksize) (lengths_are_those_of_the_bytes (row_of e) h.0),
      kind_charged blksize row_of es rest more h.1 is,
    )

last_charged : {E : Type 0} (blksize : ℕ) (row_of : E → Row) (es : List E) → Each (λ e. IsProperRow (row_of e)) es
    → sum_by (record_charge blksize) (map record_of (map row_of es)) ≡ sum_by (λ e. charge_of blksize (value_length (row_of e))) es
last_charged blksize row_of [] h = refl
last_charged blksize row_of (e ∷ es) h =
    omega (
      arith,
      sum_by-cons (record_charge blksize) (record_of (row_of e)) (map record_of (map row_of es)),
      sum_by-cons (λ e. charge_of blksize (value_length (row_of e))) e es,
      ap (charge_of blksize) (lengths_are_those_of_the_bytes (row_of e) h.0),
      last_charged blksize row_of es h.1,
    )

pub charges_are_those_of_the_bytes : ChargesAreThoseOfTheBytes
unfolding total_charge
charges_are_those_of_the_bytes blksize t proper =
    let h : EachRow IsProperRow t = each_row IsProperRow t proper in
    let shown = map shown_row t.shown in
    let jobs = map job_row t.jobs ++ shown in
    let services = map service_row t.services ++ jobs in
    let ulss = map uls_row t.ulss ++ services in
    let tlss = map tls_row t.tlss ++ ulss in
    omega (
      arith,
      kind_charged blksize gssb_row t.gssbs tlss _ h.gssbs refl,
      kind_charged blksize tls_row t.tlss ulss _ h.tlss refl,
      kind_charged blksize uls_row t.ulss services _ h.ulss refl,
      kind_charged blksize service_row t.services jobs _ h.services refl,
      kind_charged blksize job_row t.jobs shown _ h.jobs refl,
      last_charged blksize shown_row t.shown h.shown,
    )
