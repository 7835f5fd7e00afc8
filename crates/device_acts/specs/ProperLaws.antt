-- Rows with names, of tables in order that suit a generation, are proper.
use Rattle.std.specs.Prelude.{◌+◌, ◌≤◌, ◌<◌, ◌^◌, ℕ, IsTrue, List, [], ◌∷◌, length, sum_by, Option, Some, None, IfSome, All}
use Rattle.std.proofs.Common.{arith, sym, true≢false}
use Rattle.std.proofs.lemmas.List.Elements.{All-from_recursion, recursion_from_All}
use Rattle.std.proofs.lemmas.List.Sums.{sum_by-cons}
use Rattle.std.specs.Cmp.Lexicographic.{slice_cmp}
use Rattle.std.specs.FinMap.{is_sorted}
use Rattle.std.specs.List.{AllByRecursion as Each}
use Rattle.std.specs.Ordering.{nat_cmp}
use Rattle.kd_base.specs.Text.{IsName}
use Rattle.kd_base.specs.ToolsLaws.{both_true}
use Rattle.kdcs_types.specs.declared.act.Row.{Row}
use Rattle.kdcs_types.specs.declared.act.Row.TheVariants as row
use Rattle.kdcs_types.specs.declared.key.ServiceId.{ServiceId}
use Rattle.kdcs_types.specs.declared.key.ServiceId.TheVariants.{Dialogue, Asynchronous}
use Rattle.kdcs_types.specs.declared.service.Job.{Job}
use Rattle.kdcs_types.specs.declared.service.JobValue.{JobValue}
use Rattle.kdcs_types.specs.declared.service.Service.{Service}
use Rattle.kdcs_types.specs.Keys.{id_eq}
use Rattle.kdcs_types.specs.Tables.{TableRows, IsSortedTables, lterm_fits, service_fits}
use Rattle.application_types.specs.Soundness.{AreLimits}
use Rattle.application_types.specs.Generation.{Generated}
use Rattle.abstract_monitor.specs.Bytes.{Bytes}
use Rattle.abstract_monitor.specs.Charges.{job_length, last_length, list_length, service_length}
use Rattle.laws_of_states.specs.Suits.{Suits}
use Rattle.record_codec.specs.Fields.{IsShort}
use Rattle.record_codec.specs.PatchesLaws.{EachRow, all_rows}
use Rattle.record_codec.specs.Readings.{LastFits, LtermFits}
use Rattle.record_codec.specs.Records.{rows_of}
use Rattle.record_codec.specs.RowReadings.{IsProperRow, ValueFits}
use Rattle.record_codec.specs.TableReadings.{AreProperTables}
use Rattle.record_codec.specs.TableReadingsLaws.{FitsThere, rows_fit}
use Rattle.record_codec.specs.Values.{due_in}
use Rattle.record_codec.specs.WholeValues.{JobFits, LssbFits, ServiceFits}
use Rattle.table_fit.specs.Charging.{AreShort, RowsSuit}
use Rattle.table_fit.specs.ChargingLaws.{rows_short, shown_few}
use Rattle.table_fit.specs.Lengths.{value_length}
use Rattle.table_fit.specs.ShortLaws.{suiting_dues}
use Rattle.device_acts.specs.Named.{IsNamedJob, IsNamedRow, IsNamedService, IsNamedValue}
use Rattle.device_acts.specs.NamedTables.{AreNamedTables}

-- ---- lengths

parts_few : (ps : List Bytes) → length ps ≤ sum_by list_length ps
parts_few [] = omega arith
parts_few (p ∷ ps) = omega (arith, parts_few ps, sum_by-cons list_length p ps)

parts_short : (ps : List Bytes) → sum_by list_length ps < 2 ^ 32 → Each IsShort ps
parts_short [] h = tt
parts_short (p ∷ ps) h = (omega (arith, h, sum_by-cons list_length p ps), parts_short ps (omega (arith, h, sum_by-cons list_length p ps)))

abbrev lssb_length : Bytes × Bytes → ℕ
lssb_length l = 8 + list_length l.1

lssbs_few : (ls : List (Bytes × Bytes)) → length ls ≤ sum_by lssb_length ls
lssbs_few [] = omega arith
lssbs_few (l ∷ ls) = omega (arith, lssbs_few ls, sum_by-cons lssb_length l ls)

lssbs_fit : (ls : List (Bytes × Bytes)) → Each (λ (l : Bytes × Bytes). IsName l.0) ls → sum_by lssb_length ls < 2 ^ 32 → Each LssbFits ls
lssbs_fit [] named h = tt
lssbs_fit (l ∷ ls) named h = ((named.0, omega (arith, h, sum_by-cons lssb_length l ls)), lssbs_fit ls named.1 (omega (arith, h, sum_by-cons lssb_length l ls)))

last_short : (last : Option Bytes) → last_length last < 2 ^ 32 → LastFits last
last_short None h = tt
last_short (Some message) h = omega (arith, h)

-- ---- values

-- a dialogue service has no LTERM, and an asynchronous one has a name
lterm_there : (id : ServiceId) (lterm : Option Bytes) → IsTrue (lterm_fits id lterm) → IfSome lterm IsName → LtermFits id lterm
lterm_there (Dialogue user) None fits named = tt
lterm_there (Dialogue user) (Some lterm) fits named = absurd (true≢false (sym fits))
lterm_there (Asynchronous number) None fits named = absurd (true≢false (sym fits))
lterm_there (Asynchronous number) (Some lterm) fits named = named

service_proper : (s : Service) → IsNamedService s → IsTrue (service_fits s) → service_length s < 2 ^ 32 → ServiceFits s
service_proper s named fits short =
    let parts : sum_by list_length s.handed < 2 ^ 32 = omega (arith, short) in
    let lssbs : sum_by lssb_length s.lssbs < 2 ^ 32 = omega (arith, short) in
    record {
      first = named.first;
      next = named.next;
      user = named.user;
      lterm = lterm_there s.id s.lterm (both_true (lterm_fits s.id s.lterm) (is_sorted (slice_cmp nat_cmp) s.lssbs) fits).0 named.lterm;
      kb = omega (arith, short);
      handed = (omega (arith, parts, parts_few s.handed), parts_short s.handed parts);
      last = last_short s.last (omega (arith, short));
      lssbs = (omega (arith, lssbs, lssbs_few s.lssbs), lssbs_fit s.lssbs (recursion_from_All (λ (l : Bytes × Bytes). IsName l.0) s.lssbs named.lssbs) lssbs);
    }

job_proper : (v : JobValue) → IsNamedJob v → v.due < 2 ^ 56 → job_length v < 2 ^ 32 → JobFits v
job_proper v named due short = record { to = named.to; due = due; redelivered = named.redelivered; user = named.user; lterm = named.lterm; message = omega (arith, short) }

value_proper : (r : Row) → IsNamedValue r → FitsThere r → due_in r < 2 ^ 56 → value_length r < 2 ^ 32 → ValueFits r
value_proper (row.Gssb name content) named fits due short = tt
value_proper (row.Tls block lterm content) named fits due short = tt
value_proper (row.Uls block user content) named fits due short = tt
value_proper (row.Service id service) named fits due short = service_proper service named (both_true (id_eq service.id id) (service_fits service) fits).1 short
value_proper (row.Job number value) named fits due short = job_proper value named due short
value_proper (row.Shown lterm value) named fits due short = job_proper value named due short

row_proper : (r : Row) → IsNamedRow r → FitsThere r → due_in r < 2 ^ 56 → value_length r < 2 ^ 32 → IsProperRow r
row_proper r named fits due short = record { key = named.key; value = value_proper r named.value fits due short }

-- ---- tables

rows_suit : (g : Generated) (t : TableRows) → Suits g t → RowsSuit g t
rows_suit g t s = record { count = s.count; gssbs = s.gssbs; tlss = s.tlss; ulss = s.ulss; services = s.services; durable = s.durable; jobs = s.jobs; shown = s.shown }

abbrev HasShortLength : Row → Type 0
HasShortLength r = value_length r < 2 ^ 32

each_short : (t : TableRows) → AreShort t → EachRow HasShortLength t
each_short t short = record {
  gssbs = recursion_from_All (λ (r : Bytes × Bytes). length r.1 < 2 ^ 32) t.gssbs short.gssbs;
  tlss = recursion_from_All (λ (r : Bytes × Bytes × Bytes). length r.2 < 2 ^ 32) t.tlss short.tlss;
  ulss = recursion_from_All (λ (r : Bytes × Bytes × Bytes). length r.2 < 2 ^ 32) t.ulss short.ulss;
  services = recursion_from_All (λ (s : Service). service_length s < 2 ^ 32) t.services short.services;
  jobs = recursion_from_All (λ (j : Job). job_length j.value < 2 ^ 32) t.jobs short.jobs;
  shown = recursion_from_All (λ (r : Bytes × JobValue). job_length r.1 < 2 ^ 32) t.shown short.shown;
}

pub named_proper : (g : Generated) (t : TableRows) → AreLimits g.limits → IsSortedTables t → Suits g t → AreNamedTables t → AreProperTables t
named_proper g t limits sorted suits named =
    let few = shown_few g.limits.blksize g.limits.pgpool t limits.blksize (omega (arith, limits.pgpool)) suits.charge in
    let short : All HasShortLength (rows_of t) = all_rows HasShortLength t (each_short t (rows_short g t limits (rows_suit g t suits) few)) in
    let fits : All FitsThere (rows_of t) = All-from_recursion FitsThere (rows_of t) (rows_fit t sorted) in
    λ k d i. row_proper _ (named k d i) (fits k d i) (suiting_dues g t suits k d i) (short k d i)
