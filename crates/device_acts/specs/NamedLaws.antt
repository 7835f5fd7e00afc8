-- Laws: tables whose rows are named: those whose lists are, proper ones, and what named changes make of them.
use Rattle.std.specs.Prelude.{ℕ, List, Option, Some, None, IfSome, All}
use Rattle.std.proofs.lemmas.List.Elements.{All-from_recursion, All-weaker, recursion_from_All}
use Rattle.kd_base.specs.Text.{IsName}
use Rattle.kdcs_types.specs.declared.act.Change.{Change}
use Rattle.kdcs_types.specs.declared.act.Change.TheVariants.{Set, Remove}
use Rattle.kdcs_types.specs.declared.act.Changes.{Changes}
use Rattle.kdcs_types.specs.declared.act.Row.{Row}
use Rattle.kdcs_types.specs.declared.act.Row.TheVariants as row
use Rattle.kdcs_types.specs.declared.key.ServiceId.{ServiceId}
use Rattle.kdcs_types.specs.declared.key.ServiceId.TheVariants.{Dialogue, Asynchronous}
use Rattle.kdcs_types.specs.declared.service.JobValue.{JobValue}
use Rattle.kdcs_types.specs.declared.service.Service.{Service}
use Rattle.kdcs_types.specs.Tables.{TableRows, AreChanges, change_key, changed}
use Rattle.record_codec.specs.Order.{IsProperKey}
use Rattle.record_codec.specs.PatchesLaws.{EachRow, OfSet, all_rows, changes_keep, each_row}
use Rattle.record_codec.specs.Readings.{LtermFits}
use Rattle.record_codec.specs.Records.{rows_of}
use Rattle.record_codec.specs.RowReadings.{IsProperRow, ValueFits}
use Rattle.record_codec.specs.TableReadings.{AreProperTables}
use Rattle.record_codec.specs.WholeValues.{JobFits, LssbFits, ServiceFits}
use Rattle.device_acts.specs.Named.{HasAreaName, IsNamedChange, IsNamedJob, IsNamedRow, IsNamedService, IsNamedValue}
use Rattle.device_acts.specs.NamedTables.{AreNamedTables}

-- ---- proper rows

lterm_named : (id : ServiceId) (lterm : Option (List ℕ)) → LtermFits id lterm → IfSome lterm IsName
lterm_named id None fits = tt
lterm_named (Dialogue user) (Some lterm) fits = absurd fits
lterm_named (Asynchronous number) (Some lterm) fits = fits

service_named : (s : Service) → ServiceFits s → IsNamedService s
service_named s fits = record {
  first = fits.first;
  next = fits.next;
  user = fits.user;
  lterm = lterm_named s.id s.lterm fits.lterm;
  lssbs = All-weaker LssbFits HasAreaName (λ l h. h.0) s.lssbs (All-from_recursion LssbFits s.lssbs fits.lssbs.1);
}

job_named : (v : JobValue) → JobFits v → IsNamedJob v
job_named v fits = record { to = fits.to; redelivered = fits.redelivered; user = fits.user; lterm = fits.lterm }

value_named : (r : Row) → ValueFits r → IsNamedValue r
value_named (row.Gssb name content) fits = tt
value_named (row.Tls block lterm content) fits = tt
value_named (row.Uls block user content) fits = tt
value_named (row.Service id service) fits = service_named service fits
value_named (row.Job number value) fits = job_named value fits
value_named (row.Shown lterm value) fits = job_named value fits

row_named : (r : Row) → IsProperRow r → IsNamedRow r
row_named r proper = record { key = proper.key; value = value_named r proper.value }

pub proper_named : (t : TableRows) → AreProperTables t → AreNamedTables t
proper_named t proper = All-weaker IsProperRow IsNamedRow row_named (rows_of t) proper

-- ---- changes

sets_named : (c : Change) → IsNamedChange c → OfSet IsNamedRow c
sets_named (Set r) named = named
sets_named (Remove k) named = tt

pub named_changed : (t : TableRows) (c : Changes) → AreNamedTables t → All IsNamedChange c.items → AreChanges c.items → AreNamedTables (changed t c)
named_changed t c rows changes are =
    let kept = each_row IsNamedRow t rows in
    let begun : EachRow IsNamedRow (record t { clock = c.clock; next_job = c.next_job }) = record { gssbs = kept.gssbs; tlss = kept.tlss; ulss = kept.ulss; services = kept.services; jobs = kept.jobs; shown = kept.shown } in
    let sets = recursion_from_All (OfSet IsNamedRow) c.items (All-weaker IsNamedChange (OfSet IsNamedRow) sets_named c.items changes) in
    all_rows IsNamedRow (changed t c) (changes_keep IsNamedRow c.items (record t { clock = c.clock; next_job = c.next_job }) begun sets are.fit)

-- ---- keys

-- the key of a change is proper
abbrev pub HasProperChange : Change → Type 0
HasProperChange c = IsProperKey (change_key c)

key_named : (c : Change) → IsNamedChange c → HasProperChange c
key_named (Set r) named = named.key
key_named (Remove k) named = named

pub keys_named : (cs : List Change) → All IsNamedChange cs → All HasProperChange cs
keys_named cs named = All-weaker IsNamedChange HasProperChange key_named cs named
