-- The content of tables that suit a generation is one that a file can keep.
use Rattle.std.specs.Prelude.{◌≡◌, refl, ℕ, ◌-◌, ◌^◌, ◌<◌, ◌≤◌, List, ◌++◌, length, replicate}
use Rattle.std.proofs.Common.{arith, length-append}
use Rattle.std.proofs.lemmas.List.{length-replicate}
use Rattle.std.proofs.lemmas.List.Elements.{All-map}
use Rattle.kd_base.specs.RoundTripsLaws.{padded_len}
use Rattle.kd_base.specs.Text.{IsName, padded}
use Rattle.kd_records.specs.Charge.{total_charge as records_charge}
use Rattle.kd_records.specs.ChargeLaws.{length_within}
use Rattle.kd_records.specs.Contents.{IsContent, IsKey, IsRecord}
use Rattle.application_types.specs.Soundness.{AreLimits}
use Rattle.application_types.specs.Generation.{Generated}
use Rattle.kdcs_types.specs.declared.act.Row.{Row}
use Rattle.kdcs_types.specs.declared.key.Key.{Key}
use Rattle.kdcs_types.specs.declared.key.Key.TheVariants as key
use Rattle.kdcs_types.specs.declared.key.ServiceId.TheVariants.{Dialogue, Asynchronous}
use Rattle.kdcs_types.specs.Keys.{key_kind}
use Rattle.kdcs_types.specs.Tables.{TableRows, row_key}
use Rattle.laws_of_states.specs.Suits.{Suits}
use Rattle.record_codec.specs.Order.{IsProperKey}
use Rattle.record_codec.specs.Records.{content_of_tables, rows_of}
use Rattle.record_codec.specs.RowReadings.{IsProperRow}
use Rattle.record_codec.specs.TableReadings.{AreProperTables}
use Rattle.record_codec.specs.TableReadingsLaws.{records_ascend}
use Rattle.record_codec.specs.Values.{filled, key_bytes, record_key, record_of, HasShortValue}
use Rattle.table_fit.specs.LengthsLaws.{charges_are_those_of_the_bytes}
use Rattle.table_fit.specs.ShortLaws.{suiting_tables_are_short}
use Rattle.device_acts.specs.Stands.{AreTables}

-- ---- keys

kind_there : (k : Key) → (0 < key_kind k) × (key_kind k < 2 ^ 8)
kind_there (key.Gssb name) = (omega arith, omega arith)
kind_there (key.Tls block lterm) = (omega arith, omega arith)
kind_there (key.Uls block user) = (omega arith, omega arith)
kind_there (key.Service id) = (omega arith, omega arith)
kind_there (key.Job number) = (omega arith, omega arith)
kind_there (key.Shown lterm) = (omega arith, omega arith)

two_long : (a b : List ℕ) → IsName a → IsName b → length (padded a ++ padded b) ≤ 24
two_long a b h k = omega (arith, length-append (padded a) (padded b), padded_len a h, padded_len b k)

bytes_long : (k : Key) → IsProperKey k → length (key_bytes k) ≤ 24
bytes_long (key.Gssb name) h = omega (arith, padded_len name h)
bytes_long (key.Tls block lterm) h = two_long block lterm h.0 h.1
bytes_long (key.Uls block user) h = two_long block user h.0 h.1
bytes_long (key.Service (Dialogue user)) h = omega (arith, padded_len user h)
bytes_long (key.Service (Asynchronous number)) h = omega arith
bytes_long (key.Job number) h = omega arith
bytes_long (key.Shown lterm) h = omega (arith, padded_len lterm h)

filled_long : (bytes : List ℕ) → length bytes ≤ 24 → length (filled bytes) ≡ 24
filled_long bytes h =
    let zeros : length (replicate {A = ℕ} (24 - length bytes) 0) ≡ 24 - length bytes = length-replicate {A = ℕ} (24 - length bytes) 0 in
    omega (arith, h, zeros, length-append bytes (replicate (24 - length bytes) 0))

pub record_key_there : (k : Key) → IsProperKey k → IsKey (record_key k)
record_key_there k h = record { kind_from_one = (kind_there k).0; kind_is_byte = (kind_there k).1; key_length = filled_long (key_bytes k) (bytes_long k h) }

-- ---- contents

record_there : (r : Row) → IsProperRow r → HasShortValue r → IsRecord (record_of r)
record_there r h k =
    let is = record_key_there (row_key r) h.key in
    record { kind_from_one = is.kind_from_one; kind_is_byte = is.kind_is_byte; key_length = is.key_length; value_length = k.short }

-- there are pages for what is kept
pub content_charged : (g : Generated) (t : TableRows) → AreProperTables t → Suits g t → records_charge g.limits.blksize (content_of_tables t).items ≤ g.limits.pgpool
content_charged g t proper suits = omega (arith, suits.charge, charges_are_those_of_the_bytes g.limits.blksize t proper)

pub content_there : (g : Generated) (t : TableRows) → AreLimits g.limits → AreTables t → Suits g t → IsContent (content_of_tables t)
content_there g t limits tables suits =
    let short = suiting_tables_are_short g t limits suits tables.proper in
    record {
      clock = omega (arith, suits.clock);
      next_job = omega (arith, suits.next_job);
      records = All-map IsRecord record_of (rows_of t) (λ k d i. record_there _ (tables.proper k d i) (short k d i));
      ascending = records_ascend (content_of_tables t) t tables.proper (record { sorted = tables.sorted; records = refl });
      few = omega (arith, length_within g.limits.blksize (content_of_tables t).items, content_charged g t tables.proper suits, limits.pgpool);
    }
