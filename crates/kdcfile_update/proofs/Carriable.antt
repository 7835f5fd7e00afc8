-- That a store can keep the carried tables in place of its own.
use Rattle.std.proofs.Common.{◌≡◌, ◌<◌, ◌≤◌, ◌^◌, ℕ, length, sym, subst, ◌∙◌, arith}
use Rattle.std.specs.Prelude.{⊤, All, Ok}
use Rattle.std.proofs.lemmas.List.Elements.{All-from_recursion, All-weaker, recursion_from_All}
use Rattle.kd_records.specs.Charge.{total_charge as records_charge}
use Rattle.kd_records.specs.Contents.{IsContent, IsRecord, Record}
use Rattle.kd_records.specs.declared.content.Content.{Content}
use Rattle.kdcfile_store.specs.Paged.{Paged}
use Rattle.kdcs_types.specs.declared.act.Row.{Row}
use Rattle.kdcs_types.specs.Tables.{TableRows}
use Rattle.application_types.specs.Soundness.{AreLimits}
use Rattle.application_types.specs.Generation.{Generated}
use Rattle.record_codec.specs.PatchesLaws.{each_row, each_unmapped}
use Rattle.record_codec.specs.Records.{content_of_tables, rows_of}
use Rattle.record_codec.specs.TableReadings.{AreProperTables}
use Rattle.record_codec.specs.Values.{record_of}
use Rattle.table_fit.specs.Charging.{AreShort}
use Rattle.table_fit.specs.Lengths.{value_length}
use Rattle.table_fit.specs.LengthsLaws.{charges_are_those_of_the_bytes, lengths_are_those_of_the_bytes}
use Rattle.table_fit.specs.ShortLaws.{suiting_tables_are_short}
use Rattle.device_acts.specs.ContentLaws.{content_charged, content_there}
use Rattle.device_acts.specs.Stands.{KeepsTables}
use Rattle.kd_update.specs.Carrying.{carried}
use Rattle.kd_update.specs.Judging.{judged}
use Rattle.kd_update.specs.SuitingLaws.{carried_tables_suit, passed_all}
use Rattle.record_codec.specs.Records.{HasShortValues}
use Rattle.kdcfile_update.specs.Parts.{CanCarry, stored_in}
use Rattle.kdcfile_update.specs.Updating.{judgement}
use Rattle.kdcfile_update.specs.UpdatingLaws.{carried_are_tables}

-- ---- what a store keeps is short

abbrev HasShortLength : Row → Type 0
HasShortLength r = value_length r < 2 ^ 32

abbrev HasShortBytes : Record → Type 0
HasShortBytes x = length x.1 < 2 ^ 32

rows_short : (t : TableRows) → AreProperTables t → IsContent (content_of_tables t) → All HasShortLength (rows_of t)
rows_short t proper content =
    let bytes = All-from_recursion (λ (r : Row). HasShortBytes (record_of r)) (rows_of t)
    (each_unmapped HasShortBytes record_of (rows_of t) (recursion_from_All HasShortBytes (content_of_tables t).items (All-weaker IsRecord HasShortBytes (λ x h. h.value_length) (content_of_tables t).items content.records))) in
    λ k d i. subst (λ (n : ℕ). n < 2 ^ 32) (sym (lengths_are_those_of_the_bytes _ (proper k d i))) (bytes k d i)

pub kept_short : (store : Paged) (t : TableRows) → IsContent store.content → KeepsTables store.identity store t → AreShort t
kept_short store t content keeps =
    let h = each_row HasShortLength t (rows_short t keeps.tables.proper (subst IsContent keeps.content content)) in
    record {
      gssbs = All-from_recursion _ t.gssbs h.gssbs;
      tlss = All-from_recursion _ t.tlss h.tlss;
      ulss = All-from_recursion _ t.ulss h.ulss;
      services = All-from_recursion _ t.services h.services;
      jobs = All-from_recursion _ t.jobs h.jobs;
      shown = All-from_recursion _ t.shown h.shown;
    }

-- ---- the carried tables

-- what was judged by the sizes that the store told
pub judged_there : (g : Generated) (store : Paged) (t new : TableRows) (blksize pgpool : ℕ) (v : ⊤) → Ok v ≡ judged g blksize pgpool t new → blksize ≡ store.identity.blksize → pgpool ≡ store.identity.pages → new ≡ carried g t → judgement g (stored_in store t) ≡ Ok tt
judged_there g store t new blksize pgpool v is block pool new_is = sym (is ∙ (λ i. judged g (block i) (pool i) t (new_is i)))

module _ (g : Generated) (store : Paged) (t : TableRows) (limits : AreLimits g.limits) (keeps : KeepsTables store.identity store t) (judged : judgement g (stored_in store t) ≡ Ok tt) where
  pub new_short : HasShortValues (carried g t)
  new_short =
      suiting_tables_are_short g (carried g t) limits (carried_tables_suit g store.identity.blksize store.identity.pages t judged)
      (carried_are_tables g t limits keeps.tables).proper

  pub can_carry : (x : Content) → x ≡ content_of_tables (carried g t) → CanCarry g.limits.blksize g.limits.pgpool store x
  can_carry x is =
      let passed = passed_all g store.identity.blksize store.identity.pages t (carried g t) judged in
      let suits = carried_tables_suit g store.identity.blksize store.identity.pages t judged in
      let tables = carried_are_tables g t limits keeps.tables in
      let old : records_charge store.identity.blksize (content_of_tables t).items ≤ store.identity.pages =
      omega (arith, passed.old_charge, charges_are_those_of_the_bytes store.identity.blksize t keeps.tables.proper) in
      record {
        block = sym passed.block;
        pool = passed.pool;
        content = subst IsContent (sym is) (content_there g (carried g t) limits tables suits);
        before = subst (λ (y : Content). records_charge store.identity.blksize y.items ≤ store.identity.pages) (sym keeps.content) old;
        after = subst (λ (y : Content). records_charge g.limits.blksize y.items ≤ g.limits.pgpool) (sym is) (content_charged g (carried g t) tables.proper suits);
      }
