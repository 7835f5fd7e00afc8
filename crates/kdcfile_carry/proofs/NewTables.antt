-- That the first file can keep the carried tables in place of its own.
use Rattle.std.specs.Prelude.{◌≡◌, ⊤, ◌≤◌, ◌<◌, ◌^◌, ℕ, ◌+◌, Bool, true, false, not, List, Option, Some, None, All, length, is_some, nat_le, Result, Ok}
use Rattle.std.proofs.Common.{refl, sym, subst, ◌∙◌, arith}
use Rattle.std.specs.Ordering.{eq_by_cmp}
use Rattle.std.proofs.lemmas.Bool.{leb-true}
use Rattle.std.proofs.lemmas.List.Elements.{All-filter, All-from_recursion, All-weaker, recursion_from_All}
use Rattle.kd_records.specs.Charge.{IsBlockSize, total_charge as records_charge}
use Rattle.kd_records.specs.ContentLaws.{patch_keeps_content}
use Rattle.kd_records.specs.Contents.{IsContent, IsRecord, Record}
use Rattle.kd_records.specs.Identity.{IsIdentity}
use Rattle.kd_records.specs.Keys.{key_cmp}
use Rattle.kd_records.specs.declared.content.Content.{Content}
use Rattle.kdcs_types.specs.declared.act.Row.{Row}
use Rattle.kdcs_types.specs.Tables.{TableRows}
use Rattle.application_types.specs.Generation.{Generated}
use Rattle.application_types.specs.Soundness.{AreLimits}
use Rattle.record_codec.specs.PatchesLaws.{each_row, each_unmapped}
use Rattle.record_codec.specs.Records.{HasShortValues, content_of_tables, rows_of}
use Rattle.record_codec.specs.TableReadings.{AreProperTables}
use Rattle.record_codec.specs.Values.{record_of}
use Rattle.laws_of_states.specs.Suits.{Suits}
use Rattle.table_fit.specs.Charging.{AreShort}
use Rattle.table_fit.specs.Lengths.{value_length}
use Rattle.table_fit.specs.LengthsLaws.{charges_are_those_of_the_bytes, lengths_are_those_of_the_bytes}
use Rattle.table_fit.specs.ShortLaws.{suiting_tables_are_short}
use Rattle.device_acts.specs.ContentLaws.{content_charged, content_there}
use Rattle.device_acts.specs.Stands.{AreTables}
use Rattle.kdcfile_copies.specs.Copies.{IsBare, bare, sequence_alone, sequence_key, with_sequence}
use Rattle.kdcfile_copies.specs.CopiesLaws.{alone_is_patch, bare_with_sequence, sequence_is_one_page}
use Rattle.kd_update.specs.Carrying.{carried}
use Rattle.kd_update.specs.Judging.{else_fault, judged}
use Rattle.kdcfile_update.specs.Parts.{CanCarry}
use Rattle.kd_update.specs.SuitingLaws.{Passed, carried_tables_suit, passed_all}
use Rattle.kdcfile_update.specs.UpdatingLaws.{carried_are_tables}
use Rattle.kd_update.specs.declared.error.UpdateError.{UpdateError}
use Rattle.carry_steps.specs.Deciding.{next_sequence}
use Rattle.kdcfile_carry.specs.declared.finding.Kept.{Kept}
use Rattle.kdcfile_carry.specs.FilesLaws.{tables_are_bare}
use Rattle.kdcfile_carry.specs.Keeping.{IsKnown, content_by, files_in}
use Rattle.kdcfile_carry.specs.WaysLaws.{both_judged}
use Rattle.kdcfile_carry.specs.Ways.{judgement, made_by, made_with, pool_by, room_by}

-- ---- what files keep is short

abbrev HasShortLength : Row → Type 0
HasShortLength r = value_length r < 2 ^ 32

abbrev HasShortBytes : Record → Type 0
HasShortBytes x = length x.1 < 2 ^ 32

bare_records : (y : Content) → IsContent y → All IsRecord (bare y).items
bare_records y is = All-filter (λ (r : Record). not (eq_by_cmp key_cmp sequence_key r.0)) IsRecord y.items is.records

own_records : (s : Option ℕ) (x : Content) → IsBare x → IsContent (content_by s x) → All IsRecord x.items
own_records None x none is = is.records
own_records (Some n) x none is = subst (λ (z : Content). All IsRecord z.items) (bare_with_sequence n x none) (bare_records (with_sequence n x) is)

pub tables_short : (t : TableRows) → AreProperTables t → All IsRecord (content_of_tables t).items → AreShort t
tables_short t proper records =
    let bytes = All-from_recursion (λ (r : Row). HasShortBytes (record_of r)) (rows_of t)
    (each_unmapped HasShortBytes record_of (rows_of t) (recursion_from_All HasShortBytes (content_of_tables t).items (All-weaker IsRecord HasShortBytes (λ x h. h.value_length) (content_of_tables t).items records))) in
    let rows : All HasShortLength (rows_of t) = λ k d i. subst (λ (n : ℕ). n < 2 ^ 32) (sym (lengths_are_those_of_the_bytes _ (proper k d i))) (bytes k d i) in
    let h = each_row HasShortLength t rows in
    record {
      gssbs = All-from_recursion _ t.gssbs h.gssbs;
      tlss = All-from_recursion _ t.tlss h.tlss;
      ulss = All-from_recursion _ t.ulss h.ulss;
      services = All-from_recursion _ t.services h.services;
      jobs = All-from_recursion _ t.jobs h.jobs;
      shown = All-from_recursion _ t.shown h.shown;
    }

pub kept_short : (k : Kept) → IsKnown k → AreShort k.tables
kept_short k known = tables_short k.tables known.tables.proper (own_records k.sequence (content_of_tables k.tables) (tables_are_bare k.tables) (subst IsContent known.records known.content))

-- ---- the tests

passed : (b : Bool) (fault : UpdateError) (after : Result ⊤ UpdateError) → else_fault b fault after ≡ Ok tt → (b ≡ true) × (after ≡ Ok tt)
passed true fault after h = (refl, h)
passed false fault after h = absurd cc

-- ---- pages

before_by : (s : Option ℕ) (blksize pages : ℕ) (x : Content) → IsBlockSize blksize → IsBare x → 16 ≤ pages → records_charge blksize x.items ≤ pool_by s pages → records_charge blksize (content_by s x).items ≤ pages
before_by None blksize pages x block none least le = le
before_by (Some n) blksize pages x block none least le = omega (arith, sequence_is_one_page blksize n x block none, le, least)

after_by : (double : Bool) (s : Option ℕ) (g : Generated) (fingerprint : List ℕ) (x : Content) → IsBlockSize g.limits.blksize → IsBare x → records_charge g.limits.blksize x.items ≤ g.limits.pgpool
    → records_charge (made_by double g fingerprint).blksize (content_by (next_sequence double s) x).items ≤ (made_by double g fingerprint).pages
after_by false s g fingerprint x block none le = le
after_by true None g fingerprint x block none le = omega (arith, sequence_is_one_page g.limits.blksize 0 x block none, le)
after_by true (Some n) g fingerprint x block none le = omega (arith, sequence_is_one_page g.limits.blksize (n + 1) x block none, le)

pool_fits : (double : Bool) (s : Option ℕ) (g : Generated) (fingerprint : List ℕ) (pages : ℕ) → pool_by s pages ≤ g.limits.pgpool → room_by double s pages g.limits.pgpool ≡ Ok tt → pages ≤ (made_by double g fingerprint).pages
pool_fits false None g fingerprint pages le room = le
pool_fits false (Some n) g fingerprint pages le room = leb-true pages g.limits.pgpool (passed (nat_le pages g.limits.pgpool) _ _ room).0
pool_fits true None g fingerprint pages le room = omega (arith, le)
pool_fits true (Some n) g fingerprint pages le room = omega (arith, le)

content_fits : (s : Option ℕ) (blksize pages : ℕ) (x : Content) → IsBlockSize blksize → pages ≤ 30000 → IsContent x → records_charge blksize (content_by s x).items ≤ pages → IsContent (content_by s x)
content_fits None blksize pages x block most is le = is
content_fits (Some n) blksize pages x block most is le = patch_keeps_content blksize pages x (sequence_alone n x) block most is (alone_is_patch n x) is.clock is.next_job le

block_by : (double : Bool) (g : Generated) (fingerprint : List ℕ) → (made_by double g fingerprint).blksize ≡ g.limits.blksize
block_by false g fingerprint = refl
block_by true g fingerprint = refl

module _ (g : Generated) (k : Kept) (known : IsKnown k) (limits : AreLimits g.limits) (judged_so : judgement g (files_in k) ≡ Ok tt) where
  abbrev pool : ℕ
  pool = pool_by k.sequence k.file.store.identity.pages

  parts : (judged g k.file.store.identity.blksize pool k.tables (carried g k.tables) ≡ Ok tt) × (room_by (is_some g.double) k.sequence k.file.store.identity.pages g.limits.pgpool ≡ Ok tt)
  parts = both_judged (judged g k.file.store.identity.blksize (pool_by k.sequence k.file.store.identity.pages) k.tables (carried g k.tables)) (room_by (is_some g.double) k.sequence k.file.store.identity.pages g.limits.pgpool) judged_so

  tests : Passed g k.file.store.identity.blksize pool k.tables (carried g k.tables)
  tests = passed_all g k.file.store.identity.blksize pool k.tables (carried g k.tables) parts.0

  pub new_suit : Suits g (carried g k.tables)
  new_suit = carried_tables_suit g k.file.store.identity.blksize pool k.tables parts.0

  pub new_are_tables : AreTables (carried g k.tables)
  new_are_tables = carried_are_tables g k.tables limits known.tables

  pub new_short : HasShortValues (carried g k.tables)
  new_short = suiting_tables_are_short g (carried g k.tables) limits new_suit new_are_tables.proper

  block : IsBlockSize g.limits.blksize
  block = subst IsBlockSize tests.block known.identity.blksize

  before : records_charge k.file.store.identity.blksize k.file.store.content.items ≤ k.file.store.identity.pages
  before =
      subst (λ (y : Content). records_charge k.file.store.identity.blksize y.items ≤ k.file.store.identity.pages) (sym known.records)
      (before_by k.sequence k.file.store.identity.blksize k.file.store.identity.pages (content_of_tables k.tables) known.identity.blksize (tables_are_bare k.tables) known.identity.least
      (omega (arith, tests.old_charge, charges_are_those_of_the_bytes k.file.store.identity.blksize k.tables known.tables.proper)))

  module _ (fingerprint : List ℕ) (made : IsIdentity (made_with g fingerprint)) where
    after : records_charge (made_with g fingerprint).blksize (content_by (next_sequence (is_some g.double) k.sequence) (content_of_tables (carried g k.tables))).items ≤ (made_with g fingerprint).pages
    after = after_by (is_some g.double) k.sequence g fingerprint (content_of_tables (carried g k.tables)) block (tables_are_bare (carried g k.tables)) (content_charged g (carried g k.tables) new_are_tables.proper new_suit)

    pub can_replace : (x : Content) → x ≡ content_by (next_sequence (is_some g.double) k.sequence) (content_of_tables (carried g k.tables)) → CanCarry (made_with g fingerprint).blksize (made_with g fingerprint).pages k.file.store x
    can_replace x is = record {
      block = block_by (is_some g.double) g fingerprint ∙ sym tests.block;
      pool = pool_fits (is_some g.double) k.sequence g fingerprint k.file.store.identity.pages tests.pool parts.1;
      content = subst IsContent (sym is)
          (content_fits (next_sequence (is_some g.double) k.sequence) (made_with g fingerprint).blksize (made_with g fingerprint).pages (content_of_tables (carried g k.tables)) made.blksize made.most
          (content_there g (carried g k.tables) limits new_are_tables new_suit) after);
      before = before;
      after = subst (λ (y : Content). records_charge (made_with g fingerprint).blksize y.items ≤ (made_with g fingerprint).pages) (sym is) after;
    }
