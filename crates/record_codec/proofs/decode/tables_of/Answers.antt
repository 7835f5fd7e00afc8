use Rattle.std.proofs.Common.{rules, ◌≡◌, refl, sym, ap, ◌∙◌, subst, All, true, false, List}
use Rattle.std.specs.Prelude.{Some, None}
use Rattle.std.specs.FinMap.{is_sorted}
use Rattle.kd_records.specs.Contents.{Record}
use Rattle.kd_records.specs.Keys.{key_cmp}
use Rattle.record_codec.specs.Records.{AreTablesOf}
use Rattle.record_codec.specs.TableReadings.{AreRecordBytes, sets_read, changes_of, AreProperTables}
use Rattle.record_codec.specs.OneToOneLaws.{tables_are_one_to_one}
use Rattle.record_codec.specs.TableReadingsLaws.{changes_are, tables_there, tables_proper, no_tables_unread, no_tables_unsorted}
use Rattle.record_codec.proofs.Failed.{not_read}
use Rattle.record_codec.proofs.decode.tables_of.Goals as goal

pub returns-then-not-ascend-clause-none : goal.returns-then-not-ascend-clause-none
returns-then-not-ascend-clause-none c =
    let falls : is_sorted key_cmp c.args.content.now.items ≡ false = search rules in
    λ _ t h are. no_tables_unsorted c.args.content.now falls t h are

pub tables_with-requires : goal.tables_with-requires
tables_with-requires c =
    let rises : is_sorted key_cmp c.args.content.now.items ≡ true = search rules in
    changes_are c.args.content.now.items c.in-Ok.items (subst (All AreRecordBytes) c.as_slice-records.ensures c.in-Ok.ensures.bytes) rises
    (subst (λ (xs : List Record). sets_read xs ≡ Some c.in-Ok.items) c.as_slice-records.ensures c.in-Ok.ensures.read)

pub returns-in_ok-tables_with-in-Ok-clause-found : goal.returns-in_ok-tables_with-in-Ok-clause-found
returns-in_ok-tables_with-in-Ok-clause-found c =
    let rises : is_sorted key_cmp c.args.content.now.items ≡ true = search rules in
    subst (AreTablesOf c.args.content.now) (sym c.in_ok-tables_with-in-Ok.ensures)
    (tables_there c.args.content.now (changes_of c.args.content.now.clock c.args.content.now.next_job c.in-Ok.items) refl refl
    (subst (All AreRecordBytes) c.as_slice-records.ensures c.in-Ok.ensures.bytes) rises
    (subst (λ (xs : List Record). sets_read xs ≡ Some c.in-Ok.items) c.as_slice-records.ensures c.in-Ok.ensures.read))

pub returns-in-Err-NotThere-clause-none : goal.returns-in-Err-NotThere-clause-none
returns-in-Err-NotThere-clause-none c =
    let none : sets_read c.as_slice-records.result.now ≡ None = not_read c.in-Err-NotThere.field-0 _ c.in-Err-NotThere.field-0-is c.in-Err-NotThere.ensures.read in
    λ _ t h are. no_tables_unread c.args.content.now (subst (λ (xs : List Record). sets_read xs ≡ None) c.as_slice-records.ensures none) t h are

pub returns-in_ok-tables_with-in-Ok-clause-proper : goal.returns-in_ok-tables_with-in-Ok-clause-proper
returns-in_ok-tables_with-in-Ok-clause-proper c =
    subst AreProperTables (sym c.in_ok-tables_with-in-Ok.ensures)
    (tables_proper c.args.content.now.items (changes_of c.args.content.now.clock c.args.content.now.next_job c.in-Ok.items)
    (subst (All AreRecordBytes) c.as_slice-records.ensures c.in-Ok.ensures.bytes)
    (subst (λ (xs : List Record). sets_read xs ≡ Some c.in-Ok.items) c.as_slice-records.ensures c.in-Ok.ensures.read))

pub returns-then-not-ascend-clause-back : goal.returns-then-not-ascend-clause-back
returns-then-not-ascend-clause-back c =
    let falls : is_sorted key_cmp c.args.content.now.items ≡ false = search rules in
    λ t h are. absurd (no_tables_unsorted c.args.content.now falls t h are)

pub returns-in-Err-NotThere-clause-back : goal.returns-in-Err-NotThere-clause-back
returns-in-Err-NotThere-clause-back c =
    let none : sets_read c.as_slice-records.result.now ≡ None = not_read c.in-Err-NotThere.field-0 _ c.in-Err-NotThere.field-0-is c.in-Err-NotThere.ensures.read in
    λ t h are. absurd (no_tables_unread c.args.content.now (subst (λ (xs : List Record). sets_read xs ≡ None) c.as_slice-records.ensures none) t h are)

pub returns-in_ok-tables_with-in-Ok-clause-back : goal.returns-in_ok-tables_with-in-Ok-clause-back
returns-in_ok-tables_with-in-Ok-clause-back c =
    let found = returns-in_ok-tables_with-in-Ok-clause-found c in
    let proper = returns-in_ok-tables_with-in-Ok-clause-proper c in
    λ t h are. ap Some (tables_are_one_to_one c.in_ok-tables_with-in-Ok.field-0 t proper h found.sorted are.sorted (sym found.records ∙ are.records))
