use Rattle.std.proofs.Common.{sym, subst, ◌∙◌}
use Rattle.std.specs.Prelude.{Option, IfSome}
use Rattle.std.proofs.lemmas.Bool.{not-false}
use Rattle.kd_base.specs.OrderLaws.{equal_is_same}
use Rattle.kdcs_types.specs.declared.tables.Tables.{Tables}
use Rattle.record_codec.specs.Records.{AreTablesOf}
use Rattle.record_codec.specs.TableReadings.{AreProperTables}
use Rattle.kdcfile_double.specs.ChoiceLaws.{keeps_suited}
use Rattle.kdcfile_double.proofs.store.TwinStore.tables_for.Goals as goal

pub returns-clause-tables : goal.returns-clause-tables
returns-clause-tables c =
    let x = c.in_ok-content.content in
    let t = c.in-Some.tables in
    let print = c.fingerprint.result.now in
    let are : AreTablesOf x t = subst (λ (o : Option Tables). IfSome o (λ u. AreTablesOf x u)) c.in-Some.is c.in_ok-tables.ensures.found in
    let proper : AreProperTables t = subst (λ (o : Option Tables). IfSome o (λ u. AreProperTables u)) c.in-Some.is c.in_ok-tables.ensures.proper in
    keeps_suited c.args.self.now c.counted-copy.result.now x c.counted-copy.ensures c.in_ok-content.ensures t are proper c.args.generation.now c.args.fingerprint.now print c.limits.result c.fingerprint.ensures
    ((equal_is_same print c.args.fingerprint.now).0 (not-false _ (sym c.ne.ensures ∙ c.if-ne.false))) c.limits.ensures.blksize c.limits.ensures.pgpool (c.suits_twice.ensures.0 c.if-not-suits_twice.false)
