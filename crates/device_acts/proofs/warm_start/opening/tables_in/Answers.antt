use Rattle.std.proofs.Common.{◌∙◌, sym, subst, true≢false}
use Rattle.std.specs.Prelude.{Option, IfSome}
use Rattle.kdcs_types.specs.declared.tables.Tables.{Tables}
use Rattle.record_codec.specs.Records.{AreTablesOf}
use Rattle.record_codec.specs.TableReadings.{AreProperTables}
use Rattle.device_acts.proofs.warm_start.Kept.{none_suited, same_print}
use Rattle.device_acts.proofs.warm_start.opening.tables_in.Goals as goal

pub returns-then-not-suits-clause-refused : goal.returns-then-not-suits-clause-refused
returns-then-not-suits-clause-refused c = λ is.
    let x = c.kept.result.now in
    let t = c.in-Some.tables in
    let print = c.fingerprint.result.now in
    let limits = c.limits-limits.result in
    let are : AreTablesOf x t = subst (λ (o : Option Tables). IfSome o (λ u. AreTablesOf x u)) c.in-Some.is c.in_ok-tables.ensures.found in
    let proper : AreProperTables t = subst (λ (o : Option Tables). IfSome o (λ u. AreProperTables u)) c.in-Some.is c.in_ok-tables.ensures.proper in
    none_suited c.args.generation.now c.args.fingerprint.now c.args.store.now x t c.kept.ensures are proper print c.fingerprint.ensures (same_print c.ne.result print c.args.fingerprint.now c.if-ne.false c.ne.ensures)
    limits.blksize limits.pgpool c.limits-limits.ensures.blksize c.limits-limits.ensures.pgpool (λ suits. true≢false (sym (c.suits.ensures.1 suits) ∙ c.if-not-suits.true))
