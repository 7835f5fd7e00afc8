use Rattle.std.proofs.Common.{sym, ap, subst, ◌∙◌}
use Rattle.record_codec.specs.Records.{HasShortValues, content_of_tables}
use Rattle.kdcfile_update.proofs.Carriable.{can_carry, judged_there, kept_short, new_short}
use Rattle.kdcfile_update.proofs.carrying.new_content.Goals as goal

pub judge-requires-clause-short : goal.judge-requires-clause-short
judge-requires-clause-short c = kept_short c.args.store.now c.args.tables.now c.requires.opened.content c.requires.opened.keeps

pub records-requires : goal.records-requires
records-requires c =
    let limits = c.limits-limits.result in
    let judged = judged_there c.args.generation.now c.args.store.now c.args.tables.now c.in_ok-new.new limits.blksize limits.pgpool c.in_ok-judge.field-0 c.in_ok-judge.ensures c.limits-limits.ensures.blksize c.limits-limits.ensures.pgpool c.in_ok-new.ensures.tables in
    subst HasShortValues (sym c.in_ok-new.ensures.tables) (new_short c.args.generation.now c.args.store.now c.args.tables.now c.requires.limits c.requires.opened.keeps judged)

pub returns-clause-can : goal.returns-clause-can
returns-clause-can c =
    let limits = c.limits-limits.result in
    let judged = judged_there c.args.generation.now c.args.store.now c.args.tables.now c.in_ok-new.new limits.blksize limits.pgpool c.in_ok-judge.field-0 c.in_ok-judge.ensures c.limits-limits.ensures.blksize c.limits-limits.ensures.pgpool c.in_ok-new.ensures.tables in
    can_carry c.args.generation.now c.args.store.now c.args.tables.now c.requires.limits c.requires.opened.keeps judged c.in_ok-records.field-0
    (c.in_ok-records.ensures ∙ ap content_of_tables c.in_ok-new.ensures.tables)
