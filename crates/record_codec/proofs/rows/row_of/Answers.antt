use Rattle.record_codec.specs.RowReadingsLaws.{row_there, no_row}
use Rattle.record_codec.proofs.Failed.{not_read}
use Rattle.record_codec.proofs.rows.row_of.Goals as goal

pub returns-in-Ok-clause-found : goal.returns-in-Ok-clause-found
returns-in-Ok-clause-found c = row_there (c.args.key.now, c.args.value.now) c.in-Ok.row c.in-Ok.ensures.key c.in-Ok.ensures.value c.in-Ok.ensures.row

pub returns-in-Err-NotThere-clause-none : goal.returns-in-Err-NotThere-clause-none
returns-in-Err-NotThere-clause-none c = λ _ r h fits e. no_row (c.args.key.now, c.args.value.now) (not_read c.in-Err-NotThere.field-0 _ c.in-Err-NotThere.field-0-is c.in-Err-NotThere.ensures.row) r h fits e
