use Rattle.kdcs_types.specs.Tables.{change_key}
use Rattle.table_fit.specs.PagesLaws.{durable_short}
use Rattle.table_fit.proofs.row_charges.replaced_by.Goals as goal

pub replaced-requires : goal.replaced-requires
replaced-requires c = durable_short c.args.generation.now c.max-limits.ensures.sound.limits c.args.tables.now c.requires (change_key c.change-item.result)
