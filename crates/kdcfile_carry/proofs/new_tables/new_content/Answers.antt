use Rattle.std.proofs.Common.{sym, subst}
use Rattle.record_codec.specs.Records.{HasShortValues}
use Rattle.kdcfile_carry.proofs.NewTables.{new_short}
use Rattle.kdcfile_carry.proofs.new_tables.new_content.Goals as goal

pub records-requires : goal.records-requires
records-requires c = subst HasShortValues (sym c.requires.tables) (new_short c.args.generation.now c.args.kept.now c.requires.known c.max-limits.ensures.sound.limits c.requires.judged)
