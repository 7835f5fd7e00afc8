use Rattle.kdcfile_carry.proofs.NewTables.{kept_short}
use Rattle.kdcfile_carry.proofs.new_tables.judge_files.Goals as goal

pub judge-requires-clause-short : goal.judge-requires-clause-short
judge-requires-clause-short c = kept_short c.args.kept.now c.requires.known
