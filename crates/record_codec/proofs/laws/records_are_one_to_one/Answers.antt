use Rattle.record_codec.specs.OneToOneLaws.{tables_are_one_to_one}
use Rattle.record_codec.specs.RowReadingsLaws.{records_are_one_to_one}
use Rattle.record_codec.proofs.laws.records_are_one_to_one.Goals as goal

pub returns-clause-rows : goal.returns-clause-rows
returns-clause-rows c = records_are_one_to_one

pub returns-clause-tables : goal.returns-clause-tables
returns-clause-tables c = tables_are_one_to_one
