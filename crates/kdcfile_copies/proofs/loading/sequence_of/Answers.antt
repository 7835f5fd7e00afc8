use Rattle.kdcfile_copies.proofs.Sought.{found_at, not_found, some_sequence, no_sequence, none_there}
use Rattle.kdcfile_copies.proofs.loading.sequence_of.Goals as goal

pub returns-in-Ok-clause-some : goal.returns-in-Ok-clause-some
returns-in-Ok-clause-some c =
    some_sequence c.number_of.result c.as_slice.result.now c.args.content.now
    (found_at c.args.content.now c.as_slice-records.result.now c.sequence_key.result c.requires c.as_slice-records.ensures c.sequence_key.ensures c.place_of.result c.in-Ok.at c.index-records-at.result c.as_slice.result.now c.place_of.ensures c.in-Ok.is c.index-records-at.is c.as_slice.ensures)
    c.number_of.ensures.some c.number_of.ensures.small

pub returns-in-Ok-clause-none : goal.returns-in-Ok-clause-none
returns-in-Ok-clause-none c =
    no_sequence c.number_of.result c.as_slice.result.now c.args.content.now
    (found_at c.args.content.now c.as_slice-records.result.now c.sequence_key.result c.requires c.as_slice-records.ensures c.sequence_key.ensures c.place_of.result c.in-Ok.at c.index-records-at.result c.as_slice.result.now c.place_of.ensures c.in-Ok.is c.index-records-at.is c.as_slice.ensures)
    c.number_of.ensures.none

pub returns-in-Err-clause-none : goal.returns-in-Err-clause-none
returns-in-Err-clause-none c =
    none_there c.args.content.now
    (not_found c.args.content.now c.as_slice-records.result.now c.sequence_key.result c.requires c.as_slice-records.ensures c.sequence_key.ensures c.place_of.result c.in-Err.field-0 c.place_of.ensures c.in-Err.is)
