use Rattle.kdcfile_carry.proofs.finding.no_file_by_itself.Goals as goal

pub returns-in-Ok-clause-two : goal.returns-in-Ok-clause-two
returns-in-Ok-clause-two g c = λ is told none. none c.in-Ok._store.identity c.in-Ok._tables (c.in-Ok.ensures.stands told)

pub returns-in-Err-NotKdcfile-clause-none : goal.returns-in-Err-NotKdcfile-clause-none
returns-in-Err-NotKdcfile-clause-none g c = c.in-Err-NotKdcfile.ensures.none (let e = c.in-Err-NotKdcfile.field-0-is in cc)
