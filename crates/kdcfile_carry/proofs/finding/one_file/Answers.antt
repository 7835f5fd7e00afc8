use Rattle.kdcfile_carry.proofs.finding.one_file.Goals as goal

pub returns-in-Err-NotKdcfile-clause-refused : goal.returns-in-Err-NotKdcfile-clause-refused
returns-in-Err-NotKdcfile-clause-refused g c = λ why is. (cc, c.in-Err-NotKdcfile.ensures.none (let e = c.in-Err-NotKdcfile.field-0-is in cc))
