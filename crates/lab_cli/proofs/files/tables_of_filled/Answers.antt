use Rattle.std.proofs.Common.{ap, Err}
use Rattle.kdcfile_double.specs.declared.error.TwinOpenError.{TwinOpenError}
use Rattle.kdcfile_double.specs.OpeningLaws.{starts_two}
use Rattle.lab_cli.proofs.Filing.{are_filled}
use Rattle.lab_cli.proofs.files.tables_of_filled.Goals as goal

pub returns-in-Ok-clause-starts : goal.returns-in-Ok-clause-starts
returns-in-Ok-clause-starts c = λ a b first second.
    starts_two c.args.generation.now c.args.fingerprint.now _ a b (c.in-Ok.ensures.fits a b first second) _ c.in-Ok.ensures.keeps c.in-Ok.ensures.suits c.in-Ok.ensures.sequence

pub returns-in-Err-NotKdcfile-clause-stops : goal.returns-in-Err-NotKdcfile-clause-stops
returns-in-Err-NotKdcfile-clause-stops c = λ a b first second. (
  are_filled c.args.first c.args.second a b c.requires.first c.requires.second first second c.requires.filled,
  c.in-Err-NotKdcfile.ensures.refused (ap (λ (e : TwinOpenError). Err e) c.in-Err-NotKdcfile.field-0-is) a b first second,
)

pub returns-in-Err-OtherGeneration-clause-stops : goal.returns-in-Err-OtherGeneration-clause-stops
returns-in-Err-OtherGeneration-clause-stops c = λ a b first second. c.in-Err-OtherGeneration.ensures.other _ (ap (λ (e : TwinOpenError). Err e) c.in-Err-OtherGeneration.field-0-is) a b first second

pub returns-in-Err-Spent-clause-stops : goal.returns-in-Err-Spent-clause-stops
returns-in-Err-Spent-clause-stops c = λ a b first second. (_, c.in-Err-Spent.ensures.spent _ (ap (λ (e : TwinOpenError). Err e) c.in-Err-Spent.field-0-is) a b first second)
