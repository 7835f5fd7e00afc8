use Rattle.kdcfile_double.specs.Opening.{StartsFromTwo}
use Rattle.lab_cli.proofs.Filing.{found_starts}
use Rattle.lab_cli.proofs.files.tables_of_files.Goals as goal

pub returns-clause-starts : goal.returns-clause-starts
returns-clause-starts c =
    found_starts (λ x y t. StartsFromTwo c.args.generation.now c.args.fingerprint.now x y t) c.in_ok-first.first c.in_ok-second.second c.args.first c.args.second c.in_ok-first.ensures.answer c.in_ok-second.ensures.answer c.tables_of_found.result c.tables_of_found.ensures.starts

pub returns-clause-stops : goal.returns-clause-stops
returns-clause-stops c = c.tables_of_found.ensures.stops c.args.first c.args.second c.in_ok-first.ensures.answer c.in_ok-second.ensures.answer
