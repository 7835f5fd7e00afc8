use Rattle.utm_cli.proofs.Started.{runs_lawfully}
use Rattle.utm_cli.proofs.lawful.scripts_run_lawfully.Goals as goal

pub returns : goal.returns
returns c = λ words room e reads bytes s starts.
    let says = reads.reads.says in
    let can = c.texts_can_run.ensures reads.word reads.reads.definition reads.reads.units reads.reads.text e says in
    let limits = (c.generations_are_sound.ensures.sound reads.reads.definition e.application.generation says.1.0).limits in
    runs_lawfully e can limits c.taken_tables_suit.ensures c.scripts_of_suited_tables_run_lawfully.ensures bytes s starts
