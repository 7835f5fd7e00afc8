use Rattle.std.proofs.Common.{⊎_elim}
use Rattle.abstract_monitor.specs.Commands.{started}
use Rattle.call_parts.specs.Asking.{CanRun, app_of}
use Rattle.call_parts.specs.declared.words.Word.TheVariants.{Gen}
use Rattle.live_run.specs.Sessions.{session_from}
use Rattle.live_cli.specs.LivesLawfully.{commands_lived}
use Rattle.live_cli.proofs.TypedNames.{goes_on, lived_woven, session_names}
use Rattle.live_cli.proofs.lawful.sessions_live_lawfully.Goals as goal

pub returns : goal.returns
returns c = λ words room e reads t from exchanges.
    let can : CanRun e = ⊎_elim (λ one. c.texts_can_run.ensures Gen one.reads.definition one.reads.units one.reads.text e one.reads.says) (λ two. c.texts_of_two_can_run.ensures Gen two.reads.definition two.reads.units two.reads.text e two.reads.says) reads in
    let there = goes_on e t from in
    record {
      laws = c.scripts_of_suited_tables_run_lawfully.ensures (app_of e) can.applies t there.0 there.1 (commands_lived e t exchanges) (session_names (app_of e) c.commands_are_said.ensures.commands_only (session_from (started (app_of e) t)) exchanges);
      woven = lived_woven e t exchanges;
    }
