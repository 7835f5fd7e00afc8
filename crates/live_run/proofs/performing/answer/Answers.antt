use Rattle.std.proofs.Common.{◌∷◌, []}
use Rattle.kdcs_types.specs.declared.act.Act.TheVariants.{Emit}
use Rattle.live_run.proofs.Acting.{rows_rest, took_handed, took_memory}
use Rattle.live_run.proofs.SessionLaws.{some_answer}
use Rattle.live_run.proofs.performing.answer.Goals as goal

pub returns-in_err-text-clause-took : goal.returns-in_err-text-clause-took
returns-in_err-text-clause-took g c =
    let some = some_answer c.args.core.state c.args.line.now c.args.question in
    record {
      answer = some.0;
      answered = some.1;
      took = took_handed c.from_residual.result _ c.from_residual.ensures.1 (took_memory g.K.Keeper.stands g.K.Reopens.commit_most g.K.Keeper.fine c.args.fingerprint.now c.args.core g.met.K.Keeper.fine_goes (Emit some.0 ∷ []) c.args.core.state (g.K.Keeper.identity c.args.keeper.now) (g.K.Keeper.kept c.args.keeper.now) (g.K.Keeper.file c.args.keeper.now) (g.K.Keeper.state c.args.keeper.now) (g.K.Keeper.leaves c.args.keeper.now) (rows_rest g.K.Keeper.stands g.K.Reopens.commit_most g.K.Keeper.fine c.args.fingerprint.now c.args.core (g.K.Keeper.identity c.args.keeper.now) (g.K.Keeper.kept c.args.keeper.now) (g.K.Keeper.file c.args.keeper.now) (g.K.Keeper.state c.args.keeper.now) (g.K.Keeper.leaves c.args.keeper.now) c.requires.running c.requires.kept (g.met.K.Keeper.file_stands c.args.keeper.now)));
    }
