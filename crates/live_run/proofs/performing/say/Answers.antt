use Rattle.device_acts.specs.ErrorsLaws.{no_error}
use Rattle.live_run.proofs.Acting.{text_failed, took_handed, took_text}
use Rattle.live_run.proofs.performing.say.Goals as goal

pub returns-in_err-say-clause-took : goal.returns-in_err-say-clause-took
returns-in_err-say-clause-took g c =
    took_handed c.from_residual.result _ c.from_residual.ensures.1
    (text_failed g.K.Keeper.stands g.K.Reopens.commit_most g.K.Keeper.fine c.args._fingerprint.now c.args.core (g.K.Keeper.identity c.args.keeper.now) (g.K.Keeper.kept c.args.keeper.now) (g.K.Keeper.file c.args.keeper.now) (g.K.Keeper.state c.args.keeper.now) (g.K.Keeper.leaves c.args.keeper.now) c.requires.running c.requires.kept (g.met.K.Keeper.file_stands c.args.keeper.now) c.args.text.now
    (g.K.Keeper.identity c.say.new.self) (g.K.Keeper.kept c.say.new.self) (g.K.Keeper.file c.say.new.self) (g.K.Keeper.state c.say.new.self) (g.K.Keeper.leaves c.say.new.self) c.say.ensures.frame c.say.ensures.names c.say.ensures.part c.say.ensures.any_moment c.say.ensures.identity c.say.ensures.content c.say.ensures.kept (g.met.K.Keeper.file_stands c.say.new.self)
    c.in_err-say.field-0.0 c.in_err-say.ensures.fine c.in_err-say.ensures.failed)

pub returns-clause-took : goal.returns-clause-took
returns-clause-took g c =
    took_text g.K.Keeper.stands g.K.Reopens.commit_most g.K.Keeper.fine c.args._fingerprint.now c.args.core (g.K.Keeper.identity c.args.keeper.now) (g.K.Keeper.kept c.args.keeper.now) (g.K.Keeper.file c.args.keeper.now) (g.K.Keeper.state c.args.keeper.now) (g.K.Keeper.leaves c.args.keeper.now) c.requires.running c.requires.kept (g.met.K.Keeper.file_stands c.args.keeper.now) c.args.text.now
    (g.K.Keeper.identity c.say.new.self) (g.K.Keeper.kept c.say.new.self) (g.K.Keeper.file c.say.new.self) (g.K.Keeper.state c.say.new.self) (g.K.Keeper.leaves c.say.new.self) c.say.ensures.frame c.say.ensures.names c.say.ensures.part c.say.ensures.any_moment c.say.ensures.identity c.say.ensures.content c.say.ensures.kept (g.met.K.Keeper.file_stands c.say.new.self)
    c.in_ok-say.ensures.sent (c.in_ok-say.ensures.fine (no_error _ _))
