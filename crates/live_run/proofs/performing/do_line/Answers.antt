use Rattle.live_run.proofs.Asking.{took_question, took_script, took_switch}
use Rattle.live_run.proofs.performing.do_line.Goals as goal

pub returns-in-Question-clause-took : goal.returns-in-Question-clause-took
returns-in-Question-clause-took g c =
    took_question g.K.Keeper.stands g.K.Reopens.commit_most g.K.Keeper.fine c.args.fingerprint.now c.args.core c.args.auto c.args.number (g.K.Keeper.identity c.answer.new.keeper) (g.K.Keeper.kept c.answer.new.keeper) (g.K.Keeper.file c.answer.new.keeper) (g.K.Keeper.state c.args.keeper.now) (g.K.Keeper.state c.answer.new.keeper) (g.K.Keeper.leaves c.args.keeper.now) (g.K.Keeper.leaves c.answer.new.keeper)
    c.answer.result c.args.line.now c.args.asks c.in-Question.question c.requires.asks c.in-Question.is c.answer.ensures.took

pub returns-in-Switch-clause-took : goal.returns-in-Switch-clause-took
returns-in-Switch-clause-took g c =
    took_switch g.K.Keeper.stands g.K.Reopens.commit_most g.K.Keeper.fine c.args.fingerprint.now c.args.core c.args.auto c.args.number (g.K.Keeper.identity c.set.new.keeper) (g.K.Keeper.kept c.set.new.keeper) (g.K.Keeper.file c.set.new.keeper) (g.K.Keeper.state c.args.keeper.now) (g.K.Keeper.state c.set.new.keeper) (g.K.Keeper.leaves c.args.keeper.now) (g.K.Keeper.leaves c.set.new.keeper)
    c.set.result c.args.line.now c.args.asks c.in-Switch.switch c.requires.asks c.in-Switch.is c.set.ensures.took

pub returns-in-Script-clause-took : goal.returns-in-Script-clause-took
returns-in-Script-clause-took g c =
    took_script g.K.Keeper.stands g.K.Reopens.commit_most g.K.Keeper.fine c.args.fingerprint.now c.args.core c.args.auto c.args.number (g.K.Keeper.identity c.do_script_line.new.keeper) (g.K.Keeper.kept c.do_script_line.new.keeper) (g.K.Keeper.file c.do_script_line.new.keeper) (g.K.Keeper.state c.args.keeper.now) (g.K.Keeper.state c.do_script_line.new.keeper) (g.K.Keeper.leaves c.args.keeper.now) (g.K.Keeper.leaves c.do_script_line.new.keeper)
    c.do_script_line.result c.args.line.now c.args.asks c.requires.asks c.in-Script.is c.do_script_line.ensures.took c.do_script_line.ensures.restart
