use Rattle.std.proofs.Common.{ap, sym, ◌∙◌, ◌∷◌, []}
use Rattle.std.proofs.lemmas.Result.{on_ok_weaker}
use Rattle.kdcs_types.specs.declared.act.Act.TheVariants.{Emit}
use Rattle.twin_run.specs.Running.{lines_for, lost_line}
use Rattle.twin_run.proofs.Saying.{says_line, says_nothing, sent_line, sent_nothing}
use Rattle.twin_run.proofs.lines.say_lost.Goals as goal

pub returns-in-Some-clause-says : goal.returns-in-Some-clause-says
returns-in-Some-clause-says g c =
    says_line (lines_for lost_line c.args.lost) c.lost_line.result.now (ap (lines_for lost_line) c.in-Some.is ∙ ap (λ l. Emit l ∷ []) (sym c.lost_line.ensures)) (g.T.Twin.both c.args.twin.now) (g.T.Twin.both c.say_both.new.twin) (g.T.Twin.leaves c.args.twin.now) (g.T.Twin.leaves c.say_both.new.twin)
    c.say_both.ensures.disks c.say_both.ensures.frame c.say_both.ensures.stop c.say_both.ensures.any_moment

pub returns-in-Some-clause-sent : goal.returns-in-Some-clause-sent
returns-in-Some-clause-sent g c =
    on_ok_weaker c.say_both.result
    (λ said told. sent_line (lines_for lost_line c.args.lost) c.lost_line.result.now (ap (lines_for lost_line) c.in-Some.is ∙ ap (λ l. Emit l ∷ []) (sym c.lost_line.ensures)) (g.T.Twin.both c.args.twin.now) (g.T.Twin.both c.say_both.new.twin) (g.T.Twin.leaves c.args.twin.now) (g.T.Twin.leaves c.say_both.new.twin) (said told))
    c.say_both.ensures.sent

pub returns-in-None-clause-says : goal.returns-in-None-clause-says
returns-in-None-clause-says g c = says_nothing (lines_for lost_line c.args.lost) (ap (lines_for lost_line) c.in-None.is) (g.T.Twin.both c.args.twin.now) (g.T.Twin.leaves c.args.twin.now)

pub returns-in-None-clause-sent : goal.returns-in-None-clause-sent
returns-in-None-clause-sent g c = λ told. sent_nothing (lines_for lost_line c.args.lost) (ap (lines_for lost_line) c.in-None.is) (g.T.Twin.both c.args.twin.now) (g.T.Twin.leaves c.args.twin.now)
