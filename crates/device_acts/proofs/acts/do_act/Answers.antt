use Rattle.std.proofs.Common.{◌∷◌, [], inl, inr, arith, refl, ap, sym, subst, ◌∙◌}
use Rattle.std.proofs.lemmas.Result.{on_ok_weaker}
use Rattle.kd_device.specs.TimeLaws.{told_after}
use Rattle.kdcs_types.specs.declared.act.Act.TheVariants.{Emit}
use Rattle.device_acts.specs.Acting.{AsksDisk, acts_most, content_after}
use Rattle.device_acts.specs.ActingLaws.{halts_at_once}
use Rattle.device_acts.specs.ErrorsLaws.{no_error, ok_unless}
use Rattle.device_acts.specs.ContentsLaws.{content_goes, commit_within, commit_sent, rest_stands, line_within, line_sent}
use Rattle.device_acts.specs.PatchingLaws.{of_changes}
use Rattle.device_acts.specs.WritingLaws.{commit_begun, none_begun, quiet_begun}
use Rattle.device_acts.proofs.acts.do_act.Goals as goal

pub commit-requires-clause-changes : goal.commit-requires-clause-changes
commit-requires-clause-changes g c = of_changes c.in_ok-patch-in-Commit.patch c.in-Commit.changes c.in_ok-patch-in-Commit.ensures

pub returns-in-Emit-clause-ready : goal.returns-in-Emit-clause-ready
returns-in-Emit-clause-ready g c = on_ok_weaker c.say.result (λ said. c.say.ensures.ready c.requires.ready) c.say.ensures.sent

pub returns-in_err-commit-in-Commit-clause-any : goal.returns-in_err-commit-in-Commit-clause-any
returns-in_err-commit-in-Commit-clause-any g c =
    commit_within (g.K.Keeper.stands (g.K.Keeper.identity c.args.keeper.now)) (g.K.Keeper.kept c.args.keeper.now) c.args.act.now (g.K.Keeper.state c.args.keeper.now) (g.K.Keeper.state c.commit.new.self) (g.K.Keeper.leaves c.args.keeper.now) (g.K.Keeper.leaves c.commit.new.self)
    c.in-Commit.changes c.in_ok-patch-in-Commit.patch c.in-Commit.is c.in_ok-patch-in-Commit.ensures c.commit.ensures.frame c.commit.ensures.names c.commit.ensures.any_moment

pub returns-in_ok-commit-in-Commit-clause-any : goal.returns-in_ok-commit-in-Commit-clause-any
returns-in_ok-commit-in-Commit-clause-any g c =
    commit_within (g.K.Keeper.stands (g.K.Keeper.identity c.args.keeper.now)) (g.K.Keeper.kept c.args.keeper.now) c.args.act.now (g.K.Keeper.state c.args.keeper.now) (g.K.Keeper.state c.commit.new.self) (g.K.Keeper.leaves c.args.keeper.now) (g.K.Keeper.leaves c.commit.new.self)
    c.in-Commit.changes c.in_ok-patch-in-Commit.patch c.in-Commit.is c.in_ok-patch-in-Commit.ensures c.commit.ensures.frame c.commit.ensures.names c.commit.ensures.any_moment

pub returns-in_ok-commit-in-Commit-clause-done : goal.returns-in_ok-commit-in-Commit-clause-done
returns-in_ok-commit-in-Commit-clause-done g c =
    commit_sent (g.K.Keeper.stands (g.K.Keeper.identity c.args.keeper.now)) (g.K.Keeper.kept c.args.keeper.now) c.args.act.now (g.K.Keeper.state c.args.keeper.now) (g.K.Keeper.state c.commit.new.self) (g.K.Keeper.leaves c.args.keeper.now) (g.K.Keeper.leaves c.commit.new.self)
    g.K.Keeper.fine (g.K.Keeper.file c.commit.new.self) c.in-Commit.changes c.in-Commit.is c.in_ok-commit-in-Commit.ensures.kept c.commit.ensures.sent (c.in_ok-commit-in-Commit.ensures.fine (no_error _ _))

pub returns-in-Emit-clause-any : goal.returns-in-Emit-clause-any
returns-in-Emit-clause-any g c =
    let a = g.K.Keeper.state c.args.keeper.now in
    let la = g.K.Keeper.leaves c.args.keeper.now in
    let stands = g.K.Keeper.stands (g.K.Keeper.identity c.args.keeper.now) in
    let x = g.K.Keeper.kept c.args.keeper.now in
    line_within content_after content_goes stands x a (g.K.Keeper.state c.say.new.self) la (g.K.Keeper.leaves c.say.new.self) c.args.act.now c.as_slice.result.now (c.in-Emit.is ∙ ap Emit (sym c.as_slice.ensures)) c.say.ensures.frame c.say.ensures.names
    (λ told. rest_stands (g.K.Keeper.file c.args.keeper.now) (stands x) a la (g.met.K.Keeper.file_stands c.args.keeper.now) (c.requires.kept told)) c.say.ensures.part c.say.ensures.any_moment

pub returns-in-Emit-clause-done : goal.returns-in-Emit-clause-done
returns-in-Emit-clause-done g c =
    on_ok_weaker c.say.result
    (λ both. line_sent g.K.Keeper.fine (g.K.Keeper.file c.say.new.self) (g.K.Keeper.state c.args.keeper.now) (g.K.Keeper.state c.say.new.self) (g.K.Keeper.leaves c.say.new.self) c.args.act.now c.as_slice.result.now (c.in-Emit.is ∙ ap Emit (sym c.as_slice.ensures)) (λ told. c.say.ensures.kept told (c.requires.kept told)) both.0 both.1)
    (ok_unless _ _ c.say.result _ c.say.ensures.sent c.say.ensures.fine)

pub returns-in_err-commit-in-Commit-clause-put : goal.returns-in_err-commit-in-Commit-clause-put
returns-in_err-commit-in-Commit-clause-put g c = λ told image left.
    let a = g.K.Keeper.state c.args.keeper.now in
    let b = g.K.Keeper.state c.commit.new.self in
    commit_begun (g.K.Keeper.stands (g.K.Keeper.identity c.args.keeper.now)) g.K.Keeper.most_written (g.K.Keeper.identity c.args.keeper.now) (g.K.Keeper.kept c.args.keeper.now) a b (g.K.Keeper.leaves c.args.keeper.now) (g.K.Keeper.leaves c.commit.new.self) image
    c.args.act.now c.in-Commit.changes c.in_ok-patch-in-Commit.patch c.in-Commit.is c.in_ok-patch-in-Commit.ensures (c.commit.ensures.sent told) (c.commit.ensures.put_most told)
    (λ d past. g.met.K.Keeper.file_stands c.args.keeper.now d (c.requires.kept told d past)) (c.commit.ensures.any_moment told)
    (g.met.K.Keeper.earlier c.commit.new.self a.moment b.moment image b.sent (told_after a b c.commit.ensures.frame told) c.commit.ensures.frame.moment left)

pub returns-in_ok-commit-in-Commit-clause-put : goal.returns-in_ok-commit-in-Commit-clause-put
returns-in_ok-commit-in-Commit-clause-put g c = λ told image left.
    let a = g.K.Keeper.state c.args.keeper.now in
    let b = g.K.Keeper.state c.commit.new.self in
    commit_begun (g.K.Keeper.stands (g.K.Keeper.identity c.args.keeper.now)) g.K.Keeper.most_written (g.K.Keeper.identity c.args.keeper.now) (g.K.Keeper.kept c.args.keeper.now) a b (g.K.Keeper.leaves c.args.keeper.now) (g.K.Keeper.leaves c.commit.new.self) image
    c.args.act.now c.in-Commit.changes c.in_ok-patch-in-Commit.patch c.in-Commit.is c.in_ok-patch-in-Commit.ensures (c.commit.ensures.sent told) (c.commit.ensures.put_most told)
    (λ d past. g.met.K.Keeper.file_stands c.args.keeper.now d (c.requires.kept told d past)) (c.commit.ensures.any_moment told)
    (g.met.K.Keeper.earlier c.commit.new.self a.moment b.moment image b.sent (told_after a b c.commit.ensures.frame told) c.commit.ensures.frame.moment left)

pub returns-in-Emit-clause-put : goal.returns-in-Emit-clause-put
returns-in-Emit-clause-put g c = λ told image left.
    let a = g.K.Keeper.state c.args.keeper.now in
    let b = g.K.Keeper.state c.say.new.self in
    let put = (c.say.ensures.part told).disk.put in
    quiet_begun content_after content_goes (g.K.Keeper.stands (g.K.Keeper.identity c.args.keeper.now)) (g.K.Keeper.kept c.args.keeper.now) (acts_most g.K.Keeper.most_written (g.K.Keeper.identity c.args.keeper.now) (g.K.Keeper.kept c.args.keeper.now)) (c.args.act.now ∷ []) a b image (g.K.Keeper.leaves c.args.keeper.now) (g.K.Keeper.leaves c.say.new.self)
    (omega (arith, put)) (λ d out past. g.met.K.Keeper.sent_now c.args.keeper.now d out told past) (λ d past. g.met.K.Keeper.file_stands c.args.keeper.now d (c.requires.kept told d past)) ((returns-in-Emit-clause-any g c).any_moment told)
    (g.met.K.Keeper.earlier c.say.new.self a.moment b.moment image b.sent (told_after a b c.say.ensures.frame told) c.say.ensures.frame.moment left)

pub returns-in_err-patch-in-Commit-clause-put : goal.returns-in_err-patch-in-Commit-clause-put
returns-in_err-patch-in-Commit-clause-put g c = λ told image left.
    none_begun content_after content_goes (g.K.Keeper.stands (g.K.Keeper.identity c.args.keeper.now)) (g.K.Keeper.kept c.args.keeper.now) (acts_most g.K.Keeper.most_written (g.K.Keeper.identity c.args.keeper.now) (g.K.Keeper.kept c.args.keeper.now)) (c.args.act.now ∷ []) (g.K.Keeper.state c.args.keeper.now) (g.K.Keeper.state c.args.keeper.now) image
    (omega arith) refl (g.met.K.Keeper.file_stands c.args.keeper.now image (c.requires.kept told image left))

pub returns-in_err-commit-in-Commit-clause-halted : goal.returns-in_err-commit-in-Commit-clause-halted
returns-in_err-commit-in-Commit-clause-halted g c = λ is told.
    inr (halts_at_once c.args.act.now [] (g.K.Keeper.state c.args.keeper.now) (g.K.Keeper.state c.commit.new.self) (subst AsksDisk (sym c.in-Commit.is) tt) (c.commit.ensures.sent told))

pub returns-in-Emit-clause-halted : goal.returns-in-Emit-clause-halted
returns-in-Emit-clause-halted g c = λ is told. inl (c.say.ensures.failed is)

pub returns-in_err-patch-in-Commit-clause-halted : goal.returns-in_err-patch-in-Commit-clause-halted
returns-in_err-patch-in-Commit-clause-halted g c = λ is told.
    inr (halts_at_once c.args.act.now [] (g.K.Keeper.state c.args.keeper.now) (g.K.Keeper.state c.args.keeper.now) (subst AsksDisk (sym c.in-Commit.is) tt) refl)
