use Rattle.std.proofs.Common.{sym, subst}
use Rattle.std.specs.Prelude.{IsTrue}
use Rattle.kdcfile_double.specs.Choice.{HasCopy, copy_in}
use Rattle.kdcfile_double.specs.ChoiceLaws.{found_has}
use Rattle.kdcfile_double.specs.MendLaws.{on_ok}
use Rattle.kdcfile_carry.specs.LeavingLaws.{rest_both}
use Rattle.kdcfile_carry.proofs.finding.find.Goals as goal

pub find_in-requires-clause-first_has : goal.find_in-requires-clause-first_has
find_in-requires-clause-first_has g c = λ told_b.
    let told = subst IsTrue c.read_both.ensures.frame.told told_b in
    subst (λ o. HasCopy o (g.T.Twin.both c.read_both.new.twin).first.holds) (sym c.copy_in.ensures)
    (subst (λ x. HasCopy (copy_in c.in_ok-first.first) x) (sym (c.read_both.ensures.rests told).files.first_holds) (found_has c.in_ok-first.first (g.T.Twin.both c.args.twin.now).first.holds (c.in_ok-first.ensures.first_answer told)))

pub find_in-requires-clause-second_has : goal.find_in-requires-clause-second_has
find_in-requires-clause-second_has g c = λ told_b.
    let told = subst IsTrue c.read_both.ensures.frame.told told_b in
    subst (λ o. HasCopy o (g.T.Twin.both c.read_both.new.twin).second.holds) (sym c.copy_in-2.ensures)
    (subst (λ x. HasCopy (copy_in c.in_ok-first.second) x) (sym (c.read_both.ensures.rests told).files.second_holds) (found_has c.in_ok-first.second (g.T.Twin.both c.args.twin.now).second.holds (c.in_ok-first.ensures.second_answer told)))

pub returns-clause-at_rest : goal.returns-clause-at_rest
returns-clause-at_rest g c = on_ok c.find_in.result _
    (λ told.
    let told_b = subst IsTrue (sym c.read_both.ensures.frame.told) told in
    rest_both (g.T.Twin.both c.read_both.new.twin) (g.T.Twin.both c.find_in.new.twin) (g.T.Twin.leaves c.read_both.new.twin) (g.T.Twin.leaves c.find_in.new.twin) (c.find_in.ensures.rests told_b) (c.in_ok-first.ensures.at_rest told))
