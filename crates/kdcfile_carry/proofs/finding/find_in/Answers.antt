use Rattle.std.proofs.Common.{◌≡◌, None, rules, subst}
use Rattle.kdcfile_double.specs.Choice.{HasCopy}
use Rattle.kdcfile_carry.proofs.Counting.{counted_is_in, counted_none, nothing_none, second_is_copy}
use Rattle.kdcfile_carry.proofs.Steps.{if_ok_weaker}
use Rattle.kdcfile_carry.proofs.finding.find_in.Goals as goal

pub returns-in_default-clause-refused : goal.returns-in_default-clause-refused
returns-in_default-clause-refused g c = λ why is.
    let r = c.one_file.ensures.refused why is in
    let none : (c.args.first ≡ None) × (c.args.second ≡ None) = c.in_default.ensures.none (search rules) in
    (r.0, λ told. nothing_none (g.T.Twin.both c.args.twin.now).first.holds (g.T.Twin.both c.args.twin.now).second.holds (r.1 told) (subst (λ o. HasCopy o (g.T.Twin.both c.args.twin.now).first.holds) none.0 (c.requires.first_has told)) (subst (λ o. HasCopy o (g.T.Twin.both c.args.twin.now).second.holds) none.1 (c.requires.second_has told)))

pub returns-in_err-first_has_none-clause-two : goal.returns-in_err-first_has_none-clause-two
returns-in_err-first_has_none-clause-two g c = λ is told.
    let was = c.in_err-first_has_none.ensures.two (search rules) in
    let a = (g.T.Twin.both c.args.twin.now).first.holds in
    let b = (g.T.Twin.both c.args.twin.now).second.holds in
    record { by_itself = was.1 told; copy = second_is_copy c.in-Some.counted a b c.in-Some.ensures.loaded (c.in-Some.ensures.counts a b (c.requires.first_has told) (c.requires.second_has told)) was.0 }

pub returns-clause-is_in : goal.returns-clause-is_in
returns-clause-is_in g c = if_ok_weaker _ _ c.kept_in.result
    (λ k kept told.
    let a = (g.T.Twin.both c.args.twin.now).first.holds in
    let b = (g.T.Twin.both c.args.twin.now).second.holds in
    counted_is_in c.in-Some.counted k a b c.in-Some.ensures.loaded kept (c.in-Some.ensures.counts a b (c.requires.first_has told) (c.requires.second_has told)) (λ second. c.in_ok-first_has_none.ensures.none second told))
    c.kept_in.ensures.is_kept

pub returns-clause-refused : goal.returns-clause-refused
returns-clause-refused g c = λ why is.
    let r = c.kept_in.ensures.refused why is in
    let a = (g.T.Twin.both c.args.twin.now).first.holds in
    let b = (g.T.Twin.both c.args.twin.now).second.holds in
    (r.0, λ told. counted_none c.in-Some.counted a b c.in-Some.ensures.loaded r.1 (c.in-Some.ensures.counts a b (c.requires.first_has told) (c.requires.second_has told)) (λ second. c.in_ok-first_has_none.ensures.none second told))
