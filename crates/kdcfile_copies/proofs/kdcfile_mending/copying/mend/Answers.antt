use Rattle.std.proofs.Common.{◌≡◌, ap, ◌∙◌, arith, get_or, length, refl}
use Rattle.std.proofs.lemmas.Result.{on_ok_weaker}
use Rattle.kd_device.specs.Twin.{other, disk_of}
use Rattle.kdcfile_copies.proofs.kdcfile_mending.Halves.{goes_then}
use Rattle.kdcfile_copies.proofs.kdcfile_mending.Run.{shutting, copying, opening, whole_copy, told_then, told_before}
use Rattle.kdcfile_copies.proofs.kdcfile_mending.copying.mend.Goals as goal

pub copy_rest-requires-clause-at_rest : goal.copy_rest-requires-clause-at_rest
copy_rest-requires-clause-at_rest g c = λ told. c.in_ok-shut_gate.ensures.rest (told_before c.args.target _ _ c.shut_gate.ensures.goes told)

pub copy_rest-requires-clause-source : goal.copy_rest-requires-clause-source
copy_rest-requires-clause-source g c = λ told. ap (λ d. get_or d.holds 0 0) c.shut_gate.ensures.other_half ∙ c.requires.source (told_before c.args.target _ _ c.shut_gate.ensures.goes told)

pub copy_rest-requires-clause-shut : goal.copy_rest-requires-clause-shut
copy_rest-requires-clause-shut g c = λ told. c.in_ok-shut_gate.ensures.made (told_before c.args.target _ _ c.shut_gate.ensures.goes told) refl

pub put_synced-requires-clause-at_rest : goal.put_synced-requires-clause-at_rest
put_synced-requires-clause-at_rest g c = λ told. c.in_ok-copy_rest.ensures.rest (told_before c.args.target _ _ c.copy_rest.ensures.goes told)

pub returns-in_err-shut_gate-clause-any_moment : goal.returns-in_err-shut_gate-clause-any_moment
returns-in_err-shut_gate-clause-any_moment g c = λ told. shutting c.args.target _ _ _ _ (c.shut_gate.ensures.any_moment told)

pub returns-in_err-copy_rest-clause-any_moment : goal.returns-in_err-copy_rest-clause-any_moment
returns-in_err-copy_rest-clause-any_moment g c = λ told. copying c.args.target _ _ _ _ (c.shut_gate.ensures.any_moment told) _ _ (c.copy_rest.ensures.any_moment (told_then c.args.target _ _ c.shut_gate.ensures.goes told))

pub returns-in_err-copy_rest-clause-goes : goal.returns-in_err-copy_rest-clause-goes
returns-in_err-copy_rest-clause-goes g c = goes_then c.args.target _ _ _ c.shut_gate.ensures.goes c.copy_rest.ensures.goes

pub returns-clause-goes : goal.returns-clause-goes
returns-clause-goes g c = goes_then c.args.target _ _ _ (goes_then c.args.target _ _ _ c.shut_gate.ensures.goes c.copy_rest.ensures.goes) c.put_synced.ensures.goes

pub returns-clause-any_moment : goal.returns-clause-any_moment
returns-clause-any_moment g c = λ told.
    let told_b = told_then c.args.target _ _ c.shut_gate.ensures.goes told in
    let told_d = told_then c.args.target _ _ c.copy_rest.ensures.goes told_b in
    opening c.args.target _ _ _ _ (c.shut_gate.ensures.any_moment told) _ _ (c.copy_rest.ensures.any_moment told_b) _ _ (c.in_ok-copy_rest.ensures.copied told_b) (c.put_synced.ensures.any_moment told_d)

pub returns-clause-copied : goal.returns-clause-copied
returns-clause-copied g c = on_ok_weaker c.put_synced.result
    (λ holds told.
    let told_b = told_then c.args.target _ _ c.shut_gate.ensures.goes told in
    let told_d = told_then c.args.target _ _ c.copy_rest.ensures.goes told_b in
    whole_copy (disk_of (other c.args.target) (g.T.Twin.both c.args.twin.now)).holds (disk_of (other c.args.target) (g.T.Twin.both c.shut_gate.new.twin)).holds (disk_of c.args.target (g.T.Twin.both c.copy_rest.new.twin)).holds _ (c.shut_gate.ensures.any_moment told).source (c.in_ok-copy_rest.ensures.copied told_b) (holds told_d))
    c.put_synced.ensures.holds

pub returns-clause-rest : goal.returns-clause-rest
returns-clause-rest g c = on_ok_weaker c.put_synced.result
    (λ rest told. rest (told_then c.args.target _ _ c.copy_rest.ensures.goes (told_then c.args.target _ _ c.shut_gate.ensures.goes told)))
    c.put_synced.ensures.rest

pub returns-in_err-shut_gate-clause-put_most : goal.returns-in_err-shut_gate-clause-put_most
returns-in_err-shut_gate-clause-put_most g c = λ told. omega (arith, c.shut_gate.ensures.put_most told)

pub returns-in_err-copy_rest-clause-put_most : goal.returns-in_err-copy_rest-clause-put_most
returns-in_err-copy_rest-clause-put_most g c = λ told.
    let same : length (disk_of (other c.args.target) (g.T.Twin.both c.shut_gate.new.twin)).holds ≡ length (disk_of (other c.args.target) (g.T.Twin.both c.args.twin.now)).holds = ap (λ d. length d.holds) c.shut_gate.ensures.other_half in
    omega (arith, same, c.shut_gate.ensures.put_most told, c.copy_rest.ensures.put_most (told_then c.args.target _ _ c.shut_gate.ensures.goes told))

pub returns-clause-put_most : goal.returns-clause-put_most
returns-clause-put_most g c = λ told.
    let told_b = told_then c.args.target _ _ c.shut_gate.ensures.goes told in
    let told_d = told_then c.args.target _ _ c.copy_rest.ensures.goes told_b in
    let same : length (disk_of (other c.args.target) (g.T.Twin.both c.shut_gate.new.twin)).holds ≡ length (disk_of (other c.args.target) (g.T.Twin.both c.args.twin.now)).holds = ap (λ d. length d.holds) c.shut_gate.ensures.other_half in
    omega (arith, same, c.shut_gate.ensures.put_most told, c.copy_rest.ensures.put_most told_b, c.put_synced.ensures.put_most told_d)
