use Rattle.std.proofs.Common.{◌≡◌, ◌≤◌, ℕ, List, length, sym, ap, subst, ◌∙◌, arith}
use Rattle.std.proofs.lemmas.Result.{on_ok_weaker}
use Rattle.kd_device.specs.Device.{written}
use Rattle.kd_device.specs.Twin.{disk_of}
use Rattle.kdcfile_copies.proofs.kdcfile_mending.Halves.{goes_then}
use Rattle.kdcfile_copies.proofs.kdcfile_mending.Run.{told_then, told_before}
use Rattle.kdcfile_copies.proofs.kdcfile_mending.Piece.{piece_read, piece_put}
use Rattle.kdcfile_copies.proofs.kdcfile_mending.copying.copy_piece.Goals as goal

pub put_synced-requires-clause-at_rest : goal.put_synced-requires-clause-at_rest
put_synced-requires-clause-at_rest g c = λ told. c.source_piece.ensures.rest (told_before c.args.target _ _ c.source_piece.ensures.goes told)

pub returns-in_err-piece-clause-any_moment : goal.returns-in_err-piece-clause-any_moment
returns-in_err-piece-clause-any_moment g c = λ told. piece_read c.args.target c.args.at c.args.len _ _ _ _ (c.source_piece.ensures.any_moment told)

pub returns-clause-goes : goal.returns-clause-goes
returns-clause-goes g c = goes_then c.args.target _ _ _ c.source_piece.ensures.goes c.put_synced.ensures.goes

pub returns-clause-any_moment : goal.returns-clause-any_moment
returns-clause-any_moment g c = λ told.
    piece_put c.args.target c.args.at c.args.len _ _ _ _ (c.source_piece.ensures.any_moment told) c.as_slice.result.now (c.as_slice.ensures.value ∙ c.in_ok-piece.ensures.value told) (c.requires.has told) c.source_piece.ensures.other_half _ _ (c.put_synced.ensures.any_moment (told_then c.args.target _ _ c.source_piece.ensures.goes told))

pub returns-clause-holds : goal.returns-clause-holds
returns-clause-holds g c = on_ok_weaker c.put_synced.result
    (λ holds told.
    holds (told_then c.args.target _ _ c.source_piece.ensures.goes told)
    ∙ ap (λ d. written d.holds c.args.at c.as_slice.result.now) c.source_piece.ensures.other_half
    ∙ ap (λ (p : List ℕ). written (disk_of c.args.target (g.T.Twin.both c.args.twin.now)).holds c.args.at p) (c.as_slice.ensures.value ∙ c.in_ok-piece.ensures.value told))
    c.put_synced.ensures.holds

pub returns-clause-rest : goal.returns-clause-rest
returns-clause-rest g c = on_ok_weaker c.put_synced.result (λ rest told. rest (told_then c.args.target _ _ c.source_piece.ensures.goes told)) c.put_synced.ensures.rest

pub returns-in_err-piece-clause-put_most : goal.returns-in_err-piece-clause-put_most
returns-in_err-piece-clause-put_most g c = λ told.
    let none : (disk_of c.args.target (g.T.Twin.both c.source_piece.new.twin)).put ≡ (disk_of c.args.target (g.T.Twin.both c.args.twin.now)).put = ap (λ d. d.put) c.source_piece.ensures.other_half in
    omega (arith, none)

pub returns-clause-put_most : goal.returns-clause-put_most
returns-clause-put_most g c = λ told.
    let none : (disk_of c.args.target (g.T.Twin.both c.source_piece.new.twin)).put ≡ (disk_of c.args.target (g.T.Twin.both c.args.twin.now)).put = ap (λ d. d.put) c.source_piece.ensures.other_half in
    let most : length c.as_slice.result.now ≤ c.args.len = subst (λ (l : List ℕ). length l ≤ c.args.len) (sym c.as_slice.ensures.value) c.in_ok-piece.ensures.bound in
    omega (arith, none, most, c.put_synced.ensures.put_most (told_then c.args.target _ _ c.source_piece.ensures.goes told))
