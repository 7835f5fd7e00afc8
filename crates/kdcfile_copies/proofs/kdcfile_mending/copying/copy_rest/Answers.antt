use Rattle.std.proofs.Common.{◌≡◌, ap, ◌∙◌, arith}
use Rattle.kd_device.specs.Twin.{disk_of, other}
use Rattle.kdcfile_copies.proofs.kdcfile_mending.Copies.{source_some}
use Rattle.kdcfile_copies.proofs.kdcfile_mending.Run.{stays_shut, copied_begin, copied_within, copied_next, copied_all, put_all, put_inside}
use Rattle.kdcfile_copies.proofs.kdcfile_mending.copying.copy_rest.Goals as goal

pub returns-in_err-end-clause-any_moment : goal.returns-in_err-end-clause-any_moment
returns-in_err-end-clause-any_moment g c = λ told. stays_shut c.args.target _ _ _ _ (c.requires.shut told) (c.source_len.ensures.any_moment told)

pub loop-at-init : goal.loop-at-init
loop-at-init g c = (
  c.source_len.ensures.place,
  copied_begin c.args.target c.in_ok-end.end _ _ _ _ c.source_len.ensures.goes c.source_len.ensures.other_half (c.in_ok-end.ensures.fine (λ e. cc)) c.source_len.ensures.any_moment c.source_len.ensures.rest c.in_ok-end.ensures.value c.requires.shut c.requires.source,
)

pub returns-in_err-copy_piece-clause-any_moment : goal.returns-in_err-copy_piece-clause-any_moment
returns-in_err-copy_piece-clause-any_moment g c = copied_within c.args.target c.loop-at.at c.in_ok-end.end _ _ _ _ c.loop-at.invariant.1 c.min-len.result _ _ c.copy_piece.ensures.any_moment

pub loop-at-preserved : goal.loop-at-preserved
loop-at-preserved g c = (
  c.copy_piece.ensures.place ∙ c.loop-at.invariant.0,
  copied_next c.args.target c.loop-at.at c.in_ok-end.end _ _ _ _ c.loop-at.invariant.1 c.min-len.result _ _ c.copy_piece.ensures.any_moment c.copy_piece.ensures.put_most (omega (arith, c.min-len.ensures, c.loop-at-test.true)) c.copy_piece.ensures.goes
      (c.in_ok-copy_piece.ensures.fine_target (λ e. cc)) (c.in_ok-copy_piece.ensures.fine_source (λ e. cc)) c.in_ok-copy_piece.ensures.holds c.in_ok-copy_piece.ensures.rest,
)

pub returns-clause-copied : goal.returns-clause-copied
returns-clause-copied g c = copied_all c.args.target c.loop-at.at c.in_ok-end.end _ _ _ _ c.loop-at.invariant.1 c.loop-at-test.false

pub returns-in_err-end-clause-put_most : goal.returns-in_err-end-clause-put_most
returns-in_err-end-clause-put_most g c = λ told.
    let none : (disk_of c.args.target (g.T.Twin.both c.source_len.new.twin)).put ≡ (disk_of c.args.target (g.T.Twin.both c.args.twin.now)).put = ap (λ d. d.put) c.source_len.ensures.other_half in
    omega (arith, none, source_some (disk_of (other c.args.target) (g.T.Twin.both c.args.twin.now)).holds (c.requires.source told))

pub returns-in_err-copy_piece-clause-put_most : goal.returns-in_err-copy_piece-clause-put_most
returns-in_err-copy_piece-clause-put_most g c =
    put_inside c.args.target c.loop-at.at c.in_ok-end.end _ _ _ _ c.loop-at.invariant.1 c.min-len.result _ _ c.copy_piece.ensures.any_moment c.copy_piece.ensures.put_most (omega (arith, c.min-len.ensures, c.loop-at-test.true))

pub returns-clause-put_most : goal.returns-clause-put_most
returns-clause-put_most g c = put_all c.args.target c.loop-at.at c.in_ok-end.end _ _ _ _ c.loop-at.invariant.1
