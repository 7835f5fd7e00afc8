use Rattle.std.proofs.Common.{ap, sym, ◌∙◌, inl, inr}
use Rattle.std.specs.Prelude.{Err}
use Rattle.kd_device.specs.Twin.{disk_of}
use Rattle.kdcfile_copies.specs.CopiesLaws.{some_none}
use Rattle.kdcfile_double.specs.Twice.{identity_of, sequence_of, content_of}
use Rattle.kdcfile_double.specs.CommitTwoLaws.{one_frame}
use Rattle.kdcfile_double.specs.MendLaws.{found_copy, found_file, nothing_found, rest_again, rest_pairs, taken_again, taken_file, unused_lost}
use Rattle.kdcfile_double.proofs.store.TwinStore.take_mended.Goals as goal

pub returns-in-Some-clause-found : goal.returns-in-Some-clause-found
returns-in-Some-clause-found g c = λ told is.
    let copied = sym c.copy_in.ensures ∙ c.in-Some.is in
    inl (taken_again c.args.half c.args.self.now c.take.new.self c.in-Some.copy (disk_of c.args.half (g.T.Twin.both c.args.twin.now)).holds c.take.ensures.taken (found_copy c.in-Ok.found c.in-Some.copy copied c.in-Ok.ensures.found) (found_file c.in-Ok.found c.in-Some.copy (disk_of c.args.half (g.T.Twin.both c.args.twin.now)).holds copied (c.in-Ok.ensures.answer told)) is)

pub returns-in-Some-clause-kept : goal.returns-in-Some-clause-kept
returns-in-Some-clause-kept g c = λ told. (
  λ p is. taken_file c.args.half c.args.self.now c.take.new.self c.in-Some.copy (disk_of c.args.half (g.T.Twin.both c.args.twin.now)).holds c.requires.behind.0 c.take.ensures.taken (found_file c.in-Ok.found c.in-Some.copy (disk_of c.args.half (g.T.Twin.both c.args.twin.now)).holds (sym c.copy_in.ensures ∙ c.in-Some.is) (c.in-Ok.ensures.answer told)) p is,
  rest_again c.args.half (g.T.Twin.both c.args.twin.now) (g.T.Twin.both c.load_half.new.twin) (g.T.Twin.leaves c.args.twin.now) (g.T.Twin.leaves c.load_half.new.twin) (c.requires.rest told) (c.load_half.ensures.rests told) c.load_half.ensures.other_half (c.load_half.ensures.other_stays told),
)

pub returns-in-Some-clause-any_moment : goal.returns-in-Some-clause-any_moment
returns-in-Some-clause-any_moment g c = λ told. rest_pairs c.args.half (g.T.Twin.both c.args.twin.now) (g.T.Twin.both c.load_half.new.twin) (g.T.Twin.leaves c.args.twin.now) (g.T.Twin.leaves c.load_half.new.twin) (c.requires.rest told) (λ x d out left. g.met.T.Twin.sent_now c.args.twin.now x d out told left) (c.load_half.ensures.any_moment told)

pub returns-in-Some-clause-frame : goal.returns-in-Some-clause-frame
returns-in-Some-clause-frame g c = one_frame c.args.half (g.T.Twin.both c.args.twin.now) (g.T.Twin.both c.load_half.new.twin) c.load_half.ensures.frame c.load_half.ensures.names c.load_half.ensures.other_half (λ told. (c.load_half.ensures.rests told).sent)

pub returns-in_default-clause-found : goal.returns-in_default-clause-found
returns-in_default-clause-found g c = λ told is. absurd (nothing_found c.in-Ok.found (identity_of c.args.self.now) (sequence_of c.args.self.now) (content_of c.args.self.now) (disk_of c.args.half (g.T.Twin.both c.args.twin.now)).holds (sym c.copy_in.ensures ∙ c.in_default.is) (c.in-Ok.ensures.answer told) is)

pub returns-in_default-clause-kept : goal.returns-in_default-clause-kept
returns-in_default-clause-kept g c = λ told. (λ p is. absurd (some_none (sym is ∙ c.requires.behind.0)), rest_again c.args.half (g.T.Twin.both c.args.twin.now) (g.T.Twin.both c.load_half.new.twin) (g.T.Twin.leaves c.args.twin.now) (g.T.Twin.leaves c.load_half.new.twin) (c.requires.rest told) (c.load_half.ensures.rests told) c.load_half.ensures.other_half (c.load_half.ensures.other_stays told))

pub returns-in_default-clause-any_moment : goal.returns-in_default-clause-any_moment
returns-in_default-clause-any_moment g c = λ told. rest_pairs c.args.half (g.T.Twin.both c.args.twin.now) (g.T.Twin.both c.load_half.new.twin) (g.T.Twin.leaves c.args.twin.now) (g.T.Twin.leaves c.load_half.new.twin) (c.requires.rest told) (λ x d out left. g.met.T.Twin.sent_now c.args.twin.now x d out told left) (c.load_half.ensures.any_moment told)

pub returns-in-Err-Failed-clause-kept : goal.returns-in-Err-Failed-clause-kept
returns-in-Err-Failed-clause-kept g c = λ told.
    (λ p is. absurd (unused_lost c.args.half c.args.self.now c.lose.new.self p c.requires.behind.0 c.lose.ensures.lost is), rest_again c.args.half (g.T.Twin.both c.args.twin.now) (g.T.Twin.both c.load_half.new.twin) (g.T.Twin.leaves c.args.twin.now) (g.T.Twin.leaves c.load_half.new.twin) (c.requires.rest told) (c.load_half.ensures.rests told) c.load_half.ensures.other_half (c.load_half.ensures.other_stays told))

pub returns-in-Err-Failed-clause-any_moment : goal.returns-in-Err-Failed-clause-any_moment
returns-in-Err-Failed-clause-any_moment g c = λ told. rest_pairs c.args.half (g.T.Twin.both c.args.twin.now) (g.T.Twin.both c.load_half.new.twin) (g.T.Twin.leaves c.args.twin.now) (g.T.Twin.leaves c.load_half.new.twin) (c.requires.rest told) (λ x d out left. g.met.T.Twin.sent_now c.args.twin.now x d out told left) (c.load_half.ensures.any_moment told)

pub returns-in-Err-Memory-clause-kept : goal.returns-in-Err-Memory-clause-kept
returns-in-Err-Memory-clause-kept g c = λ told. (λ p is. absurd (some_none (sym is ∙ c.requires.behind.0)), rest_again c.args.half (g.T.Twin.both c.args.twin.now) (g.T.Twin.both c.load_half.new.twin) (g.T.Twin.leaves c.args.twin.now) (g.T.Twin.leaves c.load_half.new.twin) (c.requires.rest told) (c.load_half.ensures.rests told) c.load_half.ensures.other_half (c.load_half.ensures.other_stays told))

pub returns-in-Err-Memory-clause-any_moment : goal.returns-in-Err-Memory-clause-any_moment
returns-in-Err-Memory-clause-any_moment g c = λ told. rest_pairs c.args.half (g.T.Twin.both c.args.twin.now) (g.T.Twin.both c.load_half.new.twin) (g.T.Twin.leaves c.args.twin.now) (g.T.Twin.leaves c.load_half.new.twin) (c.requires.rest told) (λ x d out left. g.met.T.Twin.sent_now c.args.twin.now x d out told left) (c.load_half.ensures.any_moment told)

pub returns-in-Some-clause-line : goal.returns-in-Some-clause-line
returns-in-Some-clause-line g c = inl (c.in-Ok.ensures.fine (λ is. absurd cc)).line

pub returns-in_default-clause-line : goal.returns-in_default-clause-line
returns-in_default-clause-line g c = inl (c.in-Ok.ensures.fine (λ is. absurd cc)).line

pub returns-in-Err-Failed-clause-line : goal.returns-in-Err-Failed-clause-line
returns-in-Err-Failed-clause-line g c = inr (c.in-Err-Failed.ensures.failed (ap (λ z. Err z) c.in-Err-Failed.field-0-is))

pub returns-in-Err-Memory-clause-line : goal.returns-in-Err-Memory-clause-line
returns-in-Err-Memory-clause-line g c = inl (c.load_half.ensures.fine (λ is. absurd cc)).line
