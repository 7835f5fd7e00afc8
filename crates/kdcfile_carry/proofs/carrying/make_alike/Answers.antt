use Rattle.std.proofs.Common.{◌≡◌, ℕ, Some, None, inl, inr, sym, subst}
use Rattle.std.specs.Prelude.{IsTrue}
use Rattle.kd_device.specs.Twin.{other}
use Rattle.kdcfile_carry.specs.Doing.{FailsAlone}
use Rattle.kdcfile_carry.specs.Files.{AreFiles}
use Rattle.kdcfile_carry.specs.Keeping.{IsSource, files_in}
use Rattle.kdcfile_carry.specs.Leaving.{EachStands, StaysWithin}
use Rattle.kdcfile_carry.specs.LeavingLaws.{stays_weaker}
use Rattle.kdcfile_carry.specs.Writing.{MakesAlike}
use Rattle.kdcfile_carry.specs.WritingLaws.{anew_beside, none_here}
use Rattle.kdcfile_carry.proofs.Changing.{alike_stands, half_other, is_behind, not_alone, source_in}
use Rattle.kdcfile_carry.proofs.Steps.{alone_of}
use Rattle.kdcfile_carry.proofs.carrying.make_alike.Given.{Over}
use Rattle.kdcfile_carry.proofs.carrying.make_alike.Goals.{After-write_anew}
use Rattle.kdcfile_carry.proofs.carrying.make_alike.Goals as goal

pub returns-then-kept-clause-halves : goal.returns-then-kept-clause-halves
returns-then-kept-clause-halves g c = λ told. alike_stands c.args.kept.now (g.T.Twin.both c.args.twin.now) (c.requires.is_in told) c.if-kept.true

stays : (g : Over) (c : After-write_anew g) → (n : ℕ) → c.args.kept.now.sequence ≡ Some n → IsTrue (g.T.Twin.both c.args.twin.now).told → StaysWithin (AreFiles (files_in c.args.kept.now)) (g.T.Twin.both c.args.twin.now) (g.T.Twin.both c.write_anew.new.twin) (g.T.Twin.leaves c.args.twin.now) (g.T.Twin.leaves c.write_anew.new.twin)
stays g c n is told =
    let k = c.args.kept.now in
    stays_weaker (g.T.Twin.both c.args.twin.now) (g.T.Twin.both c.write_anew.new.twin) (g.T.Twin.leaves c.args.twin.now) (g.T.Twin.leaves c.write_anew.new.twin) (IsSource k.home k.file.store.identity n k.tables) (AreFiles (files_in k)) (λ x y source. source_in k k.home n x y is source)
    (c.write_anew.ensures.any_moment told k.file.store.identity n k.tables ((c.requires.is_in told).source n is))

pub returns-in-Ok-None-clause-any_moment : goal.returns-in-Ok-None-clause-any_moment
returns-in-Ok-None-clause-any_moment g c = let n = not_alone c.args.kept.now c.requires.known c.if-kept.false in stays g (goal.at.returns-in-Ok-None-clause-any_moment g c).After-write_anew n.0 n.1

pub returns-in-Ok-Some-clause-any_moment : goal.returns-in-Ok-Some-clause-any_moment
returns-in-Ok-Some-clause-any_moment g c = let n = not_alone c.args.kept.now c.requires.known c.if-kept.false in stays g (goal.at.returns-in-Ok-Some-clause-any_moment g c).After-write_anew n.0 n.1

pub returns-in-Err-clause-any_moment : goal.returns-in-Err-clause-any_moment
returns-in-Err-clause-any_moment g c = let n = not_alone c.args.kept.now c.requires.known c.if-kept.false in stays g (goal.at.returns-in-Err-clause-any_moment g c).After-write_anew n.0 n.1

pub returns-in-Ok-None-clause-halves : goal.returns-in-Ok-None-clause-halves
returns-in-Ok-None-clause-halves g c = λ told.
    let k = c.args.kept.now in
    let b = g.T.Twin.both c.write_anew.new.twin in
    let n = not_alone k c.requires.known c.if-kept.false in
    subst (λ s. EachStands k.file.store.identity k.tables s None b) (sym n.1) (subst (λ o. EachStands k.file.store.identity k.tables (Some n.0) o b) c.in-Ok-None.field-0-is (c.in-Ok-None.ensures.halves told k.file.store.identity n.0 k.tables ((c.requires.is_in told).source n.0 n.1)))

pub returns-in-Ok-Some-clause-halves : goal.returns-in-Ok-Some-clause-halves
returns-in-Ok-Some-clause-halves g c = λ told.
    let k = c.args.kept.now in
    let b = g.T.Twin.both c.write_anew.new.twin in
    let n = not_alone k c.requires.known c.if-kept.false in
    subst (λ s. EachStands k.file.store.identity k.tables s (Some c.in-Ok-Some.half) b) (sym n.1) (subst (λ o. EachStands k.file.store.identity k.tables (Some n.0) o b) c.in-Ok-Some.field-0-is (c.in-Ok-Some.ensures.halves told k.file.store.identity n.0 k.tables ((c.requires.is_in told).source n.0 n.1)))

pub returns-in-Ok-None-clause-were : goal.returns-in-Ok-None-clause-were
returns-in-Ok-None-clause-were g c = λ told. is_behind c.args.kept.now (g.T.Twin.both c.args.twin.now) (c.requires.is_in told) c.if-kept.false c.other.result c.other.ensures

pub returns-in-Ok-Some-clause-were : goal.returns-in-Ok-Some-clause-were
returns-in-Ok-Some-clause-were g c = λ told. is_behind c.args.kept.now (g.T.Twin.both c.args.twin.now) (c.requires.is_in told) c.if-kept.false c.in-Ok-Some.half (c.in-Ok-Some.ensures.lost c.in-Ok-Some.half c.in-Ok-Some.field-0-is).0

pub returns-in-Ok-None-clause-fine : goal.returns-in-Ok-None-clause-fine
returns-in-Ok-None-clause-fine g c =
    subst (λ o. FailsAlone o (g.T.Twin.both c.args.twin.now) (g.T.Twin.both c.write_anew.new.twin)) c.in-Ok-None.field-0-is (alone_of c.args.kept.now.home c.in-Ok-None.field-0 (g.T.Twin.both c.args.twin.now) (g.T.Twin.both c.write_anew.new.twin) c.in-Ok-None.ensures.lost c.in-Ok-None.ensures.fine c.write_anew.ensures.line)

pub returns-in-Ok-Some-clause-fine : goal.returns-in-Ok-Some-clause-fine
returns-in-Ok-Some-clause-fine g c =
    subst (λ o. FailsAlone o (g.T.Twin.both c.args.twin.now) (g.T.Twin.both c.write_anew.new.twin)) c.in-Ok-Some.field-0-is (alone_of c.args.kept.now.home c.in-Ok-Some.field-0 (g.T.Twin.both c.args.twin.now) (g.T.Twin.both c.write_anew.new.twin) c.in-Ok-Some.ensures.lost c.in-Ok-Some.ensures.fine c.write_anew.ensures.line)

pub returns-then-kept-clause-written : goal.returns-then-kept-clause-written
returns-then-kept-clause-written g c = λ told. inl (none_here (g.T.Twin.both c.args.twin.now))

writes : (g : Over) (c : After-write_anew g) → IsTrue (g.T.Twin.both c.args.twin.now).told → MakesAlike (files_in c.args.kept.now) (g.T.Twin.both c.args.twin.now) (g.T.Twin.both c.write_anew.new.twin)
writes g c told =
    let k = c.args.kept.now in
    inr (
      other k.home,
      half_other k c.requires.known (g.T.Twin.both c.args.twin.now) (c.requires.is_in told) c.if-kept.false,
      anew_beside k.home (g.T.Twin.both c.args.twin.now) (g.T.Twin.both c.write_anew.new.twin) (c.write_anew.ensures.put_most told) (c.write_anew.ensures.source_put told),
    )

pub returns-in-Ok-None-clause-written : goal.returns-in-Ok-None-clause-written
returns-in-Ok-None-clause-written g c = writes g (goal.at.returns-in-Ok-None-clause-written g c).After-write_anew

pub returns-in-Ok-Some-clause-written : goal.returns-in-Ok-Some-clause-written
returns-in-Ok-Some-clause-written g c = writes g (goal.at.returns-in-Ok-Some-clause-written g c).After-write_anew

pub returns-in-Err-clause-written : goal.returns-in-Err-clause-written
returns-in-Err-clause-written g c = writes g (goal.at.returns-in-Err-clause-written g c).After-write_anew
