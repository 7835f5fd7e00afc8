use Rattle.std.proofs.Common.{◌≡◌, Some, subst}
use Rattle.std.specs.Prelude.{IsTrue}
use Rattle.kd_device.specs.declared.half.Half.{Half}
use Rattle.kd_device.specs.declared.half.Half.TheVariants.{First, Second}
use Rattle.kdcfile_carry.specs.Files.{AreFiles}
use Rattle.kdcfile_carry.specs.Keeping.{IsSource, files_in}
use Rattle.kdcfile_carry.specs.Leaving.{EachStands, StaysWithin}
use Rattle.kdcfile_carry.proofs.Steps.{rose_on}
use Rattle.kdcfile_carry.specs.LeavingLaws.{stays_weaker}
use Rattle.kdcfile_carry.specs.Writing.{MendsFirst}
use Rattle.kdcfile_carry.specs.WritingLaws.{mends_first}
use Rattle.kdcfile_carry.proofs.Changing.{anew_on_first, first_other, numbered, open_second, source_in, source_second}
use Rattle.kdcfile_carry.proofs.carrying.first_anew.Given.{Over}
use Rattle.kdcfile_carry.proofs.carrying.first_anew.Goals.{After-write_anew}
use Rattle.kdcfile_carry.proofs.carrying.first_anew.Goals as goal

stays : (g : Over) (c : After-write_anew g) → IsTrue (g.T.Twin.both c.args.twin.now).told → StaysWithin (AreFiles (files_in c.args.kept.now)) (g.T.Twin.both c.args.twin.now) (g.T.Twin.both c.write_anew.new.twin) (g.T.Twin.leaves c.args.twin.now) (g.T.Twin.leaves c.write_anew.new.twin)
stays g c told =
    let k = c.args.kept.now in
    let n = numbered k c.requires.known c.requires.second in
    stays_weaker (g.T.Twin.both c.args.twin.now) (g.T.Twin.both c.write_anew.new.twin) (g.T.Twin.leaves c.args.twin.now) (g.T.Twin.leaves c.write_anew.new.twin) (IsSource Second k.file.store.identity n.0 k.tables) (AreFiles (files_in k)) (λ x y source. source_in k Second n.0 x y n.1 source)
    (c.write_anew.ensures.any_moment told k.file.store.identity n.0 k.tables (source_second k (g.T.Twin.both c.args.twin.now) (g.T.Twin.both c.args.twin.now) (c.requires.is_in told) c.requires.second n.0 n.1))

pub write_anew-requires-clause-open : goal.write_anew-requires-clause-open
write_anew-requires-clause-open g c = λ told.
    let k = c.args.kept.now in
    let n = numbered k c.requires.known c.requires.second in
    open_second k (g.T.Twin.both c.args.twin.now) (g.T.Twin.both c.args.twin.now) (c.requires.is_in told) c.requires.second n.0 n.1

pub returns-in-Ok-None-clause-any_moment : goal.returns-in-Ok-None-clause-any_moment
returns-in-Ok-None-clause-any_moment g c = stays g (goal.at.returns-in-Ok-None-clause-any_moment g c).After-write_anew

pub returns-in-Ok-Some-clause-any_moment : goal.returns-in-Ok-Some-clause-any_moment
returns-in-Ok-Some-clause-any_moment g c = stays g (goal.at.returns-in-Ok-Some-clause-any_moment g c).After-write_anew

pub returns-in-Err-clause-any_moment : goal.returns-in-Err-clause-any_moment
returns-in-Err-clause-any_moment g c = stays g (goal.at.returns-in-Err-clause-any_moment g c).After-write_anew

pub returns-in-Ok-None-clause-on_first : goal.returns-in-Ok-None-clause-on_first
returns-in-Ok-None-clause-on_first g c = λ told.
    let k = c.args.kept.now in
    let a = g.T.Twin.both c.args.twin.now in
    let b = g.T.Twin.both c.write_anew.new.twin in
    anew_on_first k c.requires.known a b (c.requires.is_in told) c.requires.second (c.in-Ok-None.ensures.copied c.in-Ok-None.field-0-is told) (c.write_anew.ensures.source_stays told)
    (λ n is. subst (λ o. EachStands k.file.store.identity k.tables (Some n) o b) c.in-Ok-None.field-0-is (c.in-Ok-None.ensures.halves told k.file.store.identity n k.tables (source_second k a a (c.requires.is_in told) c.requires.second n is)))

pub returns-in-Ok-None-clause-fine : goal.returns-in-Ok-None-clause-fine
returns-in-Ok-None-clause-fine g c =
    let none : (half : Half) → c.in-Ok-None.field-0 ≡ Some half → ⊥ = λ half is. (let e = c.in-Ok-None.field-0-is in absurd cc) in
    record { first_same = c.in-Ok-None.ensures.fine First (none First); second_same = c.in-Ok-None.ensures.fine Second (none Second); line_same = c.write_anew.ensures.line }

pub returns-in-Ok-Some-clause-failed : goal.returns-in-Ok-Some-clause-failed
returns-in-Ok-Some-clause-failed g c = λ is. rose_on c.in-Ok-Some.field-0-0 (g.T.Twin.both c.args.twin.now) (g.T.Twin.both c.write_anew.new.twin) (c.in-Ok-Some.ensures.lost c.in-Ok-Some.field-0-0 c.in-Ok-Some.field-0-is).1

writes : (g : Over) (c : After-write_anew g) → IsTrue (g.T.Twin.both c.args.twin.now).told → MendsFirst (files_in c.args.kept.now) (g.T.Twin.both c.args.twin.now) (g.T.Twin.both c.write_anew.new.twin)
writes g c told =
    mends_first (files_in c.args.kept.now) (g.T.Twin.both c.args.twin.now) (g.T.Twin.both c.write_anew.new.twin) (first_other c.args.kept.now c.requires.known (g.T.Twin.both c.args.twin.now) (c.requires.is_in told) c.requires.second) (c.write_anew.ensures.put_most told) (c.write_anew.ensures.source_put told)

pub returns-in-Ok-None-clause-written : goal.returns-in-Ok-None-clause-written
returns-in-Ok-None-clause-written g c = writes g (goal.at.returns-in-Ok-None-clause-written g c).After-write_anew

pub returns-in-Ok-Some-clause-written : goal.returns-in-Ok-Some-clause-written
returns-in-Ok-Some-clause-written g c = writes g (goal.at.returns-in-Ok-Some-clause-written g c).After-write_anew

pub returns-in-Err-clause-written : goal.returns-in-Err-clause-written
returns-in-Err-clause-written g c = writes g (goal.at.returns-in-Err-clause-written g c).After-write_anew
