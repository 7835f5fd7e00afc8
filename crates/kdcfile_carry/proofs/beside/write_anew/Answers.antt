use Rattle.std.proofs.Common.{◌≡◌, ℕ, Some, sym, ap, subst, ◌∙◌}
use Rattle.std.specs.Prelude.{IsTrue}
use Rattle.kd_base.specs.ToolsLaws.{some_is}
use Rattle.kd_device.specs.declared.half.Half.{Half}
use Rattle.kd_device.specs.declared.half.Half.TheVariants.{First}
use Rattle.kd_device.specs.Twin.{other}
use Rattle.kdcfile_double.specs.MendLaws.{both_rest, each_rests, frame_of_halves}
use Rattle.kdcfile_double.specs.Twice.{FrameBoth, RoseAt, SameFaultsAt}
use Rattle.kd_records.specs.Identity.{Identity}
use Rattle.kdcs_types.specs.Tables.{TableRows}
use Rattle.kdcfile_carry.specs.Keeping.{IsSource}
use Rattle.kdcfile_carry.specs.Leaving.{StaysWithin}
use Rattle.kdcfile_carry.proofs.Anew.{anew_stays, both_stand, each_half, one_stands}
use Rattle.kdcfile_carry.proofs.beside.write_anew.Given.{Over}
use Rattle.kdcfile_carry.proofs.beside.write_anew.Goals.{After-copy_over}
use Rattle.kdcfile_carry.proofs.beside.write_anew.Goals as goal

pub copy_over-requires-clause-at_rest : goal.copy_over-requires-clause-at_rest
copy_over-requires-clause-at_rest g c = λ told. each_rests (g.T.Twin.both c.args.twin.now) (g.T.Twin.leaves c.args.twin.now) (c.requires.at_rest told)

stays : (g : Over) (c : After-copy_over g) → IsTrue (g.T.Twin.both c.args.twin.now).told → (i : Identity) (n : ℕ) (t : TableRows) → IsSource c.args.source i n t (g.T.Twin.both c.args.twin.now).first.holds (g.T.Twin.both c.args.twin.now).second.holds → StaysWithin (IsSource c.args.source i n t) (g.T.Twin.both c.args.twin.now) (g.T.Twin.both c.copy_over.new.twin) (g.T.Twin.leaves c.args.twin.now) (g.T.Twin.leaves c.copy_over.new.twin)
stays g c told =
    let told_b = subst IsTrue (sym (c.copy_over.ensures.frame First).told) told in
    anew_stays (g.T.Twin.both c.args.twin.now) (g.T.Twin.both c.copy_over.new.twin) (g.T.Twin.leaves c.args.twin.now) (g.T.Twin.leaves c.copy_over.new.twin) c.args.source (c.requires.at_rest told)
    (λ x y out left. g.met.T.Twin.sent_now c.args.twin.now x y out told left) (c.copy_over.ensures.sent told) (λ t u x y out le left. g.met.T.Twin.earlier c.copy_over.new.twin t u x y out told_b le left) (c.copy_over.ensures.any_moment told)

frame : (g : Over) (c : After-copy_over g) → FrameBoth (g.T.Twin.both c.args.twin.now) (g.T.Twin.both c.copy_over.new.twin)
frame g c = frame_of_halves (g.T.Twin.both c.args.twin.now) (g.T.Twin.both c.copy_over.new.twin) c.copy_over.ensures.frame c.copy_over.ensures.names c.copy_over.ensures.sent

pub returns-in-Ok-clause-any_moment : goal.returns-in-Ok-clause-any_moment
returns-in-Ok-clause-any_moment g c = stays g (goal.at.returns-in-Ok-clause-any_moment g c).After-copy_over

pub returns-in-Ok-clause-halves : goal.returns-in-Ok-clause-halves
returns-in-Ok-clause-halves g c = λ told i n t is. both_stand c.args.source (g.T.Twin.both c.args.twin.now) (g.T.Twin.both c.copy_over.new.twin) (c.copy_over.ensures.source told).holds (c.in-Ok.ensures.copied told) i n t is _

pub returns-in-Ok-clause-at_rest : goal.returns-in-Ok-clause-at_rest
returns-in-Ok-clause-at_rest g c = λ none told. both_rest (g.T.Twin.both c.copy_over.new.twin) (g.T.Twin.leaves c.copy_over.new.twin) (c.in-Ok.ensures.rest told)

pub returns-in-Ok-clause-fine : goal.returns-in-Ok-clause-fine
returns-in-Ok-clause-fine g c = λ half spared. each_half c.args.source (λ h. SameFaultsAt h (g.T.Twin.both c.args.twin.now) (g.T.Twin.both c.copy_over.new.twin)) (c.in-Ok.ensures.fine_source (λ is. absurd cc)) (c.in-Ok.ensures.fine_target (λ is. absurd cc)) half

pub returns-in-Ok-clause-frame : goal.returns-in-Ok-clause-frame
returns-in-Ok-clause-frame g c = frame g (goal.at.returns-in-Ok-clause-frame g c).After-copy_over

pub returns-in-Err-Target-clause-any_moment : goal.returns-in-Err-Target-clause-any_moment
returns-in-Err-Target-clause-any_moment g c = stays g (goal.at.returns-in-Err-Target-clause-any_moment g c).After-copy_over

pub returns-in-Err-Target-clause-halves : goal.returns-in-Err-Target-clause-halves
returns-in-Err-Target-clause-halves g c = λ told i n t is. one_stands c.args.source (g.T.Twin.both c.args.twin.now) (g.T.Twin.both c.copy_over.new.twin) (c.copy_over.ensures.source told).holds i n t is c.other.result c.other.ensures

pub returns-in-Err-Target-clause-lost : goal.returns-in-Err-Target-clause-lost
returns-in-Err-Target-clause-lost g c = λ half is.
    let half_is : half ≡ other c.args.source = sym (some_is c.other.result half is) ∙ c.other.ensures in
    (half_is, subst (λ (h : Half). RoseAt h (g.T.Twin.both c.args.twin.now) (g.T.Twin.both c.copy_over.new.twin)) (sym half_is) (c.in-Err-Target.ensures.failed_target (let e = c.in-Err-Target.field-0-is in cc)))

pub returns-in-Err-Target-clause-fine : goal.returns-in-Err-Target-clause-fine
returns-in-Err-Target-clause-fine g c = λ half spared.
    each_half c.args.source (λ h. (Some c.other.result ≡ Some h → ⊥) → SameFaultsAt h (g.T.Twin.both c.args.twin.now) (g.T.Twin.both c.copy_over.new.twin)) (λ no. c.in-Err-Target.ensures.fine_source (λ is. absurd cc))
    (λ no. absurd (no (ap Some c.other.ensures))) half spared

pub returns-in-Err-Target-clause-frame : goal.returns-in-Err-Target-clause-frame
returns-in-Err-Target-clause-frame g c = frame g (goal.at.returns-in-Err-Target-clause-frame g c).After-copy_over

pub returns-in-Err-Source-clause-any_moment : goal.returns-in-Err-Source-clause-any_moment
returns-in-Err-Source-clause-any_moment g c = stays g (goal.at.returns-in-Err-Source-clause-any_moment g c).After-copy_over

pub returns-in-Err-Source-clause-frame : goal.returns-in-Err-Source-clause-frame
returns-in-Err-Source-clause-frame g c = frame g (goal.at.returns-in-Err-Source-clause-frame g c).After-copy_over

pub returns-in-Err-Memory-clause-any_moment : goal.returns-in-Err-Memory-clause-any_moment
returns-in-Err-Memory-clause-any_moment g c = stays g (goal.at.returns-in-Err-Memory-clause-any_moment g c).After-copy_over

pub returns-in-Err-Memory-clause-frame : goal.returns-in-Err-Memory-clause-frame
returns-in-Err-Memory-clause-frame g c = frame g (goal.at.returns-in-Err-Memory-clause-frame g c).After-copy_over
