use Rattle.std.proofs.Common.{◌⊎◌, sym, ap, subst, ◌∙◌}
use Rattle.std.specs.Prelude.{IsTrue, Some}
use Rattle.kd_records.specs.Identity.{Identity}
use Rattle.kd_device.specs.Twin.{Disk}
use Rattle.kd_device.specs.declared.half.Half.TheVariants.{First, Second}
use Rattle.kdcs_types.specs.Tables.{TableRows}
use Rattle.kdcfile_store.specs.Paged.{HasFile, identity_with}
use Rattle.kdcfile_copies.specs.Keeping.{BeingMade}
use Rattle.kdcfile_copies.specs.Beside.{LeavesBeside}
use Rattle.kdcfile_copies.specs.BesideLaws.{other_kept}
use Rattle.kdcfile_double.specs.Twice.{Twice, IsKeptTwice, LeavesBoth, with_copies}
use Rattle.kdcfile_double.specs.Opening.{IsMakingTwo, KeepsTablesTwice, Unchanged, identity_twice}
use Rattle.kdcfile_double.specs.MakingLaws.{making_first, making_second, made_are_twice, made_are_used, made_keep, made_kept, second_failed, second_failed, told_of, two_at_rest, two_fine, two_frames}
use Rattle.kdcfile_double.proofs.opening.empty.Given.{Over}
use Rattle.kdcfile_double.proofs.opening.empty.Goals.{After-make_half-2}
use Rattle.kdcfile_double.proofs.opening.empty.Goals as goal

pub returns-in_err-first-clause-any_moment : goal.returns-in_err-first-clause-any_moment
returns-in_err-first-clause-any_moment g c = λ told.
    let tw = c.args.twin.now in
    let a = g.T.Twin.both tw in
    let b = g.T.Twin.both c.make_half.new.twin in
    let la = g.T.Twin.leaves tw in
    let lb = g.T.Twin.leaves c.make_half.new.twin in
    making_first (identity_twice c.args.generation.now c.args.fingerprint.now) a b la lb (λ x y out left. g.met.T.Twin.sent_now tw x y out told left) (c.requires.empty told) (c.requires.at_rest told)
    (subst (λ (j : Identity). LeavesBeside First a b la lb (BeingMade j a.sent)) (c.limits_twice-limits.ensures.made c.args.fingerprint.now) (c.make_half.ensures.any_moment told))

pub make_half-requires-2-clause-at_rest : goal.make_half-requires-2-clause-at_rest
make_half-requires-2-clause-at_rest g c = λ told_b d left.
    let told : IsTrue (g.T.Twin.both c.args.twin.now).told = subst IsTrue c.make_half.ensures.frame.told told_b in
    let was = c.make_half.ensures.other_stays told d left in
    (c.requires.at_rest told).second_rests was.0 d was.1 ∙ ap (λ (x : Disk). x.holds) (sym c.make_half.ensures.other_half)

-- within the call on the second half
making : (g : Over) (c : After-make_half-2 g) → IsTrue (g.T.Twin.both c.args.twin.now).told → LeavesBoth (g.T.Twin.both c.args.twin.now) (g.T.Twin.both c.make_half-2.new.twin) (g.T.Twin.leaves c.args.twin.now) (g.T.Twin.leaves c.make_half-2.new.twin) (λ x d out. Unchanged (g.T.Twin.both c.args.twin.now) (g.T.Twin.leaves c.args.twin.now) x d out ⊎ IsMakingTwo (identity_twice c.args.generation.now c.args.fingerprint.now) (g.T.Twin.both c.args.twin.now).sent x d out)
making g c told =
    let tw = c.args.twin.now in
    let a = g.T.Twin.both tw in
    let b = g.T.Twin.both c.make_half.new.twin in
    let e = g.T.Twin.both c.make_half-2.new.twin in
    let la = g.T.Twin.leaves tw in
    let lb = g.T.Twin.leaves c.make_half.new.twin in
    let le = g.T.Twin.leaves c.make_half-2.new.twin in
    let told_b : IsTrue b.told = subst IsTrue (sym c.make_half.ensures.frame.told) told in
    let made = c.limits_twice-limits.ensures.made c.args.fingerprint.now in
    making_second (identity_twice c.args.generation.now c.args.fingerprint.now) a b la lb (λ x y out left. g.met.T.Twin.sent_now tw x y out told left) (c.requires.empty told) (c.requires.at_rest told)
    c.in_ok-first.first (c.in_ok-first.ensures.identity ∙ made) c.in_ok-first.ensures.keeps (c.in_ok-first.ensures.kept told) (λ x y out left. g.met.T.Twin.sent_now c.make_half.new.twin x y out told_b left)
    (c.make_half.ensures.sent told) (c.make_half.ensures.other_stays told) e le (subst (λ (j : Identity). LeavesBeside First a b la lb (BeingMade j a.sent)) made (c.make_half.ensures.any_moment told))
    (subst (λ (j : Identity). LeavesBeside Second b e lb le (BeingMade j b.sent)) made (c.make_half-2.ensures.any_moment told_b))

pub returns-in_err-second-clause-any_moment : goal.returns-in_err-second-clause-any_moment
returns-in_err-second-clause-any_moment g c = making g (goal.at.returns-in_err-second-clause-any_moment g c).After-make_half-2

pub returns-in_err-second-clause-told : goal.returns-in_err-second-clause-told
returns-in_err-second-clause-told g c = told_of _ c.from_residual-in_err-second.result c.in_err-second.field-0.0 c.from_residual-in_err-second.ensures.1

pub returns-in_err-second-clause-failed : goal.returns-in_err-second-clause-failed
returns-in_err-second-clause-failed g c = second_failed _ _ c.from_residual-in_err-second.result c.in_err-second.field-0.0 (g.T.Twin.both c.args.twin.now) (g.T.Twin.both c.make_half.new.twin) (g.T.Twin.both c.make_half-2.new.twin) c.make_half.ensures.other_half c.from_residual-in_err-second.ensures.1 c.in_err-second.ensures.failed

pub in_use-requires-2 : goal.in_use-requires-2
in_use-requires-2 g c =
    made_are_twice c.in_ok-first.first c.in_ok-second.second (identity_with c.limits_twice-limits.result c.args.fingerprint.now) (c.limits_twice-limits.ensures.identity c.args.fingerprint.now c.told-fingerprint)
    c.in_ok-first.ensures.identity c.in_ok-second.ensures.identity c.in_ok-first.ensures.sequence c.in_ok-second.ensures.sequence c.in_ok-first.ensures.keeps c.in_ok-second.ensures.keeps

pub returns-clause-keeps : goal.returns-clause-keeps
returns-clause-keeps g c = λ open_now.
    let i = identity_twice c.args.generation.now c.args.fingerprint.now in
    let p = c.in_ok-first.first in
    let q = c.in_ok-second.second in
    subst (λ (s : Twice). KeepsTablesTwice i s c.empty-2.result) (sym c.in_use-2.ensures)
    (subst (λ (t : TableRows). KeepsTablesTwice i (with_copies (Some p) (Some q)) t) (sym c.empty-2.ensures)
    (made_keep p q i (c.in_ok-first.ensures.identity ∙ c.limits_twice-limits.ensures.made c.args.fingerprint.now) c.in_ok-first.ensures.keeps))

pub returns-clause-kept : goal.returns-clause-kept
returns-clause-kept g c = λ open_now told.
    let b = g.T.Twin.both c.make_half.new.twin in
    let e = g.T.Twin.both c.make_half-2.new.twin in
    let lb = g.T.Twin.leaves c.make_half.new.twin in
    let le = g.T.Twin.leaves c.make_half-2.new.twin in
    let told_b : IsTrue b.told = subst IsTrue (sym c.make_half.ensures.frame.told) told in
    subst (λ (s : Twice). IsKeptTwice s e le) (sym c.in_use-2.ensures)
    (made_kept c.in_ok-first.first c.in_ok-second.second e le
    (other_kept Second b e lb le (HasFile c.in_ok-first.first.store) c.make_half-2.ensures.other_half (c.make_half-2.ensures.other_stays told_b) (c.in_ok-first.ensures.kept told))
    (c.in_ok-second.ensures.kept told_b))

pub returns-clause-at_rest : goal.returns-clause-at_rest
returns-clause-at_rest g c = λ told.
    let told_b : IsTrue (g.T.Twin.both c.make_half.new.twin).told = subst IsTrue (sym c.make_half.ensures.frame.told) told in
    two_at_rest (g.T.Twin.both c.args.twin.now) (g.T.Twin.both c.make_half.new.twin) (g.T.Twin.both c.make_half-2.new.twin) c.make_half.ensures.other_half c.make_half-2.ensures.other_half (g.T.Twin.leaves c.make_half.new.twin) (g.T.Twin.leaves c.make_half-2.new.twin) (c.make_half-2.ensures.other_stays told_b) (HasFile c.in_ok-first.first.store) (HasFile c.in_ok-second.second.store) (c.in_ok-first.ensures.kept told) (c.in_ok-second.ensures.kept told_b)

pub returns-clause-fine : goal.returns-clause-fine
returns-clause-fine g c = λ none. two_fine (g.T.Twin.both c.args.twin.now) (g.T.Twin.both c.make_half.new.twin) (g.T.Twin.both c.make_half-2.new.twin) c.make_half.ensures.other_half c.make_half-2.ensures.other_half (c.in_ok-first.ensures.fine (λ is. absurd cc)) (c.in_ok-second.ensures.fine (λ is. absurd cc))

pub returns-clause-frame : goal.returns-clause-frame
returns-clause-frame g c =
    two_frames (g.T.Twin.both c.args.twin.now) (g.T.Twin.both c.make_half.new.twin) (g.T.Twin.both c.make_half-2.new.twin) c.make_half.ensures.other_half c.make_half-2.ensures.other_half c.make_half.ensures.frame c.make_half.ensures.names c.make_half.ensures.sent c.make_half-2.ensures.frame c.make_half-2.ensures.names c.make_half-2.ensures.sent

pub returns-clause-made : goal.returns-clause-made
returns-clause-made g c = λ make. made_are_used c.in_ok-first.first c.in_ok-second.second _ c.in_use-2.ensures

pub returns-clause-any_moment : goal.returns-clause-any_moment
returns-clause-any_moment g c = making g (goal.at.returns-clause-any_moment g c).After-make_half-2
