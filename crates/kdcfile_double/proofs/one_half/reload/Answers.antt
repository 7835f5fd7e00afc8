use Rattle.std.proofs.Common.{Bool, ap, inl, inr, subst, refl, ◌≡◌, false, true}
use Rattle.std.specs.Prelude.{Err, Option, IsTrue}
use Rattle.kd_device.specs.Twin.{half_state, half_leaves}
use Rattle.kdcfile_store.specs.Kept.{IsKept}
use Rattle.kdcfile_copies.specs.declared.answer.LoadedCopy.{LoadedCopy}
use Rattle.kdcfile_copies.specs.declared.answer.Found.{Found}
use Rattle.kdcfile_copies.specs.Finding.{IsAnswer, IsFound}
use Rattle.kdcfile_double.specs.Twice.{SameFaultsAt}
use Rattle.kdcfile_double.specs.Committing.{IsKeptAt}
use Rattle.kdcfile_double.specs.OneHalfLaws.{KeepsSome, is_a_copy, same_again}
use Rattle.kdcfile_double.specs.ReopenLaws.{untouched_rests}
use Rattle.kdcfile_double.proofs.one_half.reload.Goals as goal

true_false : (b : Bool) → b ≡ false → IsTrue b → ⊥
true_false true is so = absurd cc
true_false false is so = absurd cc

pub returns-then-not-are_alike-clause-refused : goal.returns-then-not-are_alike-clause-refused
returns-then-not-are_alike-clause-refused g c = λ is told.
    let p = c.in-Some.kept in
    let kept = subst (λ (o : Option LoadedCopy). IsKeptAt c.args.half o (g.T.Twin.both c.args.twin.now) (g.T.Twin.leaves c.args.twin.now)) c.in-Some.is (c.requires.kept told) in
    true_false c.are_alike.result c.if-not-are_alike.true
    (c.are_alike.ensures.1
    (rw c.in-Ok-Copy.field-0-is
    (same_again p c.in-Ok-Copy.again (half_state c.args.half (g.T.Twin.both c.args.twin.now)).holds (subst KeepsSome c.in-Some.is c.requires.keeps) kept.bytes
    (subst (λ (f : Found). IsFound f) c.in-Ok-Copy.field-0-is c.in-Ok-Copy.ensures.found)
    (subst (λ (f : Found). IsAnswer f (half_state c.args.half (g.T.Twin.both c.args.twin.now)).holds) c.in-Ok-Copy.field-0-is (c.in-Ok-Copy.ensures.answer told)))))

pub returns-in-Ok-Copy-clause-kept : goal.returns-in-Ok-Copy-clause-kept
returns-in-Ok-Copy-clause-kept g c = λ told.
    rw c.in-Ok-Copy.field-0-is
    (subst (λ (f : Found). IsKept (IsAnswer f) (half_state c.args.half (g.T.Twin.both c.load_half.new.twin)) (half_leaves c.args.half (g.T.Twin.leaves c.load_half.new.twin))) c.in-Ok-Copy.field-0-is
    (c.in-Ok-Copy.ensures.kept told))

pub returns-in-Ok-Copy-clause-lost : goal.returns-in-Ok-Copy-clause-lost
returns-in-Ok-Copy-clause-lost g c =
    let so : (c.args.lost.now ≡ c.args.lost.now) × SameFaultsAt c.args.half (g.T.Twin.both c.args.twin.now) (g.T.Twin.both c.load_half.new.twin) = (refl, (c.in-Ok-Copy.ensures.fine (λ e. absurd cc)).disk) in
    rw c.in-Some.is so

pub returns-in-Ok-NoCopy-clause-refused : goal.returns-in-Ok-NoCopy-clause-refused
returns-in-Ok-NoCopy-clause-refused g c = λ is told.
    let p = c.in-Some.kept in
    let kept = subst (λ (o : Option LoadedCopy). IsKeptAt c.args.half o (g.T.Twin.both c.args.twin.now) (g.T.Twin.leaves c.args.twin.now)) c.in-Some.is (c.requires.kept told) in
    is_a_copy p (half_state c.args.half (g.T.Twin.both c.args.twin.now)).holds (subst KeepsSome c.in-Some.is c.requires.keeps) kept.bytes
    (subst (λ (f : Found). IsAnswer f (half_state c.args.half (g.T.Twin.both c.args.twin.now)).holds) c.in-Ok-NoCopy.field-0-is (c.in-Ok-NoCopy.ensures.answer told)).1

pub returns-in_default-clause-rests : goal.returns-in_default-clause-rests
returns-in_default-clause-rests g c = λ told. untouched_rests c.args.half (g.T.Twin.both c.args.twin.now) (g.T.Twin.leaves c.args.twin.now)

pub returns-then-not-are_alike-clause-unread : goal.returns-then-not-are_alike-clause-unread
returns-then-not-are_alike-clause-unread g c = ((c.in-Some.kept, c.in-Some.is), (c.in-Ok-Copy.ensures.fine (λ is. absurd cc)).disk)

pub returns-then-not-are_alike-clause-line : goal.returns-then-not-are_alike-clause-line
returns-then-not-are_alike-clause-line g c = inl (c.in-Ok-Copy.ensures.fine (λ is. absurd cc)).line

pub returns-in-Ok-Copy-clause-line : goal.returns-in-Ok-Copy-clause-line
returns-in-Ok-Copy-clause-line g c = inl (c.in-Ok-Copy.ensures.fine (λ is. absurd cc)).line

pub returns-in-Ok-Empty-clause-unread : goal.returns-in-Ok-Empty-clause-unread
returns-in-Ok-Empty-clause-unread g c = ((c.in-Some.kept, c.in-Some.is), (c.in-Ok-Empty.ensures.fine (λ is. absurd cc)).disk)

pub returns-in-Ok-Empty-clause-line : goal.returns-in-Ok-Empty-clause-line
returns-in-Ok-Empty-clause-line g c = inl (c.in-Ok-Empty.ensures.fine (λ is. absurd cc)).line

pub returns-in-Ok-NoCopy-clause-unread : goal.returns-in-Ok-NoCopy-clause-unread
returns-in-Ok-NoCopy-clause-unread g c = ((c.in-Some.kept, c.in-Some.is), (c.in-Ok-NoCopy.ensures.fine (λ is. absurd cc)).disk)

pub returns-in-Ok-NoCopy-clause-line : goal.returns-in-Ok-NoCopy-clause-line
returns-in-Ok-NoCopy-clause-line g c = inl (c.in-Ok-NoCopy.ensures.fine (λ is. absurd cc)).line

pub returns-in-Err-Failed-clause-line : goal.returns-in-Err-Failed-clause-line
returns-in-Err-Failed-clause-line g c = inr (c.in-Some.kept, c.in-Some.is, c.in-Err-Failed.ensures.failed (ap (λ z. Err z) c.in-Err-Failed.field-0-is))

pub returns-clause-unread : goal.returns-clause-unread
returns-clause-unread g c = ((c.in-Some.kept, c.in-Some.is), (c.load_half.ensures.fine (λ is. absurd cc)).disk)

pub returns-clause-line : goal.returns-clause-line
returns-clause-line g c = inl (c.load_half.ensures.fine (λ is. absurd cc)).line

pub returns-in_default-clause-line : goal.returns-in_default-clause-line
returns-in_default-clause-line g c = inl refl
