use Rattle.std.proofs.Common.{◌≡◌, sym, ap, subst, ◌∙◌}
use Rattle.std.specs.Prelude.{IsTrue, Option}
use Rattle.kd_device.specs.Twin.{Both}
use Rattle.device_acts.specs.ErrorsLaws.{other_error}
use Rattle.kd_device.specs.declared.half.Half.{Half}
use Rattle.kd_device.specs.declared.half.Half.TheVariants.{First, Second}
use Rattle.kdcfile_copies.specs.declared.answer.LoadedCopy.{LoadedCopy}
use Rattle.device_acts.specs.declared.warm_start.error.OpenError.TheVariants as opening
use Rattle.kdcfile_double.specs.Twice.{FineTwice, Twice, IsOpen, IsTwice}
use Rattle.kdcfile_double.specs.Choice.{KeepsNoneTwice, KeepsOthersTwice}
use Rattle.kdcfile_double.specs.Committing.{IsKeptAt}
use Rattle.kdcfile_double.specs.CommitTwoLaws.{first_is_kept, line_with, second_is_kept, spared_open, spared_with}
use Rattle.kd_base.specs.ToolsLaws.{error_same}
use Rattle.kdcfile_double.specs.OpeningLaws.{fits_twice}
use Rattle.kdcfile_double.specs.OneHalfLaws.{KeepsSome, first_keeps_some, second_keeps_some}
use Rattle.kdcfile_double.specs.ReopenLaws.{AreAgain, IsReopened, err_failed, failed_only, read_failed, read_is_twice, read_suits, read_texts, reopened}
use Rattle.kdcfile_double.proofs.store.TwinStore.reopen.Given.{Over}
use Rattle.kdcfile_double.proofs.store.TwinStore.reopen.Goals.{In_ok-store}
use Rattle.kdcfile_double.proofs.store.TwinStore.reopen.Goals as goal

pub reload_both-requires-clause-first_keeps : goal.reload_both-requires-clause-first_keeps
reload_both-requires-clause-first_keeps g c = subst (λ (u : Twice). KeepsSome u.first) (sym c.self.view_is) (first_keeps_some c.args.self (subst IsTwice c.self.view_is c.self.invariant).alike)

pub reload_both-requires-clause-second_keeps : goal.reload_both-requires-clause-second_keeps
reload_both-requires-clause-second_keeps g c = subst (λ (u : Twice). KeepsSome u.second) (sym c.self.view_is) (second_keeps_some c.args.self (subst IsTwice c.self.view_is c.self.invariant).alike)

pub reload_both-requires-clause-first_kept : goal.reload_both-requires-clause-first_kept
reload_both-requires-clause-first_kept g c = λ told. subst (λ (u : Twice). IsKeptAt First u.first (g.T.Twin.both c.args.twin.now) (g.T.Twin.leaves c.args.twin.now)) (sym c.self.view_is) (first_is_kept c.args.self (g.T.Twin.both c.args.twin.now) (g.T.Twin.leaves c.args.twin.now) (g.met.T.Twin.holds_now c.args.twin.now) c.requires.kept told)

pub reload_both-requires-clause-second_kept : goal.reload_both-requires-clause-second_kept
reload_both-requires-clause-second_kept g c = λ told. subst (λ (u : Twice). IsKeptAt Second u.second (g.T.Twin.both c.args.twin.now) (g.T.Twin.leaves c.args.twin.now)) (sym c.self.view_is) (second_is_kept c.args.self (g.T.Twin.both c.args.twin.now) (g.T.Twin.leaves c.args.twin.now) (g.met.T.Twin.holds_now c.args.twin.now) c.requires.kept told)

-- the copies were read again, told of the store as it is seen
seen_again : {u s : Twice} {p q : Option LoadedCopy} {lost : Option Half} {a b : Both} → u ≡ s → AreAgain u.first u.second p q u.lost lost a b → AreAgain s.first s.second p q s.lost lost a b
seen_again {u} {s} {p} {q} {lost} {a} {b} seen r = subst (λ (z : Twice). AreAgain z.first z.second p q z.lost lost a b) seen r

pub again-requires : goal.again-requires
again-requires g c =
    subst (λ (u : Twice). IsTwice (record { first = c.in_ok-found.found.0; second = c.in_ok-found.found.1; mended = u.mended; lost = c.reload_both.new.lost })) (sym c.self.view_is) (read_is_twice c.args.self (subst IsTwice c.self.view_is c.self.invariant) c.in_ok-found.found.0 c.in_ok-found.found.1 c.reload_both.new.lost (g.T.Twin.both c.args.twin.now) (g.T.Twin.both c.reload_both.new.twin) (seen_again c.self.view_is c.in_ok-found.ensures.again))

pub returns-in_err-found-clause-refused : goal.returns-in_err-found-clause-refused
returns-in_err-found-clause-refused g c = λ t keeps suits is told. c.in_err-found.ensures.refused (error_same _ _ c.from_residual.result c.in_err-found.field-0.0 opening.NotKdcfile c.from_residual.ensures.1 is) told

pub returns-in_err-found-clause-other : goal.returns-in_err-found-clause-other
returns-in_err-found-clause-other g c = λ t stored keeps is told. c.in_err-found.ensures.other stored (error_same _ _ c.from_residual.result c.in_err-found.field-0.0 (opening.OtherGeneration stored) c.from_residual.ensures.1 is)

pub returns-in_err-found-clause-failed : goal.returns-in_err-found-clause-failed
returns-in_err-found-clause-failed g c = λ is half used. absurd (c.in_err-found.ensures.failed (error_same _ _ c.from_residual.result c.in_err-found.field-0.0 opening.Failed c.from_residual.ensures.1 is))

pub returns-in_err-found-clause-still : goal.returns-in_err-found-clause-still
returns-in_err-found-clause-still g c = λ told. let rests = c.reload_both.ensures.rests told in (rests.files, rests.leaves)

pub returns-in_err-found-clause-frame : goal.returns-in_err-found-clause-frame
returns-in_err-found-clause-frame g c = c.reload_both.ensures.frame

pub returns-in_err-store-clause-refused : goal.returns-in_err-store-clause-refused
returns-in_err-store-clause-refused g c = λ t keeps suits is told. let h : opening.NotKdcfile ≡ opening.Failed = failed_only _ c.from_residual-in_err-store.result c.in_err-store.field-0.0 opening.NotKdcfile c.from_residual-in_err-store.ensures.1 is (err_failed _ c.in_err-store.field-0.0 c.in_err-store.ensures.failed.0) in absurd cc

pub returns-in_err-store-clause-other : goal.returns-in_err-store-clause-other
returns-in_err-store-clause-other g c = λ t stored keeps is told. let h : opening.OtherGeneration stored ≡ opening.Failed = failed_only _ c.from_residual-in_err-store.result c.in_err-store.field-0.0 (opening.OtherGeneration stored) c.from_residual-in_err-store.ensures.1 is (err_failed _ c.in_err-store.field-0.0 c.in_err-store.ensures.failed.0) in absurd cc

pub returns-in_err-store-clause-failed : goal.returns-in_err-store-clause-failed
returns-in_err-store-clause-failed g c = λ is.
    read_failed c.args.self (subst IsTwice c.self.view_is c.self.invariant) c.in_ok-found.found.0 c.in_ok-found.found.1 c.reload_both.new.lost (g.T.Twin.both c.args.twin.now) (g.T.Twin.both c.reload_both.new.twin) (seen_again c.self.view_is c.in_ok-found.ensures.again) c.in_err-store.ensures.failed.1 c.in_err-store.ensures.failed.2

pub returns-in_err-store-clause-still : goal.returns-in_err-store-clause-still
returns-in_err-store-clause-still g c = λ told. let rests = c.reload_both.ensures.rests told in (rests.files, rests.leaves)

pub returns-in_err-store-clause-frame : goal.returns-in_err-store-clause-frame
returns-in_err-store-clause-frame g c = c.reload_both.ensures.frame

-- the store of the copies that were read again
abbrev of : (g : Over) (c : In_ok-store g) → Twice
of g c = record { first = c.in_ok-found.found.0; second = c.in_ok-found.found.1; mended = c.args.self.mended; lost = c.reload_both.new.lost }

same : (g : Over) (c : In_ok-store g) → c.in_ok-store.store ≡ of g c
same g c = c.in_ok-store.ensures.store ∙ ap (λ (u : Twice). record { first = c.in_ok-found.found.0; second = c.in_ok-found.found.1; mended = u.mended; lost = c.reload_both.new.lost }) c.self.view_is

open_now : (g : Over) (c : In_ok-store g) → IsOpen (of g c)
open_now g c = subst IsOpen (same g c) c.in_ok-store.ensures.is_open

now_open : (g : Over) (c : In_ok-store g) → IsReopened (IsTrue (g.T.Twin.both c.args.twin.now).told) c.args.self c.in_ok-store.store (g.T.Twin.both c.args.twin.now) (g.T.Twin.both c.reload_both.new.twin) (g.T.Twin.leaves c.reload_both.new.twin)
now_open g c =
    let a = g.T.Twin.both c.args.twin.now in
    let b = g.T.Twin.both c.reload_both.new.twin in
    let leaves = g.T.Twin.leaves c.reload_both.new.twin in
    subst (λ (u : Twice). IsReopened (IsTrue a.told) c.args.self u a b leaves) (sym (same g c))
    (reopened c.args.self (subst IsTwice c.self.view_is c.self.invariant) c.in_ok-found.found.0 c.in_ok-found.found.1 c.reload_both.new.lost a b (seen_again c.self.view_is c.in_ok-found.ensures.again) (open_now g c) (IsTrue a.told)
    (g.T.Twin.leaves c.args.twin.now) leaves c.requires.kept c.reload_both.ensures.rests c.in_ok-found.ensures.first_kept c.in_ok-found.ensures.second_kept)

-- the calls did not fail as a whole
went_open : (g : Over) (c : In_ok-store g) → FineTwice c.args.self (g.T.Twin.both c.args.twin.now) (g.T.Twin.both c.reload_both.new.twin)
went_open g c =
    let now_is = now_open g c in
    record {
      spared = spared_open c.args.self c.in_ok-store.store (g.T.Twin.both c.args.twin.now) (g.T.Twin.both c.reload_both.new.twin) c.in_ok-store.ensures.is_open now_is.no_other now_is.fine;
      line = line_with _ c.args.self c.self.view_is (g.T.Twin.both c.args.twin.now) (g.T.Twin.both c.reload_both.new.twin) c.reload_both.ensures.line;
    }

pub returns-in_err-found-clause-went : goal.returns-in_err-found-clause-went
returns-in_err-found-clause-went g c = λ none. record {
  spared = spared_with _ c.args.self c.self.view_is (g.T.Twin.both c.args.twin.now) (g.T.Twin.both c.reload_both.new.twin) c.in_err-found.ensures.spared;
  line = line_with _ c.args.self c.self.view_is (g.T.Twin.both c.args.twin.now) (g.T.Twin.both c.reload_both.new.twin) c.reload_both.ensures.line;
}

pub returns-in_err-store-clause-went : goal.returns-in_err-store-clause-went
returns-in_err-store-clause-went g c = λ none. absurd (other_error _ _ c.from_residual-in_err-store.result c.in_err-store.field-0.0 opening.Failed c.from_residual-in_err-store.ensures.1 none c.in_err-store.ensures.failed.0)

pub returns-in_err-tables-clause-went : goal.returns-in_err-tables-clause-went
returns-in_err-tables-clause-went g c = λ none. went_open g (goal.at.returns-in_err-tables-clause-went g c).In_ok-store

pub tables_for-requires : goal.tables_for-requires
tables_for-requires g c = c.in_ok-store.ensures.is_open

pub returns-in_err-tables-clause-refused : goal.returns-in_err-tables-clause-refused
returns-in_err-tables-clause-refused g c = λ t keeps suits is told.
    let here = (goal.at.returns-in_err-tables-clause-refused g c).In_ok-store in
    read_suits c.args.self (subst IsTwice c.self.view_is c.self.invariant) c.in_ok-found.found.0 c.in_ok-found.found.1 c.reload_both.new.lost (g.T.Twin.both c.args.twin.now) (g.T.Twin.both c.reload_both.new.twin) (seen_again c.self.view_is c.in_ok-found.ensures.again) (open_now g here) c.args.generation.now c.args.fingerprint.now t keeps suits (subst (λ (u : Twice). KeepsNoneTwice c.args.generation.now c.args.fingerprint.now u) (same g here) (c.in_err-tables.ensures.refused (error_same _ _ c.from_residual-in_err-tables.result c.in_err-tables.field-0.0 opening.NotKdcfile c.from_residual-in_err-tables.ensures.1 is)))

pub returns-in_err-tables-clause-other : goal.returns-in_err-tables-clause-other
returns-in_err-tables-clause-other g c = λ t stored keeps is told.
    let here = (goal.at.returns-in_err-tables-clause-other g c).In_ok-store in
    read_texts c.args.self (subst IsTwice c.self.view_is c.self.invariant) c.in_ok-found.found.0 c.in_ok-found.found.1 c.reload_both.new.lost (g.T.Twin.both c.args.twin.now) (g.T.Twin.both c.reload_both.new.twin) (seen_again c.self.view_is c.in_ok-found.ensures.again) (open_now g here) c.args.generation.now c.args.fingerprint.now stored t keeps (subst (λ (u : Twice). KeepsOthersTwice stored c.args.fingerprint.now u) (same g here) (c.in_err-tables.ensures.other stored (error_same _ _ c.from_residual-in_err-tables.result c.in_err-tables.field-0.0 (opening.OtherGeneration stored) c.from_residual-in_err-tables.ensures.1 is)))

pub returns-in_err-tables-clause-failed : goal.returns-in_err-tables-clause-failed
returns-in_err-tables-clause-failed g c = λ is half used. absurd (c.in_err-tables.ensures.failed (error_same _ _ c.from_residual-in_err-tables.result c.in_err-tables.field-0.0 opening.Failed c.from_residual-in_err-tables.ensures.1 is))

pub returns-in_err-tables-clause-still : goal.returns-in_err-tables-clause-still
returns-in_err-tables-clause-still g c = λ told. let rests = c.reload_both.ensures.rests told in (rests.files, rests.leaves)

pub returns-in_err-tables-clause-frame : goal.returns-in_err-tables-clause-frame
returns-in_err-tables-clause-frame g c = c.reload_both.ensures.frame

pub returns : goal.returns
returns g c =
    let now_is = now_open g (goal.at.returns g c).In_ok-store in
    record {
      suits = c.in_ok-tables.ensures.suits;
      keeps = c.in_ok-tables.ensures.tables;
      fits = fits_twice c.args.generation.now c.args.fingerprint.now c.in_ok-store.store c.in_ok-tables.tables c.in_ok-tables.ensures.tables c.in_ok-tables.ensures.suits;
      is_open = c.in_ok-store.ensures.is_open;
      same = λ now. now_is.same;
      mended = now_is.mended;
      lost = now_is.loses;
      stays = now_is.stays;
      no_other = now_is.no_other;
      kept = now_is.kept;
      refused = λ t keeps suits is told. absurd cc;
      other = λ t stored keeps is told. absurd cc;
      still = λ told. let rests = c.reload_both.ensures.rests told in (rests.files, rests.leaves);
      failed = λ is half used. absurd cc;
      fine = now_is.fine;
      went = λ none. went_open g (goal.at.returns g c).In_ok-store;
      frame = c.reload_both.ensures.frame;
    }
