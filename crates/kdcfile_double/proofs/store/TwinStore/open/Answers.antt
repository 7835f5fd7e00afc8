use Rattle.std.proofs.Common.{◌⊎◌, sym, subst, inl, ⊎_elim, ◌∙◌}
use Rattle.std.specs.Prelude.{IsTrue, false}
use Rattle.kdcfile_double.specs.Twice.{IsKeptTwice, LeavesBoth}
use Rattle.kdcfile_double.specs.Opening.{AreEmpty, IsMakingTwo, SameFiles, Unchanged, identity_twice}
use Rattle.kdcfile_double.specs.OpenedLaws.{empty_suits, empty_tables_are, empty_sequence, pages_fit, empty_starts, empty_is_open, empty_made, kept_lifted, empty_in_use, opened_pages, opened_tables}
use Rattle.kdcfile_double.specs.OpenedLaws.{opened_starts, opened_in_use, opened_kept, opened_made}
use Rattle.kdcfile_double.specs.MakingLaws.{empty_answer, rests_making, frame_then, none_rose_then, one_rose_then}
use Rattle.kdcfile_copies.specs.BesideLaws.{pairs_weaker}
use Rattle.kdcfile_double.proofs.store.TwinStore.open.Given.{Over}
use Rattle.kdcfile_double.proofs.store.TwinStore.open.Goals.{After-empty}
use Rattle.kdcfile_double.proofs.store.TwinStore.open.Goals as goal

pub returns-then-are_empty-clause-suits : goal.returns-then-are_empty-clause-suits
returns-then-are_empty-clause-suits g c = empty_suits c.args.generation.now c.empty.result c.empty.ensures.empty

pub returns-then-are_empty-clause-tables : goal.returns-then-are_empty-clause-tables
returns-then-are_empty-clause-tables g c = empty_tables_are c.empty.result c.empty.ensures.empty

pub returns-then-are_empty-clause-sequence : goal.returns-then-are_empty-clause-sequence
returns-then-are_empty-clause-sequence g c = empty_sequence c.empty.result c.empty.ensures.sequence

pub returns-then-are_empty-clause-fits : goal.returns-then-are_empty-clause-fits
returns-then-are_empty-clause-fits g c = pages_fit c.args.generation.now c.args.fingerprint.now c.empty.result c.empty.ensures.keeps (empty_suits c.args.generation.now c.empty.result c.empty.ensures.empty)

-- both files are empty
both_empty : (g : Over) (c : After-empty g) → IsTrue (g.T.Twin.both c.args.twin.now).told → AreEmpty (g.T.Twin.both c.args.twin.now).first.holds (g.T.Twin.both c.args.twin.now).second.holds
both_empty g c told =
    let a = g.T.Twin.both c.args.twin.now in
    let both = c.are_empty.ensures.0 c.if-are_empty.true in
    (empty_answer c.in_ok-found.found.0 a.first.holds both.0 (c.in_ok-found.ensures.first_answer told), empty_answer c.in_ok-found.found.1 a.second.holds both.1 (c.in_ok-found.ensures.second_answer told))

pub returns-then-are_empty-clause-starts : goal.returns-then-are_empty-clause-starts
returns-then-are_empty-clause-starts g c =
    let a = g.T.Twin.both c.args.twin.now in
    empty_starts c.args.generation.now c.args.fingerprint.now a.first.holds a.second.holds (IsTrue a.told) c.empty.result (both_empty g (goal.at.returns-then-are_empty-clause-starts g c).After-empty) c.empty.ensures.empty

pub returns-then-are_empty-clause-is_open : goal.returns-then-are_empty-clause-is_open
returns-then-are_empty-clause-is_open g c =
    let a = g.T.Twin.both c.args.twin.now in
    empty_is_open a.first.holds a.second.holds (IsTrue a.told) c.args.make c.empty.result (both_empty g (goal.at.returns-then-are_empty-clause-is_open g c).After-empty) c.empty.ensures.is_open

pub returns-then-are_empty-clause-in_use : goal.returns-then-are_empty-clause-in_use
returns-then-are_empty-clause-in_use g c =
    let a = g.T.Twin.both c.args.twin.now in
    empty_in_use a.first.holds a.second.holds (IsTrue a.told) c.empty.result (both_empty g (goal.at.returns-then-are_empty-clause-in_use g c).After-empty)

pub returns-then-are_empty-clause-kept : goal.returns-then-are_empty-clause-kept
returns-then-are_empty-clause-kept g c =
    let a = g.T.Twin.both c.args.twin.now in
    let b = g.T.Twin.both c.read_both.new.twin in
    let e = g.T.Twin.both c.empty.new.twin in
    kept_lifted (IsTrue a.told) (IsTrue b.told) (λ s. IsKeptTwice s e (g.T.Twin.leaves c.empty.new.twin)) c.empty.result (λ told. subst IsTrue (sym c.read_both.ensures.frame.told) told) c.empty.ensures.kept

pub empty-requires-clause-empty : goal.empty-requires-clause-empty
empty-requires-clause-empty g c = λ told_b.
    let a = g.T.Twin.both c.args.twin.now in
    let told : IsTrue a.told = subst IsTrue c.read_both.ensures.frame.told told_b in
    let both = c.are_empty.ensures.0 c.if-are_empty.true in
    let files = (c.read_both.ensures.rests told).files in
    (files.first_holds ∙ empty_answer c.in_ok-found.found.0 a.first.holds both.0 (c.in_ok-found.ensures.first_answer told), files.second_holds ∙ empty_answer c.in_ok-found.found.1 a.second.holds both.1 (c.in_ok-found.ensures.second_answer told))

pub empty-requires-clause-at_rest : goal.empty-requires-clause-at_rest
empty-requires-clause-at_rest g c = λ told_b. c.in_ok-found.ensures.at_rest (subst IsTrue c.read_both.ensures.frame.told told_b)

pub returns-then-are_empty-clause-still : goal.returns-then-are_empty-clause-still
returns-then-are_empty-clause-still g c = λ told asked.
    let a = g.T.Twin.both c.args.twin.now in
    let la = g.T.Twin.leaves c.args.twin.now in
    let rests = c.read_both.ensures.rests told in
    ⊎_elim
    (λ filled. absurd (filled (both_empty g (goal.at.returns-then-are_empty-clause-still g c).After-empty told)))
    (λ none. subst (λ t. SameFiles a (g.T.Twin.both t) × LeavesBoth a (g.T.Twin.both t) la (g.T.Twin.leaves t) (Unchanged a la)) (sym (c.empty.ensures.still none)) (rests.files, rests.leaves))
    asked

pub returns-then-are_empty-clause-any_moment : goal.returns-then-are_empty-clause-any_moment
returns-then-are_empty-clause-any_moment g c = λ told empty.
    let a = g.T.Twin.both c.args.twin.now in
    let b = g.T.Twin.both c.read_both.new.twin in
    let told_b : IsTrue b.told = subst IsTrue (sym c.read_both.ensures.frame.told) told in
    rests_making a b (g.T.Twin.leaves c.args.twin.now) (g.T.Twin.leaves c.read_both.new.twin) (c.read_both.ensures.rests told) (identity_twice c.args.generation.now c.args.fingerprint.now) (g.T.Twin.both c.empty.new.twin)
    (g.T.Twin.leaves c.empty.new.twin) (c.empty.ensures.any_moment told_b)

pub returns-then-are_empty-clause-failed : goal.returns-then-are_empty-clause-failed
returns-then-are_empty-clause-failed g c = λ is.
    one_rose_then (g.T.Twin.both c.args.twin.now) (g.T.Twin.both c.read_both.new.twin) (g.T.Twin.both c.empty.new.twin) (c.in_ok-found.ensures.fine (λ e. absurd cc)) (c.empty.ensures.failed is)

pub returns-then-are_empty-clause-fine : goal.returns-then-are_empty-clause-fine
returns-then-are_empty-clause-fine g c = λ none.
    none_rose_then (g.T.Twin.both c.args.twin.now) (g.T.Twin.both c.read_both.new.twin) (g.T.Twin.both c.empty.new.twin) (c.in_ok-found.ensures.fine (λ e. absurd cc)) (c.empty.ensures.fine none)

pub returns-then-are_empty-clause-frame : goal.returns-then-are_empty-clause-frame
returns-then-are_empty-clause-frame g c = frame_then (g.T.Twin.both c.args.twin.now) (g.T.Twin.both c.read_both.new.twin) (g.T.Twin.both c.empty.new.twin) c.read_both.ensures.frame c.empty.ensures.frame

pub returns-clause-tables : goal.returns-clause-tables
returns-clause-tables g c = opened_tables c.args.generation.now c.args.fingerprint.now c.opened.result c.opened.ensures.keeps

pub returns-clause-fits : goal.returns-clause-fits
returns-clause-fits g c = opened_pages c.args.generation.now c.args.fingerprint.now c.opened.result c.opened.ensures.keeps c.opened.ensures.suits

pub returns-clause-starts : goal.returns-clause-starts
returns-clause-starts g c =
    let a = g.T.Twin.both c.args.twin.now in
    opened_starts c.in_ok-found.found.0 c.in_ok-found.found.1 a.first.holds a.second.holds (IsTrue a.told) c.in_ok-found.ensures.first_answer c.in_ok-found.ensures.second_answer c.args.generation.now c.args.fingerprint.now c.opened.result
    c.opened.ensures.fits c.opened.ensures.keeps c.opened.ensures.suits c.opened.ensures.sequence

pub returns-clause-in_use : goal.returns-clause-in_use
returns-clause-in_use g c =
    let a = g.T.Twin.both c.args.twin.now in
    opened_in_use c.in_ok-found.found.0 c.in_ok-found.found.1 a.first.holds a.second.holds (IsTrue a.told) c.in_ok-found.ensures.first_answer c.in_ok-found.ensures.second_answer c.opened.result c.opened.ensures.fits

pub returns-clause-kept : goal.returns-clause-kept
returns-clause-kept g c =
    let a = g.T.Twin.both c.args.twin.now in
    opened_kept c.in_ok-found.found.0 c.in_ok-found.found.1 a (g.T.Twin.both c.read_both.new.twin) (g.T.Twin.leaves c.read_both.new.twin) (IsTrue a.told) c.in_ok-found.ensures.first_answer c.in_ok-found.ensures.second_answer
    (λ told. (c.read_both.ensures.rests told).files) c.in_ok-found.ensures.at_rest c.opened.result c.opened.ensures.fits

pub returns-clause-any_moment : goal.returns-clause-any_moment
returns-clause-any_moment g c = λ told empty.
    let a = g.T.Twin.both c.args.twin.now in
    let la = g.T.Twin.leaves c.args.twin.now in
    pairs_weaker a (g.T.Twin.both c.read_both.new.twin) la (g.T.Twin.leaves c.read_both.new.twin) (Unchanged a la) (λ x y out. Unchanged a la x y out ⊎ IsMakingTwo (identity_twice c.args.generation.now c.args.fingerprint.now) a.sent x y out)
    (c.read_both.ensures.rests told).leaves (λ x y out u. inl u)

pub returns-clause-still : goal.returns-clause-still
returns-clause-still g c = λ told asked. let rests = c.read_both.ensures.rests told in (rests.files, rests.leaves)

pub returns-in_err-found-clause-still : goal.returns-in_err-found-clause-still
returns-in_err-found-clause-still g c = λ told asked. let rests = c.read_both.ensures.rests told in (rests.files, rests.leaves)

pub returns-in_err-found-clause-any_moment : goal.returns-in_err-found-clause-any_moment
returns-in_err-found-clause-any_moment g c = λ told empty.
    let a = g.T.Twin.both c.args.twin.now in
    let la = g.T.Twin.leaves c.args.twin.now in
    pairs_weaker a (g.T.Twin.both c.read_both.new.twin) la (g.T.Twin.leaves c.read_both.new.twin) (Unchanged a la) (λ x y out. Unchanged a la x y out ⊎ IsMakingTwo (identity_twice c.args.generation.now c.args.fingerprint.now) a.sent x y out)
    (c.read_both.ensures.rests told).leaves (λ x y out u. inl u)

pub returns-clause-other : goal.returns-clause-other
returns-clause-other g c = λ stored is told.
    let a = g.T.Twin.both c.args.twin.now in
    c.opened.ensures.other stored is a.first.holds a.second.holds (c.in_ok-found.ensures.first_answer told) (c.in_ok-found.ensures.second_answer told)

pub returns-clause-spent : goal.returns-clause-spent
returns-clause-spent g c = λ n is told.
    let a = g.T.Twin.both c.args.twin.now in
    c.opened.ensures.spent n is a.first.holds a.second.holds (c.in_ok-found.ensures.first_answer told) (c.in_ok-found.ensures.second_answer told)

pub returns-then-are_empty-clause-made : goal.returns-then-are_empty-clause-made
returns-then-are_empty-clause-made g c =
    let a = g.T.Twin.both c.args.twin.now in
    empty_made a.first.holds a.second.holds (IsTrue a.told) c.args.make c.empty.result c.empty.ensures.made

pub returns-clause-made : goal.returns-clause-made
returns-clause-made g c =
    let a = g.T.Twin.both c.args.twin.now in
    opened_made c.in_ok-found.found.0 c.in_ok-found.found.1 a.first.holds a.second.holds (IsTrue a.told) c.args.make c.in_ok-found.ensures.first c.in_ok-found.ensures.second c.in_ok-found.ensures.first_answer c.in_ok-found.ensures.second_answer
    (λ both. let is : IsTrue false = subst IsTrue c.if-are_empty.false (c.are_empty.ensures.1 both) in absurd cc) c.opened.result
