use Rattle.std.proofs.Common.{sym, subst}
use Rattle.std.specs.Prelude.{IsTrue}
use Rattle.kd_device.specs.declared.half.Half.TheVariants.{First, Second}
use Rattle.kdcfile_double.specs.Twice.{SparesOne, with_copies}
use Rattle.kdcfile_double.specs.CommitLaws.{other_kept_at}
use Rattle.kdcfile_double.specs.CommitTwoLaws.{both_moments, both_within, faults_before, first_is_kept, first_moment, first_newly, first_stays, first_within, on_err, one_fine, one_frame}
use Rattle.kdcfile_double.specs.CommitTwoLaws.{first_line, second_is_kept, second_newly, second_stays, second_unused, two_line, two_lost, two_unused}
use Rattle.kdcfile_double.specs.MakingLaws.{two_frames}
use Rattle.kdcfile_double.proofs.commit.commit_two.Goals as goal

pub commit_one-requires-clause-kept : goal.commit_one-requires-clause-kept
commit_one-requires-clause-kept g c = first_is_kept (with_copies c.args.first c.args.second) (g.T.Twin.both c.args.twin.now) (g.T.Twin.leaves c.args.twin.now) (g.met.T.Twin.holds_now c.args.twin.now) c.requires.kept

pub commit_one-requires-2-clause-kept : goal.commit_one-requires-2-clause-kept
commit_one-requires-2-clause-kept g c = λ told_b.
    let told : IsTrue (g.T.Twin.both c.args.twin.now).told = subst IsTrue c.commit_one.ensures.frame.told told_b in
    other_kept_at First c.args.second (g.T.Twin.both c.args.twin.now) (g.T.Twin.both c.commit_one.new.twin) (g.T.Twin.leaves c.args.twin.now) (g.T.Twin.leaves c.commit_one.new.twin) c.commit_one.ensures.other_half (c.commit_one.ensures.other_stays told) (second_is_kept (with_copies c.args.first c.args.second) (g.T.Twin.both c.args.twin.now) (g.T.Twin.leaves c.args.twin.now) (g.met.T.Twin.holds_now c.args.twin.now) c.requires.kept told)

pub returns-in_err-first-clause-within : goal.returns-in_err-first-clause-within
returns-in_err-first-clause-within g c = λ told. first_within (with_copies c.args.first c.args.second) c.args.patch.now c.requires.alike (g.T.Twin.both c.args.twin.now) (g.T.Twin.leaves c.args.twin.now) c.requires.kept (g.met.T.Twin.sent_now c.args.twin.now) (g.T.Twin.both c.commit_one.new.twin) (g.T.Twin.leaves c.commit_one.new.twin) (record { same_told = c.commit_one.ensures.frame.told; sent = c.commit_one.ensures.sent; beside = c.commit_one.ensures.any_moment; stays = c.commit_one.ensures.other_stays }) told (g.met.T.Twin.earlier c.commit_one.new.twin)

pub returns-in_err-first-clause-any_moment : goal.returns-in_err-first-clause-any_moment
returns-in_err-first-clause-any_moment g c = λ told. first_moment (with_copies c.args.first c.args.second) c.args.patch.now c.requires.alike (g.T.Twin.both c.args.twin.now) (g.T.Twin.leaves c.args.twin.now) c.requires.kept (g.met.T.Twin.sent_now c.args.twin.now) (g.T.Twin.both c.commit_one.new.twin) (g.T.Twin.leaves c.commit_one.new.twin) (record { same_told = c.commit_one.ensures.frame.told; sent = c.commit_one.ensures.sent; beside = c.commit_one.ensures.any_moment; stays = c.commit_one.ensures.other_stays }) told

pub returns-in_err-first-clause-memory : goal.returns-in_err-first-clause-memory
returns-in_err-first-clause-memory g c = on_err _ _ (first_newly c.args.lost.now c.commit_one.new.lost (g.T.Twin.both c.args.twin.now) (g.T.Twin.both c.commit_one.new.twin) c.in_err-first.ensures.memory.0)

pub returns-in_err-first-clause-memory_stays : goal.returns-in_err-first-clause-memory_stays
returns-in_err-first-clause-memory_stays g c = on_err _ _ (first_stays c.args.lost.now c.commit_one.new.lost c.in_err-first.ensures.memory.0)

pub returns-in_err-first-clause-unused : goal.returns-in_err-first-clause-unused
returns-in_err-first-clause-unused g c = λ half none. one_fine (g.T.Twin.both c.args.twin.now) (g.T.Twin.both c.commit_one.new.twin) c.in_err-first.ensures.memory.1 c.commit_one.ensures.other_half half

pub returns-in_err-first-clause-frame : goal.returns-in_err-first-clause-frame
returns-in_err-first-clause-frame g c = (one_frame First (g.T.Twin.both c.args.twin.now) (g.T.Twin.both c.commit_one.new.twin) c.commit_one.ensures.frame c.commit_one.ensures.names c.commit_one.ensures.other_half c.commit_one.ensures.sent)

pub returns-in_err-second-clause-within : goal.returns-in_err-second-clause-within
returns-in_err-second-clause-within g c = λ told. both_within (with_copies c.args.first c.args.second) c.args.patch.now c.requires.alike (g.T.Twin.both c.args.twin.now) (g.T.Twin.leaves c.args.twin.now) c.requires.kept (g.met.T.Twin.sent_now c.args.twin.now) (g.T.Twin.both c.commit_one.new.twin) (g.T.Twin.leaves c.commit_one.new.twin) (record { same_told = c.commit_one.ensures.frame.told; sent = c.commit_one.ensures.sent; beside = c.commit_one.ensures.any_moment; stays = c.commit_one.ensures.other_stays }) told (g.met.T.Twin.earlier c.commit_one.new.twin) (g.met.T.Twin.sent_now c.commit_one.new.twin) (g.T.Twin.both c.commit_one-2.new.twin) (g.T.Twin.leaves c.commit_one-2.new.twin) (record { same_told = c.commit_one-2.ensures.frame.told; sent = c.commit_one-2.ensures.sent; beside = c.commit_one-2.ensures.any_moment; stays = c.commit_one-2.ensures.other_stays }) (g.met.T.Twin.earlier c.commit_one-2.new.twin)

pub returns-in_err-second-clause-any_moment : goal.returns-in_err-second-clause-any_moment
returns-in_err-second-clause-any_moment g c = λ told. both_moments (with_copies c.args.first c.args.second) c.args.patch.now c.requires.alike (g.T.Twin.both c.args.twin.now) (g.T.Twin.leaves c.args.twin.now) c.requires.kept (g.met.T.Twin.sent_now c.args.twin.now) (g.T.Twin.both c.commit_one.new.twin) (g.T.Twin.leaves c.commit_one.new.twin) (record { same_told = c.commit_one.ensures.frame.told; sent = c.commit_one.ensures.sent; beside = c.commit_one.ensures.any_moment; stays = c.commit_one.ensures.other_stays }) told (g.met.T.Twin.earlier c.commit_one.new.twin) (g.met.T.Twin.sent_now c.commit_one.new.twin) (g.T.Twin.both c.commit_one-2.new.twin) (g.T.Twin.leaves c.commit_one-2.new.twin) (record { same_told = c.commit_one-2.ensures.frame.told; sent = c.commit_one-2.ensures.sent; beside = c.commit_one-2.ensures.any_moment; stays = c.commit_one-2.ensures.other_stays })

pub returns-in_err-second-clause-memory : goal.returns-in_err-second-clause-memory
returns-in_err-second-clause-memory g c = on_err _ _ (second_newly c.args.first c.args.second c.in_ok-first.first c.args.lost.now c.commit_one.new.lost c.commit_one-2.new.lost (g.T.Twin.both c.args.twin.now) (g.T.Twin.both c.commit_one.new.twin) (g.T.Twin.both c.commit_one-2.new.twin) c.commit_one-2.ensures.other_half c.in_ok-first.ensures.lost c.in_err-second.ensures.memory.0)

pub returns-in_err-second-clause-memory_stays : goal.returns-in_err-second-clause-memory_stays
returns-in_err-second-clause-memory_stays g c = on_err _ _ (second_stays c.args.first c.args.second c.in_ok-first.first c.args.lost.now c.commit_one.new.lost c.commit_one-2.new.lost (g.T.Twin.both c.args.twin.now) (g.T.Twin.both c.commit_one.new.twin) (g.T.Twin.both c.commit_one-2.new.twin) c.commit_one-2.ensures.other_half c.in_ok-first.ensures.lost c.in_err-second.ensures.memory.0)

pub returns-in_err-second-clause-unused : goal.returns-in_err-second-clause-unused
returns-in_err-second-clause-unused g c = λ half none. second_unused c.args.first c.args.second c.in_ok-first.first c.args.lost.now c.commit_one.new.lost c.commit_one-2.new.lost (g.T.Twin.both c.args.twin.now) (g.T.Twin.both c.commit_one.new.twin) (g.T.Twin.both c.commit_one-2.new.twin) c.commit_one-2.ensures.other_half c.in_ok-first.ensures.lost (faults_before Second (g.T.Twin.both c.args.twin.now) (g.T.Twin.both c.commit_one.new.twin) (g.T.Twin.both c.commit_one-2.new.twin) c.commit_one.ensures.other_half c.in_err-second.ensures.memory.1) half none

pub returns-in_err-second-clause-frame : goal.returns-in_err-second-clause-frame
returns-in_err-second-clause-frame g c = two_frames (g.T.Twin.both c.args.twin.now) (g.T.Twin.both c.commit_one.new.twin) (g.T.Twin.both c.commit_one-2.new.twin) c.commit_one.ensures.other_half c.commit_one-2.ensures.other_half c.commit_one.ensures.frame c.commit_one.ensures.names c.commit_one.ensures.sent c.commit_one-2.ensures.frame c.commit_one-2.ensures.names c.commit_one-2.ensures.sent

pub returns-clause-first_kept : goal.returns-clause-first_kept
returns-clause-first_kept g c = λ told. other_kept_at Second c.in_ok-first.first (g.T.Twin.both c.commit_one.new.twin) (g.T.Twin.both c.commit_one-2.new.twin) (g.T.Twin.leaves c.commit_one.new.twin) (g.T.Twin.leaves c.commit_one-2.new.twin) c.commit_one-2.ensures.other_half (c.commit_one-2.ensures.other_stays (subst IsTrue (sym c.commit_one.ensures.frame.told) told)) (c.in_ok-first.ensures.kept told)

pub returns-clause-second_kept : goal.returns-clause-second_kept
returns-clause-second_kept g c = λ told. c.in_ok-second.ensures.kept (subst IsTrue (sym c.commit_one.ensures.frame.told) told)

pub returns-clause-within : goal.returns-clause-within
returns-clause-within g c = λ told. both_within (with_copies c.args.first c.args.second) c.args.patch.now c.requires.alike (g.T.Twin.both c.args.twin.now) (g.T.Twin.leaves c.args.twin.now) c.requires.kept (g.met.T.Twin.sent_now c.args.twin.now) (g.T.Twin.both c.commit_one.new.twin) (g.T.Twin.leaves c.commit_one.new.twin) (record { same_told = c.commit_one.ensures.frame.told; sent = c.commit_one.ensures.sent; beside = c.commit_one.ensures.any_moment; stays = c.commit_one.ensures.other_stays }) told (g.met.T.Twin.earlier c.commit_one.new.twin) (g.met.T.Twin.sent_now c.commit_one.new.twin) (g.T.Twin.both c.commit_one-2.new.twin) (g.T.Twin.leaves c.commit_one-2.new.twin) (record { same_told = c.commit_one-2.ensures.frame.told; sent = c.commit_one-2.ensures.sent; beside = c.commit_one-2.ensures.any_moment; stays = c.commit_one-2.ensures.other_stays }) (g.met.T.Twin.earlier c.commit_one-2.new.twin)

pub returns-clause-any_moment : goal.returns-clause-any_moment
returns-clause-any_moment g c = λ told. both_moments (with_copies c.args.first c.args.second) c.args.patch.now c.requires.alike (g.T.Twin.both c.args.twin.now) (g.T.Twin.leaves c.args.twin.now) c.requires.kept (g.met.T.Twin.sent_now c.args.twin.now) (g.T.Twin.both c.commit_one.new.twin) (g.T.Twin.leaves c.commit_one.new.twin) (record { same_told = c.commit_one.ensures.frame.told; sent = c.commit_one.ensures.sent; beside = c.commit_one.ensures.any_moment; stays = c.commit_one.ensures.other_stays }) told (g.met.T.Twin.earlier c.commit_one.new.twin) (g.met.T.Twin.sent_now c.commit_one.new.twin) (g.T.Twin.both c.commit_one-2.new.twin) (g.T.Twin.leaves c.commit_one-2.new.twin) (record { same_told = c.commit_one-2.ensures.frame.told; sent = c.commit_one-2.ensures.sent; beside = c.commit_one-2.ensures.any_moment; stays = c.commit_one-2.ensures.other_stays })

pub returns-clause-lost : goal.returns-clause-lost
returns-clause-lost g c = two_lost c.args.first c.args.second c.in_ok-first.first c.in_ok-second.second c.args.lost.now c.commit_one.new.lost c.commit_one-2.new.lost (g.T.Twin.both c.args.twin.now) (g.T.Twin.both c.commit_one.new.twin) (g.T.Twin.both c.commit_one-2.new.twin) c.commit_one-2.ensures.other_half c.commit_one.ensures.other_half c.in_ok-first.ensures.lost c.in_ok-second.ensures.lost

pub returns-clause-unused : goal.returns-clause-unused
returns-clause-unused g c = λ half none. two_unused c.args.first c.args.second c.in_ok-first.first c.in_ok-second.second c.args.lost.now c.commit_one-2.new.lost (g.T.Twin.both c.args.twin.now) (g.T.Twin.both c.commit_one-2.new.twin) (two_lost c.args.first c.args.second c.in_ok-first.first c.in_ok-second.second c.args.lost.now c.commit_one.new.lost c.commit_one-2.new.lost (g.T.Twin.both c.args.twin.now) (g.T.Twin.both c.commit_one.new.twin) (g.T.Twin.both c.commit_one-2.new.twin) c.commit_one-2.ensures.other_half c.commit_one.ensures.other_half c.in_ok-first.ensures.lost c.in_ok-second.ensures.lost) half none

pub returns-clause-frame : goal.returns-clause-frame
returns-clause-frame g c = two_frames (g.T.Twin.both c.args.twin.now) (g.T.Twin.both c.commit_one.new.twin) (g.T.Twin.both c.commit_one-2.new.twin) c.commit_one.ensures.other_half c.commit_one-2.ensures.other_half c.commit_one.ensures.frame c.commit_one.ensures.names c.commit_one.ensures.sent c.commit_one-2.ensures.frame c.commit_one-2.ensures.names c.commit_one-2.ensures.sent

pub returns-in_err-first-clause-spared : goal.returns-in_err-first-clause-spared
returns-in_err-first-clause-spared g c = let one : SparesOne (with_copies c.args.first c.args.second) (g.T.Twin.both c.args.twin.now) (g.T.Twin.both c.commit_one.new.twin) = (First, c.in_err-first.ensures.used, c.in_err-first.ensures.memory.1) in on_err _ _ one

pub returns-in_err-first-clause-line : goal.returns-in_err-first-clause-line
returns-in_err-first-clause-line g c = first_line c.args.first c.args.second (g.T.Twin.both c.args.twin.now) (g.T.Twin.both c.commit_one.new.twin) c.commit_one.ensures.line

pub returns-in_err-second-clause-spared : goal.returns-in_err-second-clause-spared
returns-in_err-second-clause-spared g c = let one : SparesOne (with_copies c.args.first c.args.second) (g.T.Twin.both c.args.twin.now) (g.T.Twin.both c.commit_one-2.new.twin) = (Second, c.in_err-second.ensures.used, faults_before Second (g.T.Twin.both c.args.twin.now) (g.T.Twin.both c.commit_one.new.twin) (g.T.Twin.both c.commit_one-2.new.twin) c.commit_one.ensures.other_half c.in_err-second.ensures.memory.1) in on_err _ _ one

pub returns-in_err-second-clause-line : goal.returns-in_err-second-clause-line
returns-in_err-second-clause-line g c = two_line c.args.first c.args.second (g.T.Twin.both c.args.twin.now) (g.T.Twin.both c.commit_one.new.twin) (g.T.Twin.both c.commit_one-2.new.twin) c.commit_one.ensures.other_half c.commit_one-2.ensures.other_half c.commit_one.ensures.line c.commit_one-2.ensures.line

pub returns-clause-line : goal.returns-clause-line
returns-clause-line g c = two_line c.args.first c.args.second (g.T.Twin.both c.args.twin.now) (g.T.Twin.both c.commit_one.new.twin) (g.T.Twin.both c.commit_one-2.new.twin) c.commit_one.ensures.other_half c.commit_one-2.ensures.other_half c.commit_one.ensures.line c.commit_one-2.ensures.line
