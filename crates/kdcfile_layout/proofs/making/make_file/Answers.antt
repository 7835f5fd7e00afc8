use Rattle.std.specs.Prelude.{IsTrue}
use Rattle.std.proofs.lemmas.Result.{on_ok_weaker}
use Rattle.kdcfile_layout.specs.Series.{together}
use Rattle.kdcfile_layout.proofs.Gates.{in_first, in_second, in_third, opened}
use Rattle.kdcfile_layout.proofs.making.make_file.Goals as goal

pub returns-in_err-write_synced-clause-any_moment : goal.returns-in_err-write_synced-clause-any_moment
returns-in_err-write_synced-clause-any_moment g c = λ told. in_first (together c.args.rest.now) _ _ (g.D.Device.state c.write_synced.new.device) (g.D.Device.state c.write_synced.new.device) _ _ (g.D.Device.leaves c.write_synced.new.device) (g.D.Device.leaves c.write_synced.new.device) (c.requires.empty told) (c.write_synced.ensures.any_moment told)

pub returns-in_err-write_parts_synced-clause-any_moment : goal.returns-in_err-write_parts_synced-clause-any_moment
returns-in_err-write_parts_synced-clause-any_moment g c = λ told.
    let told_b : IsTrue (g.D.Device.state c.write_synced.new.device).told = rw c.write_synced.ensures.frame.told told in
    in_second (together c.args.rest.now) _ _ _ (g.D.Device.state c.write_parts_synced.new.device) _ _ _ (g.D.Device.leaves c.write_parts_synced.new.device) (c.requires.empty told) (c.write_synced.ensures.any_moment told) (c.in_ok-write_synced.ensures.ok told) (c.write_parts_synced.ensures.any_moment told_b)

pub returns-clause-any_moment : goal.returns-clause-any_moment
returns-clause-any_moment g c = λ told.
    let told_b : IsTrue (g.D.Device.state c.write_synced.new.device).told = rw c.write_synced.ensures.frame.told told in
    let told_d : IsTrue (g.D.Device.state c.write_parts_synced.new.device).told = rw c.write_parts_synced.ensures.frame.told told_b in
    in_third (together c.args.rest.now) _ _ _ _ _ _ _ _ (c.requires.empty told) (c.write_synced.ensures.any_moment told) (c.in_ok-write_synced.ensures.ok told) (c.write_parts_synced.ensures.any_moment told_b) (c.in_ok-write_parts_synced.ensures.ok told_b) (c.write_synced-2.ensures.any_moment told_d)

pub returns-clause-ok : goal.returns-clause-ok
returns-clause-ok g c = on_ok_weaker c.write_synced-2.result
    (λ last told.
    let told_b : IsTrue (g.D.Device.state c.write_synced.new.device).told = rw c.write_synced.ensures.frame.told told in
    let told_d : IsTrue (g.D.Device.state c.write_parts_synced.new.device).told = rw c.write_parts_synced.ensures.frame.told told_b in
    opened (together c.args.rest.now) _ _ _ _ _ _ _ _ (c.requires.empty told) (c.write_synced.ensures.any_moment told) (c.in_ok-write_synced.ensures.ok told) (c.write_parts_synced.ensures.any_moment told_b) (c.in_ok-write_parts_synced.ensures.ok told_b) (last told_d))
    c.write_synced-2.ensures.ok
