use Rattle.std.proofs.Common.{◌≡◌, None, refl, sym, ap, subst}
use Rattle.std.specs.Prelude.{Option}
use Rattle.kd_device.specs.declared.half.Half.{Half}
use Rattle.kdcfile_copies.specs.declared.answer.LoadedCopy.{LoadedCopy}
use Rattle.kdcfile_double.specs.Twice.{Twice, IsInUse, IsKeptTwice, RoseAt}
use Rattle.kdcfile_double.specs.Committing.{CanTakeIf}
use Rattle.kdcfile_double.specs.CommitTwoLaws.{IsBroken, IsDone, IsTaken, alike_with, broken_so, done_end, done_twice, failed_end, failed_rose, first_takes, kept_with, memory_end, none_is, none_isnt}
use Rattle.kdcfile_double.specs.CommitTwoLaws.{fine_still, line_with, second_takes, spared_open, spared_with, taken}
use Rattle.kdcfile_double.proofs.store.TwinStore.commit.Given.{Over}
use Rattle.kdcfile_double.proofs.store.TwinStore.commit.Goals.{else-is_none-via-then-is_none+else-is_none-2, else-is_none-via-else-is_none, After-take-second, In_default-commit_two}
use Rattle.kdcfile_double.proofs.store.TwinStore.commit.Goals as goal

-- the copies of the store were taken out of it
abbrev copies : (g : Over) (c : After-take-second g) → Twice
copies g c = record { first = c.take-first.result; second = c.take-second.result; mended = c.self.inside.mended; lost = c.self.inside.lost }

were_taken : (g : Over) (c : After-take-second g) → IsTaken (copies g c) c.args.self.now
were_taken g c =
    taken c.take-first.result c.take-second.result c.self.inside.first c.self.inside.second c.self.inside.mended c.self.inside.lost c.args.self.now c.take-first.ensures.value c.take-second.ensures.value c.self.view_is c.self.invariant c.requires.is_open

pub commit_two-requires : goal.commit_two-requires
commit_two-requires g c =
    let here = (goal.at.commit_two-requires g c).After-take-second in
    let it = were_taken g here in
    record {
      alike = alike_with (copies g here) it.known.alike;
      kept = λ told. kept_with (copies g here) (g.T.Twin.both c.args.twin.now) (g.T.Twin.leaves c.args.twin.now) (subst (λ (z : Twice). IsKeptTwice z (g.T.Twin.both c.args.twin.now) (g.T.Twin.leaves c.args.twin.now)) (sym it.same) (c.requires.kept told));
      patch = c.requires.patch;
      plain = c.requires.plain;
      first_can = subst (λ (o : Option LoadedCopy). CanTakeIf o c.args.patch.now c.in-Ok.next) (sym (ap (λ (z : Twice). z.first) it.same)) (first_takes c.args.self.now c.args.patch.now c.in-Ok.next it.twice.alike c.in-Ok.ensures.is_next c.in-Ok.ensures.small c.requires.charge_before c.requires.charge_after);
      second_can = subst (λ (o : Option LoadedCopy). CanTakeIf o c.args.patch.now c.in-Ok.next) (sym (ap (λ (z : Twice). z.second) it.same)) (second_takes c.args.self.now c.args.patch.now c.in-Ok.next it.twice.alike c.in-Ok.ensures.is_next c.in-Ok.ensures.small c.requires.charge_before c.requires.charge_after);
    }

-- memory ran out between the halves
out_of_memory : (g : Over) (c : In_default-commit_two g) → IsBroken c.args.self.now c.args.patch.now (g.T.Twin.both c.args.twin.now) (g.T.Twin.both c.commit_two.new.twin) (g.T.Twin.leaves c.args.twin.now) (g.T.Twin.leaves c.commit_two.new.twin) (record { first = None; second = None; mended = c.self.inside.mended; lost = c.commit_two.new.lost })
out_of_memory g c =
    let it = taken c.take-first.result c.take-second.result c.self.inside.first c.self.inside.second c.self.inside.mended c.self.inside.lost c.args.self.now c.take-first.ensures.value c.take-second.ensures.value c.self.view_is c.self.invariant c.requires.is_open in
    let u : Twice = record { first = c.take-first.result; second = c.take-second.result; mended = c.self.inside.mended; lost = c.self.inside.lost } in
    broken_so u c.args.self.now it.same c.args.patch.now (g.T.Twin.both c.args.twin.now) (g.T.Twin.both c.commit_two.new.twin) (g.T.Twin.leaves c.args.twin.now) (g.T.Twin.leaves c.commit_two.new.twin) c.commit_two.new.lost None None refl refl
    (memory_end u c.args.patch.now (g.T.Twin.both c.args.twin.now) (g.T.Twin.both c.commit_two.new.twin) (g.T.Twin.leaves c.args.twin.now) (g.T.Twin.leaves c.commit_two.new.twin) c.commit_two.new.lost it.known it.opened c.commit_two.ensures.any_moment c.commit_two.ensures.unused c.in_default-commit_two.ensures.memory c.in_default-commit_two.ensures.memory_stays)

pub returns-in_default-commit_two-clause-unused : goal.returns-in_default-commit_two-clause-unused
returns-in_default-commit_two-clause-unused g c = (out_of_memory g (goal.at.returns-in_default-commit_two-clause-unused g c).In_default-commit_two).unused

pub returns-in_default-commit_two-clause-any_moment : goal.returns-in_default-commit_two-clause-any_moment
returns-in_default-commit_two-clause-any_moment g c = (out_of_memory g (goal.at.returns-in_default-commit_two-clause-any_moment g c).In_default-commit_two).any_moment

pub returns-in_default-clause-went : goal.returns-in_default-clause-went
returns-in_default-clause-went g c = λ none. fine_still c.args.self.now (g.T.Twin.both c.args.twin.now) c.requires.is_open

pub returns-in_default-commit_two-clause-went : goal.returns-in_default-commit_two-clause-went
returns-in_default-commit_two-clause-went g c = λ none.
    let here = (goal.at.returns-in_default-commit_two-clause-went g c).After-take-second in
    let it = were_taken g here in
    record {
      spared = spared_with (copies g here) c.args.self.now it.same (g.T.Twin.both c.args.twin.now) (g.T.Twin.both c.commit_two.new.twin) c.in_default-commit_two.ensures.spared;
      line = line_with (copies g here) c.args.self.now it.same (g.T.Twin.both c.args.twin.now) (g.T.Twin.both c.commit_two.new.twin) c.commit_two.ensures.line;
    }

pub returns-then-is_none-2 : goal.returns-then-is_none-2
returns-then-is_none-2 g c =
    let here = (goal.at.returns-then-is_none-2 g c).After-take-second in
    let it = were_taken g here in
    let broken =
    broken_so (copies g here) c.args.self.now it.same c.args.patch.now (g.T.Twin.both c.args.twin.now) (g.T.Twin.both c.commit_two.new.twin) (g.T.Twin.leaves c.args.twin.now) (g.T.Twin.leaves c.commit_two.new.twin) c.commit_two.new.lost c.take-first.new.self c.take-second.new.self c.take-first.ensures.after c.take-second.ensures.after
    (failed_end (copies g here) c.args.patch.now (g.T.Twin.both c.args.twin.now) (g.T.Twin.both c.commit_two.new.twin) (g.T.Twin.leaves c.args.twin.now) (g.T.Twin.leaves c.commit_two.new.twin) c.commit_two.new.lost it.known it.opened c.commit_two.ensures.any_moment c.commit_two.ensures.unused c.in-Ok-commit_two.first c.in-Ok-commit_two.second c.in-Ok-commit_two.ensures.first_next c.in-Ok-commit_two.ensures.second_next c.in-Ok-commit_two.ensures.lost (none_is c.in-Ok-commit_two.first c.is_none.result c.is_none.ensures c.if-is_none.true) (none_is c.in-Ok-commit_two.second c.is_none-then-is_none.result c.is_none-then-is_none.ensures c.if-is_none-2.true)) in
    record {
      content = tt;
      sequence = tt;
      identity = tt;
      is_open = tt;
      kept = tt;
      mended = broken.mended;
      lost = broken.lost;
      stays = tt;
      no_other = broken.no_other;
      fine = tt;
      unused = broken.unused;
      any_moment = broken.any_moment;
      failed = λ is. subst (λ (z : Twice). (half : Half) → IsInUse half z → RoseAt half (g.T.Twin.both c.args.twin.now) (g.T.Twin.both c.commit_two.new.twin)) it.same (failed_rose (copies g here) c.args.patch.now (g.T.Twin.both c.args.twin.now) (g.T.Twin.both c.commit_two.new.twin) (g.T.Twin.leaves c.args.twin.now) (g.T.Twin.leaves c.commit_two.new.twin) c.commit_two.new.lost it.known it.opened c.commit_two.ensures.any_moment c.commit_two.ensures.unused c.in-Ok-commit_two.first c.in-Ok-commit_two.second c.in-Ok-commit_two.ensures.first_next c.in-Ok-commit_two.ensures.second_next c.in-Ok-commit_two.ensures.lost (none_is c.in-Ok-commit_two.first c.is_none.result c.is_none.ensures c.if-is_none.true) (none_is c.in-Ok-commit_two.second c.is_none-then-is_none.result c.is_none-then-is_none.ensures c.if-is_none-2.true));
      went = λ none. absurd (none refl);
      frame = c.commit_two.ensures.frame;
    }

pub invariant_of-self-2 : goal.invariant_of-self-2
invariant_of-self-2 g c =
    let here = (goal.at.invariant_of-self-2 g c).After-take-second in
    let it = were_taken g here in
    let some : (c.in-Ok-commit_two.first ≡ None) × (c.in-Ok-commit_two.second ≡ None) → ⊥ = elim c.else-is_none.branch [
      | else-is_none-via-then-is_none+else-is_none-2 w ↦ (λ both. none_isnt c.in-Ok-commit_two.second w.is_none-then-is_none.result w.is_none-then-is_none.ensures w.if-is_none-2.false both.1)
      | else-is_none-via-else-is_none w ↦ (λ both. none_isnt c.in-Ok-commit_two.first c.is_none.result c.is_none.ensures w.if-is_none.false both.0)
    ] in
    done_twice (copies g here) c.args.patch.now (g.T.Twin.both c.args.twin.now) (g.T.Twin.both c.commit_two.new.twin) (g.T.Twin.leaves c.args.twin.now) (g.T.Twin.leaves c.commit_two.new.twin) c.commit_two.new.lost it.known it.opened c.commit_two.ensures.any_moment c.commit_two.ensures.unused c.in-Ok-commit_two.first c.in-Ok-commit_two.second c.in-Ok-commit_two.ensures.first_next c.in-Ok-commit_two.ensures.second_next c.in-Ok-commit_two.ensures.lost some

pub returns : goal.returns
returns g c =
    let here = (goal.at.returns g c).After-take-second in
    let it = were_taken g here in
    let some : (c.in-Ok-commit_two.first ≡ None) × (c.in-Ok-commit_two.second ≡ None) → ⊥ = elim c.else-is_none.branch [
      | else-is_none-via-then-is_none+else-is_none-2 w ↦ (λ both. none_isnt c.in-Ok-commit_two.second w.is_none-then-is_none.result w.is_none-then-is_none.ensures w.if-is_none-2.false both.1)
      | else-is_none-via-else-is_none w ↦ (λ both. none_isnt c.in-Ok-commit_two.first c.is_none.result c.is_none.ensures w.if-is_none.false both.0)
    ] in
    let done = subst (λ (z : Twice). IsDone z c.args.patch.now (g.T.Twin.both c.args.twin.now) (g.T.Twin.both c.commit_two.new.twin) (g.T.Twin.leaves c.args.twin.now) (g.T.Twin.leaves c.commit_two.new.twin) (record { first = c.in-Ok-commit_two.first; second = c.in-Ok-commit_two.second; mended = c.self.inside.mended; lost = c.commit_two.new.lost })) it.same (done_end (copies g here) c.args.patch.now (g.T.Twin.both c.args.twin.now) (g.T.Twin.both c.commit_two.new.twin) (g.T.Twin.leaves c.args.twin.now) (g.T.Twin.leaves c.commit_two.new.twin) c.commit_two.new.lost it.known it.opened c.commit_two.ensures.any_moment c.commit_two.ensures.unused c.in-Ok-commit_two.first c.in-Ok-commit_two.second c.in-Ok-commit_two.ensures.first_next c.in-Ok-commit_two.ensures.second_next c.in-Ok-commit_two.ensures.lost some c.in-Ok-commit_two.ensures.first_kept c.in-Ok-commit_two.ensures.second_kept c.commit_two.ensures.within) in
    record {
      content = done.content;
      sequence = done.sequence;
      identity = done.identity;
      is_open = done.is_open;
      kept = done.kept;
      mended = done.mended;
      lost = done.lost;
      stays = done.stays;
      no_other = done.no_other;
      fine = done.fine;
      unused = done.unused;
      any_moment = done.any_moment;
      failed = λ is. absurd cc;
      went = λ none. record {
        spared = spared_open c.args.self.now _ (g.T.Twin.both c.args.twin.now) (g.T.Twin.both c.commit_two.new.twin) done.is_open done.no_other done.fine;
        line = line_with (copies g here) c.args.self.now it.same (g.T.Twin.both c.args.twin.now) (g.T.Twin.both c.commit_two.new.twin) c.commit_two.ensures.line;
      };
      frame = c.commit_two.ensures.frame;
    }
