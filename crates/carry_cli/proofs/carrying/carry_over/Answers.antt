use Rattle.std.proofs.Common.{◌≡◌, Bool, true, false, ap, subst, Err, refl}
use Rattle.call_parts.specs.Asking.{update_errand}
use Rattle.std.specs.Prelude.{IsTrue}
use Rattle.kdcfile_carry.specs.Losing.{MayLose}
use Rattle.kdcfile_carry.specs.Promise.{Fails, Outcome}
use Rattle.kdcfile_carry.specs.WritingLaws.{most_weaker}
use Rattle.kdcfile_carry.specs.declared.error.FilesError.{FilesError}
use Rattle.kdcfile_carry.specs.declared.losing.Losses.{Losses}
use Rattle.kdcfile_carry.specs.declared.losing.Losses.TheVariants as losses
use Rattle.kdcfile_carry.specs.declared.outcome.Carried.{Carried}
use Rattle.carry_cli.specs.Carrying.{LosesNone, generation_of}
use Rattle.carry_cli.specs.Doing.{hindered_by}
use Rattle.carry_cli.specs.Writing.{CarryWrites}
use Rattle.carry_cli.proofs.Carried.{hindered_now, if_ok, quiet_alone}
use Rattle.carry_cli.proofs.carrying.carry_over.Given.{Over}
use Rattle.carry_cli.proofs.carrying.carry_over.Goals.{After-carry_files}
use Rattle.carry_cli.proofs.carrying.carry_over.Goals as goal

-- where rows may not go, that was not asked for
not_asked : (d : Bool) (l : Losses) → (d ≡ true → l ≡ losses.Accepted) → l ≡ losses.Refused → d ≡ false
not_asked true l accepted refused = absurd (differ l (accepted refl) refused)
  where
    differ : (k : Losses) → k ≡ losses.Accepted → k ≡ losses.Refused → ⊥
    differ k one other = absurd cc
not_asked false l accepted refused = refl

pub returns-in-Ok-WouldLose-clause-is_now : goal.returns-in-Ok-WouldLose-clause-is_now
returns-in-Ok-WouldLose-clause-is_now g c = λ told none.
    let e = update_errand c.args.work.now in
    let a = g.T.Twin.both c.args.twin.now in
    let b = g.T.Twin.both c.carry_files.new.twin in
    let la = g.T.Twin.leaves c.args.twin.now in
    let lb = g.T.Twin.leaves c.carry_files.new.twin in
    let found = c.in-Ok-WouldLose.ensures.done told in
    let out = subst (λ (o : Carried). Outcome (generation_of e) e.fingerprint c.losses_of-losses.result found.0 o a b la lb) c.in-Ok-WouldLose.field-0-is found.2 in
    let fails = subst (λ (o : Carried). Fails o a b) c.in-Ok-WouldLose.field-0-is c.in-Ok-WouldLose.ensures.fine in
    (found.0, record { are = found.1; none_missing = none; may = (not_asked c.args.options.may_drop c.losses_of-losses.result c.losses_of-losses.ensures.accepted out.1, out.0, out.2, out.3) }, out.4, quiet_alone a b fails)

pub returns-in-Err-clause-is_now : goal.returns-in-Err-clause-is_now
returns-in-Err-clause-is_now g c =
    let e = update_errand c.args.work.now in
    if_ok c.hindered_by.result (hindered_by c.in-Err.why) _ c.hindered_by.ensures
    (λ x is told none. hindered_now e c.args.options (g.T.Twin.both c.args.twin.now) (g.T.Twin.both c.carry_files.new.twin) (g.T.Twin.leaves c.args.twin.now) (g.T.Twin.leaves c.carry_files.new.twin) none (λ untaken. c.carry_files.ensures.still told untaken) c.in-Err.why x is
    (λ w same. c.in-Err.ensures.refused w (ap (λ (k : FilesError). Err k) same) told) (λ same. c.in-Err.ensures.two (ap (λ (k : FilesError). Err k) same) told) (λ n same. c.in-Err.ensures.spent n (ap (λ (k : FilesError). Err k) same) told))

writes : (g : Over) (c : After-carry_files g) → IsTrue (g.T.Twin.both c.args.twin.now).told → CarryWrites (update_errand c.args.work.now) c.args.options (g.T.Twin.both c.args.twin.now) (g.T.Twin.both c.carry_files.new.twin)
writes g c told =
    let e = update_errand c.args.work.now in
    most_weaker (generation_of e) e.fingerprint (MayLose (generation_of e) c.losses_of-losses.result) (λ f. LosesNone e c.args.options f) (g.T.Twin.both c.args.twin.now) (g.T.Twin.both c.carry_files.new.twin) (λ f may no. may (c.losses_of-losses.ensures.refused no)) (c.carry_files.ensures.written told)

pub returns-in-Ok-UpToDate-clause-written : goal.returns-in-Ok-UpToDate-clause-written
returns-in-Ok-UpToDate-clause-written g c = writes g (goal.at.returns-in-Ok-UpToDate-clause-written g c).After-carry_files

pub returns-in-Ok-Stand-clause-written : goal.returns-in-Ok-Stand-clause-written
returns-in-Ok-Stand-clause-written g c = writes g (goal.at.returns-in-Ok-Stand-clause-written g c).After-carry_files

pub returns-in-Ok-WouldLose-clause-written : goal.returns-in-Ok-WouldLose-clause-written
returns-in-Ok-WouldLose-clause-written g c = writes g (goal.at.returns-in-Ok-WouldLose-clause-written g c).After-carry_files

pub returns-in-Err-clause-written : goal.returns-in-Err-clause-written
returns-in-Err-clause-written g c = writes g (goal.at.returns-in-Err-clause-written g c).After-carry_files
