use Rattle.kdcfile_copies.proofs.NextCopies.{charged_after, charged_before, is_patch, keeps_next, leaves_next}
use Rattle.kdcfile_copies.proofs.committing.commit_copy.Goals as goal

pub commit-requires-clause-patch : goal.commit-requires-clause-patch
commit-requires-clause-patch g c = is_patch c.args.copy.now.store c.args.copy.now.sequence c.args.patch.now c.args.next.now c.requires.keeps c.requires.patch c.requires.no_sequence c.requires.next

pub commit-requires-clause-charge_before : goal.commit-requires-clause-charge_before
commit-requires-clause-charge_before g c = charged_before c.args.copy.now.store c.args.copy.now.sequence c.args.patch.now c.args.next.now c.requires.keeps c.requires.patch c.requires.no_sequence c.requires.next c.requires.charge_before

pub commit-requires-clause-charge_after : goal.commit-requires-clause-charge_after
commit-requires-clause-charge_after g c = charged_after c.args.copy.now.store c.args.copy.now.sequence c.args.patch.now c.args.next.now c.requires.keeps c.requires.patch c.requires.no_sequence c.requires.next c.requires.charge_after

pub returns-in_err-commit-clause-any_moment : goal.returns-in_err-commit-clause-any_moment
returns-in_err-commit-clause-any_moment g c = λ told. leaves_next c.args.copy.now.store c.args.copy.now.sequence c.args.patch.now c.args.next.now c.requires.keeps c.requires.patch c.requires.no_sequence c.requires.next c.requires.sequence (g.D.Device.state c.args.device.now) (g.D.Device.state c.commit.new.device) (g.D.Device.leaves c.args.device.now) (g.D.Device.leaves c.commit.new.device) (c.commit.ensures.any_moment told)

pub returns-clause-keeps : goal.returns-clause-keeps
returns-clause-keeps g c = keeps_next c.args.copy.now.store c.args.copy.now.sequence c.args.patch.now c.args.next.now c.requires.keeps c.requires.patch c.requires.no_sequence c.requires.next c.requires.sequence c.commit.new.self c.commit.ensures.identity c.in_ok-commit.ensures.content

pub returns-clause-any_moment : goal.returns-clause-any_moment
returns-clause-any_moment g c = λ told. leaves_next c.args.copy.now.store c.args.copy.now.sequence c.args.patch.now c.args.next.now c.requires.keeps c.requires.patch c.requires.no_sequence c.requires.next c.requires.sequence (g.D.Device.state c.args.device.now) (g.D.Device.state c.commit.new.device) (g.D.Device.leaves c.args.device.now) (g.D.Device.leaves c.commit.new.device) (c.commit.ensures.any_moment told)
