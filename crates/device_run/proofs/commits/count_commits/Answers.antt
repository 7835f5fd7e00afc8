use Rattle.std.proofs.Common.{◌≡◌, arith}
use Rattle.std.proofs.lemmas.Grind.{common_steps}
use Rattle.laws_of_states.specs.Cut.{commits_in}
use Rattle.device_run.proofs.commits.count_commits.Goals as goal

pub returns : goal.returns
returns c =
    let more : c.count-more.result ≡ commits_in c.args.acts.now = grind (arith, common_steps) in
    λ few. omega (arith, more, few, c.saturating_add.ensures)
