use Rattle.trail_run.proofs.Commits.{entries_are_commits}
use Rattle.trail_run.proofs.laws.entries_are_the_commits.Goals as goal

pub returns : goal.returns
returns c = entries_are_commits c.commits_make_the_tables.ensures.once
