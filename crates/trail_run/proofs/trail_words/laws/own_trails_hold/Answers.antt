use Rattle.trail_run.proofs.trail_words.Runs.{own_trails}
use Rattle.trail_run.proofs.trail_words.laws.own_trails_hold.Goals as goal

pub returns : goal.returns
returns c = own_trails c.own_entries_hold.ensures c.own_trails_are_written.ensures.writable c.trails_come_back.ensures
