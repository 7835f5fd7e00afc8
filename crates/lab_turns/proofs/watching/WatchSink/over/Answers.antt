use Rattle.lab_turns.specs.RunningLaws.{watched_nothing}
use Rattle.lab_turns.proofs.watching.WatchSink.over.Goals as goal

pub returns-clause-took : goal.returns-clause-took
returns-clause-took g c = watched_nothing g.L.Listener.hears g.met.L.Listener.hears_none g.met.L.Listener.hears_both _ _ _ _ _ c.requires.ready
