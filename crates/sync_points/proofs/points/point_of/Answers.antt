use Rattle.abstract_monitor.specs.Endings.{durable}
use Rattle.sync_points.proofs.Refusing.{has_many, spends_all}
use Rattle.sync_points.proofs.points.point_of.Goals as goal

pub spends_numbers-requires : goal.spends_numbers-requires
unfolding durable
spends_numbers-requires c = c.requires.stands.sound.suits.next_job

pub returns-then-has_too_many_gssbs : goal.returns-then-has_too_many_gssbs
returns-then-has_too_many_gssbs c =
    has_many _ _ c.args.transaction.now c.args.outcome c.requires.stands _ _ c.has_too_many_gssbs.ensures c.max-limits.ensures.limits c.in_ok-areas.ensures.exact c.if-has_too_many_gssbs.true

pub returns-then-spends_numbers : goal.returns-then-spends_numbers
returns-then-spends_numbers c =
    spends_all _ _ c.args.transaction.now c.args.outcome c.requires.stands _ _ c.has_too_many_gssbs.ensures c.max-limits.ensures.limits c.in_ok-areas.ensures.exact c.if-has_too_many_gssbs.false c.spends_numbers.ensures c.if-spends_numbers.true
