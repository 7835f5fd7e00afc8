use Rattle.laws_of_states.specs.PointsLaws.{points_stay_sound}
use Rattle.laws_of_states.specs.EndsLaws.{ends_stay_sound, sign_offs_stay_sound, shows_stay_sound, ticks_stay_sound, starts_are_sound}
use Rattle.laws_of_states.proofs.laws_of_tables.points_and_ends_suit.Goals as goal

pub returns : goal.returns
returns c = record { points = points_stay_sound; ends = ends_stay_sound; sign_offs = sign_offs_stay_sound; shows = shows_stay_sound; ticks = ticks_stay_sound; starts = starts_are_sound }
