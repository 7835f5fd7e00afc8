use Rattle.laws_of_states.specs.ShowsLaws.{due_stands, shown_made, tick_made}
use Rattle.laws_of_states.proofs.laws_of_commits.commands_make_tables.Goals as goal

pub returns : goal.returns
returns c = record { shows = shown_made; due = due_stands; ticks = tick_made }
