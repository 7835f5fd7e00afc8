use Rattle.carry_cli.proofs.state.lines_for.Goals as goal

pub returns-in-Ok-clause-lines : goal.returns-in-Ok-clause-lines
returns-in-Ok-clause-lines g c = λ known told.
    let a = g.T.Twin.both c.args.twin.now in
    (c.in_ok-state.state, c.in_ok-state.ensures a.first.holds a.second.holds (c.in_ok-first.ensures.first_seen told) (c.in_ok-first.ensures.second_seen told) c.args.base.now (g.R.Room.room c.args.room.now) (c.in_ok-texts.ensures.found known), c.in-Ok.ensures)
