use Rattle.lab_cli.proofs.top.explore_at.Goals as goal

pub returns-in-Ok : goal.returns-in-Ok
returns-in-Ok g c =
    let h = c.in-Ok.ensures in (
      c.in-Ok._explored,
      record { outcomes = h.outcomes; orders = h.orders; all = h.all; tried = h.tried; each = h.each; more = h.more; serial = h.serial; distinct = h.distinct; counted = h.counted; at_most = h.most; drawn = h.drawn },
      h.status,
      h.printed,
    )
