use Rattle.service_ends.specs.WholeLaws.{same_twice}
use Rattle.monitor_core.proofs.Opening.{fresh_more, made_more}
use Rattle.monitor_core.proofs.start.open_all.Goals as goal

pub loop-row-preserved : goal.loop-row-preserved
loop-row-preserved c =
    let invariant = c.loop-row.invariant in
    let opened = c.in_ok-open_row.ensures in
    let steps = c.in-Some.ensures.steps.0 in
    record {
      indexed = opened.indexed;
      same = same_twice c.args.parts.now c.loop-row.parts c.open_row.new.parts invariant.same opened.same;
      fresh = fresh_more c.args.parts.now c.loop-row.parts c.open_row.new.parts c.in-Some.row _ c.next.new.self.rest.items invariant.same steps opened.state invariant.fresh;
      made = made_more c.args.parts.now c.loop-row.parts c.open_row.new.parts c.in-Some.row _ c.next.new.self.rest.items invariant.same steps opened.state _ invariant.made;
    }
