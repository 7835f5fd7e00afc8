use Rattle.std.proofs.Common.{None, ap, cond, set, sym, ◌∙◌}
use Rattle.service_ends.specs.Schedule.{left_by}
use Rattle.service_ends.proofs.step_scheduler.Counts.{read_place, set_same}
use Rattle.service_ends.proofs.step_scheduler.places.Places.leave.Goals as goal

pub returns-then-holds : goal.returns-then-holds
returns-then-holds c =
    let read = read_place c.args.self.now c.args.place c.at.result c.at.ensures in
    c.clear.ensures ∙ ap (set c.args.self.now c.args.place) (sym (ap (left_by c.args.id.now) read ∙ ap (λ b. cond b None c.at.result) (sym c.if-holds.ensures)))

pub returns-else-holds : goal.returns-else-holds
returns-else-holds c =
    let read = read_place c.args.self.now c.args.place c.at.result c.at.ensures in
    set_same c.args.self.now c.args.place c.at.result c.at.ensures ∙ ap (set c.args.self.now c.args.place) (sym (ap (left_by c.args.id.now) read ∙ ap (λ b. cond b None c.at.result) (sym c.if-holds.ensures)))
