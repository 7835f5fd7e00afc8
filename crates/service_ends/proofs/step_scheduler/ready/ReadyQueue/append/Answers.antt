use Rattle.std.proofs.Common.{◌≡◌, None, ap, subst, sym, ◌∙◌, ◌++◌, ◌∷◌, []}
use Rattle.std.specs.Ordering.{nat_cmp}
use Rattle.std.specs.FinMap.{find, put}
use Rattle.service_ends.specs.Arrivals.{AreMarks, Arrivals, IsAfter}
use Rattle.service_ends.proofs.step_scheduler.Arrived.{absent_after, put_last}
use Rattle.service_ends.proofs.step_scheduler.Indexed.{found_with, restored}
use Rattle.service_ends.proofs.step_scheduler.Marked.{same_marks}
use Rattle.service_ends.proofs.step_scheduler.ready.ReadyQueue.append.Goals as goal
use Rattle.service_ends.proofs.step_scheduler.ready.ReadyQueue.append.Goals.{After-add}

after : (c : After-add) → IsAfter c.args.number c.self.inside.arrivals
after c = subst (IsAfter c.args.number) (sym c.self.view_is) c.requires

absent : (c : After-add) → find nat_cmp c.args.number c.self.inside.arrivals ≡ None
absent c = absent_after c.args.number c.self.inside.arrivals (after c)

pub invariant_of-self : goal.invariant_of-self
invariant_of-self c =
    record { ascending = c.self.invariant.ascending; marks = c.in_err-add.ensures.err c.self.inside.arrivals (absent (goal.at.invariant_of-self c).After-add) c.self.invariant.marks }

pub invariant_of-self-in-Ok : goal.invariant_of-self-in-Ok
invariant_of-self-in-Ok c =
    let arrivals = c.self.inside.arrivals in
    record {
      ascending = c.in-Ok.ensures.ascending;
      marks = subst (AreMarks c.add.new.self) (sym c.in-Ok.ensures.ok) (c.in_ok-add.ensures.ok arrivals (absent (goal.at.invariant_of-self-in-Ok c).After-add) c.self.invariant.marks);
    }

pub invariant_of-self-in-Err : goal.invariant_of-self-in-Err
invariant_of-self-in-Err c =
    let arrivals = c.self.inside.arrivals in
    let number = c.args.number in
    let entry = c.args.entry.now in
    let none = absent (goal.at.invariant_of-self-in-Err c).After-add in
    let gone = c.remove.ensures (put nat_cmp number entry arrivals) (found_with number entry arrivals) (c.in_ok-add.ensures.ok arrivals none c.self.invariant.marks) in
    record {
      ascending = c.in-Err.ensures.ascending;
      marks = subst (AreMarks c.remove.new.self) (sym c.in-Err.ensures.err) (same_marks c.remove.new.self _ arrivals (restored number entry arrivals none) gone);
    }

pub returns-in-Ok-clause-ok : goal.returns-in-Ok-clause-ok
returns-in-Ok-clause-ok c =
    let arrivals = c.self.inside.arrivals in
    c.in-Ok.ensures.ok ∙ put_last c.args.number c.args.entry.now arrivals (after (goal.at.returns-in-Ok-clause-ok c).After-add) ∙ ap (λ (l : Arrivals). l ++ (c.args.number, c.args.entry.now) ∷ []) c.self.view_is
