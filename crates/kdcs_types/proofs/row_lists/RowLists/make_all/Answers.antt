use Rattle.std.proofs.Common.{IsTrue, length, refl, sym, ap, subst, ◌∙◌}
use Rattle.std.specs.List.{list_all}
use Rattle.kd_base.specs.ToolsLaws.{both_true}
use Rattle.kdcs_types.specs.Tables.{IsSortedTables, change_fits, with_changes}
use Rattle.kdcs_types.specs.RowLaws.{sorted_with_change}
use Rattle.kdcs_types.specs.RowsKept.{tables_in, HasCapacity}
use Rattle.kdcs_types.proofs.Capacity.{capacity_for_one, capacity_for_more, none_left}
use Rattle.kdcs_types.proofs.row_lists.RowLists.make_all.Goals as goal

pub loop-change-init : goal.loop-change-init
loop-change-init c =
    let e = c.into_iter-change-iterator.ensures.into_iter_gives.0 in
    record { sorted = c.requires.sorted; fit = rw e c.requires.fit; capacity = rw e c.requires.capacity; made = rw e refl }

pub make-requires-clause-sorted : goal.make-requires-clause-sorted
make-requires-clause-sorted c = c.loop-change.invariant.sorted

pub make-requires-clause-fits : goal.make-requires-clause-fits
make-requires-clause-fits c = (both_true (change_fits c.in-Some.change) (list_all change_fits c.next.new.self.rest.items) (subst (λ l. IsTrue (list_all change_fits l)) c.in-Some.ensures.steps.0 c.loop-change.invariant.fit)).0

pub make-requires-clause-capacity : goal.make-requires-clause-capacity
make-requires-clause-capacity c = capacity_for_one c.loop-change.self c.in-Some.change c.next.new.self.rest.items (subst (λ l. HasCapacity (length l) c.loop-change.self) c.in-Some.ensures.steps.0 c.loop-change.invariant.capacity)

pub loop-change-preserved : goal.loop-change-preserved
loop-change-preserved c =
    let e = c.in-Some.ensures.steps.0 in
    let fits = both_true (change_fits c.in-Some.change) (list_all change_fits c.next.new.self.rest.items) (subst (λ l. IsTrue (list_all change_fits l)) e c.loop-change.invariant.fit) in
    record {
      sorted = subst IsSortedTables (sym c.make.ensures.rows) (sorted_with_change (tables_in 0 0 c.loop-change.self) c.in-Some.change c.loop-change.invariant.sorted fits.0);
      fit = fits.1;
      capacity = c.make.ensures.capacity (length c.next.new.self.rest.items) (capacity_for_more c.loop-change.self c.in-Some.change c.next.new.self.rest.items (subst (λ l. HasCapacity (length l) c.loop-change.self) e c.loop-change.invariant.capacity));
      made = ap (λ t. with_changes t c.next.new.self.rest.items) c.make.ensures.rows ∙ ap (with_changes (tables_in 0 0 c.loop-change.self)) (sym e) ∙ c.loop-change.invariant.made;
    }

pub returns : goal.returns
returns c = sym (ap (with_changes (tables_in 0 0 c.loop-change.self)) (none_left c.loop-change.change-iterator.rest.items (sym c.loop-change.change-iterator.rest.ok.0 ∙ c.in-None.ensures.steps.0))) ∙ c.loop-change.invariant.made
