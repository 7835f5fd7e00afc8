use Rattle.std.proofs.Common.{sym, subst, ◌∙◌}
use Rattle.kdcs_types.specs.Tables.{IsSortedTables}
use Rattle.kdcs_types.specs.RowLaws.{sorted_with_changes}
use Rattle.kdcs_types.specs.RowsKept.{tables_in}
use Rattle.kdcs_types.proofs.Numbers.{change_made, renumbered}
use Rattle.kdcs_types.proofs.tables.Tables.change.Goals as goal

pub invariant_of-self-2 : goal.invariant_of-self-2
invariant_of-self-2 c =
    subst IsSortedTables
    (sym (change_made c.args.changes.now.clock c.args.changes.now.next_job c.self.inside.rows c.reserve.new.self c.make_all.new.self _ _ c.reserve.ensures.rows (c.in_ok-items.ensures.items_if_clones_equal (λ x y h. h) ∙ c.as_slice.ensures) c.make_all.ensures))
    (sorted_with_changes (tables_in c.args.changes.now.clock c.args.changes.now.next_job c.self.inside.rows) c.args.changes.now.items (renumbered _ _ _ _ c.self.inside.rows c.self.invariant) c.requires.fit)

pub returns-clause-ok : goal.returns-clause-ok
returns-clause-ok c =
    rw (← c.self.view_is)
    (change_made c.args.changes.now.clock c.args.changes.now.next_job c.self.inside.rows c.reserve.new.self c.make_all.new.self _ _ c.reserve.ensures.rows (c.in_ok-items.ensures.items_if_clones_equal (λ x y h. h) ∙ c.as_slice.ensures) c.make_all.ensures)
