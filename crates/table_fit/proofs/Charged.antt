-- What the durable rows take after changes.
use Rattle.std.proofs.Common.{arith, ap, refl, ◌≡◌, ◌+◌, ◌≤◌, ℕ, List}
use Rattle.kdcs_types.specs.declared.act.Change.{Change}
use Rattle.kdcs_types.specs.declared.act.Changes.{Changes}
use Rattle.kdcs_types.specs.Tables.{AreChanges, IsSortedTables, TableRows, changed}
use Rattle.application_types.specs.Generation.{Generated}
use Rattle.abstract_monitor.specs.Charges.{total_charge}
use Rattle.abstract_monitor.specs.Endings.{durable}
use Rattle.table_fit.specs.Pages.{row_charge}
use Rattle.table_fit.specs.PagesLaws.{pages_changed}
use Rattle.table_fit.specs.Weights.{made_weight, replaced_weight}

module _ (g : Generated) (t : TableRows) (cs : Changes) (items : List Change) (before more : ℕ) (same : items ≡ cs.items) (sorted : IsSortedTables t) (are : AreChanges cs.items) (is : before ≡ total_charge g.limits.blksize (durable g t)) (made : more ≡ made_weight (row_charge g) items) where
  pub after_changes_by : (less : ℕ) → less ≡ replaced_weight (row_charge g) t items → total_charge g.limits.blksize (durable g (changed t cs)) + less ≡ before + more
  after_changes_by less replaced = omega (arith, is, made, replaced, ap (made_weight (row_charge g)) same, ap (replaced_weight (row_charge g) t) same, pages_changed g t cs sorted are)

  -- no more than what was there and what the changes make
  pub at_most : total_charge g.limits.blksize (durable g (changed t cs)) ≤ before + more
  at_most = let e = after_changes_by (replaced_weight (row_charge g) t items) refl in omega (arith, e)

pub after_changes : (g : Generated) (t : TableRows) (cs : Changes) (items : List Change) (before more less : ℕ) → items ≡ cs.items → IsSortedTables t → AreChanges cs.items → before ≡ total_charge g.limits.blksize (durable g t)
    → more ≡ made_weight (row_charge g) items → less ≡ replaced_weight (row_charge g) t items → total_charge g.limits.blksize (durable g (changed t cs)) + less ≡ before + more
after_changes g t cs items before more less same sorted are is made = after_changes_by g t cs items before more same sorted are is made less
