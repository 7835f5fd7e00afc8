-- What refuses a point, by the tests of the code.
use Rattle.std.proofs.Common.{sym, ap, ◌≡◌, ◌+◌, ◌∙◌, ℕ, Bool, true, false, List, length}
use Rattle.std.specs.Prelude.{nat_lt, Option, Some, None}
use Rattle.application_types.specs.declared.kdcdef_types.limits.Limits.{Limits}
use Rattle.kdcs_types.specs.declared.act.Change.{Change}
use Rattle.kdcs_types.specs.declared.act.Changes.{Changes}
use Rattle.kdcs_types.specs.declared.call.Cause.{Cause}
use Rattle.kdcs_types.specs.declared.call.Cause.TheVariants.{E09, E10, E11}
use Rattle.kdcs_types.specs.declared.service.Service.{Service}
use Rattle.kd_base.specs.Limits.{last_next_job}
use Rattle.kdcs_types.specs.Tables.{TableRows, changed, with_changes}
use Rattle.application_types.specs.Generation.{Generated}
use Rattle.abstract_monitor.specs.declared.outcome.Outcome.{Outcome}
use Rattle.abstract_monitor.specs.Charges.{total_charge}
use Rattle.abstract_monitor.specs.Endings.{durable, refusal, row_after, synchronised}
use Rattle.laws_of_states.specs.PointLaws.{IsSoundlyOpen}
use Rattle.open_transaction.specs.declared.open.OpenTransaction.{OpenTransaction}
use Rattle.open_transaction.specs.Transactions.{transaction_of}
use Rattle.service_parts.specs.Areas.{changes_of}
use Rattle.sync_points.specs.declared.points.Point.TheVariants.{Passed}
use Rattle.sync_points.specs.Answers.{point_by}
use Rattle.sync_points.specs.MadeLaws.{points_change}
use Rattle.sync_points.specs.PointChanges.{changes_with, point_changes}
use Rattle.sync_points.specs.RefusalsLaws.{full, passed, refusal_is, refused_by, spent, too_many}

module _ (g : Generated) (t : TableRows) (w : OpenTransaction) (o : Outcome) (s : IsSoundlyOpen g t w.id (transaction_of w)) where
  abbrev gssbs : ℕ
  gssbs = length (with_changes t (changes_of w.areas.written)).gssbs

  abbrev next : ℕ
  next = t.next_job + length w.drafts

  abbrev charge : Changes → ℕ
  charge changes = total_charge g.limits.blksize (durable g (changed t changes))

  abbrev points : Changes
  points = point_changes g t w.id (transaction_of w) o

  -- the changes that were made, with the row after the point
  pub made : {changes : Changes} {row : Option Service} → changes ≡ changes_with g t w.id (transaction_of w) row → row ≡ row_after g w.id (transaction_of w) o → changes ≡ points
  made e r = e ∙ ap (changes_with g t w.id (transaction_of w)) r

  abbrev Answers : Option Cause → Type 0
  Answers answer = point_by g t w o answer ≡ point_by g t w o (refusal g (durable g (synchronised g t w.id (transaction_of w) o)))

  by_tests : (answer : Option Cause) → refused_by g gssbs next (charge points) ≡ answer → Answers answer
  by_tests answer e = sym (ap (point_by g t w o) (refusal_is g t w.id (transaction_of w) o s ∙ e))

  -- the test of the GSSBs
  module _ {many : Bool} (limits : Limits) (areas : List Change) (e : many ≡ nat_lt limits.gssbs (length (with_changes t areas).gssbs)) (l : limits ≡ g.limits) (a : areas ≡ changes_of w.areas.written) where
    counted : (b : Bool) → many ≡ b → nat_lt g.limits.gssbs gssbs ≡ b
    counted b is = sym (λ i. nat_lt (l i).gssbs (length (with_changes t (a i)).gssbs)) ∙ sym e ∙ is

    pub has_many : many ≡ true → Answers (Some E10)
    has_many is = by_tests (Some E10) (too_many g gssbs next (charge points) (counted true is))

    -- the test of the numbers
    module _ (few : many ≡ false) {spends : Bool} (n : spends ≡ nat_lt last_next_job next) where
      pub spends_all : spends ≡ true → Answers (Some E11)
      spends_all is = by_tests (Some E11) (spent g gssbs next (charge points) (counted false few) (sym n ∙ is))

      -- the test of the page pool
      module _ (leaves : spends ≡ false) {fills : Bool} (changes : Changes) (p : fills ≡ nat_lt g.limits.pgpool (charge changes)) (m : changes ≡ points) where
        charged : (b : Bool) → fills ≡ b → nat_lt g.limits.pgpool (charge points) ≡ b
        charged b is = sym (ap (λ cs. nat_lt g.limits.pgpool (charge cs)) m) ∙ sym p ∙ is

        pub fills_pool : fills ≡ true → Answers (Some E09)
        fills_pool is = by_tests (Some E09) (full g gssbs next (charge points) (counted false few) (sym n ∙ leaves) (charged true is))

        pub passes : fills ≡ false → (row : Option Service) → row ≡ row_after g w.id (transaction_of w) o → Passed changes row ≡ point_by g t w o (refusal g (durable g (synchronised g t w.id (transaction_of w) o)))
        passes is row r =
            (λ i. Passed ((m ∙ sym (points_change g t w.id (transaction_of w) o s)) i) (r i))
            ∙ by_tests None (passed g gssbs next (charge points) (counted false few) (sym n ∙ leaves) (charged false is))
