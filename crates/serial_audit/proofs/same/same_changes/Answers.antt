use Rattle.std.specs.Cmp.Lexicographic.{pointwise}
use Rattle.std.proofs.Common.{sym, ◌∙◌}
use Rattle.std.proofs.lemmas.Bool.{eqb-true}
use Rattle.serial_audit.specs.Same.{change_eq}
use Rattle.serial_audit.proofs.SameChanges.{changes_iff}
use Rattle.serial_audit.proofs.same.same_changes.Goals.{then-a-b, else-a-b}
use Rattle.serial_audit.proofs.same.same_changes.Goals as goal

pub returns-then-a-b-2 : goal.returns-then-a-b-2
returns-then-a-b-2 c =
    elim c.if-a-b.branch [
      | then-a-b w ↦ changes_iff c.args.a.now c.args.b.now c.same_items.result w.if-a-b.true (eqb-true c.args.a.now.next_job c.args.b.now.next_job (sym w.value-is ∙ c.if-a-b-2.true)) (c.same_items.ensures ∙ (λ i. pointwise change_eq (c.as_slice.ensures i) (c.as_slice-then-a-b-2.ensures i)))
      | else-a-b w ↦ absurd (w.if-a-b.false (eqb-true c.args.a.now.clock c.args.b.now.clock (sym w.value-is ∙ c.if-a-b-2.true)))
    ]
