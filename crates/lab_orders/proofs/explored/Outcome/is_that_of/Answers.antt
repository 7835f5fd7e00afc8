use Rattle.std.proofs.Common.{◌≡◌, sym, ◌∙◌}
use Rattle.std.proofs.lemmas.Bool.{true≢false}
use Rattle.std.proofs.lemmas.Slice.Eq.{bytes_eq-Decides, slice_eq-Decides}
use Rattle.lab_orders.proofs.Exploring.{same_that, signs_equal, that_parts}
use Rattle.lab_orders.proofs.explored.Outcome.is_that_of.Goals as goal
use Rattle.lab_orders.proofs.explored.Outcome.is_that_of.Goals.{then-eq, else-eq}

pub returns-then-eq-2 : goal.returns-then-eq-2
returns-then-eq-2 c =
    let first = elim c.if-eq.branch as (λ _. (c.args.self.now.signs ≡ c.args.found.now.signs) × (c.args.self.now.tables ≡ c.args.found.now.tables)) [
      | then-eq w ↦ (signs_equal _ _ (sym w.if-eq.ensures), sym w.as_slice.ensures ∙ (bytes_eq-Decides _ _).0 (sym w.eq-then-eq.ensures ∙ sym w.value-is ∙ c.if-eq-2.true) ∙ w.as_slice-then-eq.ensures)
      | else-eq w ↦ absurd (true≢false (sym c.if-eq-2.true ∙ w.value-is ∙ w.if-eq.false))
    ] in
    let lines = slice_eq-Decides bytes_eq-Decides _ _ _ c.eq-then-eq-2.ensures in (
      λ yes. same_that c.args.self.now c.args.found.now first.0 first.1 (sym c.as_slice-then-eq-2.ensures ∙ lines.0 yes ∙ c.as_slice-then-eq-2-2.ensures),
      λ same. lines.1 (c.as_slice-then-eq-2.ensures ∙ (that_parts c.args.self.now c.args.found.now same).2 ∙ sym c.as_slice-then-eq-2-2.ensures),
    )
