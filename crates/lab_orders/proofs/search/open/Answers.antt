use Rattle.std.proofs.Common.{inl, inr, refl, sym, arith, ◌∙◌, ◌+◌, ◌≤◌, ◌≡◌, []}
use Rattle.std.specs.Prelude.{◌⊎◌}
use Rattle.lab_walks.specs.Frames.{IsFrame}
use Rattle.lab_walks.specs.Walks.{InRun}
use Rattle.lab_orders.proofs.Searching.{opens_turns, opens_zero}
use Rattle.lab_orders.proofs.search.open.Goals as goal
use Rattle.lab_orders.proofs.search.open.Goals.{then-ends+in_ok-push, else-ends}

pub returns-clause-frame : goal.returns-clause-frame
returns-clause-frame c =
    let app = c.args.core.application in
    let s = c.args.core.state in
    let tried = c.in_ok-core.ensures.tried in
    elim c.if-ends.branch as (λ _. IsFrame app (InRun c.args.left c.args.room s) (record { choices = c.if-ends.choices; at = 0; idle = c.in_ok-core.idle })) [
      | then-ends+in_ok-push w ↦
          let why : (c.in_ok-core.choices ≡ []) ⊎ (c.args.left + 1 ≤ c.args.room + c.in_ok-core.idle) = elim (c.ends.ensures.yes w.if-ends.true) [ inl none ↦ inl (sym c.as_slice.ensures ∙ none) | inr spent ↦ inr (omega (arith, spent, c.from.ensures)) ] in
          opens_zero app s c.in_ok-core.choices c.in_ok-core.idle c.args.left c.args.room tried (record { choices = c.if-ends.choices; at = 0; idle = c.in_ok-core.idle }) refl refl (w.choices-is ∙ w.in_ok-push.ensures.ok) why
      | else-ends w ↦
          let more = c.ends.ensures.no w.if-ends.false in
          opens_turns app s c.in_ok-core.choices c.in_ok-core.idle c.args.left c.args.room tried (record { choices = c.if-ends.choices; at = 0; idle = c.in_ok-core.idle }) refl refl w.choices-is (λ none. more.0 (c.as_slice.ensures ∙ none)) (omega (arith, more.1, c.from.ensures))
    ]
