use Rattle.std.proofs.Common.{ℕ, List, ◌++◌, ap, append_assoc, ◌∙◌}
use Rattle.std.specs.Prelude.{codes}
use Rattle.std.proofs.lemmas.Result.{IfOk-weaker}
use Rattle.lab_turns.specs.Phrases.{area_text}
use Rattle.lab_turns.specs.TurnLines.{holder_text}
use Rattle.lab_turns.proofs.Put.{put_three}
use Rattle.lab_turns.proofs.lab_printing.turn_lines.put_wait.Goals as goal

pub returns : goal.returns
returns c =
    let area = area_text c.args.area.now in
    let holder = holder_text c.args.holder.now in
    IfOk-weaker c.push.result _ _
    (λ _ put. put_three c.args.out.now c.append.new.self c.put_holder.new.out c.push.new.self (codes "    waits for ") (area ++ holder) _ c.in_ok-append.ensures.ok
    (c.in_ok-put_holder.ensures ∙ ap (λ (l : List ℕ). l ++ holder) c.in_ok-put_area.ensures ∙ append_assoc c.append.new.self area holder)
    put)
    c.push.ensures.ok
