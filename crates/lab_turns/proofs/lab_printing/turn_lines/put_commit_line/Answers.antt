use Rattle.std.specs.Prelude.{codes}
use Rattle.std.proofs.lemmas.Result.{IfOk-weaker}
use Rattle.lab_turns.specs.Phrases.{changes_text}
use Rattle.lab_turns.proofs.Put.{put_three}
use Rattle.lab_turns.proofs.lab_printing.turn_lines.put_commit_line.Goals as goal

pub returns : goal.returns
returns c =
    IfOk-weaker c.push.result _ _
    (λ _ put. put_three c.args.out.now c.append.new.self c.put_changes.new.out c.push.new.self (codes "    commits ") (changes_text c.args.changes.now.clock c.args.changes.now.items) _ c.in_ok-append.ensures.ok c.in_ok-put_changes.ensures put)
    c.push.ensures.ok
