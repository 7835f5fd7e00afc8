use Rattle.std.proofs.Common.{ℕ, List, ◌++◌, ap, ◌∙◌}
use Rattle.lab_scripts.proofs.Sent.{command_lines}
use Rattle.lab_scripts.specs.Records.{heard_bytes}
use Rattle.lab_scripts.proofs.testing.sent_by.Goals as goal

pub returns-clause-sent : goal.returns-clause-sent
returns-clause-sent c =
    let heard = c.in_ok-next.ensures.heard in
    heard.2 ∙ ap (λ (l : List ℕ). l ++ heard_bytes heard.0) c.new-recorder.ensures ∙ command_lines c.args.bench.application c.args.bench.state c.args.command.now heard.0 heard.1
