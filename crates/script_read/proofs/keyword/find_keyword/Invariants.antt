use Rattle.std.proofs.Common.{◌≡◌, drop}
use Rattle.std.specs.Prelude.{find}
use Rattle.script_read.specs.Script.{same}
use Rattle.script_read.specs.Commands.{spelling}
use Rattle.script_read.proofs.keyword.find_keyword.Given as goal

abbrev pub invariant-loop-keyword : goal.invariant-loop-keyword
invariant-loop-keyword l =
    find (λ keyword. same l.word (spelling keyword)) (drop l.keyword-index l.keywords) ≡ find (λ keyword. same l.word (spelling keyword)) l.keywords
