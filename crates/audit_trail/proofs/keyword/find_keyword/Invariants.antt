use Rattle.std.proofs.Common.{◌≡◌, drop}
use Rattle.std.specs.Prelude.{find, bytes_eq}
use Rattle.audit_trail.specs.Lines.{spelling}
use Rattle.audit_trail.proofs.keyword.find_keyword.Given as goal

abbrev pub invariant-loop-keyword : goal.invariant-loop-keyword
invariant-loop-keyword l =
    find (λ keyword. bytes_eq l.word (spelling keyword)) (drop l.keyword-index l.keywords) ≡ find (λ keyword. bytes_eq l.word (spelling keyword)) l.keywords
