use Rattle.std.proofs.Common.{◌≡◌, ◌+◌, ◌≤◌, length, take}
use Rattle.std.specs.List.{suffix_len}
use Rattle.texts.specs.Blanks.{is_blank}
use Rattle.texts.proofs.kdcdef_lex.line.up_to_last.Given as goal

abbrev pub invariant-loop-n : goal.invariant-loop-n
invariant-loop-n l = (l.n ≤ length l.line) × (l.n + suffix_len is_blank l.line ≡ length l.line + suffix_len is_blank (take l.n l.line))

abbrev pub decreases-loop-n : goal.decreases-loop-n
decreases-loop-n l = l.n
