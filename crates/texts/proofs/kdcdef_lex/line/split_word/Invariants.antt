use Rattle.std.proofs.Common.{◌≡◌, ◌+◌, ◌-◌, ◌≤◌, length, drop}
use Rattle.std.specs.List.{prefix_len}
use Rattle.texts.specs.Lines.{is_word_byte}
use Rattle.texts.proofs.kdcdef_lex.line.split_word.Given as goal

abbrev pub invariant-loop-n : goal.invariant-loop-n
invariant-loop-n l = (l.n ≤ length l.line) × (l.n + prefix_len is_word_byte (drop l.n l.line) ≡ prefix_len is_word_byte l.line)

abbrev pub decreases-loop-n : goal.decreases-loop-n
decreases-loop-n l = length l.line - l.n
