use Rattle.std.proofs.Common.{◌≡◌, ◌+◌, ◌≤◌, length}
use Rattle.texts.specs.Reading.{with_front, read_from}
use Rattle.texts.proofs.kdcdef_lex.read.read_text.Given as goal

abbrev pub invariant-loop-statements : goal.invariant-loop-statements
invariant-loop-statements l = record {
  so_far : with_front l.statements (read_from l.number l.rest) ≡ read_from 1 l.text;
  bounded : l.number + length l.rest ≤ 1 + length l.text;
  short : length l.text ≤ 16777216;
}

abbrev pub decreases-loop-statements : goal.decreases-loop-statements
decreases-loop-statements l = length l.rest
