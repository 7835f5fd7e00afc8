use Rattle.std.proofs.Common.{◌≡◌, ◌+◌, ◌≤◌, length, None}
use Rattle.std.specs.Str.Lines.{lines}
use Rattle.texts.specs.Groups.{groups}
use Rattle.texts.proofs.kdcdef_lex.group.begun.Given as goal

abbrev pub invariant-loop-rest : goal.invariant-loop-rest
invariant-loop-rest l = record {
  so_far : groups None l.number (lines l.rest) ≡ groups None l.fn.number (lines l.fn.text);
  bounded : l.number + length l.rest ≤ l.fn.number + length l.fn.text;
  shorter : length l.rest ≤ length l.fn.text;
}

abbrev pub decreases-loop-rest : goal.decreases-loop-rest
decreases-loop-rest l = length l.rest
