use Rattle.std.proofs.Common.{◌≡◌, ◌+◌, ◌≤◌, length, ◌∷◌, Some, None}
use Rattle.std.specs.Str.Lines.{lines}
use Rattle.texts.specs.Groups.{groups}
use Rattle.texts.proofs.kdcdef_lex.group.group_of.Given as goal

abbrev pub invariant-loop-body : goal.invariant-loop-body
invariant-loop-body l = record {
  so_far : groups (Some (l.number, l.text)) l.last (l.line ∷ lines l.rest) ≡ groups None l.number (l.fn.line ∷ lines l.fn.rest);
  bounded : l.last + length l.rest ≤ l.number + length l.fn.rest;
  shorter : length l.rest ≤ length l.fn.rest;
}

abbrev pub decreases-loop-body : goal.decreases-loop-body
decreases-loop-body l = length l.rest
