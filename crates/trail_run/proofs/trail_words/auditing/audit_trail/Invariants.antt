use Rattle.std.proofs.Common.{◌≡◌, take}
use Rattle.laws_of_runs.specs.Applied.{applied}
use Rattle.laws_of_states.specs.Suits.{Suits}
use Rattle.trail_run.specs.InTurn.{HoldInTurn}
use Rattle.trail_run.proofs.trail_words.auditing.audit_trail.Given as goal

abbrev pub invariant-loop-entry : goal.invariant-loop-entry
invariant-loop-entry l = record {
  items : l.entry-items ≡ l.fn.trail.entries;
  count : l.held ≡ l.entry-index;
  in_turn : HoldInTurn (applied l.generation l.units) l.fn.trail.start (take l.entry-index l.fn.trail.entries) l.tables;
  suits : Suits l.generation l.tables;
}
