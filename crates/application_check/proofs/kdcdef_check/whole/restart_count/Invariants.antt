use Rattle.std.proofs.Common.{◌≡◌, ◌≤◌, take, count_by}
use Rattle.application_types.specs.declared.kdcdef_types.statement.Statement.{Statement}
use Rattle.application_check.specs.Steps.{is_restart}
use Rattle.application_check.proofs.kdcdef_check.whole.restart_count.Given as goal

abbrev pub invariant-loop-statement : goal.invariant-loop-statement
invariant-loop-statement l = record {
  count : l.count ≡ count_by (λ (s : Statement). is_restart s.said) (take l.statement-index l.statements);
  within : l.count ≤ l.statement-index;
}
