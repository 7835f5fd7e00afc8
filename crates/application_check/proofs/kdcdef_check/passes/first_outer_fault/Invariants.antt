use Rattle.std.proofs.Common.{◌≡◌, ℕ, List, Some, slice_get, true}
use Rattle.application_types.specs.declared.kdcdef_types.statement.Statement.{Statement}
use Rattle.application_check.specs.Generating.{generated}
use Rattle.application_check.specs.Faults.{is_end}
use Rattle.application_check.specs.Steps.{IsFirstOf, AmongFirst, OuterFault, HaveNamed, SaysTogether}
use Rattle.application_check.proofs.kdcdef_check.passes.first_outer_fault.Given as goal

abbrev pub invariant-loop-statement : goal.invariant-loop-statement
invariant-loop-statement l =
    (all : List Statement) → HaveNamed l.tables (generated all) → ((i : ℕ) (s : Statement) → slice_get l.statements i ≡ Some s → is_end s.said ≡ true → SaysTogether l.whole all)
    → IsFirstOf (AmongFirst l.statements (OuterFault all) l.statement-index) l.first
