-- A run that asks for a call is at a statement of its unit.
use Rattle.std.proofs.Common.{◌≡◌, ℕ, zero, suc, ◌≤◌, ◌<◌, length, inl, inr, arith, Some}
use Rattle.std.proofs.lemmas.Option.{slice_get_within}
use Rattle.kd_base.specs.ToolsLaws.{cases_option}
use Rattle.kdcs_types.specs.declared.run_state.RunState.{RunState}
use Rattle.application_types.specs.declared.unit_types.action.UnitStatement.{UnitStatement}
use Rattle.application_types.specs.UnitText.{UnitText, statement_at}
use Rattle.abstract_monitor.specs.Ready.{IsAsking}
use Rattle.abstract_monitor.specs.Statement.{step}

at_a_statement : (unit : UnitText) (place : ℕ) (s : UnitStatement) → statement_at unit place ≡ Some s → place ≤ length unit.statements
at_a_statement unit zero s is = omega arith
at_a_statement unit (suc n) s is =
    let h : n < length unit.statements = slice_get_within unit.statements n s is in
    omega arith

pub asks_at : (unit : UnitText) (run : RunState) → IsAsking (step unit run) → run.place ≤ length unit.statements
unfolding step
asks_at unit run asks =
    elim (cases_option (statement_at unit run.place)) [
      | inl none ↦ absurd (rw none at asks)
      | inr found ↦ at_a_statement unit run.place found.0 found.1
    ]
