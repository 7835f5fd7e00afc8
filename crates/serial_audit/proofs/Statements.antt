-- What a statement leaves as it was.
use Rattle.std.specs.Prelude.{◌≡◌, Bool}
use Rattle.std.proofs.Common.{sym, subst}
use Rattle.kdcs_types.specs.declared.key.Area.{Area}
use Rattle.application_types.specs.UnitText.{UnitText}
use Rattle.abstract_monitor.specs.declared.answer.Called.{Called}
use Rattle.abstract_monitor.specs.declared.answer.Called.TheVariants.{Replied}
use Rattle.abstract_monitor.specs.declared.answer.Happened.{Happened}
use Rattle.abstract_monitor.specs.declared.answer.Happened.TheVariants.{Went, Queued, Waited}
use Rattle.abstract_monitor.specs.declared.answer.LockAnswer.{LockAnswer}
use Rattle.abstract_monitor.specs.declared.answer.LockAnswer.TheVariants.{Granted, Wait, Busy, Deadlock}
use Rattle.abstract_monitor.specs.Calls.{Told, Performed, answer_by, on_answer, touches, touching}
use Rattle.abstract_monitor.specs.State.{Application, OpenTransaction}
use Rattle.abstract_monitor.specs.Statements.{Stated, area_of, by_call, by_performed, statement}
use Rattle.laws_of_states.specs.ShapesLaws.{IsAnswered, AnsweredBy, StatementLeaves, StatementLooks, StatementAlone, StatementLocks, StatementUnlocks, statement_looks}

-- a statement that is not done, but still its transaction or holds it
abbrev pub IsStill : Happened → Type 0
IsStill Went = ⊥
IsStill Queued = ⊥
IsStill Waited = ⊥
IsStill _ = Unit {0}

module _ (app : Application) (asy : Bool) (x : OpenTransaction) where
  abbrev LeavesStill : Stated → Type 0
  LeavesStill q = IsStill q.1 → q.0 ≡ x

  leaves_still : (q : Stated) → StatementLeaves x q.0 q.1 → LeavesStill q
  leaves_still q = by q.1
    where
      by : (h : Happened) → StatementLeaves x q.0 h → IsStill h → q.0 ≡ x
      by Went l still = absurd still
      by Queued l still = absurd still
      by Waited l still = absurd still
      by _ l still = l

  answered_goes : (unit : UnitText) (z : OpenTransaction) (p : Performed) → IsAnswered z p → LeavesStill (by_performed app asy unit p)
  answered_goes unit z p = by p.1
    where
      by : (c : Called) → AnsweredBy z p.0 c → LeavesStill (by_call app asy unit p.0 c)
      by (Replied reply) q still = absurd still
      by _ q still = absurd q

  locks_go : (unit : UnitText) (area : Area) (go : OpenTransaction → Performed) → ((y : OpenTransaction) → IsAnswered y (go y)) → (a : LockAnswer) → LeavesStill (by_performed app asy unit (on_answer x area a go))
  locks_go unit area go all Granted still =
      let y = touching x area (touches x area) in
      answered_goes unit y (go y) (all y) still
  locks_go unit area go all Wait still = absurd still
  locks_go unit area go all Busy still = absurd still
  locks_go unit area go all Deadlock still = absurd still

  -- it leaves its transaction as it was
  pub statement_still : (v : Told) → LeavesStill (statement app v asy x)
  statement_still v = by (statement_looks app asy x)
    where
      by : StatementLooks app asy x (area_of app x) (λ w. statement app w asy x) → LeavesStill (statement app v asy x)
      by (StatementAlone r same leaves) = subst LeavesStill (sym (same v)) (leaves_still r leaves)
      by (StatementLocks unit area go asks same all) = subst LeavesStill (sym (same v)) (locks_go unit area (go v.content) (all v.content) (answer_by v (touches x area)))
      by (StatementUnlocks unit area asks held same) = subst LeavesStill (sym (same v)) (λ still. absurd still)
