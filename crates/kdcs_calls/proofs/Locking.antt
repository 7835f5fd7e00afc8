-- A request for an area that the transaction holds is granted.
use Rattle.std.specs.Prelude.{◌≡◌, refl, ℕ, Bool, true, false, Option, Some, None}
use Rattle.std.proofs.Common.{ap, sym, ◌∙◌, true≢false}
use Rattle.kdcs_types.specs.declared.key.Area.{Area}
use Rattle.kdcs_types.specs.declared.key.ServiceId.{ServiceId}
use Rattle.kdcs_types.specs.Tables.{TableRows}
use Rattle.application_types.specs.Generation.{Generated}
use Rattle.application_types.specs.declared.kdcdef_types.limits.Limits.{Limits}
use Rattle.monitor_parts.specs.Asked.{holds_area, is_holder}
use Rattle.abstract_monitor.specs.declared.answer.LockAnswer.{LockAnswer}
use Rattle.abstract_monitor.specs.declared.answer.LockAnswer.TheVariants.{Granted}
use Rattle.abstract_monitor.specs.Calls.{answer_by, touches}
use Rattle.abstract_monitor.specs.Locks.{Locks, answer_by_holder, answer_of, answer_of_held, holder}
use Rattle.abstract_monitor.specs.State.{OpenTransaction as Transaction}
use Rattle.kdcs_calls.specs.Calling.{HoldsJust}
use Rattle.kdcs_calls.specs.Parts.{told_of}

granted_by : (l : Locks) (reswait now : ℕ) (id : ServiceId) (area : Area) (o : Option ServiceId) → is_holder o id ≡ true → answer_by_holder l reswait now id area o ≡ Granted
granted_by l reswait now id area None e = absurd (true≢false (sym e))
granted_by l reswait now id area (Some other) e = ap (answer_of_held l reswait now id area other) e

granted_if_held : (l : Locks) (reswait now : ℕ) (id : ServiceId) (area : Area) → holds_area l id area ≡ true → answer_of l reswait now id area ≡ Granted
unfolding answer_of
granted_if_held l reswait now id area e = granted_by l reswait now id area (holder l area) e

-- so what the call is told is what the locks answer, held or not
pub same_answer : (g : Generated) (t : TableRows) (l : Locks) (id : ServiceId) (x : Transaction) (area : Area) → HoldsJust l id x → answer_by (told_of g t l id area) (touches x area) ≡ answer_of l g.limits.reswait t.clock id area
same_answer g t l id x area h = by (touches x area) refl
  where
    by : (b : Bool) → touches x area ≡ b → answer_by (told_of g t l id area) b ≡ answer_of l g.limits.reswait t.clock id area
    by true e = sym (granted_if_held l g.limits.reswait t.clock id area (h area ∙ e))
    by false e = refl

pub told_answer : (g : Generated) (t : TableRows) (l : Locks) (id : ServiceId) (x : Transaction) (area : Area) (answer : LockAnswer) (limits : Limits) (now : ℕ) → HoldsJust l id x → limits ≡ g.limits → now ≡ t.clock → answer ≡ answer_of l limits.reswait now id area → answer ≡ answer_by (told_of g t l id area) (touches x area)
told_answer g t l id x area answer limits now h max clock is =
    is
    ∙ ap (λ (m : Limits). answer_of l m.reswait now id area) max
    ∙ ap (λ (n : ℕ). answer_of l g.limits.reswait n id area) clock
    ∙ sym (same_answer g t l id x area h)
