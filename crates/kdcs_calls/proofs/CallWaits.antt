-- Every call leaves the waits so.
use Rattle.std.specs.Prelude.{◌≡◌, refl, ℕ, Bool, true, false, cond, ◌&&◌, not, List, [], ◌∷◌, filter, Option, Some, None, Result, IfOk, OnOk, is_some, if◌then◌else◌}
use Rattle.std.proofs.Common.{ap, sym, subst, ◌∙◌}
use Rattle.std.specs.FinMap.{find}
use Rattle.kdcs_types.specs.declared.call.Call.{Call}
use Rattle.kdcs_types.specs.declared.call.Call.TheVariants.{Init}
use Rattle.kdcs_types.specs.declared.key.Area.{Area}
use Rattle.kdcs_types.specs.declared.key.ServiceId.{ServiceId}
use Rattle.kdcs_types.specs.Keys.{area_cmp, id_eq}
use Rattle.kdcs_types.specs.Tables.{TableRows}
use Rattle.application_types.specs.Generation.{Generated}
use Rattle.monitor_parts.specs.Asked.{asked, given_back, holds_area, locks_after, without_wait, unlocked as unlocked_locks}
use Rattle.abstract_monitor.specs.declared.answer.Called.{Called}
use Rattle.abstract_monitor.specs.declared.answer.Called.TheVariants.{Replied, Waits, Abnormal, Pends}
use Rattle.abstract_monitor.specs.declared.answer.LockAnswer.{LockAnswer}
use Rattle.abstract_monitor.specs.declared.answer.LockAnswer.TheVariants.{Granted, Wait, Busy, Deadlock}
use Rattle.abstract_monitor.specs.Calls.{Told, Performed, first_call, locked, on_answer, touches, touching, unlocked, unlocked_by}
use Rattle.abstract_monitor.specs.Locks.{Locks, Waiting, answer_of}
use Rattle.abstract_monitor.specs.State.{OpenTransaction as Transaction}
use Rattle.abstract_monitor.specs.Statements.{area_of_call}
use Rattle.kdcs_calls.specs.Calling.{HoldsJust, WaitsMatch, locks_by_call, may_release}
use Rattle.kdcs_calls.specs.Parts.{told_of}
use Rattle.kdcs_calls.proofs.AreaCalls.{IsReply, answer_to, performed_matches}
use Rattle.kdcs_calls.proofs.Locking.{same_answer}

twice : {X : Type 0} (q : X → Bool) (xs : List X) → filter q (filter q xs) ≡ filter q xs
twice q [] = refl
twice q (x ∷ xs) = by (q x) refl (twice q xs)
  where
    by : (b : Bool) → q x ≡ b → filter q (filter q xs) ≡ filter q xs → filter q (cond b (x ∷ filter q xs) (filter q xs)) ≡ cond b (x ∷ filter q xs) (filter q xs)
    by true e rest = ap (λ c. cond c (x ∷ filter q (filter q xs)) (filter q (filter q xs))) e ∙ ap (λ ys. x ∷ ys) rest
    by false e rest = rest

module _ (l : Locks) (id : ServiceId) (now : ℕ) where
  -- a call that asks of no area leaves the waits as they were
  no_area : (c : Called) → WaitsMatch l l id now None c
  no_area (Replied reply) = refl
  no_area Waits = refl
  no_area (Abnormal cause) = refl
  no_area (Pends variant o) = refl

  -- so does an answered one that asks for no lock
  answered_waits : (m : Locks) (area : Option Area) (p : Performed) → (without_wait m id).waits ≡ (without_wait l id).waits → IsReply p.1 → WaitsMatch l m id now area p.1
  answered_waits m area p e is = by p.1 is
    where
      by : (c : Called) → IsReply c → WaitsMatch l m id now area c
      by (Replied reply) i = e
      by Waits i = absurd i
      by (Abnormal cause) i = absurd i
      by (Pends variant o) i = absurd i

  ended_twice : (without_wait (without_wait l id) id).waits ≡ (without_wait l id).waits
  ended_twice = twice (λ (e : ServiceId × Waiting). not (id_eq id e.0)) l.waits

  module _ (x : Transaction) (area : Area) where
    answer_waits : (go : Transaction → Performed) → ((y : Transaction) → IsReply (go y).1) → (answer : LockAnswer) → WaitsMatch l (locks_after answer l now id area) id now (Some area) (on_answer x area answer go).1
    answer_waits go still Granted = answered_waits (locks_after Granted l now id area) (Some area) (go (touching x area (touches x area))) ended_twice (still (touching x area (touches x area)))
    answer_waits go still Wait = refl
    answer_waits go still Busy = ended_twice
    answer_waits go still Deadlock = ended_twice

    released_waits : (v : Told) (held written held_here : Bool) → WaitsMatch l (if held && not written then given_back l area held_here else l) id now (Some area) (unlocked_by v x area held written).1
    released_waits v false true b = refl
    released_waits v false false b = refl
    released_waits v true true b = refl
    released_waits v true false true = refl
    released_waits v true false false = refl

-- before INIT is done
first_by_call : (l : Locks) (id : ServiceId) (now : ℕ) (x : Transaction) (call : Call) → WaitsMatch l l id now (area_of_call x call) (first_call x call).1
first_by_call l id now x Init = refl
first_by_call l id now x _ = refl

pub first_waits : (l : Locks) (t : TableRows) (id : ServiceId) (x : Transaction) (call : Call) (y : Transaction) (answer : Called) → (y, answer) ≡ first_call x call → WaitsMatch l l id t.clock (area_of_call x call) answer
first_waits l t id x call y answer exact = subst (λ (p : Performed). WaitsMatch l l id t.clock (area_of_call x call) p.1) (sym exact) (first_by_call l id t.clock x call)

-- ---- once INIT is done

module _ (g : Generated) (t : TableRows) (l : Locks) (id : ServiceId) (x : Transaction) (h : HoldsJust l id x) where
  abbrev Matches : Locks → Option Area → Performed → Type 0
  Matches m area p = WaitsMatch l m id t.clock area p.1

  locked_waits : (area : Area) (go : Transaction → Performed) → ((y : Transaction) → IsReply (go y).1) → Matches (asked l g.limits.reswait t.clock id area) (Some area) (locked (told_of g t l id area) x area go)
  locked_waits area go still =
      subst (λ (a : LockAnswer). Matches (asked l g.limits.reswait t.clock id area) (Some area) (on_answer x area a go))
      (sym (same_answer g t l id x area h))
      (answer_waits l id t.clock x area go still (answer_of l g.limits.reswait t.clock id area))

  unlocked_waits : (v : Told) (area : Area) → Matches (if may_release x area then unlocked_locks l id area else l) (Some area) (unlocked v x area)
  unlocked_waits v area = released_waits l id t.clock x area v (touches x area) (is_some (find area_cmp area x.written)) (holds_area l id area)

  pub later_waited : {E : Type 0} (call : Call) (new : Locks) (y : Transaction) (r : Result Called E)
      → IfOk r (λ (answer : Called). (y, answer) ≡ answer_to g t l id x call)
      → OnOk r (new ≡ locks_by_call g t.clock l id x call)
      → IfOk r (λ (answer : Called). WaitsMatch l new id t.clock (area_of_call x call) answer)
  later_waited =
      performed_matches g t l id x Matches (λ area code. refl) (λ area go plain. locked_waits area go (λ y. (plain y).1)) unlocked_waits
      (λ call alone. no_area l id t.clock (answer_to g t l id x call).1)
