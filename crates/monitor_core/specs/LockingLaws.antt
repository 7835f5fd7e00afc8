-- The locks of the parts are those of their state, before and after a statement.
use Rattle.std.specs.Prelude.{◌≡◌, refl, ℕ, Bool, true, false, IsTrue, List, [], ◌∷◌, Option, Some, None, is_some, if◌then◌else◌}
use Rattle.std.proofs.Common.{ap, sym, ◌∙◌, true≢false}
use Rattle.std.specs.FinMap.{find, is_sorted, put}
use Rattle.std.specs.FinMap.Entries.{below_all, by_order}
use Rattle.std.specs.Ordering.{is_eq}
use Rattle.std.specs.declared.cmp.Ordering.{Ordering}
use Rattle.std.specs.declared.cmp.Ordering.TheVariants.{Less, Equal, Greater}
use Rattle.kd_base.specs.ToolsLaws.{both_true, some_is}
use Rattle.kdcs_types.specs.declared.key.Area.{Area}
use Rattle.kdcs_types.specs.declared.key.ServiceId.{ServiceId}
use Rattle.kdcs_types.specs.Keys.{id_cmp, id_eq}
use Rattle.kdcs_types.specs.KeyLaws.{id_total, id_eq_itself, id_eq_same}
use Rattle.kdcs_types.specs.Tables.{TableRows, content_of}
use Rattle.monitor_parts.specs.Asked.{holds_area, is_holder, other_than}
use Rattle.monitor_parts.specs.SameLocksLaws.{HaveSameLocks, same_answer}
use Rattle.abstract_monitor.specs.declared.answer.LockAnswer.{LockAnswer}
use Rattle.abstract_monitor.specs.Calls.{touches}
use Rattle.abstract_monitor.specs.Locks.{Active, IsExclusive, Locks, holder, holds, told_now, touched_by}
use Rattle.abstract_monitor.specs.State.{OpenTransaction}
use Rattle.laws_of_states.specs.AreasLaws.{free_held, holder_holds, holder_in}
use Rattle.laws_of_states.specs.EntriesLaws.{found_put, none_before, other_put}
use Rattle.service_ends.specs.ChangesLaws.{SameHolds, apart, turned}

-- an area has the holder that the open transactions give it
pub same_holder : (l : Locks) (active : Active) → SameHolds l active → IsTrue (is_sorted id_cmp active) → IsExclusive active → (area : Area) → holder l area ≡ holder_in active area
same_holder l active same sorted exclusive area = by (holder l area) refl (holder_in active area) refl
  where
    found : (j : ServiceId) → holder_in active area ≡ Some j → holds active j area ≡ true
    found j f = holder_holds active area j sorted f

    held : (i : ServiceId) → holder l area ≡ Some i → holds active i area ≡ true
    held i e = sym (same i area) ∙ ap (λ (o : Option ServiceId). is_holder o i) e ∙ id_eq_itself i

    by : (o : Option ServiceId) → holder l area ≡ o → (q : Option ServiceId) → holder_in active area ≡ q → o ≡ q
    by None e None f = refl
    by None e (Some j) f = absurd (true≢false (sym (found j f) ∙ sym (same j area) ∙ ap (λ (o : Option ServiceId). is_holder o j) e))
    by (Some i) e None f = absurd (true≢false (sym (held i e) ∙ free_held active area f i))
    by (Some i) e (Some j) f = ap (λ (k : ServiceId). Some k) (exclusive i j area (held i e) (found j f))

-- with the same locks a statement is told the same
pub same_told : (l m : Locks) → HaveSameLocks l m → (reswait : ℕ) (t : TableRows) (id : ServiceId) (of : Option Area) → told_now l reswait t id of ≡ told_now m reswait t id of
unfolding told_now
same_told l m same reswait t id None = refl
same_told l m same reswait t id (Some area) = ap (λ (a : LockAnswer). record { answer = a; content = content_of t area }) (same_answer l m same reswait t.clock id area)

-- ---- after a statement

-- the service holds what its transaction touches, and no other area changes hands
abbrev pub AreasMatch : (before after : Locks) → ServiceId → OpenTransaction → Type 0
AreasMatch l m id y = (area : Area) → holder m area ≡ (if touches y area then Some id else other_than id (holder l area))

pub stated_holds : (l m : Locks) (active : Active) (id : ServiceId) (y : OpenTransaction) → AreasMatch l m id y → SameHolds l active → IsExclusive (put id_cmp id y active)
    → SameHolds m (put id_cmp id y active)
stated_holds l m active id y matching same exclusive i area = by (id_eq i id) refl (touches y area) refl
  where
    own : holds (put id_cmp id y active) id area ≡ touches y area
    own = ap (λ (o : Option OpenTransaction). touched_by o area) (found_put id y active)

    was : (b : Bool) → touches y area ≡ b → holds_area m i area ≡ is_holder (if b then Some id else other_than id (holder l area)) i
    was b t = ap (λ (o : Option ServiceId). is_holder o i) (matching area) ∙ ap (λ (c : Bool). is_holder (if c then Some id else other_than id (holder l area)) i) t

    none : id_eq i id ≡ false → touches y area ≡ true → (b : Bool) → holds (put id_cmp id y active) i area ≡ b → false ≡ b
    none e t true h = absurd (true≢false (sym (ap (λ (k : ServiceId). id_eq k id) (exclusive i id area h (own ∙ t)) ∙ id_eq_itself id) ∙ e))
    none e t false h = refl

    by : (a : Bool) → id_eq i id ≡ a → (b : Bool) → touches y area ≡ b → holds_area m i area ≡ holds (put id_cmp id y active) i area
    by true e true t =
        let is : i ≡ id = id_eq_same i id e in
        was true t ∙ ap (λ (k : ServiceId). id_eq id k) is ∙ id_eq_itself id ∙ sym (ap (λ (k : ServiceId). holds (put id_cmp id y active) k area) is ∙ own ∙ t)
    by true e false t =
        let is : i ≡ id = id_eq_same i id e in
        was false t ∙ apart id i (holder l area) true e ∙ sym (ap (λ (k : ServiceId). holds (put id_cmp id y active) k area) is ∙ own ∙ t)
    by false e true t = was true t ∙ turned i id e ∙ none e t (holds (put id_cmp id y active) i area) refl
    by false e false t =
        was false t ∙ apart id i (holder l area) false e ∙ same i area ∙ sym (ap (λ (o : Option OpenTransaction). touched_by o area) (other_put i id y active e))

-- ---- what is there already

-- to put in what is there changes nothing
pub put_same : {X : Type 0} (id : ServiceId) (x : X) (es : List (ServiceId × X)) → IsTrue (is_sorted id_cmp es) → find id_cmp id es ≡ Some x → put id_cmp id x es ≡ es
put_same id x [] sorted is = absurd (true≢false (sym (ap is_some is)))
put_same {X} id x (e ∷ es) sorted is = by (id_cmp id e.0) refl (put_same id x es parts.1)
  where
    parts : (below_all id_cmp e.0 es ≡ true) × (is_sorted id_cmp es ≡ true)
    parts = both_true (below_all id_cmp e.0 es) (is_sorted id_cmp es) sorted

    read : (r : Ordering) → id_cmp id e.0 ≡ r → (if is_eq r then Some e.1 else find id_cmp id es) ≡ Some x
    read r h = sym (ap (λ (o : Ordering). if is_eq o then Some e.1 else find id_cmp id es) h) ∙ is

    by : (r : Ordering) → id_cmp id e.0 ≡ r → (find id_cmp id es ≡ Some x → put id_cmp id x es ≡ es) → by_order r ((id, x) ∷ e ∷ es) ((e.0, x) ∷ es) (e ∷ put id_cmp id x es) ≡ e ∷ es
    by Less h rest = absurd (true≢false (sym (ap is_some (sym (none_before id_cmp id_total id e.0 es h parts.0) ∙ read Less h))))
    by Equal h rest = ap (λ (v : X). (e.0, v) ∷ es) (sym (some_is e.1 x (read Equal h)))
    by Greater h rest = ap (λ (l : List (ServiceId × X)). e ∷ l) (rest (read Greater h))
