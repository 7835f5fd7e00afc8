-- A service gives back area by area, until it holds none.
use Rattle.std.specs.Prelude.{◌≡◌, ◌<◌, ◌+◌, refl, Bool, true, false, cond, not, IsTrue, List, [], length, is_some, Option, Some, None}
use Rattle.std.proofs.Common.{ap, arith, sym, ◌∙◌, true≢false}
use Rattle.std.proofs.lemmas.List.{nil_from_length}
use Rattle.std.specs.FinMap.{is_sorted}
use Rattle.std.specs.FinMap.Entries.{length_without, same_entries}
use Rattle.kd_base.specs.OrderLaws.{holds}
use Rattle.kd_base.specs.PlacesLaws.{filtered_sorted}
use Rattle.kdcs_types.specs.declared.key.Area.{Area}
use Rattle.kdcs_types.specs.declared.key.ServiceId.{ServiceId}
use Rattle.kdcs_types.specs.KeyLaws.{area_eq_same, area_total, same_area}
use Rattle.kdcs_types.specs.Keys.{area_cmp, area_eq, id_eq}
use Rattle.abstract_monitor.specs.Locks.{Locks, Waiting, holder}
use Rattle.monitor_parts.specs.Asked.{freed, holds_area, is_holder, other_than, without_holder, without_wait}
use Rattle.monitor_parts.proofs.area_locks.Holders.{holder_freed, holder_given_back}

-- the service gave back some of its areas, and waits for nothing
pub record Frees (before now : Locks) (who : ServiceId) : Type 0 where
  pub ascending : IsTrue (is_sorted area_cmp before.holders)
  pub waits : now.waits ≡ (without_wait before who).waits
  pub others : (a : Area) → other_than who (holder now a) ≡ other_than who (holder before a)

-- where nobody waits, no wait ends
pub none_waits : (l : Locks) (who : ServiceId) → length l.waits ≡ 0 → l ≡ without_wait l who
none_waits l who e =
    let none : l.waits ≡ [] = nil_from_length l.waits e in
    ap (λ (ws : List (ServiceId × Waiting)). record l { waits = ws }) (none ∙ sym (ap (λ (ws : List (ServiceId × Waiting)). (without_wait (record l { waits = ws }) who).waits) none))

own_gone : (o : Option ServiceId) (who : ServiceId) → is_holder o who ≡ true → None ≡ other_than who o
own_gone None who e = absurd (true≢false (sym e))
own_gone (Some other) who e = sym (ap (λ b. cond b None (Some other)) e)

not_own : (o : Option ServiceId) (who : ServiceId) → is_holder o who ≡ false → o ≡ other_than who o
not_own None who e = refl
not_own (Some other) who e = sym (ap (λ b. cond b None (Some other)) e)

-- one area more
pub frees_one : (before now next : Locks) (who : ServiceId) (area : Area) → Frees before now who → holds_area now who area ≡ true → next ≡ without_holder now area → Frees before next who
frees_one before now next who area frees own after =
    record { ascending = frees.ascending; waits = ap (λ (l : Locks). l.waits) after ∙ frees.waits; others = λ a. ap (λ (l : Locks). other_than who (holder l a)) after ∙ one a (area_eq a area) refl ∙ frees.others a }
  where
    one : (a : Area) (same : Bool) → area_eq a area ≡ same → other_than who (holder (without_holder now area) a) ≡ other_than who (holder now a)
    one a true e = ap (other_than who) (holder_given_back now area a true ∙ ap (λ b. cond b None (holder now a)) e) ∙ own_gone (holder now a) who (ap (holds_area now who) (area_eq_same a area e) ∙ own)
    one a false e = ap (other_than who) (holder_given_back now area a true ∙ ap (λ b. cond b None (holder now a)) e)

-- one area less is held
pub fewer_holders : (now next : Locks) (who : ServiceId) (area : Area) → IsTrue (is_sorted area_cmp now.holders) → holds_area now who area ≡ true → next ≡ without_holder now area → length next.holders < length now.holders
fewer_holders now next who area up own after =
    let gone : length next.holders ≡ length (without_holder now area).holders = ap (λ (l : Locks). length l.holders) after in
    let counted : 1 + length (without_holder now area).holders ≡ length now.holders =
    ap (λ b. cond b 1 0 + length (without_holder now area).holders) (sym (there (holder now area) own)) ∙ length_without area_cmp area_total area now.holders (holds _ up) in
    omega (arith, gone, counted)
  where
    there : (o : Option ServiceId) → is_holder o who ≡ true → is_some o ≡ true
    there None e = e
    there (Some other) e = refl

-- none is left
pub all_freed : (before now : Locks) (who : ServiceId) → Frees before now who → IsTrue (is_sorted area_cmp now.holders) → ((area : Area) → holds_area now who area ≡ false) → now ≡ freed before who
all_freed before now who frees up none i = record {
  holders = same_entries area_cmp area_total same_area now.holders (freed before who).holders (holds _ up) (holds _ (filtered_sorted area_cmp (λ (e : Area × ServiceId). not (id_eq e.1 who)) before.holders frees.ascending))
      (λ a. not_own (holder now a) who (none a) ∙ frees.others a ∙ sym (holder_freed before who a frees.ascending)) i;
  waits = frees.waits i;
}
