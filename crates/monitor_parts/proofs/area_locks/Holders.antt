-- Who holds an area once others were given, given back or freed.
use Rattle.std.specs.Prelude.{◌≡◌, refl, ℕ, Bool, true, false, cond, not, ◌&&◌, IsTrue, List, [], ◌∷◌, filter, Option, Some, None, is_some, if◌then◌else◌}
use Rattle.std.proofs.Common.{ap, sym, ◌∙◌, true≢false}
use Rattle.std.specs.Ordering.{is_eq, is_lt}
use Rattle.std.specs.declared.cmp.Ordering.{Ordering}
use Rattle.std.specs.declared.cmp.Ordering.TheVariants.{Less, Equal, Greater}
use Rattle.std.specs.Cmp.{Equal-is}
use Rattle.std.specs.FinMap.{find, is_sorted}
use Rattle.std.specs.FinMap.Entries.{below_all, find-put}
use Rattle.kd_base.specs.ToolsLaws.{both_true}
use Rattle.kd_base.specs.PlacesLaws.{find_without, put_again}
use Rattle.kdcs_types.specs.declared.key.Area.{Area}
use Rattle.kdcs_types.specs.declared.key.ServiceId.{ServiceId}
use Rattle.kdcs_types.specs.Keys.{area_cmp, area_eq, id_eq}
use Rattle.kdcs_types.specs.KeyLaws.{area_total, id_eq_same, same_area}
use Rattle.abstract_monitor.specs.declared.answer.LockAnswer.{LockAnswer}
use Rattle.abstract_monitor.specs.declared.answer.LockAnswer.TheVariants.{Granted}
use Rattle.abstract_monitor.specs.Locks.{Locks, holder}
use Rattle.monitor_parts.specs.Asked.{freed, given_back, holder_after, locks_after, other_than, with_holder}
use Rattle.monitor_parts.specs.Index.{IsOpenTo}

abbrev Holders : Type 0
Holders = List (Area × ServiceId)

-- ---- an area is given

pub holder_given : (l : Locks) (who : ServiceId) (area a : Area) → holder (with_holder l who area) a ≡ cond (area_eq a area) (Some who) (holder l a)
holder_given l who area a = find-put area_cmp area_total a area who l.holders

after_granted : (who : ServiceId) (same : Bool) (before : Option ServiceId) → cond same (Some who) before ≡ holder_after Granted who same before
after_granted who true before = refl
after_granted who false before = refl

pub holder_after_is : (answer : LockAnswer) (l : Locks) (now : ℕ) (who : ServiceId) (area a : Area) → holder (locks_after answer l now who area) a ≡ holder_after answer who (area_eq a area) (holder l a)
holder_after_is Granted l now who area a = holder_given l who area a ∙ after_granted who (area_eq a area) (holder l a)
holder_after_is _ l now who area a = refl

-- an area that it holds already
pub own_again : (l : Locks) (who : ServiceId) (area : Area) → IsTrue (is_sorted area_cmp l.holders) → IsOpenTo l who area → (o : Option ServiceId) → o ≡ holder l area → is_some o ≡ true → l ≡ with_holder l who area
own_again l who area up free None is there = absurd (true≢false (sym there))
own_again l who area up free (Some other) is there =
    sym (
    ap (λ (hs : Holders). record l { holders = hs })
    (put_again area_cmp area_total same_area area who l.holders up (sym is ∙ ap (λ (i : ServiceId). Some i) (id_eq_same other who (free other (sym is)))))
    )

-- ---- an area is given back

pub holder_given_back : (l : Locks) (area a : Area) (held : Bool) → holder (given_back l area held) a ≡ (if held && area_eq a area then None else holder l a)
holder_given_back l area a true = find_without area_cmp area_total a area l.holders
holder_given_back l area a false = refl

-- ---- all areas of a service are given back

below_found : (a b : Area) (hs : Holders) → area_eq a b ≡ true → IsTrue (below_all area_cmp b hs) → find area_cmp a hs ≡ None
below_found a b [] same below = refl
below_found a b (h ∷ hs) same below =
    let parts = both_true (is_lt (area_cmp b h.0)) (below_all area_cmp b hs) below in
    ap (λ c. cond c (Some h.1) (find area_cmp a hs)) (ap is_eq (area_total.congr a b h.0 ((Equal-is (area_cmp a b)).0 same)) ∙ less (area_cmp b h.0) parts.0)
    ∙ below_found a b hs same parts.1
  where
    less : (r : Ordering) → is_lt r ≡ true → is_eq r ≡ false
    less Less e = refl
    less Equal e = absurd cc
    less Greater e = refl

kept_or_not : (who : ServiceId) (a : Area) (h : Area × ServiceId) (hs : Holders) (at own : Bool) → area_eq a h.0 ≡ at → id_eq h.1 who ≡ own → (at ≡ true → find area_cmp a hs ≡ None)
    → find area_cmp a (filter (λ (e : Area × ServiceId). not (id_eq e.1 who)) hs) ≡ other_than who (find area_cmp a hs)
    → find area_cmp a (cond (not own) (h ∷ filter (λ (e : Area × ServiceId). not (id_eq e.1 who)) hs) (filter (λ (e : Area × ServiceId). not (id_eq e.1 who)) hs)) ≡ other_than who (cond at (Some h.1) (find area_cmp a hs))
kept_or_not who a h hs true true e o none later = later ∙ ap (other_than who) (none refl) ∙ sym (ap (λ b. if b then None else Some h.1) o)
kept_or_not who a h hs true false e o none later =
    ap (λ b. cond b (Some h.1) (find area_cmp a (filter (λ (x : Area × ServiceId). not (id_eq x.1 who)) hs))) e ∙ sym (ap (λ b. if b then None else Some h.1) o)
kept_or_not who a h hs false true e o none later = later
kept_or_not who a h hs false false e o none later =
    ap (λ b. cond b (Some h.1) (find area_cmp a (filter (λ (x : Area × ServiceId). not (id_eq x.1 who)) hs))) e ∙ later

filtered : (who : ServiceId) (a : Area) (hs : Holders) → IsTrue (is_sorted area_cmp hs) → find area_cmp a (filter (λ (e : Area × ServiceId). not (id_eq e.1 who)) hs) ≡ other_than who (find area_cmp a hs)
filtered who a [] up = refl
filtered who a (h ∷ hs) up =
    let parts = both_true (below_all area_cmp h.0 hs) (is_sorted area_cmp hs) up in
    kept_or_not who a h hs (area_eq a h.0) (id_eq h.1 who) refl refl (λ at. below_found a h.0 hs at parts.0) (filtered who a hs parts.1)

pub holder_freed : (l : Locks) (who : ServiceId) (a : Area) → IsTrue (is_sorted area_cmp l.holders) → holder (freed l who) a ≡ other_than who (holder l a)
holder_freed l who a up = filtered who a l.holders up
