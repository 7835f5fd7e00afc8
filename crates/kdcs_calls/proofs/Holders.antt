-- After a call the service holds what its transaction touches, and no other area changes hands.
use Rattle.std.specs.Prelude.{◌≡◌, refl, ℕ, Bool, true, false, cond, ◌&&◌, ◌||◌, not, List, [], ◌∷◌, filter, Option, Some, None, is_some, if◌then◌else◌}
use Rattle.std.proofs.Common.{ap, sym, subst, ◌∙◌, true≢false}
use Rattle.std.proofs.lemmas.List.Folds.{list_any-append}
use Rattle.std.proofs.lemmas.Map.Views.{any-filter_same}
use Rattle.std.specs.declared.cmp.Ordering.TheVariants.{Equal}
use Rattle.std.specs.FinMap.{find}
use Rattle.std.specs.FinMap.Entries.{find-put, find-where_key}
use Rattle.std.specs.List.{list_any}
use Rattle.kdcs_types.specs.declared.call.Code.TheVariants.{K04, K05}
use Rattle.kdcs_types.specs.declared.key.Area.{Area}
use Rattle.kdcs_types.specs.declared.key.ServiceId.{ServiceId}
use Rattle.kdcs_types.specs.KeyLaws.{area_total, same_area, area_eq_same, area_eq_sym}
use Rattle.kdcs_types.specs.Keys.{area_cmp, area_eq}
use Rattle.kdcs_types.specs.Tables.{TableRows}
use Rattle.application_types.specs.Generation.{Generated}
use Rattle.monitor_parts.specs.Asked.{asked, given_back, holds_area, is_holder, locks_after, other_than, with_holder, without_holder, without_wait, unlocked as unlocked_locks}
use Rattle.abstract_monitor.specs.declared.answer.LockAnswer.{LockAnswer}
use Rattle.abstract_monitor.specs.declared.answer.LockAnswer.TheVariants.{Granted, Wait, Busy, Deadlock}
use Rattle.abstract_monitor.specs.Calls.{Told, Performed, locked, noted, on_answer, touches, touching, unlocked, unlocked_by}
use Rattle.abstract_monitor.specs.Locks.{Locks, answer_of, holder}
use Rattle.abstract_monitor.specs.State.{OpenTransaction as Transaction}
use Rattle.kdcs_calls.specs.Calling.{HoldersMatch, HoldsJust, holder_then, may_release}
use Rattle.kdcs_calls.specs.HoldingLaws.{kept, quiet_matches}
use Rattle.kdcs_calls.specs.Parts.{told_of}
use Rattle.kdcs_calls.proofs.Locking.{same_answer}

-- the transaction that a call leaves touches the same areas
abbrev pub IsQuiet : Transaction → Performed → Type 0
IsQuiet x p = p.0.touched ≡ x.touched

or_true : (b : Bool) → (b || true) ≡ true
or_true true = refl
or_true false = refl

or_false : (b : Bool) → (b || false) ≡ b
or_false true = refl
or_false false = refl

module _ (l : Locks) (id : ServiceId) (x : Transaction) (h : HoldsJust l id x) where
  -- ---- a request

  module _ (area : Area) where
    touched_then : (held : Bool) → touches x area ≡ held → (a : Area) (same : Bool) → area_eq a area ≡ same → touches (touching x area held) a ≡ (same || touches x a)
    touched_then true held a true same = ap (touches x) (area_eq_same a area same) ∙ held
    touched_then true held a false same = refl
    touched_then false held a same e =
        list_any-append (λ (k : Area). area_eq k a) x.touched (area ∷ [])
        ∙ ap (λ (b : Bool). touches x a || (b || false)) (area_eq_sym area a ∙ e)
        ∙ by same (touches x a)
      where
        by : (s t : Bool) → (t || (s || false)) ≡ (s || t)
        by true t = or_true t
        by false t = or_false t

    granted_matches : (y : Transaction) → y.touched ≡ (touching x area (touches x area)).touched → HoldersMatch l (without_wait (with_holder l id area) id) id y
    granted_matches y e a =
        find-put area_cmp area_total a area id l.holders
        ∙ by (area_eq a area) (kept l id x h a)
        ∙ ap (λ (b : Bool). if b then Some id else other_than id (holder l a)) (sym (touched_then (touches x area) refl a (area_eq a area) refl))
        ∙ ap (λ (held : List Area). if list_any (λ (k : Area). area_eq k a) held then Some id else other_than id (holder l a)) (sym e)
      where
        by : (same : Bool) → holder l a ≡ holder_then id x a (holder l a) → cond same (Some id) (holder l a) ≡ (if same || touches x a then Some id else other_than id (holder l a))
        by true k = refl
        by false k = k

    answer_matches : (now : ℕ) (go : Transaction → Performed) → ((y : Transaction) → IsQuiet y (go y)) → (answer : LockAnswer) → HoldersMatch l (locks_after answer l now id area) id (on_answer x area answer go).0
    answer_matches now go still Granted = granted_matches (go (touching x area (touches x area))).0 (still (touching x area (touches x area)))
    answer_matches now go still Wait = quiet_matches l id x h x refl
    answer_matches now go still Busy = quiet_matches l id x h (noted x area K04) refl
    answer_matches now go still Deadlock = quiet_matches l id x h (noted x area K05) refl

    pub locked_matches : (g : Generated) (t : TableRows) (go : Transaction → Performed) → ((y : Transaction) → IsQuiet y (go y)) → HoldersMatch l (asked l g.limits.reswait t.clock id area) id (locked (told_of g t l id area) x area go).0
    locked_matches g t go still =
        subst (λ (a : LockAnswer). HoldersMatch l (asked l g.limits.reswait t.clock id area) id (on_answer x area a go).0)
        (sym (same_answer g t l id x area h))
        (answer_matches t.clock go still (answer_of l g.limits.reswait t.clock id area))

    -- ---- UNLK

    abbrev without : List Area → List Area
    without touched = filter (λ (held : Area). not (area_eq held area)) touched

    without_is : (a : Area) → list_any (λ (k : Area). area_eq k a) (without x.touched) ≡ (not (area_eq area a) && touches x a)
    without_is a =
        any-filter_same (λ (k : Area). area_eq k a) (λ (k : Area). not (area_eq k area)) (not (area_eq area a))
        (λ k same. ap (λ (i : Area). not (area_eq i area)) (area_eq_same k a same) ∙ ap not (area_eq_sym a area)) x.touched

    none_else : (o : Option ServiceId) → is_holder o id ≡ true → None ≡ other_than id o
    none_else None e = absurd (true≢false (sym e))
    none_else (Some other) e = sym (ap (λ (b : Bool). if b then None else Some other) e)

    released_matches : (y : Transaction) → y.touched ≡ without x.touched → touches x area ≡ true → HoldersMatch l (unlocked_locks l id area) id y
    released_matches y e held =
        subst (λ (b : Bool). HoldersMatch l (given_back l area b) id y) (sym (h area ∙ held)) left
      where
        alike : (a k : Area) → area_cmp a k ≡ Equal → not (area_eq area k) ≡ not (area_eq area a)
        alike a k same = ap (λ (i : Area). not (area_eq area i)) (sym (same_area a k same))

        by : (a : Area) (same : Bool) → area_eq area a ≡ same → cond (not same) (holder l a) None ≡ (if not same && touches x a then Some id else other_than id (holder l a))
        by a true same = none_else (holder l a) (ap (λ (i : Area). holds_area l id i) (sym (area_eq_same area a same)) ∙ h area ∙ held)
        by a false same = kept l id x h a

        left : HoldersMatch l (without_holder l area) id y
        left a =
            find-where_key area_cmp (λ (k : Area). not (area_eq area k)) a (alike a) l.holders
            ∙ by a (area_eq area a) refl
            ∙ ap (λ (b : Bool). if b then Some id else other_than id (holder l a)) (sym (without_is a))
            ∙ ap (λ (kept_areas : List Area). if list_any (λ (k : Area). area_eq k a) kept_areas then Some id else other_than id (holder l a)) (sym e)

    pub unlocked_matches : (v : Told) → HoldersMatch l (if may_release x area then unlocked_locks l id area else l) id (unlocked v x area).0
    unlocked_matches v = by (touches x area) (is_some (find area_cmp area x.written)) refl
      where
        by : (held written : Bool) → touches x area ≡ held → HoldersMatch l (if held && not written then unlocked_locks l id area else l) id (unlocked_by v x area held written).0
        by true true e = quiet_matches l id x h x refl
        by true false e = released_matches (unlocked_by v x area true false).0 refl e
        by false true e = quiet_matches l id x h x refl
        by false false e = quiet_matches l id x h x refl
