-- No area is touched by two open transactions, before and after a step of one service.
use Rattle.std.specs.Prelude.{◌≡◌, refl, ℕ, Bool, true, false, cond, ◌||◌, ◌⊎◌, IsTrue, List, [], ◌∷◌, ◌++◌, map, is_some, Option, Some, None}
use Rattle.std.proofs.Common.{sym, ap, ◌∙◌, subst, inl, inr, ⊎_elim, true≢false}
use Rattle.std.specs.Cmp.{eq_by_cmp_equiv}
use Rattle.std.specs.FinMap.{find, is_sorted}
use Rattle.std.specs.FinMap.Entries.{below_all}
use Rattle.std.specs.List.{list_any}
use Rattle.kd_base.specs.ToolsLaws.{both_true}
use Rattle.kdcs_types.specs.declared.key.Area.{Area}
use Rattle.kdcs_types.specs.declared.key.ServiceId.{ServiceId}
use Rattle.kdcs_types.specs.Keys.{area_cmp, area_eq, id_cmp, id_eq}
use Rattle.kdcs_types.specs.KeyLaws.{area_total, id_eq_same, id_eq_itself}
use Rattle.abstract_monitor.specs.declared.answer.LockAnswer.{LockAnswer}
use Rattle.abstract_monitor.specs.declared.answer.LockAnswer.TheVariants.{Granted}
use Rattle.abstract_monitor.specs.Calls.{touches}
use Rattle.abstract_monitor.specs.Locks.{Active, Locks, held_areas, holds, Holds, touched_by, IsExclusive, refused_by, answer_of_held, answer_by_holder, answer_of, told_now, locks_of}
use Rattle.abstract_monitor.specs.State.{OpenTransaction, State}
use Rattle.laws_of_states.specs.EntriesLaws.{none_below}
use Rattle.laws_of_states.specs.KeptLaws.{HoldsNoMore, IsGranted}

-- nobody has the area among its touched ones
abbrev pub IsFree : Active → Area → Type 0
IsFree active area = (j : ServiceId) → holds active j area ≡ false

-- ---- the holder of an area

held_first : (l : List Area) (id : ServiceId) (rest : List (Area × ServiceId)) (area : Area)
    → find area_cmp area (map (λ (a : Area). (a, id)) l ++ rest) ≡ cond (list_any (λ (held : Area). area_eq held area) l) (Some id) (find area_cmp area rest)
held_first [] id rest area = refl
held_first (a ∷ l) id rest area =
    ap (λ b. cond b (Some id) (find area_cmp area (map (λ (k : Area). (k, id)) l ++ rest))) ((eq_by_cmp_equiv area_total).symm area a)
    ∙ by (area_eq a area) (held_first l id rest area)
  where
    by : (b : Bool) → find area_cmp area (map (λ (k : Area). (k, id)) l ++ rest) ≡ cond (list_any (λ (held : Area). area_eq held area) l) (Some id) (find area_cmp area rest)
        → cond b (Some id) (find area_cmp area (map (λ (k : Area). (k, id)) l ++ rest)) ≡ cond (b || list_any (λ (held : Area). area_eq held area) l) (Some id) (find area_cmp area rest)
    by true h = refl
    by false h = h

-- the holder in a list of open transactions
abbrev pub holder_in : Active → Area → Option ServiceId
holder_in active area = find area_cmp area (held_areas active)

holder_next : (e : ServiceId × OpenTransaction) (es : Active) (area : Area) → holder_in (e ∷ es) area ≡ cond (touches e.1 area) (Some e.0) (holder_in es area)
holder_next e es area = held_first e.1.touched e.0 (held_areas es) area

-- where no holder is found the area is free
pub free_held : (active : Active) (area : Area) → holder_in active area ≡ None → IsFree active area
free_held [] area none j = refl
free_held (e ∷ es) area none j = by (touches e.1 area) refl (sym (holder_next e es area) ∙ none) (λ h. free_held es area h j)
  where
    by : (b : Bool) → touches e.1 area ≡ b → cond b (Some e.0) (holder_in es area) ≡ None → (holder_in es area ≡ None → holds es j area ≡ false) → holds (e ∷ es) j area ≡ false
    by true t h later = absurd (true≢false (ap is_some h))
    by false t h later = either (id_eq j e.0) (later h)
      where
        either : (c : Bool) → holds es j area ≡ false → touched_by (cond c (Some e.1) (find id_cmp j es)) area ≡ false
        either true g = t
        either false g = g

-- what is found as the holder holds the area
pub holder_holds : (active : Active) (area : Area) (id : ServiceId) → IsTrue (is_sorted id_cmp active) → holder_in active area ≡ Some id → holds active id area ≡ true
holder_holds [] area id sorted is = absurd (true≢false (sym (ap is_some is)))
holder_holds (e ∷ es) area id sorted is = by (touches e.1 area) refl (sym (holder_next e es area) ∙ is) (holder_holds es area id parts.1)
  where
    parts : (below_all id_cmp e.0 es ≡ true) × (is_sorted id_cmp es ≡ true)
    parts = both_true (below_all id_cmp e.0 es) (is_sorted id_cmp es) sorted

    by : (b : Bool) → touches e.1 area ≡ b → cond b (Some e.0) (holder_in es area) ≡ Some id → (holder_in es area ≡ Some id → holds es id area ≡ true) → holds (e ∷ es) id area ≡ true
    by true t h later =
        subst (λ i. holds (e ∷ es) i area ≡ true) (same_some e.0 id h) (ap (λ c. touched_by (cond c (Some e.1) (find id_cmp e.0 es)) area) (id_eq_itself e.0) ∙ t)
      where
        same_some : (i j : ServiceId) → Some i ≡ Some j → i ≡ j
        same_some i j q = cc
    by false t h later = either (id_eq id e.0) refl (later h)
      where
        either : (c : Bool) → id_eq id e.0 ≡ c → holds es id area ≡ true → touched_by (cond c (Some e.1) (find id_cmp id es)) area ≡ true
        either false q g = g
        either true q g =
            let none : find id_cmp id es ≡ None = ap (λ i. find id_cmp i es) (id_eq_same id e.0 q) ∙ none_below id_cmp e.0 es parts.0 in
            absurd (true≢false (sym g ∙ ap (λ o. touched_by o area) none))

-- ---- what the running system tells

abbrev is_granted : LockAnswer → Bool
is_granted Granted = true
is_granted _ = false

never_granted : (a b : Bool) → is_granted (refused_by a b) ≡ false
never_granted true b = refl
never_granted false true = refl
never_granted false false = refl

-- a request that is granted is for an area that nobody holds, or that the service holds
granted_by : (l : Locks) (reswait now : ℕ) (id : ServiceId) (a : Area) (o : Option ServiceId) → answer_by_holder l reswait now id a o ≡ Granted → (o ≡ None) ⊎ ((other : ServiceId) × (o ≡ Some other) × (id_eq other id ≡ true))
granted_by l reswait now id a None t = inl refl
granted_by l reswait now id a (Some other) t = by (id_eq other id) refl t
  where
    by : (b : Bool) → id_eq other id ≡ b → answer_of_held l reswait now id a other b ≡ Granted → (Some other ≡ None) ⊎ ((k : ServiceId) × (Some other ≡ Some k) × (id_eq k id ≡ true))
    by true q u = inr (other, refl, q)
    by false q u = absurd (true≢false (sym (ap is_granted u) ∙ never_granted _ _))

-- it grants only what is free, or held already
pub granted_free : (s : State) (reswait : ℕ) (id : ServiceId) (x : OpenTransaction) (of : Option Area) (area : Area)
    → IsTrue (is_sorted id_cmp s.active) → find id_cmp id s.active ≡ Some x → IsGranted (told_now (locks_of s) reswait s.tables id of) of x area → IsFree s.active area
unfolding told_now answer_of
granted_free s reswait id x None area sorted is granted = absurd (true≢false (sym (ap is_some granted.0)))
granted_free s reswait id x (Some a) area sorted is granted =
    subst
    (IsFree s.active)
    same
    (⊎_elim
    (λ none. free_held s.active a none)
    (λ (found : (other : ServiceId) × (holder_in s.active a ≡ Some other) × (id_eq other id ≡ true)). own found.0 found.1 found.2)
    (granted_by (locks_of s) reswait s.tables.clock id a (holder_in s.active a) granted.1))
  where
    same_some : (c d : Area) → Some c ≡ Some d → c ≡ d
    same_some c d q = cc

    same : a ≡ area
    same = same_some a area granted.0

    own : (other : ServiceId) → holder_in s.active a ≡ Some other → id_eq other id ≡ true → IsFree s.active a
    own other e q =
        let held : holds s.active id a ≡ true = subst (λ i. holds s.active i a ≡ true) (id_eq_same other id q) (holder_holds s.active a other sorted e) in
        absurd (true≢false (sym held ∙ ap (λ o. touched_by o a) is ∙ ap (touches x) same ∙ granted.2))

-- ---- a step of one service

-- what the service holds after a step it held before, or nobody did
abbrev pub HoldsNew : Active → ServiceId → Active → Type 0
HoldsNew active id after = (area : Area) → Holds after id area → Holds active id area ⊎ IsFree active area

pub exclusive_after : (active after : Active) (id : ServiceId) → ((i : ServiceId) → id_eq i id ≡ false → find id_cmp i after ≡ find id_cmp i active) → HoldsNew active id after → IsExclusive active → IsExclusive after
exclusive_after active after id others own exclusive i j area h k = by (id_eq i id) refl (id_eq j id) refl
  where
    before : (n : ServiceId) → id_eq n id ≡ false → Holds after n area → Holds active n area
    before n apart t = ap (λ o. touched_by o area) (sym (others n apart)) ∙ t

    -- the service and another
    both : (n : ServiceId) → Holds active n area → Holds after id area → id ≡ n
    both n t u = ⊎_elim (λ was. exclusive id n area was t) (λ free. absurd (true≢false (sym t ∙ free n))) (own area u)

    by : (b : Bool) → id_eq i id ≡ b → (c : Bool) → id_eq j id ≡ c → i ≡ j
    by true e true f = id_eq_same i id e ∙ sym (id_eq_same j id f)
    by true e false f = id_eq_same i id e ∙ both j (before j f k) (subst (λ n. Holds after n area) (id_eq_same i id e) h)
    by false e true f = sym (both i (before i e h) (subst (λ n. Holds after n area) (id_eq_same j id f) k)) ∙ sym (id_eq_same j id f)
    by false e false f = exclusive i j area (before i e h) (before j f k)

-- with no open transaction, with a new one, with one that holds the same, and after a statement
pub closed_holds : (active after : Active) (id : ServiceId) → find id_cmp id after ≡ None → HoldsNew active id after
closed_holds active after id none area h = absurd (true≢false (sym h ∙ ap (λ o. touched_by o area) none))

pub new_holds : (active after : Active) (id : ServiceId) (y : OpenTransaction) → find id_cmp id after ≡ Some y → y.touched ≡ [] → HoldsNew active id after
new_holds active after id y is nothing area h =
    absurd (true≢false (sym h ∙ ap (λ o. touched_by o area) is ∙ ap (list_any (λ (held : Area). area_eq held area)) nothing))

pub same_holds : (active after : Active) (id : ServiceId) (x y : OpenTransaction) → find id_cmp id active ≡ Some x → find id_cmp id after ≡ Some y → y.touched ≡ x.touched → HoldsNew active id after
same_holds active after id x y was is same area h =
    inl (ap (λ o. touched_by o area) was ∙ ap (list_any (λ (held : Area). area_eq held area)) (sym same) ∙ ap (λ o. touched_by o area) (sym is) ∙ h)

pub statement_holds : (s : State) (reswait : ℕ) (after : Active) (id : ServiceId) (x y : OpenTransaction) (of : Option Area) → IsTrue (is_sorted id_cmp s.active)
    → find id_cmp id s.active ≡ Some x → find id_cmp id after ≡ Some y → HoldsNoMore (told_now (locks_of s) reswait s.tables id of) of x y → HoldsNew s.active id after
statement_holds s reswait after id x y of sorted was is more area h =
    ⊎_elim
    (λ kept. inl (ap (λ o. touched_by o area) was ∙ kept))
    (λ granted. inr (granted_free s reswait id x of area sorted was granted))
    (more area (ap (λ o. touched_by o area) (sym is) ∙ h))
