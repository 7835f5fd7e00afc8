-- A chain of waits can be cut at its repeats, and is then no longer than there are waits: so following the waits finds each deadlock.
use Rattle.std.specs.Prelude.{◌≡◌, ◌≤◌, ◌↔◌, refl, ℕ, zero, suc, Bool, true, false, ◌||◌, IsTrue, List, [], ◌∷◌, Option, Some, None, length, map, is_some, option_and_then, option_map}
use Rattle.std.proofs.Common.{sym, ap, subst, ◌∙◌, true≢false, arith}
use Rattle.std.proofs.lemmas.List.{length-map}
use Rattle.std.specs.List.{list_any, IsDistinct, AllByRecursion}
use Rattle.std.specs.FinMap.{find}
use Rattle.std.specs.FinMap.Entries.{is_some-find}
use Rattle.std.specs.Cmp.{eq_by_cmp_equiv}
use Rattle.std.proofs.lemmas.Map.Made.{length-le_from_is_member}
use Rattle.kdcs_types.specs.declared.key.Area.{Area}
use Rattle.kdcs_types.specs.declared.key.ServiceId.{ServiceId}
use Rattle.kdcs_types.specs.Keys.{id_cmp, id_eq}
use Rattle.kdcs_types.specs.KeyLaws.{id_total, id_eq_same, id_eq_itself}
use Rattle.abstract_monitor.specs.Locks.{Locks, Waiting, IsChain, IsDeadlocked, WaitsFor, awaited, holder, waits_for, reaches, is_deadlocked}

-- the services that wait
abbrev waiters : Locks → List ServiceId
waiters l = map (λ (e : ServiceId × Waiting). e.0) l.waits

abbrev some_or : ServiceId → Option ServiceId → ServiceId
some_or i None = i
some_or i (Some j) = j

same_some : (i j : ServiceId) → Some i ≡ Some j → i ≡ j
same_some i j e = ap (some_or i) e

-- what is not in a list differs from all of it
apart : (id : ServiceId) (ks : List ServiceId) → list_any (id_eq id) ks ≡ false → AllByRecursion (λ y. id_eq id y ≡ false) ks
apart id [] m = tt
apart id (k ∷ ks) m = by (id_eq id k) refl m (apart id ks)
  where
    by : (b : Bool) → id_eq id k ≡ b → (b || list_any (id_eq id) ks) ≡ false → (list_any (id_eq id) ks ≡ false → AllByRecursion (λ y. id_eq id y ≡ false) ks)
        → (id_eq id k ≡ false) × AllByRecursion (λ y. id_eq id y ≡ false) ks
    by true e n later = absurd (true≢false n)
    by false e n later = (e, later n)

or_left : (a b : Bool) → a ≡ true → IsTrue (a || b)
or_left true b e = refl
or_left false b e = absurd (true≢false (sym e))

or_right : (a b : Bool) → IsTrue b → IsTrue (a || b)
or_right true b e = refl
or_right false b e = e

none_below : (n : ℕ) → suc n ≤ 0 → ⊥
none_below n h = omega arith

one_less : (n m : ℕ) → suc n ≤ suc m → n ≤ m
one_less n m h = omega arith

module _ (l : Locks) where
  waits_is : (id next : ServiceId) → WaitsFor l id next → waits_for l id ≡ Some next
  waits_is id next w = ap (option_and_then (holder l)) w.awaits ∙ w.holds

  waiting : (id next : ServiceId) → waits_for l id ≡ Some next → WaitsFor l id next
  waiting id next e = by (awaited l id) refl e
    where
      by : (o : Option Area) → awaited l id ≡ o → option_and_then (holder l) o ≡ Some next → WaitsFor l id next
      by None a t = absurd (true≢false (sym (ap is_some t)))
      by (Some area) a t = record { area = area; awaits = a; holds = t }

  has_wait : (o : Option Waiting) (next : ServiceId) → option_and_then (holder l) (option_map (λ (w : Waiting). w.0) o) ≡ Some next → is_some o ≡ true
  has_wait None next e = absurd (true≢false (sym (ap is_some e)))
  has_wait (Some w) next e = refl

  among : (id next : ServiceId) → waits_for l id ≡ Some next → list_any (id_eq id) (waiters l) ≡ true
  among id next e = sym (is_some-find id_cmp id l.waits) ∙ has_wait (find id_cmp id l.waits) next e

  module _ (asker : ServiceId) where
    -- the services on the way from one to the asker
    abbrev IsWay : ServiceId → List ServiceId → Type 0
    IsWay id [] = id ≡ asker
    IsWay id (k ∷ ks) = (k ≡ id) × ((next : ServiceId) × (waits_for l id ≡ Some next) × IsWay next ks)

    abbrev DistinctWay : ServiceId → Type 0
    DistinctWay id = (ks : List ServiceId) × IsWay id ks × IsDistinct id_eq ks

    -- the end of a way, from a service that stands on it
    cut : (id : ServiceId) (ks : List ServiceId) (at : ServiceId) → IsWay id ks → IsDistinct id_eq ks → list_any (id_eq at) ks ≡ true → DistinctWay at
    unfolding IsDistinct
    cut id [] at way distinct m = absurd (true≢false (sym m))
    cut id (k ∷ ks) at way distinct m = by (id_eq at k) refl m (cut way.1.0 ks at way.1.2 distinct.1)
      where
        by : (b : Bool) → id_eq at k ≡ b → (b || list_any (id_eq at) ks) ≡ true → (list_any (id_eq at) ks ≡ true → DistinctWay at) → DistinctWay at
        by true e n later = (k ∷ ks, subst (λ i. IsWay i (k ∷ ks)) (sym (id_eq_same at k e ∙ way.0)) way, distinct)
        by false e n later = later n

    -- each chain can be cut to one without repeats
    way_from_chain : (id : ServiceId) (rest : List ServiceId) → IsChain l asker id rest → DistinctWay id
    unfolding IsDistinct
    way_from_chain id [] e = ([], e, tt)
    way_from_chain id (next ∷ rest) c = by (way_from_chain next rest c.1)
      where
        by : DistinctWay next → DistinctWay id
        by w = on (list_any (id_eq id) w.0) refl
          where
            on : (b : Bool) → list_any (id_eq id) w.0 ≡ b → DistinctWay id
            on true m = cut next w.0 id w.1 w.2 m
            on false m = (id ∷ w.0, (refl, (next, waits_is id next c.0, w.1)), (apart id w.0 m, w.2))

    -- all services on a way wait
    members : (id : ServiceId) (ks : List ServiceId) → IsWay id ks → (q : ServiceId) → list_any (id_eq q) ks ≡ true → list_any (id_eq q) (waiters l) ≡ true
    members id [] way q m = absurd (true≢false (sym m))
    members id (k ∷ ks) way q m = by (id_eq q k) refl m (members way.1.0 ks way.1.2 q)
      where
        by : (b : Bool) → id_eq q k ≡ b → (b || list_any (id_eq q) ks) ≡ true → (list_any (id_eq q) ks ≡ true → list_any (id_eq q) (waiters l) ≡ true)
            → list_any (id_eq q) (waiters l) ≡ true
        by true e n later = subst (λ i. list_any (id_eq i) (waiters l) ≡ true) (sym (id_eq_same q k e ∙ way.0)) (among id way.1.0 way.1.1)
        by false e n later = later n

    -- so many steps are enough
    walked : (n : ℕ) (id : ServiceId) (ks : List ServiceId) → IsWay id ks → length ks ≤ n → IsTrue (reaches n l asker (Some id))
    unfolding reaches
    walked zero id [] way h = subst (λ i. IsTrue (id_eq id i)) way (id_eq_itself id)
    walked (suc n) id [] way h = or_left (id_eq id asker) (reaches n l asker (waits_for l id)) (subst (λ i. id_eq id i ≡ true) way (id_eq_itself id))
    walked zero id (k ∷ ks) way h = absurd (none_below (length ks) h)
    walked (suc n) id (k ∷ ks) way h =
        or_right (id_eq id asker) (reaches n l asker (waits_for l id))
        (subst (λ o. IsTrue (reaches n l asker o)) (sym way.1.1) (walked n way.1.0 ks way.1.2 (one_less (length ks) n h)))

    -- and what so many steps reach is the end of a chain
    chain_from_reaches : (n : ℕ) (id : ServiceId) → IsTrue (reaches n l asker (Some id)) → (rest : List ServiceId) × IsChain l asker id rest
    unfolding reaches
    chain_from_reaches zero id h = ([], id_eq_same id asker h)
    chain_from_reaches (suc n) id h = by (id_eq id asker) refl h (chain_from_reaches n)
      where
        go_on : (o : Option ServiceId) → waits_for l id ≡ o → IsTrue (reaches n l asker o)
            → ((j : ServiceId) → IsTrue (reaches n l asker (Some j)) → (rest : List ServiceId) × IsChain l asker j rest)
            → (rest : List ServiceId) × IsChain l asker id rest
        go_on None e t f = absurd (true≢false (sym t))
        go_on (Some j) e t f = let r = f j t in (j ∷ r.0, (waiting id j e, r.1))

        by : (b : Bool) → id_eq id asker ≡ b → IsTrue (b || reaches n l asker (waits_for l id))
            → ((j : ServiceId) → IsTrue (reaches n l asker (Some j)) → (rest : List ServiceId) × IsChain l asker j rest)
            → (rest : List ServiceId) × IsChain l asker id rest
        by true e t f = ([], id_eq_same id asker e)
        by false e t f = go_on (waits_for l id) refl t f

    -- a way without repeats is no longer than there are waits
    reached : (id : ServiceId) → DistinctWay id → IsTrue (is_deadlocked l asker id)
    reached id w =
        walked (length l.waits) id w.0 w.1
        (subst (λ n. length w.0 ≤ n) (length-map l.waits (λ (e : ServiceId × Waiting). e.0)) (length-le_from_is_member (eq_by_cmp_equiv id_total) w.0 (waiters l) w.2 (members id w.0 w.1)))

-- where another service holds the area, the test finds the relation, and nothing else
pub deadlocks_found : (l : Locks) (asker other : ServiceId) (area : Area) → holder l area ≡ Some other → id_eq other asker ≡ false → IsTrue (is_deadlocked l asker other) ↔ IsDeadlocked l asker area
deadlocks_found l asker other area held other_holds = (
  λ h. let r = chain_from_reaches l asker (length l.waits) other h in
      record { first = other; rest = r.0; holds = held; other = other_holds; chain = r.1 },
  λ d. let same = same_some d.first other (sym d.holds ∙ held) in
      reached l asker other (way_from_chain l asker other d.rest (subst (λ i. IsChain l asker i d.rest) same d.chain)),
)
