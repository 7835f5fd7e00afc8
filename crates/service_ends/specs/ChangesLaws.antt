-- What becomes of the indexes when a service opens, goes on or is over.
use Rattle.std.specs.Prelude.{◌≡◌, refl, ℕ, zero, suc, Bool, true, false, cond, not, ◌||◌, List, [], ◌∷◌, ◌++◌, map, filter, IfSome, Option, Some, None, slice_set, MatchOption, if◌then◌else◌}
use Rattle.std.specs.List.{list_any}
use Rattle.std.proofs.Common.{ap, sym, subst, ◌∙◌, true≢false}
use Rattle.std.specs.Ordering.{is_eq, ordering_reverse}
use Rattle.std.specs.Cmp.{IsTotalOrder}
use Rattle.std.specs.declared.cmp.Ordering.{Ordering}
use Rattle.std.specs.declared.cmp.Ordering.TheVariants.{Less, Equal, Greater}
use Rattle.std.specs.Cmp.{eq_by_cmp_equiv}
use Rattle.std.specs.Cmp.Lexicographic.{nat_list_cmp_total}
use Rattle.std.specs.FinMap.{find, put}
use Rattle.std.specs.FinMap.Entries.{by_order, where_key, find-put}
use Rattle.kdcs_types.specs.declared.key.Area.{Area}
use Rattle.kdcs_types.specs.declared.key.ServiceId.{ServiceId}
use Rattle.kdcs_types.specs.Keys.{id_cmp, id_eq}
use Rattle.kdcs_types.specs.KeyLaws.{id_total, same_id, id_eq_same}
use Rattle.application_types.specs.Generation.{Generated}
use Rattle.monitor_parts.specs.Asked.{holds_area, is_holder, other_than}
use Rattle.abstract_monitor.specs.Bytes.{Bytes, bytes_cmp}
use Rattle.abstract_monitor.specs.Commands.{no_place, with_session}
use Rattle.kdcs_types.specs.declared.run_state.Header.{Header}
use Rattle.kdcs_types.specs.declared.service.Service.{Service}
use Rattle.abstract_monitor.specs.Endings.{opened}
use Rattle.abstract_monitor.specs.Locks.{Active, Locks, holder, holds, touched_by}
use Rattle.abstract_monitor.specs.Picks.{Classed, class_of, current_by}
use Rattle.abstract_monitor.specs.Sessions.{in_place}
use Rattle.abstract_monitor.specs.State.{OpenTransaction, Session, State}
use Rattle.laws_of_states.specs.EntriesLaws.{found_put, other_put, found_without, other_without}
use Rattle.service_ends.specs.Schedule.{service_in, left_by}
use Rattle.service_ends.specs.Standing.{Each, HasClass, PlaceHasClass, id_of}

-- ---- lists

pub map_set : {X Y : Type 0} (f : X → Y) (xs : List X) (at : ℕ) (x : X) → map f (slice_set xs at x) ≡ slice_set (map f xs) at (f x)
map_set f [] at x = refl
map_set f (y ∷ ys) zero x = refl
map_set f (y ∷ ys) (suc at) x = ap (λ l. f y ∷ l) (map_set f ys at x)

pub map_push : {X Y : Type 0} (f : X → Y) (xs : List X) (x : X) → map f (xs ++ x ∷ []) ≡ map f xs ++ f x ∷ []
map_push f [] x = refl
map_push f (y ∷ ys) x = ap (λ l. f y ∷ l) (map_push f ys x)

pub each_put : {X : Type 0} (P : ServiceId × X → Type 0) (id : ServiceId) (x : X) (es : List (ServiceId × X)) → P (id, x) → Each P es → Each P (put id_cmp id x es)
each_put P id x [] p ps = (p, tt)
each_put P id x (e ∷ es) p ps = by (id_cmp id e.0) refl (each_put P id x es p ps.1)
  where
    by : (r : Ordering) → id_cmp id e.0 ≡ r → Each P (put id_cmp id x es) → Each P (by_order r ((id, x) ∷ e ∷ es) ((e.0, x) ∷ es) (e ∷ put id_cmp id x es))
    by Less h rest = (p, ps)
    by Equal h rest = (subst (λ (i : ServiceId). P (i, x)) (same_id id e.0 h) p, ps.1)
    by Greater h rest = (ps.0, rest)

pub each_where : {X : Type 0} (P : X → Type 0) (test : X → Bool) (xs : List X) → Each P xs → Each P (filter test xs)
each_where P test [] ps = tt
each_where P test (x ∷ xs) ps = by (test x) (each_where P test xs ps.1)
  where
    by : (b : Bool) → Each P (filter test xs) → Each P (cond b (x ∷ filter test xs) (filter test xs))
    by true rest = (ps.0, rest)
    by false rest = rest

pub each_set : {X : Type 0} (P : X → Type 0) (xs : List X) (at : ℕ) (x : X) → P x → Each P xs → Each P (slice_set xs at x)
each_set P [] at x p ps = tt
each_set P (y ∷ ys) zero x p ps = (p, ps.1)
each_set P (y ∷ ys) (suc at) x p ps = (ps.0, each_set P ys at x p ps.1)

pub each_push : {X : Type 0} (P : X → Type 0) (xs : List X) (x : X) → P x → Each P xs → Each P (xs ++ x ∷ [])
each_push P [] x p ps = (p, tt)
each_push P (y ∷ ys) x p ps = (ps.0, each_push P ys x p ps.1)

-- what is found is one of them
pub each_found : {X : Type 0} (P : ServiceId × X → Type 0) (id : ServiceId) (es : List (ServiceId × X)) → Each P es → IfSome (find id_cmp id es) (λ (x : X). P (id, x))
each_found {X = X} P id [] ps = tt
each_found {X = X} P id (e ∷ es) ps = by (id_eq id e.0) refl (each_found P id es ps.1)
  where
    by : (b : Bool) → id_eq id e.0 ≡ b → IfSome (find id_cmp id es) (λ (x : X). P (id, x)) → IfSome (cond b (Some e.1) (find id_cmp id es)) (λ (x : X). P (id, x))
    by true h rest = subst (λ (i : ServiceId). P (i, e.1)) (sym (id_eq_same id e.0 h)) ps.0
    by false h rest = rest

-- ---- classes

-- services but this one have the transactions that they had
abbrev pub OthersStay : ServiceId → (before after : Active) → Type 0
OthersStay id before after = (i : ServiceId) → id_eq i id ≡ false → find id_cmp i after ≡ find id_cmp i before

pub turned : (i j : ServiceId) → id_eq i j ≡ false → id_eq j i ≡ false
turned i j e = (eq_by_cmp_equiv id_total).symm j i ∙ e

class_stays : (g : Generated) (before after : Active) (e : Classed) → find id_cmp e.0 after ≡ find id_cmp e.0 before → HasClass g before e → HasClass g after e
class_stays g before after e same h = h ∙ ap (λ (o : Option OpenTransaction). class_of g (current_by o)) (sym same)

pub neither : (a b : Bool) → (a || b) ≡ false → (a ≡ false) × (b ≡ false)
neither true b h = absurd (true≢false h)
neither false b h = (refl, h)

module _ (g : Generated) (before after : Active) (id : ServiceId) (others : OthersStay id before after) where
  pub ready_stay : (es : List Classed) → list_any (id_eq id) (map id_of es) ≡ false → Each (HasClass g before) es → Each (HasClass g after) es
  ready_stay [] none h = tt
  ready_stay (e ∷ es) none h =
      let parts = neither (id_eq id e.0) (list_any (id_eq id) (map id_of es)) none in
      (class_stays g before after e (others e.0 (turned id e.0 parts.0)) h.0, ready_stay es parts.1 h.1)

  place_stays : (place : Option Classed) → in_place id (service_in place) ≡ false → IfSome place (HasClass g before) → IfSome place (HasClass g after)
  place_stays None none h = tt
  place_stays (Some e) none h = class_stays g before after e (others e.0 (turned id e.0 none)) h

  pub places_stay : (places : List (Option Classed)) → list_any (in_place id) (map service_in places) ≡ false
      → Each (PlaceHasClass g before) places → Each (PlaceHasClass g after) places
  places_stay [] none h = tt
  places_stay (place ∷ places) none h =
      let parts = neither (in_place id (service_in place)) (list_any (in_place id) (map service_in places)) none in
      (place_stays place parts.0 h.0, places_stay places parts.1 h.1)

-- a transaction that opens holds nothing and has done nothing
pub opened_fresh : (g : Generated) (began : Option Service) (header : Header) (unread inputs : List (List ℕ)) → ((opened g began header unread inputs).touched ≡ []) × ((opened g began header unread inputs).statements ≡ 0)
unfolding opened
opened_fresh g began header unread inputs = (refl, refl)

-- ---- a service that is withdrawn

pub ready_without : (id : ServiceId) (es : List Classed) → map id_of (filter (λ (e : Classed). not (id_eq id e.0)) es) ≡ filter (λ (i : ServiceId). not (id_eq id i)) (map id_of es)
ready_without id [] = refl
ready_without id (e ∷ es) = by (id_eq id e.0) (ready_without id es)
  where
    by : (b : Bool) → map id_of (filter (λ (e : Classed). not (id_eq id e.0)) es) ≡ filter (λ (i : ServiceId). not (id_eq id i)) (map id_of es)
        → map id_of (cond (not b) (e ∷ filter (λ (e : Classed). not (id_eq id e.0)) es) (filter (λ (e : Classed). not (id_eq id e.0)) es))
        ≡ cond (not b) (e.0 ∷ filter (λ (i : ServiceId). not (id_eq id i)) (map id_of es)) (filter (λ (i : ServiceId). not (id_eq id i)) (map id_of es))
    by true rest = rest
    by false rest = ap (λ (l : List ServiceId). e.0 ∷ l) rest

place_left : (id : ServiceId) (place : Option Classed) → service_in (left_by id place) ≡ no_place id (service_in place)
place_left id None = refl
place_left id (Some e) = by (id_eq id e.0)
  where
    by : (b : Bool) → service_in (if b then None else Some e) ≡ (if b then None else Some e.0)
    by true = refl
    by false = refl

pub places_left : (id : ServiceId) (places : List (Option Classed)) → map service_in (map (left_by id) places) ≡ map (no_place id) (map service_in places)
places_left id [] = refl
places_left id (place ∷ places) = λ i. place_left id place i ∷ places_left id places i

class_left : (g : Generated) (active : Active) (id : ServiceId) (place : Option Classed) → IfSome place (HasClass g active) → PlaceHasClass g active (left_by id place)
class_left g active id None h = tt
class_left g active id (Some e) h = by (id_eq id e.0)
  where
    by : (b : Bool) → IfSome (if b then None else Some e) (HasClass g active)
    by true = tt
    by false = h

pub classes_left : (g : Generated) (active : Active) (id : ServiceId) (places : List (Option Classed))
    → Each (PlaceHasClass g active) places → Each (PlaceHasClass g active) (map (left_by id) places)
classes_left g active id [] h = tt
classes_left g active id (place ∷ places) h = (class_left g active id place h.0, classes_left g active id places h.1)

-- ---- locks

abbrev pub SameHolds : Locks → Active → Type 0
SameHolds l active = (id : ServiceId) (area : Area) → holds_area l id area ≡ holds active id area

pub apart : (who id : ServiceId) (o : Option ServiceId) (b : Bool) → id_eq id who ≡ b → is_holder (other_than who o) id ≡ (if b then false else is_holder o id)
apart who id None true e = refl
apart who id None false e = refl
apart who id (Some other) b e = by (id_eq other who) refl b e
  where
    by : (c : Bool) → id_eq other who ≡ c → (b : Bool) → id_eq id who ≡ b → is_holder (if c then None else Some other) id ≡ (if b then false else id_eq other id)
    by true h true k = refl
    by true h false k =
        let same : other ≡ who = id_eq_same other who h in
        sym (ap (λ (o : ServiceId). id_eq o id) same ∙ turned id who k)
    by false h true k =
        let same : id ≡ who = id_eq_same id who k in
        ap (λ (i : ServiceId). id_eq other i) same ∙ h
    by false h false k = refl

-- a service that is over holds nothing, and no other area changes hands
pub freed_holds : (l m : Locks) (active : Active) (who : ServiceId) → ((area : Area) → holder m area ≡ other_than who (holder l area)) → SameHolds l active
    → SameHolds m (where_key id_cmp (λ i. not (id_eq who i)) active)
freed_holds l m active who change_jobs same id area = ap (λ o. is_holder o id) (change_jobs area) ∙ by (id_eq id who) refl
  where
    by : (b : Bool) → id_eq id who ≡ b → is_holder (other_than who (holder l area)) id ≡ holds (where_key id_cmp (λ i. not (id_eq who i)) active) id area
    by true e =
        let is : id ≡ who = id_eq_same id who e in
        apart who id (holder l area) true e
        ∙ sym (ap (λ (i : ServiceId). touched_by (find id_cmp i (where_key id_cmp (λ j. not (id_eq who j)) active)) area) is ∙ ap (λ o. touched_by o area) (found_without who active))
    by false e = apart who id (holder l area) false e ∙ same id area ∙ sym (ap (λ o. touched_by o area) (other_without id who active e))

-- a service that opens holds nothing yet
pub opened_holds : (l : Locks) (active : Active) (who : ServiceId) (x : OpenTransaction) → find id_cmp who active ≡ None → x.touched ≡ [] → SameHolds l active
    → SameHolds l (put id_cmp who x active)
opened_holds l active who x closed none same id area = by (id_eq id who) refl
  where
    by : (b : Bool) → id_eq id who ≡ b → holds_area l id area ≡ holds (put id_cmp who x active) id area
    by true e =
        let is : id ≡ who = id_eq_same id who e in
        same id area
        ∙ ap (λ (i : ServiceId). holds active i area) is ∙ ap (λ o. touched_by o area) closed
        ∙ sym (ap (λ (i : ServiceId). touched_by (find id_cmp i (put id_cmp who x active)) area) is ∙ ap (λ o. touched_by o area) (found_put who x active)
        ∙ ap (λ (t : List Area). list_any (λ held. Rattle.kdcs_types.specs.Keys.area_eq held area) t) none)
    by false e = same id area ∙ sym (ap (λ o. touched_by o area) (other_put id who x active e))

pub put_others : (id : ServiceId) (x : OpenTransaction) (active : Active) → OthersStay id active (put id_cmp id x active)
put_others id x active i e = other_put i id x active e

pub without_others : (id : ServiceId) (active : Active) → OthersStay id active (where_key id_cmp (λ i. not (id_eq id i)) active)
without_others id active i e = other_without i id active e

-- ---- sessions

itself : {K : Type 0} (R : K → K → Ordering) → IsTotalOrder R → (k : K) → R k k ≡ Equal
itself R o k = by (R k k) (o.antisymm k k)
  where
    by : (r : Ordering) → r ≡ ordering_reverse r → r ≡ Equal
    by Less e = absurd cc
    by Equal e = refl
    by Greater e = absurd cc

-- a value that is put in twice
pub put_again : {K X : Type 0} (R : K → K → Ordering) → IsTotalOrder R → (k : K) (v w : X) (es : List (K × X)) → put R k v (put R k w es) ≡ put R k v es
put_again R o k v w [] = ap (λ r. by_order r ((k, v) ∷ (k, w) ∷ []) ((k, v) ∷ []) ((k, w) ∷ put R k v [])) (itself R o k)
put_again {K = K} {X = X} R o k v w (e ∷ es) = by (R k e.0) refl (put_again R o k v w es)
  where
    by : (r : Ordering) → R k e.0 ≡ r → put R k v (put R k w es) ≡ put R k v es
        → put R k v (by_order r ((k, w) ∷ e ∷ es) ((e.0, w) ∷ es) (e ∷ put R k w es)) ≡ by_order r ((k, v) ∷ e ∷ es) ((e.0, v) ∷ es) (e ∷ put R k v es)
    by Less h rest = ap (λ r. by_order r ((k, v) ∷ (k, w) ∷ e ∷ es) ((k, v) ∷ e ∷ es) ((k, w) ∷ put R k v (e ∷ es))) (itself R o k)
    by Equal h rest = ap (λ r. by_order r ((k, v) ∷ (e.0, w) ∷ es) ((e.0, v) ∷ es) ((e.0, w) ∷ put R k v es)) h
    by Greater h rest = ap (λ r. by_order r ((k, v) ∷ e ∷ put R k w es) ((e.0, v) ∷ put R k w es) (e ∷ put R k v (put R k w es))) h ∙ ap (λ (l : List (K × X)). e ∷ l) rest

-- the first message of a session
pub first_last : (s : State) (pterm user message : Bytes) (signed after : List (Bytes × Session)) → signed ≡ put bytes_cmp pterm (record { user = user; last = None }) s.signed
    → MatchOption (find bytes_cmp pterm signed) (after ≡ signed) (λ (v : Session). after ≡ put bytes_cmp pterm (record v { last = Some message }) signed)
    → record s { signed = after } ≡ with_session s pterm user (Some message)
first_last s pterm user message signed after e h =
    let there : find bytes_cmp pterm signed ≡ Some (record { user = user; last = None }) =
    ap (find bytes_cmp pterm) e ∙ find-put bytes_cmp nat_list_cmp_total pterm pterm (record { user = user; last = None }) s.signed
    ∙ ap (λ r. cond (is_eq r) (Some (record { user = user; last = None })) (find bytes_cmp pterm s.signed)) (itself bytes_cmp nat_list_cmp_total pterm) in
    let set = subst (λ o. MatchOption o (after ≡ signed) (λ (v : Session). after ≡ put bytes_cmp pterm (record v { last = Some message }) signed)) there h in
    ap (λ (l : List (Bytes × Session)). record s { signed = l })
    (set ∙ ap (put bytes_cmp pterm (record { user = user; last = Some message })) e ∙ put_again bytes_cmp nat_list_cmp_total pterm _ _ s.signed)
