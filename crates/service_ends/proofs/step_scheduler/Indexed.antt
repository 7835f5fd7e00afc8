-- The index of the ready services by a key of theirs, as services come and go.
use Rattle.std.specs.Prelude.{◌≡◌, refl, ℕ, Bool, true, false, cond, ◌&&◌, Option, None, Some, is_some}
use Rattle.std.proofs.Common.{ap, sym, ◌∙◌}
use Rattle.std.specs.Ordering.{is_eq, eq_by_cmp, nat_cmp, ordering_then}
use Rattle.std.specs.declared.cmp.Ordering.{Ordering}
use Rattle.std.specs.declared.cmp.Ordering.TheVariants.{Less, Equal, Greater}
use Rattle.std.specs.Cmp.{IsTotalOrder, Equal-is, nat_cmp_total, tied_itself}
use Rattle.std.specs.FinMap.{find, put}
use Rattle.std.specs.FinMap.Entries.{find-put, find_tied}
use Rattle.kd_base.specs.Places.{without}
use Rattle.kd_base.specs.PlacesLaws.{find_without}
use Rattle.abstract_monitor.specs.Picks.{Classed, place_passes}
use Rattle.service_ends.specs.Arrivals.{Arrivals, passes}
use Rattle.service_ends.specs.Index.{Numbered, is_marked, mark_cmp}
use Rattle.service_ends.proofs.step_scheduler.Least.{mark_total}

pair_tied : (a b : Ordering) → is_eq (ordering_then a b) ≡ (is_eq a && is_eq b)
pair_tied Less b = refl
pair_tied Equal b = refl
pair_tied Greater b = refl

-- what has a number that ties is what has the number
at_tied : (n m : ℕ) (es : Arrivals) → eq_by_cmp nat_cmp n m ≡ true → find nat_cmp n es ≡ find nat_cmp m es
at_tied n m es tied = sym (find_tied nat_cmp nat_cmp_total n m ((Equal-is (nat_cmp n m)).0 tied) es)

-- ---- a service that comes and goes again

pub found_with : (number : ℕ) (entry : Classed) (es : Arrivals) → find nat_cmp number (put nat_cmp number entry es) ≡ Some entry
found_with number entry es =
    find-put nat_cmp nat_cmp_total number number entry es ∙ ap (λ r. cond (is_eq r) (Some entry) (find nat_cmp number es)) (tied_itself nat_cmp_total number)

module _ (number : ℕ) (entry : Classed) (es : Arrivals) (absent : find nat_cmp number es ≡ None) where
  pub restored : (n : ℕ) → find nat_cmp n (without nat_cmp number (put nat_cmp number entry es)) ≡ find nat_cmp n es
  restored n =
      find_without nat_cmp nat_cmp_total n number (put nat_cmp number entry es)
      ∙ ap (cond (eq_by_cmp nat_cmp n number) None) (find-put nat_cmp nat_cmp_total n number entry es)
      ∙ by (eq_by_cmp nat_cmp n number) refl
    where
      by : (b : Bool) → eq_by_cmp nat_cmp n number ≡ b → cond b None (cond b (Some entry) (find nat_cmp n es)) ≡ find nat_cmp n es
      by true tied = sym (at_tied n number es tied ∙ absent)
      by false apart = refl

-- ---- by one key

module _ {K : Type 0} (R : K → K → Ordering) (o : IsTotalOrder R) (key_of : Classed → K) where
  -- the service has the key
  abbrev has : K → Classed → Bool
  has key e = eq_by_cmp R key (key_of e)

  -- the numbers that a key has are those of the services that have the key
  abbrev pub IsIndex : Numbered K → Arrivals → Type 0
  IsIndex index es = (key : K) (n : ℕ) → is_marked R index key n ≡ passes (has key) es n

  pub same_index : (index : Numbered K) (es fs : Arrivals) → ((n : ℕ) → find nat_cmp n es ≡ find nat_cmp n fs) → IsIndex index es → IsIndex index fs
  same_index index es fs same h key n = h key n ∙ ap (place_passes (has key)) (same n)

  module _ (number : ℕ) (entry : Classed) (index : Numbered K) (es : Arrivals) (h : IsIndex index es) where
    pub index_with : find nat_cmp number es ≡ None → IsIndex (put (mark_cmp R) (key_of entry, number) tt index) (put nat_cmp number entry es)
    index_with absent key n =
        ap is_some (find-put (mark_cmp R) (mark_total R o) (key, n) (key_of entry, number) tt index)
        ∙ ap (λ b. is_some (cond b (Some tt) (find (mark_cmp R) (key, n) index))) (pair_tied (R key (key_of entry)) (nat_cmp n number))
        ∙ by (eq_by_cmp nat_cmp n number) refl
        ∙ sym (ap (place_passes (has key)) (find-put nat_cmp nat_cmp_total n number entry es))
      where
        yes : (x : Bool) (found : Option (Unit {0})) → is_some found ≡ false → is_some (cond (x && true) (Some tt) found) ≡ x
        yes true found none = refl
        yes false found none = none

        no : (x : Bool) (found : Option (Unit {0})) → is_some (cond (x && false) (Some tt) found) ≡ is_some found
        no true found = refl
        no false found = refl

        by : (b : Bool) → eq_by_cmp nat_cmp n number ≡ b → is_some (cond (has key entry && b) (Some tt) (find (mark_cmp R) (key, n) index)) ≡ place_passes (has key) (cond b (Some entry) (find nat_cmp n es))
        by true tied = yes (has key entry) _ (h key n ∙ ap (place_passes (has key)) (at_tied n number es tied ∙ absent))
        by false apart = no (has key entry) _ ∙ h key n

    pub index_without : find nat_cmp number es ≡ Some entry → IsIndex (without (mark_cmp R) (key_of entry, number) index) (without nat_cmp number es)
    index_without there key n =
        ap is_some (find_without (mark_cmp R) (mark_total R o) (key, n) (key_of entry, number) index)
        ∙ ap (λ b. is_some (cond b None (find (mark_cmp R) (key, n) index))) (pair_tied (R key (key_of entry)) (nat_cmp n number))
        ∙ by (eq_by_cmp nat_cmp n number) refl
        ∙ sym (ap (place_passes (has key)) (find_without nat_cmp nat_cmp_total n number es))
      where
        yes : (x : Bool) (found : Option (Unit {0})) → is_some found ≡ x → is_some (cond (x && true) None found) ≡ false
        yes true found is = refl
        yes false found is = is

        no : (x : Bool) (found : Option (Unit {0})) → is_some (cond (x && false) None found) ≡ is_some found
        no true found = refl
        no false found = refl

        by : (b : Bool) → eq_by_cmp nat_cmp n number ≡ b → is_some (cond (has key entry && b) None (find (mark_cmp R) (key, n) index)) ≡ place_passes (has key) (cond b None (find nat_cmp n es))
        by true tied = yes (has key entry) _ (h key n ∙ ap (place_passes (has key)) (at_tied n number es tied ∙ there))
        by false apart = no (has key entry) _ ∙ h key n
